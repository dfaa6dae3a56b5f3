-- What the last search for new entries saw: the gaps.
use Prim.Native.Nat.{ℕ, ◌+◌, ◌-◌, ◌%◌, ◌≤◌, ◌<◌}
use mathlib.Core.Path.{◌≡◌, refl, sym, ◌∙◌, ap, subst}
use mathlib.Core.Bool.{Bool, true, false, false≢true, not, ◌&&◌, ◌||◌}
use mathlib.Core.List.{List, [], ◌∷◌, ◌++◌}
use mathlib.Core.Logic.{inl, inr}
use mathlib.Core.Option.{some}
use native.Mathlib.Omega.{arith}
use lib.Dec.{ltb, leb, eqb}
use borrow.Author.Tests.{leb-true, leb-false, ltb-true, ltb-false, eqb-true, eqb-false, not-false, le-leb, lt-ltb, eq-eqb, ne_eqb}
use Rattle.rules.specs.Choice.{if, by_if, if_true, any}
use Rattle.rules.specs.Loop.{Holds, good, none, bind_holds, if_holds, both, run, run_keeps}
use Rattle.rules.specs.Ordered.{self, first, Rising, Above}
use Rattle.rules.specs.Address.{key, address_of}
use Rattle.rules.specs.Image
use Rattle.rules.specs.Image.{Range}
use Rattle.rules.specs.Blocks.{last_end}
use Rattle.rules.specs.Slices.{Slices}
use Rattle.rules.specs.Known.{Entry, entry_of, new_entry, is_unfinalized, is_function, is_some}
use Rattle.rules.specs.Map
use Rattle.rules.specs.Map.{Capacity}
use Rattle.rules.specs.Accounted.{code_first, code_past, next_entry, is_gap_word, Function, Counted, function, aside, AllCounted, AllWords}
use Rattle.rules.proofs.Tidy.{last_end_low}
use Rattle.rules.proofs.Linked.{linked_apart}
use Rattle.rules.proofs.Settled.{Owned, owned_end}
use Rattle.rules.proofs.Placed.{Checked, Placed, State, fresh, bare, filled, skip_range_even}
use Rattle.rules.proofs.Rows.{All, all_map, all_append, Among, among_above, above_all}
use Rattle.rules.proofs.Tests.{and_left, and_right, or_left, or_right, and_false, and_both}
use Rattle.rules.proofs.SkipsEnd.{past_range_on}

no_function : (x : Entry) → x.end ≡ 0 → is_function x ≡ false
no_function x e = by x.analyzed (is_some x.slices) (eqb x.end 0) (eq-eqb _ _ e)
  where
    by : (a s z : Bool) → z ≡ true → (a && not z && s) ≡ false
    by true s true h = refl
    by false s true h = refl
    by a s false h = absurd (false≢true h)

nonzero : (x : Entry) → x.entry < x.end → not (eqb x.end 0) ≡ true
nonzero x h = ap not (ne_eqb x.end 0 (λ (z : x.end ≡ 0). omega arith))

abbrev pub IsWalked : Entry → Type 0
IsWalked x = x.analyzed ≡ true

-- an address of a section from an end up to the next entry, with the section's number
within_key : (n low high entry end after a : ℕ) → key n low ≤ entry → entry < end → end ≤ after → after ≤ key n high → high ≤ 0xF000_0000 → address_of end ≤ a → a < address_of after → (entry < key n a) × (key n a < after)
within_key n low high entry end after a h1 h2 h3 h4 h5 h6 h7 = (omega arith, omega arith)

module _ (im : Image.Image) (checked : Checked im) (cap : Capacity) where
  -- a word at an address of 32 bits that is zero or skipped
  record Quiet (w : ℕ) : Type 0 where
    quiet : (eqb (Image.word im w) 0 || Image.in_skipped_range im w) ≡ true

  -- over one skip range: every word up to there is skipped
  past_skips : (a w : ℕ) (rs : List Range) → a ≤ w → w < Map.past_range im cap a rs → any (Image.in_range w) rs ≡ true
  unfolding if
  past_skips a w [] h l = absurd (omega arith)
  past_skips a w (r ∷ rs) h l = by (Image.in_range a r) refl (Image.in_range w r) refl (past_skips a w rs h) l
    where
      by : (b : Bool) → Image.in_range a r ≡ b → (c : Bool) → Image.in_range w r ≡ c → (w < Map.past_range im cap a rs → any (Image.in_range w) rs ≡ true) → w < if b r.past (Map.past_range im cap a rs) → if c true (any (Image.in_range w) rs) ≡ true
      by b p true q f l = refl
      by true p false q f l =
          let s = leb-true r.first a (and_left _ _ p) in
          absurd (false≢true (sym q ∙ and_both (leb r.first w) (ltb w r.past) (le-leb r.first w (omega arith)) (lt-ltb w r.past l)))
      by false p false q f l = f l

  range_quiet : (a w : ℕ) → a ≤ w → w < Map.skip_range im cap a → Quiet w
  unfolding Map.skip_range Image.in_skipped_range
  range_quiet a w h l = record { quiet = or_right (eqb (Image.word im w) 0) _ (past_skips a w im.skips h l) }

  -- what the loop over padding has passed
  record Padded (a c : ℕ) : Type 0 where
    even : c % 4 ≡ 0
    quiet : (w : ℕ) → w % 4 ≡ 0 → a ≤ w → w < c → Quiet w

  step_padded : (a end c : ℕ) → Map.is_padding im cap end c ≡ true → Padded a c → Padded a (Map.skip_zero im cap c)
  unfolding Map.is_padding Map.skip_zero
  step_padded a end c h p =
      let y = skip_range_even im checked cap false c p.even in
      record { even = omega arith; quiet = λ w e l r. by w e l r (ltb w c) refl (ltb w (Map.skip_range im cap c)) refl }
    where
      by : (w : ℕ) → w % 4 ≡ 0 → a ≤ w → w < Map.skip_range im cap c + 4 → (b : Bool) → ltb w c ≡ b → (d : Bool) → ltb w (Map.skip_range im cap c) ≡ d → Quiet w
      by w e l r true p1 d p2 = p.quiet w e l (ltb-true _ _ p1)
      by w e l r false p1 true p2 = range_quiet c w (ltb-false _ _ p1) (ltb-true _ _ p2)
      by w e l r false p1 false p2 =
          let y = skip_range_even im checked cap false c p.even in
          let g = ltb-false w (Map.skip_range im cap c) p2 in
          let q : Map.skip_range im cap c ≡ w = omega arith in
          record { quiet = or_left _ (Image.in_skipped_range im w) (subst (λ v. eqb (Image.word im v) 0 ≡ true) q (and_right (leb (Map.skip_range im cap c + 4) end) _ h)) }

  -- where the search finds nothing, every word up to the end is zero or skipped
  alignment_quiet : (a end w : ℕ) → a % 4 ≡ 0 → end % 4 ≡ 0 → end ≤ Map.skip_alignment im cap a end → w % 4 ≡ 0 → a ≤ w → w < end → Quiet w
  unfolding Map.skip_alignment
  alignment_quiet a end w h l s e m n = by (leb (Map.skip_range im cap c + 4) end) refl (ltb w c) refl (ltb w (Map.skip_range im cap c)) refl
    where
      c : ℕ
      c = run (Map.is_padding im cap end) (Map.skip_zero im cap) (λ x. end - x) a

      p : Padded a c
      p = run_keeps (Map.is_padding im cap end) (Map.skip_zero im cap) (λ x. end - x) (Padded a) (λ x q z. step_padded a end x q z) a (record { even = h; quiet = λ w e l r. absurd (omega arith) })

      by : (b : Bool) → leb (Map.skip_range im cap c + 4) end ≡ b → (d : Bool) → ltb w c ≡ d → (f : Bool) → ltb w (Map.skip_range im cap c) ≡ f → Quiet w
      by true q d r f t =
          let z : end ≤ Map.skip_range im cap c = subst (λ n. end ≤ n) (if_true q (Map.skip_range im cap c) end) s in
          let y = leb-true (Map.skip_range im cap c + 4) end q in
          absurd (omega arith)
      by false q true r f t = p.quiet w e m (ltb-true _ _ r)
      by false q false r true t = range_quiet c w (ltb-false _ _ r) (ltb-true _ _ t)
      by false q false r false t =
          let y = leb-false (Map.skip_range im cap c + 4) end q in
          let g = ltb-false w (Map.skip_range im cap c) t in
          absurd (omega arith)

  -- the search goes on from where it begins
  alignment_on : (a end : ℕ) → a ≤ end → a ≤ Map.skip_alignment im cap a end
  unfolding Map.skip_alignment Map.skip_zero Map.skip_range
  alignment_on a end h =
      by_if (λ n. a ≤ n) _
      (λ _. let p = run_keeps (Map.is_padding im cap end) (Map.skip_zero im cap) (λ x. end - x) (λ n. a ≤ n) (λ x _ q. omega (arith, past_range_on im cap x im.skips)) a (omega arith) in
      omega (arith, past_range_on im cap (run (Map.is_padding im cap end) (Map.skip_zero im cap) (λ x. end - x) a) im.skips)) (λ _. h)

  -- ---- the entries one by one, as the search saw them

  record Bounds (x : Entry) (after : ℕ) : Type 0 where
    low : code_first im ≤ x.entry
    next : x.entry < after
    high : after ≤ code_past im
    even : after % 4 ≡ 0

  abbrev Within : ℕ → ℕ → ℕ → Type 0
  Within a b k = (a < k) × (k < b)

  module _ (x : Entry) (after : ℕ) (placed : Placed im false x) (walked : x.analyzed ≡ true) (bounds : Bounds x after) where
    -- what is found behind x lies before the next entry; where nothing is, x is counted
    record Behind (l : List ℕ) : Type 0 where
      within : All (Within x.entry after) l
      counted : is_unfinalized x ≡ false → l ≡ [] → Counted im x after

    -- an entry with an end has lists that end there
    record Whole (s : Slices) : Type 0 where
      has : x.slices ≡ some s
      owned : Owned im x.entry s
      last : x.end ≡ last_end s.blocks
      above : x.entry < x.end

    whole_of : {C : Type 0} → (x.end ≡ 0 → ⊥) → State im false x → ((s : Slices) → Whole s → C) → C
    whole_of n (fresh a q) f = absurd (false≢true (sym a ∙ walked))
    whole_of n (bare e q) f = absurd (n e)
    whole_of n (filled s a q o (inl z) h) f = absurd (n z)
    whole_of n (filled s a q o (inr z) h) f = f s (record { has = q; owned = o; last = z; above = rw z (owned_end im x.entry s o (λ y. n (z ∙ y))) })

    aside_of : x.end ≡ 0 → State im false x → is_unfinalized x ≡ false → Counted im x after
    aside_of e (fresh a q) u = absurd (false≢true (sym a ∙ walked))
    aside_of e (bare z q) u = aside (record { not_found = no_function x e; without = q; endless = e })
    aside_of e (filled s a q o l h) u = absurd (false≢true (sym u ∙ and_both _ _ (and_both _ _ a (eq-eqb _ _ e)) (rw q refl)))

    gap_of : (s : Slices) → Whole s → x.end ≤ after → address_of after ≤ Map.skip_alignment im cap (address_of x.end) (address_of after) → Function im x after
    unfolding is_gap_word
    gap_of s w b q =
        let e : x.end % 4 ≡ 0 = placed.whole in
        let l : x.entry < x.end = w.above in
        record {
          found = and_both _ _ (and_both _ _ walked (nonzero x l)) (rw w.has refl);
          lists = s;
          has = w.has;
          last = w.last;
          above = l;
          below = b;
          even = e;
          apart = λ i. linked_apart s.blocks w.owned.tidy.rising (w.owned.linked i);
          gap = λ k v m n. (alignment_quiet (address_of x.end) (address_of after) (address_of k) (omega arith) (omega (arith, bounds.even)) q (omega arith)
              (omega (arith, bounds.low, bounds.high, checked.sound.fits)) (omega (arith, bounds.low, bounds.high, checked.sound.fits))).quiet;
        }

    found_behind : (s : Slices) → Whole s → x.end ≤ after → Behind (Map.new_between im cap x.end after)
    unfolding Map.new_between
    found_behind s w b =
        by_if Behind (ltb a (address_of after)) {x = key (Image.code_number im) a ∷ []} {y = []}
        (λ e. let l : a < address_of after = ltb-true _ _ e in
        let g : address_of x.end ≤ a = alignment_on (address_of x.end) (address_of after) (omega (arith, w.above, bounds.low, bounds.high, checked.sound.fits)) in
        record {
          within = (within_key (Image.code_number im) (Image.code_section im).base ((Image.code_section im).base + (Image.code_section im).size) x.entry x.end after a bounds.low w.above b bounds.high checked.sound.fits g l, tt);
          counted = λ _ z. absurd (some_none z);
        })
        (λ e. record { within = tt; counted = λ _ _. function (gap_of s w b (ltb-false _ _ e)) })
      where
        a : ℕ
        a = Map.skip_alignment im cap (address_of x.end) (address_of after)

        some_none : {k : ℕ} {l : List ℕ} → k ∷ l ≡ [] → ⊥
        some_none z = let y : ◌≡◌ {A = ℕ} 0 1 = cc in omega arith

    end_below : (s : Slices) → Whole s → (not (eqb after (Map.section_end im cap)) && ltb after x.end) ≡ false → x.end ≤ after
    unfolding Map.section_end
    end_below s w h =
        and_false (not (eqb after (code_past im))) (ltb after x.end) h
        (λ q. let z = eqb-true after (code_past im) (not-false _ q) in omega (arith, w.last, last_end_low im s.blocks w.owned.tidy))
        (λ q. ltb-false after x.end q)

    behind : Holds Behind (Map.found_behind im cap x after)
    unfolding Map.found_behind
    behind =
        if_holds (λ h. good (record { within = tt; counted = λ u _. aside_of (eqb-true _ _ h) placed.state u }))
        (λ n. whole_of (eqb-false _ _ n) placed.state
        (λ s w. if_holds (λ _. none) (λ h. good (found_behind s w (end_below s w h)))))

  -- what a search over walked entries finds: no entry, each but once; where it finds nothing, all are counted
  pub record Search (es : List Entry) (ks : List ℕ) : Type 0 where
    pub rising : Rising self ks
    pub new : All (λ k. Among entry_of k es → ⊥) ks
    pub above : All (λ k. next_entry im es < k) ks
    pub counted : any is_unfinalized es ≡ false → ks ≡ [] → AllCounted im es

  after_next : (es : List Entry) → (first (new_entry (Map.section_end im cap)) es).entry ≡ next_entry im es
  unfolding Map.section_end
  after_next [] = refl
  after_next (x ∷ es) = refl

  not_below : (es : List Entry) (k : ℕ) → Rising entry_of es → k < next_entry im es → Among entry_of k es → ⊥
  not_below [] k s l m = m
  not_below (y ∷ es) k s l (inl e) = omega arith
  not_below (y ∷ es) k s l (inr m) = let q = among_above entry_of k y es s.0 s.1 m in omega arith

  module _ (x : Entry) (es : List Entry) (rising : Rising entry_of (x ∷ es)) where
    -- what lies before the next entry is none of the entries
    near_new : (next : x.entry < next_entry im es) (l : List ℕ) → All (Within x.entry (next_entry im es)) l → All (λ k. Among entry_of k (x ∷ es) → ⊥) l
    near_new n [] p = tt
    near_new n (k ∷ l) p = (no, near_new n l p.1)
      where
        no : Among entry_of k (x ∷ es) → ⊥
        no (inl e) = let z : x.entry < k = p.0.0 in omega arith
        no (inr m) = not_below es k rising.1 p.0.1 m

    -- what is found further on is above x
    far_new : (next : x.entry < next_entry im es) (ks : List ℕ) → All (λ k. next_entry im es < k) ks → All (λ k. Among entry_of k es → ⊥) ks → All (λ k. Among entry_of k (x ∷ es) → ⊥) ks
    far_new n [] a p = tt
    far_new n (k ∷ ks) a p = (no, far_new n ks a.1 p.1)
      where
        no : Among entry_of k (x ∷ es) → ⊥
        no (inl e) = let z : next_entry im es < k = a.0 in omega arith
        no (inr m) = p.0 m

  module _ (x after : ℕ) (next : x < after) where
    joined_rising : (l ks : List ℕ) → Rising self l → All (Within x after) l → All (λ k. after < k) ks → Rising self ks → Rising self (l ++ ks)
    joined_rising [] ks r p a s = s
    joined_rising (k ∷ l) ks r p a s = (first_above l r.0 p.0.1, joined_rising l ks r.1 p.1 a s)
      where
        first_above : (l : List ℕ) → Above self k l → k < after → Above self k (l ++ ks)
        first_above [] q h = above_all k ks (all_map ks (λ j (b : after < j). let z : k < j = omega arith in z) a)
        first_above (j ∷ l) q h = q

    joined_above : (l ks : List ℕ) → All (Within x after) l → All (λ k. after < k) ks → All (λ k. x < k) (l ++ ks)
    joined_above l ks p a =
        all_append (λ k. x < k) l ks (all_map l (λ k (q : Within x after k). q.0) p) (all_map ks (λ k (b : after < k). let z : x < k = omega arith in z) a)

  append_none : (l ks : List ℕ) → l ++ ks ≡ [] → (l ≡ []) × (ks ≡ [])
  append_none [] ks z = (refl, z)
  append_none (k ∷ l) ks z = let y : ◌≡◌ {A = ℕ} 0 1 = cc in absurd (omega arith)

  one_rises : (x : Entry) (after : ℕ) → Holds (λ l. Rising self l) (Map.found_behind im cap x after)
  unfolding Map.found_behind Map.new_between
  one_rises x after =
      if_holds (λ _. good tt) (λ _. if_holds (λ _. none) (λ _. good (by_if (Rising self) (ltb (Map.skip_alignment im cap (address_of x.end) (address_of after)) (address_of after)) (λ _. (tt, tt)) (λ _. tt))))

  any_none : (b c : Bool) → if b true c ≡ false → (b ≡ false) × (c ≡ false)
  unfolding if
  any_none true c h = absurd (false≢true (sym h))
  any_none false c h = (refl, h)

  pub search : (es : List Entry) → Rising entry_of es → All (Placed im false) es → All IsWalked es → AllWords im es → Holds (Search es) (Map.new_functions im cap es)
  search [] r p d w = good (record { rising = tt; new = tt; above = tt; counted = λ _ _. tt })
  search (x ∷ es) r p d w =
      let b = bounds es w.1 r.0 in
      rw (after_next es)
      (bind_holds (both (behind x (next_entry im es) p.0 d.0 b) (one_rises x (next_entry im es)))
      (λ l q. bind_holds (search es r.1 p.1 d.1 w.1)
      (λ ks z. good (record {
        rising = joined_rising x.entry (next_entry im es) b.next l ks q.1 q.0.within z.above z.rising;
        new = all_append _ l ks (near_new x es r b.next l q.0.within) (far_new x es r b.next ks z.above z.new);
        above = joined_above x.entry (next_entry im es) b.next l ks q.0.within z.above;
        counted = λ u n. let v = any_none _ _ u in let m = append_none l ks n in (q.0.counted v.0 m.0, z.counted v.1 m.1);
      }))))
    where
      bounds : (fs : List Entry) → AllWords im fs → Above entry_of x.entry fs → Bounds x (next_entry im fs)
      bounds [] v a = record { low = w.0.low; next = w.0.high; high = omega arith; even = omega (arith, checked.sound.aligned, checked.sound.based) }
      bounds (y ∷ fs) v a = record { low = w.0.low; next = a; high = omega (arith, v.0.high); even = v.0.even }
