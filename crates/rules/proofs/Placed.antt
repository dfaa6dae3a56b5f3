-- What each entry keeps through the whole run: where it lies, and whose lists it has.
use Prim.Native.Nat.{ℕ, ◌+◌, ◌-◌, ◌%◌, ◌≤◌}
use mathlib.Core.Path.{◌≡◌, refl, sym, ◌∙◌, subst}
use mathlib.Core.Bool.{Bool, true, false, false≢true}
use mathlib.Core.List.{List, [], ◌∷◌}
use mathlib.Core.Logic.{◌⊎◌, inl, inr}
use mathlib.Core.Option.{Option, none as nothing, some}
use native.Mathlib.Omega.{arith}
use lib.Dec.{ltb, leb}
use borrow.Author.Tests.{leb-true, ltb-true, eqb-true, eqb-false, le-ltb, lt-ltb}
use Rattle.rules.specs.Choice.{if, by_if, any, filter, Answer}
use Rattle.rules.specs.Loop.{Holds, good, none, bind_holds, map_holds, if_holds, both, run_keeps}
use Rattle.rules.specs.Ordered.{put, has, upper, first, Rising}
use Rattle.rules.specs.Address.{key, address_of, section_of}
use Rattle.rules.specs.Image
use Rattle.rules.specs.Image.{Symbol, Range}
use Rattle.rules.specs.Blocks.{is_open, first_start, last_end}
use Rattle.rules.specs.Slices as Lists
use Rattle.rules.specs.Slices.{Slices}
use Rattle.rules.specs.Known.{Entry, entry_of, new_entry, end_of_entry, is_unfinalized}
use Rattle.rules.specs.Step.{Around}
use Rattle.rules.specs.Analyze
use Rattle.rules.specs.Settle.{settling}
use Rattle.rules.specs.Map
use Rattle.rules.specs.Map.{Capacity, Round, round}
use Rattle.rules.specs.Accounted.{code_first, CodeWord}
use Rattle.rules.proofs.Sizes
use Rattle.rules.proofs.WalkEnds.{Sound}
use Rattle.rules.proofs.Keeps.{Aimed}
use Rattle.rules.proofs.Tidy.{bottom, last_end_low, Aligned, Framed}
use Rattle.rules.proofs.Starts.{analyze_lies, analyze_closed}
use Rattle.rules.proofs.Settled.{Owned, end_even, front, finalize_final, analyze_owned, settle_all_owned}
use Rattle.rules.proofs.RoundsEnd.{finalize_ends, Ends}
use Rattle.rules.proofs.Rows.{All, all_map, all_append, all_put, upper_holds, Among, among_put, among_self, has_among, among_above, upper_at, among_has}
use Rattle.rules.proofs.Tests.{and_left, and_right}
use Rattle.rules.proofs.Ordered.{put_rising}

-- what checks 1 to 3 give, as far as demand 3 asks for it
pub record SymbolFits (f : Symbol) : Type 0 where
  pub even : f.address % 4 ≡ 0
  pub whole : f.size % 4 ≡ 0
  pub fits : f.address + f.size ≤ 0xFFFF_FFFF

pub record Checked (im : Image.Image) : Type 0 where
  pub sound : Sound im
  pub aimed : Aimed im
  pub symbols : All SymbolFits im.functions
  pub skips : All (λ (r : Range). r.past % 4 ≡ 0) im.skips
  pub entry_even : im.entry % 4 ≡ 0
  pub entry_code : (im.entry ≡ 0 → ⊥) → section_of im.entry ≡ Image.code_number im

-- what an answer holds may be used to show what more it holds
pub moreover : {A : Type 0} {C : Type 0} {P : A → Type 0} {a : Answer A} → Holds (λ (x : A). C) a → (C → Holds P a) → Holds P a
moreover (good c) f = f c
moreover none f = none

module _ (im : Image.Image) where
  abbrev high : ℕ
  high = key (Image.code_number im) 0xFFFF_FFFF

  -- what an entry is: not walked yet, set aside, or with lists; asked: whether the first start lies in code in any case
  pub data State (asked : Bool) (x : Entry) : Type 0 where
    fresh : x.analyzed ≡ false → x.slices ≡ nothing → State asked x
    bare : x.end ≡ 0 → x.slices ≡ nothing → State asked x
    filled : (s : Slices) → x.analyzed ≡ true → x.slices ≡ some s → Owned im x.entry s → (x.end ≡ 0) ⊎ (x.end ≡ last_end s.blocks) → ((asked ≡ true) ⊎ (x.end ≡ 0) → bottom im ≤ first_start s.blocks) → State asked x

  pub record Placed (asked : Bool) (x : Entry) : Type 0 where
    pub even : x.entry % 4 ≡ 0
    pub section : section_of x.entry ≡ Image.code_number im
    pub inside : x.analyzed ≡ true → CodeWord im x.entry
    pub whole : x.end % 4 ≡ 0
    pub limit : x.end ≤ high
    pub state : State asked x

  pub record Table (asked based : Bool) (es : List Entry) : Type 0 where
    pub rising : Rising entry_of es
    pub each : All (Placed asked) es
    pub base : based ≡ true → Among entry_of (code_first im) es

  -- an address that may be an entry
  pub record New (k : ℕ) : Type 0 where
    pub even : k % 4 ≡ 0
    pub section : section_of k ≡ Image.code_number im

  -- what a first analysis of k gives
  pub record Walked (k : ℕ) (r : Analyze.Analyzed) : Type 0 where
    pub word : CodeWord im k
    pub shut : r.found ≡ true → any is_open r.slices.blocks ≡ false
    pub owned : Owned im k r.slices

  new_placed : (asked : Bool) (k : ℕ) → New k → Placed asked (new_entry k)
  new_placed asked k n =
      record { even = n.even; section = n.section; inside = λ h. absurd (false≢true h); whole = refl; limit = omega arith; state = fresh refl refl }

  module _ (checked : Checked im) (cap : Capacity) (based : Bool) where
    module _ (asked : Bool) where
      pub put_map : (a : Entry) (es : List Entry) → Placed asked a → Table asked based es → Table asked based (put entry_of a es)
      put_map a es p m =
          record { rising = put_rising entry_of a es m.rising; each = all_put entry_of (Placed asked) a es p m.each; base = λ h. among_put entry_of (code_first im) a es (m.base h) }

      -- with an entry at k
      pub record With (k : ℕ) (es fs : List Entry) : Type 0 where
        pub map : Table asked based fs
        pub among : Among entry_of k fs
        pub same : has entry_of k es ≡ true → fs ≡ es

      pub add_entry_with : (k : ℕ) (es : List Entry) → New k → Table asked based es → Holds (With k es) (Map.add_entry cap k es)
      unfolding Map.add_entry
      add_entry_with k es n m =
          if_holds (λ h. good (record { map = m; among = has_among entry_of k es h; same = λ _. refl }))
          (λ h. map_holds (Sizes.limited_is _ (put entry_of (new_entry k) es))
          (λ fs i. record { map = rw i.0 (put_map (new_entry k) es (new_placed asked k n) m); among = rw i.0 (among_self entry_of (new_entry k) es); same = λ q. absurd (false≢true (sym h ∙ q)) }))

      -- an entry at k that has lists now
      store_map : (k : ℕ) (s : Slices) (end : ℕ) (es : List Entry) → New k → CodeWord im k → Owned im k s → (end ≡ 0) ⊎ (end ≡ last_end s.blocks) → ((asked ≡ true) ⊎ (end ≡ 0) → bottom im ≤ first_start s.blocks) → Table asked based es → Holds (Table asked based) (Map.store cap k s end es)
      unfolding Map.store Map.fitting
      store_map k s end es n c o l f m =
          bind_holds (add_entry_with k es n m)
          (λ fs q. if_holds (λ _. good (put_map _ fs
          (record { even = n.even; section = n.section; inside = λ _. c; whole = end_whole l; limit = end_limit l; state = filled s refl refl o l f }) q.map)) (λ _. none))
        where
          end_whole : (end ≡ 0) ⊎ (end ≡ last_end s.blocks) → end % 4 ≡ 0
          end_whole (inl z) = rw z
          end_whole (inr z) = rw z (end_even im s o.tidy)

          end_limit : (end ≡ 0) ⊎ (end ≡ last_end s.blocks) → end ≤ high
          end_limit (inl z) = omega arith
          end_limit (inr z) = omega (arith, last_end_low im s.blocks o.tidy, checked.sound.fits)

      -- what is to be set aside has no lists, or is asked for
      abbrev Free : ℕ → List Entry → Type 0
      Free k es = (asked ≡ true) ⊎ ((has entry_of k es ≡ true) × ((upper entry_of k (new_entry k) es).analyzed ≡ false))

      aside_placed : (x : Entry) → CodeWord im x.entry → (asked ≡ true) ⊎ (x.analyzed ≡ false) → Placed asked x → Placed asked (Map.set_aside_entry cap x)
      aside_placed x c f p =
          record { even = p.even; section = p.section; inside = λ _. c; whole = refl; limit = omega arith; state = by p.state }
        where
          by : State asked x → State asked (Map.set_aside_entry cap x)
          by (fresh a q) = bare refl q
          by (bare e q) = bare refl q
          by (filled s a q o l h) = filled s refl q o (inl refl) (λ _. h (still a f))
            where
              still : x.analyzed ≡ true → (asked ≡ true) ⊎ (x.analyzed ≡ false) → (asked ≡ true) ⊎ (x.end ≡ 0)
              still a (inl t) = inl t
              still a (inr t) = absurd (false≢true (sym t ∙ a))

      set_aside_map : (k : ℕ) (es : List Entry) → New k → CodeWord im k → Free k es → Table asked based es → Holds (Table asked based) (Map.set_aside cap k es)
      unfolding Map.set_aside
      set_aside_map k es n c f m =
          bind_holds (add_entry_with k es n m)
          (λ fs q. good (put_map _ fs (aside_placed (upper entry_of k (new_entry k) fs) (rw (upper_at entry_of k (new_entry k) fs q.map.rising q.among) c) (free fs q f)
          (upper_holds entry_of (Placed asked) k (new_entry k) fs (new_placed asked k n) q.map.each)) q.map))
        where
          free : (fs : List Entry) → With k es fs → Free k es → (asked ≡ true) ⊎ ((upper entry_of k (new_entry k) fs).analyzed ≡ false)
          free fs q (inl t) = inl t
          free fs q (inr t) = inr (rw (q.same t.0) t.1)

      try_add_functions_map : (ks : List ℕ) (es : List Entry) → All Aligned ks → Table asked based es → Holds (Table asked based) (Map.try_add_functions im cap ks es)
      unfolding Map.try_add_function
      try_add_functions_map [] es a m = good m
      try_add_functions_map (k ∷ ks) es a m =
          bind_holds (if_holds (λ h. map_holds (add_entry_with k es (record { even = a.0; section = eqb-true _ _ (and_left _ _ h) }) m) (λ fs q. q.map)) (λ _. good m))
          (λ fs q. try_add_functions_map ks fs a.1 q)

      abbrev AllShut : Slices → Type 0
      AllShut s = any is_open s.blocks ≡ false

      store_function_map : (k : ℕ) (s : Slices) (es : List Entry) → New k → CodeWord im k → Owned im k s → AllShut s → Table asked based es → Holds (Table asked based) (Map.store_function im cap k s es)
      unfolding Map.store_function Map.store_final
      store_function_map k s es n c o a m =
          let f = front im k s o a in
          bind_holds (try_add_functions_map s.function_references es o.names.refers m)
          (λ fs q. if_holds
          (λ _. bind_holds (finalize_final im checked.sound k fs s o) (λ t z. store_map k t (last_end t.blocks) fs n c z.owned (inr refl) (λ _. z.front f) q))
          (λ _. store_map k s 0 fs n c o (inl refl) (λ _. f) q))

      -- ---- one entry

      framed : (k past : ℕ) (es : List Entry) → bottom im ≤ k → past ≤ high → Table asked based es → Framed (Map.around im cap k past es)
      framed k past es l h m =
          record { low = l; high = h; entries = all_map es (λ x p. p.even) m.each; symbols = all_map im.functions (λ f p. p.even) checked.symbols }

      end_limit : (k : ℕ) (es : List Entry) → Table asked based es → end_of_entry k es ≤ high
      unfolding end_of_entry
      end_limit k es m =
          by_if (λ n. n ≤ high) (has entry_of k es) {x = (upper entry_of k (new_entry 0) es).end} {y = 0}
          (λ _. upper_holds entry_of (λ (x : Entry). x.end ≤ high) k (new_entry 0) es (omega arith) (all_map es (λ x p. p.limit) m.each)) (λ _. omega arith)

      code_word : (k : ℕ) → New k → Image.contains (Image.section_at im k) (address_of k) ≡ true → CodeWord im k
      unfolding Image.section_at Image.code_section
      code_word k n h =
          let q : section_of k ≡ Image.code_number im = n.section in
          let c : Image.contains (Image.code_section im) (address_of k) ≡ true = rw (← q) h in
          let l = leb-true (Image.code_section im).base (address_of k) (and_left _ _ c) in
          let r = ltb-true (address_of k) ((Image.code_section im).base + (Image.code_section im).size) (and_right (leb (Image.code_section im).base (address_of k)) _ c) in
          record { low = omega arith; high = omega arith; even = n.even }

      pub process_function_at_map : (k : ℕ) (es : List Entry) → New k → Free k es → Table asked based es → Holds (Table asked based) (Map.process_function_at im cap k es)
      unfolding Map.process_function_at
      process_function_at_map k es n f m =
          bind_holds {P = Walked k}
          (moreover (analyze_lies e checked.aimed checked.sound k [])
          (λ y. let c : CodeWord im k = code_word k n y.lies in
          map_holds (both (analyze_closed e checked.aimed k []) (analyze_owned e checked.sound checked.aimed (framed k (end_of_entry k es) es c.low (end_limit k es m) m) k k (Lists.with_only []) n.even (record { rising = tt; proper = tt }) (record { refers = tt; maybe = tt }) (omega arith) (inl refl) (λ _. record { even = tt; apart = tt })))
          (λ r p. record { word = c; shut = p.0.shut; owned = p.1.owned })))
          (λ r p. if_holds (λ h. store_function_map k r.slices es n p.word p.owned (p.shut h) m) (λ _. set_aside_map k es n p.word f m))
        where
          e : Around
          e = Map.around im cap k (end_of_entry k es) es

      pub process_each_map : (ks : List ℕ) (es : List Entry) → asked ≡ true → All New ks → Table asked based es → Holds (Table asked based) (Map.process_each im cap ks es)
      process_each_map [] es a n m = good m
      process_each_map (k ∷ ks) es a n m = bind_holds (process_function_at_map k es n.0 (inl a) m) (λ fs q. process_each_map ks fs a n.1 q)

    -- ---- finalizing

    abbrev Late : List Entry → Type 0
    Late es = Table false based es

    pub record LateRound (r : Round) : Type 0 where
      pub late : Late r.entries

    keep_settled_map : (k : ℕ) (s : Slices) (r : Round) → New k → CodeWord im k → Owned im k s → LateRound r → Holds LateRound (Map.keep_settled im cap k s r)
    unfolding Map.keep_settled
    keep_settled_map k s r n c o m =
        bind_holds (both (finalize_final im checked.sound k r.entries s o) (finalize_ends im r.entries s))
        (λ t z. bind_holds (try_add_functions_map false t.function_references r.entries z.0.owned.names.refers m.late)
        (λ es q. bind_holds (store_map false k t (last_end t.blocks) es n c z.0.owned (inr refl) (never t z.1) q) (λ fs w. good (record { late = w }))))
      where
        never : (t : Slices) → Ends t → (◌≡◌ {A = Bool} false true) ⊎ (last_end t.blocks ≡ 0) → bottom im ≤ first_start t.blocks
        never t e (inl h) = absurd (false≢true h)
        never t e (inr h) = absurd (eqb-false _ _ e.ends h)

    -- an entry that is to be finalized
    record Open (x : Entry) : Type 0 where
      placed : Placed false x
      unfinalized : is_unfinalized x ≡ true

    finalize_entry_map : (final : Bool) (x : Entry) (r : Round) → Open x → LateRound r → Holds LateRound (Map.finalize_entry im cap final x.entry x.slices r)
    unfolding Map.finalize_function
    finalize_entry_map final x r o m = by x.slices refl o.placed.state
      where
        n : New x.entry
        n = record { even = o.placed.even; section = o.placed.section }

        c : CodeWord im x.entry
        c = o.placed.inside (and_left _ _ (and_left _ _ o.unfinalized))

        z : x.end ≡ 0
        z = eqb-true _ _ (and_right x.analyzed _ (and_left _ _ o.unfinalized))

        go : (s : Slices) → Owned im x.entry s → bottom im ≤ first_start s.blocks → Holds LateRound (Map.finalize_entry im cap final x.entry (some s) r)
        go s w f =
            bind_holds (settle_all_owned e checked.sound checked.aimed (framed false (first_start s.blocks) (last_end s.blocks) r.entries f (omega (arith, last_end_low im s.blocks w.tidy, checked.sound.fits)) m.late) x.entry (key (section_of x.entry) 0) final (settling s (key (section_of x.entry) 0)) (record { owned = w }))
            (λ t q. if_holds (λ _. keep_settled_map x.entry t.slices r n c q.owned m) (λ _. good m))
          where
            e : Around
            e = Map.around im cap (first_start s.blocks) (last_end s.blocks) r.entries

        by : (l : Option Slices) → x.slices ≡ l → State false x → Holds LateRound (Map.finalize_entry im cap final x.entry l r)
        by nothing q t = good m
        by (some s) q (fresh a y) = let d : ◌≡◌ {A = ℕ} 0 1 = cc in absurd (omega arith)
        by (some s) q (bare a y) = let d : ◌≡◌ {A = ℕ} 0 1 = cc in absurd (omega arith)
        by (some s) q (filled u a y w l h) =
            let d : u ≡ s = cc in
            go s (subst (Owned im x.entry) d w) (subst (λ (v : Slices). bottom im ≤ first_start v.blocks) d (h (inr z)))

    finalize_each_map : (final : Bool) (xs : List Entry) (r : Round) → All Open xs → LateRound r → Holds LateRound (Map.finalize_each im cap final xs r)
    finalize_each_map final [] r o m = good m
    finalize_each_map final (x ∷ xs) r o m = bind_holds (finalize_entry_map final x r o.0 m) (λ t q. finalize_each_map final xs t o.1 q)

    all_open : (es : List Entry) → All (Placed false) es → All Open (filter is_unfinalized es)
    all_open [] p = tt
    all_open (x ∷ es) p =
        by_if (All Open) (is_unfinalized x) {x = x ∷ filter is_unfinalized es} {y = filter is_unfinalized es}
        (λ h. (record { placed = p.0; unfinalized = h }, all_open es p.1)) (λ _. all_open es p.1)

    pub finalize_functions_map : (final : Bool) (es : List Entry) → Late es → Holds LateRound (Map.finalize_functions im cap final es)
    unfolding Map.finalize_functions
    finalize_functions_map final es m = finalize_each_map final (filter is_unfinalized es) (round false es) (all_open es m.each) (record { late = m })

    -- ---- entries found

    pub past_even : (a : ℕ) (rs : List Range) → a % 4 ≡ 0 → All (λ (r : Range). r.past % 4 ≡ 0) rs → Map.past_range im cap a rs % 4 ≡ 0
    past_even a [] h p = h
    past_even a (r ∷ rs) h p =
        by_if (λ n. n % 4 ≡ 0) (Image.in_range a r) {x = r.past} {y = Map.past_range im cap a rs} (λ _. p.0) (λ _. past_even a rs h p.1)

    pub skip_range_even : (a : ℕ) → a % 4 ≡ 0 → Map.skip_range im cap a % 4 ≡ 0
    unfolding Map.skip_range
    skip_range_even a h = past_even a im.skips h checked.skips

    skip_alignment_even : (a end : ℕ) → a % 4 ≡ 0 → end % 4 ≡ 0 → Map.skip_alignment im cap a end % 4 ≡ 0
    unfolding Map.skip_alignment Map.skip_zero
    skip_alignment_even a end h l =
        by_if (λ n. n % 4 ≡ 0) _ (λ _. skip_range_even _ (run_keeps (Map.is_padding im cap end) (Map.skip_zero im cap) (λ x. end - x) (λ n. n % 4 ≡ 0) (λ x _ q. let y = skip_range_even x q in omega arith) a h)) (λ _. l)

    new_between_new : (end after : ℕ) → end % 4 ≡ 0 → after % 4 ≡ 0 → All New (Map.new_between im cap end after)
    unfolding Map.new_between
    new_between_new end after h l =
        by_if (All New) (ltb (Map.skip_alignment im cap (address_of end) (address_of after)) (address_of after))
        {x = key (Image.code_number im) (Map.skip_alignment im cap (address_of end) (address_of after)) ∷ []} {y = []}
        (λ q. let y = skip_alignment_even (address_of end) (address_of after) (omega arith) (omega arith) in
        let z = ltb-true (Map.skip_alignment im cap (address_of end) (address_of after)) (address_of after) q in
        (record { even = omega arith; section = omega arith }, tt)) (λ _. tt)

    after_even : (es : List Entry) → All (Placed false) es → (first (new_entry (Map.section_end im cap)) es).entry % 4 ≡ 0
    unfolding Map.section_end
    after_even [] p = omega (arith, checked.sound.aligned, checked.sound.based)
    after_even (x ∷ es) p = p.0.even

    new_functions_new : (es : List Entry) → All (Placed false) es → Holds (All New) (Map.new_functions im cap es)
    unfolding Map.found_behind
    new_functions_new [] p = good tt
    new_functions_new (x ∷ es) p =
        bind_holds {P = All New} (if_holds (λ _. good tt) (λ _. if_holds (λ _. none) (λ _. good (new_between_new x.end _ p.0.whole (after_even es p.1)))))
        (λ l q. bind_holds (new_functions_new es p.1) (λ ks r. good (all_append New l ks q r)))

    add_entries_map : (ks : List ℕ) (es : List Entry) → All New ks → Late es → Holds Late (Map.add_entries im cap ks es)
    add_entries_map [] es n m = good m
    add_entries_map (k ∷ ks) es n m = bind_holds (add_entry_with false k es n.0 m) (λ fs q. add_entries_map ks fs n.1 q.map)

    detect_new_map : (es : List Entry) → Late es → Holds LateRound (Map.detect_new_functions im cap es)
    unfolding Map.detect_new_functions
    detect_new_map es m =
        bind_holds (new_functions_new es m.each) (λ ks n. bind_holds (add_entries_map ks es n m) (λ fs q. good (record { late = q })))

    -- ---- rounds

    first_free : (es : List Entry) (d : Entry) → Rising entry_of es → (Map.first_unbounded_function es ≡ 0 → ⊥) → Among entry_of (Map.first_unbounded_function es) es × ((upper entry_of (Map.first_unbounded_function es) d es).analyzed ≡ false)
    unfolding if
    first_free [] d r h = absurd (h refl)
    first_free (x ∷ es) d r h = by x.analyzed refl (first_free es d r.1) h
      where
        by : (a : Bool) → x.analyzed ≡ a → ((Map.first_unbounded_function es ≡ 0 → ⊥) → Among entry_of (Map.first_unbounded_function es) es × ((upper entry_of (Map.first_unbounded_function es) d es).analyzed ≡ false)) → (if a (Map.first_unbounded_function es) x.entry ≡ 0 → ⊥) → Among entry_of (if a (Map.first_unbounded_function es) x.entry) (x ∷ es) × ((upper entry_of (if a (Map.first_unbounded_function es) x.entry) d (x ∷ es)).analyzed ≡ false)
        by true e f n =
            let q = f n in
            (inr q.0, rw (lt-ltb x.entry (Map.first_unbounded_function es) (among_above entry_of _ x es r.0 r.1 q.0)) q.1)
        by false e f n = (inl refl, rw (le-ltb x.entry x.entry (omega arith)) e)

    placed_of : (k : ℕ) (es : List Entry) → All (Placed false) es → Among entry_of k es → New k
    placed_of k [] p h = absurd h
    placed_of k (x ∷ es) p (inl q) = record { even = rw (← q) p.0.even; section = rw (← q) p.0.section }
    placed_of k (x ∷ es) p (inr h) = placed_of k es p.1 h

    pub process_step_map : (r : Round) → LateRound r → Holds LateRound (Map.process_step im cap r)
    unfolding Map.process_step Map.process_next Map.finalize_or_detect
    process_step_map r m =
        if_holds
        (λ _. bind_holds (finalize_functions_map false r.entries m.late) (λ t q. if_holds (λ _. good q) (λ _. detect_new_map t.entries q.late)))
        (λ h. let f = first_free r.entries (new_entry (Map.first_unbounded_function r.entries)) m.late.rising (eqb-false _ _ h) in
        bind_holds (process_function_at_map false _ r.entries (placed_of _ r.entries m.late.each f.0) (inr (among_has entry_of _ r.entries m.late.rising f.0, f.1)) m.late) (λ fs q. good (record { late = q })))
