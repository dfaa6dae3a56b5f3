-- What each function's lists keep, from its first walk until it is finalized.
use Prim.Native.Nat.{ℕ, ◌+◌, ◌%◌, ◌≤◌, ◌<◌}
use mathlib.Core.Path.{◌≡◌, refl, sym, ◌∙◌}
use mathlib.Core.Bool.{Bool, true, false, false≢true, not, ◌&&◌, ◌||◌}
use mathlib.Core.List.{List, [], ◌∷◌}
use mathlib.Core.Logic.{◌⊎◌, inl, inr}
use native.Mathlib.Omega.{arith}
use lib.ListN.{length, get_or}
use lib.Dec.{ltb, leb, eqb}
use borrow.Author.Tests.{ltb-true, eqb-true, eqb-false}
use Rattle.rules.specs.Choice.{if, by_if, if_false, any, Answer, ok, fault, ◌>>=◌}
use Rattle.rules.specs.Loop.{Holds, good, none, of_good, bind_holds, map_holds, if_holds, both, loop_keeps}
use Rattle.rules.specs.Ordered.{self, put, last, first}
use Rattle.rules.specs.Address.{address_of}
use Rattle.rules.specs.Image
use Rattle.rules.specs.Words.{blr, nop}
use Rattle.rules.specs.Blocks.{Block, block, start_of, is_open, first_start, last_end}
use Rattle.rules.specs.Slices as Lists
use Rattle.rules.specs.Slices.{Slices}
use Rattle.rules.specs.Known.{Entry}
use Rattle.rules.specs.Step.{Around}
use Rattle.rules.specs.Analyze
use Rattle.rules.specs.TailCall
use Rattle.rules.specs.TailCall.{is_not, is, possibly}
use Rattle.rules.specs.Finalize
use Rattle.rules.specs.Settle
use Rattle.rules.specs.Settle.{Settling, settling}
use Rattle.rules.proofs.WalkEnds.{Sound}
use Rattle.rules.proofs.Keeps.{Aimed, without_few, Other, add_function_reference_other, set_block_puts}
use Rattle.rules.proofs.SettlingEnds.{filter_few, Grew, walked, marked, analyze_grew}
use Rattle.rules.proofs.Tidy.{bottom, Proper, open_one, closed, TidyBlocks, put_tidy, Aligned, Names, Framed, analyze_tidy}
use Rattle.rules.specs.Accounted.{NoIllegal}
use Rattle.rules.proofs.Linked.{Linked, LinkedIn, put_linked, last_most, last_above, analyze_linked}
use Rattle.rules.proofs.Starts.{analyze_starts}
use Rattle.rules.proofs.Rows.{All, all_map, all_filter, all_without, upper_holds, last_holds, Among, among_put, among_last}
use Rattle.rules.proofs.Tests.{and_left, and_right}

-- what holds under an assumption
pub assuming : {A : Type 0} {C : Type 0} {P : A → Type 0} {a : Answer A} → (C → Holds P a) → Holds (λ x. C → P x) a
assuming {A} {C} {P} {a} f = by a f
  where
    by : (b : Answer A) → (C → Holds P b) → Holds (λ x. C → P x) b
    by (ok x) g = good (λ c. of_good (g c))
    by (fault n) g = none

module _ (im : Image.Image) where
  -- the lists of the function with the entry k
  pub record Owned (k : ℕ) (s : Slices) : Type 0 where
    pub tidy : TidyBlocks im s.blocks
    pub names : Names s
    pub few : length s.possible_blocks ≤ 128
    pub own : Among start_of k s.blocks
    pub linked : NoIllegal im → Linked s.blocks

  -- another list is changed
  owned_other : (k : ℕ) (s t : Slices) → Other Aligned s t → Owned k s → Owned k t
  owned_other k s t o p =
      record { tidy = rw o.same p.tidy; names = record { refers = o.refers p.names.refers; maybe = o.maybe p.names.maybe }; few = o.few p.few; own = rw o.same p.own; linked = λ n. rw o.same (p.linked n) }

  discard_owned : (k j : ℕ) (s : Slices) → Owned k s → Owned k (Lists.discard_possible_block j s)
  unfolding Lists.discard_possible_block
  discard_owned k j s p =
      record { tidy = p.tidy; names = record { refers = p.names.refers; maybe = all_without self Aligned j s.possible_blocks p.names.maybe }; few = omega (arith, p.few, without_few j s.possible_blocks); own = p.own; linked = p.linked }

  -- the end lies above the entry
  pub owned_end : (k : ℕ) (s : Slices) → Owned k s → (last_end s.blocks ≡ 0 → ⊥) → k < last_end s.blocks
  unfolding last_end
  owned_end k s p n =
      by (last (block 0 0) s.blocks) (among_last start_of k (block 0 0) s.blocks p.tidy.rising p.own) (last_holds (Proper im) (block 0 0) s.blocks (open_one refl) p.tidy.proper) n
    where
      by : (b : Block) → k ≤ b.start → Proper im b → (b.end ≡ 0 → ⊥) → k < b.end
      by b h (open_one z) m = absurd (m z)
      by b h (closed l r t a) m = omega arith

  pub end_even : (s : Slices) → TidyBlocks im s.blocks → last_end s.blocks % 4 ≡ 0
  unfolding last_end
  end_even s t = by (last (block 0 0) s.blocks) (last_holds (Proper im) (block 0 0) s.blocks (open_one refl) t.proper)
    where
      by : (b : Block) → Proper im b → b.end % 4 ≡ 0
      by b (open_one z) = rw z
      by b (closed l r t a) = a

  -- the first start lies in code, where no block is open
  first_is : (bs : List Block) (k : ℕ) → All (Proper im) bs → any is_open bs ≡ false → Among start_of k bs → bottom im ≤ first_start bs
  unfolding first_start if
  first_is [] k p a h = absurd h
  first_is (b ∷ bs) k p a h = by p.0 (is_open b) refl a
    where
      by : Proper im b → (o : Bool) → is_open b ≡ o → if o true (any is_open bs) ≡ false → bottom im ≤ b.start
      by q true e z = absurd (false≢true (sym z))
      by (open_one y) false e z = absurd (eqb-false _ _ e y)
      by (closed l r t y) false e z = l

  pub front : (k : ℕ) (s : Slices) → Owned k s → any is_open s.blocks ≡ false → bottom im ≤ first_start s.blocks
  front k s p a = first_is s.blocks k p.tidy.proper a p.own

  front_put : (b : Block) (bs : List Block) → bottom im ≤ b.start → bottom im ≤ first_start bs → bottom im ≤ first_start (put start_of b bs)
  unfolding first_start
  front_put b [] h l = h
  front_put b (x ∷ bs) h l =
      by_if (λ (r : List Block). bottom im ≤ (first (block 0 0) r).start) (ltb x.start b.start) {x = x ∷ put start_of b bs} {y = if (eqb x.start b.start) (b ∷ bs) (b ∷ x ∷ bs)} (λ _. l)
      (λ _. by_if (λ (r : List Block). bottom im ≤ (first (block 0 0) r).start) (eqb x.start b.start) {x = b ∷ bs} {y = b ∷ x ∷ bs} (λ _. h) (λ _. h))

  -- ---- finalizing

  -- the word behind the end lies in code, where it is one that is asked for
  known_word : (a w : ℕ) → eqb (Image.word im a) w ≡ true → w < Image.no_word → Image.contains (Image.code_section im) a ≡ true
  unfolding Image.word
  known_word a w h l = by (Image.contains (Image.code_section im) a) refl (eqb-true _ _ h)
    where
      by : (b : Bool) → Image.contains (Image.code_section im) a ≡ b → if (Image.contains (Image.code_section im) a) (get_or (Image.code_section im).words (Image.index im a) Image.no_word) Image.no_word ≡ w → Image.contains (Image.code_section im) a ≡ true
      by true e q = e
      by false e q = let z : Image.no_word ≡ w = sym (if_false e _ _) ∙ q in absurd (omega arith)

  last_contained : (s : Slices) → Finalize.has_last im s ≡ true → Image.contains (Image.code_section im) (address_of (last_end s.blocks)) ≡ true
  unfolding Finalize.has_last Finalize.word_after
  last_contained s h =
      or_cases (s.conditional_blr && not (eqb (Finalize.last_word im s) blr) && eqb (Image.word im (address_of (last_end s.blocks))) blr) _ h
      (λ q. known_word _ blr (and_right (s.conditional_blr && not (eqb (Finalize.last_word im s) blr)) _ q) (omega arith))
      (λ q. known_word _ nop (and_right s.rfi _ q) (omega arith))
    where
      or_cases : {C : Type 0} (a b : Bool) → (a || b) ≡ true → (a ≡ true → C) → (b ≡ true → C) → C
      or_cases true b h f g = f refl
      or_cases false b h f g = g h

  -- what finalizing leaves
  pub record Final (k : ℕ) (s t : Slices) : Type 0 where
    pub owned : Owned k t
    pub front : bottom im ≤ first_start s.blocks → bottom im ≤ first_start t.blocks

  module _ (sound : Sound im) where
    last_proper : (s : Slices) → TidyBlocks im s.blocks → (last_end s.blocks ≡ 0 → ⊥) → Finalize.has_last im s ≡ true → Proper im (block (last_end s.blocks) (last_end s.blocks + 4)) × (bottom im ≤ last_end s.blocks)
    unfolding last_end
    last_proper s t n h =
        by (last (block 0 0) s.blocks) (last_holds (Proper im) (block 0 0) s.blocks (open_one refl) t.proper) n (last_contained s h)
      where
        by : (b : Block) → Proper im b → (b.end ≡ 0 → ⊥) → Image.contains (Image.code_section im) (address_of b.end) ≡ true → Proper im (block b.end (b.end + 4)) × (bottom im ≤ b.end)
        by b (open_one z) m c = absurd (m z)
        by b (closed l r u a) m c =
            let q = ltb-true (address_of b.end) ((Image.code_section im).base + (Image.code_section im).size) (and_right (leb (Image.code_section im).base (address_of b.end)) _ c) in
            (closed (omega arith) (omega arith) (omega (arith, sound.aligned, sound.based, sound.fits)) (omega arith), omega arith)

    last_linked : (s : Slices) → TidyBlocks im s.blocks → Linked s.blocks → (last_end s.blocks ≡ 0 → ⊥) → Linked (put start_of (block (last_end s.blocks) (last_end s.blocks + 4)) s.blocks)
    last_linked s t l n =
        let m = last_most im s.blocks t l n in
        put_linked (block (last_end s.blocks) (last_end s.blocks + 4)) s.blocks (end_even s t)
        (all_map s.blocks (λ y (h : y.start < last_end s.blocks). inl (let z : y.start ≤ last_end s.blocks = omega arith in z)) (last_above im s.blocks t n))
        (all_map s.blocks (λ y (h : y.end ≤ last_end s.blocks). inr h) m) l

    add_last_final : (k : ℕ) (es : List Entry) (s : Slices) → Owned k s → (last_end s.blocks ≡ 0 → ⊥) → Holds (Final k s) (Finalize.add_last im es s)
    unfolding Finalize.add_last
    add_last_final k es s p n =
        if_holds
        (λ h. let q = last_proper s p.tidy n (and_left _ _ h) in
        map_holds (set_block_puts s (last_end s.blocks) (last_end s.blocks + 4))
        (λ t u. record {
          owned = record {
            tidy = rw u.puts (put_tidy im (block (last_end s.blocks) (last_end s.blocks + 4)) s.blocks q.0 p.tidy);
            names = record { refers = rw u.refs p.names.refers; maybe = rw u.rest p.names.maybe };
            few = rw u.rest p.few;
            own = rw u.puts (among_put start_of k (block (last_end s.blocks) (last_end s.blocks + 4)) s.blocks p.own);
            linked = λ i. rw u.puts (last_linked s p.tidy (p.linked i) n);
          };
          front = λ f. rw u.puts (front_put (block (last_end s.blocks) (last_end s.blocks + 4)) s.blocks q.1 f);
        }))
        (λ _. good (record { owned = p; front = λ f. f }))

    pub finalize_final : (k : ℕ) (es : List Entry) (s : Slices) → Owned k s → Holds (Final k s) (Finalize.finalize im es s)
    unfolding Finalize.finalize Finalize.finalize_closed Finalize.finalize_end
    finalize_final k es s p =
        if_holds (λ _. none)
        (λ _. if_holds (λ _. none)
        (λ _. if_holds (λ _. none)
        (λ h. bind_holds
        (add_last_final k es (Lists.with_returns s (Finalize.is_conditional im s) s.rfi) (record { tidy = p.tidy; names = record { refers = p.names.refers; maybe = p.names.maybe }; few = p.few; own = p.own; linked = p.linked }) (eqb-false _ _ h))
        (λ t q. good (record { owned = record { tidy = q.owned.tidy; names = record { refers = q.owned.names.refers; maybe = q.owned.names.maybe }; few = q.owned.few; own = q.owned.own; linked = q.owned.linked }; front = q.front })))))

-- ---- settling

module _ (e : Around) (sound : Sound e.image) (aimed : Aimed e.image) (framed : Framed e) where
  pub record OwnedBy (k : ℕ) (r : Analyze.Analyzed) : Type 0 where
    pub owned : Owned e.image k r.slices

  grew_few : (s : Slices) {t : Slices} → length s.possible_blocks ≤ 128 → Grew s t → length t.possible_blocks ≤ 128
  grew_few s h (walked a b p) = p
  grew_few s h (marked a q) = rw q h

  pub analyze_owned : (k j : ℕ) (s : Slices) → Aligned j → TidyBlocks e.image s.blocks → Names s → length s.possible_blocks ≤ 128 → (k ≡ j) ⊎ Among start_of k s.blocks → (NoIllegal e.image → Linked s.blocks) → Holds (OwnedBy k) (Analyze.analyze e j s)
  analyze_owned k j s a t n f m l =
      map_holds (both (both (both (analyze_tidy e sound aimed framed j s a t n) (analyze_starts e aimed j k s m)) (analyze_grew e aimed j s f)) (assuming {P = LinkedIn} (λ i. analyze_linked e sound aimed framed i j s a t n (l i))))
      (λ r p. record { owned = record { tidy = p.0.0.0.blocks; names = p.0.0.0.names; few = grew_few s f p.0.1.grew; own = p.0.0.1.starts; linked = λ i. (p.1 i).linked } })

  module _ (k : ℕ) where
    abbrev Own : Slices → Type 0
    Own s = Owned e.image k s

    record OwnVerdict (v : TailCall.Verdict) : Type 0 where
      owned : Own v.slices

    unchanged : (a : TailCall.TailCall) (s : Slices) → Own s → Holds OwnVerdict (TailCall.verdict a s)
    unchanged a s p = good (record { owned = p })

    judge_others_owned : (s t : Slices) → Own s → Holds OwnVerdict (TailCall.judge_others e s t)
    unfolding TailCall.judge_others
    judge_others_owned s t p =
        if_holds
        (λ _. good (record { owned = record { tidy = p.tidy; names = record { refers = p.names.refers; maybe = all_filter Aligned (λ j. not (TailCall.is_other e t j)) s.possible_blocks p.names.maybe }; few = omega (arith, p.few, filter_few (λ j. not (TailCall.is_other e t j)) s.possible_blocks); own = p.own; linked = p.linked } }))
        (λ _. unchanged _ s p)

    judge_owned : (j : ℕ) (s : Slices) (a : Answer Analyze.Analyzed) → Own s → Holds OwnVerdict (TailCall.judge e j s a)
    unfolding TailCall.judge TailCall.judge_trial
    judge_owned j s (ok r) p = if_holds (λ _. if_holds (λ _. unchanged _ s p) (λ _. judge_others_owned s r.slices p)) (λ _. unchanged _ s p)
    judge_owned j s (fault n) p = if_holds (λ _. none) (λ _. unchanged _ s p)

    check_tail_call_owned : (j : ℕ) (s : Slices) → Own s → Holds OwnVerdict (TailCall.check_tail_call e j s)
    unfolding TailCall.check_tail_call TailCall.check_between TailCall.trial
    check_tail_call_owned j s p =
        if_holds (λ _. unchanged _ s p)
        (λ _. if_holds (λ _. unchanged _ s p)
        (λ _. if_holds (λ _. unchanged _ s p) (λ _. if_holds (λ _. unchanged _ s p) (λ _. judge_owned j s _ p))))

    module _ (low : ℕ) (final : Bool) where
      pub record OwnSettling (t : Settling) : Type 0 where
        pub owned : Own t.slices

      include_owned : (j c : ℕ) (s : Slices) → Aligned j → Own s → Holds OwnSettling (Settle.include e low final j s >>= λ u. ok (settling u c))
      unfolding Settle.include
      include_owned j c s a p =
          let d = discard_owned e.image k j s p in
          bind_holds (bind_holds (analyze_owned k j (Lists.discard_possible_block j s) a d.tidy d.names d.few (inr d.own) d.linked) (λ r g. good g.owned))
          (λ u g. good (record { owned = g }))

      settle_owned : (j : ℕ) (a : TailCall.TailCall) (s : Slices) → Aligned j → Own s → Holds OwnSettling (Settle.settle e low final j a s)
      unfolding Settle.settle
      settle_owned j is_not s a p = include_owned j low s a p
      settle_owned j is s a p =
          let d = discard_owned e.image k j s p in
          bind_holds (add_function_reference_other Aligned (Lists.discard_possible_block j s) j a) (λ u o. good (record { owned = owned_other e.image k _ u o d }))
      settle_owned j possibly s a p = if_holds (λ _. include_owned j (j + 4) s a p) (λ _. good (record { owned = p }))

      next_aligned : (t : Settling) → Own t.slices → Aligned (Settle.next_possible_block t)
      unfolding Settle.next_possible_block
      next_aligned t p = upper_holds self Aligned t.current 0 t.slices.possible_blocks refl p.names.maybe

      settle_step_owned : (t : Settling) → OwnSettling t → Holds OwnSettling (Settle.settle_step e low final t)
      unfolding Settle.settle_step
      settle_step_owned t p =
          bind_holds (check_tail_call_owned (Settle.next_possible_block t) t.slices p.owned)
          (λ v q. settle_owned (Settle.next_possible_block t) v.answer v.slices (next_aligned t p.owned) q.owned)

      pub settle_all_owned : (t : Settling) → OwnSettling t → Holds OwnSettling (Settle.settle_all e low final t)
      unfolding Settle.settle_all
      settle_all_owned t p =
          loop_keeps Settle.is_unsettled (Settle.settle_step e low final) OwnSettling (λ u _ q. settle_step_owned u q) (Settle.unsettled e low final) t p
