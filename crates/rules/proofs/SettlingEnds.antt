-- The loop over possible blocks ends: each step leaves one behind, or takes one away, or begins a block.
use Prim.Native.Nat.{ℕ, suc, ◌+◌, ◌≤◌, ◌<◌}
use mathlib.Core.Path.{◌≡◌, refl, ◌∙◌, ap, subst}
use mathlib.Core.Bool.{Bool, true, false, false≢true, not}
use mathlib.Core.List.{List, [], ◌∷◌}
use native.Mathlib.Omega.{arith}
use lib.ListN.{length}
use lib.Dec.{ltb, leb}
use borrow.Author.Tests.{leb-true, leb-false, ltb-true, ltb-false, eqb-false, lt-ltb, le-ltb, lt-leb, le-leb, eq-eqb, not-true}
use Rattle.rules.specs.Choice.{if, by_if, any, filter, Answer, ok, fault, ◌>>=◌}
use Rattle.rules.specs.Loop.{Holds, good, none, bind_holds, map_holds, if_holds, trivial, loop_step, loop_ends}
use Rattle.rules.specs.Ordered.{self, without, upper}
use Rattle.rules.specs.Blocks.{block, start_of}
use Rattle.rules.specs.Slices as Lists
use Rattle.rules.specs.Slices.{Slices}
use Rattle.rules.specs.Step
use Rattle.rules.specs.Step.{Around, Walk, with_slices, with_place, at}
use Rattle.rules.specs.Walk as Exec
use Rattle.rules.specs.Analyze
use Rattle.rules.specs.TailCall
use Rattle.rules.specs.TailCall.{is_not, is, possibly}
use Rattle.rules.specs.Settle
use Rattle.rules.specs.Settle.{Settling, settling}
use Rattle.rules.proofs.Sizes
use Rattle.rules.proofs.Ordered.{length_put_le}
use Rattle.rules.proofs.Keeps.{Laws, Aimed, without_few, analyze_walk_keeps}

-- ---- lists of addresses

pub filter_few : (p : ℕ → Bool) (l : List ℕ) → length (filter p l) ≤ length l
filter_few p [] = omega arith
filter_few p (x ∷ l) =
    by_if (λ r. length r ≤ suc (length l)) (p x) {x = x ∷ filter p l} {y = filter p l} (λ _. omega (arith, filter_few p l)) (λ _. omega (arith, filter_few p l))

filter_fewer : (p : ℕ → Bool) (l : List ℕ) → any p l ≡ true → length (filter (λ x. not (p x)) l) < length l
unfolding if
filter_fewer p [] h = absurd (false≢true h)
filter_fewer p (x ∷ l) h = pick (p x) h (filter_fewer p l)
  where
    pick : (b : Bool) → if b true (any p l) ≡ true → (any p l ≡ true → length (filter (λ x. not (p x)) l) < length l) → length (if (not b) (x ∷ filter (λ x. not (p x)) l) (filter (λ x. not (p x)) l)) < suc (length l)
    pick true h f = omega (arith, filter_few (λ x. not (p x)) l)
    pick false h f = omega (arith, f h)

-- the first address from c on, if there is one
abbrev next : ℕ → List ℕ → ℕ
next c l = upper self c 0 l

next_from : (c : ℕ) (l : List ℕ) → (next c l ≡ 0 → ⊥) → c ≤ next c l
unfolding if
next_from c [] h = absurd (h refl)
next_from c (x ∷ l) h = pick (ltb x c) refl h (next_from c l)
  where
    pick : (b : Bool) → ltb x c ≡ b → (if b (next c l) x ≡ 0 → ⊥) → ((next c l ≡ 0 → ⊥) → c ≤ next c l) → c ≤ if b (next c l) x
    pick true e h f = f h
    pick false e h f = ltb-false x c e

next_without : (c : ℕ) (l : List ℕ) → (next c l ≡ 0 → ⊥) → suc (length (without self (next c l) l)) ≡ length l
unfolding if
next_without c [] h = absurd (h refl)
next_without c (x ∷ l) h = pick (ltb x c) refl h (next_without c l)
  where
    pick : (b : Bool) → ltb x c ≡ b → (if b (next c l) x ≡ 0 → ⊥) → ((next c l ≡ 0 → ⊥) → suc (length (without self (next c l) l)) ≡ length l) → suc (length (without self (if b (next c l) x) (x ∷ l))) ≡ suc (length l)
    pick true e h f =
        let m = next_from c l h in
        let z = ltb-true x c e in
        rw (lt-ltb x (next c l) (omega arith)) (ap suc (f h))
    pick false e h f = rw (le-ltb x x (omega arith), eq-eqb x x refl) refl

-- fewer lie from further on
filter_mono : (c d : ℕ) (l : List ℕ) → c ≤ d → length (filter (λ p. leb d p) l) ≤ length (filter (λ p. leb c p) l)
unfolding if
filter_mono c d [] h = omega arith
filter_mono c d (x ∷ l) h = pick (leb d x) (leb c x) refl refl (filter_mono c d l h)
  where
    pick : (a b : Bool) → leb d x ≡ a → leb c x ≡ b → length (filter (λ p. leb d p) l) ≤ length (filter (λ p. leb c p) l) → length (if a (x ∷ filter (λ p. leb d p) l) (filter (λ p. leb d p) l)) ≤ length (if b (x ∷ filter (λ p. leb c p) l) (filter (λ p. leb c p) l))
    pick true true e f g = omega arith
    pick true false e f g = let m = leb-true d x e in let n = leb-false c x f in absurd (omega arith)
    pick false true e f g = omega arith
    pick false false e f g = g

next_passed : (c : ℕ) (l : List ℕ) → (next c l ≡ 0 → ⊥) → length (filter (λ p. leb (next c l + 4) p) l) < length (filter (λ p. leb c p) l)
unfolding if
next_passed c [] h = absurd (h refl)
next_passed c (x ∷ l) h = pick (ltb x c) refl h (next_passed c l)
  where
    pick : (b : Bool) → ltb x c ≡ b → (if b (next c l) x ≡ 0 → ⊥) → ((next c l ≡ 0 → ⊥) → length (filter (λ p. leb (next c l + 4) p) l) < length (filter (λ p. leb c p) l)) →
        length (filter (λ p. leb (if b (next c l) x + 4) p) (x ∷ l)) < length (filter (λ p. leb c p) (x ∷ l))
    pick true e h f =
        let m = next_from c l h in
        let z = ltb-true x c e in
        rw (lt-leb (next c l + 4) x (omega arith), lt-leb c x (omega arith)) (f h)
    pick false e h f =
        let z = ltb-false x c e in
        rw (lt-leb (x + 4) x (omega arith), le-leb c x z) (omega (arith, filter_mono c (x + 4) l (omega arith)))

-- ---- how `analyze` changes the blocks and the possible blocks

-- it walks, and begins a block at least; or it only marks
pub data Grew (s t : Slices) : Type 0 where
  walked : length s.blocks < length t.blocks → length s.blocks < 256 → length t.possible_blocks ≤ 128 → Grew s t
  marked : length s.blocks ≤ length t.blocks → t.possible_blocks ≡ s.possible_blocks → Grew s t

module _ (e : Around) (aimed : Aimed e.image) where
  pub record Big (m : ℕ) (w : Walk) : Type 0 where
    pub many : m ≤ length w.slices.blocks
    pub few : length w.slices.possible_blocks ≤ 128

  abbrev Any : {A : Type 0} → A → Type 0
  Any x = Unit {0}

  big_marked : (m k : ℕ) (w : Walk) (s : Slices) → Sizes.Marked k w.slices s → Big m w → Big m (with_slices w s)
  big_marked m k w s x b =
      record { many = omega (arith, (Sizes.marked_bigger w.slices x).more, b.many); few = rw x.rest b.few }

  big_laws : (m : ℕ) → Laws e (Big m) Any Any
  unfolding Step.go_to
  big_laws m =
      record {
        here = λ k b w h i p. tt;
        next = λ k _. tt;
        target = λ a _. tt;
        known = λ k _. tt;
        symbol = λ k _. tt;
        other = λ w s o b. record { many = rw o.same b.many; few = o.few b.few };
        cuts = λ k w s _ _ _ x b. big_marked m k w s x b;
        starts = λ k w s _ _ _ x b. record { many = (big_marked m k w s x b).many; few = (big_marked m k w s x b).few };
        jumps = λ k t w s _ _ _ _ _ x b. by_if (Big m) (Step.seen e.image t (with_slices w s)) {x = with_slices w s} {y = with_place (with_slices w s) (at t t)}
            (λ _. big_marked m t w s x b) (λ _. record { many = (big_marked m t w s x b).many; few = (big_marked m t w s x b).few });
        ends = λ k b w s h i _ q r _ x. record { many = rw q (omega (arith, length_put_le start_of (block b (k + 4)) w.slices.blocks, x.many)); few = rw r x.few };
        goes_on = λ k b w h i _ _ x. record { many = x.many; few = x.few };
        passes = λ k b w h i _ _ _ x. record { many = x.many; few = x.few };
        stops = λ w x. record { many = x.many; few = x.few };
        visits = λ k b w h i x. unfold Exec.visit in record { many = x.many; few = x.few };
        takes = λ k ks w h i x. record { many = x.many; few = x.few };
        begins = λ k ks w h i _ _ _ x. record { many = x.many; few = x.few };
      }

  pub record GrewTo (s : Slices) (r : Analyze.Analyzed) : Type 0 where
    pub grew : Grew s r.slices

  pub analyze_grew : (k : ℕ) (s : Slices) → length s.possible_blocks ≤ 128 → Holds (GrewTo s) (Analyze.analyze e k s)
  unfolding Analyze.analyze
  analyze_grew k s few =
      bind_holds (Sizes.add_block_start_marks s k)
      (λ t m. if_holds
      (λ new. let n = Sizes.mark_new k s.blocks new in
      let j : length t.blocks ≡ suc (length s.blocks) = ap length m.as_marked ∙ n in
      map_holds
      (analyze_walk_keeps e aimed (Big (suc (length s.blocks))) Any Any (big_laws _) (λ j w _ x. record { many = x.many; few = x.few }) (λ w _ _. tt) (λ w _ _. tt) k t tt (record { many = omega arith; few = rw m.rest few }))
      (λ r f. record { grew = subst (Grew s) f.lists (walked f.keeps.many (omega (arith, m.fit)) f.keeps.few) }))
      (λ _. good (record { grew = marked (Sizes.marked_bigger s m).more m.rest })))

-- ---- how `check_tail_call` changes them

pub data Judged (s : Slices) (v : TailCall.Verdict) : Type 0 where
  same : v.slices ≡ s → Judged s v
  fewer : v.slices.blocks ≡ s.blocks → length v.slices.possible_blocks < length s.possible_blocks → v.answer ≡ is_not → Judged s v

module _ (e : Around) where
  unchanged : (a : TailCall.TailCall) (s : Slices) → Holds (Judged s) (TailCall.verdict a s)
  unchanged a s = good (same refl)

  judge_others_judged : (s t : Slices) → Holds (Judged s) (TailCall.judge_others e s t)
  unfolding TailCall.judge_others
  judge_others_judged s t =
      if_holds (λ h. good (fewer refl (filter_fewer (TailCall.is_other e t) s.possible_blocks h) refl)) (λ _. unchanged _ s)

  judge_judged : (k : ℕ) (s : Slices) (a : Answer Analyze.Analyzed) → Holds (Judged s) (TailCall.judge e k s a)
  unfolding TailCall.judge TailCall.judge_trial
  judge_judged k s (ok r) = if_holds (λ _. if_holds (λ _. unchanged _ s) (λ _. judge_others_judged s r.slices)) (λ _. unchanged _ s)
  judge_judged k s (fault n) = if_holds (λ _. none) (λ _. unchanged _ s)

  pub check_tail_call_judged : (k : ℕ) (s : Slices) → Holds (Judged s) (TailCall.check_tail_call e k s)
  unfolding TailCall.check_tail_call TailCall.check_between TailCall.trial
  check_tail_call_judged k s =
      if_holds (λ _. unchanged _ s)
      (λ _. if_holds (λ _. unchanged _ s)
      (λ _. if_holds (λ _. unchanged _ s) (λ _. if_holds (λ _. unchanged _ s) (λ _. judge_judged k s _))))

-- ---- the loop

never : (a : TailCall.TailCall) → a ≡ possibly → a ≡ is_not → ⊥
never a p q = let z : ◌≡◌ {A = ℕ} 0 1 = cc in omega arith

module _ (e : Around) (low : ℕ) (final : Bool) (aimed : Aimed e.image) where
  pub record Few (t : Settling) : Type 0 where
    pub few : length t.slices.possible_blocks ≤ 128

  pub record Less (t u : Settling) : Type 0 where
    pub falls : Settle.unsettled e low final u < Settle.unsettled e low final t
    pub few : length u.slices.possible_blocks ≤ 128

  -- the same blocks, and a possible block less
  record Discarded (t : Settling) (d : Slices) : Type 0 where
    blocks : d.blocks ≡ t.slices.blocks
    less : length d.possible_blocks < length t.slices.possible_blocks

  grew_less : (t : Settling) (d u : Slices) (c : ℕ) → Few t → Discarded t d → Grew d u → Less t (settling u c)
  unfolding Settle.unsettled
  grew_less t d u c f x (walked a b p) =
      let j = ap length x.blocks in
      record { falls = omega (arith, filter_few (λ p. leb c p) u.possible_blocks); few = p }
  grew_less t d u c f x (marked a q) =
      let j = ap length x.blocks in
      let i = ap length q in
      record { falls = omega (arith, f.few, x.less, filter_few (λ p. leb c p) u.possible_blocks); few = omega (arith, f.few, x.less) }

  include_less : (t : Settling) (k c : ℕ) (s : Slices) → Few t → Discarded t (Lists.discard_possible_block k s) → Holds (Less t) (Settle.include e low final k s >>= λ u. ok (settling u c))
  unfolding Settle.include
  include_less t k c s f x =
      bind_holds (bind_holds (analyze_grew e aimed k (Lists.discard_possible_block k s) (omega (arith, f.few, x.less))) (λ r g. good g.grew))
      (λ u g. good (grew_less t _ u c f x g))

  add_function_reference_less : (t : Settling) (k c : ℕ) (d : Slices) → Few t → Discarded t d → Holds (Less t) (Lists.add_function_reference k d >>= λ u. ok (settling u c))
  unfolding Lists.add_function_reference
  add_function_reference_less t k c d f x =
      bind_holds (bind_holds {P = λ l. Unit {0}} {Q = Grew d} (trivial _) (λ l _. good (marked (omega arith) refl)))
      (λ u g. good (grew_less t d u c f x g))

  discarded : (t : Settling) (v : TailCall.Verdict) → (Settle.next_possible_block t ≡ 0 → ⊥) → Judged t.slices v → Discarded t (Lists.discard_possible_block (Settle.next_possible_block t) v.slices)
  unfolding Lists.discard_possible_block Settle.next_possible_block
  discarded t v h (same q) =
      record { blocks = ap (λ (s : Slices). s.blocks) q; less = rw q (omega (arith, next_without t.current t.slices.possible_blocks h)) }
  discarded t v h (fewer b l a) =
      record { blocks = b; less = omega (arith, without_few (Settle.next_possible_block t) v.slices.possible_blocks) }

  passed : (t : Settling) (v : TailCall.Verdict) → Few t → (Settle.next_possible_block t ≡ 0 → ⊥) → v.answer ≡ possibly → Judged t.slices v → Less t (settling v.slices (Settle.next_possible_block t + 4))
  unfolding Settle.unsettled Settle.next_possible_block
  passed t v f h a (same q) = record { falls = rw q (omega (arith, next_passed t.current t.slices.possible_blocks h)); few = rw q f.few }
  passed t v f h a (fewer b l n) = absurd (never v.answer a n)

  settle_less : (t : Settling) (v : TailCall.Verdict) (a : TailCall.TailCall) → v.answer ≡ a → Few t → (Settle.next_possible_block t ≡ 0 → ⊥) → Judged t.slices v → Holds (Less t) (Settle.settle e low final (Settle.next_possible_block t) a v.slices)
  unfolding Settle.settle
  settle_less t v is_not q f h j = include_less t _ low v.slices f (discarded t v h j)
  settle_less t v is q f h j = add_function_reference_less t _ low _ f (discarded t v h j)
  settle_less t v possibly q f h j =
      if_holds (λ _. include_less t _ _ v.slices f (discarded t v h j)) (λ _. good (passed t v f h q j))

  step_less : (t : Settling) → Settle.is_unsettled t ≡ true → Few t → Holds (Less t) (Settle.settle_step e low final t)
  unfolding Settle.settle_step Settle.is_unsettled
  step_less t h f =
      bind_holds (check_tail_call_judged e (Settle.next_possible_block t) t.slices)
      (λ v j. settle_less t v v.answer refl f (eqb-false _ _ (not-true _ h)) j)

  pub few_kept : (t : Settling) → Settle.is_unsettled t ≡ true → Few t → Holds Few (Settle.settle_step e low final t)
  few_kept t h f = map_holds (step_less t h f) (λ u l. record { few = l.few })

  pub unsettled_falls : (t : Settling) → Settle.is_unsettled t ≡ true → Few t → Holds (λ u. Settle.unsettled e low final u < Settle.unsettled e low final t) (Settle.settle_step e low final t)
  unsettled_falls t h f = map_holds (step_less t h f) (λ u l. l.falls)

  pub settle_all_step : (t : Settling) → Settle.is_unsettled t ≡ true → Few t → Settle.settle_all e low final t ≡ (Settle.settle_step e low final t >>= Settle.settle_all e low final)
  unfolding Settle.settle_all
  settle_all_step t h f = loop_step Settle.is_unsettled (Settle.settle_step e low final) Few few_kept (Settle.unsettled e low final) unsettled_falls t h f

  pub settle_all_ends : (t : Settling) → Few t → Holds (λ u. Settle.is_unsettled u ≡ false) (Settle.settle_all e low final t)
  unfolding Settle.settle_all
  settle_all_ends t f = loop_ends Settle.is_unsettled (Settle.settle_step e low final) Few few_kept (Settle.unsettled e low final) unsettled_falls t f
