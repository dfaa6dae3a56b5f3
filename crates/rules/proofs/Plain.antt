-- A step of the walk at a plain word only marks the word and goes on; so a stretch of such steps is one leap.
use Prim.Native.Nat.{ℕ, zero, suc, ◌+◌, ◌*◌, ◌-◌, ◌/◌, ◌≤◌, ◌<◌}
use mathlib.Core.Path.{◌≡◌, refl, sym, ap, ◌∙◌, fun_ext}
use mathlib.Core.Bool.{Bool, true, false, ◌&&◌, ◌||◌, or-false}
use mathlib.Core.List.{List, [], ◌∷◌}
use native.Mathlib.Omega.{arith}
use native.Mathlib.Decide.{ℕ_discrete, dec_lt}
use lib.Dec.{eqb, leb, ltb}
use lib.ListN.{drop, get_or}
use borrow.Author.Tests.{eq-eqb, ne_eqb, le-leb, lt-leb, lt-ltb, le-ltb, leb-true, ltb-true, not-true}
use Rattle.rules.specs.Choice.{if, if_true, if_false, Answer, ok, ◌>>=◌}
use Rattle.rules.specs.Address.{address_of}
use Rattle.rules.specs.Words as words
use Rattle.rules.specs.Sequences as sequences
use Rattle.rules.specs.Image as images
use Rattle.rules.specs.Image.{Image, code_section}
use Rattle.rules.specs.Ordered.{self, has}
use Rattle.rules.specs.Blocks.{start_of}
use Rattle.rules.specs.Slices.{Slices, discard_possible_block, with_returns, with_possible_blocks}
use Rattle.rules.specs.Step as steps
use Rattle.rules.specs.Step.{Around, Walk, Place, at}
use Rattle.rules.specs.Walk as rules
use Rattle.rules.proofs.Tests.{and_left, and_right, or_left_false, or_right_false}
use Rattle.rules.proofs.Ordered.{without_not}
use Rattle.rules.proofs.WalkEnds.{Sound, run_walk_step}
use Rattle.rules.specs.Plain.{plain, Quick, Passes, with_run, leap}

-- ---- what a plain word is not

module _ (w : ℕ) (h : plain w ≡ true) where
  none : (words.is_stwu w || words.is_mflr w || words.is_mtlr w || words.is_or w || words.is_lwz w || words.is_conditional_blr w || words.is_rfi w) ≡ false
  unfolding plain
  none = not-true _ h

  one : (words.is_stwu w || words.is_mflr w) ≡ false
  one = or_left_false _ _ (or_left_false _ _ (or_left_false _ _ (or_left_false _ _ (or_left_false _ _ none))))

  no_stwu : words.is_stwu w ≡ false
  no_stwu = or_left_false _ _ one

  no_mflr : words.is_mflr w ≡ false
  no_mflr = or_right_false (words.is_stwu w) _ one

  no_mtlr : words.is_mtlr w ≡ false
  no_mtlr = or_right_false (words.is_stwu w || words.is_mflr w) _ (or_left_false _ _ (or_left_false _ _ (or_left_false _ _ (or_left_false _ _ none))))

  no_or : words.is_or w ≡ false
  no_or = or_right_false (words.is_stwu w || words.is_mflr w || words.is_mtlr w) _ (or_left_false _ _ (or_left_false _ _ (or_left_false _ _ none)))

  no_lwz : words.is_lwz w ≡ false
  no_lwz = or_right_false (words.is_stwu w || words.is_mflr w || words.is_mtlr w || words.is_or w) _ (or_left_false _ _ (or_left_false _ _ none))

  no_blr : words.is_conditional_blr w ≡ false
  no_blr = or_right_false (words.is_stwu w || words.is_mflr w || words.is_mtlr w || words.is_or w || words.is_lwz w) _ (or_left_false _ _ none)

  no_rfi : words.is_rfi w ≡ false
  no_rfi = or_right_false (words.is_stwu w || words.is_mflr w || words.is_mtlr w || words.is_or w || words.is_lwz w || words.is_conditional_blr w) _ none

  no_prologue : (ws : List ℕ) → sequences.check_prologue_sequence (w ∷ ws) ≡ false
  unfolding sequences.check_prologue_sequence sequences.prologue_pairs
  no_prologue ws = rw (no_stwu, no_mflr) refl

  no_epilogue : (ws : List ℕ) → sequences.check_epilogue_sequence (w ∷ ws) ≡ false
  unfolding sequences.check_epilogue_sequence sequences.epilogue_pairs
  no_epilogue ws = rw (no_mtlr, no_or) refl

  from_drop : (f : List ℕ → Bool) → f [] ≡ false → ((ws : List ℕ) → f (w ∷ ws) ≡ false) → (l : List ℕ) (i d : ℕ) → w ≡ get_or l i d → f (drop i l) ≡ false
  from_drop f e g [] zero d q = e
  from_drop f e g [] (suc i) d q = e
  from_drop f e g (x ∷ l) zero d q = ap (λ (y : ℕ). f (y ∷ l)) (sym q) ∙ g l
  from_drop f e g (x ∷ l) (suc i) d q = from_drop f e g l i d q

empty_prologue : sequences.check_prologue_sequence [] ≡ false
unfolding sequences.check_prologue_sequence sequences.prologue_pairs
empty_prologue = refl

empty_epilogue : sequences.check_epilogue_sequence [] ≡ false
unfolding sequences.check_epilogue_sequence sequences.epilogue_pairs
empty_epilogue = refl

-- ---- nothing is noted of it

module _ (im : Image) (k : ℕ) (quick : Quick im k) where
  abbrev here : ℕ
  here = images.word im (address_of k)

  is_here : here ≡ get_or (code_section im).words (images.index im k) images.no_word
  unfolding images.word images.index
  is_here =
      let m : address_of (address_of k) ≡ address_of k = omega arith in
      if_true quick.inside _ _ ∙ ap (λ (a : ℕ). get_or (code_section im).words ((a - (code_section im).base) / 4) images.no_word) m

  quiet_prologue : sequences.check_prologue_sequence (images.words_from im k) ≡ false
  unfolding images.words_from
  quiet_prologue = from_drop here quick.is_plain sequences.check_prologue_sequence empty_prologue (no_prologue here quick.is_plain) (code_section im).words (images.index im k) images.no_word is_here

  quiet_epilogue : sequences.check_epilogue_sequence (images.words_from im k) ≡ false
  unfolding images.words_from
  quiet_epilogue = from_drop here quick.is_plain sequences.check_epilogue_sequence empty_epilogue (no_epilogue here quick.is_plain) (code_section im).words (images.index im k) images.no_word is_here

  epilogue_kept : (s : Slices) → steps.check_epilogue im k s ≡ ok s
  unfolding steps.check_epilogue
  epilogue_kept s = if_false quiet_epilogue _ _

  prologue_kept : (s : Slices) → steps.check_prologue im k s ≡ ok s
  unfolding steps.check_prologue
  prologue_kept s = if_false (no_lwz here quick.is_plain) _ _ ∙ if_false quiet_prologue _ _

  pub sequences_kept : (s : Slices) → steps.check_sequences im k s ≡ ok s
  unfolding steps.check_sequences ◌>>=◌
  sequences_kept s = by (images.told_at im k).mark
    where
      by : (b : Bool) → if b (steps.check_epilogue im k s) (steps.check_prologue im k s >>= λ t. steps.check_epilogue im k t) ≡ ok s
      by true = unfold if in epilogue_kept s
      by false = unfold if in rw (prologue_kept s) (epilogue_kept s)

  same_fields : (s : Slices) (c r : Bool) (p : List ℕ) → c ≡ s.conditional_blr → r ≡ s.rfi → p ≡ s.possible_blocks → with_possible_blocks (with_returns s c r) p ≡ s
  same_fields s c r p a b d = rw (a, b, d) refl

  pub note_kept : (s : Slices) → has self k s.possible_blocks ≡ false → steps.note_word im k s ≡ s
  unfolding steps.note_word discard_possible_block
  note_kept s e =
      same_fields s _ _ _ (ap (λ (b : Bool). s.conditional_blr || b) (no_blr here quick.is_plain) ∙ or-false s.conditional_blr)
      (ap (λ (b : Bool). s.rfi || b) (no_rfi here quick.is_plain) ∙ or-false s.rfi) (without_not self k s.possible_blocks e)

-- ---- the next word

module _ (im : Image) (sound : Sound im) (k : ℕ) (inside : images.contains (code_section im) (address_of k) ≡ true) where
  low : (code_section im).base ≤ address_of k
  low = leb-true _ _ (and_left _ _ inside)

  high : address_of k < (code_section im).base + (code_section im).size
  high = ltb-true _ _ (and_right (leb (code_section im).base (address_of k)) _ inside)

  pub next_address : address_of (k + 4) ≡ address_of k + 4
  next_address = omega (arith, low, high, sound.fits)

  pub next_index : images.index im (k + 4) ≡ suc (images.index im k)
  unfolding images.index
  next_index = omega (arith, low, next_address)

-- ---- one step

other_bit : (v : ℕ → Bool) (i j : ℕ) → (j ≡ i → ⊥) → rules.with_one v i j ≡ v j
unfolding rules.with_one
other_bit v i j n = if_false (ne_eqb j i n) _ _

module _ (e : Around) (sound : Sound e.image) (k b : ℕ) (w : Walk) (p : Passes e k w) where
  abbrev i : ℕ
  i = images.index e.image k

  unmet : steps.is_met e (k + 4) (rules.visit i w) ≡ false
  unfolding steps.is_met steps.seen rules.visit
  unmet =
      ap (λ (x : Bool). images.in_code e.image (k + 4) && x || has start_of (k + 4) w.slices.blocks)
      (other_bit w.visited i (images.index e.image (k + 4)) (λ q. absurd (omega (arith, q, next_index e.image sound k p.quick.inside)))) ∙ p.free.next

  outcome_on : (o : images.Outcome) → o ≡ images.go_on → steps.do_outcome e k b o (rules.visit i w) ≡ ok (steps.walk_on k b (rules.visit i w))
  unfolding steps.do_outcome steps.do_go_on
  outcome_on o q = rw q (if_false unmet _ _)

  word_on : steps.do_word e k b (rules.visit i w) ≡ ok (steps.walk_on k b (rules.visit i w))
  unfolding steps.do_word
  word_on =
      let q : steps.is_known_function e (rules.visit i w).slices k ≡ false = unfold rules.visit in p.free.not_known in
      if_false q _ _ ∙ outcome_on _ p.quick.goes

  callback_on : steps.instruction_callback e k b (rules.visit i w) ≡ ok (steps.walk_on k b (rules.visit i w))
  unfolding steps.instruction_callback ◌>>=◌
  callback_on =
      let q : has self k (rules.visit i w).slices.possible_blocks ≡ false = unfold rules.visit in p.free.not_possible in
      rw (sequences_kept e.image k p.quick (rules.visit i w).slices, note_kept e.image k p.quick (rules.visit i w).slices q) word_on

  enter_on : rules.enter e k b w ≡ ok (steps.walk_on k b (rules.visit i w))
  unfolding rules.enter
  enter_on = if_true p.quick.inside _ _ ∙ callback_on

  -- a step at a plain word changes the place and the word's bit only
  pub plain_step : w.place ≡ at k b → rules.step e w ≡ ok (steps.walk_on k b (rules.visit i w))
  unfolding rules.step
  plain_step h = ap (λ (q : Place). rules.step_at e q w) h ∙ enter_on

  pub plain_lives : w.place ≡ at k b → rules.live w ≡ true
  unfolding rules.live
  plain_lives h = ap (λ (q : Place). rules.goes_on q w.pending) h

  pub plain_run : w.place ≡ at k b → rules.run_walk e w ≡ rules.run_walk e (steps.walk_on k b (rules.visit i w))
  unfolding ◌>>=◌
  plain_run h = run_walk_step e sound w (plain_lives h) ∙ ap (λ (a : Answer Walk). a >>= rules.run_walk e) (plain_step h)

-- ---- a run of bits

run_here : (v : ℕ → Bool) (i n j : ℕ) → i ≤ j → j < i + n → with_run v i n j ≡ true
unfolding with_run
run_here v i n j a b = if_true (rw (le-leb i j a, lt-ltb j (i + n) b) refl) _ _

run_below : (v : ℕ → Bool) (i n j : ℕ) → j < i → with_run v i n j ≡ v j
unfolding with_run
run_below v i n j a = if_false (rw (lt-leb i j a) refl) _ _

pub run_above : (v : ℕ → Bool) (i n j : ℕ) → i + n ≤ j → with_run v i n j ≡ v j
unfolding with_run
run_above v i n j a = if_false (rw (le-leb i j (omega (arith, a)), le-ltb j (i + n) a) refl) _ _

pub run_none : (v : ℕ → Bool) (i : ℕ) → with_run v i 0 ≡ v
run_none v i = fun_ext λ j. by j (dec_lt j i)
  where
    by : (j : ℕ) → Dec (j < i) → with_run v i 0 j ≡ v j
    by j (yes h) = run_below v i 0 j h
    by j (no h) = run_above v i 0 j (omega arith)

pub run_more : (v : ℕ → Bool) (i n : ℕ) → rules.with_one (with_run v i n) (i + n) ≡ with_run v i (suc n)
unfolding rules.with_one
run_more v i n = fun_ext λ j. by j (ℕ_discrete j (i + n)) (dec_lt j i) (dec_lt j (i + n))
  where
    by : (j : ℕ) → Dec (j ≡ i + n) → Dec (j < i) → Dec (j < i + n) → if (eqb j (i + n)) true (with_run v i n j) ≡ with_run v i (suc n) j
    by j (yes q) a b = if_true (eq-eqb j (i + n) q) _ _ ∙ sym (run_here v i (suc n) j (omega arith) (omega arith))
    by j (no q) (yes a) b = if_false (ne_eqb j (i + n) q) _ _ ∙ run_below v i n j a ∙ sym (run_below v i (suc n) j a)
    by j (no q) (no a) (yes b) = if_false (ne_eqb j (i + n) q) _ _ ∙ run_here v i n j (omega arith) b ∙ sym (run_here v i (suc n) j (omega arith) (omega arith))
    by j (no q) (no a) (no b) = if_false (ne_eqb j (i + n) q) _ _ ∙ run_above v i n j (omega arith) ∙ sym (run_above v i (suc n) j (above j q b))
      where
        above : (j : ℕ) → (j ≡ i + n → ⊥) → (j < i + n → ⊥) → i + suc n ≤ j
        above j q b = omega arith

-- ---- a stretch of plain words

or_true : (a : Bool) → (a || true) ≡ true
or_true true = refl
or_true false = refl

module _ (e : Around) (sound : Sound e.image) (k b : ℕ) (w : Walk) where
  abbrev Stretch : ℕ → Type 0
  Stretch n = (j : ℕ) → j < n → Passes e (k + 4 * j) w

  fewer : (n : ℕ) → Stretch (suc n) → Stretch n
  fewer n p j h = p j (omega arith)

  pub index_on : (n : ℕ) → Stretch n → images.index e.image (k + 4 * n) ≡ images.index e.image k + n
  index_on zero p =
      let q : k + 4 * 0 ≡ k = omega arith in
      let z : images.index e.image k ≡ images.index e.image k + 0 = omega arith in
      ap (images.index e.image) q ∙ z
  index_on (suc n) p =
      let q : k + 4 * suc n ≡ k + 4 * n + 4 = omega arith in
      ap (images.index e.image) q ∙ next_index e.image sound (k + 4 * n) (p n (omega arith)).quick.inside ∙ ap suc (index_on n (fewer n p)) ∙ omega arith

  pub leap_none : w.place ≡ at k b → leap e k b 0 w ≡ w
  unfolding leap
  leap_none h =
      let q : k + 4 * 0 ≡ k = omega arith in
      rw (run_none w.visited (images.index e.image k), or-false w.fresh, q, ← h) refl

  module _ (n : ℕ) (p : Stretch (suc n)) where
    still : images.index e.image (k + 4 * n) ≡ images.index e.image k + n
    still = index_on n (fewer n p)

    bit_same : (leap e k b n w).visited (images.index e.image (k + 4 * n)) ≡ false
    unfolding leap
    bit_same = run_above w.visited (images.index e.image k) n _ (omega (arith, still)) ∙ (p n (omega arith)).free.new

    next_same : steps.is_met e (k + 4 * n + 4) (leap e k b n w) ≡ false
    unfolding steps.is_met steps.seen leap
    next_same =
        ap (λ (x : Bool). images.in_code e.image (k + 4 * n + 4) && x || has start_of (k + 4 * n + 4) w.slices.blocks)
        (run_above w.visited (images.index e.image k) n _ (omega (arith, still, next_index e.image sound (k + 4 * n) (p n (omega arith)).quick.inside))) ∙ (p n (omega arith)).free.next

    passes_on : Passes e (k + 4 * n) (leap e k b n w)
    passes_on =
        let a : has self (k + 4 * n) (leap e k b n w).slices.possible_blocks ≡ false = unfold leap in (p n (omega arith)).free.not_possible in
        let c : steps.is_known_function e (leap e k b n w).slices (k + 4 * n) ≡ false = unfold leap in (p n (omega arith)).free.not_known in
        record { quick = (p n (omega arith)).quick; free = record { not_possible = a; not_known = c; new = bit_same; next = next_same } }

    leap_more : steps.walk_on (k + 4 * n) b (rules.visit (images.index e.image (k + 4 * n)) (leap e k b n w)) ≡ leap e k b (suc n) w
    unfolding steps.walk_on rules.visit leap
    leap_more =
        let q : k + 4 * n + 4 ≡ k + 4 * suc n = omega arith in
        let f : with_run w.visited (images.index e.image k) n (images.index e.image (k + 4 * n)) ≡ false = unfold leap in bit_same in
        rw (f, q, still, run_more w.visited (images.index e.image k) n, lt-ltb 0 (suc n) (omega arith), or_true w.fresh, or_true (w.fresh || ltb 0 n)) refl

  leap_at : (n : ℕ) → (leap e k b n w).place ≡ at (k + 4 * n) b
  unfolding leap
  leap_at n = refl

  -- so many steps of the walk are one leap
  pub leap_run : (n : ℕ) → w.place ≡ at k b → Stretch n → rules.run_walk e w ≡ rules.run_walk e (leap e k b n w)
  leap_run zero h p = ap (rules.run_walk e) (sym (leap_none h))
  leap_run (suc n) h p =
      leap_run n h (fewer n p) ∙ plain_run e sound (k + 4 * n) b (leap e k b n w) (passes_on n p) (leap_at n) ∙ ap (rules.run_walk e) (leap_more n p)

  -- and no more is left to do
  pub leap_left : (n : ℕ) → w.place ≡ at k b → Stretch n → rules.left e (leap e k b n w) ≤ rules.left e w
  unfolding rules.left leap
  leap_left n h p = let q : rules.ahead e w.place ≡ rules.ahead e (at k b) = ap (rules.ahead e) h in omega (arith, q, index_on n p)
