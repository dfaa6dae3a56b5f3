-- The entries of a jump table among the blocks of a function.
use Rattle.std.proofs.Common.{◌≡◌, ℕ, ◌<◌, ◌≤◌, Bool, true, false, ◌||◌, List, [], ◌∷◌, length, refl, sym, ap, ◌∙◌, leb, arith}
use Rattle.std.specs.Prelude.{max}
use mathlib.Core.Bool.{false≢true}
use borrow.Author.Tests.{le-leb, lt-leb, leb-true, leb-false}
use Rattle.rules.specs.Choice.{if_true, if_false, any, ok, fault, ◌>>=◌}
use Rattle.rules.specs.JumpTable.{Entries, jump_table_entries}
use Rattle.rules.specs.Slices.{Slices, set_jump_table_reference, set_branches, add_all_possible_blocks}
use Rattle.rules.specs.Step.{Around, Walk, with_slices, on_slices, mark_and_push_all, known_end, is_own_table, do_own_table, do_table}
use Rattle.walks.proofs.Steps.{after_ok, after_err, fault_on_slices}

-- a test that is the same
pub any_same : {A : Type 0} (p q : A → Bool) → ((x : A) → p x ≡ q x) → (l : List A) → any p l ≡ any q l
any_same p q e [] = refl
any_same p q e (x ∷ l) = rw (e x, any_same p q e l) refl

-- at most the greater of two
pub under_either : (t a b : ℕ) → leb t (max a b) ≡ (leb t a || leb t b)
under_either t a b = go (leb t a) refl (leb t b) refl
  where
    go : (x : Bool) → leb t a ≡ x → (y : Bool) → leb t b ≡ y → leb t (max a b) ≡ (x || y)
    go true p y q = let h : t ≤ a = leb-true t a p in le-leb t (max a b) (omega arith)
    go false p true q = let h : t ≤ b = leb-true t b q in le-leb t (max a b) (omega arith)
    go false p false q =
        let g : a < t = leb-false t a p in
        let h : b < t = leb-false t b q in
        lt-leb t (max a b) (omega arith)

-- a test that holds of one of them
pub some_of : {A : Type 0} (p : A → Bool) (l : List A) → any p l ≡ true → 0 < length l
some_of p [] e = absurd (false≢true e)
some_of p (x ∷ l) e = omega arith

-- what becomes of a table
module _ (e : Around) (k t : ℕ) (r : Entries) (w : Walk) (size : ℕ) (same_size : size ≡ r.size) where
  pub reference_err : (n : ℕ) → fault n ≡ set_jump_table_reference t size w.slices → fault n ≡ do_own_table e k t r w
  unfolding do_own_table
  reference_err n h = sym (after_err _ (fault_on_slices (set_jump_table_reference t r.size) w n (rw same_size at h)))

  module _ (s : Slices) (set : ok s ≡ set_jump_table_reference t size w.slices) (l : List ℕ) (same : l ≡ r.taken) where
    was_set : ok (with_slices w s) ≡ on_slices (set_jump_table_reference t r.size) w
    unfolding on_slices ◌>>=◌
    was_set = rw (← same_size, ← set) refl

    pub blocks_err : (n : ℕ) → fault n ≡ mark_and_push_all l (with_slices w s) → fault n ≡ do_own_table e k t r w
    unfolding do_own_table
    blocks_err n h = sym (after_ok _ was_set ∙ after_err _ (rw same at h))

    pub own_ok : (u : Walk) → ok u ≡ mark_and_push_all l (with_slices w s) → do_own_table e k t r w ≡ on_slices (set_branches k l) u
    unfolding do_own_table
    own_ok u h = after_ok _ was_set ∙ after_ok _ (rw same at h) ∙ ap (λ (m : List ℕ). on_slices (set_branches k m) u) (sym same)

module _ (e : Around) (k t n : ℕ) (w : Walk) where
  pub table_err : (m : ℕ) → fault m ≡ jump_table_entries e.image t n e.start (known_end e w.slices) → fault m ≡ do_table e k t n w
  unfolding do_table
  table_err m h = sym (after_err _ h)

  module _ (r : Entries) (h : ok r ≡ jump_table_entries e.image t n e.start (known_end e w.slices)) (l : List ℕ) (same : l ≡ r.taken) (b : Bool) (is_own : b ≡ is_own_table e k l w.slices) where
    pub own_table : b ≡ true → do_table e k t n w ≡ do_own_table e k t r w
    unfolding do_table
    own_table q = after_ok _ h ∙ if_true (ap (λ (m : List ℕ). is_own_table e k m w.slices) (sym same) ∙ sym is_own ∙ q) _ _

    pub other_table : b ≡ false → do_table e k t n w ≡ on_slices (add_all_possible_blocks l) w
    unfolding do_table
    other_table q = after_ok _ h ∙ if_false (ap (λ (m : List ℕ). is_own_table e k m w.slices) (sym same) ∙ sym is_own ∙ q) _ _ ∙ ap (λ (m : List ℕ). on_slices (add_all_possible_blocks m) w) (sym same)
