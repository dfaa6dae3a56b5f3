-- Outcomes: what each test has found at its returns. Assumes nothing.
use Prim.Native.Nat.{ℕ, ◌+◌, ◌-◌, ◌/◌, ◌%◌, ◌≤◌, ◌<◌}
use mathlib.Core.Path.{◌≡◌, refl, sym, ap, ◌∙◌}
use mathlib.Core.Bool.{Bool, true, false, ◌&&◌, and-true, and_assoc}
use mathlib.Core.List.{List, [], ◌∷◌, ◌++◌}
use native.Mathlib.Omega.{arith}
use lib.Dec.{leb, eqb}
use lib.ListN.{length, drop, get_or, length-append}
use borrow.Author.Tests.{eq-eqb, ne_eqb, le-leb, lt-leb}
use Rattle.rules.specs.Choice.{if, by_if}
use Rattle.rules.specs.Image.{Image}
use Rattle.rules.specs.Given.{BranchRow, OutcomeRow}
use Rattle.rules.specs.Check as rules
use Rattle.obj_image.specs.Lent.{rows, outcome_row, branch_row, to_number}
use Rattle.obj_rows.specs.Outcomes.{row_of, read_outcome, number_of}
use Rattle.obj_rows.specs.declared.outcomes.Kind.{Kind}
use Rattle.obj_rows.specs.declared.outcomes.Kind.TheVariants.{GoOn, Illegal, Unknown, Return, Jump, JumpTable, Branches}
use Rattle.obj_rows.specs.declared.outcomes.Row.{Row}
use Rattle.obj_image.proofs.Rows.{row_here, middle_false}

-- an outcome's row, by its numbers
pub outcome_here : (l : List ℕ) (at : ℕ) → at + 6 ≤ length l → rows 6 outcome_row (drop at l) ≡ row_of (record { kind = get_or l at 0; mark = get_or l (at + 1) 0; first = get_or l (at + 2) 0; second = get_or l (at + 3) 0; third = get_or l (at + 4) 0; fourth = get_or l (at + 5) 0 }) ∷ rows 6 outcome_row (drop (at + 6) l)
outcome_here l at h = row_here l at 5 outcome_row h

-- six numbers are a row
pub whole_outcome : (c : List ℕ) → length c ≡ 6 → outcome_row c ≡ read_outcome c
unfolding if
whole_outcome c h = rw h refl

-- ---- check 2

module _ (im : Image) (way a : ℕ) where
  abbrev one_row : BranchRow
  one_row = record { link = way / 4; to = to_number way; address = a }

  one_branch : (way ≡ 0 → ⊥) → rules.all (rules.is_branch_row im) (branch_row way a) ≡ rules.is_branch_row im one_row
  unfolding if
  one_branch h = rw (ne_eqb way 0 h) (and-true _)

  pub zero_way : way ≡ 0 → eqb a 0 ≡ rules.all (rules.is_branch_row im) (branch_row way a)
  unfolding if
  zero_way h = rw h (go (eqb a 0))
    where
      go : (b : Bool) → b ≡ rules.all (rules.is_branch_row im) (if b [] (record { link = 0; to = 3; address = a } ∷ []))
      go true = refl
      go false = refl

  pub to_nowhere : (way ≡ 0 → ⊥) → way % 4 ≡ 0 → false ≡ rules.all (rules.is_branch_row im) (branch_row way a)
  unfolding if
  to_nowhere some h = sym (one_branch some ∙ rw (eq-eqb (way % 4) 0 h) (middle_false (leb (way / 4) 1) _))

  pub to_elsewhere : way % 4 ≡ 3 → (leb (way / 4) 1 && eqb a 0) ≡ rules.all (rules.is_branch_row im) (branch_row way a)
  unfolding if
  to_elsewhere h = sym (one_branch (λ z. omega arith) ∙ rw h (ap (λ (t : Bool). t && eqb a 0) (and-true (leb (way / 4) 1))))

  pub to_inside : (b : Bool) → (way % 4 ≡ 0 → ⊥) → (way % 4 ≡ 3 → ⊥) → b ≡ rules.is_inside im a → (leb (way / 4) 1 && b) ≡ rules.all (rules.is_branch_row im) (branch_row way a)
  unfolding if
  to_inside b h k e =
      let n : eqb (way % 4 - 1) 2 ≡ false = ne_eqb (way % 4 - 1) 2 (λ q. k (omega arith)) in
      let m : leb (way % 4 - 1) 2 ≡ true = le-leb (way % 4 - 1) 2 (omega arith) in
      rw e (sym (one_branch (λ z. h (rw z refl)) ∙ rw (ne_eqb (way % 4) 0 h, n, m) (ap (λ (t : Bool). t && rules.is_inside im a) (and-true (leb (way / 4) 1)))))

-- the kinds' numbers
pub number_small : (k : Kind) → number_of k ≤ 6
number_small GoOn = omega arith
number_small Illegal = omega arith
number_small Unknown = omega arith
number_small Return = omega arith
number_small Jump = omega arith
number_small JumpTable = omega arith
number_small Branches = omega arith

-- no branch is two zeros
no_branch : (c d : ℕ) → eqb (length (branch_row c d)) 0 ≡ (eqb c 0 && eqb d 0)
unfolding if
no_branch c d = go (eqb c 0 && eqb d 0)
  where
    go : (b : Bool) → eqb (length {A = BranchRow} (if b [] (record { link = c / 4; to = to_number c; address = d } ∷ []))) 0 ≡ b
    go true = refl
    go false = refl

few_branches : (c d : ℕ) → length (branch_row c d) ≤ 1
unfolding if
few_branches c d = go (eqb c 0 && eqb d 0)
  where
    go : (b : Bool) → length {A = BranchRow} (if b [] (record { link = c / 4; to = to_number c; address = d } ∷ [])) ≤ 1
    go true = omega arith
    go false = omega arith

all_append : {A : Type 0} (p : A → Bool) (l m : List A) → rules.all p (l ++ m) ≡ (rules.all p l && rules.all p m)
all_append p [] m = refl
all_append p (x ∷ l) m = ap (λ (t : Bool). p x && t) (all_append p l m) ∙ sym (and_assoc (p x) (rules.all p l) (rules.all p m))

pub row_kind : (r : Row) → (row_of r).kind ≡ r.kind
unfolding if
row_kind r = by_if (λ (x : OutcomeRow). x.kind ≡ r.kind) (leb 6 r.kind) (λ _. refl) (λ _. refl)

pub row_mark : (r : Row) → (row_of r).mark ≡ r.mark
unfolding if
row_mark r = by_if (λ (x : OutcomeRow). x.mark ≡ r.mark) (leb 6 r.kind) (λ _. refl) (λ _. refl)

module _ (im : Image) (r : Row) where
  pub list_fits : (b d : Bool) → r.kind ≡ 6 → b ≡ rules.all (rules.is_branch_row im) (branch_row r.first r.second) → d ≡ rules.all (rules.is_branch_row im) (branch_row r.third r.fourth) → (b && d) ≡ rules.fits_kind im (row_of r)
  unfolding if
  list_fits b d h e f =
      let l : leb (length (branch_row r.first r.second ++ branch_row r.third r.fourth)) 2 ≡ true = le-leb (length (branch_row r.first r.second ++ branch_row r.third r.fourth)) 2 (rw length-append (omega (arith, few_branches r.first r.second, few_branches r.third r.fourth))) in
      rw (h, l, all_append, e, f) refl

  pub table_fits : (b : Bool) → r.kind ≡ 5 → b ≡ rules.is_inside im r.first → (b && leb r.second 65536 && (eqb r.third 0 && eqb r.fourth 0)) ≡ rules.fits_kind im (row_of r)
  unfolding if
  table_fits b h e = rw (h, no_branch r.third r.fourth, e) refl

  pub jump_fits : (b : Bool) → r.kind ≡ 4 → b ≡ rules.is_inside im r.first → (b && eqb r.second 0 && (eqb r.third 0 && eqb r.fourth 0)) ≡ rules.fits_kind im (row_of r)
  unfolding if
  jump_fits b h e = rw (h, no_branch r.third r.fourth, e) refl

  pub plain_fits : r.kind ≤ 3 → (eqb r.first 0 && eqb r.second 0 && (eqb r.third 0 && eqb r.fourth 0)) ≡ rules.fits_kind im (row_of r)
  unfolding if
  plain_fits le =
      rw (lt-leb 6 r.kind (omega arith), ne_eqb r.kind 6 (λ z. omega arith), ne_eqb r.kind 5 (λ z. omega arith), ne_eqb r.kind 4 (λ z. omega arith), no_branch r.third r.fourth) refl

  pub outcome_is : (b : Bool) → r.kind ≤ 6 → b ≡ rules.fits_kind im (row_of r) → (leb r.mark 1 && b) ≡ rules.is_outcome im (row_of r)
  outcome_is b h e =
      let k : leb (row_of r).kind 6 ≡ true = ap (λ (n : ℕ). leb n 6) (row_kind r) ∙ le-leb _ _ h in
      let m : leb (row_of r).mark 1 ≡ leb r.mark 1 = ap (λ (n : ℕ). leb n 1) (row_mark r) in
      ap (λ (t : Bool). leb r.mark 1 && t) e
      ∙ ap (λ (t : Bool). t && rules.fits_kind im (row_of r)) (sym m)
      ∙ ap (λ (t : Bool). t && leb (row_of r).mark 1 && rules.fits_kind im (row_of r)) (sym k)

  pub no_kind : 6 < r.kind → false ≡ rules.is_outcome im (row_of r)
  no_kind h = ap (λ (t : Bool). t && leb (row_of r).mark 1 && rules.fits_kind im (row_of r)) (sym (ap (λ (n : ℕ). leb n 6) (row_kind r) ∙ lt-leb _ _ h))
