-- The outcome of a code word by value. Assumes nothing.
use Prim.Native.Nat.{ℕ, zero, suc, ◌+◌, ◌*◌, ◌-◌, ◌/◌, ◌%◌, ◌≤◌, ◌<◌}
use mathlib.Core.Path.{◌≡◌, refl, sym, ap, ◌∙◌}
use mathlib.Core.Bool.{Bool, true, false}
use mathlib.Core.List.{List, [], ◌∷◌, ◌++◌, map}
use native.Mathlib.Omega.{arith}
use lib.Dec.{eqb}
use lib.ListN.{length, take, drop, get_or, length-take, length-drop}
use Rattle.std.specs.Simd.{first_chunks}
use borrow.Author.Tests.{eqb-false, ne_eqb, le-leb}
use Rattle.rules.specs.Choice.{if}
use Rattle.rules.specs.Address.{address_of}
use Rattle.rules.specs.Image as images
use Rattle.rules.specs.Given.{OutcomeRow, branch_of, outcome_of, told_of, image_of}
use Rattle.obj_image.specs.Lent.{Lent, rows, outcome_row, branch_row, to_number, given, image}
use Rattle.obj.specs.Sections.{IsCode}
use Rattle.obj.specs.Outcomes.{row_of, read_outcome, row_by, to_list, branch_list, outcome_for, told_for, is_go_on, goes_on}
use Rattle.obj.specs.declared.sections.Code.{Code}
use Rattle.obj_rows.specs.declared.outcomes.Row.{Row}
use Rattle.obj.specs.declared.outcomes.Branch.{Branch}
use Rattle.obj.specs.declared.outcomes.To.TheVariants.{Nowhere, Address, Table, Elsewhere}
use Rattle.obj.specs.declared.outcomes.Outcome.{Outcome}
use Rattle.obj.specs.declared.outcomes.Outcome.TheVariants.{Branches}
use Rattle.obj_image.proofs.Rows.{row_next, rows_drop, getD_mapped, chunk_at}
use Rattle.obj_rows.proofs.OutcomeRows.{row_kind, row_mark, whole_outcome}

-- ---- a branch

module _ (way a : ℕ) where
  one_branch : (way ≡ 0 → ⊥) → map branch_of (branch_row way a) ≡ branch_of (record { link = way / 4; to = to_number way; address = a }) ∷ []
  unfolding if
  one_branch h = rw (ne_eqb way 0 h)

  pub branch_to_address : way % 4 ≡ 1 → to_list (eqb (way / 4) 1) (Address a) ≡ map branch_of (branch_row way a)
  unfolding if
  branch_to_address h = sym (one_branch (λ z. omega arith) ∙ rw h)

  pub branch_to_table : way % 4 ≡ 2 → to_list (eqb (way / 4) 1) (Table a) ≡ map branch_of (branch_row way a)
  unfolding if
  branch_to_table h = sym (one_branch (λ z. omega arith) ∙ rw h)

  pub branch_to_none : way ≡ 0 → a ≡ 0 → to_list (eqb (way / 4) 1) Nowhere ≡ map branch_of (branch_row way a)
  unfolding if
  branch_to_none h k = rw (h, k)

  pub branch_unmarked : way ≡ 0 → (a ≡ 0 → ⊥) → to_list (eqb (way / 4) 1) Elsewhere ≡ map branch_of (branch_row way a)
  unfolding if
  branch_unmarked h k = rw (h, ne_eqb a 0 k)

  pub branch_elsewhere : (way ≡ 0 → ⊥) → (way % 4 ≡ 1 → ⊥) → (way % 4 ≡ 2 → ⊥) → to_list (eqb (way / 4) 1) Elsewhere ≡ map branch_of (branch_row way a)
  unfolding if
  branch_elsewhere h k m = sym (one_branch h ∙ go (eqb (way % 4) 0) refl)
    where
      other : (eqb (way % 4) 0 ≡ false) → (eqb (way % 4 - 1) 0 ≡ false) × (eqb (way % 4 - 1) 1 ≡ false)
      other e = (ne_eqb (way % 4 - 1) 0 (λ q. low (way % 4) (eqb-false _ _ e) k q), ne_eqb (way % 4 - 1) 1 (λ q. m (omega arith)))
        where
          low : (n : ℕ) → (n ≡ 0 → ⊥) → (n ≡ 1 → ⊥) → n - 1 ≡ 0 → ⊥
          low zero f g q = f refl
          low (suc n) f g q = g (omega arith)

      go : (b : Bool) → eqb (way % 4) 0 ≡ b → (record { link = eqb (way / 4) 1; to = if (eqb (if b 3 (way % 4 - 1)) 0) (images.to_address a) (if (eqb (if b 3 (way % 4 - 1)) 1) (images.to_table a) images.elsewhere) } ∷ []) ≡ to_list (eqb (way / 4) 1) Elsewhere
      go true e = refl
      go false e = rw ((other e).0, (other e).1)

-- ---- an outcome

map_append : {A B : Type 0} (f : A → B) (l m : List A) → map f (l ++ m) ≡ map f l ++ map f m
map_append f [] m = refl
map_append f (x ∷ l) m = ap (λ (t : List _). f x ∷ t) (map_append f l m)

module _ (r : Row) where
  -- of a kind below 6
  pub of_kind : (k : ℕ) (t : images.Outcome) → r.kind ≡ k → t ≡ outcome_of (row_of (record { kind = k; mark = r.mark; first = r.first; second = r.second; third = r.third; fourth = r.fourth })) → t ≡ outcome_of (row_of r)
  of_kind k t e h = rw e h

  pub of_list : (b d : Branch) → 6 ≤ r.kind → branch_list b ≡ map branch_of (branch_row r.first r.second) → branch_list d ≡ map branch_of (branch_row r.third r.fourth) → outcome_for (Branches b d) ≡ outcome_of (row_of r)
  unfolding if
  of_list b d high e f =
      let ne : (n : ℕ) → n < 6 → eqb r.kind n ≡ false = λ n h. ne_eqb r.kind n (λ q. omega arith) in
      rw (le-leb 6 r.kind high, ne 0 (omega arith), ne 1 (omega arith), ne 2 (omega arith), ne 3 (omega arith), ne 4 (omega arith), ne 5 (omega arith), map_append branch_of (branch_row r.first r.second) (branch_row r.third r.fourth), e, f) refl

-- ---- at an address

abbrev told : images.Outcome → Bool → images.Told
told o m = record { outcome = o; mark = m }

abbrev nothing : images.Told
nothing = told images.illegal false

-- the row i, as std cuts it
pub told_row : (o : List ℕ) (cs : List (List ℕ)) → cs ≡ first_chunks 6 (length o / 6) o → (i : ℕ) → i * 6 + 6 ≤ length o → (r : Row) → r ≡ row_by (get_or cs i []) → rows 6 outcome_row (drop (i * 6) o) ≡ row_of r ∷ rows 6 outcome_row (drop (i * 6 + 6) o)
told_row o cs cut i h r here =
    let c : List ℕ = take 6 (drop (i * 6) o) in
    let six : length c ≡ 6 = rw (length-take, length-drop) (omega arith) in
    let e : get_or cs i [] ≡ c = ap (λ (l : List (List ℕ)). get_or l i []) cut ∙ chunk_at 6 (length o / 6) o i (omega arith) in
    row_next 6 (omega arith) outcome_row o (i * 6) (omega arith)
    ∙ ap (λ (x : OutcomeRow). x ∷ rows 6 outcome_row (drop (i * 6 + 6) o)) (whole_outcome c six ∙ ap read_outcome (sym e) ∙ ap row_of (sym here))

pub told_is : (o : List ℕ) (c : Code) (k a i : ℕ) (r : Row) (u : Outcome) → a ≡ address_of k → i ≡ (a - c.base) / 4 → rows 6 outcome_row (drop (i * 6) o) ≡ row_of r ∷ rows 6 outcome_row (drop (i * 6 + 6) o) → outcome_for u ≡ outcome_of (row_of r) → (l : Lent) → l.outcomes ≡ o → IsCode l c → told_for (record { outcome = u; mark = eqb r.mark 1 }) ≡ images.told_at (image l) k
unfolding images.told_at images.index image_of given
told_is o c k a i r u ea ei next e l is code =
    let at : (address_of k - (images.code_section (image l)).base) / 4 ≡ i = ap (λ (n : ℕ). (address_of k - n) / 4) (sym code.base) ∙ ap (λ (n : ℕ). (n - c.base) / 4) (sym ea) ∙ sym ei in
    let here : told (outcome_for u) (eqb r.mark 1) ≡ told_of (row_of r) = ap (λ (w : images.Outcome). told w (eqb r.mark 1)) e ∙ ap (λ (n : ℕ). told (outcome_of (row_of r)) (eqb n 1)) (sym (row_mark r)) in
    here
    ∙ sym (getD_mapped told_of nothing (rows 6 outcome_row o) i (row_of r) _ (rows_drop 6 (omega arith) outcome_row o i ∙ next))
    ∙ ap (λ (t : List ℕ). get_or (map told_of (rows 6 outcome_row t)) i nothing) (sym is)
    ∙ ap (λ (n : ℕ). get_or (map told_of (rows 6 outcome_row l.outcomes)) n nothing) (sym at)

-- ---- going on

-- by the kind
kind_goes_on : (r : OutcomeRow) → eqb r.kind 0 ≡ is_go_on (outcome_of r)
unfolding if
kind_goes_on r = by (eqb r.kind 0) (eqb r.kind 1) (eqb r.kind 2) (eqb r.kind 3) (eqb r.kind 4) (eqb r.kind 5)
  where
    by : (a b c d e f : Bool) → a ≡ is_go_on (if a images.go_on (if b images.illegal (if c images.unknown (if d images.return (if e (images.jump r.address) (if f (images.jump_table r.address r.size) (images.branches (map branch_of r.branches))))))))
    by true b c d e f = refl
    by false true c d e f = refl
    by false false true d e f = refl
    by false false false true e f = refl
    by false false false false true f = refl
    by false false false false false true = refl
    by false false false false false false = refl

pub goes_on_is : (o : List ℕ) (cs : List (List ℕ)) → cs ≡ first_chunks 6 (length o / 6) o → (i : ℕ) → i * 6 + 6 ≤ length o → (l : Lent) → l.outcomes ≡ o → eqb (get_or (get_or cs i []) 0 0) 0 ≡ goes_on (image l) i
unfolding goes_on image_of given
goes_on_is o cs cut i h l is =
    let r : Row = row_by (get_or cs i []) in
    let there : get_or (map told_of (rows 6 outcome_row o)) i nothing ≡ told_of (row_of r) = getD_mapped told_of nothing (rows 6 outcome_row o) i (row_of r) _ (rows_drop 6 (omega arith) outcome_row o i ∙ told_row o cs cut i h r refl) in
    ap (λ (n : ℕ). eqb n 0) (sym (row_kind r)) ∙
    kind_goes_on (row_of r) ∙
    ap (λ (t : images.Told). is_go_on t.outcome) (sym there) ∙
    ap (λ (t : List ℕ). is_go_on (get_or (map told_of (rows 6 outcome_row t)) i nothing).outcome) (sym is)
