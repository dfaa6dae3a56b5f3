-- Outcomes by value; as rows they are passed on.
use Rattle.std.specs.Prelude.{ℕ, ◌+◌, ◌*◌, ◌-◌, ◌/◌, ◌≤◌, Bool, true, false, List, get_or, [], ◌∷◌, ◌++◌, length}
use Rattle.rules.specs.Address.{address_of}
use Rattle.rules.specs.Image as images
use Rattle.obj.specs.declared.sections.Code.{Code}
use Rattle.obj.specs.declared.outcomes.Branch.{Branch}
use Rattle.obj.specs.declared.outcomes.Told.{Told}
use Rattle.obj.specs.declared.outcomes.To.{To}
use Rattle.obj.specs.declared.outcomes.To.TheVariants.{Nowhere, Address, Table, Elsewhere}
use Rattle.obj.specs.declared.outcomes.Outcome.{Outcome}
use Rattle.obj.specs.declared.outcomes.Outcome.TheVariants.{GoOn, Illegal, Unknown, Return, Jump, JumpTable, Branches}
pub use Rattle.obj_rows.specs.Outcomes.{row_by, row_of, read_outcome}

-- a branch by value: one that goes nowhere is none
abbrev pub to_list : Bool → To → List images.Branch
to_list k Nowhere = []
to_list k (Address a) = record { link = k; to = images.to_address a } ∷ []
to_list k (Table a) = record { link = k; to = images.to_table a } ∷ []
to_list k Elsewhere = record { link = k; to = images.elsewhere } ∷ []

abbrev pub branch_list : Branch → List images.Branch
branch_list b = to_list b.link b.to

-- an outcome by value
abbrev pub outcome_for : Outcome → images.Outcome
outcome_for GoOn = images.go_on
outcome_for Illegal = images.illegal
outcome_for Unknown = images.unknown
outcome_for Return = images.return
outcome_for (Jump a) = images.jump a
outcome_for (JumpTable a n) = images.jump_table a n
outcome_for (Branches b c) = images.branches (branch_list b ++ branch_list c)

-- with its mark
abbrev pub told_for : Told → images.Told
told_for t = record { outcome = outcome_for t.outcome; mark = t.mark }

-- to go on
abbrev pub is_go_on : images.Outcome → Bool
is_go_on images.go_on = true
is_go_on images.illegal = false
is_go_on images.unknown = false
is_go_on images.return = false
is_go_on (images.jump a) = false
is_go_on (images.jump_table a n) = false
is_go_on (images.branches l) = false

-- the code word i goes on
unfoldable pub goes_on : images.Image → ℕ → Bool
goes_on im i = is_go_on (get_or im.told i (record { outcome = images.illegal; mark = false })).outcome

-- the key k lies in code, whose words have an outcome each
pub record InCode (outcomes : List ℕ) (c : Code) (k : ℕ) : Type 0 where
  pub low : c.base ≤ address_of k
  pub row : ((address_of k - c.base) / 4) * 6 + 6 ≤ length outcomes
