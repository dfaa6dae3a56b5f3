-- Outcomes as rows.
use Rattle.std.specs.Prelude.{ℕ, ◌<◌, ◌≡◌, List, [], ◌∷◌, get_or, Result, MatchResult}
use Rattle.rules.specs.Given.{OutcomeRow}
use Rattle.obj_image.specs.Lent.{outcome_row}
use Rattle.obj_rows.specs.declared.outcomes.Row.{Row}
use Rattle.obj_rows.specs.declared.outcomes.Kind.{Kind}
use Rattle.obj_rows.specs.declared.outcomes.Kind.TheVariants.{GoOn, Illegal, Unknown, Return, Jump, JumpTable, Branches}
use Rattle.obj_rows.specs.declared.outcomes.UnknownKind.{UnknownKind}

-- a row by value, from its numbers
abbrev pub row_by : List ℕ → Row
row_by c = record { kind = get_or c 0 0; mark = get_or c 1 0; first = get_or c 2 0; second = get_or c 3 0; third = get_or c 4 0; fourth = get_or c 5 0 }

-- a row by value
abbrev pub row_of : Row → OutcomeRow
row_of r = outcome_row (r.kind ∷ r.mark ∷ r.first ∷ r.second ∷ r.third ∷ r.fourth ∷ [])

-- six numbers, as a row
abbrev pub read_outcome : List ℕ → OutcomeRow
read_outcome c = row_of (row_by c)

-- the kinds' numbers
abbrev pub number_of : Kind → ℕ
number_of GoOn = 0
number_of Illegal = 1
number_of Unknown = 2
number_of Return = 3
number_of Jump = 4
number_of JumpTable = 5
number_of Branches = 6

-- the kind with a number, or none
abbrev pub Decodes : ℕ → Result Kind UnknownKind → Type 0
Decodes n r = MatchResult r (λ k. number_of k ≡ n) (λ e. (e.0 ≡ n) × (6 < n))
