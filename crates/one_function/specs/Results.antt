-- What the walk of one function answers, and what it leaves in the lent list.
use Rattle.std.specs.Prelude.{◌≡◌, Bool, List, ℕ, leb, length, replicate, Result}
use Rattle.rules.specs.Choice.{if, Answer, ok, fault, ◌>>=◌}
use Rattle.rules.specs.Slices.{Slices}
use Rattle.rules.specs.Analyze.{Analyzed}
use Rattle.rules.specs.OneFunction.{numbers, stored}
use Rattle.faults.specs.declared.Fault.{Fault}
use Rattle.faults.specs.Outcome.{answer}
use Rattle.runs.specs.Runs.{padded}
use Rattle.numbers.specs.Stored.{header_of}
use Rattle.one_function.specs.declared.Function.{Function}

-- all fields
abbrev pub analyzed : Bool → Slices → Analyzed
analyzed f s = record { slices = s; found = f }

-- a function's lists by their lengths, and what is no list
abbrev pub function_of : Analyzed → Function
function_of x = record { found = x.found; header = header_of x.slices }

-- an analysis whose lists are stored
abbrev pub kept_in : ℕ → Answer Analyzed → Answer Analyzed
kept_in room a = a >>= λ r. stored room r

-- what it leaves in so much room: a fault leaves zeros
abbrev pub Leaves : Answer Analyzed → ℕ → List ℕ → Answer Function → Type 0
Leaves (ok x) room after r = (r ≡ ok (function_of x)) × (after ≡ padded (numbers x.slices) room)
Leaves (fault n) room after r = (r ≡ fault n) × (after ≡ replicate room 0)

pub record Finished (a : Answer Analyzed) (room : ℕ) (after : List ℕ) (r : Result Function Fault) : Type 0 where
  pub leaves : Leaves a room after (answer r)

-- the whole: 1 to 3 leave the list as it was
abbrev pub Answers : Answer Analyzed → List ℕ → List ℕ → Answer Function → Type 0
Answers (ok x) before after r = (r ≡ ok (function_of x)) × (after ≡ padded (numbers x.slices) (length before))
Answers (fault n) before after r = (r ≡ fault n) × (after ≡ if (leb n 3) before (replicate (length before) 0))

pub record Told (a : Answer Analyzed) (before after : List ℕ) (r : Result Function Fault) : Type 0 where
  pub answers : Answers a before after (answer r)
