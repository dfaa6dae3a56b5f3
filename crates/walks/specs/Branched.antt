-- A branch as an answer of the rules.
use Rattle.std.specs.Prelude.{ℕ, List, [], ◌∷◌, ◌++◌, Option, Some, None, Result, Ok, Err}
use Rattle.rules.specs.Choice.{Answer, ok, fault}
use Rattle.rules.specs.Step as rules
use Rattle.faults.specs.declared.Fault.{Fault}
use Rattle.faults.specs.Number.{number_of}

-- where it goes on, if it does
abbrev pub way : Option ℕ → List ℕ
way None = []
way (Some t) = t ∷ []

-- the walk, and the ways on so far
abbrev pub branched : rules.Walk → List ℕ → Result (Option ℕ) Fault → Answer (rules.Walk × List ℕ)
branched w out (Ok on) = ok (w, out ++ way on)
branched w out (Err e) = fault (number_of e)
