-- An analysis as an answer of the rules.
use Rattle.std.specs.Prelude.{Bool, Result, Ok, Err}
use Rattle.rules.specs.Choice.{Answer, ok, fault}
use Rattle.rules.specs.Slices.{Slices}
use Rattle.rules.specs.Analyze.{Analyzed}
use Rattle.faults.specs.declared.Fault.{Fault}
use Rattle.faults.specs.Number.{number_of}

-- a function's lists, and whether there is a function
abbrev pub analyzed : Slices → Result Bool Fault → Answer Analyzed
analyzed s (Ok found) = ok (record { slices = s; found = found })
analyzed s (Err e) = fault (number_of e)
