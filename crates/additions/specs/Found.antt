-- What a search behind the ends of functions finds.
use Rattle.std.specs.Prelude.{ℕ, List, ltb, Option, Some, None, Result, Ok, Err, option_to_list}
use Rattle.rules.specs.Choice.{if, Answer, ok, fault}
use Rattle.faults.specs.declared.Fault.{Fault}
use Rattle.faults.specs.Number.{number_of}

-- an address, if it lies below the end
abbrev pub some_below : ℕ → ℕ → Option ℕ
some_below end a = if (ltb a end) (Some a) None

-- a key, if one was found, or the number of the fault
abbrev pub found_of : Result (Option ℕ) Fault → Answer (List ℕ)
found_of (Ok key) = ok (option_to_list key)
found_of (Err e) = fault (number_of e)
