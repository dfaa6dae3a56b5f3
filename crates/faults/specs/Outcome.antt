-- A call that may meet a fault, as an answer of the rules.
use Rattle.std.specs.Prelude.{ℕ, Result, Ok, Err}
use Rattle.rules.specs.Choice.{Answer, ok, fault}
use Rattle.faults.specs.declared.Fault.{Fault}
use Rattle.faults.specs.Number.{number_of}

-- of a call that changes a value: what it left there, or the number of its fault
abbrev pub outcome : {A B : Type 0} → A → Result B Fault → Answer A
outcome new (Ok _) = ok new
outcome new (Err e) = fault (number_of e)

-- of a call that returns a value
abbrev pub answer : {A : Type 0} → Result A Fault → Answer A
answer (Ok x) = ok x
answer (Err e) = fault (number_of e)
