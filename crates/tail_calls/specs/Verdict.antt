-- The tail-call test as an answer of the rules.
use Rattle.std.specs.Prelude.{ℕ, Option, Some, None, Result, Ok, Err}
use Rattle.rules.specs.Choice.{Answer, fault}
use Rattle.rules.specs.Slices.{Slices}
use Rattle.rules.specs.Step.{Around}
use Rattle.rules.specs.TailCall as rules
use Rattle.faults.specs.declared.Fault.{Fault}
use Rattle.faults.specs.Number.{number_of}
use Rattle.tail_calls.specs.declared.TailCall.{TailCall}
use Rattle.tail_calls.specs.declared.TailCall.TheVariants.{Not, Is, Possible}

abbrev pub tail_call_of : TailCall → rules.TailCall
tail_call_of Not = rules.is_not
tail_call_of Is = rules.is
tail_call_of Possible = rules.possibly

-- the answer, and the function's lists
abbrev pub verdict : Slices → Result TailCall Fault → Answer rules.Verdict
verdict s (Ok t) = rules.verdict (tail_call_of t) s
verdict s (Err e) = fault (number_of e)

-- the answer that the tests before the trial walk give, where they do; else that of the trial
abbrev pub tested : Around → ℕ → Slices → Option TailCall → Answer rules.Verdict
tested e k s (Some t) = rules.verdict (tail_call_of t) s
tested e k s None = rules.trial e k s
