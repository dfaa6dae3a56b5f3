-- Possible blocks settled, from the lowest address on.
use Rattle.std.specs.Prelude.{ℕ, ◌+◌, Bool, Result, Ok, Err}
use Rattle.rules.specs.Choice.{Answer, ok, fault, ◌>>=◌}
use Rattle.rules.specs.Slices.{Slices}
use Rattle.rules.specs.Step.{Around}
use Rattle.rules.specs.TailCall.{check_tail_call}
use Rattle.rules.specs.Settle.{Settling, settling, settle, settle_all}
use Rattle.faults.specs.declared.Fault.{Fault}
use Rattle.faults.specs.Number.{number_of}
use Rattle.settling.specs.declared.Current.{Current}
use Rattle.settling.specs.declared.Current.TheVariants.{At, Behind}

-- from where possible blocks are looked at
abbrev pub address_from : Current → ℕ
address_from (At addr) = addr
address_from (Behind block) = block + 4

-- the lists, and where to look
abbrev pub settling_from : Slices → Result Current Fault → Answer Settling
settling_from s (Ok c) = ok (settling s (address_from c))
settling_from s (Err e) = fault (number_of e)

-- the block k is tested and settled
unfoldable pub settled_block : Around → ℕ → Bool → ℕ → Slices → Answer Settling
settled_block e low last k s = check_tail_call e k s >>= λ v. settle e low last k v.answer v.slices

unfoldable pub settled : Around → ℕ → Bool → Slices → Answer Slices
settled e low last s = settle_all e low last (settling s low) >>= λ t. ok t.slices
