use Rattle.std.proofs.Common.{◌≡◌, ◌+◌, true, false, refl}
use mir.Val.{bool_byte}
use Rattle.rules.specs.Lines.{flag}
use Rattle.rules.specs.Choice.{if}
use Rattle.printing.proofs.line.flag.Goals as goal

pub returns : goal.returns
unfolding if
returns c = rw c.from.ensures (elim c.args.b as (λ b. 48 + bool_byte b ≡ flag b) [ true ↦ refl | false ↦ refl ])
