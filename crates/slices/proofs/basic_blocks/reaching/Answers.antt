-- The block below, by whether it reaches over the address.
use Rattle.std.proofs.Common.{sym, ◌∙◌}
use Rattle.slices.proofs.Marks.{none_reaching, not_reaching, is_reaching}
use Rattle.slices.proofs.basic_blocks.reaching.Goals as goal

pub returns-in_err-below : goal.returns-in_err-below
returns-in_err-below g c = rw c.from_residual.ensures (none_reaching c.args.addr c.args.blocks.now (sym c.lower.ensures ∙ c.in_err-below.was))

pub returns-then-addr-below : goal.returns-then-addr-below
returns-then-addr-below g c = is_reaching c.args.addr c.args.blocks.now c.in_ok-below.below (sym c.lower.ensures ∙ c.in_ok-below.was) c.if-addr-below.true

pub returns : goal.returns
returns g c = not_reaching c.args.addr c.args.blocks.now c.in_ok-below.below (sym c.lower.ensures ∙ c.in_ok-below.was) c.if-addr-below.false
