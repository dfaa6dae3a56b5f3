use Rattle.additions.proofs.Behind.{between_some, between_none}
use Rattle.additions.proofs.gaps.new_between.Goals as goal

pub returns-in_err-a : goal.returns-in_err-a
returns-in_err-a c = λ cap. rw c.from_residual.ensures (between_none _ cap _ _ (rw (c.address_of.ensures, c.address_of-2.ensures) at c.in_err-a.ensures cap))

pub returns : goal.returns
returns c = λ cap. between_some _ cap _ _ _ _ (rw (c.address_of.ensures, c.address_of-2.ensures) at c.in_ok-a.ensures cap) c.code_key.ensures.is
