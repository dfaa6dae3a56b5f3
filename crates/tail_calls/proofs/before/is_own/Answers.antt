use Rattle.std.proofs.Common.{refl}
use Rattle.rules.specs.TailCall.{is_own}
use Rattle.slices.specs.View.{slices_of}
use Rattle.tail_calls.proofs.before.is_own.Goals as goal

pub returns : goal.returns
unfolding is_own slices_of
returns c = λ es. rw (c.has_start.ensures, c.unwrap_or.ensures, c.is_recorded.ensures) refl
