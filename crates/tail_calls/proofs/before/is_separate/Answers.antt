use Rattle.std.proofs.Common.{refl}
use Rattle.rules.specs.TailCall.{is_separate}
use Rattle.tail_calls.proofs.before.is_separate.Goals as goal

pub returns : goal.returns
unfolding is_separate
returns c = λ es.
    rw (c.section_of.ensures, c.section_of-2.ensures, c.is_word.ensures, c.saturating_sub-before.ensures, c.address_of.ensures) refl
