use Rattle.additions.proofs.Behind.{section_end_is}
use Rattle.additions.proofs.code.section_end.Goals as goal

pub returns : goal.returns
returns c = λ cap. section_end_is _ cap _ _ c.code_key.ensures.is (rw (c.code-code.ensures.is.base, c.code-code.ensures.is.size))
