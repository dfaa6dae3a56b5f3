use Rattle.walks.proofs.PlainWords.{plain_by}
use Rattle.walks.proofs.sequences.is_plain.Goals as goal

pub returns : goal.returns
returns c = plain_by _ _ c.opcode-op.ensures
