use Rattle.rules.specs.Sequences.{is_end_of_seq}
use Rattle.rules.specs.Registers.{names_r0_or_r1, registers_named}
use Rattle.ppc.proofs.sequences.is_end_of_seq.Goals as goal

-- `ppc::sequences::is_end_of_seq` is `is_end_of_seq` of `rules`. Assumes nothing.
pub returns : goal.returns
unfolding is_end_of_seq names_r0_or_r1 registers_named
returns c = cc (c.code-c.ensures.fields, c.code-c.ensures.branch)
