use Rattle.records_blocks.proofs.turn.Goals as goal

pub returns : goal.returns
returns c = rw (← c.check_next-k.ensures) c.move_on.ensures
