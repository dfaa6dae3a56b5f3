use Rattle.std.proofs.Common.{sym, ◌∙◌}
use Rattle.rules.specs.Choice.{if_true, if_false}
use Rattle.rules.specs.Walk.{enter, visit}
use Rattle.jump_tables.proofs.Readings.{chose_some, chose_none}
use Rattle.execution.proofs.enter.Goals as goal

pub instruction_callback-requires : goal.instruction_callback-requires
instruction_callback-requires c = (chose_some _ _ _ c.in-Some.ensures.value).0

pub returns-in-Some : goal.returns-in-Some
unfolding enter visit
returns-in-Some c = λ es knows.
    let at = chose_some _ _ _ c.in-Some.ensures.value in
    sym (if_true at.0 _ _ ∙ rw (at.1, ← c.insert.ensures.set, ← c.insert.ensures.fresh) (sym (c.instruction_callback.ensures es knows)))

pub returns-in-None : goal.returns-in-None
unfolding enter
returns-in-None c = λ es knows. sym (if_false (chose_none _ _ c.in-None.ensures.value) _ _)
