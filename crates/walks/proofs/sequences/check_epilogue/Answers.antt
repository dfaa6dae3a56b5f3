use Rattle.std.proofs.Common.{sym, ◌∙◌}
use Rattle.rules.specs.Choice.{if_true, if_false}
use Rattle.rules.specs.Step.{check_epilogue}
use Rattle.walks.proofs.sequences.check_epilogue.Goals as goal

pub returns-then-begins_epilogue : goal.returns-then-begins_epilogue
unfolding check_epilogue
returns-then-begins_epilogue c = c.meet_epilogue.ensures ∙ sym (if_true (sym c.begins_epilogue.ensures ∙ c.if-begins_epilogue.true) _ _)

pub returns : goal.returns
unfolding check_epilogue
returns c = sym (if_false (sym c.begins_epilogue.ensures ∙ c.if-begins_epilogue.false) _ _)
