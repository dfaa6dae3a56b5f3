use mathlib.Core.Path.{refl, sym, ap, ◌∙◌}
use Rattle.rules.specs.Choice.{if}
use Rattle.obj_rows.specs.Outcomes.{number_of}
use Rattle.obj.proofs.Told.{of_kind}
use Rattle.obj.proofs.outcomes.outcome_of.Goals as goal

-- `obj::outcomes::outcome_of` is `outcome_of` of `rules`. Assumes nothing.
pub returns-in-Ok-GoOn : goal.returns-in-Ok-GoOn
unfolding if
returns-in-Ok-GoOn c = let is = c.in-Ok-GoOn.ensures in of_kind c.args.r 0 _ (sym is ∙ ap number_of c.in-Ok-GoOn.field-0-is) refl

pub returns-in-Ok-Illegal : goal.returns-in-Ok-Illegal
unfolding if
returns-in-Ok-Illegal c = let is = c.in-Ok-Illegal.ensures in of_kind c.args.r 1 _ (sym is ∙ ap number_of c.in-Ok-Illegal.field-0-is) refl

pub returns-in-Ok-Unknown : goal.returns-in-Ok-Unknown
unfolding if
returns-in-Ok-Unknown c = let is = c.in-Ok-Unknown.ensures in of_kind c.args.r 2 _ (sym is ∙ ap number_of c.in-Ok-Unknown.field-0-is) refl

pub returns-in-Ok-Return : goal.returns-in-Ok-Return
unfolding if
returns-in-Ok-Return c = let is = c.in-Ok-Return.ensures in of_kind c.args.r 3 _ (sym is ∙ ap number_of c.in-Ok-Return.field-0-is) refl

pub returns-in-Ok-Jump : goal.returns-in-Ok-Jump
unfolding if
returns-in-Ok-Jump c = let is = c.in-Ok-Jump.ensures in of_kind c.args.r 4 _ (sym is ∙ ap number_of c.in-Ok-Jump.field-0-is) refl

pub returns-in-Ok-JumpTable : goal.returns-in-Ok-JumpTable
unfolding if
returns-in-Ok-JumpTable c = let is = c.in-Ok-JumpTable.ensures in of_kind c.args.r 5 _ (sym is ∙ ap number_of c.in-Ok-JumpTable.field-0-is) refl
