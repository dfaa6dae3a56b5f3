use Rattle.std.proofs.Common.{ap, sym, ◌∙◌}
use Rattle.rules.specs.Choice.{if_true, if_false}
use Rattle.rules.specs.Words.{is_lwz}
use Rattle.rules.specs.Step.{check_prologue}
use Rattle.slices.specs.View.{slices_of}
use Rattle.obj_info.proofs.Lookups.{address_small}
use Rattle.walks.proofs.sequences.check_prologue.Goals as goal

pub meet_prologue-requires : goal.meet_prologue-requires
meet_prologue-requires c = address_small _ c.args.obj.now.checked _ c.args.obj.now.is_code _ c.requires

pub returns-then-is_lwz : goal.returns-then-is_lwz
unfolding check_prologue slices_of
returns-then-is_lwz c = λ w. sym (if_true (ap is_lwz (sym w) ∙ sym c.is_lwz.ensures ∙ c.if-is_lwz.true) _ _)

pub returns-then-begins_prologue : goal.returns-then-begins_prologue
unfolding check_prologue
returns-then-begins_prologue c = λ w.
    c.meet_prologue.ensures ∙
    sym (if_false (ap is_lwz (sym w) ∙ sym c.is_lwz.ensures ∙ c.if-is_lwz.false) _ _ ∙ if_true (sym c.begins_prologue.ensures ∙ c.if-begins_prologue.true) _ _)

pub returns : goal.returns
unfolding check_prologue
returns c = λ w.
    sym (if_false (ap is_lwz (sym w) ∙ sym c.is_lwz.ensures ∙ c.if-is_lwz.false) _ _ ∙ if_false (sym c.begins_prologue.ensures ∙ c.if-begins_prologue.false) _ _)
