use Rattle.std.proofs.Common.{sym, ap, ◌∙◌}
use Rattle.rules.specs.Choice.{any}
use Rattle.rules.specs.Finalize.{branches_to}
use Rattle.obj_info.specs.Info.{image_of}
use Rattle.slices.specs.View.{slices_of}
use Rattle.walks.proofs.Options.{unwrapped_zero}
use Rattle.finalizing.proofs.Ends.{recorded, two_branches, plain_end}
use Rattle.finalizing.proofs.last_words.is_conditional.Goals as goal

pub returns-then-slices : goal.returns-then-slices
unfolding slices_of
returns-then-slices c = recorded _ _ c.if-slices.true

pub returns-then-ends_in_call : goal.returns-then-ends_in_call
unfolding slices_of
returns-then-ends_in_call c =
    let im = image_of c.args.obj.now in
    two_branches im (slices_of c.args.slices.now) c.if-slices.false _ c.ends_in_call.ensures c.unwrap_or.result _ c.if-ends_in_call.true
    (c.unwrap_or.ensures ∙ sym (unwrapped_zero c.last_start.result) ∙ c.last_start.ensures.start)
    (c.branches_to.ensures im ∙ ap (any (branches_to im c.unwrap_or.result)) c.as_slice.ensures.ways)

pub returns : goal.returns
unfolding slices_of
returns c = plain_end _ _ c.if-slices.false _ c.ends_in_call.ensures c.if-ends_in_call.false
