use Rattle.std.proofs.Common.{◌∙◌, sym, arith}
use Rattle.rules.specs.Image.{code_words}
use Rattle.obj_info.specs.Info.{image_of}
use Rattle.jump_tables.proofs.Readings.{chose_some, chose_none}
use Rattle.execution.proofs.Words.{sound_of, index_low}
use Rattle.execution.proofs.Spots.{not_looked_at, not_inside, too_few, spot_is}
use Rattle.execution.proofs.plain.spot_of.Goals as goal

pub returns-then-not-is_looked_at : goal.returns-then-not-is_looked_at
returns-then-not-is_looked_at c = not_looked_at (image_of c.args.obj.now) c.args.addr c.args.block (sym c.is_looked_at.ensures ∙ c.if-not-is_looked_at.true)

pub returns-in_err-index : goal.returns-in_err-index
returns-in_err-index c = c.from_residual.ensures ∙ not_inside (image_of c.args.obj.now) c.args.addr c.args.block (chose_none _ _ c.in_err-index.ensures.value)

pub overflow_sub-behind : goal.overflow_sub-behind
unfolding code_words
overflow_sub-behind c =
    let at = chose_some _ _ _ c.in_ok-index.ensures.value in
    omega (arith, c.code.ensures.is.size, index_low (image_of c.args.obj.now) (sound_of c.args.obj.now) c.args.addr at.0)

pub overflow_sub-behind-2 : goal.overflow_sub-behind-2
unfolding code_words
overflow_sub-behind-2 c =
    let at = chose_some _ _ _ c.in_ok-index.ensures.value in
    omega (arith, at.1, c.code.ensures.is.size, index_low (image_of c.args.obj.now) (sound_of c.args.obj.now) c.args.addr at.0)

pub returns-then-behind-lt2 : goal.returns-then-behind-lt2
returns-then-behind-lt2 c =
    let at = chose_some _ _ _ c.in_ok-index.ensures.value in
    too_few (image_of c.args.obj.now) c.args.addr c.args.block _ c.code.ensures.is.size c.in_ok-index.index at.1 c.if-behind-lt2.true

pub returns : goal.returns
returns c =
    let at = chose_some _ _ _ c.in_ok-index.ensures.value in
    spot_is (image_of c.args.obj.now) c.args.addr c.args.block _ c.code.ensures.is.size c.in_ok-index.index at.1 (sym c.is_looked_at.ensures ∙ c.if-not-is_looked_at.false) at.0 c.if-behind-lt2.false
