use Rattle.std.proofs.Common.{◌≡◌, ◌%◌, sym, ap, ◌∙◌, arith}
use Rattle.rules.specs.Choice.{if_false}
use Rattle.rules.specs.Image as images
use Rattle.obj_info.specs.Info.{image_of}
use Rattle.obj_info.proofs.Lookups.{one_word, none_word}
use Rattle.obj_info.proofs.info.ObjInfo.word.Goals as goal

pub word_at-requires : goal.word_at-requires
word_at-requires c =
    let low : c.from.result % 0x1_0000_0000 ≡ c.args.a = omega (arith, c.from.ensures) in
    rw low (sym c.is_inside.ensures ∙ c.if-not-is_inside.false)

pub returns-then-not-is_inside-clause-value : goal.returns-then-not-is_inside-clause-value
unfolding images.word
returns-then-not-is_inside-clause-value c = none_word _ (sym (if_false (sym c.is_inside.ensures ∙ c.if-not-is_inside.true) _ _))

pub returns-then-not-is_inside-clause-none : goal.returns-then-not-is_inside-clause-none
unfolding images.word
returns-then-not-is_inside-clause-none c = if_false (sym c.is_inside.ensures ∙ c.if-not-is_inside.true) _ _

pub returns-clause-value : goal.returns-clause-value
returns-clause-value c =
    let low : c.from.result % 0x1_0000_0000 ≡ c.args.a = omega (arith, c.from.ensures) in
    one_word _ _ (c.word_at.ensures ∙ ap (images.word (image_of c.args.self.now)) low) (omega arith)
