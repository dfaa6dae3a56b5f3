use Rattle.std.proofs.Common.{ap, ◌∙◌}
use Rattle.rules.specs.Image.{word}
use Rattle.rules.specs.Words.{blr, nop}
use lib.Dec.{eqb}
use Rattle.slices.specs.View.{slices_of}
use Rattle.obj_info.specs.Info.{image_of}
use Rattle.finalizing.proofs.Words.{has_last_is}
use Rattle.finalizing.proofs.last_words.has_last.Goals as goal

pub returns : goal.returns
unfolding slices_of
returns c =
    let im = image_of c.args.obj.now in
    has_last_is im (slices_of c.args.slices.now) c.args.end c.requires _ _ _ (c.is_word.ensures ∙ ap (λ a. eqb (word im a) blr) c.before_end-last.ensures) (c.is_word-2.ensures ∙ ap (λ a. eqb (word im a) blr) c.address_of-after.ensures) (c.is_word-3.ensures ∙ ap (λ a. eqb (word im a) nop) c.address_of-after.ensures)
