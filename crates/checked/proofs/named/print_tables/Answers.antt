use Rattle.rules.specs.Image.{code_section}
use Rattle.obj_info.specs.Info.{image_of}
use Rattle.checked.proofs.CodeWords.{word_within}
use Rattle.checked.proofs.named.print_tables.Goals as goal

pub told_at-requires : goal.told_at-requires
told_at-requires g c =
    rw c.from.ensures
    (word_within (code_section (image_of c.args.obj.now)) _ _ _ c.loop-index.index c.code-code.ensures.is.base c.code-code.ensures.is.size c.loop-index-test.true c.code-code.ensures.end)
