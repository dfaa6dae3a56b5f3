use borrow.Author.Rules.{rules}
use Rattle.rules.specs.Choice.{if}
use Rattle.obj_image.proofs.sections.has_bytes.Goals as goal

-- `obj::sections::has_bytes` is `has_bytes` of `rules`. Assumes nothing.
pub returns : goal.returns
unfolding if
returns c = search rules
