use borrow.Author.Rules.{rules}
use Rattle.woqchari.proofs.OneList.{told_of, counted_of}
use Rattle.woqchari.proofs.one_list.woqchari_detect_in_image.Goals as goal

pub returns : goal.returns
returns c = search (rules, told_of, counted_of)
