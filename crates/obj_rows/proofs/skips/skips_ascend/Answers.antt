use borrow.Author.Rules.{rules}
use borrow.Author.Tests.{tests}
use mathlib.Core.List.{[]}
use Rattle.std.proofs.lemmas.List.Sorted.{answers_always}
use Rattle.rules.specs.Check.{comes_before}
use Rattle.obj_image.specs.Lent.{seen}
use Rattle.obj_rows.specs.Skips.{read_range}
use Rattle.obj_rows.proofs.Points.{chained_rows}
use Rattle.obj_rows.proofs.skips.skips_ascend.Goals as goal

-- `obj::skips::skips_ascend` is that each row comes before the next. Assumes nothing.
pub returns : goal.returns
returns c =
    chained_rows (comes_before (seen [])) read_range _ c.args.skips.now
    (c.is_sorted_by.ensures.cases (λ x y. comes_before (seen []) (read_range x) (read_range y)) (answers_always _ _ _ (λ f a r f' k. search (rules, tests))))
