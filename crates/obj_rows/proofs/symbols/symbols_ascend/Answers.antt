use borrow.Author.Rules.{rules}
use borrow.Author.Tests.{tests}
use Rattle.std.proofs.lemmas.Fn.{always_returns_same}
use Rattle.rules.specs.Check.{is_below}
use Rattle.obj_image.specs.Lent.{seen}
use Rattle.obj_rows.specs.Symbols.{read_symbol}
use Rattle.obj_rows.proofs.Points.{chained_rows}
use Rattle.obj_rows.proofs.symbols.symbols_ascend.Goals as goal

-- `obj::symbols::symbols_ascend` is that each row is below the next. Assumes nothing.
pub returns : goal.returns
returns c =
    chained_rows (is_below (seen c.args.sections.now)) read_symbol _ c.args.symbols.now
    (c.is_sorted_by.ensures.cases (λ x y. is_below (seen c.args.sections.now) (read_symbol x) (read_symbol y)) (always_returns_same _ _ _ (λ a r f' k. search (rules, tests))))
