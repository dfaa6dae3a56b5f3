use borrow.Author.Rules.{rules}
use borrow.Author.Tests.{tests}
use native.Mathlib.Omega.{arith}
use Rattle.rules.specs.Check.{is_function_symbol}
use Rattle.obj_image.specs.Lent.{seen}
use Rattle.obj_image.proofs.Halves.{half_function}
use Rattle.obj_rows.proofs.SymbolRows.{symbols_are, symbols_broken}
use Rattle.obj.proofs.symbols.are_functions.Goals as goal

-- `obj::symbols::are_functions` is `are_symbols` of `rules`. Assumes nothing.
pub returns-in_default : goal.returns-in_default
returns-in_default c = symbols_broken (seen c.args.sections.now) (is_function_symbol (seen c.args.sections.now)) c.args.functions.now (half_function (seen c.args.sections.now)) (λ h. omega (arith, c.as_chunks.ensures.back_len, c.in_default.len_at_least))

pub returns : goal.returns
returns c =
    symbols_are (seen c.args.sections.now) (is_function_symbol (seen c.args.sections.now)) c.args.functions.now (omega (arith, c.as_chunks.ensures.back_len, c.in_default-empty.len_below)) c.as_chunks.result.0.now c.as_chunks.ensures.front c.all_symbols.result c.symbols_ascend.result
    (c.all_symbols.ensures (is_function_symbol (seen c.args.sections.now)) (λ s b k. search (rules, tests))) c.symbols_ascend.ensures
