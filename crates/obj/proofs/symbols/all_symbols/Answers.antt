use mathlib.Core.Path.{◌∙◌}
use borrow.Author.Rules.{rules}
use Rattle.std.proofs.lemmas.Iterator.{YieldsList-from_slice, YieldsList-from_map}
use Rattle.std.proofs.lemmas.Iterator.Search.{all_from_yields_List}
use Rattle.obj_image.proofs.Chains.{all_rows}
use Rattle.obj_rows.specs.Symbols.{symbol_by, symbol_of}
use Rattle.obj.proofs.symbols.all_symbols.Goals as goal

-- `obj::symbols::all_symbols` is that each row passes. Assumes nothing.
pub returns : goal.returns
returns g c = λ p is.
    all_from_yields_List (λ s. p (symbol_of s)) _ _ _ c.all.ensures.ran
    (YieldsList-from_map _ symbol_by (YieldsList-from_slice c.args.symbols.now cc) c.map.ensures.closure (λ x r q k. search rules))
    (λ x b q k. (g.met.F.Fn.1.step_stays c.args.test (x, tt) b q k, is x b ((g.met.F.FnMut.1.post_iff c.args.test (x, tt) b).1 (q, k))))
    ∙ all_rows p symbol_of symbol_by c.args.symbols.now
