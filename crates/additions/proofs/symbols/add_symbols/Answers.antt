use Rattle.std.proofs.Common.{◌≡◌, [], refl, length, get_or, rules}
use Rattle.std.proofs.lemmas.Result.{err_from_is_err_and}
use Rattle.rules.specs.Map.{add_symbol}
use Rattle.obj_info.specs.Info.{image_of, symbol_in}
use Rattle.additions.proofs.Each.{going_on, going_stops, going_ends}
use Rattle.additions.proofs.FirstEntries.{row_is}
use Rattle.additions.proofs.symbols.add_symbols.Goals as goal

pub loop-symbol-preserved : goal.loop-symbol-preserved
loop-symbol-preserved c =
    let w : length (get_or c.args.symbols.now c.loop-symbol.symbol-index []) ≡ 3 = search (rules, c.loop-symbol-test.true) in
    going_on _ _ (λ cap symbol es. add_symbol (image_of c.args.obj.now) cap (symbol_in symbol) es) (λ cap es. refl) (λ cap x xs es. refl) _ _ _ c.loop-symbol.invariant c.loop-symbol-test.true [] _ (λ cap lists es h. rw (row_is _ _ w c.from.ensures) (c.in_ok-add_symbol.ensures cap lists es h))

pub returns-in_err-add_symbol : goal.returns-in_err-add_symbol
returns-in_err-add_symbol c =
    let w : length (get_or c.args.symbols.now c.loop-symbol.symbol-index []) ≡ 3 = search (rules, c.loop-symbol-test.true) in
    let p = err_from_is_err_and c.from_residual.result c.from_residual.ensures.1 in
    rw (p.1, p.2) (going_stops _ _ (λ cap symbol es. add_symbol (image_of c.args.obj.now) cap (symbol_in symbol) es) (λ cap es. refl) (λ cap x xs es. refl) _ _ _ c.loop-symbol.invariant c.loop-symbol-test.true [] _ (λ cap lists es h. rw (row_is _ _ w c.from.ensures) (c.in_err-add_symbol.ensures cap lists es h)))

pub returns : goal.returns
returns c = going_ends _ _ (λ cap symbol es. add_symbol (image_of c.args.obj.now) cap (symbol_in symbol) es) (λ cap es. refl) (λ cap x xs es. refl) _ _ _ c.loop-symbol.invariant c.loop-symbol-test.false
