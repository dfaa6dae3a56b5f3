use Rattle.rules.specs.Given.{symbol_of as given}
use Rattle.obj_rows.specs.Symbols.{symbol_of}
use Rattle.additions.proofs.FirstEntries.{symbol_is, end_given}
use Rattle.additions.proofs.symbols.add_symbol.Goals as goal

pub returns : goal.returns
returns c =
    let end = end_given _ _ _ _ _ c.then_some-end.ensures c.from.ensures in
    λ cap lists es h. rw (symbol_is _ cap (given (symbol_of c.args.symbol)) _ _ c.code_key-key.ensures.is end es) (c.set_end.ensures cap lists es h)
