use Rattle.std.proofs.Common.{map}
use Rattle.rules.specs.Map.{add_symbols}
use Rattle.obj_info.specs.Info.{image_of, symbol_in}
use Rattle.additions.proofs.Each.{Going}
use Rattle.additions.proofs.symbols.add_symbols.Given as goal

abbrev pub invariant-loop-symbol : goal.invariant-loop-symbol
invariant-loop-symbol l = Going (λ cap symbols es. add_symbols (image_of l.obj) cap (map symbol_in symbols) es) l.symbols l.initial.state l.symbol-index l.state
