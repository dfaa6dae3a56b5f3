use Rattle.std.proofs.Common.{rules}
use Rattle.words.proofs.Named.{named}
use Rattle.words.proofs.registers.Goals as goal

pub returns : goal.returns
returns c = search (rules, named)
