use Rattle.std.proofs.Common.{rules}
use Rattle.streams.proofs.Parts.{part}
use Rattle.streams.proofs.fixed_reader.FixedReader.buffer.Goals as goal

pub returns : goal.returns
returns g c = part c.args.self.now.next c.args.self.now.end _ _ c.args.self.now.space (search rules) (search rules)
