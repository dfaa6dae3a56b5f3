use Rattle.std.proofs.Common.{rules}
use Rattle.streams.proofs.Parts.{part}
use Rattle.lines.proofs.image.Span.of.Goals as goal

pub returns : goal.returns
returns g c = part c.args.self.from c.args.self.to _ _ c.args.items.now (search rules) (search rules)
