use borrow.Author.Rules.{rules}
use borrow.Author.Tests.{tests}
use Rattle.obj_rows.proofs.KeyHalving.{keys_rise, size_none, size_here, size_elsewhere}
use Rattle.obj_rows.proofs.symbols.known_size.Goals as goal

-- `obj::symbols::known_size` is `known_size` of `rules`. Assumes nothing.
pub keys_below-at-requires-clause-rise : goal.keys_below-at-requires-clause-rise
keys_below-at-requires-clause-rise c = keys_rise _ c.args.objects.now c.requires.objects c.as_chunks.result.0.now c.as_chunks.ensures.front

pub returns-in_default : goal.returns-in_default
returns-in_default c = size_none _ c.args.objects.now c.requires.objects c.as_chunks.result.0.now c.as_chunks.ensures.front c.args.a _ c.keys_below-at.result c.locate.ensures c.keys_below-at.ensures.rank (search (rules, tests))

pub returns-then-s-a : goal.returns-then-s-a
returns-then-s-a c = size_here _ c.args.objects.now c.requires.objects c.as_chunks.result.0.now c.as_chunks.ensures.front c.args.a _ c.keys_below-at.result c.locate.ensures c.keys_below-at.ensures.rank (search (rules, tests)) c.from-s.result (search rules) c.if-s-a.true

pub returns-else-s-a : goal.returns-else-s-a
returns-else-s-a c = size_elsewhere _ c.args.objects.now c.requires.objects c.as_chunks.result.0.now c.as_chunks.ensures.front c.args.a _ c.keys_below-at.result c.locate.ensures c.keys_below-at.ensures.rank (search (rules, tests)) c.from-s.result (search rules) c.if-s-a.false
