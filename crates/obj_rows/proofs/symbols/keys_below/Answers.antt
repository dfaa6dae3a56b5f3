use borrow.Author.Rules.{rules}
use borrow.Author.Tests.{tests}
use mathlib.Core.Path.{refl}
use mathlib.Core.List.{[]}
use lib.Dec.{ltb}
use Rattle.std.proofs.lemmas.List.Sorted.{IsPartitionPoint-from_clause}
use Rattle.obj_rows.specs.Symbols.{key_of}
use Rattle.obj_rows.proofs.Points.{passes_first, rank_point}
use Rattle.obj_rows.proofs.KeyHalving.{key_seen}
use Rattle.obj_rows.proofs.symbols.keys_below.Goals as goal

-- `obj::symbols::keys_below` is the rank among the keys. Assumes nothing.
pub returns-clause-rank : goal.returns-clause-rank
returns-clause-rank c =
    rank_point (key_of c.args.sections.now) c.args.objects.now c.args.key (λ x. ltb (key_of c.args.sections.now x) c.args.key) (λ x. refl) [] _ c.partition_point.ensures.bound
    (IsPartitionPoint-from_clause (λ x. ltb (key_of c.args.sections.now x) c.args.key) _ _ c.partition_point.ensures.partitioned (passes_first (key_of c.args.sections.now) c.args.objects.now c.args.key _ (λ x. refl) c.requires.rise) (λ a r f k. search (rules, tests, key_seen)))
