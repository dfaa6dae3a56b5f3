use borrow.Author.Rules.{rules}
use borrow.Author.Tests.{tests}
use mathlib.Core.Path.{refl}
use mathlib.Core.List.{[]}
use lib.Dec.{ltb}
use Rattle.std.proofs.lemmas.List.Sorted.{IsPartitionPoint-from_clause}
use Rattle.obj_rows.specs.Symbols.{address_of}
use Rattle.obj_rows.proofs.Points.{passes_first, rank_point}
use Rattle.obj_rows.proofs.symbols.count_below.Goals as goal

-- `obj::symbols::count_below` is the rank among the addresses. Assumes nothing.
pub returns-clause-rank : goal.returns-clause-rank
returns-clause-rank c =
    rank_point address_of c.args.functions.now c.args.a (λ x. ltb (address_of x) c.args.a) (λ x. refl) [] _ c.partition_point.ensures.bound
    (IsPartitionPoint-from_clause (λ x. ltb (address_of x) c.args.a) _ _ c.partition_point.ensures.partitioned (passes_first address_of c.args.functions.now c.args.a _ (λ x. refl) c.requires) (λ a r f k. search (rules, tests)))
