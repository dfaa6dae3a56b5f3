use borrow.Author.Rules.{rules}
use borrow.Author.Tests.{tests}
use mathlib.Core.List.{[]}
use Prim.Native.Nat.{◌+◌}
use lib.Dec.{leb}
use Rattle.std.proofs.lemmas.List.Sorted.{IsPartitionPoint-from_clause}
use Rattle.obj_rows.specs.Skips.{first_of}
use Rattle.obj_rows.proofs.Points.{passes_first, rank_point, leb_next}
use Rattle.obj_rows.proofs.skips.starts_by.Goals as goal

-- `obj::skips::starts_by` is the rank of the next address among the ranges' first ones. Assumes nothing.
pub returns-clause-rank : goal.returns-clause-rank
returns-clause-rank c =
    rank_point first_of c.args.skips.now (c.args.a + 1) (λ x. leb (first_of x) c.args.a) (λ x. leb_next (first_of x) c.args.a) [] _ c.partition_point.ensures.bound
    (IsPartitionPoint-from_clause (λ x. leb (first_of x) c.args.a) _ _ c.partition_point.ensures.partitioned (passes_first first_of c.args.skips.now (c.args.a + 1) _ (λ x. leb_next (first_of x) c.args.a) c.requires) (λ a r f k. search (rules, tests)))
