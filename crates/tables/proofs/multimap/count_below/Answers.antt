-- The ways on from words below stand first.
use Rattle.std.proofs.Common.{rules, tests}
use Rattle.std.proofs.lemmas.List.Sorted.{IsPartitionedBy-ltb, IsPartitionPoint-from_clause}
use lib.Dec.{ltb}
use Rattle.tables.specs.Groups.{way, leaves}
use Rattle.tables.proofs.Places.{first_place}
use Rattle.tables.proofs.Splices.{leaves_rise}
use Rattle.tables.proofs.multimap.count_below.Goals as goal

pub returns : goal.returns
returns c =
    first_place leaves (way 0 0) c.args.from _ c.args.ways.now c.partition_point.ensures.bound
    (IsPartitionPoint-from_clause (λ w. ltb (leaves w) c.args.from) _ _ c.partition_point.ensures.partitioned (IsPartitionedBy-ltb leaves _ _ (leaves_rise _ c.requires)) (λ a r f k. search (rules, tests)))
