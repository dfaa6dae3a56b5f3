-- The ways on from that word and those below stand first.
use Rattle.std.proofs.Common.{rules, tests}
use Rattle.std.proofs.lemmas.List.Sorted.{IsPartitionedBy-leb, IsPartitionPoint-from_clause}
use lib.Dec.{leb}
use Rattle.tables.specs.Groups.{leaves}
use Rattle.tables.proofs.Splices.{leaves_rise, past_place}
use Rattle.tables.proofs.multimap.count_up_to.Goals as goal

pub returns : goal.returns
returns c =
    past_place c.args.from _ c.args.ways.now c.partition_point.ensures.bound
    (IsPartitionPoint-from_clause (λ w. leb (leaves w) c.args.from) _ _ c.partition_point.ensures.partitioned (IsPartitionedBy-leb leaves _ _ (leaves_rise _ c.requires)) (λ a r f k. search (rules, tests)))
