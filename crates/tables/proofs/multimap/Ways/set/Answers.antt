-- The ways on from a word, which stand between two places, replaced.
use Rattle.std.proofs.Common.{◌≤◌, length, arith, rules, refl}
use Rattle.tables.proofs.Splices.{in_order, until_le, ways_rise, ways_full, ways_fit}
use Rattle.tables.proofs.multimap.Ways.set.Goals as goal

pub overflow_sub-kept : goal.overflow_sub-kept
overflow_sub-kept g c =
    in_order c.self.inside.ways.items c.args.from c.args.targets.now c.requires c.self.invariant
    (rw (← c.deref.ensures.0) c.count_below-at.ensures) (rw (← c.deref-2.ensures.0) c.count_up_to-until.ensures)

pub overflow_sub-kept-2 : goal.overflow_sub-kept-2
overflow_sub-kept-2 g c =
    let le : c.count_up_to-until.result ≤ length c.self.inside.ways.items = until_le _ c.args.from _ (rw (← c.deref-2.ensures.0) c.count_up_to-until.ensures) in
    omega arith

pub returns-then-kept-targets : goal.returns-then-kept-targets
returns-then-kept-targets g c =
    rw (← c.self.view_is)
    (ways_full c.self.inside.ways.items c.args.from c.args.targets.now {at = c.count_below-at.result} {until = c.count_up_to-until.result} c.requires c.self.invariant
    (rw (← c.deref.ensures.0) c.count_below-at.ensures) (rw (← c.deref-2.ensures.0) c.count_up_to-until.ensures) g.row.N _ refl (omega arith) (omega arith))

pub replace-requires : goal.replace-requires
replace-requires g c =
    let order : c.count_below-at.result ≤ c.count_up_to-until.result =
    in_order c.self.inside.ways.items c.args.from c.args.targets.now c.requires c.self.invariant
    (rw (← c.deref.ensures.0) c.count_below-at.ensures) (rw (← c.deref-2.ensures.0) c.count_up_to-until.ensures)
    in
    let le : c.count_up_to-until.result ≤ length c.self.inside.ways.items = until_le _ c.args.from _ (rw (← c.deref-2.ensures.0) c.count_up_to-until.ensures) in
    search rules

pub invariant_of-self : goal.invariant_of-self
invariant_of-self g c =
    ways_rise c.self.inside.ways.items c.args.from c.args.targets.now c.requires c.self.invariant
    (rw (← c.deref.ensures.0) c.count_below-at.ensures) (rw (← c.deref-2.ensures.0) c.count_up_to-until.ensures) _ c.replace.ensures

pub returns : goal.returns
returns g c =
    let order : c.count_below-at.result ≤ c.count_up_to-until.result =
    in_order c.self.inside.ways.items c.args.from c.args.targets.now c.requires c.self.invariant
    (rw (← c.deref.ensures.0) c.count_below-at.ensures) (rw (← c.deref-2.ensures.0) c.count_up_to-until.ensures)
    in
    let le : c.count_up_to-until.result ≤ length c.self.inside.ways.items = until_le _ c.args.from _ (rw (← c.deref-2.ensures.0) c.count_up_to-until.ensures) in
    rw (← c.self.view_is)
    (ways_fit c.self.inside.ways.items c.args.from c.args.targets.now c.requires c.self.invariant
    (rw (← c.deref.ensures.0) c.count_below-at.ensures) (rw (← c.deref-2.ensures.0) c.count_up_to-until.ensures) _ _ (omega arith) c.replace.ensures)
