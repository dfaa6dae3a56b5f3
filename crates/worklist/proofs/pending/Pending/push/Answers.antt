use Rattle.std.proofs.Common.{◌≡◌, ◌<◌, length, rules, arith}
use Rattle.std.proofs.lemmas.Grind.{common_steps}
use Rattle.worklist.proofs.Insert.{push_fits, push_full, still_ascending}
use Rattle.worklist.proofs.pending.Pending.push.Goals as goal

pub returns-then-is_full-clause-outcome : goal.returns-then-is_full-clause-outcome
returns-then-is_full-clause-outcome c =
    let full : length c.self.inside.addresses.items ≡ 256 = search rules in
    rw (← c.self.view_is) (push_full _ c.args.address full)

pub returns-clause-outcome : goal.returns-clause-outcome
returns-clause-outcome c =
    let room : length c.self.inside.addresses.items < 256 = grind (arith, common_steps) in
    let place = rw c.deref.ensures.0 at c.place-at.ensures in
    rw (c.insert.ensures.items, ← c.self.view_is) (push_fits _ _ _ place.within (λ pos. place.low _ (omega arith)) place.high room)

pub invariant_of-self : goal.invariant_of-self
invariant_of-self c = rw c.insert.ensures.items (still_ascending _ _ _ c.self.invariant (rw c.deref.ensures.0 at c.place-at.ensures))
