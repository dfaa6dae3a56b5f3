-- An address taken out where it is there.
use Rattle.std.proofs.Common.{◌<◌, length, rules, sym}
use Rattle.rules.specs.Ordered.{self as own}
use Rattle.rules.proofs.Ordered.{without_not}
use Rattle.tables.proofs.Places.{out_at, out_is, out_rising}
use Rattle.tables.proofs.sets.Set.remove.Goals as goal

pub remove-requires : goal.remove-requires
remove-requires g c =
    let at : c.in-Ok.at < length c.self.inside.items.items = out_at own c.self.view_is c.args.key _ c.in-Ok.ensures.place in
    search (rules, at)

pub invariant_of-self : goal.invariant_of-self
invariant_of-self g c = out_rising own c.self.view_is c.args.key _ c.in-Ok.ensures.place _ c.self.invariant c.remove.ensures.items

pub returns-in-Ok : goal.returns-in-Ok
returns-in-Ok g c = out_is own c.self.view_is c.args.key _ c.in-Ok.ensures.place _ c.remove.ensures.items

pub returns-in_default : goal.returns-in_default
returns-in_default g c = sym (without_not own c.args.key c.args.self.now c.in_default.ensures.place.1)
