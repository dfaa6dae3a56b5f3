-- The test of the closure, asked of each address in turn.
use Rattle.std.proofs.Common.{ℕ, rules, tests, not, ◌&&◌, leb, ltb}
use Rattle.rules.specs.Ordered.{self as own}
use Rattle.tables.proofs.Kept.{kept_in_turn, kept_rising, fewer_is}
use Rattle.tables.proofs.sets.Set.remove_within.Goals as goal

pub returns-clause-rest : goal.returns-clause-rest
returns-clause-rest g c =
    rw (← c.self.view_is)
    (kept_in_turn _ (λ (x : ℕ). not (leb c.args.low x && ltb x c.args.past)) _ (λ x b t y q. search (rules, tests)) _ _ c.retain.ensures.filtered)

pub returns-clause-some : goal.returns-clause-some
returns-clause-some g c =
    let test = λ (x : ℕ). leb c.args.low x && ltb x c.args.past in
    rw (c.len.ensures.value, c.len-before.ensures.value, c.self.view_is, returns-clause-rest g c) (fewer_is test c.args.self.now)

pub invariant_of-self : goal.invariant_of-self
invariant_of-self g c =
    let test = λ (x : ℕ). not (leb c.args.low x && ltb x c.args.past) in
    rw (returns-clause-rest g c) (kept_rising own test c.args.self.now (rw c.self.view_is at c.self.invariant))
