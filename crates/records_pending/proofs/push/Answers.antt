use Rattle.std.proofs.Common.{◌≡◌, length, take, ◌∙◌, arith, rules}
use Rattle.std.proofs.lemmas.List.{length-take, length-take-le}
use Rattle.worklist.proofs.Insert.{push_fits, push_full}
use Rattle.records_pending.proofs.Moved.{placed}
use Rattle.records_pending.proofs.push.Goals as goal

pub returns-then-p-ge-MOST-clause-outcome : goal.returns-then-p-ge-MOST-clause-outcome
returns-then-p-ge-MOST-clause-outcome c =
    let p = c.args.p.now in
    let array : length p.addresses ≡ 256 = search rules in
    push_full (take p.count p.addresses) c.args.addr (length-take p.count p.addresses ∙ omega (arith, array, c.if-p-ge-MOST.true))

pub returns-clause-outcome : goal.returns-clause-outcome
returns-clause-outcome c =
    let p = c.args.p.now in
    let i = c.place-at.result in
    let place = c.place-at.ensures in
    let array : length p.addresses ≡ 256 = search rules in
    let long : length (take p.count p.addresses) ≡ p.count = length-take-le p.count p.addresses (omega (arith, array, c.if-p-ge-MOST.false)) in
    rw (c.copy_within.ensures.after, placed p.addresses p.count i c.args.addr (omega (arith, place.within, long)) (omega (arith, array, c.if-p-ge-MOST.false)))
    (push_fits (take p.count p.addresses) i c.args.addr place.within place.low place.high (omega (arith, long, c.if-p-ge-MOST.false)))
