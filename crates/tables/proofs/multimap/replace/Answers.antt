-- What was put behind the others, brought forward to its place.
use Rattle.std.proofs.Common.{◌≡◌, sym, length, take, drop, map, arith}
use Rattle.std.proofs.lemmas.List.{length-map, length-take-le}
use lib.Seq.{take_all}
use Rattle.tables.specs.Groups.{way}
use Rattle.tables.proofs.Splices.{brought_forward}
use Rattle.tables.proofs.multimap.replace.Goals as goal

pub returns : goal.returns
returns g c =
    let all : take c.loop-to.to-index c.args.targets.now ≡ c.args.targets.now = take_all _ _ (omega arith) in
    let items = rw all at c.loop-to.invariant in
    brought_forward (take c.args.at c.args.ways.now.items) (drop c.args.until c.args.ways.now.items) (map (way c.args.from) c.args.targets.now) _ _ _ c.args.at (length c.args.targets.now)
    (sym (length-take-le c.args.at c.args.ways.now.items (omega arith))) (sym (length-map c.args.targets.now (way c.args.from))) items c.deref_mut.ensures.value c.bring_forward.ensures
