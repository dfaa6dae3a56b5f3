use Rattle.std.proofs.Common.{◌≡◌, drop}
use Rattle.rules.specs.Step.{mark_and_push_all}
use Rattle.walks.specs.State.{walk_of}
use Rattle.walks.proofs.walk.Walk.mark_and_push_all.Given as goal

abbrev pub invariant-loop-addr : goal.invariant-loop-addr
invariant-loop-addr l = mark_and_push_all l.addrs (walk_of l.fn.self) ≡ mark_and_push_all (drop l.addr-index l.addrs) (walk_of l.self)
