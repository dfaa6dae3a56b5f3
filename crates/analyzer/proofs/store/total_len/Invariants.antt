use Rattle.std.proofs.Common.{◌≡◌, ◌*◌, ◌≤◌, take}
use Rattle.analyzer.specs.Placed.{infos_long}
use Rattle.analyzer.proofs.store.total_len.Given as goal

abbrev pub invariant-loop-info : goal.invariant-loop-info
invariant-loop-info l = record {
  same : l.total ≡ infos_long (take l.info-index l.infos);
  small : l.total ≤ 0x80000 * l.info-index;
}
