-- One entry more.
use Rattle.std.proofs.Common.{arith}
use Rattle.analyzer.specs.Table.{info_of}
use Rattle.rules.specs.Known.{new_entry}
use Rattle.analyzer.proofs.Flat.{infos_next}
use Rattle.analyzer.proofs.store.total_len.Goals as goal

pub loop-info-preserved : goal.loop-info-preserved
loop-info-preserved c = record {
  same = omega (arith, c.len-total.ensures.value, c.loop-info.invariant.same, infos_next c.args.infos.now c.loop-info.info-index (info_of (new_entry 0)) c.loop-info-test.true);
  small = omega (arith, c.len-total.ensures.small, c.loop-info.invariant.small);
}
