use Rattle.std.proofs.Common.{arith}
use Rattle.execution.proofs.Scans.{scan_begun, scan_stopped, scan_on}
use Rattle.execution.proofs.Words.{few_words}
use Rattle.execution.proofs.plain.scan.Goals as goal

pub overflow_add-word-end : goal.overflow_add-word-end
overflow_add-word-end c = omega (arith, few_words c.args.obj.now)

pub loop-word-init : goal.loop-word-init
loop-word-init c = scan_begun _ _ _ _

pub returns-then-not-goes_over-clause-count : goal.returns-then-not-goes_over-clause-count
returns-then-not-goes_over-clause-count c = scan_stopped _ _ _ _ _ _ c.loop-word.invariant (omega arith) c.loop-word-test.true _ c.goes_over.ensures c.if-not-goes_over.true

pub insert-requires : goal.insert-requires
insert-requires c = omega (arith, c.requires, few_words c.args.obj.now)

pub loop-word-preserved : goal.loop-word-preserved
loop-word-preserved c = scan_on _ _ _ _ _ _ c.loop-word.invariant (omega arith) c.loop-word-test.true _ c.goes_over.ensures c.if-not-goes_over.false _ c.insert.ensures.set
