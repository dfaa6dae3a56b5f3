use Rattle.obj_info.specs.Info.{image_of}
use Rattle.worklist.specs.Bits.{bit}
use Rattle.execution.proofs.Scans.{Scanning}
use Rattle.execution.proofs.plain.scan.Given as goal

abbrev pub invariant-loop-word : goal.invariant-loop-word
invariant-loop-word l = Scanning (image_of l.obj) (bit l.initial.visited) l.first l.most (bit l.visited) l.word
