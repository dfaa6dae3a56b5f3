use Prim.Native.Nat.{ℕ, ◌*◌}
use mathlib.Core.Bool.{Bool}
use mathlib.Core.Path.{◌≡◌}
use lib.ListN.{drop}
use Rattle.rules.specs.Bytes.{words_in}
use Rattle.rules.specs.Sequences.{scan}
use Rattle.ppc.specs.Tests.{Computes}
use Rattle.ppc.proofs.sequences.scan.Given as goal

-- `ppc::sequences::scan` is the scan of `rules`. The loop's invariant: to scan on from here comes to the whole scan. Assumes nothing.
abbrev pub invariant-loop-word : goal.invariant-loop-word
invariant-loop-word g l = (t : ℕ → Bool) → Computes (goal.F-post g l.second) t → scan t (words_in (drop (4 * l.word-index) l.bytes)) ≡ scan t (words_in l.bytes)
