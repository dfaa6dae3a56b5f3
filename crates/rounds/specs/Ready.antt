-- What the rounds start from.
use Rattle.std.specs.Prelude.{true, false, ℕ, List}
use Rattle.rules.specs.Image.{Image}
use Rattle.rules.specs.Known.{Entry}
use Rattle.rules.specs.Map.{Capacity}
use Rattle.rules.proofs.Placed.{Table}
use Rattle.analyzer.specs.declared.AnalyzerState.{AnalyzerState}
use Rattle.analyzer.specs.Table.{Holds}

-- the state holds entries that a run of this image can have
pub record Ready (im : Image) (a : AnalyzerState) (lists : List ℕ) : Type 0 where
  pub cap : Capacity
  pub entries : List Entry
  pub holds : Holds cap a lists entries
  pub table : Table im false true entries
