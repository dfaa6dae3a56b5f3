-- What finalizing an entry comes to.
use Rattle.std.specs.Prelude.{ℕ, Bool, ◌||◌, List, Result, Ok, Err}
use Rattle.rules.specs.Choice.{Answer}
use Rattle.rules.specs.Address as addresses
use Rattle.rules.specs.Blocks.{first_start, last_end}
use Rattle.rules.specs.Image.{Image}
use Rattle.rules.specs.Slices.{Slices}
use Rattle.rules.specs.Known.{Entry}
use Rattle.rules.specs.Map.{Capacity, around}
use Rattle.settling.specs.Settled.{settled}
use Rattle.faults.specs.declared.Fault.{Fault}

-- the lowest address of the section of k
abbrev pub lowest : ℕ → ℕ
lowest k = addresses.key (addresses.section_of k) 0

-- a function's lists after its possible blocks are settled
abbrev pub settled_lists : Image → Capacity → Bool → ℕ → List Entry → Slices → Answer Slices
settled_lists im cap last k es s =
    settled (around im cap (first_start s.blocks) (last_end s.blocks) es) (lowest k) last s

-- whether anything was changed, before a call or by it
abbrev pub since : Bool → Result Bool Fault → Result Bool Fault
since before (Ok changed) = Ok (before || changed)
since before (Err e) = Err e
