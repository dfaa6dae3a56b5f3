-- How a change goes: what is looked for, and what is then done.
use Rattle.std.specs.Prelude.{ℕ, ◌+◌, ◌-◌, min, Bool, true, false, ◌&&◌, ltb, leb, eqb}
use Rattle.rules.specs.Choice.{if}
use Rattle.rules.specs.Blocks.{is_aligned}
use Rattle.records_blocks.specs.Sweep.{entry}
use Rattle.std.specs.Prelude.{Result, Ok, Err}
use Rattle.faults.specs.declared.Fault.{Fault}
use Rattle.faults.specs.declared.Fault.TheVariants.{List, Limit}
use Rattle.records_blocks.specs.declared.Carry.{Carry}
use Rattle.records_blocks.specs.declared.Done.{Done}
use Rattle.records_blocks.specs.declared.Plan.{Plan}

-- a plan by its parts
abbrev pub plan : Carry → ℕ → Result Done Fault → Plan
plan c n r = record { carry = c; n = n; done = r }

-- a change by its parts
abbrev pub done : ℕ → Bool → Done
done count said = record { count = count; yes = said }

-- a sweep that looks for a among n records
abbrev pub seeking : ℕ → ℕ → Carry
seeking n a = record { out = entry 0 0; hold = entry 0 0; addr = a; at = n; hit = false; below = 0; cut = false; last = 0; mode = 0; check = record { least = 0; sound = true } }

-- as many as are looked at: none where there are fewer than the count
abbrev pub looked_at : ℕ → ℕ → ℕ
looked_at len count = if (ltb len count) 0 count

-- the first sweep
abbrev pub looking : ℕ → ℕ → ℕ → Plan
looking len count a = plan (seeking (looked_at len count) a) (looked_at len count) (Ok (done count false))

-- the sweep that changes the table
abbrev pub changing : Carry → Bool → ℕ → ℕ → Carry
changing c t k m = record { out = c.out; hold = entry c.addr 0; addr = c.addr; at = c.at; hit = c.hit; below = c.below; cut = t; last = k; mode = m; check = c.check }

-- nothing is to be done
abbrev pub still : Carry → ℕ → Plan
still c count = plan c 0 (Ok (done count false))

-- nothing is done, since there is a fault
abbrev pub refused : Carry → Fault → Plan
refused c f = plan c 0 (Err f)

-- one more record
abbrev pub longer : Carry → ℕ → Bool → Plan
longer c count said = plan c (count + 1) (Ok (done (count + 1) said))

-- no block reaches over the address
abbrev pub opening : Bool → ℕ → ℕ → Carry → Plan
opening only room count c =
    if only (still c count)
    (if c.hit (still c count) (if (ltb count room) (longer (changing c false 0 3) count true) (refused c Limit)))

-- a block does
abbrev pub cutting : Bool → ℕ → ℕ → Carry → Plan
cutting only room count c =
    if c.hit (plan (changing c true (c.at - 1) 4) count (Ok (done count only)))
    (if (ltb count room) (longer (changing c true (c.at - 1) 3) count only) (refused c Limit))

-- the change of a table that breaks no rule
unfoldable pub placed : Bool → ℕ → ℕ → Carry → Plan
placed only room count c = if (eqb c.at 0) (opening only room count c) (if (leb c.below c.addr) (opening only room count c) (cutting only room count c))

-- the change of any table
unfoldable pub planned : Bool → ℕ → ℕ → Carry → Plan
planned only len count c =
    if (leb count len && (is_aligned c.addr && c.check.sound))
    (if (leb count (min 256 len)) (placed only (min 256 len) count c) (refused c Limit)) (refused c List)
