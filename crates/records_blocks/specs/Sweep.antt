-- A sweep over the first n records: what each turn carries on, and the list that it leaves.
use Rattle.std.specs.Prelude.{ℕ, zero, suc, ◌+◌, Bool, true, false, ◌&&◌, List, [], ◌∷◌, ltb, leb, eqb}
use Rattle.rules.specs.Choice.{if}
use Rattle.rules.specs.Blocks.{Block as Row, block, is_block}
use Rattle.records_blocks.specs.declared.Block.{Block}
use Rattle.records_blocks.specs.declared.Check.{Check}
use Rattle.records_blocks.specs.declared.Carry.{Carry}

-- a record by its two addresses
abbrev pub entry : ℕ → ℕ → Block
entry s e = record { start = s; end = e }

-- what is read past the end of a list
abbrev pub no_block : Block
no_block = entry 0 0

-- the block of `rules` that a record holds
abbrev pub row : Block → Row
row b = block b.start b.end

-- ---- the check of one more record

-- b may stand after those before
abbrev pub follows : Check → Block → Bool
follows k b = k.sound && (leb k.least b.start && is_block (row b))

-- what is then known
unfoldable pub checked : Check → Block → Check
checked k b = if (follows k b) (record { least = b.start + 1; sound = true }) (record { least = k.least; sound = false })

-- what is known after n records of a list
abbrev pub checks : ℕ → Check → List Block → Check
checks zero k l = k
checks (suc n) k [] = k
checks (suc n) k (b ∷ l) = checks n (checked k b) l

-- ---- one turn

-- b is checked
abbrev pub renewed : Carry → Block → Carry
renewed c b = record { out = c.out; hold = c.hold; addr = c.addr; at = c.at; hit = c.hit; below = c.below; cut = c.cut; last = c.last; mode = c.mode; check = checked c.check b }

-- b is written back
abbrev pub wrote : Carry → Block → Carry
wrote c b = record { out = b; hold = c.hold; addr = c.addr; at = c.at; hit = c.hit; below = c.below; cut = c.cut; last = c.last; mode = c.mode; check = c.check }

-- b is written back, and h comes next
abbrev pub held : Carry → Block → Block → Carry
held c b h = record { out = b; hold = h; addr = c.addr; at = c.at; hit = c.hit; below = c.below; cut = c.cut; last = c.last; mode = c.mode; check = c.check }

-- b starts before the address
abbrev pub passed : Carry → Block → Carry
passed c b = record { out = b; hold = c.hold; addr = c.addr; at = c.at; hit = c.hit; below = b.end; cut = c.cut; last = c.last; mode = c.mode; check = c.check }

-- b is the first that does not
abbrev pub found : Carry → ℕ → Block → Carry
found c i b = record { out = b; hold = c.hold; addr = c.addr; at = i; hit = eqb b.start c.addr; below = c.below; cut = c.cut; last = c.last; mode = 1; check = c.check }

-- the turn of a record that is checked
unfoldable pub moved : Carry → ℕ → Block → Carry
moved c i b =
    if (eqb c.mode 0) (if (ltb b.start c.addr) (passed c b) (found c i b))
    (if (ltb i c.at) (if c.cut (if (eqb i c.last) (held c (entry b.start c.addr) (entry c.addr b.end)) (wrote c b)) (wrote c b))
    (if (eqb c.mode 3) (held c c.hold b)
    (if (eqb c.mode 4) (if (eqb i c.at) (wrote c c.hold) (wrote c b)) (wrote c b))))

-- one turn
abbrev pub turned : Carry → ℕ → Block → Carry
turned c i b = moved (renewed c b) i b

-- ---- n records of a list, of which the first stands at i

-- what is carried after them
abbrev pub after : ℕ → ℕ → Carry → List Block → Carry
after zero i c l = c
after (suc n) i c [] = c
after (suc n) i c (b ∷ l) = after n (i + 1) (turned c i b) l

-- the list that is left
abbrev pub swept : ℕ → ℕ → Carry → List Block → List Block
swept zero i c l = l
swept (suc n) i c [] = []
swept (suc n) i c (b ∷ l) = (turned c i b).out ∷ swept n (i + 1) (turned c i b) l
