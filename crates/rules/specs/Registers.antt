-- Which general registers a word names: only those that a field of it gives, as the 32-bit Programming Environments manual has it.
-- Words with no row name none: branches, floating-point arithmetic, words of 64-bit processors, paired singles.
use Rattle.std.specs.Prelude.{ℕ, ◌+◌, Bool, List, [], ◌∷◌, ◌++◌, leb, eqb}
use Rattle.rules.specs.Choice.{if, any}
use Rattle.rules.specs.Words.{primary, extended, field_d, field_a, field_b}

-- a field that names a register
pub data Field : Type 0 where
  -- bits 6 to 10, also where the manual writes rS
  r_d : Field
  -- bits 11 to 15
  r_a : Field
  -- the same, but 0 is the number zero: the manual's (rA|0)
  r_a_or_0 : Field
  -- bits 16 to 20
  r_b : Field

-- an opcode, and the fields that name registers in its words
pub record Row : Type 0 where
  pub opcode : ℕ
  pub fields : List Field

-- a row
abbrev pub row : ℕ → List Field → Row
row x l = record { opcode = x; fields = l }

-- by primary opcode. In update forms (their names end in u) rA = 0 names r0.
unfoldable pub primary_table : List Row
primary_table =
    -- trap, compare and arithmetic with an immediate
    row 3 (r_a ∷ []) ∷  -- twi
    row 7 (r_d ∷ r_a ∷ []) ∷  -- mulli
    row 8 (r_d ∷ r_a ∷ []) ∷  -- subfic
    row 10 (r_a ∷ []) ∷  -- cmpli
    row 11 (r_a ∷ []) ∷  -- cmpi
    row 12 (r_d ∷ r_a ∷ []) ∷  -- addic
    row 13 (r_d ∷ r_a ∷ []) ∷  -- addic.
    row 14 (r_d ∷ r_a_or_0 ∷ []) ∷  -- addi
    row 15 (r_d ∷ r_a_or_0 ∷ []) ∷  -- addis
    -- rotate and logical with an immediate
    row 20 (r_d ∷ r_a ∷ []) ∷  -- rlwimi
    row 21 (r_d ∷ r_a ∷ []) ∷  -- rlwinm
    row 23 (r_d ∷ r_a ∷ r_b ∷ []) ∷  -- rlwnm
    row 24 (r_d ∷ r_a ∷ []) ∷  -- ori
    row 25 (r_d ∷ r_a ∷ []) ∷  -- oris
    row 26 (r_d ∷ r_a ∷ []) ∷  -- xori
    row 27 (r_d ∷ r_a ∷ []) ∷  -- xoris
    row 28 (r_d ∷ r_a ∷ []) ∷  -- andi.
    row 29 (r_d ∷ r_a ∷ []) ∷  -- andis.
    -- loads and stores
    row 32 (r_d ∷ r_a_or_0 ∷ []) ∷  -- lwz
    row 33 (r_d ∷ r_a ∷ []) ∷  -- lwzu
    row 34 (r_d ∷ r_a_or_0 ∷ []) ∷  -- lbz
    row 35 (r_d ∷ r_a ∷ []) ∷  -- lbzu
    row 36 (r_d ∷ r_a_or_0 ∷ []) ∷  -- stw
    row 37 (r_d ∷ r_a ∷ []) ∷  -- stwu
    row 38 (r_d ∷ r_a_or_0 ∷ []) ∷  -- stb
    row 39 (r_d ∷ r_a ∷ []) ∷  -- stbu
    row 40 (r_d ∷ r_a_or_0 ∷ []) ∷  -- lhz
    row 41 (r_d ∷ r_a ∷ []) ∷  -- lhzu
    row 42 (r_d ∷ r_a_or_0 ∷ []) ∷  -- lha
    row 43 (r_d ∷ r_a ∷ []) ∷  -- lhau
    row 44 (r_d ∷ r_a_or_0 ∷ []) ∷  -- sth
    row 45 (r_d ∷ r_a ∷ []) ∷  -- sthu
    row 46 (r_d ∷ r_a_or_0 ∷ []) ∷  -- lmw
    row 47 (r_d ∷ r_a_or_0 ∷ []) ∷  -- stmw
    row 48 (r_a_or_0 ∷ []) ∷  -- lfs
    row 49 (r_a ∷ []) ∷  -- lfsu
    row 50 (r_a_or_0 ∷ []) ∷  -- lfd
    row 51 (r_a ∷ []) ∷  -- lfdu
    row 52 (r_a_or_0 ∷ []) ∷  -- stfs
    row 53 (r_a ∷ []) ∷  -- stfsu
    row 54 (r_a_or_0 ∷ []) ∷  -- stfd
    row 55 (r_a ∷ []) ∷  -- stfdu
    []

-- by extended opcode, under the primary opcode 31
unfoldable pub extended_table : List Row
extended_table =
    -- compare and trap
    row 0 (r_a ∷ r_b ∷ []) ∷  -- cmp
    row 4 (r_a ∷ r_b ∷ []) ∷  -- tw
    row 32 (r_a ∷ r_b ∷ []) ∷  -- cmpl
    -- logical and shift
    row 24 (r_d ∷ r_a ∷ r_b ∷ []) ∷  -- slw
    row 26 (r_d ∷ r_a ∷ []) ∷  -- cntlzw
    row 28 (r_d ∷ r_a ∷ r_b ∷ []) ∷  -- and
    row 60 (r_d ∷ r_a ∷ r_b ∷ []) ∷  -- andc
    row 124 (r_d ∷ r_a ∷ r_b ∷ []) ∷  -- nor
    row 284 (r_d ∷ r_a ∷ r_b ∷ []) ∷  -- eqv
    row 316 (r_d ∷ r_a ∷ r_b ∷ []) ∷  -- xor
    row 412 (r_d ∷ r_a ∷ r_b ∷ []) ∷  -- orc
    row 444 (r_d ∷ r_a ∷ r_b ∷ []) ∷  -- or
    row 476 (r_d ∷ r_a ∷ r_b ∷ []) ∷  -- nand
    row 536 (r_d ∷ r_a ∷ r_b ∷ []) ∷  -- srw
    row 792 (r_d ∷ r_a ∷ r_b ∷ []) ∷  -- sraw
    row 824 (r_d ∷ r_a ∷ []) ∷  -- srawi
    row 922 (r_d ∷ r_a ∷ []) ∷  -- extsh
    row 954 (r_d ∷ r_a ∷ []) ∷  -- extsb
    -- moves to and from special registers
    row 19 (r_d ∷ []) ∷  -- mfcr
    row 83 (r_d ∷ []) ∷  -- mfmsr
    row 144 (r_d ∷ []) ∷  -- mtcrf
    row 146 (r_d ∷ []) ∷  -- mtmsr
    row 210 (r_d ∷ []) ∷  -- mtsr
    row 242 (r_d ∷ r_b ∷ []) ∷  -- mtsrin
    row 339 (r_d ∷ []) ∷  -- mfspr
    row 371 (r_d ∷ []) ∷  -- mftb
    row 467 (r_d ∷ []) ∷  -- mtspr
    row 595 (r_d ∷ []) ∷  -- mfsr
    row 659 (r_d ∷ r_b ∷ []) ∷  -- mfsrin
    -- loads and stores
    row 20 (r_d ∷ r_a_or_0 ∷ r_b ∷ []) ∷  -- lwarx
    row 23 (r_d ∷ r_a_or_0 ∷ r_b ∷ []) ∷  -- lwzx
    row 55 (r_d ∷ r_a ∷ r_b ∷ []) ∷  -- lwzux
    row 87 (r_d ∷ r_a_or_0 ∷ r_b ∷ []) ∷  -- lbzx
    row 119 (r_d ∷ r_a ∷ r_b ∷ []) ∷  -- lbzux
    row 150 (r_d ∷ r_a_or_0 ∷ r_b ∷ []) ∷  -- stwcx.
    row 151 (r_d ∷ r_a_or_0 ∷ r_b ∷ []) ∷  -- stwx
    row 183 (r_d ∷ r_a ∷ r_b ∷ []) ∷  -- stwux
    row 215 (r_d ∷ r_a_or_0 ∷ r_b ∷ []) ∷  -- stbx
    row 247 (r_d ∷ r_a ∷ r_b ∷ []) ∷  -- stbux
    row 279 (r_d ∷ r_a_or_0 ∷ r_b ∷ []) ∷  -- lhzx
    row 310 (r_d ∷ r_a_or_0 ∷ r_b ∷ []) ∷  -- eciwx
    row 311 (r_d ∷ r_a ∷ r_b ∷ []) ∷  -- lhzux
    row 343 (r_d ∷ r_a_or_0 ∷ r_b ∷ []) ∷  -- lhax
    row 375 (r_d ∷ r_a ∷ r_b ∷ []) ∷  -- lhaux
    row 407 (r_d ∷ r_a_or_0 ∷ r_b ∷ []) ∷  -- sthx
    row 438 (r_d ∷ r_a_or_0 ∷ r_b ∷ []) ∷  -- ecowx
    row 439 (r_d ∷ r_a ∷ r_b ∷ []) ∷  -- sthux
    row 533 (r_d ∷ r_a_or_0 ∷ r_b ∷ []) ∷  -- lswx
    row 534 (r_d ∷ r_a_or_0 ∷ r_b ∷ []) ∷  -- lwbrx
    row 535 (r_a_or_0 ∷ r_b ∷ []) ∷  -- lfsx
    row 567 (r_a ∷ r_b ∷ []) ∷  -- lfsux
    row 597 (r_d ∷ r_a_or_0 ∷ []) ∷  -- lswi
    row 599 (r_a_or_0 ∷ r_b ∷ []) ∷  -- lfdx
    row 631 (r_a ∷ r_b ∷ []) ∷  -- lfdux
    row 661 (r_d ∷ r_a_or_0 ∷ r_b ∷ []) ∷  -- stswx
    row 662 (r_d ∷ r_a_or_0 ∷ r_b ∷ []) ∷  -- stwbrx
    row 663 (r_a_or_0 ∷ r_b ∷ []) ∷  -- stfsx
    row 695 (r_a ∷ r_b ∷ []) ∷  -- stfsux
    row 725 (r_d ∷ r_a_or_0 ∷ []) ∷  -- stswi
    row 727 (r_a_or_0 ∷ r_b ∷ []) ∷  -- stfdx
    row 759 (r_a ∷ r_b ∷ []) ∷  -- stfdux
    row 790 (r_d ∷ r_a_or_0 ∷ r_b ∷ []) ∷  -- lhbrx
    row 918 (r_d ∷ r_a_or_0 ∷ r_b ∷ []) ∷  -- sthbrx
    row 983 (r_a_or_0 ∷ r_b ∷ []) ∷  -- stfiwx
    -- cache and lookaside buffer
    row 54 (r_a_or_0 ∷ r_b ∷ []) ∷  -- dcbst
    row 86 (r_a_or_0 ∷ r_b ∷ []) ∷  -- dcbf
    row 246 (r_a_or_0 ∷ r_b ∷ []) ∷  -- dcbtst
    row 278 (r_a_or_0 ∷ r_b ∷ []) ∷  -- dcbt
    row 306 (r_b ∷ []) ∷  -- tlbie
    row 470 (r_a_or_0 ∷ r_b ∷ []) ∷  -- dcbi
    row 758 (r_a_or_0 ∷ r_b ∷ []) ∷  -- dcba
    row 982 (r_a_or_0 ∷ r_b ∷ []) ∷  -- icbi
    row 1014 (r_a_or_0 ∷ r_b ∷ []) ∷  -- dcbz
    []

-- the same for arithmetic, where bit 21 is aside: it is OE, and reserved in mulhw and mulhwu
unfoldable pub arithmetic_table : List Row
arithmetic_table =
    -- arithmetic
    row 8 (r_d ∷ r_a ∷ r_b ∷ []) ∷  -- subfc
    row 10 (r_d ∷ r_a ∷ r_b ∷ []) ∷  -- addc
    row 11 (r_d ∷ r_a ∷ r_b ∷ []) ∷  -- mulhwu
    row 40 (r_d ∷ r_a ∷ r_b ∷ []) ∷  -- subf
    row 75 (r_d ∷ r_a ∷ r_b ∷ []) ∷  -- mulhw
    row 104 (r_d ∷ r_a ∷ []) ∷  -- neg
    row 136 (r_d ∷ r_a ∷ r_b ∷ []) ∷  -- subfe
    row 138 (r_d ∷ r_a ∷ r_b ∷ []) ∷  -- adde
    row 200 (r_d ∷ r_a ∷ []) ∷  -- subfze
    row 202 (r_d ∷ r_a ∷ []) ∷  -- addze
    row 232 (r_d ∷ r_a ∷ []) ∷  -- subfme
    row 234 (r_d ∷ r_a ∷ []) ∷  -- addme
    row 235 (r_d ∷ r_a ∷ r_b ∷ []) ∷  -- mullw
    row 266 (r_d ∷ r_a ∷ r_b ∷ []) ∷  -- add
    row 459 (r_d ∷ r_a ∷ r_b ∷ []) ∷  -- divwu
    row 491 (r_d ∷ r_a ∷ r_b ∷ []) ∷  -- divw
    []

-- each row, and the same with bit 21 set
abbrev pub with_bit_21 : List Row → List Row
with_bit_21 [] = []
with_bit_21 (r ∷ rs) = r ∷ row (r.opcode + 512) r.fields ∷ with_bit_21 rs

-- the fields in the row of an opcode; none where it has no row
abbrev pub fields_in : List Row → ℕ → List Field
fields_in [] x = []
fields_in (r ∷ rs) x = let more : List Field = fields_in rs x in if (eqb r.opcode x) r.fields more

-- all rows under 31
unfoldable pub extended_rows : List Row
extended_rows = with_bit_21 arithmetic_table ++ extended_table

-- the fields of a word that name registers
unfoldable pub fields_named : ℕ → List Field
fields_named w = if (eqb (primary w) 31) (fields_in extended_rows (extended w)) (fields_in primary_table (primary w))

-- the register that a field of a word names, if it names one
abbrev pub register : Field → ℕ → List ℕ
register r_d w = field_d w ∷ []
register r_a w = field_a w ∷ []
register r_a_or_0 w = if (eqb (field_a w) 0) [] (field_a w ∷ [])
register r_b w = field_b w ∷ []

-- of several fields
abbrev pub registers : List Field → ℕ → List ℕ
registers [] w = []
registers (f ∷ fs) w = register f w ++ registers fs w

-- the registers that a word names, in the order of its fields
unfoldable pub registers_named : ℕ → List ℕ
registers_named w = registers (fields_named w) w

-- "a word that reads or writes r0 or r1"
unfoldable pub names_r0_or_r1 : ℕ → Bool
names_r0_or_r1 w = any (λ r. leb r 1) (registers_named w)
