-- Lines of one or two numbers, by their kind; a reference and an entry that is set aside have one.
use Rattle.std.specs.Prelude.{List, [], ◌∷◌, ◌++◌, ℕ, Bool}
use Rattle.rules.specs.Lines.{Line, hex, address, address_or_dash, flag}
use Rattle.result_lists.specs.Back.{set_in}
use Rattle.printing.specs.declared.row.EntryRow.{EntryRow}
use Rattle.printing.specs.declared.line.Kind.{Kind}
use Rattle.printing.specs.declared.line.Kind.TheVariants.{Block, Way, Reference, Table, SetAside}

-- the letter that it begins with: B, C, X, J, N
abbrev pub letter : Kind → ℕ
letter Block = 66
letter Way = 67
letter Reference = 88
letter Table = 74
letter SetAside = 78

-- the second number behind its space, if the kind has one
abbrev pub second : Kind → ℕ → Line
second Block b = 32 ∷ address_or_dash b
second Way b = 32 ∷ address b
second Reference b = []
second Table b = 32 ∷ hex 8 b
second SetAside b = []

-- a letter and an address
abbrev pub tagged : ℕ → ℕ → Line
tagged t a = t ∷ 32 ∷ address a

-- a line with its newline
abbrev pub line : Kind → ℕ → ℕ → Line
line k a b = tagged (letter k) a ++ second k b ++ (10 ∷ [])

-- a line for each row of two columns
abbrev pub lines : Kind → List ℕ → List ℕ → List ℕ
lines k [] qs = []
lines k (a ∷ ps) [] = []
lines k (a ∷ ps) (b ∷ qs) = line k a b ++ lines k ps qs

-- the digits for conditional `blr`, `rfi` and load of r1, and the newline
abbrev pub flags : Bool → Bool → Bool → Line
flags c i l = 32 ∷ flag c ∷ flag i ∷ flag l ∷ 10 ∷ []

-- the line of a function with its newline
abbrev pub function_line : EntryRow → Line
function_line e =
    tagged 70 e.entry ++ (32 ∷ address e.end) ++ (32 ∷ address_or_dash e.prologue) ++ (32 ∷ address_or_dash e.epilogue) ++
    flags (set_in e.flags 4) (set_in e.flags 8) (set_in e.flags 16)
