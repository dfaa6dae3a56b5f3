-- Symbols by value, and what the lookups among them ask for.
use Rattle.std.specs.Prelude.{ℕ, ◌%◌, ◌≡◌, List, map, get_or, length}
use Rattle.rules.specs.Ordered.{self, Rising}
use Rattle.rules.specs.Image.{locate}
use Rattle.rules.specs.Given.{SymbolRow}
use Rattle.obj_image.specs.Lent.{rows, symbol_row, seen}
use Rattle.obj_rows.specs.declared.symbols.Symbol.{Symbol}

-- a symbol by value, from the numbers of its row
abbrev pub symbol_by : List ℕ → Symbol
symbol_by c = record { address = get_or c 0 0; size = get_or c 1 0; known = get_or c 2 0 }

abbrev pub symbol_of : Symbol → SymbolRow
symbol_of s = record { address = s.address; size = s.size; known = s.known }

-- three numbers, as a row
abbrev pub read_symbol : List ℕ → SymbolRow
read_symbol c = symbol_of (symbol_by c)

-- the address of a row
abbrev pub address_of : List ℕ → ℕ
address_of c = (read_symbol c).address

-- the key of a row, by the sections alone
abbrev pub key_of : List ℕ → List ℕ → ℕ
key_of s c = locate (seen s) (read_symbol c).address

-- the addresses of the rows
abbrev pub addresses : List ℕ → List ℕ
addresses l = map (λ (s : SymbolRow). s.address) (rows 3 symbol_row l)

-- the keys of the rows, by the sections alone
abbrev pub keys : List ℕ → List ℕ → List ℕ
keys s l = map (λ (x : SymbolRow). locate (seen s) x.address) (rows 3 symbol_row l)

-- what halving asks of the object symbols, and check 3 leaves: whole rows, whose keys ascend
pub record KeysAscend (s l : List ℕ) : Type 0 where
  pub whole : length l % 3 ≡ 0
  pub rise : Rising self (keys s l)
