-- Rows of a map.
use Rattle.std.specs.Prelude.{ℕ}
use Rattle.tables.specs.declared.maps.Row.{Row}

abbrev pub row : ℕ → ℕ → Row
row k v = record { key = k; value = v }

-- rows are told apart by their keys
abbrev pub key_of : Row → ℕ
key_of r = r.key

abbrev pub value_of : Row → ℕ
value_of r = r.value
