-- That the keys of object symbols ascend is a fact: it has one proof at most, as a ghost field's type must.
use Rattle.std.specs.Prelude.{ℕ, List, [], ◌∷◌}
use Rattle.std.specs.Coded.{×_prop, Unit-prop, le_prop, Coded-set, coded_ℕ}
use Rattle.rules.specs.Ordered.{self, Above, Rising}
use Rattle.obj_rows.specs.Symbols.{keys, KeysAscend}

above_prop : (k : ℕ) (l : List ℕ) → IsProp (Above self k l)
above_prop k [] = Unit-prop
above_prop k (x ∷ l) = le_prop

rising_prop : (l : List ℕ) → IsProp (Rising self l)
rising_prop [] = Unit-prop
rising_prop (x ∷ l) = ×_prop (above_prop x l) (rising_prop l)

pub keys_ascend_prop : (s o : List ℕ) → IsProp (KeysAscend s o)
keys_ascend_prop s o = hlevel (rising_prop (keys s o), Coded-set coded_ℕ)
