-- Hexadecimal digits, by their bytes.
use Rattle.std.specs.Prelude.{ℕ, ◌+◌, ◌*◌, ◌-◌, Bool, ◌&&◌, List, [], ◌∷◌, leb, if◌then◌else◌, Option, Some, None, is_some, unwrap_or}

-- what a digit stands for: 0 to 9, A to F, a to f
abbrev pub digit : ℕ → Option ℕ
digit b =
    if leb 48 b && leb b 57 then Some (b - 48)
    else if leb 65 b && leb b 70 then Some (b - 55)
    else if leb 97 b && leb b 102 then Some (b - 87) else None

abbrev pub is_digit : ℕ → Bool
is_digit b = is_some (digit b)

-- a number with more digits behind it
abbrev pub hex_on : ℕ → List ℕ → ℕ
hex_on v [] = v
hex_on v (b ∷ l) = hex_on (v * 16 + unwrap_or (digit b) 0) l

-- the number that digits stand for
abbrev pub hex_value : List ℕ → ℕ
hex_value l = hex_on 0 l
