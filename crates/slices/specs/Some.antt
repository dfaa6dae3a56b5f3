-- Numbers of which 0 is none.
use Rattle.std.specs.Prelude.{ℕ, eqb, Option, Some, None}
use Rattle.rules.specs.Choice.{if}

-- the number, unless it is 0
abbrev pub some_nonzero : ℕ → Option ℕ
some_nonzero n = if (eqb n 0) None (Some n)

-- the number, or 0
abbrev pub or_zero : Option ℕ → ℕ
or_zero None = 0
or_zero (Some n) = n
