-- Where a word of the code section begins.
use Rattle.std.specs.Prelude.{◌≡◌, ℕ, ◌+◌, ◌-◌, ◌*◌, ◌/◌, ◌≤◌}
use Rattle.rules.specs.Address.{address_of}
use Rattle.rules.specs.Image.{Image, code_section}

-- the word at an address begins at this one
pub record IsWordStart (im : Image) (k a : ℕ) : Type 0 where
  pub low : (code_section im).base ≤ address_of k
  pub at : a ≡ (code_section im).base + (address_of k - (code_section im).base) / 4 * 4
