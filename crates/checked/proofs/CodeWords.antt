-- The words of the code section, one after the other.
use Rattle.std.proofs.Common.{◌≡◌, ℕ, ◌+◌, ◌*◌, ◌/◌, ◌<◌, ◌≤◌, true, arith}
use borrow.Author.Tests.{le-leb, lt-ltb}
use Rattle.rules.specs.Address.{address_of}
use Rattle.rules.specs.Image.{Section, contains}
use Rattle.rules.proofs.Tests.{and_both}

-- each lies in its section, whatever section its key names
pub word_within : (s : Section) (base size n i : ℕ) → base ≡ s.base → size ≡ s.size → i < size / 4 → base + size ≤ 0xF000_0000 → contains s (address_of (n * 0x1_0000_0000 + (base + 4 * i))) ≡ true
word_within s base size n i b z h end =
    let at : address_of (n * 0x1_0000_0000 + (base + 4 * i)) ≡ base + 4 * i = omega arith in
    rw at (and_both _ _ (le-leb s.base (base + 4 * i) (omega arith)) (lt-ltb (base + 4 * i) (s.base + s.size) (omega arith)))
