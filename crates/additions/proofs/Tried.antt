-- What a function refers to becomes an entry, if it is code and not skipped.
use Rattle.std.proofs.Common.{◌≡◌, ◌≢◌, ℕ, true, false, List, refl}
use borrow.Author.Tests.{eq-eqb, ne_eqb}
use Rattle.rules.specs.Choice.{if, ok}
use Rattle.rules.specs.Address.{address_of, section_of}
use Rattle.rules.specs.Image as images
use Rattle.rules.specs.Known.{Entry}
use Rattle.rules.specs.Map as rules

module _ (im : images.Image) (cap : rules.Capacity) (k : ℕ) (es : List Entry) where
  pub tried : section_of k ≡ images.code_number im → images.in_skipped_range im (address_of k) ≡ false → rules.try_add_function im cap k es ≡ rules.add_entry cap k es
  unfolding rules.try_add_function if
  tried e s = rw (eq-eqb _ _ e, s) refl

  pub of_other : section_of k ≢ images.code_number im → rules.try_add_function im cap k es ≡ ok es
  unfolding rules.try_add_function if
  of_other e = rw (ne_eqb _ _ e) refl

  pub skipped : section_of k ≡ images.code_number im → images.in_skipped_range im (address_of k) ≡ true → rules.try_add_function im cap k es ≡ ok es
  unfolding rules.try_add_function if
  skipped e s = rw (eq-eqb _ _ e, s) refl
