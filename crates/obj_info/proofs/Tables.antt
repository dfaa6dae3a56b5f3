-- What jump tables are read by, of a checked image: check 1 says the same of it, and so do the lookups. Assumes nothing.
use Rattle.std.proofs.Common.{◌≡◌, ℕ, refl, List, [], true}
use Rattle.rules.specs.Check as rules
use Rattle.rules.specs.Image.{Symbol, locate, section_at}
use Rattle.rules.specs.Given.{image_of}
use Rattle.rules.proofs.Passes.{passed_of}
use Rattle.obj_image.specs.Lent.{Lent, lent, given, image}
use Rattle.obj_info.specs.Info.{tables_of}

-- check 1 is of the sections and their bytes alone
pub image_passes : (s b o : List ℕ) → rules.check_image (given (lent s b [] [] [] [] [])) ≡ true → rules.check_image (given (lent s b [] [] o [] [])) ≡ true
unfolding rules.check_image given
image_passes s b o h = h

image_alone : (l : Lent) → rules.check_image (given l) ≡ true → rules.check_image (given (lent l.sections l.bytes [] [] [] [] [])) ≡ true
unfolding rules.check_image given
image_alone l h = h

pub tables_pass : (l : Lent) → rules.check (given l) ≡ 0 → rules.check_image (given (lent l.sections l.bytes [] [] [] [] [])) ≡ true
tables_pass l checked = image_alone l (passed_of (given l) checked).image

module _ (l : Lent) where
  pub locate_same : (a : ℕ) → locate (image (tables_of l)) a ≡ locate (image l) a
  unfolding locate image_of given
  locate_same a = refl

  pub section_same : (k : ℕ) → section_at (image (tables_of l)) k ≡ section_at (image l) k
  unfolding section_at image_of given
  section_same k = refl

  pub objects_same : ◌≡◌ {A = List Symbol} (image (tables_of l)).objects (image l).objects
  unfolding image_of given
  objects_same = refl
