-- What each kind of line comes to, from the numbers that were read and the tests that were made of them.
use mathlib.Core.Path.{◌≡◌, refl, sym, ◌∙◌}
use mathlib.Core.Bool.{Bool, true, false, ◌&&◌}
use mathlib.Core.List.{List}
use Rattle.std.specs.Prelude.{Option, None, Some}
use Prim.Native.Nat.{ℕ, ◌+◌, ◌<◌, ◌≤◌}
use lib.Dec.{leb, eqb}
use lib.ListN.{length}
use borrow.Author.Tests.{le-leb, lt-leb, eq-eqb, ne_eqb}
use Rattle.rules.specs.Choice.{if}
use Rattle.std.specs.List.{list_all}
use Rattle.reading.specs.Digits.{is_digit}
use Rattle.reading.specs.Frames.{number, tagged, read_frame}
use Rattle.reading.specs.Kinds.{allows, frame, of_digits}
use Rattle.reading.specs.declared.line.Kind.{Kind}
use Rattle.reading.specs.declared.line.Kind.TheVariants.{Section, Word, CodeWord, Branch, Function, Object}
use Rattle.reading.specs.declared.line.Frame.{Frame}

-- ---- the numbers of a line

module _ (l : List ℕ) (k : Kind) (a b c : ℕ) where
  module _ (n : length l ≡ 2 + a + b + c) (x y z : ℕ) (ex : x ≡ number l 2 a) (ey : y ≡ number l (2 + a) b) (ez : z ≡ number l (2 + a + b) c) (t : Bool) (et : t ≡ allows k x y z) where
    pub digits_are : t ≡ true → Some (frame k x y z) ≡ of_digits k a b c l
    unfolding of_digits if
    digits_are h = rw (eq-eqb (length l) (2 + a + b + c) n) (rw (sym ex) (rw (sym ey) (rw (sym ez) (rw (sym et ∙ h) refl))))

    pub digits_not : t ≡ false → None ≡ of_digits k a b c l
    unfolding of_digits if
    digits_not h = rw (eq-eqb (length l) (2 + a + b + c) n) (rw (sym ex) (rw (sym ey) (rw (sym ez) (rw (sym et ∙ h) refl))))

  pub digits_long : (length l ≡ 2 + a + b + c → ⊥) → None ≡ of_digits k a b c l
  unfolding of_digits if
  digits_long n = rw (ne_eqb (length l) (2 + a + b + c) n) refl

-- ---- tests one inside the other

module _ {A : Type 0} (x y : A) where
  pub two_tests : (p q : Bool) → if p (if q x y) y ≡ if (p && q) x y
  unfolding if
  two_tests true q = refl
  two_tests false q = refl

  pub three_tests : (p q r : Bool) → if p (if (q && r) x y) y ≡ if (p && q && r) x y
  unfolding if
  three_tests true q r = refl
  three_tests false q r = refl

module _ (l : List ℕ) (o : Option Frame) where
  -- ---- by the first two digits
  module _ (t : ℕ) where
    -- one that the definition has a case for
    pub tag_is : (k : ℕ) → t ≡ k → o ≡ tagged k l → o ≡ tagged t l
    tag_is k h e = rw h e

    pub tag_section : t ≡ 1 → o ≡ of_digits Section 2 8 8 l → o ≡ tagged t l
    unfolding tagged of_digits if
    tag_section h e = rw h (e ∙ three_tests _ _ (eqb (length l) 20) (leb 1 (number l 2 2)) (leb (number l 2 2) 4))

    pub tag_word : t ≡ 2 → length l ≡ 10 → o ≡ of_digits Word 8 0 0 l → o ≡ tagged t l
    unfolding tagged of_digits if
    tag_word h n e = rw h (e ∙ rw (eq-eqb (length l) 10 n) refl)

    pub tag_code_word : t ≡ 2 → (length l ≡ 10 → ⊥) → o ≡ of_digits CodeWord 8 2 2 l → o ≡ tagged t l
    unfolding tagged of_digits if
    tag_code_word h n e =
        rw h (e ∙ three_tests _ _ (eqb (length l) 14) (leb (number l 10 2) 6) (leb (number l 12 2) 1) ∙ rw (ne_eqb (length l) 10 n) refl)

    pub tag_branch : t ≡ 5 → o ≡ of_digits Branch 2 2 8 l → o ≡ tagged t l
    unfolding tagged of_digits if
    tag_branch h e = rw h (e ∙ three_tests _ _ (eqb (length l) 14) (leb (number l 2 2) 1) (leb (number l 4 2) 2))

    pub tag_function : t ≡ 6 → o ≡ of_digits Function 8 8 2 l → o ≡ tagged t l
    unfolding tagged of_digits if
    tag_function h e = rw h (e ∙ two_tests _ _ (eqb (length l) 20) (leb (number l 18 2) 1))

    pub tag_object : t ≡ 7 → o ≡ of_digits Object 8 8 2 l → o ≡ tagged t l
    unfolding tagged of_digits if
    tag_object h e = rw h (e ∙ two_tests _ _ (eqb (length l) 20) (leb (number l 18 2) 1))

  -- ---- a line
  pub line_is : (t : ℕ) → 2 ≤ length l → true ≡ list_all is_digit l → t ≡ number l 0 2 → o ≡ tagged t l → o ≡ read_frame l
  unfolding read_frame if
  line_is t n d et e = e ∙ rw (le-leb 2 (length l) n) (rw (sym d) (rw (sym et) refl))

module _ (l : List ℕ) where
  pub tag_not : (t : ℕ) → (t ≡ 1 → ⊥) → (t ≡ 2 → ⊥) → (t ≡ 3 → ⊥) → (t ≡ 4 → ⊥) → (t ≡ 5 → ⊥) → (t ≡ 6 → ⊥) → (t ≡ 7 → ⊥) → (t ≡ 8 → ⊥) → (t ≡ 9 → ⊥) → None ≡ tagged t l
  unfolding tagged if
  tag_not t n1 n2 n3 n4 n5 n6 n7 n8 n9 =
      rw (ne_eqb t 1 n1)
      (rw (ne_eqb t 2 n2)
      (rw (ne_eqb t 3 n3)
      (rw (ne_eqb t 4 n4)
      (rw (ne_eqb t 5 n5) (rw (ne_eqb t 6 n6) (rw (ne_eqb t 7 n7) (rw (ne_eqb t 8 n8) (rw (ne_eqb t 9 n9) refl))))))))

  pub line_not : 2 ≤ length l → false ≡ list_all is_digit l → None ≡ read_frame l
  unfolding read_frame if
  line_not n d = rw (le-leb 2 (length l) n) (rw (sym d) refl)

  pub line_short : length l < 2 → None ≡ read_frame l
  unfolding read_frame if
  line_short n = rw (lt-leb 2 (length l) n) refl
