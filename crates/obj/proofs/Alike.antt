-- What the checks ask of an image they ask of its sections alone. Assumes nothing.
use Prim.Native.Nat.{ℕ, ◌%◌}
use mathlib.Core.Path.{◌≡◌, refl, sym, ap, ◌∙◌}
use mathlib.Core.Bool.{Bool, ◌&&◌, not}
use mathlib.Core.List.{List, [], ◌∷◌}
use lib.Dec.{leb, eqb}
use Rattle.rules.specs.Choice.{if}
use Rattle.rules.specs.Image.{Image, Range, contains, locate, code_number, code_section, code_words}
use Rattle.rules.specs.Given.{OutcomeRow, BranchRow, SymbolRow, Given}
use Rattle.rules.specs.Check as rules
use Rattle.obj_image.specs.Lent.{Lent, lent, rows, section_row, image, seen}
use Rattle.obj.specs.Sections.{IsCode}
use Rattle.obj.specs.declared.sections.Code.{Code}
use Rattle.obj_image.proofs.SectionRows.{locate_in, located}
use Rattle.obj.proofs.CodeSection.{code_in, code_is}
use Rattle.obj.proofs.Seen.{any_located}

-- what the checks ask of an image
pub record Alike (im jm : Image) : Type 0 where
  pub located : (a : ℕ) → locate im a ≡ locate jm a
  pub inside : (a : ℕ) → rules.is_inside im a ≡ rules.is_inside jm a
  pub number : code_number im ≡ code_number jm
  pub base : (code_section im).base ≡ (code_section jm).base
  pub size : (code_section im).size ≡ (code_section jm).size

pub alike_seen : (l : Lent) → Alike (image l) (seen l.sections)
unfolding locate
alike_seen l =
    let s : List ℕ = l.sections in
    let o : Lent = lent s [] [] [] [] [] [] in
    let c : Code = code_in 1 0 (rows 4 section_row s) in
    let e : IsCode l c = code_is s c refl l refl in
    let f : IsCode o c = code_is s c refl o refl in
    let k : (a : ℕ) → locate (image l) a ≡ locate (seen s) a = λ a. sym (located s a (locate_in 1 (rows 4 section_row s) a) refl l refl) ∙ located s a (locate_in 1 (rows 4 section_row s) a) refl o refl in
    record {
      located = k;
      inside = λ a. ap (λ (t : Bool). eqb (a % 4) 0 && t) (any_located 0 (image l).sections a ∙ ap (λ (n : ℕ). not (eqb n 0)) (k a) ∙ sym (any_located 0 (seen s).sections a));
      number = sym e.number ∙ f.number;
      base = sym e.base ∙ f.base;
      size = sym e.size ∙ f.size;
    }

all_alike : {A : Type 0} {p q : A → Bool} → ((x : A) → p x ≡ q x) → (l : List A) → rules.all p l ≡ rules.all q l
all_alike f [] = refl
all_alike f (x ∷ l) = rw (f x, all_alike f l)

chained_alike : {A : Type 0} {p q : A → A → Bool} → ((x y : A) → p x y ≡ q x y) → (l : List A) → rules.chained p l ≡ rules.chained q l
chained_alike f [] = refl
chained_alike f (x ∷ []) = refl
chained_alike f (x ∷ y ∷ l) = rw (f x y, chained_alike f (y ∷ l))

module _ (im jm : Image) (same : Alike im jm) where
  branch_alike : (b : BranchRow) → rules.is_branch_row im b ≡ rules.is_branch_row jm b
  branch_alike b = ap (λ (t : Bool). leb b.link 1 && leb b.to 2 && if (eqb b.to 2) (eqb b.address 0) t) (same.inside b.address)

  outcome_alike : (r : OutcomeRow) → rules.is_outcome im r ≡ rules.is_outcome jm r
  outcome_alike r =
      let i : rules.is_inside im r.address ≡ rules.is_inside jm r.address = same.inside r.address in
      let b : rules.all (rules.is_branch_row im) r.branches ≡ rules.all (rules.is_branch_row jm) r.branches = all_alike branch_alike r.branches in
      rw (i, b)

  pub outcomes_alike : (g : Given) → rules.check_outcomes im g ≡ rules.check_outcomes jm g
  unfolding rules.check_outcomes code_words
  outcomes_alike g = rw (same.size, all_alike outcome_alike g.outcomes)

  contains_alike : (a : ℕ) → contains (code_section im) a ≡ contains (code_section jm) a
  contains_alike a = rw (same.base, same.size)

  function_alike : (x : SymbolRow) → rules.is_function_symbol im x ≡ rules.is_function_symbol jm x
  function_alike x = ap (λ (t : Bool). rules.is_symbol im x && t && eqb (x.size % 4) 0) (contains_alike x.address)

  object_alike : (x : SymbolRow) → rules.is_object_symbol im x ≡ rules.is_object_symbol jm x
  object_alike x = rw (same.located x.address, same.number)

  below_alike : (x y : SymbolRow) → rules.is_below im x y ≡ rules.is_below jm x y
  below_alike x y = rw (same.located x.address, same.located y.address)

  symbols_alike : (p q : SymbolRow → Bool) → ((x : SymbolRow) → p x ≡ q x) → (l : List SymbolRow) → rules.are_symbols im p l ≡ rules.are_symbols jm q l
  symbols_alike p q f l = rw (all_alike f l, chained_alike below_alike l)

  skip_alike : (r : Range) → rules.is_skip im r ≡ rules.is_skip jm r
  skip_alike r = rw (same.base, same.size)

  pub rest_alike : (g : Given) → rules.check_rest im g ≡ rules.check_rest jm g
  unfolding rules.check_rest
  rest_alike g =
      rw (
        symbols_alike (rules.is_function_symbol im) (rules.is_function_symbol jm) function_alike g.functions,
        symbols_alike (rules.is_object_symbol im) (rules.is_object_symbol jm) object_alike g.objects,
        all_alike skip_alike g.skips,
        all_alike (λ (a : ℕ). ap (λ (t : Bool). eqb (a % 4) 0 && t) (contains_alike a)) g.entries,
      )
