-- An image that passes checks 1 to 3 is one for which the theorems hold.
use Prim.Native.Nat.{ℕ, suc, ◌+◌, ◌-◌, ◌%◌, ◌≤◌, ◌<◌}
use mathlib.Core.Path.{◌≡◌, refl, sym, ◌∙◌, subst}
use mathlib.Core.Bool.{Bool, true, false, false≢true, ◌&&◌}
use mathlib.Core.List.{List, [], ◌∷◌, map}
use native.Mathlib.Omega.{arith}
use lib.ListN.{length, get_or, take, drop}
use lib.Dec.{leb, eqb}
use borrow.Author.Tests.{leb-true, ltb-true, eqb-true}
use Rattle.rules.specs.Choice.{if, by_if}
use Rattle.rules.specs.Address.{section_of}
use Rattle.rules.specs.Image
use Rattle.rules.specs.Image.{Image, Section, Range}
use Rattle.rules.specs.Blocks.{is_aligned}
use Rattle.rules.specs.Given
use Rattle.rules.specs.Given.{Given, SectionRow, OutcomeRow, BranchRow, SymbolRow, image_of}
use Rattle.rules.specs.Check
use Rattle.rules.specs.Check.{check}
use Rattle.rules.proofs.Rows.{All, all_map}
use Rattle.rules.proofs.Tests.{and_left, and_right}
use Rattle.rules.proofs.WalkEnds.{Sound}
use Rattle.rules.proofs.Keeps.{AlignedBranch, AlignedOutcome, aimed_of}
use Rattle.rules.proofs.Placed.{SymbolFits, Checked}

-- ---- tests of lists

all_true : {A : Type 0} (p : A → Bool) (l : List A) → Check.all p l ≡ true → All (λ x. p x ≡ true) l
all_true p [] h = tt
all_true p (x ∷ l) h = (and_left _ _ h, all_true p l (and_right (p x) _ h))

all_mapped : {A B : Type 0} (P : B → Type 0) (f : A → B) (l : List A) → All (λ x. P (f x)) l → All P (map f l)
all_mapped P f [] h = tt
all_mapped P f (x ∷ l) h = (h.0, all_mapped P f l h.1)

-- the checks one by one
pub record Passed (g : Given) : Type 0 where
  pub image : Check.check_image g ≡ true
  pub outcomes : Check.check_outcomes (image_of g) g ≡ true
  pub rest : Check.check_rest (image_of g) g ≡ true

pub passed_of : (g : Given) → check g ≡ 0 → Passed g
unfolding check if
passed_of g h = by (Check.check_image g) refl (Check.check_outcomes (image_of g) g) refl (Check.check_rest (image_of g) g) refl h
  where
    by : (a : Bool) → Check.check_image g ≡ a → (b : Bool) → Check.check_outcomes (image_of g) g ≡ b → (c : Bool) → Check.check_rest (image_of g) g ≡ c → ◌≡◌ {A = ℕ} (if a (if b (if c 0 3) 2) 1) 0 → Passed g
    by true p true q true r z = record { image = p; outcomes = q; rest = r }
    by true p true q false r z = absurd (omega arith)
    by true p false q c r z = absurd (omega arith)
    by false p b q c r z = absurd (omega arith)

-- ---- the code section

kind_code : (k : ℕ) → eqb k 1 ≡ true → Image.is_code (Given.kind_of k) ≡ true
unfolding if
kind_code k h = rw h

pub code_from_low : (i : ℕ) (ss : List Section) → i ≤ Image.code_from i ss
code_from_low i [] = omega arith
code_from_low i (s ∷ ss) =
    by_if (λ n. i ≤ n) (Image.is_code s.kind) {x = i} {y = Image.code_from (suc i) ss} (λ _. omega arith) (λ _. omega (arith, code_from_low (suc i) ss))

-- what holds of each section holds of the code section, where there is one
module _ (P : Section → Type 0) where
  code_holds : (i : ℕ) (l : List SectionRow) (d : List ℕ) → (Check.count_codes l ≡ 0 → ⊥) → All (λ r. (w : List ℕ) → P (Given.section_of_row r w)) l → P (get_or (Given.sections_of l d) (Image.code_from i (Given.sections_of l d) - i) Image.no_section)
  unfolding if
  code_holds i [] d n p = absurd (n refl)
  code_holds i (r ∷ l) d n p =
      by (Image.is_code (Given.kind_of r.kind)) refl (code_holds (suc i) l (drop r.given d))
    where
      later : Image.is_code (Given.kind_of r.kind) ≡ false → Check.count_codes l ≡ 0 → ⊥
      later e z = go (eqb r.kind 1) refl
        where
          go : (b : Bool) → eqb r.kind 1 ≡ b → ⊥
          go true q = false≢true (sym e ∙ kind_code r.kind q)
          go false q = n (rw q z)

      by : (b : Bool) → Image.is_code (Given.kind_of r.kind) ≡ b → ((Check.count_codes l ≡ 0 → ⊥) → All (λ r. (w : List ℕ) → P (Given.section_of_row r w)) l → P (get_or (Given.sections_of l (drop r.given d)) (Image.code_from (suc i) (Given.sections_of l (drop r.given d)) - suc i) Image.no_section)) →
          P (get_or (Given.sections_of (r ∷ l) d) (if b i (Image.code_from (suc i) (Given.sections_of l (drop r.given d))) - i) Image.no_section)
      by true e f = let z : i - i ≡ 0 = omega arith in rw z (p.0 (take r.given d))
      by false e f =
          let m : ℕ = Image.code_from (suc i) (Given.sections_of l (drop r.given d)) in
          let z : m - i ≡ suc (m - suc i) = omega (arith, code_from_low (suc i) (Given.sections_of l (drop r.given d))) in
          rw z (f (later e) p.1)

-- what check 1 says of each section
record Placed (s : Section) : Type 0 where
  aligned : s.size % 4 ≡ 0
  based : s.base % 4 ≡ 0
  fits : s.base + s.size ≤ 0xF000_0000

row_placed : (r : SectionRow) → Check.is_placed r ≡ true → (w : List ℕ) → Placed (Given.section_of_row r w)
row_placed r h w =
    let a : (is_aligned r.base && is_aligned r.size && leb 256 r.base && leb 4 r.size) ≡ true = and_left _ _ h in
    let b : (is_aligned r.base && is_aligned r.size && leb 256 r.base) ≡ true = and_left _ _ a in
    let c : (is_aligned r.base && is_aligned r.size) ≡ true = and_left _ _ b in
    record { aligned = eqb-true _ _ (and_right (is_aligned r.base) _ c); based = eqb-true _ _ (and_left _ _ c); fits = leb-true _ _ (and_right (is_aligned r.base && is_aligned r.size && leb 256 r.base && leb 4 r.size) _ h) }

-- ---- the outcomes

branch_aligned : (im : Image) (b : BranchRow) → Check.is_branch_row im b ≡ true → AlignedBranch (Given.branch_of b)
unfolding if
branch_aligned im b h = by (eqb b.to 0) (eqb b.to 1) (eqb b.to 2) refl refl refl (and_right (leb b.link 1 && leb b.to 2) _ h)
  where
    by : (x y z : Bool) → eqb b.to 0 ≡ x → eqb b.to 1 ≡ y → eqb b.to 2 ≡ z → if z (eqb b.address 0) (Check.is_inside im b.address) ≡ true →
        AlignedBranch (record { link = eqb b.link 1; to = if x (Image.to_address b.address) (if y (Image.to_table b.address) Image.elsewhere) })
    by true y true p q r t = let u : b.address ≡ 0 = eqb-true _ _ t in rw u refl
    by true y false p q r t = eqb-true _ _ (and_left _ _ t)
    by false true z p q r t = tt
    by false false z p q r t = tt

outcome_aligned : (im : Image) (r : OutcomeRow) → Check.is_outcome im r ≡ true → AlignedOutcome (Given.outcome_of r)
unfolding if
outcome_aligned im r h =
    by (eqb r.kind 0) (eqb r.kind 1) (eqb r.kind 2) (eqb r.kind 3) (eqb r.kind 4) refl (eqb r.kind 5) refl (eqb r.kind 6) refl
    (and_right (leb r.kind 6 && leb r.mark 1) _ h)
  where
    listed : (b : Bool) → if b (leb (length r.branches) 2 && Check.all (Check.is_branch_row im) r.branches) (eqb (length r.branches) 0) ≡ true → All AlignedBranch (map Given.branch_of r.branches)
    listed true t =
        all_mapped AlignedBranch Given.branch_of r.branches
        (all_map r.branches (λ b q. branch_aligned im b q) (all_true (Check.is_branch_row im) r.branches (and_right (leb (length r.branches) 2) _ t)))
    listed false t = none r.branches (eqb-true _ _ t)
      where
        none : (l : List BranchRow) → length l ≡ 0 → All AlignedBranch (map Given.branch_of l)
        none [] z = tt
        none (x ∷ l) z = absurd (omega arith)

    by : (k0 k1 k2 k3 k4 : Bool) → eqb r.kind 4 ≡ k4 → (k5 : Bool) → eqb r.kind 5 ≡ k5 → (k6 : Bool) → eqb r.kind 6 ≡ k6 →
        if k4 (Check.is_inside im r.address && eqb r.size 0 && eqb (length r.branches) 0)
        (if k5 (Check.is_inside im r.address && leb r.size 65536 && eqb (length r.branches) 0)
        (eqb r.address 0 && eqb r.size 0 && if k6 (leb (length r.branches) 2 && Check.all (Check.is_branch_row im) r.branches) (eqb (length r.branches) 0))) ≡ true →
        AlignedOutcome (if k0 Image.go_on (if k1 Image.illegal (if k2 Image.unknown (if k3 Image.return (if k4 (Image.jump r.address) (if k5 (Image.jump_table r.address r.size) (Image.branches (map Given.branch_of r.branches))))))))
    by true k1 k2 k3 k4 e4 k5 e5 k6 e6 t = tt
    by false true k2 k3 k4 e4 k5 e5 k6 e6 t = tt
    by false false true k3 k4 e4 k5 e5 k6 e6 t = tt
    by false false false true k4 e4 k5 e5 k6 e6 t = tt
    by false false false false true e4 k5 e5 k6 e6 t = eqb-true _ _ (and_left _ _ (and_left _ _ (and_left _ _ t)))
    by false false false false false e4 true e5 k6 e6 t = tt
    by false false false false false e4 false e5 k6 e6 t = listed k6 (and_right (eqb r.address 0 && eqb r.size 0) _ t)

-- ---- the whole

module _ (g : Given) (p : Passed g) where
  code_placed : Placed (Image.code_section (image_of g))
  unfolding Image.code_section Image.code_number image_of Check.check_image
  code_placed =
      let z = and_left _ _ p.image in
      let a = and_left _ _ z in
      let b = and_left _ _ a in
      let c = and_left _ _ b in
      let d = and_left _ _ c in
      let e = and_left _ _ d in
      let one : Check.count_codes g.sections ≡ 1 = eqb-true _ _ (and_right (Check.few_sections g.sections) _ e) in
      code_holds Placed 1 g.sections g.bytes (λ z. omega arith)
      (all_map g.sections (λ r q. row_placed r q) (all_true Check.is_placed g.sections (and_right (Check.few_sections g.sections && Check.one_code g.sections && Check.all Check.is_kind g.sections) _ c)))

  sound : Sound (image_of g)
  sound = let c = code_placed in record { aligned = c.aligned; based = c.based; fits = c.fits }

  symbol_fits : (f : SymbolRow) → Check.is_function_symbol (image_of g) f ≡ true → SymbolFits (Given.symbol_of f)
  symbol_fits f h =
      let a : (Check.is_symbol (image_of g) f && Image.contains (Image.code_section (image_of g)) f.address) ≡ true = and_left _ _ h in
      let b : Check.is_symbol (image_of g) f ≡ true = and_left _ _ a in
      let c : (is_aligned f.address && leb f.size 262144) ≡ true = and_left _ _ b in
      let i : Image.contains (Image.code_section (image_of g)) f.address ≡ true = and_right (Check.is_symbol (image_of g) f) _ a in
      let l : f.address < (Image.code_section (image_of g)).base + (Image.code_section (image_of g)).size = ltb-true _ _ (and_right (leb (Image.code_section (image_of g)).base f.address) _ i) in
      let s : f.size ≤ 262144 = leb-true _ _ (and_right (is_aligned f.address) _ c) in
      record {
        even = eqb-true _ _ (and_left _ _ c);
        whole = eqb-true _ _ (and_right (Check.is_symbol (image_of g) f && Image.contains (Image.code_section (image_of g)) f.address) _ h);
        fits = omega (arith, sound.fits);
      }

  symbols : All SymbolFits (image_of g).functions
  unfolding image_of Check.check_rest
  symbols =
      let a = and_left _ _ p.rest in
      let b = and_left _ _ a in
      let c = and_left _ _ b in
      let d = and_left _ _ c in
      all_mapped SymbolFits Given.symbol_of g.functions
      (all_map g.functions (λ f q. symbol_fits f q) (all_true (Check.is_function_symbol (image_of g)) g.functions (and_right (leb (length g.functions) 1024) _ d)))

  skips : All (λ (r : Range). r.past % 4 ≡ 0) (image_of g).skips
  unfolding image_of Check.check_rest
  skips =
      let a = and_left _ _ p.rest in
      let b = and_right (Check.are_symbols (image_of g) (Check.is_function_symbol (image_of g)) g.functions && Check.are_symbols (image_of g) (Check.is_object_symbol (image_of g)) g.objects) _ a in
      let c = and_left _ _ b in
      all_map g.skips (λ r q. past r q) (all_true (Check.is_skip (image_of g)) g.skips (and_right (leb (length g.skips) 64) _ c))
    where
      past : (r : Range) → Check.is_skip (image_of g) r ≡ true → r.past % 4 ≡ 0
      past r q =
          let d = and_left _ _ q in
          let e = and_left _ _ d in
          let f : (is_aligned r.first && is_aligned r.past) ≡ true = and_left _ _ e in
          eqb-true _ _ (and_right (is_aligned r.first) _ f)

  entry_aligned : (l : List ℕ) → Check.are_entries (image_of g) l ≡ true → Given.entry_of (Image.code_number (image_of g)) l % 4 ≡ 0
  entry_aligned [] h = refl
  entry_aligned (a ∷ l) h =
      let b : Check.is_entry (image_of g) a ≡ true = and_left _ _ (and_right (leb (length (a ∷ l)) 1) _ h) in
      let c : a % 4 ≡ 0 = eqb-true _ _ (and_left _ _ b) in
      omega arith

  entry_in_code : (l : List ℕ) → Check.are_entries (image_of g) l ≡ true → (Given.entry_of (Image.code_number (image_of g)) l ≡ 0 → ⊥) → section_of (Given.entry_of (Image.code_number (image_of g)) l) ≡ Image.code_number (image_of g)
  entry_in_code [] h n = absurd (n refl)
  entry_in_code (a ∷ l) h n =
      let b : Check.is_entry (image_of g) a ≡ true = and_left _ _ (and_right (leb (length (a ∷ l)) 1) _ h) in
      let i : Image.contains (Image.code_section (image_of g)) a ≡ true = and_right (is_aligned a) _ b in
      let c : a < (Image.code_section (image_of g)).base + (Image.code_section (image_of g)).size = ltb-true _ _ (and_right (leb (Image.code_section (image_of g)).base a) _ i) in
      omega (arith, sound.fits)

  entries : Check.are_entries (image_of g) g.entries ≡ true
  unfolding Check.check_rest
  entries = and_right (Check.are_symbols (image_of g) (Check.is_function_symbol (image_of g)) g.functions && Check.are_symbols (image_of g) (Check.is_object_symbol (image_of g)) g.objects && Check.are_skips (image_of g) g.skips) _ p.rest

  entry_is : (image_of g).entry ≡ Given.entry_of (Image.code_number (image_of g)) g.entries
  unfolding image_of Image.code_number
  entry_is = refl

  outcomes : All (λ (t : Image.Told). AlignedOutcome t.outcome) (image_of g).told
  unfolding image_of Check.check_outcomes
  outcomes =
      all_mapped (λ (t : Image.Told). AlignedOutcome t.outcome) Given.told_of g.outcomes
      (all_map g.outcomes (λ r q. outcome_aligned (image_of g) r q) (all_true (Check.is_outcome (image_of g)) g.outcomes (and_right (eqb (length g.outcomes) (Image.code_words (image_of g))) _ p.outcomes)))

  pub passed_checked : Checked (image_of g)
  passed_checked =
      record {
        sound = sound;
        aimed = aimed_of (image_of g) outcomes;
        symbols = symbols;
        skips = skips;
        entry_even = rw entry_is (entry_aligned g.entries entries);
        entry_code = λ n. subst (λ k. section_of k ≡ Image.code_number (image_of g)) (sym entry_is) (entry_in_code g.entries entries (λ z. n (entry_is ∙ z)));
      }

pub checked_of : (g : Given) → check g ≡ 0 → Checked (image_of g)
checked_of g h = passed_checked g (passed_of g h)
