-- The last function symbol below an address. Assumes nothing.
use Prim.Native.Nat.{ℕ, zero, suc, ◌+◌, ◌-◌, ◌/◌, ◌%◌, ◌≤◌, ◌<◌}
use mathlib.Core.Path.{◌≡◌, refl, sym, ap, ◌∙◌}
use mathlib.Core.Bool.{Bool, true, false}
use mathlib.Core.List.{List, [], ◌∷◌, map}
use native.Mathlib.Omega.{arith}
use lib.Dec.{ltb, eqb}
use lib.ListN.{length, drop, get_or, length-map, get_or-map}
use lib.Seq.{drop-cons}
use Rattle.std.specs.Simd.{first_chunks}
use borrow.Author.Tests.{eq-eqb, ne_eqb, lt-ltb, le-ltb}
use Rattle.rules.specs.Choice.{if, if_true, if_false}
use Rattle.rules.specs.Address.{key, address_of, section_of}
use Rattle.rules.specs.Ordered.{self, rank, Rising}
use Rattle.rules.specs.Image as images
use Rattle.rules.specs.Given.{SymbolRow, image_of}
use Rattle.rules.specs.Given as givens
use Rattle.rules.specs.Step.{Around, lower_symbol, symbol_over}
use Rattle.rules.proofs.Ordered.{rank_keys}
use Rattle.obj_image.specs.Lent.{Lent, rows, symbol_row, given, image}
use Rattle.obj.specs.Sections.{IsCode}
use Rattle.obj_rows.specs.Symbols.{symbol_by, symbol_of, read_symbol, addresses}
use Rattle.obj_rows.specs.Symbols as symbols
use Rattle.obj_rows.proofs.SymbolRows.{symbol_rows}
use Rattle.obj.specs.declared.sections.Code.{Code}
use Rattle.obj_rows.specs.declared.symbols.Symbol.{Symbol}

abbrev pub own_address : SymbolRow → ℕ
own_address s = s.address

-- ---- the last symbol below an address

module _ (e : Around) (a : ℕ) where
  lowest : (d past : ℕ) (rs : List SymbolRow) → rank own_address a rs ≡ 0 → lower_symbol e a d past (map givens.symbol_of rs) ≡ if (ltb a past) d 0
  unfolding if
  lowest d past [] h = refl
  lowest d past (r ∷ rs) h = go (ltb r.address a) refl h
    where
      go : (b : Bool) → ltb r.address a ≡ b → if b (suc (rank own_address a rs)) 0 ≡ 0 → if b (lower_symbol e a (key (images.code_number e.image) r.address) (r.address + r.size) (map givens.symbol_of rs)) (if (ltb a past) d 0) ≡ if (ltb a past) d 0
      go true q h = absurd (omega arith)
      go false q h = refl

  last_below : (i d past : ℕ) (rs : List SymbolRow) (x : SymbolRow) (t : List SymbolRow) → rank own_address a rs ≡ suc i → drop i rs ≡ x ∷ t → lower_symbol e a d past (map givens.symbol_of rs) ≡ if (ltb a (x.address + x.size)) (key (images.code_number e.image) x.address) 0
  unfolding if
  last_below i d past [] x t h k = absurd (omega arith)
  last_below zero d past (r ∷ rs) x t h k = go (ltb r.address a) h
    where
      same : r ≡ x
      same = cc

      go : (b : Bool) → if b (suc (rank own_address a rs)) 0 ≡ 1 → if b (lower_symbol e a (key (images.code_number e.image) r.address) (r.address + r.size) (map givens.symbol_of rs)) (if (ltb a past) d 0) ≡ if (ltb a (x.address + x.size)) (key (images.code_number e.image) x.address) 0
      go true q = rw (← same) (lowest _ _ rs (omega arith))
      go false q = absurd (omega arith)
  last_below (suc i) d past (r ∷ rs) x t h k = go (ltb r.address a) h (λ q. last_below i (key (images.code_number e.image) r.address) (r.address + r.size) rs x t q k)
    where
      go : (b : Bool) → if b (suc (rank own_address a rs)) 0 ≡ suc (suc i) → (rank own_address a rs ≡ suc i → lower_symbol e a (key (images.code_number e.image) r.address) (r.address + r.size) (map givens.symbol_of rs) ≡ if (ltb a (x.address + x.size)) (key (images.code_number e.image) x.address) 0) → if b (lower_symbol e a (key (images.code_number e.image) r.address) (r.address + r.size) (map givens.symbol_of rs)) (if (ltb a past) d 0) ≡ if (ltb a (x.address + x.size)) (key (images.code_number e.image) x.address) 0
      go true q f = f (omega arith)
      go false q f = absurd (omega arith)

addresses_are : (cs : List (List ℕ)) → map own_address (map read_symbol cs) ≡ map symbols.address_of cs
addresses_are [] = refl
addresses_are (x ∷ cs) = ap (λ (l : List ℕ). symbols.address_of x ∷ l) (addresses_are cs)

-- the addresses of the rows, as std cuts them, rise where those of the list do
pub addresses_rise : (f : List ℕ) → length f % 3 ≡ 0 → (cs : List (List ℕ)) → cs ≡ first_chunks 3 (length f / 3) f → Rising self (addresses f) → Rising self (map symbols.address_of cs)
addresses_rise f whole cs cut rise = rw (← addresses_are cs, ← symbol_rows f whole cs cut) rise

-- where r is what is over t
abbrev pub Over : List ℕ → Code → ℕ → ℕ → Type 0
Over f c t r = (l : Lent) (e : Around) → l.functions ≡ f → IsCode l c → e.image ≡ image l → r ≡ symbol_over e t

module _ (f : List ℕ) (c : Code) (t : ℕ) where
  pub over_outside : (t / 0x1_0000_0000 ≡ c.number → ⊥) → Over f c t 0
  unfolding symbol_over
  over_outside h l e is code same = rw (same, ← code.number, ne_eqb (t / 0x1_0000_0000) c.number h) (sym (if_false refl _ _))

  module _ (inside : t / 0x1_0000_0000 ≡ c.number) where
    functions_are : (l : Lent) (e : Around) → l.functions ≡ f → IsCode l c → e.image ≡ image l → symbol_over e t ≡ lower_symbol e (address_of t) 0 0 (map givens.symbol_of (rows 3 symbol_row f))
    unfolding symbol_over image_of given
    functions_are l e is code same =
        let n : eqb (section_of t) (images.code_number e.image) ≡ true = eq-eqb _ _ (inside ∙ code.number ∙ ap images.code_number (sym same)) in
        if_true n _ _ ∙ ap (λ (fs : List images.Symbol). lower_symbol e (address_of t) 0 0 fs) (ap (λ (im : images.Image). im.functions) same ∙ ap (λ (g : List ℕ). map givens.symbol_of (rows 3 symbol_row g)) is)

    module _ (whole : length f % 3 ≡ 0) (cs : List (List ℕ)) (cut : cs ≡ first_chunks 3 (length f / 3) f) (a i : ℕ) (ea : a ≡ address_of t) (at : i ≡ rank self a (map symbols.address_of cs)) where
      rank_is : rank own_address (address_of t) (rows 3 symbol_row f) ≡ i
      rank_is =
          ap (rank own_address (address_of t)) (symbol_rows f whole cs cut) ∙ rank_keys own_address (address_of t) (map read_symbol cs)
          ∙ ap (rank self (address_of t)) (addresses_are cs) ∙ ap (λ (k : ℕ). rank self k (map symbols.address_of cs)) (sym ea) ∙ sym at

      pub over_none : i ≡ 0 → Over f c t 0
      over_none z l e is code same =
          sym (functions_are l e is code same ∙ lowest e (address_of t) 0 0 (rows 3 symbol_row f) (rank_is ∙ z) ∙ if_false (le-ltb (address_of t) 0 (omega arith)) 0 0)

      module _ (j : ℕ) (before : i ≡ suc j) (room : j < length cs) (x : Symbol) (here : x ≡ symbol_by (get_or cs j [])) where
        over_is : (l : Lent) (e : Around) → l.functions ≡ f → IsCode l c → e.image ≡ image l → symbol_over e t ≡ if (ltb (address_of t) (x.address + x.size)) (key (images.code_number e.image) x.address) 0
        over_is l e is code same =
            let row : drop j (map read_symbol cs) ≡ symbol_of x ∷ drop (suc j) (map read_symbol cs) =
            drop-cons (map read_symbol cs) j (read_symbol []) (rw length-map room) ∙ ap (λ (r : SymbolRow). r ∷ drop (suc j) (map read_symbol cs)) (get_or-map read_symbol cs j [] ∙ ap symbol_of (sym here)) in
            functions_are l e is code same ∙ last_below e (address_of t) j 0 0 (rows 3 symbol_row f) (symbol_of x) _ (rank_is ∙ before) (ap (drop j) (symbol_rows f whole cs cut) ∙ row)

        pub over_short : x.address + x.size ≤ a → Over f c t 0
        over_short h l e is code same =
            let g : x.address + x.size ≤ address_of t = rw ea at h in
            sym (over_is l e is code same ∙ if_false (le-ltb (address_of t) (x.address + x.size) g) _ _)

        pub over_covers : (r : ℕ) → a < x.address + x.size → r ≡ t - address_of t + x.address → Over f c t r
        over_covers r h er l e is code same =
            let g : address_of t < x.address + x.size = rw ea at h in
            let n : key (images.code_number e.image) x.address ≡ r = rw (same, ← code.number, ← inside, er) (omega arith) in
            sym (over_is l e is code same ∙ if_true (lt-ltb (address_of t) (x.address + x.size) g) _ _ ∙ n)
