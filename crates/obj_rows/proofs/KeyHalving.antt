-- Object symbols by halving: of symbols whose keys ascend, only the first whose key is not below an address's own can lie there. Assumes
-- nothing.
use Prim.Native.Nat.{ℕ, suc, ◌/◌, ◌≤◌, ◌<◌}
use mathlib.Core.Path.{◌≡◌, refl, sym, ap, ◌∙◌}
use mathlib.Core.Bool.{Bool, true, false, ◌&&◌}
use mathlib.Core.List.{List, [], ◌∷◌, map}
use native.Mathlib.Omega.{arith}
use lib.Dec.{ltb, eqb}
use lib.ListN.{length, drop, get_or, length-map, get_or-map}
use lib.Seq.{drop-cons}
use Rattle.std.proofs.lemmas.List.{drop_all}
use Rattle.std.specs.Simd.{first_chunks}
use borrow.Author.Tests.{ltb-true, ltb-false, ne_eqb}
use Rattle.rules.specs.Choice.{if, if_true, if_false}
use Rattle.rules.specs.Ordered.{self, rank, Above, Rising}
use Rattle.rules.specs.Image as images
use Rattle.rules.specs.Image.{locate}
use Rattle.rules.specs.Given.{SymbolRow}
use Rattle.rules.specs.JumpTable.{known_size}
use Rattle.obj_image.specs.Lent.{Lent, lent, rows, symbol_row, image, seen}
use Rattle.obj_rows.specs.Symbols.{symbol_by, symbol_of, read_symbol, key_of, KeysAscend}
use Rattle.obj_rows.specs.declared.symbols.Symbol.{Symbol}
use Rattle.obj_rows.proofs.Seen.{Located}
use Rattle.obj_rows.proofs.SymbolRows.{symbol_rows, size_in, sized}

abbrev key_in : images.Image → SymbolRow → ℕ
key_in im x = locate im x.address

-- the key by the sections alone
pub key_seen : (s : List ℕ) (a r : ℕ) → Located s a r → r ≡ locate (seen s) a
key_seen s a r h = h (lent s [] [] [] [] [] []) refl

-- ---- the symbol at the address

-- what a symbol says of the address
abbrev says : ℕ → SymbolRow → Bool
says a x = eqb x.address a && eqb x.known 1

-- what the first of the rows says
abbrev first_says : ℕ → List SymbolRow → ℕ
first_says a [] = 0
first_says a (x ∷ rs) = if (says a x) x.size 0

module _ (im : images.Image) (a : ℕ) where
  -- a symbol with another key lies elsewhere
  elsewhere : (x : SymbolRow) → (key_in im x ≡ locate im a → ⊥) → says a x ≡ false
  elsewhere x h = rw (ne_eqb x.address a (λ e. h (ap (locate im) e))) refl

  -- nor does one behind a key that is not below the address's own
  behind_none : (rs : List SymbolRow) (k : ℕ) → locate im a ≤ k → Above self k (map (key_in im) rs) → Rising self (map (key_in im) rs) → size_in a rs ≡ 0
  behind_none [] k h p q = refl
  behind_none (x ∷ rs) k h p q = if_false (elsewhere x (λ e. omega arith)) _ _ ∙ behind_none rs (key_in im x) (omega arith) q.0 q.1

  size_first : (rs : List SymbolRow) → Rising self (map (key_in im) rs) → size_in a rs ≡ first_says a (drop (rank self (locate im a) (map (key_in im) rs)) rs)
  unfolding if
  size_first [] q = refl
  size_first (x ∷ rs) q = go (ltb (key_in im x) (locate im a)) refl (size_first rs q.1)
    where
      n : ℕ
      n = rank self (locate im a) (map (key_in im) rs)

      go : (b : Bool) → ltb (key_in im x) (locate im a) ≡ b → size_in a rs ≡ first_says a (drop n rs) → size_in a (x ∷ rs) ≡ first_says a (drop (if b (suc n) 0) (x ∷ rs))
      go true t f = let h : key_in im x < locate im a = ltb-true _ _ t in if_false (elsewhere x (λ e. omega arith)) _ _ ∙ f
      go false t f = let h : locate im a ≤ key_in im x = ltb-false _ _ t in ap (if (says a x) x.size) (behind_none rs (key_in im x) h q.0 q.1)

-- ---- what known_size returns

-- the known size for any image with these objects
abbrev pub IsKnown : List ℕ → ℕ → ℕ → Type 0
IsKnown o a r = (l : Lent) → l.objects ≡ o → r ≡ known_size a (image l).objects

keys_are : (s : List ℕ) (c : List (List ℕ)) → map (key_in (seen s)) (map read_symbol c) ≡ map (key_of s) c
keys_are s [] = refl
keys_are s (x ∷ c) = ap (λ (l : List ℕ). key_of s x ∷ l) (keys_are s c)

module _ (s o : List ℕ) (asc : KeysAscend s o) (c : List (List ℕ)) (cut : c ≡ first_chunks 3 (length o / 3) o) where
  symbols_are : rows 3 symbol_row o ≡ map read_symbol c
  symbols_are = symbol_rows o asc.whole c cut

  rising : Rising self (map (key_in (seen s)) (map read_symbol c))
  rising = rw (← symbols_are) asc.rise

  pub keys_rise : Rising self (map (key_of s) c)
  keys_rise = rw (← keys_are s c) rising

  module _ (a k n : ℕ) (key : Located s a k) (is : n ≡ rank self k (map (key_of s) c)) where
    size_is : size_in a (rows 3 symbol_row o) ≡ first_says a (drop n (map read_symbol c))
    size_is =
        let e : rank self (locate (seen s) a) (map (key_in (seen s)) (map read_symbol c)) ≡ n = rw (keys_are s c, ← key_seen s a k key) (sym is) in
        ap (size_in a) symbols_are ∙ size_first (seen s) a (map read_symbol c) rising ∙ ap (λ (i : ℕ). first_says a (drop i (map read_symbol c))) e

    pub size_none : length c ≤ n → IsKnown o a 0
    size_none h = sized o a 0 (sym (size_is ∙ ap (first_says a) (drop_all n (map read_symbol c) (rw length-map h))))

    module _ (room : n < length c) (x : Symbol) (here : x ≡ symbol_by (get_or c n [])) where
      size_at : size_in a (rows 3 symbol_row o) ≡ if (says a (symbol_of x)) x.size 0
      size_at =
          let row : drop n (map read_symbol c) ≡ symbol_of x ∷ drop (suc n) (map read_symbol c) =
          drop-cons (map read_symbol c) n (read_symbol []) (rw length-map room) ∙ ap (λ (r : SymbolRow). r ∷ drop (suc n) (map read_symbol c)) (get_or-map read_symbol c n [] ∙ ap symbol_of (sym here)) in
          size_is ∙ ap (first_says a) row

      pub size_here : (eqb x.address a && eqb x.known 1) ≡ true → IsKnown o a x.size
      size_here h = sized o a x.size (sym (size_at ∙ if_true h _ _))

      pub size_elsewhere : (eqb x.address a && eqb x.known 1) ≡ false → IsKnown o a 0
      size_elsewhere h = sized o a 0 (sym (size_at ∙ if_false h _ _))
