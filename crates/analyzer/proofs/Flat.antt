-- The numbers of the entries' lists, one entry's behind the other's.
use mathlib.Core.Path.{◌≡◌, refl, sym, ap, ap₂, ◌∙◌}
use mathlib.Core.List.{List, [], ◌∷◌, ◌++◌, map, append_assoc}
use Prim.Native.Nat.{ℕ, zero, suc, ◌+◌, ◌<◌}
use native.Mathlib.Omega.{arith}
use lib.Dec.{leb}
use lib.ListN.{length, take, drop, get_or, set, length-append, take-append-drop}
use lib.Seq.{set_split, drop-cons}
use Rattle.std.proofs.lemmas.List.{take_more}
use Rattle.std.proofs.Math.Option.{Option, none, some}
use Rattle.rules.specs.Choice.{if, ok, fault}
use Rattle.rules.specs.Ordered.{insert_at}
use Rattle.rules.proofs.Ordered.{insert_at_split}
use Rattle.rules.specs.Slices.{Slices}
use Rattle.rules.specs.Known.{Entry, new_entry}
use Rattle.rules.specs.Map.{Capacity, size_of, total, numbers_of, fit, fitting}
use Rattle.numbers.proofs.Columns.{numbers_long}
use Rattle.analyzer.specs.Table.{info_of, header_in, numbers_in, entry_numbers, flat, RightIn, AllRight}
use Rattle.analyzer.specs.declared.FunctionInfo.{FunctionInfo}
use Rattle.analyzer.specs.Placed.{header_long, info_long, infos_long}

flat_append : (xs ys : List Entry) → flat (xs ++ ys) ≡ flat xs ++ flat ys
flat_append [] ys = refl
flat_append (x ∷ xs) ys = ap (λ l. entry_numbers x ++ l) (flat_append xs ys) ∙ sym (append_assoc (entry_numbers x) (flat xs) (flat ys))

module _ (es : List Entry) (i : ℕ) where
  pub flat_parted : flat es ≡ flat (take i es) ++ flat (drop i es)
  flat_parted = ap flat (sym (take-append-drop i es)) ∙ flat_append (take i es) (drop i es)

  pub flat_inserted : (x : Entry) → flat (insert_at i x es) ≡ flat (take i es) ++ (entry_numbers x ++ flat (drop i es))
  flat_inserted x = ap flat (insert_at_split i x es) ∙ flat_append (take i es) (x ∷ drop i es)

  module _ (h : i < length es) where
    pub flat_at : (d : Entry) → flat es ≡ flat (take i es) ++ (entry_numbers (get_or es i d) ++ flat (drop (suc i) es))
    flat_at d = flat_parted ∙ ap (λ l. flat (take i es) ++ flat l) (drop-cons es i d h)

    pub flat_set : (x : Entry) → flat (set es i x) ≡ flat (take i es) ++ (entry_numbers x ++ flat (drop (suc i) es))
    flat_set x = ap flat (set_split es i x h) ∙ flat_append (take i es) (x ∷ drop (suc i) es)

    pub flat_same : (d x : Entry) → entry_numbers x ≡ entry_numbers (get_or es i d) → flat (set es i x) ≡ flat es
    flat_same d x e = flat_set x ∙ ap (λ l. flat (take i es) ++ (l ++ flat (drop (suc i) es))) e ∙ sym (flat_at d)

-- how many there are, by what is told of the lists
header_is : (o : Option Slices) → header_long (header_in o) ≡ length (numbers_in o)
header_is none = refl
header_is (some s) = sym (numbers_long s)

pub infos_are : (es : List Entry) → infos_long (map info_of es) ≡ length (flat es)
infos_are [] = refl
infos_are (x ∷ es) = ap₂ (λ (i j : ℕ). i + j) (header_is x.slices) (infos_are es) ∙ sym (length-append (entry_numbers x) (flat es))

pub entry_long : (x : Entry) → header_long (header_in x.slices) ≡ length (entry_numbers x)
entry_long x = header_is x.slices

infos_append : (xs ys : List FunctionInfo) → infos_long (xs ++ ys) ≡ infos_long xs + infos_long ys
infos_append [] ys = omega arith
infos_append (x ∷ xs) ys = omega (arith, infos_append xs ys)

pub infos_next : (l : List FunctionInfo) (i : ℕ) (d : FunctionInfo) → i < length l → infos_long (take (i + 1) l) ≡ infos_long (take i l) + info_long (get_or l i d)
infos_next l i d h = ap infos_long (take_more l i d h) ∙ infos_append (take i l) (get_or l i d ∷ []) ∙ omega arith

-- and as the rules count them
module _ (cap : Capacity) where
  size_in : (o : Option Slices) → size_of cap (numbers_of cap) o ≡ length (numbers_in o)
  size_in none = refl
  size_in (some s) = sym (numbers_long s)

  total_in : (es : List Entry) → total cap (numbers_of cap) es ≡ length (flat es)
  total_in [] = refl
  total_in (x ∷ es) = ap₂ (λ (i j : ℕ). i + j) (size_in x.slices) (total_in es) ∙ sym (length-append (entry_numbers x) (flat es))

  pub fitting_is : (es : List Entry) → fitting cap es ≡ if (leb (length (flat es)) cap.numbers) (ok es) (fault 4)
  unfolding fitting fit
  fitting_is es = ap (λ (i : ℕ). if (leb i cap.numbers) (ok es) (fault 4)) (total_in es)

-- lists that are right, with an entry's put in or replaced
pub right_inserted : (es : List Entry) (i : ℕ) (x : Entry) → RightIn x.slices → AllRight es → AllRight (insert_at i x es)
right_inserted es zero x r a = (r, a)
right_inserted [] (suc i) x r a = (r, tt)
right_inserted (y ∷ es) (suc i) x r a = (a.0, right_inserted es i x r a.1)

pub right_set : (es : List Entry) (i : ℕ) (x : Entry) → RightIn x.slices → AllRight es → AllRight (set es i x)
right_set [] i x r a = tt
right_set (y ∷ es) zero x r a = (r, a.1)
right_set (y ∷ es) (suc i) x r a = (a.0, right_set es i x r a.1)

pub right_at : (k : ℕ) (es : List Entry) (i : ℕ) → AllRight es → RightIn (get_or es i (new_entry k)).slices
right_at k [] i a = tt
right_at k (y ∷ es) zero a = a.0
right_at k (y ∷ es) (suc i) a = right_at k es i a.1
