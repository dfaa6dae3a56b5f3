-- The entries, and the rows that stand for them in a state.
use mathlib.Core.Path.{◌≡◌, refl, sym, ap, ◌∙◌}
use mathlib.Core.Bool.{Bool, true, false}
use mathlib.Core.List.{List, [], ◌∷◌, map}
use Prim.Native.Nat.{ℕ, zero, suc, ◌+◌, ◌<◌}
use native.Mathlib.Numerals.{add-one}
use native.Mathlib.Omega.{arith}
use lib.Dec.{ltb, eqb}
use lib.ListN.{length, drop, get_or, length-map, get_or-map}
use lib.Seq.{drop-cons}
use borrow.Author.Tests.{le-ltb, eq-eqb}
use Rattle.rules.specs.Choice.{if}
use Rattle.rules.specs.Ordered.{rank, has, put, upper, insert_at}
use Rattle.rules.proofs.Ordered.{has_below}
use Rattle.rules.specs.Known.{Entry, entry_of, new_entry}
use Rattle.rules.specs.Map.{Capacity}
use Rattle.tables.specs.declared.maps.Row.{Row}
use Rattle.tables.specs.Rows.{row, key_of}
use Rattle.slices.proofs.Rows.{has_rows}
use Rattle.analyzer.specs.declared.FunctionInfo.{FunctionInfo}
use Rattle.analyzer.specs.declared.AnalyzerState.{AnalyzerState}
use Rattle.analyzer.specs.Table.{info_of, Holds}

-- an entry with its end
abbrev pub row_of : Entry → Row
row_of x = row x.entry x.end

rank_rows : (k : ℕ) (es : List Entry) → rank key_of k (map row_of es) ≡ rank entry_of k es
rank_rows k [] = refl
rank_rows k (x ∷ es) = ap (λ (r : ℕ). if (ltb x.entry k) (suc r) 0) (rank_rows k es)

pub map_inserted : {A B : Type 0} (f : A → B) (i : ℕ) (x : A) (l : List A) → insert_at i (f x) (map f l) ≡ map f (insert_at i x l)
map_inserted f zero x l = refl
map_inserted f (suc i) x [] = refl
map_inserted f (suc i) x (y ∷ l) = ap (λ m. f y ∷ m) (map_inserted f i x l)

-- the entry at a key or above
pub upper_at : (k : ℕ) (d : Entry) (es : List Entry) → upper entry_of k d es ≡ get_or es (rank entry_of k es) d
unfolding if
upper_at k d [] = refl
upper_at k d (x ∷ es) = go (ltb x.entry k) (upper_at k d es)
  where
    go : (b : Bool) → upper entry_of k d es ≡ get_or es (rank entry_of k es) d → if b (upper entry_of k d es) x ≡ get_or (x ∷ es) (if b (suc (rank entry_of k es)) 0) d
    go true e = e
    go false e = refl

-- an entry that was put in is there, at its place
pub put_there : (a : Entry) (es : List Entry) → (rank entry_of a.entry (put entry_of a es) ≡ rank entry_of a.entry es) × (has entry_of a.entry (put entry_of a es) ≡ true)
unfolding if
put_there a [] = let n : ltb a.entry a.entry ≡ false = le-ltb a.entry a.entry (omega arith) in (rw n refl, rw (n, eq-eqb a.entry a.entry refl) refl)
put_there a (x ∷ es) = by (ltb x.entry a.entry) refl (eqb x.entry a.entry) (put_there a es)
  where
    n : ltb a.entry a.entry ≡ false
    n = le-ltb a.entry a.entry (omega arith)

    by : (b : Bool) → ltb x.entry a.entry ≡ b → (c : Bool) → (rank entry_of a.entry (put entry_of a es) ≡ rank entry_of a.entry es) × (has entry_of a.entry (put entry_of a es) ≡ true) → (rank entry_of a.entry (if b (x ∷ put entry_of a es) (if c (a ∷ es) (a ∷ x ∷ es))) ≡ if b (suc (rank entry_of a.entry es)) 0) × (has entry_of a.entry (if b (x ∷ put entry_of a es) (if c (a ∷ es) (a ∷ x ∷ es))) ≡ true)
    by true q c r = (rw q (ap suc r.0), rw q r.1)
    by false q true r = (rw n refl, rw (n, eq-eqb a.entry a.entry refl) refl)
    by false q false r = (rw n refl, rw (n, eq-eqb a.entry a.entry refl) refl)

-- an entry as its two rows tell it
pub record Told (es : List Entry) (i : ℕ) (r : Row) (f : FunctionInfo) : Type 0 where
  pub entry : Entry
  pub is : entry ≡ get_or es i (new_entry 0)
  pub left : drop i es ≡ entry ∷ drop (i + 1) es
  pub row : r ≡ row_of entry
  pub info : f ≡ info_of entry

module _ {cap : Capacity} {a : AnalyzerState} {lists : List ℕ} {es : List Entry} (h : Holds cap a lists es) where
  pub known_long : length a.known ≡ length es
  known_long = ap length h.knows ∙ length-map es row_of

  pub infos_count : length a.infos.items ≡ length es
  infos_count = ap length h.infos ∙ length-map es info_of

  pub place_is : (k : ℕ) → rank key_of k a.known ≡ rank entry_of k es
  place_is k = ap (rank key_of k) h.knows ∙ rank_rows k es

  pub there_is : (k : ℕ) → has key_of k a.known ≡ has entry_of k es
  there_is k = ap (has key_of k) h.knows ∙ sym (has_rows row_of entry_of key_of (λ _. refl) k es)

  -- a place that was found
  pub found_in : (k at : ℕ) → (at ≡ rank key_of k a.known) × (has key_of k a.known ≡ true) → (at ≡ rank entry_of k es) × (has entry_of k es ≡ true) × (at < length es)
  found_in k at p =
      let t : has entry_of k es ≡ true = sym (there_is k) ∙ p.1 in
      let e : at ≡ rank entry_of k es = p.0 ∙ place_is k in
      (e, t, omega (arith, has_below entry_of k es t))

  pub told_at : (i : ℕ) (r : Row) (f : FunctionInfo) → i < length a.known → ((d : Row) → r ≡ get_or a.known i d) → ((d : FunctionInfo) → f ≡ get_or a.infos.items i d) → Told es i r f
  told_at i r f lt er ef = record {
    entry = get_or es i (new_entry 0);
    is = refl;
    left = drop-cons es i (new_entry 0) (omega (arith, known_long)) ∙ ap (λ j. get_or es i (new_entry 0) ∷ drop j es) (sym (add-one i));
    row = er (row_of (new_entry 0)) ∙ ap (λ l. get_or l i (row_of (new_entry 0))) h.knows ∙ get_or-map row_of es i (new_entry 0);
    info = ef (info_of (new_entry 0)) ∙ ap (λ l. get_or l i (info_of (new_entry 0))) h.infos ∙ get_or-map info_of es i (new_entry 0);
  }
