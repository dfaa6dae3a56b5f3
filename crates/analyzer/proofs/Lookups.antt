-- What is asked of the entries, row by row.
use mathlib.Core.Path.{◌≡◌, refl, sym, ap, ap₂, ◌∙◌}
use mathlib.Core.Bool.{Bool, true, false, ◌&&◌}
use mathlib.Core.List.{List, [], ◌∷◌, ◌++◌, map, append_assoc}
use Prim.Native.Nat.{ℕ, min, ◌+◌}
use native.Mathlib.Omega.{arith}
use lib.Dec.{ltb, eqb}
use lib.ListN.{length, drop, drop_of_length-le}
use Rattle.std.specs.Prelude.{Option as Maybe, Some, None, option_map}
use Rattle.std.specs.Prelude as prelude
use Rattle.std.proofs.Math.Option.{Option, none, some}
use Rattle.std.proofs.lemmas.List.{append-nil}
use Rattle.rules.specs.Choice.{if, if_true, if_false, any, filter}
use Rattle.rules.specs.Ordered.{has, upper}
use Rattle.rules.specs.Slices.{Slices}
use Rattle.rules.specs.Known.{Entry, entry_of, new_entry, is_some, is_unfinalized, end_of_entry}
use Rattle.rules.specs.Map.{Capacity, first_unbounded_function}
use Rattle.tables.specs.declared.maps.Row.{Row}
use Rattle.tables.specs.Rows.{key_of, value_of}
use Rattle.tables.specs.Places as places
use Rattle.slices.specs.Some.{or_zero}
use Rattle.analyzer.specs.declared.FunctionInfo.{FunctionInfo}
use Rattle.analyzer.specs.declared.AnalyzerState.{AnalyzerState}
use Rattle.analyzer.specs.Table.{header_in, Holds}
use Rattle.analyzer.proofs.Rows.{row_of, Told, known_long, infos_count}

-- the end of the entry at a key
end_in : (k : ℕ) (es : List Entry) → or_zero (option_map value_of (places.row_of key_of k (map row_of es))) ≡ end_of_entry k es
unfolding if end_of_entry
end_in k [] = refl
end_in k (x ∷ es) = go (ltb x.entry k) (eqb x.entry k) (end_in k es)
  where
    go : (b c : Bool) → or_zero (option_map value_of (places.row_of key_of k (map row_of es))) ≡ end_of_entry k es → or_zero (option_map value_of (if b (places.row_of key_of k (map row_of es)) (if c (Some (row_of x)) None))) ≡ if (if b (has entry_of k es) c) (if b (upper entry_of k (new_entry 0) es) x).end 0
    go true c e = e
    go false true e = refl
    go false false e = refl

some_in : (o : Option Slices) → prelude.is_some (header_in o) ≡ is_some o
some_in none = refl
some_in (some s) = refl

module _ {cap : Capacity} {a : AnalyzerState} {lists : List ℕ} {es : List Entry} (h : Holds cap a lists es) where
  pub end_is : (k : ℕ) → or_zero (option_map value_of (places.row_of key_of k a.known)) ≡ end_of_entry k es
  end_is k = ap (λ l. or_zero (option_map value_of (places.row_of key_of k l))) h.knows ∙ end_in k es

  -- behind the last entry
  pub none_left : (i : ℕ) → i ≡ min (length a.known) (length a.infos.items) → drop i es ≡ []
  none_left i e = drop_of_length-le es {i = i} (rw e (omega (arith, known_long h, infos_count h)))

module _ {es : List Entry} {i : ℕ} {r : Row} {f : FunctionInfo} (t : Told es i r f) where
  -- the first that is not analyzed
  module _ (same : first_unbounded_function (drop i es) ≡ first_unbounded_function es) where
    first_step : first_unbounded_function es ≡ if f.analyzed (first_unbounded_function (drop (i + 1) es)) t.entry.entry
    first_step = sym same ∙ ap first_unbounded_function t.left ∙ ap (λ (g : FunctionInfo). if g.analyzed (first_unbounded_function (drop (i + 1) es)) t.entry.entry) (sym t.info)

    pub unbounded_here : f.analyzed ≡ false → r.key ≡ first_unbounded_function es
    unbounded_here e = ap key_of t.row ∙ sym (first_step ∙ if_false e _ _)

    pub bounded_next : f.analyzed ≡ true → first_unbounded_function (drop (i + 1) es) ≡ first_unbounded_function es
    bounded_next e = sym (first_step ∙ if_true e _ _)

  -- whether it is analyzed, with lists and no end
  module _ (b : Bool) (eb : b ≡ (f.analyzed && eqb r.value 0 && prelude.is_some f.slices)) where
    test_is : b ≡ is_unfinalized t.entry
    test_is = eb ∙ ap₂ (λ (g : FunctionInfo) (s : Row). g.analyzed && eqb s.value 0 && prelude.is_some g.slices) t.info t.row ∙ ap (λ c. t.entry.analyzed && eqb t.entry.end 0 && c) (some_in t.entry.slices)

    module _ (same : any is_unfinalized (drop i es) ≡ any is_unfinalized es) where
      any_step : any is_unfinalized es ≡ if b true (any is_unfinalized (drop (i + 1) es))
      any_step = sym same ∙ ap (any is_unfinalized) t.left ∙ ap (λ c. if c true (any is_unfinalized (drop (i + 1) es))) (sym test_is)

      pub unfinalized_here : b ≡ true → true ≡ any is_unfinalized es
      unfinalized_here e = sym (any_step ∙ if_true e _ _)

      pub finalized_next : b ≡ false → any is_unfinalized (drop (i + 1) es) ≡ any is_unfinalized es
      finalized_next e = sym (any_step ∙ if_false e _ _)

    module _ (found : List ℕ) (same : found ++ map entry_of (filter is_unfinalized (drop i es)) ≡ map entry_of (filter is_unfinalized es)) where
      filter_step : found ++ map entry_of (if b (t.entry ∷ filter is_unfinalized (drop (i + 1) es)) (filter is_unfinalized (drop (i + 1) es))) ≡ map entry_of (filter is_unfinalized es)
      filter_step =
          ap (λ c. found ++ map entry_of (if c (t.entry ∷ filter is_unfinalized (drop (i + 1) es)) (filter is_unfinalized (drop (i + 1) es)))) test_is
          ∙ ap (λ l. found ++ map entry_of (filter is_unfinalized l)) (sym t.left) ∙ same

      pub found_next : b ≡ true → (found ++ (r.key ∷ [])) ++ map entry_of (filter is_unfinalized (drop (i + 1) es)) ≡ map entry_of (filter is_unfinalized es)
      found_next e =
          append_assoc found (r.key ∷ []) _
          ∙ ap (λ (s : Row). found ++ (s.key ∷ map entry_of (filter is_unfinalized (drop (i + 1) es)))) t.row
          ∙ ap (λ l. found ++ map entry_of l) (sym (if_true e _ _)) ∙ filter_step

      pub passed_next : b ≡ false → found ++ map entry_of (filter is_unfinalized (drop (i + 1) es)) ≡ map entry_of (filter is_unfinalized es)
      passed_next e = ap (λ l. found ++ map entry_of l) (sym (if_false e _ _)) ∙ filter_step

pub found_all : (es : List Entry) (i : ℕ) (found : List ℕ) → drop i es ≡ [] → found ++ map entry_of (filter is_unfinalized (drop i es)) ≡ map entry_of (filter is_unfinalized es) → found ≡ map entry_of (filter is_unfinalized es)
found_all es i found left same = sym (append-nil found) ∙ ap (λ l. found ++ map entry_of (filter is_unfinalized l)) (sym left) ∙ same
