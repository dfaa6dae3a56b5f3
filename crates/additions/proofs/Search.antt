-- New entries behind the ends of the entries, in order.
use Rattle.std.proofs.Common.{◌≡◌, ℕ, suc, ◌+◌, ◌≤◌, ◌<◌, Bool, not, List, [], ◌∷◌, ◌++◌, length, drop, get_or, eqb, refl, sym, ap, ◌∙◌, arith, add-one, drop-cons, append_assoc, length-append, option_to_list}
use Rattle.std.specs.Prelude.{Option, Some, None}
use borrow.Author.Tests.{ne_eqb}
use Rattle.std.proofs.lemmas.List.{drop_all, get_or-map, length-map, append-nil}
use Rattle.rules.specs.Choice.{Answer, ok, fault, ◌>>=◌}
use Rattle.rules.specs.Image.{Image}
use Rattle.rules.specs.Ordered.{first, empty}
use Rattle.rules.specs.Known.{Entry, new_entry}
use Rattle.rules.specs.Map as rules
use Rattle.tables.specs.declared.maps.Row.{Row}
use Rattle.tables.specs.Rows.{row}
use Rattle.walks.specs.Around.{Knows}
use Rattle.analyzer.specs.declared.AnalyzerState.{AnalyzerState}
use Rattle.analyzer.proofs.Rows.{row_of}
use Rattle.analyzer.specs.Told.{Holding, Rounded}

-- ---- the entries

module _ (functions : List Row) (es : List Entry) (knows : Knows functions es) where
  many : length functions ≡ length es
  many = ap length knows ∙ length-map es row_of

  module _ (i : ℕ) (less : i < length functions) where
    there : i < length es
    there = omega (arith, many)

    one_more : drop i es ≡ get_or es i (new_entry 0) ∷ drop (i + 1) es
    one_more = rw (add-one i) (drop-cons es i (new_entry 0) there)

    row_is : (d : Row) → get_or functions i d ≡ row_of (get_or es i (new_entry 0))
    row_is d = ap (λ (l : List Row). get_or l i d) knows ∙ get_or-map row_of es i (new_entry 0) d there

  pub next_there : (i : ℕ) (d : Entry) (r : Row) → i + 1 < length functions → ((e : Row) → r ≡ get_or functions (i + 1) e) → r.key ≡ (first d (drop (i + 1) es)).entry
  next_there i d r less e =
      ap (λ (x : Row). x.key) (e (row 0 0) ∙ row_is (i + 1) less (row 0 0)) ∙ ap (λ (l : List Entry). (first d l).entry) (sym (one_more (i + 1) less))

  none_left : (i : ℕ) → length functions ≤ i → drop i es ≡ []
  none_left i le = drop_all i es (omega (arith, many))

  pub next_end : (i : ℕ) (d : Entry) → length functions ≤ i + 1 → d.entry ≡ (first d (drop (i + 1) es)).entry
  next_end i d le = ap (λ (l : List Entry). (first d l).entry) (sym (none_left (i + 1) le))

-- ---- the search

joined : (p q : List ℕ) (a : Answer (List ℕ)) → (ok q >>= (λ r. a >>= λ ks. ok (r ++ ks)) >>= λ ks. ok (p ++ ks)) ≡ (a >>= λ ks. ok ((p ++ q) ++ ks))
unfolding ◌>>=◌
joined p q (ok ks) = ap ok (sym (append_assoc p q ks))
joined p q (fault f) = refl

bind_nil : (a : Answer (List ℕ)) → (a >>= λ ks. ok ([] ++ ks)) ≡ a
unfolding ◌>>=◌
bind_nil (ok ks) = refl
bind_nil (fault f) = refl

module _ (im : Image) (functions : List Row) where
  -- what was found, and what is found behind the functions that are left, is all
  pub record Seeking (keys : List ℕ) (i : ℕ) : Type 0 where
    pub few : length keys ≤ i
    pub same : (cap : rules.Capacity) (es : List Entry) → Knows functions es → rules.new_functions im cap es ≡ (rules.new_functions im cap (drop i es) >>= λ ks. ok (keys ++ ks))

  pub seek_first : (keys : List ℕ) → keys ≡ [] → Seeking keys 0
  seek_first keys e = rw e (record { few = omega arith; same = λ cap es h. sym (bind_nil (rules.new_functions im cap es)) })

  module _ (keys : List ℕ) (i : ℕ) (s : Seeking keys i) where
    pub seek_ends : length functions ≤ i → (cap : rules.Capacity) (es : List Entry) → Knows functions es → ok keys ≡ rules.new_functions im cap es
    unfolding ◌>>=◌
    seek_ends le cap es h =
        ap ok (sym (append-nil keys)) ∙ ap (λ (l : List Entry). rules.new_functions im cap l >>= λ ks. ok (keys ++ ks)) (sym (none_left functions es h i le))
        ∙ sym (s.same cap es h)

    module _ (less : i < length functions) (d : Row) (after : ℕ)
        (is_after : (cap : rules.Capacity) (es : List Entry) → Knows functions es → after ≡ (first (new_entry (rules.section_end im cap)) (drop (i + 1) es)).entry) where
      -- the search goes on behind this entry
      step : (a : Answer (List ℕ)) → ((cap : rules.Capacity) (x : Entry) → x.end ≡ (get_or functions i d).value → a ≡ rules.found_behind im cap x after) → (cap : rules.Capacity) (es : List Entry) → Knows functions es → rules.new_functions im cap es ≡ (a >>= (λ q. rules.new_functions im cap (drop (i + 1) es) >>= λ ks. ok (q ++ ks)) >>= λ ks. ok (keys ++ ks))
      step a is cap es h =
          let x = get_or es i (new_entry 0) in
          let r = drop (i + 1) es in
          let e : rules.found_behind im cap x (first (new_entry (rules.section_end im cap)) r).entry ≡ a =
          ap (rules.found_behind im cap x) (sym (is_after cap es h)) ∙ sym (is cap x (ap (λ (y : Row). y.value) (sym (row_is functions es h i less d)))) in
          s.same cap es h
          ∙ ap (λ (l : List Entry). rules.new_functions im cap l >>= λ ks. ok (keys ++ ks)) (one_more functions es h i less)
          ∙ ap (λ (b : Answer (List ℕ)). b >>= (λ p. rules.new_functions im cap r >>= λ ks. ok (p ++ ks)) >>= λ ks. ok (keys ++ ks)) e

      pub seek_stops : (f : ℕ) → ((cap : rules.Capacity) (x : Entry) → x.end ≡ (get_or functions i d).value → fault f ≡ rules.found_behind im cap x after) → (cap : rules.Capacity) (es : List Entry) → Knows functions es → fault f ≡ rules.new_functions im cap es
      unfolding ◌>>=◌
      seek_stops f is cap es h = sym (step (fault f) is cap es h)

      pub seek_on : (o : Option ℕ) → ((cap : rules.Capacity) (x : Entry) → x.end ≡ (get_or functions i d).value → ok (option_to_list o) ≡ rules.found_behind im cap x after) → (keys' : List ℕ) → keys' ≡ keys ++ option_to_list o → Seeking keys' (i + 1)
      seek_on o is keys' e = rw e (record { few = more o; same = λ cap es h. step (ok (option_to_list o)) is cap es h ∙ joined keys (option_to_list o) (rules.new_functions im cap (drop (i + 1) es)) })
        where
          more : (p : Option ℕ) → length (keys ++ option_to_list p) ≤ i + 1
          more None = omega (arith, s.few, length-append keys [])
          more (Some k) = omega (arith, s.few, length-append keys (k ∷ []))

-- ---- what it adds

module _ (im : Image) (cap : rules.Capacity) (es : List Entry) where
  pub detect_stops : (f : ℕ) → fault f ≡ rules.new_functions im cap es → rules.detect_new_functions im cap es ≡ fault f
  unfolding rules.detect_new_functions ◌>>=◌
  detect_stops f e = rw (← e) refl

  module _ (keys : List ℕ) (is : ok keys ≡ rules.new_functions im cap es) where
    pub detect_fails : (f : ℕ) → rules.add_entries im cap keys es ≡ fault f → rules.detect_new_functions im cap es ≡ fault f
    unfolding rules.detect_new_functions ◌>>=◌
    detect_fails f e = rw (← is, e) refl

    pub detected : (a : AnalyzerState) (lists : List ℕ) → Holding cap (rules.add_entries im cap keys es) a lists → (r : Bool) → r ≡ not (empty keys) → Rounded cap (rules.detect_new_functions im cap es) a lists r
    unfolding rules.detect_new_functions ◌>>=◌
    detected a lists h r e = record { entries = h.entries; is = rw (← is, h.is, e) refl; holds = h.holds }

pub none_found : (keys : List ℕ) → eqb (length keys) 0 ≡ empty keys
none_found [] = refl
none_found (k ∷ keys) = ne_eqb (suc (length keys)) 0 (λ z. absurd (omega (arith, z)))
