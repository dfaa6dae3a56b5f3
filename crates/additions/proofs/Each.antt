-- Entries added one after the other.
use Rattle.std.proofs.Common.{◌≡◌, ℕ, suc, ◌+◌, ◌<◌, ◌≤◌, List, [], ◌∷◌, length, drop, get_or, refl, sym, ap, ◌∙◌, add-one, drop-cons}
use Rattle.std.proofs.lemmas.List.{drop_all}
use Rattle.rules.specs.Choice.{Answer, ok, fault, ◌>>=◌}
use Rattle.rules.specs.Known.{Entry}
use Rattle.rules.specs.Map.{Capacity}
use Rattle.walks.proofs.Steps.{after_ok, after_err}
use Rattle.analyzer.specs.declared.AnalyzerState.{AnalyzerState}
use Rattle.analyzer.specs.Table.{Holds}
use Rattle.analyzer.specs.Told.{Holding}

module _ {X : Type 0} (whole : Capacity → List X → List Entry → Answer (List Entry)) (items : List X) where
  -- the entries that are held now, from which the items that are left come to the same
  pub record Now (cap : Capacity) (lists : List ℕ) (es : List Entry) (i : ℕ) (a : AnalyzerState) : Type 0 where
    pub entries : List Entry
    pub same : whole cap items es ≡ whole cap (drop i items) entries
    pub holds : Holds cap a lists entries

  pub record Going (a₀ : AnalyzerState) (i : ℕ) (a : AnalyzerState) : Type 0 where
    pub now : (cap : Capacity) (lists : List ℕ) (es : List Entry) → Holds cap a₀ lists es → Now cap lists es i a

  pub going_first : (a : AnalyzerState) → Going a 0 a
  going_first a = record { now = λ cap lists es h. record { entries = es; same = refl; holds = h } }

  module _ (step : Capacity → X → List Entry → Answer (List Entry)) (nil : (cap : Capacity) (es : List Entry) → whole cap [] es ≡ ok es)
      (cons : (cap : Capacity) (x : X) (xs : List X) (es : List Entry) → whole cap (x ∷ xs) es ≡ (step cap x es >>= whole cap xs)) where
    module _ (a₀ : AnalyzerState) (i : ℕ) (a : AnalyzerState) (g : Going a₀ i a) where
      pub going_ends : length items ≤ i → (cap : Capacity) (lists : List ℕ) (es : List Entry) → Holds cap a₀ lists es → Holding cap (whole cap items es) a lists
      going_ends le cap lists es h =
          let n = g.now cap lists es h in
          record { entries = n.entries; is = n.same ∙ ap (λ (xs : List X). whole cap xs n.entries) (drop_all i items le) ∙ nil cap n.entries; holds = n.holds }

      module _ (less : i < length items) (d : X) where
        opened : (cap : Capacity) (es : List Entry) → whole cap (drop i items) es ≡ (step cap (get_or items i d) es >>= whole cap (drop (i + 1) items))
        opened cap es = rw (drop-cons items i d, add-one i) (cons cap (get_or items i d) (drop (suc i) items) es)

        pub going_on : (a' : AnalyzerState) → ((cap : Capacity) (lists : List ℕ) (es : List Entry) → Holds cap a lists es → Holding cap (step cap (get_or items i d) es) a' lists) → Going a₀ (i + 1) a'
        going_on a' made = record { now = on }
          where
            on : (cap : Capacity) (lists : List ℕ) (es : List Entry) → Holds cap a₀ lists es → Now cap lists es (i + 1) a'
            on cap lists es h =
                let n = g.now cap lists es h in
                let m = made cap lists n.entries n.holds in
                record { entries = m.entries; same = n.same ∙ opened cap n.entries ∙ after_ok (whole cap (drop (i + 1) items)) (sym m.is); holds = m.holds }

        pub going_stops : (f : ℕ) → ((cap : Capacity) (lists : List ℕ) (es : List Entry) → Holds cap a lists es → step cap (get_or items i d) es ≡ fault f) → (cap : Capacity) (lists : List ℕ) (es : List Entry) → Holds cap a₀ lists es → whole cap items es ≡ fault f
        going_stops f made cap lists es h =
            let n = g.now cap lists es h in
            n.same ∙ opened cap n.entries ∙ after_err (whole cap (drop (i + 1) items)) (sym (made cap lists n.entries n.holds))
