-- An entry changed at its place: the state holds the entries with it.
use mathlib.Core.Path.{◌≡◌, refl, sym, ap, ap₂, ◌∙◌}
use mathlib.Core.Bool.{true}
use mathlib.Core.List.{List, map}
use Prim.Native.Nat.{ℕ, ◌<◌, ◌≤◌}
use native.Mathlib.Omega.{arith}
use lib.ListN.{length, take, get_or, set, get_or-map}
use lib.Seq.{set-get_or}
use borrow.Author.Tests.{le-leb}
use Rattle.std.specs.Prelude.{Result, Ok, Err, Option as Maybe, Some, None, unwrap_or}
use Rattle.std.specs.List.{refill}
use Rattle.std.proofs.lemmas.List.{map-set, get_or_default}
use Rattle.faults.specs.declared.Fault.{Fault}
use Rattle.faults.specs.Outcome.{outcome}
use Rattle.rules.specs.Choice.{if_true, ok, limited}
use Rattle.rules.specs.Ordered.{rank, has, put, upper}
use Rattle.rules.proofs.Ordered.{has_below, has_at, put_old, put_rising, length_put_old}
use Rattle.rules.specs.Known.{Entry, entry_of, new_entry}
use Rattle.rules.specs.Map.{Capacity, add_entry, set_aside, set_aside_entry}
use Rattle.tables.specs.declared.maps.Row.{Row}
use Rattle.tables.specs.Rows.{row, key_of}
use Rattle.tables.proofs.Places.{row_set}
use Rattle.slices.specs.Some.{or_zero}
use Rattle.slices.proofs.Rows.{put_rows}
use Rattle.walks.proofs.Steps.{after_ok}
use Rattle.analyzer.specs.declared.FunctionInfo.{FunctionInfo}
use Rattle.analyzer.specs.declared.AnalyzerState.{AnalyzerState}
use Rattle.analyzer.specs.Table.{info_of, flat, RightIn, Holds}
use Rattle.analyzer.specs.Told.{Told, with_end, end_set}
use Rattle.analyzer.specs.Placed.{Standing}
use Rattle.analyzer.proofs.Rows.{row_of, upper_at, there_is, known_long}
use Rattle.analyzer.proofs.Flat.{flat_same, right_set, right_at}

-- the same, but that it is analyzed
abbrev pub with_analyzed : FunctionInfo → FunctionInfo
with_analyzed i = record { slices = i.slices; analyzed = true; fill_1 = i.fill_1; fill_2 = i.fill_2; fill_4 = i.fill_4 }

module _ {cap : Capacity} {a : AnalyzerState} {lists : List ℕ} {es : List Entry} (h : Holds cap a lists es) (k at : ℕ) (place : at ≡ rank entry_of k es) (there : has entry_of k es ≡ true) where
  abbrev x : Entry
  x = get_or es at (new_entry 0)

  pub inside : at < length es
  inside = omega (arith, has_below entry_of k es there)

  pub upper_is : upper entry_of k (new_entry k) es ≡ x
  upper_is = upper_at k (new_entry k) es ∙ ap (λ i. get_or es i (new_entry k)) (sym place) ∙ get_or_default es at (new_entry k) (new_entry 0) inside

  pub key_at : x.entry ≡ k
  key_at = ap (λ i. (get_or es i (new_entry 0)).entry) place ∙ has_at entry_of (new_entry 0) k es there

  -- another end in the map, where the key is
  pub put_end : {X : Type 0} (end : ℕ) (m : List Row) (r : Result X Fault) (P : Result X Fault → Type 0) → outcome m r ≡ limited 1024 (put key_of (row k end) a.known) → ((b : X) → m ≡ put key_of (row k end) a.known → P (Ok b)) → P r
  unfolding limited
  put_end {X = X} end m r P e f = go r (e ∙ if_true (le-leb _ _ long) _ _) f
    where
      long : length (put key_of (row k end) a.known) ≤ 1024
      long = omega (arith, length_put_old key_of (row k end) a.known (there_is h k ∙ there), known_long h, h.few)

      go : (r : Result X Fault) → outcome m r ≡ ok (put key_of (row k end) a.known) → ((b : X) → m ≡ put key_of (row k end) a.known → P (Ok b)) → P r
      go (Ok b) e f = f b (cc)
      go (Err n) e f = cc

  module _ (y : Entry) (ey : y.entry ≡ k) where
    pub put_here : put entry_of y es ≡ set es at y
    put_here = put_old entry_of y es (ap (λ j. has entry_of j es) ey ∙ there) ∙ ap (λ j. set es j y) (ap (λ j. rank entry_of j es) ey ∙ sym place)

    pub changed : RightIn y.slices → (new : AnalyzerState) → new.room ≡ a.room → new.known ≡ put key_of (row k y.end) a.known → new.infos.items ≡ set a.infos.items at (info_of y) → (now : List ℕ) → length now ≡ length lists → take (length (flat (set es at y))) now ≡ flat (set es at y) → Holds cap new now (put entry_of y es)
    changed right new er ek ei now long numbers = record {
      room = h.room ∙ sym er;
      long = h.long ∙ sym long;
      knows = ek ∙ ap₂ (λ j l. put key_of (row j y.end) l) (sym ey) h.knows ∙ sym (put_rows row_of entry_of key_of (λ _. refl) y es);
      infos = ei ∙ ap (λ l. set l at (info_of y)) h.infos ∙ sym (map-set info_of es at y) ∙ ap (map info_of) (sym put_here);
      numbers = rw put_here numbers;
      right = rw put_here (right_set es at y right h.right);
      rising = put_rising entry_of y es h.rising;
      few = rw (length_put_old entry_of y es (ap (λ j. has entry_of j es) ey ∙ there)) h.few;
    }

    -- with the lists that it had
    pub kept : y.slices ≡ x.slices → (new : AnalyzerState) → new.room ≡ a.room → new.known ≡ put key_of (row k y.end) a.known → new.infos.items ≡ set a.infos.items at (info_of y) → Holds cap new lists (put entry_of y es)
    kept same new er ek ei =
        let right : RightIn y.slices = rw same (right_at 0 es at h.right) in
        let flat_is : flat (set es at y) ≡ flat es = flat_same es at inside (new_entry 0) y (rw same refl) in
        changed right new er ek ei lists refl (rw flat_is h.numbers)

-- ---- what the changes come to

module _ {cap : Capacity} (es : List Entry) {k : ℕ} {a : AnalyzerState} {lists : List ℕ} {at : ℕ} (st : Standing cap (add_entry cap k es) k a lists at) where
  abbrev z : Entry
  z = get_or st.entries at (new_entry 0)

  item_is : info_of z ≡ get_or a.infos.items at (info_of (new_entry 0))
  item_is = sym (get_or-map info_of st.entries at (new_entry 0)) ∙ ap (λ l. get_or l at (info_of (new_entry 0))) (sym st.holds.infos)

  z_is : upper entry_of k (new_entry k) st.entries ≡ z
  z_is = upper_is st.holds k at st.place st.there

  pub end_told : {X : Type 0} (end : ℕ) (new : AnalyzerState) (r : Result X Fault) → outcome new.known r ≡ limited 1024 (put key_of (row k end) a.known) → new.room ≡ a.room → new.infos.items ≡ a.infos.items → Told cap (end_set cap k end es) new lists r
  unfolding end_set
  end_told end new r e er ei =
      put_end st.holds k at st.place st.there end new.known r (Told cap _ new lists) e
      (λ b em. record {
        entries = put entry_of (with_end end (upper entry_of k (new_entry k) st.entries)) st.entries;
        is = after_ok _ (sym st.is);
        holds = rw z_is (kept st.holds k at st.place st.there (with_end end z) (key_at st.holds k at st.place st.there) refl new er em (ei ∙ sym (set-get_or a.infos.items at (info_of (new_entry 0))) ∙ ap (set a.infos.items at) (sym item_is)));
      })

  pub aside_told : {X : Type 0} (now : List FunctionInfo) (new : AnalyzerState) (r : Result X Fault) → outcome new.known r ≡ limited 1024 (put key_of (row k 0) a.known) → new.room ≡ a.room → now ≡ a.infos.items → new.infos.items ≡ refill (length a.infos.items) a.infos.items (set now at (with_analyzed (get_or now at (info_of (new_entry 0))))) → Told cap (set_aside cap k es) new lists r
  unfolding set_aside
  aside_told now new r e er en ei =
      put_end st.holds k at st.place st.there 0 new.known r (Told cap _ new lists) e
      (λ b em. record {
        entries = put entry_of (set_aside_entry cap (upper entry_of k (new_entry k) st.entries)) st.entries;
        is = after_ok _ (sym st.is);
        holds =
            rw z_is
            (kept st.holds k at st.place st.there (set_aside_entry cap z) (key_at st.holds k at st.place st.there) refl new er em
            (ei ∙ row_set now a.infos.items at _ en
            ∙ ap (λ (i : FunctionInfo). set a.infos.items at (with_analyzed i)) (ap (λ l. get_or l at (info_of (new_entry 0))) en ∙ sym item_is)));
      })

pub or_zero_is : (o : Maybe ℕ) → unwrap_or o 0 ≡ or_zero o
or_zero_is None = refl
or_zero_is (Some n) = refl
