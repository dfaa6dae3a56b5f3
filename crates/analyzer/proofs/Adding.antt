-- An entry added: the state holds the entries with it.
use mathlib.Core.Path.{◌≡◌, refl, sym, ap, ◌∙◌}
use mathlib.Core.Bool.{Bool, true, false}
use mathlib.Core.List.{List, map}
use Prim.Native.Nat.{ℕ, suc, min, ◌<◌, ◌≤◌}
use native.Mathlib.Omega.{arith}
use lib.ListN.{length, length-map}
use lib.Dec.{leb}
use borrow.Author.Tests.{le-leb, lt-leb}
use Rattle.std.specs.Prelude.{Result}
use Rattle.std.specs.List as seqs
use Rattle.faults.specs.declared.Fault.{Fault}
use Rattle.faults.specs.Outcome.{outcome}
use Rattle.rules.specs.Choice.{if, if_true, if_false, ok, fault, limited}
use Rattle.rules.specs.Ordered.{rank, has, put, insert_at}
use Rattle.rules.proofs.Ordered.{put_new, put_rising, length_put_new, insert_at_split}
use Rattle.rules.specs.Known.{Entry, entry_of, new_entry}
use Rattle.rules.specs.Map.{Capacity, add_entry}
use Rattle.tables.specs.declared.maps.Row.{Row}
use Rattle.tables.specs.Rows.{row, key_of}
use Rattle.slices.proofs.Rows.{put_rows}
use Rattle.analyzer.specs.declared.AnalyzerState.{AnalyzerState}
use Rattle.analyzer.specs.Table.{info_of, flat, Holds}
use Rattle.analyzer.specs.Told.{Holding}
use Rattle.analyzer.specs.Placed.{Standing}
use Rattle.analyzer.proofs.Rows.{row_of, map_inserted, put_there, known_long}
use Rattle.analyzer.proofs.Flat.{flat_parted, flat_inserted, right_inserted}

module _ {cap : Capacity} {a : AnalyzerState} {lists : List ℕ} {es : List Entry} (h : Holds cap a lists es) (k : ℕ) where
  -- it is there
  pub already : (at : ℕ) → at ≡ rank entry_of k es → has entry_of k es ≡ true → Standing cap (add_entry cap k es) k a lists at
  unfolding add_entry
  already at e t = record { entries = es; is = if_true t _ _; holds = h; place = e; there = t }

  module _ (miss : has entry_of k es ≡ false) where
    abbrev fs : List Entry
    fs = put entry_of (new_entry k) es

    grown : length fs ≡ suc (length es)
    grown = length_put_new entry_of (new_entry k) es miss

    -- there is no room
    pub full : min 1024 a.room ≤ length a.known → add_entry cap k es ≡ fault 4
    unfolding add_entry limited
    full le =
        if_false miss _ _
        ∙ if_false (lt-leb _ _ (rw h.room (omega (arith, grown, known_long h)))) _ _

    module _ (room : length a.known < min 1024 a.room) where
      roomy : add_entry cap k es ≡ ok fs
      unfolding add_entry limited
      roomy = if_false miss _ _ ∙ if_true (le-leb _ _ (rw h.room (omega (arith, grown, known_long h)))) _ _

      -- there is for it in the map
      pub fits : {X : Type 0} (m : List Row) (r : Result X Fault) → outcome m r ≡ limited 1024 (put key_of (row k 0) a.known) → outcome m r ≡ ok (map row_of fs)
      unfolding limited
      fits m r e =
          let same : put key_of (row k 0) a.known ≡ map row_of fs = ap (put key_of (row k 0)) h.knows ∙ sym (put_rows row_of entry_of key_of (λ _. refl) (new_entry k) es) in
          let long : length (map row_of fs) ≤ 1024 = omega (arith, length-map fs row_of, grown, known_long h) in
          e ∙ ap (limited 1024) same ∙ if_true (le-leb _ _ long) _ _

      module _ (at : ℕ) (place : at ≡ rank entry_of k es) (new : AnalyzerState) (er : new.room ≡ a.room) (ek : new.known ≡ map row_of fs) (ei : new.infos.items ≡ seqs.insert a.infos.items at (info_of (new_entry k))) where
        fs_is : fs ≡ insert_at at (new_entry k) es
        fs_is = put_new entry_of (new_entry k) es miss ∙ ap (λ i. insert_at i (new_entry k) es) (sym place)

        pub added : Holding cap (add_entry cap k es) new lists
        added = record {
          entries = fs;
          is = roomy;
          holds = record {
            room = h.room ∙ sym er;
            long = h.long;
            knows = ek;
            infos = ei ∙ ap (λ l. seqs.insert l at (info_of (new_entry k))) h.infos ∙ sym (insert_at_split at (info_of (new_entry k)) (map info_of es)) ∙ map_inserted info_of at (new_entry k) es ∙ ap (map info_of) (sym fs_is);
            numbers = let same : flat fs ≡ flat es = ap flat fs_is ∙ flat_inserted es at (new_entry k) ∙ sym (flat_parted es at) in rw same h.numbers;
            right = rw fs_is (right_inserted es at (new_entry k) tt h.right);
            rising = put_rising entry_of (new_entry k) es h.rising;
            few = omega (arith, grown, known_long h);
          };
        }

-- a list within its limit is that list
limited_ok : {A : Type 0} (n : ℕ) (l m : List A) → limited n l ≡ ok m → m ≡ l
unfolding limited if
limited_ok n l m e = go (leb (length l) n) e
  where
    go : (b : Bool) → if b (ok l) (fault 4) ≡ ok m → m ≡ l
    go true e = cc
    go false e = cc

-- where it stands then
pub stands : {cap : Capacity} {new : AnalyzerState} {lists : List ℕ} (es : List Entry) (k at : ℕ) → has entry_of k es ≡ false → at ≡ rank entry_of k es → Holding cap (add_entry cap k es) new lists → Standing cap (add_entry cap k es) k new lists at
unfolding add_entry
stands {cap = cap} es k at miss place o =
    let same : o.entries ≡ put entry_of (new_entry k) es = limited_ok _ _ _ (sym (if_false miss _ _) ∙ o.is) in
    record {
      entries = o.entries;
      is = o.is;
      holds = o.holds;
      place = place ∙ sym (ap (rank entry_of k) same ∙ (put_there (new_entry k) es).0);
      there = ap (has entry_of k) same ∙ (put_there (new_entry k) es).1;
    }
