-- A function's lists stored: the numbers in the place of those that the entry had.
use mathlib.Core.Path.{◌≡◌, refl, sym, ap, ◌∙◌}
use mathlib.Core.Bool.{true}
use mathlib.Core.List.{List, ◌++◌}
use Prim.Native.Nat.{ℕ, suc, ◌+◌, ◌-◌, ◌<◌, ◌≤◌}
use native.Mathlib.Omega.{arith}
use lib.ListN.{length, take, drop, get_or, set, length-append, length-drop}
use lib.Seq.{take_all}
use native.Mathlib.Numerals.{add-one}
use borrow.Author.Tests.{le-leb, lt-leb}
use Rattle.std.specs.Prelude.{Result, Some}
use Rattle.std.specs.List.{refill}
use Rattle.std.proofs.Math.Option.{some}
use Rattle.faults.specs.declared.Fault.{Fault}
use Rattle.faults.specs.Number.{number_of}
use Rattle.faults.specs.Outcome.{outcome}
use Rattle.rules.specs.Choice.{if_true, if_false, ok, fault, limited}
use Rattle.rules.specs.Ordered.{put}
use Rattle.rules.specs.Slices.{Slices}
use Rattle.rules.specs.Known.{Entry, entry_of, new_entry}
use Rattle.rules.specs.Map.{Capacity, add_entry, fitting, store}
use Rattle.rules.specs.OneFunction.{numbers}
use Rattle.tables.specs.Rows.{row, key_of}
use Rattle.tables.proofs.Places.{row_set}
use Rattle.walks.proofs.Steps.{after_ok}
use Rattle.numbers.specs.declared.Header.{Header}
use Rattle.numbers.specs.Stored.{header_of, Right}
use Rattle.analyzer.specs.declared.FunctionInfo.{FunctionInfo}
use Rattle.analyzer.specs.declared.AnalyzerState.{AnalyzerState}
use Rattle.analyzer.specs.Table.{info, info_of, entry_numbers, flat}
use Rattle.analyzer.specs.Told.{Told}
use Rattle.analyzer.specs.Placed.{Standing, info_long, infos_long, IsReplaced, IsFull}
use Rattle.analyzer.proofs.Flat.{flat_set, fitting_is}
use Rattle.analyzer.proofs.Changing.{inside, put_end, put_here, changed}
use Rattle.analyzer.proofs.Spans.{runs_long, replaced_runs, runs, before_is, own_is, behind_is}

-- the entry with its lists
abbrev pub stored_entry : ℕ → ℕ → Slices → Entry
stored_entry k end s = record { entry = k; analyzed = true; end = end; slices = some s }

module _ {cap : Capacity} (es : List Entry) {k : ℕ} {a : AnalyzerState} {lists : List ℕ} {at : ℕ} (st : Standing cap (add_entry cap k es) k a lists at) (s : Slices) (end : ℕ) where
  abbrev fs : List Entry
  fs = st.entries

  abbrev y : Entry
  y = stored_entry k end s

  pub there_in : at < length fs
  there_in = inside st.holds k at st.place st.there

  -- what lies before the entry's numbers, they themselves, and what lies behind
  abbrev P : List ℕ
  P = flat (take at fs)

  abbrev B : List ℕ
  B = entry_numbers (get_or fs at (new_entry 0))

  abbrev C : List ℕ
  C = flat (drop (suc at) fs)

  begin : take (length (P ++ (B ++ C))) lists ≡ P ++ (B ++ C)
  begin = runs st.holds at (new_entry 0) there_in

  -- by what is told of the entries
  pub spans : (d e f : List FunctionInfo) → d ≡ a.infos.items → e ≡ a.infos.items → f ≡ a.infos.items → (from len rest : ℕ) → from ≡ infos_long (take at d) → len ≡ info_long (get_or e at (info_of (new_entry 0))) → rest ≡ infos_long (take (length f - (at + 1)) (drop (at + 1) f)) → (from ≡ length P) × (from + len ≡ from + length B) × ((from + len) + rest ≡ (from + len) + length C)
  spans d e f ed ee ef from len rest is own more =
      let whole : take (length f - (at + 1)) (drop (at + 1) f) ≡ drop (suc at) f = take_all _ _ (omega (arith, length-drop (at + 1) f)) ∙ ap (λ i. drop i f) (add-one at) in (
        is ∙ ap (λ l. infos_long (take at l)) ed ∙ before_is st.holds at (new_entry 0) there_in,
        ap (λ j. from + j) (own ∙ own_is st.holds at (new_entry 0) there_in (get_or e at (info_of (new_entry 0))) (ap (λ l. get_or l at (info_of (new_entry 0))) ee)),
        ap (λ j. (from + len) + j) (more ∙ ap infos_long (whole ∙ ap (drop (suc at)) ef) ∙ behind_is st.holds at (new_entry 0) there_in),
      )

  module _ (from until total : ℕ) (ef : from ≡ length P) (eu : until ≡ from + length B) (et : total ≡ until + length C) where
    long_now : length (flat (set fs at y)) ≡ from + length (numbers s) + (total - until)
    long_now = ap length (flat_set fs at there_in y) ∙ omega (arith, length-append P (numbers s ++ C), length-append (numbers s) C)

    step : store cap k s end es ≡ fitting cap (set fs at y)
    unfolding store
    step = after_ok _ (sym st.is) ∙ ap (fitting cap) (put_here st.holds k at st.place st.there y refl)

    pub stored_full : {new : List ℕ} (e : Fault) → IsFull lists new from until total (numbers s) e → store cap k s end es ≡ fault (number_of e)
    stored_full e is =
        let within : total ≤ length lists = omega (arith, runs_long lists P B C begin) in
        step ∙ fitting_is cap (set fs at y)
        ∙ if_false (lt-leb _ _ (rw (long_now, st.holds.long) (is.full within))) _ _
        ∙ ap fault (sym is.limit)

    module _ (now : List ℕ) (is : IsReplaced lists now from until total (numbers s)) where
      fits : store cap k s end es ≡ ok (set fs at y)
      fits = step ∙ fitting_is cap (set fs at y) ∙ if_true (le-leb _ _ (rw (long_now, st.holds.long) is.room)) _ _

      numbers_now : take (length (flat (set fs at y))) now ≡ flat (set fs at y)
      numbers_now = rw (flat_set fs at there_in y) (replaced_runs lists P B C begin (numbers s) now _ from until total ef eu et is.is)

      pub stored_told : {X : Type 0} (right : Right s) (hd : Header) → hd ≡ header_of s → length now ≡ length lists → (items : List FunctionInfo) (new : AnalyzerState) (r : Result X Fault) → outcome new.known r ≡ limited 1024 (put key_of (row k end) a.known) → new.room ≡ a.room → items ≡ a.infos.items → new.infos.items ≡ refill (length a.infos.items) a.infos.items (set items at (info (Some hd) true)) → Told cap (store cap k s end es) new now r
      stored_told right hd eh long items new r e er en ei =
          put_end st.holds k at st.place st.there end new.known r (Told cap (store cap k s end es) new now) e
          (λ b em. record {
            entries = put entry_of y fs;
            is = fits ∙ ap ok (sym (put_here st.holds k at st.place st.there y refl));
            holds =
                changed st.holds k at st.place st.there y refl right new er em
                (ei ∙ row_set items a.infos.items at _ en ∙ ap (λ (h : Header). set a.infos.items at (info (Some h) true)) eh)
                now long numbers_now;
          })
