-- The map in the lent lists, and what the public run answers.
use Rattle.std.proofs.Common.{◌≡◌, ℕ, ◌*◌, ◌/◌, ◌≤◌, ◌<◌, min, leb, Bool, true, false, List, ◌++◌, length, map, replicate, refl, sym, ap, ap₂, ◌∙◌, arith}
use Rattle.std.specs.Prelude.{Result, Ok, Err}
use native.Mathlib.Nat.{min-le_right}
use borrow.Author.Tests.{le-leb, lt-leb}
use Rattle.std.proofs.lemmas.List.{length-map}
use Rattle.rules.specs.Choice.{if, if_true, if_false, Answer, ok, fault}
use Rattle.rules.specs.Loop.{number, holds_at}
use Rattle.rules.specs.Image.{Image}
use Rattle.rules.specs.Check.{check}
use Rattle.rules.specs.Known.{Entry}
use Rattle.rules.specs.Map as rules
use Rattle.rules.specs.Run.{run}
use Rattle.rules.specs.Accounted.{Accounted}
use Rattle.rules.proofs.Faults.{Met, detect_met}
use Rattle.rules.proofs.Runs.{check_most, run_walks, run_refuses, run_accounted}
use Rattle.obj_image.specs.Lent.{Lent, given, image}
use Rattle.faults.specs.declared.Fault.{Fault}
use Rattle.faults.specs.declared.Fault.TheVariants as variants
use Rattle.faults.specs.Number.{number_of}
use Rattle.walks.specs.Around.{Knows}
use Rattle.tables.specs.Rows.{row}
use Rattle.analyzer.specs.Table.{info_of, flat, AllRight, Holds}
use Rattle.analyzer.specs.Told.{Holding}
use Rattle.analyzer.specs.declared.AnalyzerState.{AnalyzerState}
use Rattle.result_lists.specs.Rows.{rows_of, padded, Results}
use Rattle.result_lists.specs.Back.{map_of}
use Rattle.result_lists.proofs.Reading.{map_back}
use Rattle.detection.specs.Maps.{room_of, Reply, reply, reply_of, Mapped, Right, Answers, Told, Counted, LeftMap, Left}
use Rattle.detection.specs.declared.MapSize.{MapSize}
use Rattle.detection.proofs.Room.{detect_fits}

-- ---- the rows have room for all entries

module _ (im : Image) (rows lists₀ : List ℕ) (a : AnalyzerState) (lists : List ℕ) (d : Holding (room_of rows lists₀) (rules.detect im (room_of rows lists₀)) a lists) where
  pub fits : length a.infos.items * 10 ≤ length rows
  fits =
      let h : length d.entries ≤ min 1024 (length rows / 10) = holds_at (detect_fits (room_of rows lists₀) im) d.is in
      let m : min 1024 (length rows / 10) ≤ length rows / 10 = min-le_right 1024 (length rows / 10) in
      omega (arith, ap length d.holds.infos, length-map d.entries info_of)

  pub left_map : (n total : ℕ) → n ≡ length a.known → (rows' lists' : List ℕ) → Results d.entries rows lists rows' lists' total → LeftMap (rules.detect im (room_of rows lists₀)) rows lists₀ rows' lists' (reply 0 n total)
  left_map n total is rows' lists' r =
      let e : n ≡ length d.entries = is ∙ ap length d.holds.knows ∙ length-map d.entries (λ (x : Entry). row x.entry x.end) in
      let l : length lists ≡ length lists₀ = sym d.holds.long in
      record {
        entries = d.entries;
        is = d.is;
        mapped = (ap₂ (λ (k m : ℕ). reply 0 k m) e r.total_is, r.rows_are, r.lists_are ∙ ap (λ (k : ℕ). padded (flat d.entries) k) l);
        right = d.holds.right;
      }

-- ---- the public run

module _ (l : Lent) (rows lists : List ℕ) where
  abbrev answer : Answer (List Entry)
  answer = run (given l) (room_of rows lists)

  pub told_refused : (e : Fault) → number_of e ≡ check (given l) → (number_of e ≡ 0 → ⊥) → Told answer rows lists rows lists (reply_of (Err e))
  told_refused e c z =
      let q : answer ≡ fault (number_of e) = run_refuses (given l) (room_of rows lists) (λ y. z (c ∙ y)) ∙ ap fault (sym c) in
      let t : leb (number_of e) 3 ≡ true = le-leb (number_of e) 3 (rw (← c) at (check_most (given l))) in
      rw q (record { answers = (refl, sym (if_true t rows (replicate (length rows) 0)), sym (if_true t lists (replicate (length lists) 0))); right = tt })

  pub counted_refused : (e : Fault) (rows' lists' : List ℕ) → (number_of e ≡ 0 → ⊥) → Counted (image l) rows' lists' (reply_of (Err e))
  counted_refused e rows' lists' z = record { accounted = λ y. absurd (z y) }

  module _ (passed : check (given l) ≡ 0) (rows' lists' : List ℕ) where
    same : answer ≡ rules.detect (image l) (room_of rows lists)
    same = run_walks (given l) (room_of rows lists) passed

    told_fault : (n : ℕ) → Met {A = List Entry} (fault n) → rows' ≡ replicate (length rows) 0 → lists' ≡ replicate (length lists) 0 → Told (fault n) rows lists rows' lists' (reply n 0 0)
    told_fault n (number h) p q =
        let t : leb n 3 ≡ false = lt-leb n 3 (omega (arith, h.0)) in
        record { answers = (refl, p ∙ sym (if_false t rows (replicate (length rows) 0)), q ∙ sym (if_false t lists (replicate (length lists) 0))); right = tt }

    pub told_walked : (r : Result MapSize Fault) → Left (rules.detect (image l) (room_of rows lists)) rows lists rows' lists' r → Told answer rows lists rows' lists' (reply_of r)
    told_walked (Ok size) v = rw (same, v.is) (record { answers = v.mapped; right = v.right })
    told_walked (Err e) v = rw (same, v.0) (told_fault (number_of e) (rw v.0 at (detect_met (image l) (room_of rows lists))) v.1 v.2)

    pub counted_walked : (r : Result MapSize Fault) → Left (rules.detect (image l) (room_of rows lists)) rows lists rows' lists' r → Counted (image l) rows' lists' (reply_of r)
    counted_walked (Ok size) v =
        let k : size.entries ≡ length v.entries = ap (λ (q : Reply). q.entries) v.mapped.0 in
        let b : map_of size.entries rows' lists' ≡ v.entries = ap (λ (i : ℕ). map_of i rows' lists') k ∙ ap₂ (λ (i j : List ℕ). map_of (length v.entries) i j) v.mapped.1 v.mapped.2 ∙ map_back v.entries _ _ v.right in
        record { accounted = λ z. rw b (run_accounted (given l) (room_of rows lists) v.entries (same ∙ v.is)) }
    counted_walked (Err e) v = counted_refused e rows' lists' (met (number_of e) (rw v.0 at (detect_met (image l) (room_of rows lists))))
      where
        met : (n : ℕ) → Met {A = List Entry} (fault n) → n ≡ 0 → ⊥
        met n (number h) z = absurd (omega (arith, h.0, z))

-- of the image that was checked
pub told_of : (m l : Lent) → m ≡ l → check (given m) ≡ 0 → (rows lists rows' lists' : List ℕ) (r : Result MapSize Fault) → Left (rules.detect (image m) (room_of rows lists)) rows lists rows' lists' r →
    Told (run (given l) (room_of rows lists)) rows lists rows' lists' (reply_of r)
told_of m l q z rows lists rows' lists' r v = rw (← q) (told_walked m rows lists z rows' lists' r v)

pub counted_of : (m l : Lent) → m ≡ l → check (given m) ≡ 0 → (rows lists rows' lists' : List ℕ) (r : Result MapSize Fault) → Left (rules.detect (image m) (room_of rows lists)) rows lists rows' lists' r → Counted (image l) rows' lists' (reply_of r)
counted_of m l q z rows lists rows' lists' r v = rw (← q) (counted_walked m rows lists z rows' lists' r v)

-- each fault has a number
pub number_some : (e : Fault) → number_of e ≡ 0 → ⊥
number_some variants.Image z = absurd (omega (arith, z))
number_some variants.Outcome z = absurd (omega (arith, z))
number_some variants.List z = absurd (omega (arith, z))
number_some variants.Limit z = absurd (omega (arith, z))
number_some variants.SecondPrologue z = absurd (omega (arith, z))
number_some variants.SecondEpilogue z = absurd (omega (arith, z))
number_some variants.TableInBranches z = absurd (omega (arith, z))
number_some variants.JumpToItself z = absurd (omega (arith, z))
number_some variants.EntryOutside z = absurd (omega (arith, z))
number_some variants.Misaligned z = absurd (omega (arith, z))
number_some variants.OpenBlock z = absurd (omega (arith, z))
number_some variants.EpilogueAlone z = absurd (omega (arith, z))
number_some variants.OpenEnd z = absurd (omega (arith, z))
number_some variants.EndPastEntry z = absurd (omega (arith, z))
number_some variants.PendingOutside z = absurd (omega (arith, z))
number_some variants.Stuck z = absurd (omega (arith, z))
number_some variants.NotFinalized z = absurd (omega (arith, z))

pub refused_of : (l : Lent) (e : Fault) → number_of e ≡ check (given l) → (rows lists : List ℕ) → Told (run (given l) (room_of rows lists)) rows lists rows lists (reply_of (Err e))
refused_of l e c rows lists = told_refused l rows lists e c (number_some e)
