-- The rounds end: each walks an entry, or finalizes one, or adds one. No new entry is one that exists, so the Rust's error for that cannot arise.
use Prim.Native.Nat.{ℕ, suc, ◌+◌, ◌*◌, ◌≤◌, ◌<◌}
use mathlib.Core.Path.{◌≡◌, refl, sym, ◌∙◌, ap, subst}
use mathlib.Core.Bool.{Bool, true, false, false≢true, not}
use mathlib.Core.List.{List, [], ◌∷◌}
use mathlib.Core.Logic.{◌⊎◌, inl, inr}
use native.Mathlib.Omega.{arith}
use lib.ListN.{length}
use borrow.Author.Tests.{eqb-true, eqb-false}
use Rattle.rules.specs.Choice.{if, if_true, Answer, ◌>>=◌}
use Rattle.rules.specs.Loop.{Holds, good, bind_holds, map_holds, if_holds, both, loop, loop_step, loop_ends, loop_keeps}
use Rattle.rules.specs.Ordered.{self, put, has, empty, Rising}
use Rattle.rules.specs.Image
use Rattle.rules.specs.Known.{Entry, entry_of, new_entry}
use Rattle.rules.specs.Map
use Rattle.rules.specs.Map.{Capacity, Round, round, to_do}
use Rattle.rules.specs.Accounted.{AllWords}
use Rattle.rules.proofs.Sizes
use Rattle.rules.proofs.Ordered.{length_put_new}
use Rattle.rules.proofs.Placed.{Checked, Placed, Table, finalize_functions_map, process_step_map}
use Rattle.rules.proofs.Passes.{code_from_low}
use Rattle.rules.proofs.Searched.{Search, IsWalked, search}
use Rattle.rules.proofs.RoundsEnd.{Added, Stored, Waits, Moved, stays, moves, Rounded, passed_rounded, add_entries_added, finalize_functions_passed, process_function_at_stored, first_waits}
use Rattle.rules.proofs.Rows.{All, all_map, all_zip, Among, has_among, among_put_cases, all_above}

-- ---- new entries

module _ (im : Image.Image) (cap : Capacity) where
  -- each of the new entries is added
  add_entries_all : (ks : List ℕ) (es : List Entry) → Rising self ks → All (λ k. Among entry_of k es → ⊥) ks → Holds (λ fs. length fs ≡ length es + length ks) (Map.add_entries im cap ks es)
  unfolding Map.add_entry
  add_entries_all [] es r n = let z : length es ≡ length es + 0 = omega arith in good z
  add_entries_all (k ∷ ks) es r n =
      bind_holds {P = λ fs. fs ≡ put entry_of (new_entry k) es} (if_holds (λ h. absurd (n.0 (has_among entry_of k es h))) (λ _. map_holds (Sizes.limited_is _ (put entry_of (new_entry k) es)) (λ fs i. i.0)))
      (λ fs q. map_holds (add_entries_all ks fs r.1 (rw q rest))
      (λ gs e. let l : length fs ≡ suc (length es) = ap length q ∙ length_put_new entry_of (new_entry k) es (absent (has entry_of k es) refl) in omega arith))
    where
      rest : All (λ j. Among entry_of j (put entry_of (new_entry k) es) → ⊥) ks
      rest = all_zip ks (λ j (a : k < j) (f : Among entry_of j es → ⊥). λ m. other j a f (among_put_cases entry_of j (new_entry k) es m)) (all_above self k ks r.0 r.1) n.1
        where
          other : (j : ℕ) → k < j → (Among entry_of j es → ⊥) → (k ≡ j) ⊎ Among entry_of j es → ⊥
          other j a f (inl e) = omega arith
          other j a f (inr m) = f m

      absent : (b : Bool) → has entry_of k es ≡ b → has entry_of k es ≡ false
      absent true e = absurd (n.0 (has_among entry_of k es e))
      absent false e = e

all_walked : (es : List Entry) → All (λ (x : Entry). x.entry ≡ 0 → ⊥) es → Map.first_unbounded_function es ≡ 0 → All (λ (x : Entry). x.analyzed ≡ true) es
unfolding if
all_walked [] n w = tt
all_walked (x ∷ es) n w = by x.analyzed refl w (all_walked es n.1)
  where
    by : (a : Bool) → x.analyzed ≡ a → if a (Map.first_unbounded_function es) x.entry ≡ 0 → (Map.first_unbounded_function es ≡ 0 → All (λ (x : Entry). x.analyzed ≡ true) es) → All (λ (x : Entry). x.analyzed ≡ true) (x ∷ es)
    by true e w f = (e, f w)
    by false e w f = absurd (n.0 w)

code_number_low : (im : Image.Image) → 1 ≤ Image.code_number im
unfolding Image.code_number
code_number_low im = code_from_low 1 im.sections

module _ (im : Image.Image) (checked : Checked im) (cap : Capacity) where
  pub walked_of : (es : List Entry) → All (Placed im false) es → Map.first_unbounded_function es ≡ 0 → All IsWalked es
  walked_of es p w = all_walked es (all_map es (λ (x : Entry) (q : Placed im false x). λ (z : x.entry ≡ 0). omega (arith, q.section, code_number_low im)) p) w

  pub words_of : (es : List Entry) → All (Placed im false) es → All IsWalked es → AllWords im es
  words_of [] p d = tt
  words_of (x ∷ es) p d = (p.0.inside d.0, words_of es p.1 d.1)

  -- what a search finds once each entry is walked
  pub new_entries : (es : List Entry) → Table im false true es → Map.first_unbounded_function es ≡ 0 → Holds (Search im checked cap es) (Map.new_functions im cap es)
  new_entries es m w = let d = walked_of es m.each w in search im checked cap es m.rising m.each d (words_of es m.each d)

  -- ---- a round

  -- a search that finds something adds an entry
  found_rounded : (es fs : List Entry) (ks : List ℕ) → Added es fs → length fs ≡ length es + length ks → Rounded im cap es (round (not (empty ks)) fs)
  unfolding if
  found_rounded es fs [] a l = record { falls = omega (arith, a.done, a.more); rising = a.rising }
  found_rounded es fs (k ∷ ks) a l = record { falls = omega (arith, a.done); rising = a.rising }

  detect_rounded : (es : List Entry) → Table im false true es → Map.first_unbounded_function es ≡ 0 → Holds (Rounded im cap es) (Map.detect_new_functions im cap es)
  unfolding Map.detect_new_functions
  detect_rounded es m w =
      bind_holds (new_entries es m w)
      (λ ks s. bind_holds (both (add_entries_added im cap ks es m.rising) (add_entries_all im cap ks es s.rising s.new))
      (λ fs a. good (found_rounded es fs ks a.0 a.1)))

  finalize_or_detect_rounded : (es : List Entry) → Table im false true es → Map.first_unbounded_function es ≡ 0 → Holds (Rounded im cap es) (Map.finalize_or_detect im cap es)
  unfolding Map.finalize_or_detect
  finalize_or_detect_rounded es m w =
      bind_holds (finalize_functions_passed im cap false es m.rising) (λ t p. if_holds (λ _. good (passed_rounded im cap es t p p.moved)) (λ h. again t h p.moved))
    where
      again : (t : Round) → t.changed ≡ false → Moved (round false es) t → Holds (Rounded im cap es) (Map.detect_new_functions im cap t.entries)
      again t h (stays q) = subst (λ (x : Round). Holds (Rounded im cap es) (Map.detect_new_functions im cap x.entries)) (sym q) (detect_rounded es m w)
      again t h (moves c l) = absurd (false≢true (sym h ∙ c))

  process_next_rounded : (k : ℕ) (es : List Entry) → k ≡ Map.first_unbounded_function es → Table im false true es → Holds (Rounded im cap es) (Map.process_next im cap k es)
  unfolding Map.process_next
  process_next_rounded k es q m =
      if_holds (λ z. finalize_or_detect_rounded es m (sym q ∙ eqb-true k 0 z))
      (λ h. bind_holds (process_function_at_stored cap im k es m.rising (subst (λ j. Waits 2 j es) (sym q) (first_waits es m.rising (λ z. eqb-false k 0 h (q ∙ z)))))
      (λ fs s. good (rounded fs s)))
    where
      rounded : (fs : List Entry) → Stored k es fs → Rounded im cap es (round true fs)
      rounded fs s = record { falls = rw (if_true {A = ℕ} refl 1 0) (omega (arith, s.done)); rising = s.rising }

  -- ---- the rounds

  -- what holds of the entries before and after each round
  pub record Sane (r : Round) : Type 0 where
    pub late : Table im false true r.entries

  process_step_rounded : (r : Round) → Map.is_changed r ≡ true → Sane r → Holds (Rounded im cap r.entries) (Map.process_step im cap r)
  unfolding Map.process_step
  process_step_rounded r h s = process_next_rounded _ r.entries refl s.late

  pub process_step_sane : (r : Round) → Map.is_changed r ≡ true → Sane r → Holds Sane (Map.process_step im cap r)
  process_step_sane r h s = map_holds (process_step_map im checked cap true r (record { late = s.late })) (λ t p. record { late = p.late })

  pub process_falls : (r : Round) → Map.is_changed r ≡ true → Sane r → Holds (λ t. Map.rounds_left t < Map.rounds_left r) (Map.process_step im cap r)
  unfolding Map.rounds_left
  process_falls r h s = map_holds (process_step_rounded r h s) (λ t p. rw (if_true {A = ℕ} h 1 0) p.falls)

  abbrev pub rounds : Round → Answer Round
  rounds = loop Map.is_changed (Map.process_step im cap) Map.rounds_left

  pub rounds_step : (r : Round) → Map.is_changed r ≡ true → Sane r → rounds r ≡ (Map.process_step im cap r >>= rounds)
  rounds_step r h s = loop_step Map.is_changed (Map.process_step im cap) Sane process_step_sane Map.rounds_left process_falls r h s

  pub rounds_end : (r : Round) → Sane r → Holds (λ t. Map.is_changed t ≡ false) (rounds r)
  rounds_end r s = loop_ends Map.is_changed (Map.process_step im cap) Sane process_step_sane Map.rounds_left process_falls r s

  -- ---- the last rounds

  record Lower (m : ℕ) (r : Round) : Type 0 where
    sane : Sane r
    most : to_do r.entries ≤ m

  lower_kept : (m : ℕ) (r : Round) → Map.is_changed r ≡ true → Lower m r → Holds (Lower m) (Map.process_step im cap r)
  lower_kept m r h l =
      map_holds (both (process_step_sane r h l.sane) (process_step_rounded r h l.sane))
      (λ t p. record { sane = p.0; most = omega (arith, p.1.falls, l.most) })

  pub record Processed (es fs : List Entry) : Type 0 where
    pub done : to_do fs ≤ to_do es
    pub late : Table im false true fs

  pub process_functions_processed : (es : List Entry) → Table im false true es → Holds (Processed es) (Map.process_functions im cap es)
  unfolding Map.process_functions
  process_functions_processed es m =
      bind_holds (loop_keeps Map.is_changed (Map.process_step im cap) (Lower (to_do es)) (lower_kept (to_do es)) Map.rounds_left (round true es) (record { sane = record { late = m }; most = omega arith }))
      (λ t l. good (record { done = l.most; late = l.sane.late }))

  record Last (es : List Entry) (t : Round) : Type 0 where
    falls : 2 * to_do t.entries + if t.changed 1 0 < 2 * to_do es + 1
    sane : Sane t

  last_step_last : (r : Round) → Map.is_changed r ≡ true → Sane r → Holds (Last r.entries) (Map.last_step im cap r)
  unfolding Map.last_step
  last_step_last r h s =
      bind_holds (both (finalize_functions_passed im cap true r.entries s.late.rising) (finalize_functions_map im checked cap true true r.entries s.late))
      (λ t p. if_holds
      (λ c. bind_holds (process_functions_processed t.entries p.1.late) (λ fs q. good (further t fs c p.0.moved q)))
      (λ _. good (record { falls = (passed_rounded im cap r.entries t p.0 p.0.moved).falls; sane = record { late = p.1.late } })))
    where
      further : (t : Round) (fs : List Entry) → t.changed ≡ true → Moved (round false r.entries) t → Processed t.entries fs → Last r.entries (round true fs)
      further t fs c (stays q) z = absurd (false≢true (sym (ap (λ (x : Round). x.changed) q) ∙ c))
      further t fs c (moves d l) z =
          record { falls = rw (if_true {A = ℕ} refl 1 0) (omega (arith, z.done)); sane = record { late = z.late } }

  pub last_sane : (r : Round) → Map.is_changed r ≡ true → Sane r → Holds Sane (Map.last_step im cap r)
  last_sane r h s = map_holds (last_step_last r h s) (λ t p. p.sane)

  pub last_falls : (r : Round) → Map.is_changed r ≡ true → Sane r → Holds (λ t. Map.rounds_left t < Map.rounds_left r) (Map.last_step im cap r)
  unfolding Map.rounds_left
  last_falls r h s = map_holds (last_step_last r h s) (λ t p. rw (if_true {A = ℕ} h 1 0) p.falls)

  abbrev pub last_rounds : Round → Answer Round
  last_rounds = loop Map.is_changed (Map.last_step im cap) Map.rounds_left

  pub last_rounds_step : (r : Round) → Map.is_changed r ≡ true → Sane r → last_rounds r ≡ (Map.last_step im cap r >>= last_rounds)
  last_rounds_step r h s = loop_step Map.is_changed (Map.last_step im cap) Sane last_sane Map.rounds_left last_falls r h s

  pub last_rounds_end : (r : Round) → Sane r → Holds (λ t. Map.is_changed t ≡ false) (last_rounds r)
  last_rounds_end r s = loop_ends Map.is_changed (Map.last_step im cap) Sane last_sane Map.rounds_left last_falls r s
