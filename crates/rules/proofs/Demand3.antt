-- Demand 3 of `detect`: an accepted map accounts for each code word.
use Prim.Native.Nat.{ℕ, ◌+◌, ◌%◌, ◌≤◌}
use mathlib.Core.Path.{◌≡◌, refl, sym, ◌∙◌, subst}
use mathlib.Core.Bool.{true, false, false≢true, not}
use mathlib.Core.List.{List, [], ◌∷◌, map}
use mathlib.Core.Logic.{inl}
use mathlib.Core.Option.{none as nothing}
use native.Mathlib.Omega.{arith}
use borrow.Author.Tests.{eqb-true, eqb-false}
use Rattle.rules.specs.Choice.{by_if, any, Answer, ok, fault, ◌>>=◌}
use Rattle.rules.specs.Loop.{Holds, good, none, holds_at, bind_holds, map_holds, if_holds, both, trivial, loop_keeps}
use Rattle.rules.specs.Ordered.{put, upper, empty, Rising}
use Rattle.rules.specs.Address.{key, section_of}
use Rattle.rules.specs.Image
use Rattle.rules.specs.Image.{Symbol}
use Rattle.rules.specs.Known.{Entry, entry_of, new_entry, is_unfinalized}
use Rattle.rules.specs.Map
use Rattle.rules.specs.Map.{Capacity, Round, round}
use Rattle.rules.specs.Accounted.{code_first, next_entry, AllWords, Accounted}
use Rattle.rules.proofs.Sizes
use Rattle.rules.proofs.RoundsEnd.{Moved, stays, moves, finalize_functions_passed}
use Rattle.rules.proofs.Rounds.{rounds_end, walked_of, words_of, new_entries}
use Rattle.rules.proofs.Placed.{Checked, SymbolFits, Placed, State, fresh, bare, filled, Table, New, LateRound, finalize_functions_map, process_step_map, process_each_map, process_function_at_map}
use Rattle.rules.proofs.Sums.{accounted}
use Rattle.rules.proofs.Rows.{All, all_put, upper_holds, Among, among_self, has_among, among_first, upper_at}
use Rattle.rules.proofs.Ordered.{put_rising}

pub itself : {A : Type 0} (a : Answer A) → Holds (λ x. a ≡ ok x) a
itself (ok x) = good refl
itself (fault n) = none

-- ---- the last search

module _ (im : Image.Image) (cap : Capacity) where
  -- each was walked, and the search behind their ends found nothing
  pub record Searched (es : List Entry) : Type 0 where
    pub walked : Map.first_unbounded_function es ≡ 0
    pub search : Map.new_functions im cap es ≡ ok []

  pub record Ended (t : Round) : Type 0 where
    pub ended : t.changed ≡ false → Searched t.entries

  detect_new_ended : (es : List Entry) → Map.first_unbounded_function es ≡ 0 → Holds Ended (Map.detect_new_functions im cap es)
  unfolding Map.detect_new_functions ◌>>=◌
  detect_new_ended es w = bind_holds (itself (Map.new_functions im cap es)) (λ ks q. by ks q)
    where
      by : (ks : List ℕ) → Map.new_functions im cap es ≡ ok ks → Holds Ended (Map.add_entries im cap ks es >>= λ fs. ok (round (not (empty ks)) fs))
      by [] q = good (record { ended = λ _. record { walked = w; search = q } })
      by (k ∷ ks) q = bind_holds (trivial (Map.add_entries im cap (k ∷ ks) es)) (λ fs _. good (record { ended = λ h. absurd (false≢true (sym h)) }))

  process_step_ended : (r : Round) → Rising entry_of r.entries → Holds Ended (Map.process_step im cap r)
  unfolding Map.process_step Map.process_next Map.finalize_or_detect
  process_step_ended r s =
      if_holds
      (λ z. bind_holds (finalize_functions_passed im cap false r.entries s)
      (λ t p. if_holds (λ c. good (record { ended = λ h. absurd (false≢true (sym h ∙ c)) })) (λ h. again t h p.moved (eqb-true _ _ z))))
      (λ _. bind_holds (trivial _) (λ fs _. good (record { ended = λ h. absurd (false≢true (sym h)) })))
    where
      again : (t : Round) → t.changed ≡ false → Moved (round false r.entries) t → Map.first_unbounded_function r.entries ≡ 0 → Holds Ended (Map.detect_new_functions im cap t.entries)
      again t h (stays q) z = subst (λ (x : Round). Holds Ended (Map.detect_new_functions im cap x.entries)) (sym q) (detect_new_ended r.entries z)
      again t h (moves c l) z = absurd (false≢true (sym h ∙ c))

  -- ---- the rounds

  module _ (checked : Checked im) where
    pub record Closed (es : List Entry) : Type 0 where
      pub table : Table im false true es
      pub searched : Searched es

    record Going (r : Round) : Type 0 where
      late : LateRound im checked cap true r
      ended : Ended r

    process_functions_closed : (es : List Entry) → Table im false true es → Holds Closed (Map.process_functions im cap es)
    unfolding Map.process_functions
    process_functions_closed es m =
        bind_holds
        (both
        (loop_keeps Map.is_changed (Map.process_step im cap) Going
        (λ r _ g. map_holds (both (process_step_map im checked cap true r g.late) (process_step_ended r g.late.late.rising)) (λ t p. record { late = p.0; ended = p.1 }))
        Map.rounds_left (round true es) (record { late = record { late = m }; ended = record { ended = λ h. absurd (false≢true (sym h)) } }))
        (rounds_end im checked cap (round true es) (record { late = m })))
        (λ t p. good (record { table = p.0.late.late; searched = p.0.ended.ended p.1 }))

    record ClosedRound (r : Round) : Type 0 where
      closed : Closed r.entries

    last_step_closed : (r : Round) → ClosedRound r → Holds ClosedRound (Map.last_step im cap r)
    unfolding Map.last_step
    last_step_closed r c =
        bind_holds (both (finalize_functions_map im checked cap true true r.entries c.closed.table) (finalize_functions_passed im cap true r.entries c.closed.table.rising))
        (λ t p. if_holds (λ _. bind_holds (process_functions_closed t.entries p.0.late) (λ es z. good (record { closed = z })))
        (λ h. good (again t h p.1.moved)))
      where
        again : (t : Round) → t.changed ≡ false → Moved (round false r.entries) t → ClosedRound t
        again t h (stays q) = subst ClosedRound (sym q) (record { closed = c.closed })
        again t h (moves d l) = absurd (false≢true (sym h ∙ d))

    last_rounds_closed : (es : List Entry) → Closed es → Holds Closed (Map.last_rounds im cap es)
    unfolding Map.last_rounds
    last_rounds_closed es c =
        bind_holds (loop_keeps Map.is_changed (Map.last_step im cap) ClosedRound (λ r _ q. last_step_closed r q) Map.rounds_left (round true es) (record { closed = c }))
        (λ t q. good q.closed)

    -- ---- the first entries

    record Early (x : Entry) : Type 0 where
      even : x.entry % 4 ≡ 0
      section : section_of x.entry ≡ Image.code_number im
      whole : x.end % 4 ≡ 0
      limit : x.end ≤ key (Image.code_number im) 0xFFFF_FFFF
      waits : x.analyzed ≡ false
      bare : x.slices ≡ nothing

    record First (es : List Entry) : Type 0 where
      rising : Rising entry_of es
      each : All Early es

    new_early : (k : ℕ) → New im k → Early (new_entry k)
    new_early k n = record { even = n.even; section = n.section; whole = refl; limit = omega arith; waits = refl; bare = refl }

    record FirstWith (k : ℕ) (es : List Entry) : Type 0 where
      first : First es
      among : Among entry_of k es

    put_first : (a : Entry) (es : List Entry) → Early a → First es → First (put entry_of a es)
    put_first a es p f = record { rising = put_rising entry_of a es f.rising; each = all_put entry_of Early a es p f.each }

    add_entry_first : (k : ℕ) (es : List Entry) → New im k → First es → Holds (FirstWith k) (Map.add_entry cap k es)
    unfolding Map.add_entry
    add_entry_first k es n f =
        if_holds (λ h. good (record { first = f; among = has_among entry_of k es h }))
        (λ _. map_holds (Sizes.limited_is _ (put entry_of (new_entry k) es))
        (λ fs i. record { first = rw i.0 (put_first (new_entry k) es (new_early k n) f); among = rw i.0 (among_self entry_of (new_entry k) es) }))

    set_end_early : (f : Symbol) (x : Entry) → x.entry ≡ key (Image.code_number im) f.address → SymbolFits f → Early x → Early (Map.set_end im cap f x)
    set_end_early f x q s p =
        record {
          even = p.even;
          section = p.section;
          whole = by_if (λ n. n % 4 ≡ 0) f.known {x = x.entry + f.size} {y = 0} (λ _. omega (arith, p.even, s.whole)) (λ _. refl);
          limit = by_if (λ n. n ≤ key (Image.code_number im) 0xFFFF_FFFF) f.known {x = x.entry + f.size} {y = 0} (λ _. omega (arith, s.fits)) (λ _. omega arith);
          waits = p.waits;
          bare = p.bare;
        }

    symbol_new : (f : Symbol) → SymbolFits f → New im (key (Image.code_number im) f.address)
    symbol_new f s = record { even = omega (arith, s.even); section = omega (arith, s.fits) }

    add_symbols_first : (fs : List Symbol) (es : List Entry) → All SymbolFits fs → First es → Holds First (Map.add_symbols im cap fs es)
    unfolding Map.add_symbol
    add_symbols_first [] es s p = good p
    add_symbols_first (f ∷ fs) es s p =
        let k : ℕ = key (Image.code_number im) f.address in
        bind_holds (bind_holds (add_entry_first k es (symbol_new f s.0) p)
        (λ gs q. good (put_first _ gs (set_end_early f (upper entry_of k (new_entry k) gs) (upper_at entry_of k (new_entry k) gs q.first.rising q.among) s.0
        (upper_holds entry_of Early k (new_entry k) gs (new_early k (symbol_new f s.0)) q.first.each)) q.first)))
        (λ gs q. add_symbols_first fs gs s.1 q)

    base_new : New im (code_first im)
    base_new = record { even = omega (arith, checked.sound.based); section = omega (arith, checked.sound.fits) }

    first_entries_first : Holds (FirstWith (code_first im)) (Map.first_entries im cap)
    unfolding Map.first_entries
    first_entries_first =
        bind_holds (add_symbols_first im.functions [] checked.symbols (record { rising = tt; each = tt })) (λ es p. add_entry_first (code_first im) es base_new p)

    early_placed : (es : List Entry) → All Early es → All (Placed im true) es
    early_placed [] p = tt
    early_placed (x ∷ es) p =
        let q = p.0 in
        (record { even = q.even; section = q.section; inside = λ h. absurd (false≢true (sym q.waits ∙ h)); whole = q.whole; limit = q.limit; state = fresh q.waits q.bare }, early_placed es p.1)

    early_new : (es : List Entry) → All Early es → All (New im) (map entry_of es)
    early_new [] p = tt
    early_new (x ∷ es) p = (record { even = p.0.even; section = p.0.section }, early_new es p.1)

    late_placed : (es : List Entry) → All (Placed im true) es → All (Placed im false) es
    late_placed [] p = tt
    late_placed (x ∷ es) p =
        let q = p.0 in
        (record { even = q.even; section = q.section; inside = q.inside; whole = q.whole; limit = q.limit; state = by q.state }, late_placed es p.1)
      where
        by : State im true x → State im false x
        by (fresh a y) = fresh a y
        by (bare a y) = bare a y
        by (filled s a y o l h) = filled s a y o l (λ _. h (inl refl))

    -- ---- the whole

    all_low : (es : List Entry) → AllWords im es → All (λ (x : Entry). code_first im ≤ x.entry) es
    all_low [] w = tt
    all_low (x ∷ es) w = (w.0.low, all_low es w.1)

    begins : (es : List Entry) → Rising entry_of es → AllWords im es → Among entry_of (code_first im) es → next_entry im es ≡ code_first im
    begins [] r w h = absurd h
    begins (x ∷ es) r w h = among_first entry_of (code_first im) x (x ∷ es) r (all_low (x ∷ es) w) h

    closed_accounted : (es : List Entry) → Closed es → any is_unfinalized es ≡ false → Accounted im es
    closed_accounted es c u =
        let w = words_of im checked cap es c.table.each (walked_of im checked cap es c.table.each c.searched.walked) in
        let s = holds_at (new_entries im checked cap es c.table c.searched.walked) c.searched.search in
        accounted im checked.sound es (begins es c.table.rising w (c.table.base refl)) c.table.rising w (s.counted u refl)

    -- the table from which the rounds start
    pub walk_given_table : Holds (Table im false true) (Map.walk_given im cap)
    unfolding Map.walk_given Map.process_entry_point
    walk_given_table =
        bind_holds first_entries_first
        (λ es p. bind_holds (process_each_map im checked cap true true (map entry_of es) es refl (early_new es p.first.each) (record { rising = p.first.rising; each = early_placed es p.first.each; base = λ _. p.among }))
        (λ fs q. map_holds
        (if_holds (λ _. good q) (λ h. process_function_at_map im checked cap true true im.entry fs (record { even = checked.entry_even; section = checked.entry_code (eqb-false _ _ h) }) (inl refl) q))
        (λ gs r. record { rising = r.rising; each = late_placed gs r.each; base = r.base })))

    pub detect_accounted : Holds (Accounted im) (Map.detect im cap)
    unfolding Map.detect Map.detect_functions Map.all_finalized
    detect_accounted =
        bind_holds walk_given_table
        (λ es t. bind_holds (process_functions_closed es t)
        (λ fs c. bind_holds (last_rounds_closed fs c) (λ gs d. if_holds (λ _. none) (λ u. good (closed_accounted gs d u)))))

-- Demand 3, for every image that checks 1 to 3 let through and every capacity
pub demand_3 : (im : Image.Image) (cap : Capacity) (es : List Entry) → Checked im → Map.detect im cap ≡ ok es → Accounted im es
demand_3 im cap es checked h = holds_at (detect_accounted im cap checked) h
