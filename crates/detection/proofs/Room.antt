-- A map has no more entries than the lent rows.
use Prim.Native.Nat.{ℕ, ◌≤◌, min}
use mathlib.Core.Path.{◌≡◌, refl, ap, ◌∙◌}
use mathlib.Core.Bool.{Bool, true, false}
use mathlib.Core.List.{List, [], ◌∷◌, map}
use mathlib.Core.Option.{Option, none as nothing, some}
use native.Mathlib.Omega.{arith}
use native.Mathlib.Nat.{min-eq_left}
use lib.ListN.{length}
use Rattle.rules.specs.Choice.{by_if, Answer, ok, fault, filter, limited}
use Rattle.rules.specs.Loop.{Holds, good, none, bind_holds, map_holds, if_holds, trivial, loop_keeps}
use Rattle.rules.specs.Ordered.{put, has, upper}
use Rattle.rules.specs.Image.{Image, Symbol}
use Rattle.rules.specs.Slices.{Slices}
use Rattle.rules.specs.Known.{Entry, entry_of, new_entry, is_unfinalized}
use Rattle.rules.specs.Map as rules
use Rattle.rules.specs.Map.{Capacity, Round, round}
use Rattle.rules.proofs.Sizes.{limited_is}
use Rattle.rules.proofs.Ordered.{length_put_old, has_at}
use Rattle.analyzer.proofs.Rows.{upper_at, put_there}

-- where there is an answer, the entry is there
abbrev There : ℕ → Answer (List Entry) → Type 0
There k (ok es) = has entry_of k es ≡ true
There k (fault m) = Unit {0}

add_there : (cap : Capacity) (k : ℕ) (es : List Entry) → There k (rules.add_entry cap k es)
unfolding rules.add_entry limited
add_there cap k es = by_if (There k) (has entry_of k es) (λ t. t) (λ _. by_if (There k) _ (λ _. (put_there (new_entry k) es).1) (λ _. tt))

upper_key : (k : ℕ) (fs : List Entry) → has entry_of k fs ≡ true → (upper entry_of k (new_entry k) fs).entry ≡ k
upper_key k fs t = ap (λ (x : Entry). x.entry) (upper_at k (new_entry k) fs) ∙ has_at entry_of (new_entry k) k fs t

module _ (cap : Capacity) where
  abbrev Fits : List Entry → Type 0
  Fits es = length es ≤ min 1024 cap.entries

  -- with an entry at k
  record With (k : ℕ) (es : List Entry) : Type 0 where
    fits : Fits es
    there : has entry_of k es ≡ true

  add_entry_fits : (k : ℕ) (es : List Entry) → Fits es → Holds Fits (rules.add_entry cap k es)
  unfolding rules.add_entry
  add_entry_fits k es f = if_holds (λ _. good f) (λ _. map_holds (limited_is _ (put entry_of (new_entry k) es)) (λ fs i. i.1))

  there_holds : (k : ℕ) (a : Answer (List Entry)) → There k a → Holds Fits a → Holds (With k) a
  there_holds k a t (good {a = es} f) = good (record { fits = f; there = t })
  there_holds k a t none = none

  add_entry_with : (k : ℕ) (es : List Entry) → Fits es → Holds (With k) (rules.add_entry cap k es)
  add_entry_with k es f = there_holds k (rules.add_entry cap k es) (add_there cap k es) (add_entry_fits k es f)

  -- another in the place of one
  put_fits : (a : Entry) (es : List Entry) → With a.entry es → Fits (put entry_of a es)
  put_fits a es w = let e : length (put entry_of a es) ≡ length es = length_put_old entry_of a es w.there in omega (arith, w.fits)

  put_upper : (k : ℕ) (f : Entry → Entry) → ((x : Entry) → (f x).entry ≡ x.entry) → (es : List Entry) → With k es → Fits (put entry_of (f (upper entry_of k (new_entry k) es)) es)
  put_upper k f e es w =
      let q : (f (upper entry_of k (new_entry k) es)).entry ≡ k = e (upper entry_of k (new_entry k) es) ∙ upper_key k es w.there in
      put_fits (f (upper entry_of k (new_entry k) es)) es (rw q w)

  store_fits : (k : ℕ) (s : Slices) (end : ℕ) (es : List Entry) → Fits es → Holds Fits (rules.store cap k s end es)
  unfolding rules.store rules.fitting
  store_fits k s end es f = bind_holds (add_entry_with k es f) (λ fs w. if_holds (λ _. good (put_fits _ fs w)) (λ _. none))

  aside_fits : (k : ℕ) (es : List Entry) → Fits es → Holds Fits (rules.set_aside cap k es)
  unfolding rules.set_aside
  aside_fits k es f = bind_holds (add_entry_with k es f) (λ fs w. good (put_upper k (rules.set_aside_entry cap) (λ x. refl) fs w))

  module _ (im : Image) where
    try_fits : (ks : List ℕ) (es : List Entry) → Fits es → Holds Fits (rules.try_add_functions im cap ks es)
    unfolding rules.try_add_function
    try_fits [] es f = good f
    try_fits (k ∷ ks) es f = bind_holds (if_holds (λ _. add_entry_fits k es f) (λ _. good f)) (λ fs g. try_fits ks fs g)

    process_fits : (k : ℕ) (es : List Entry) → Fits es → Holds Fits (rules.process_function_at im cap k es)
    unfolding rules.process_function_at rules.store_function rules.store_final
    process_fits k es f =
        bind_holds (trivial _)
        (λ r _. if_holds
        (λ _. bind_holds (try_fits r.slices.function_references es f) (λ fs g. if_holds (λ _. bind_holds (trivial _) (λ t _. store_fits k t _ fs g)) (λ _. store_fits k _ 0 fs g)))
        (λ _. aside_fits k es f))

    each_fits : (ks : List ℕ) (es : List Entry) → Fits es → Holds Fits (rules.process_each im cap ks es)
    each_fits [] es f = good f
    each_fits (k ∷ ks) es f = bind_holds (process_fits k es f) (λ fs g. each_fits ks fs g)

    record FitRound (r : Round) : Type 0 where
      fits : Fits r.entries

    entry_fits : (final : Bool) (k : ℕ) (o : Option Slices) (r : Round) → FitRound r → Holds FitRound (rules.finalize_entry im cap final k o r)
    unfolding rules.finalize_function rules.keep_settled
    entry_fits final k nothing r f = good f
    entry_fits final k (some s) r f =
        bind_holds (trivial _)
        (λ t _. if_holds
        (λ _. bind_holds (trivial _) (λ u _. bind_holds (try_fits u.function_references r.entries f.fits) (λ es g. bind_holds (store_fits k u _ es g) (λ fs h. good (record { fits = h })))))
        (λ _. good f))

    finalize_fits : (final : Bool) (xs : List Entry) (r : Round) → FitRound r → Holds FitRound (rules.finalize_each im cap final xs r)
    finalize_fits final [] r f = good f
    finalize_fits final (x ∷ xs) r f = bind_holds (entry_fits final x.entry x.slices r f) (λ t g. finalize_fits final xs t g)

    add_entries_fits : (ks : List ℕ) (es : List Entry) → Fits es → Holds Fits (rules.add_entries im cap ks es)
    add_entries_fits [] es f = good f
    add_entries_fits (k ∷ ks) es f = bind_holds (add_entry_fits k es f) (λ fs g. add_entries_fits ks fs g)

    step_fits : (r : Round) → FitRound r → Holds FitRound (rules.process_step im cap r)
    unfolding rules.process_step rules.process_next rules.finalize_or_detect rules.finalize_functions rules.detect_new_functions
    step_fits r f =
        if_holds
        (λ _. bind_holds (finalize_fits false (filter is_unfinalized r.entries) (round false r.entries) (record { fits = f.fits }))
        (λ t g. if_holds (λ _. good g) (λ _. bind_holds (trivial _) (λ ks _. bind_holds (add_entries_fits ks t.entries g.fits) (λ fs h. good (record { fits = h }))))))
        (λ _. bind_holds (process_fits _ r.entries f.fits) (λ fs h. good (record { fits = h })))

    rounds_fit : (es : List Entry) → Fits es → Holds Fits (rules.process_functions im cap es)
    unfolding rules.process_functions
    rounds_fit es f =
        bind_holds (loop_keeps rules.is_changed (rules.process_step im cap) FitRound (λ r _ g. step_fits r g) rules.rounds_left (round true es) (record { fits = f }))
        (λ t g. good g.fits)

    last_fits : (r : Round) → FitRound r → Holds FitRound (rules.last_step im cap r)
    unfolding rules.last_step rules.finalize_functions
    last_fits r f =
        bind_holds (finalize_fits true (filter is_unfinalized r.entries) (round false r.entries) (record { fits = f.fits }))
        (λ t g. if_holds (λ _. bind_holds (rounds_fit t.entries g.fits) (λ fs h. good (record { fits = h }))) (λ _. good g))

    last_rounds_fit : (es : List Entry) → Fits es → Holds Fits (rules.last_rounds im cap es)
    unfolding rules.last_rounds
    last_rounds_fit es f =
        bind_holds (loop_keeps rules.is_changed (rules.last_step im cap) FitRound (λ r _ g. last_fits r g) rules.rounds_left (round true es) (record { fits = f }))
        (λ t g. good g.fits)

    symbols_fit : (fs : List Symbol) (es : List Entry) → Fits es → Holds Fits (rules.add_symbols im cap fs es)
    unfolding rules.add_symbol
    symbols_fit [] es f = good f
    symbols_fit (x ∷ fs) es f =
        bind_holds (bind_holds (add_entry_with _ es f) (λ gs w. good (put_upper _ (rules.set_end im cap x) (λ y. refl) gs w))) (λ gs g. symbols_fit fs gs g)

    -- the whole map
    pub detect_fits : Holds (λ (es : List Entry). length es ≤ min 1024 cap.entries) (rules.detect im cap)
    unfolding rules.detect rules.detect_functions rules.walk_given rules.first_entries rules.process_entry_point rules.all_finalized
    detect_fits =
        bind_holds
        (bind_holds (bind_holds (symbols_fit im.functions [] (omega arith)) (λ es f. add_entry_fits _ es f))
        (λ es f. bind_holds (each_fits (map entry_of es) es f) (λ fs g. if_holds (λ _. good g) (λ _. process_fits _ fs g))))
        (λ es f. bind_holds (rounds_fit es f) (λ fs g. bind_holds (last_rounds_fit fs g) (λ gs h. if_holds (λ _. none) (λ _. good h))))
