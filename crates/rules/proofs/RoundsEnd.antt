-- The rounds end: each walks an entry, or finalizes one, or adds one.
use Prim.Native.Nat.{ℕ, suc, ◌+◌, ◌*◌, ◌≤◌, ◌<◌, min}
use mathlib.Core.Path.{◌≡◌, refl, sym, ◌∙◌, ap, subst}
use mathlib.Core.Bool.{Bool, true, false, false≢true, ◌&&◌}
use mathlib.Core.List.{List, [], ◌∷◌}
use mathlib.Core.Logic.{◌⊎◌, inl, inr}
use mathlib.Core.Option.{Option, none as nothing, some}
use native.Mathlib.Omega.{arith}
use lib.ListN.{length}
use lib.Dec.{ltb, eqb}
use borrow.Author.Tests.{ltb-false, eqb-true, eqb-false, lt-ltb, le-ltb, eq-eqb, ne_eqb}
use Rattle.rules.specs.Choice.{if, by_if, if_true, if_false, filter}
use Rattle.rules.specs.Loop.{Holds, good, none, bind_holds, map_holds, if_holds, trivial}
use Rattle.rules.specs.Ordered.{put, has, upper, last, Rising, Above}
use Rattle.rules.specs.Blocks.{Block, block, start_of, last_end}
use Rattle.rules.specs.Slices as Lists
use Rattle.rules.specs.Slices.{Slices}
use Rattle.rules.specs.Finalize
use Rattle.rules.specs.Known.{Entry, entry_of, new_entry, is_unfinalized}
use Rattle.rules.specs.Image
use Rattle.rules.specs.Map
use Rattle.rules.specs.Map.{Capacity, Round, round, weight, weights, to_do}
use Rattle.rules.proofs.Sizes
use Rattle.rules.proofs.Keeps.{set_block_puts}
use Rattle.rules.proofs.Rows.{All, above_more}
use Rattle.rules.proofs.Tests.{and_left, and_right}
use Rattle.rules.proofs.Ordered.{put_rising, length_put_new}

-- an entry at k, with at least n still to be done
abbrev pub Waits : ℕ → ℕ → List Entry → Type 0
Waits n k [] = ⊥
Waits n k (x ∷ l) = ((x.entry ≡ k) × (n ≤ weight x)) ⊎ ((x.entry < k) × Waits n k l)

-- an entry put in its place: what was to be done there is done
put_weights : (n : ℕ) (a : Entry) (l : List Entry) → Waits n a.entry l → weights (put entry_of a l) + n ≤ weights l + weight a
put_weights n a [] h = absurd h
put_weights n a (x ∷ l) (inl h) =
    let z : x.entry ≡ a.entry = h.0 in
    let m : n ≤ weight x = h.1 in
    rw (le-ltb x.entry a.entry (omega arith), if_false refl, eq-eqb x.entry a.entry z, if_true refl) (omega arith)
put_weights n a (x ∷ l) (inr h) =
    rw (lt-ltb x.entry a.entry h.0, if_true refl) (omega (arith, put_weights n a l h.1))

put_length : (n : ℕ) (a : Entry) (l : List Entry) → Waits n a.entry l → length (put entry_of a l) ≡ length l
put_length n a [] h = absurd h
put_length n a (x ∷ l) (inl h) =
    let z : x.entry ≡ a.entry = h.0 in
    rw (le-ltb x.entry a.entry (omega arith), if_false refl, eq-eqb x.entry a.entry z, if_true refl) refl
put_length n a (x ∷ l) (inr h) = rw (lt-ltb x.entry a.entry h.0, if_true refl) (ap suc (put_length n a l h.1))

put_weights_most : (a : Entry) (l : List Entry) → weights (put entry_of a l) ≤ weights l + weight a
put_weights_most a [] = omega arith
put_weights_most a (x ∷ l) =
    by_if (λ r. weights r ≤ weight x + weights l + weight a) (ltb x.entry a.entry) {x = x ∷ put entry_of a l} {y = if (eqb x.entry a.entry) (a ∷ l) (a ∷ x ∷ l)}
    (λ _. omega (arith, put_weights_most a l))
    (λ _. by_if (λ r. weights r ≤ weight x + weights l + weight a) (eqb x.entry a.entry) {x = a ∷ l} {y = a ∷ x ∷ l} (λ _. omega arith) (λ _. omega arith))

-- another entry put in leaves it waiting
put_waits : (n k : ℕ) (a : Entry) (l : List Entry) → (a.entry ≡ k → ⊥) → Waits n k l → Waits n k (put entry_of a l)
put_waits n k a [] h w = absurd w
put_waits n k a (x ∷ l) h w =
    by_if (Waits n k) (ltb x.entry a.entry) {x = x ∷ put entry_of a l} {y = if (eqb x.entry a.entry) (a ∷ l) (a ∷ x ∷ l)}
    (λ _. further w (put_waits n k a l h))
    (λ p. by_if (Waits n k) (eqb x.entry a.entry) {x = a ∷ l} {y = a ∷ x ∷ l}
    (λ q. instead w (eqb-true _ _ q))
    (λ q. before w (ltb-false x.entry a.entry p) (eqb-false x.entry a.entry q)))
  where
    further : Waits n k (x ∷ l) → (Waits n k l → Waits n k (put entry_of a l)) → Waits n k (x ∷ put entry_of a l)
    further (inl c) f = inl c
    further (inr c) f = inr (c.0, f c.1)

    instead : Waits n k (x ∷ l) → x.entry ≡ a.entry → Waits n k (a ∷ l)
    instead (inl c) q = absurd (h (sym q ∙ c.0))
    instead (inr c) q = inr (omega (arith, c.0), c.1)

    before : Waits n k (x ∷ l) → a.entry ≤ x.entry → (x.entry ≡ a.entry → ⊥) → Waits n k (a ∷ x ∷ l)
    before (inl c) p q = inr (omega (arith, c.0), inl c)
    before (inr c) p q = inr (omega (arith, c.0), inr c)

waits_has : (n k : ℕ) (l : List Entry) → Waits n k l → has entry_of k l ≡ true
waits_has n k [] w = absurd w
waits_has n k (x ∷ l) (inl w) = let z : x.entry ≡ k = w.0 in rw (le-ltb x.entry k (omega arith), if_false refl, eq-eqb x.entry k z) refl
waits_has n k (x ∷ l) (inr w) = rw (lt-ltb x.entry k w.0, if_true refl) (waits_has n k l w.1)

waits_upper : (n k : ℕ) (d : Entry) (l : List Entry) → Waits n k l → (upper entry_of k d l).entry ≡ k
waits_upper n k d [] w = absurd w
waits_upper n k d (x ∷ l) (inl w) = let z : x.entry ≡ k = w.0 in rw (le-ltb x.entry k (omega arith), if_false refl) z
waits_upper n k d (x ∷ l) (inr w) = rw (lt-ltb x.entry k w.0, if_true refl) (waits_upper n k d l w.1)

new_weight : (k : ℕ) → weight (new_entry k) ≡ 2
unfolding if
new_weight k = refl

-- entries were added, none of the others changed
pub record Added (es fs : List Entry) : Type 0 where
  pub done : to_do fs + length fs ≤ to_do es + length es
  pub more : length es ≤ length fs
  pub rising : Rising entry_of fs
  pub waits : (n k : ℕ) → Waits n k es → Waits n k fs

-- an entry was stored: less is to be done, and the others are as they were
pub record Stored (k : ℕ) (es fs : List Entry) : Type 0 where
  pub done : to_do fs < to_do es
  pub rising : Rising entry_of fs
  pub waits : (n j : ℕ) → (j ≡ k → ⊥) → Waits n j es → Waits n j fs

added_refl : (es : List Entry) → Rising entry_of es → Added es es
added_refl es r = record { done = omega arith; more = omega arith; rising = r; waits = λ n k w. w }

added_trans : {es fs gs : List Entry} → Added es fs → Added fs gs → Added es gs
added_trans p q = record { done = omega (arith, p.done, q.done); more = omega (arith, p.more, q.more); rising = q.rising; waits = λ n k w. q.waits n k (p.waits n k w) }

added_stored : {k : ℕ} {es fs gs : List Entry} → Added es fs → Stored k fs gs → Stored k es gs
added_stored p q = record { done = omega (arith, p.done, p.more, q.done); rising = q.rising; waits = λ n j h w. q.waits n j h (p.waits n j w) }

module _ (cap : Capacity) where
  add_entry_added : (k : ℕ) (es : List Entry) → Rising entry_of es → Holds (Added es) (Map.add_entry cap k es)
  unfolding Map.add_entry
  add_entry_added k es r =
      if_holds (λ _. good (added_refl es r))
      (λ h. map_holds (Sizes.limited_is (min 1024 cap.entries) (put entry_of (new_entry k) es))
      (λ fs i. record {
        done =
            let l = length_put_new entry_of (new_entry k) es h in
            let j = ap length i.0 in
            let m = ap weights i.0 in
            omega (arith, i.1, put_weights_most (new_entry k) es, new_weight k);
        more = let l = length_put_new entry_of (new_entry k) es h in let j = ap length i.0 in omega arith;
        rising = rw i.0 (put_rising entry_of (new_entry k) es r);
        waits = λ n j w. rw i.0 (put_waits n j (new_entry k) es (λ q. absurd (false≢true (sym h ∙ (ap (λ x. has entry_of x es) q ∙ waits_has n j es w)))) w);
      }))

  -- an entry with less to be done is put in the place of k
  put_stored : (n k : ℕ) (a : Entry) (es : List Entry) → a.entry ≡ k → weight a < n → Rising entry_of es → Waits n k es → Stored k es (put entry_of a es)
  put_stored n k a es q h r w =
      let v : Waits n a.entry es = subst (λ j. Waits n j es) (sym q) w in
      record {
        done = omega (arith, put_weights n a es v, put_length n a es v);
        rising = put_rising entry_of a es r;
        waits = λ m j d x. put_waits m j a es (λ p. d (sym p ∙ q)) x;
      }

  abbrev stored_entry : ℕ → Slices → ℕ → Entry
  stored_entry k s end = record { entry = k; analyzed = true; end = end; slices = some s }

  stored_weight : (k : ℕ) (s : Slices) (end : ℕ) → weight (stored_entry k s end) ≡ if (eqb end 0) 1 0
  unfolding if
  stored_weight k s end = refl

  store_stored : (n k : ℕ) (s : Slices) (end : ℕ) (es : List Entry) → if (eqb end 0) 1 0 < n → Rising entry_of es → Waits n k es → Holds (Stored k es) (Map.store cap k s end es)
  unfolding Map.store Map.fitting
  store_stored n k s end es h r w =
      bind_holds (add_entry_added k es r)
      (λ fs a. if_holds (λ _. good (added_stored a (put_stored n k (stored_entry k s end) fs refl (omega (arith, stored_weight k s end)) a.rising (a.waits n k w)))) (λ _. none))

  aside_weight : (x : Entry) → weight (Map.set_aside_entry cap x) < 2
  unfolding if
  aside_weight x = omega arith

  set_aside_stored : (k : ℕ) (es : List Entry) → Rising entry_of es → Waits 2 k es → Holds (Stored k es) (Map.set_aside cap k es)
  unfolding Map.set_aside
  set_aside_stored k es r w =
      bind_holds (add_entry_added k es r)
      (λ fs a. good (added_stored a (put_stored 2 k _ fs (waits_upper 2 k (new_entry k) fs (a.waits 2 k w)) (aside_weight (upper entry_of k (new_entry k) fs)) a.rising (a.waits 2 k w))))

  module _ (im : Image.Image) where
    try_add_function_added : (k : ℕ) (es : List Entry) → Rising entry_of es → Holds (Added es) (Map.try_add_function im cap k es)
    unfolding Map.try_add_function
    try_add_function_added k es r = if_holds (λ _. add_entry_added k es r) (λ _. good (added_refl es r))

    try_add_functions_added : (ks : List ℕ) (es : List Entry) → Rising entry_of es → Holds (Added es) (Map.try_add_functions im cap ks es)
    try_add_functions_added [] es r = good (added_refl es r)
    try_add_functions_added (k ∷ ks) es r =
        bind_holds (try_add_function_added k es r) (λ fs a. map_holds (try_add_functions_added ks fs a.rising) (λ gs b. added_trans a b))

    end_weight : (end : ℕ) → if (eqb end 0) 1 0 < 2
    end_weight end = by_if (λ w. w < 2) (eqb end 0) (λ _. omega arith) (λ _. omega arith)

    store_function_stored : (k : ℕ) (s : Slices) (es : List Entry) → Rising entry_of es → Waits 2 k es → Holds (Stored k es) (Map.store_function im cap k s es)
    unfolding Map.store_function Map.store_final
    store_function_stored k s es r w =
        bind_holds (try_add_functions_added s.function_references es r)
        (λ fs a. if_holds
        (λ _. bind_holds (trivial _) (λ t _. map_holds (store_stored 2 k t _ fs (end_weight (last_end t.blocks)) a.rising (a.waits 2 k w)) (λ gs b. added_stored a b)))
        (λ _. map_holds (store_stored 2 k s 0 fs (end_weight 0) a.rising (a.waits 2 k w)) (λ gs b. added_stored a b)))

    pub process_function_at_stored : (k : ℕ) (es : List Entry) → Rising entry_of es → Waits 2 k es → Holds (Stored k es) (Map.process_function_at im cap k es)
    unfolding Map.process_function_at
    process_function_at_stored k es r w =
        bind_holds (trivial _) (λ x _. if_holds (λ _. store_function_stored k x.slices es r w) (λ _. set_aside_stored k es r w))

-- the entry that is walked next waits
waits_above : (n j k : ℕ) (l : List Entry) → Above entry_of j l → Waits n k l → j < k
waits_above n j k [] a w = absurd w
waits_above n j k (x ∷ l) a (inl w) = omega (arith, w.0)
waits_above n j k (x ∷ l) a (inr w) = omega (arith, w.0)

pub first_waits : (es : List Entry) → Rising entry_of es → (Map.first_unbounded_function es ≡ 0 → ⊥) → Waits 2 (Map.first_unbounded_function es) es
unfolding if
first_waits [] r h = absurd (h refl)
first_waits (x ∷ l) r h = pick x.analyzed refl h (first_waits l r.1)
  where
    pick : (b : Bool) → x.analyzed ≡ b → (if b (Map.first_unbounded_function l) x.entry ≡ 0 → ⊥) → ((Map.first_unbounded_function l ≡ 0 → ⊥) → Waits 2 (Map.first_unbounded_function l) l) → Waits 2 (if b (Map.first_unbounded_function l) x.entry) (x ∷ l)
    pick true e h f = inr (waits_above 2 x.entry _ l r.0 (f h), f h)
    pick false e h f = inl (refl, rw e (omega arith))

-- ---- entries finalized

last_other : (P : Block → Type 0) (a x : Block) (l : List Block) → P a → P (last x l) → P (last a l)
last_other P a x [] p q = p
last_other P a x (y ∷ l) p q = q

last_put : (P : Block → Type 0) (d a : Block) (l : List Block) → P a → P (last d l) → P (last d (put start_of a l))
last_put P d a [] p q = p
last_put P d a (x ∷ l) p q =
    by_if (λ r. P (last d r)) (ltb x.start a.start) {x = x ∷ put start_of a l} {y = if (eqb x.start a.start) (a ∷ l) (a ∷ x ∷ l)}
    (λ _. last_put P x a l p q)
    (λ _. by_if (λ r. P (last d r)) (eqb x.start a.start) {x = a ∷ l} {y = a ∷ x ∷ l} (λ _. last_other P a x l p q) (λ _. q))

-- a finalized function has an end
pub record Ends (s : Slices) : Type 0 where
  pub ends : eqb (last_end s.blocks) 0 ≡ false

module _ (im : Image.Image) where
  add_last_ends : (es : List Entry) (s : Slices) → Ends s → Holds Ends (Finalize.add_last im es s)
  unfolding Finalize.add_last last_end
  add_last_ends es s e =
      if_holds
      (λ _. map_holds (set_block_puts s (last_end s.blocks) (last_end s.blocks + 4))
      (λ t p. record { ends = rw p.puts (last_put (λ b. eqb b.end 0 ≡ false) (block 0 0) (block (last_end s.blocks) (last_end s.blocks + 4)) s.blocks (ne_eqb (last_end s.blocks + 4) 0 (λ q. omega arith)) e.ends) }))
      (λ _. good e)

  pub finalize_ends : (es : List Entry) (s : Slices) → Holds Ends (Finalize.finalize im es s)
  unfolding Finalize.finalize Finalize.finalize_closed Finalize.finalize_end
  finalize_ends es s =
      if_holds (λ _. none)
      (λ _. if_holds (λ _. none)
      (λ _. if_holds (λ _. none)
      (λ h. bind_holds (add_last_ends es (Lists.with_returns s (Finalize.is_conditional im s) s.rfi) (record { ends = h })) (λ t p. good (record { ends = p.ends })))))

-- nothing changed, or less is to be done
pub data Moved (r t : Round) : Type 0 where
  stays : t ≡ r → Moved r t
  moves : t.changed ≡ true → to_do t.entries < to_do r.entries → Moved r t

pub moved_trans : {r t u : Round} → Moved r t → Moved t u → Moved r u
moved_trans {r} {t} {u} p (stays q) = subst (Moved r) (sym q) p
moved_trans {r} {t} {u} (stays p) (moves c l) = moves c (subst (λ (x : Round). to_do u.entries < to_do x.entries) p l)
moved_trans (moves d m) (moves c l) = moves c (omega arith)

-- what finalizing the entry at k does
pub record Handled (k : ℕ) (r t : Round) : Type 0 where
  pub moved : Moved r t
  pub rising : Rising entry_of t.entries
  pub waits : (n j : ℕ) → (j ≡ k → ⊥) → Waits n j r.entries → Waits n j t.entries

module _ (im : Image.Image) (cap : Capacity) where
  handled_none : (k : ℕ) (r : Round) → Rising entry_of r.entries → Handled k r r
  handled_none k r h = record { moved = stays refl; rising = h; waits = λ n j _ w. w }

  no_weight : (s : Slices) → Ends s → if (eqb (last_end s.blocks) 0) 1 0 < 1
  no_weight s e = rw (if_false {A = ℕ} e.ends 1 0) (omega arith)

  keep_settled_handled : (k : ℕ) (s : Slices) (r : Round) → Rising entry_of r.entries → Waits 1 k r.entries → Holds (Handled k r) (Map.keep_settled im cap k s r)
  unfolding Map.keep_settled
  keep_settled_handled k s r h w =
      bind_holds (finalize_ends im r.entries s)
      (λ t e. bind_holds (try_add_functions_added cap im t.function_references r.entries h)
      (λ es a. bind_holds (store_stored cap 1 k t (last_end t.blocks) es (no_weight t e) a.rising (a.waits 1 k w))
      (λ fs b. let c = added_stored a b in good (record { moved = moves refl c.done; rising = c.rising; waits = c.waits }))))

  finalize_entry_handled : (final : Bool) (k : ℕ) (o : Option Slices) (r : Round) → Rising entry_of r.entries → Waits 1 k r.entries → Holds (Handled k r) (Map.finalize_entry im cap final k o r)
  unfolding Map.finalize_function
  finalize_entry_handled final k nothing r h w = good (handled_none k r h)
  finalize_entry_handled final k (some s) r h w =
      bind_holds (trivial _) (λ t _. if_holds (λ _. keep_settled_handled k t.slices r h w) (λ _. good (handled_none k r h)))

  -- the entries still to be handled wait
  abbrev Waiting : Round → Entry → Type 0
  Waiting r x = Waits 1 x.entry r.entries

  pub record Passed (r t : Round) : Type 0 where
    pub moved : Moved r t
    pub rising : Rising entry_of t.entries

  rest_waits : (k : ℕ) (xs : List Entry) (r t : Round) → Above entry_of k xs → Rising entry_of xs → Handled k r t → All (Waiting r) xs → All (Waiting t) xs
  rest_waits k [] r t a s h w = tt
  rest_waits k (x ∷ xs) r t a s h w =
      (h.waits 1 x.entry (λ q. omega arith) w.0, rest_waits k xs r t (above_more entry_of k x.entry xs a s.0) s.1 h w.1)

  finalize_each_passed : (final : Bool) (xs : List Entry) (r : Round) → Rising entry_of xs → Rising entry_of r.entries → All (Waiting r) xs → Holds (Passed r) (Map.finalize_each im cap final xs r)
  finalize_each_passed final [] r s h w = good (record { moved = stays refl; rising = h })
  finalize_each_passed final (x ∷ xs) r s h w =
      bind_holds (finalize_entry_handled final x.entry x.slices r h w.0)
      (λ t p. map_holds (finalize_each_passed final xs t s.1 p.rising (rest_waits x.entry xs r t s.0 s.1 p w.1))
      (λ u q. record { moved = moved_trans p.moved q.moved; rising = q.rising }))

  -- an unfinalized entry waits
  unfinalized_weight : (x : Entry) → is_unfinalized x ≡ true → 1 ≤ weight x
  unfinalized_weight x h =
      let a : x.analyzed ≡ true = and_left x.analyzed _ (and_left (x.analyzed && eqb x.end 0) _ h) in
      let b : eqb x.end 0 ≡ true = and_right x.analyzed _ (and_left (x.analyzed && eqb x.end 0) _ h) in
      rw (if_true {A = ℕ} a (if (eqb x.end 0) 1 0) 2, if_true {A = ℕ} b 1 0) (omega arith)

  above_filter : (k : ℕ) (es : List Entry) → Above entry_of k es → Rising entry_of es → Above entry_of k (filter is_unfinalized es)
  above_filter k [] a r = tt
  above_filter k (x ∷ es) a r =
      by_if (Above entry_of k) (is_unfinalized x) {x = x ∷ filter is_unfinalized es} {y = filter is_unfinalized es} (λ _. a)
      (λ _. above_filter k es (above_more entry_of k x.entry es a r.0) r.1)

  filter_rising : (es : List Entry) → Rising entry_of es → Rising entry_of (filter is_unfinalized es)
  filter_rising [] r = tt
  filter_rising (x ∷ es) r =
      by_if (Rising entry_of) (is_unfinalized x) {x = x ∷ filter is_unfinalized es} {y = filter is_unfinalized es}
      (λ _. (above_filter x.entry es r.0 r.1, filter_rising es r.1)) (λ _. filter_rising es r.1)

  Still : List Entry → Entry → Type 0
  Still es x = Waits 1 x.entry es

  still_behind : (x : Entry) (l es : List Entry) → Above entry_of x.entry es → All (Still es) l → All (Still (x ∷ es)) l
  unfolding Still
  still_behind x [] es a w = tt
  still_behind x (y ∷ l) es a w = (inr (waits_above 1 x.entry y.entry es a w.0, w.0), still_behind x l es a w.1)

  filter_waits : (es : List Entry) → Rising entry_of es → All (Still es) (filter is_unfinalized es)
  unfolding Still
  filter_waits [] r = tt
  filter_waits (x ∷ es) r =
      by_if (All (Still (x ∷ es))) (is_unfinalized x) {x = x ∷ filter is_unfinalized es} {y = filter is_unfinalized es}
      (λ h. (inl (refl, unfinalized_weight x h), still_behind x (filter is_unfinalized es) es r.0 (filter_waits es r.1)))
      (λ _. still_behind x (filter is_unfinalized es) es r.0 (filter_waits es r.1))

  pub finalize_functions_passed : (final : Bool) (es : List Entry) → Rising entry_of es → Holds (Passed (round false es)) (Map.finalize_functions im cap final es)
  unfolding Map.finalize_functions Still
  finalize_functions_passed final es r = finalize_each_passed final (filter is_unfinalized es) (round false es) (filter_rising es r) r (filter_waits es r)

  -- ---- entries found

  pub add_entries_added : (ks : List ℕ) (es : List Entry) → Rising entry_of es → Holds (Added es) (Map.add_entries im cap ks es)
  add_entries_added [] es r = good (added_refl es r)
  add_entries_added (k ∷ ks) es r =
      bind_holds (add_entry_added cap k es r) (λ fs a. map_holds (add_entries_added ks fs a.rising) (λ gs b. added_trans a b))

  -- a round that changes nothing is the last
  pub record Rounded (es : List Entry) (t : Round) : Type 0 where
    pub falls : 2 * to_do t.entries + if t.changed 1 0 < 2 * to_do es + 1
    pub rising : Rising entry_of t.entries

  pub passed_rounded : (es : List Entry) (t : Round) → Passed (round false es) t → Moved (round false es) t → Rounded es t
  unfolding if
  passed_rounded es t p (stays q) =
      record { falls = subst (λ (x : Round). 2 * to_do x.entries + if x.changed 1 0 < 2 * to_do es + 1) (sym q) (omega arith); rising = p.rising }
  passed_rounded es t p (moves c l) = record { falls = rw c (omega arith); rising = p.rising }
