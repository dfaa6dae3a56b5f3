-- Finalizing one entry leaves the others as they are.
use Rattle.std.proofs.Common.{◌≡◌, ℕ, zero, suc, Bool, List, [], ◌∷◌, refl, sym, ap, ◌∙◌, ltb, eqb, ◌⊎◌, inl, inr}
use Rattle.std.proofs.Math.Option.{Option, none as nothing, some}
use borrow.Author.Tests.{eqb-true}
use Rattle.rules.specs.Choice.{if, by_if, filter}
use Rattle.rules.specs.Loop.{Holds, good, none, bind_holds, map_holds, if_holds, trivial}
use Rattle.rules.specs.Ordered.{insert_at, rank, put, Above, Rising}
use Rattle.rules.specs.Blocks.{last_end}
use Rattle.rules.specs.Image.{Image}
use Rattle.rules.specs.Slices.{Slices}
use Rattle.rules.specs.Known.{Entry, entry_of, new_entry}
use Rattle.rules.specs.Map as rules
use Rattle.rules.proofs.Ordered.{put_new}
use Rattle.rules.proofs.Sizes.{limited_is}
use Rattle.rules.proofs.Rows.{All, all_map, above_more}

-- x is one of the entries
abbrev pub In : Entry → List Entry → Type 0
In x [] = ⊥
In x (y ∷ es) = (y ≡ x) ⊎ In x es

-- ---- an entry stays

module _ (x : Entry) where
  insert_in : (i : ℕ) (a : Entry) (es : List Entry) → In x es → In x (insert_at i a es)
  insert_in zero a es h = inr h
  insert_in (suc i) a [] h = absurd h
  insert_in (suc i) a (y ∷ es) (inl e) = inl e
  insert_in (suc i) a (y ∷ es) (inr h) = inr (insert_in i a es h)

  put_in : (a : Entry) (es : List Entry) → (a.entry ≡ x.entry → ⊥) → In x es → In x (put entry_of a es)
  put_in a [] n h = absurd h
  put_in a (y ∷ es) n h =
      by_if (In x) (ltb y.entry a.entry) {x = y ∷ put entry_of a es} {y = if (eqb y.entry a.entry) (a ∷ es) (a ∷ y ∷ es)}
      (λ _. further h (put_in a es n))
      (λ _. by_if (In x) (eqb y.entry a.entry) {x = a ∷ es} {y = a ∷ y ∷ es} (λ q. instead (eqb-true _ _ q) h) (λ _. inr h))
    where
      further : In x (y ∷ es) → (In x es → In x (put entry_of a es)) → In x (y ∷ put entry_of a es)
      further (inl e) f = inl e
      further (inr m) f = inr (f m)

      instead : y.entry ≡ a.entry → In x (y ∷ es) → In x (a ∷ es)
      instead q (inl e) = absurd (n (sym q ∙ ap entry_of e))
      instead q (inr m) = inr m

  -- among the entries of an answer
  pub record Stays (es : List Entry) : Type 0 where
    pub within : In x es

  add_stays : (cap : rules.Capacity) (k : ℕ) (es : List Entry) → In x es → Holds Stays (rules.add_entry cap k es)
  unfolding rules.add_entry
  add_stays cap k es h =
      if_holds (λ _. good (record { within = h }))
      (λ q. map_holds (limited_is _ (put entry_of (new_entry k) es)) (λ fs i. record { within = rw (i.0 ∙ put_new entry_of (new_entry k) es q) (insert_in (rank entry_of k es) (new_entry k) es h) }))

  try_stays : (im : Image) (cap : rules.Capacity) (ks : List ℕ) (es : List Entry) → In x es → Holds Stays (rules.try_add_functions im cap ks es)
  unfolding rules.try_add_function
  try_stays im cap [] es h = good (record { within = h })
  try_stays im cap (k ∷ ks) es h =
      bind_holds (if_holds (λ _. add_stays cap k es h) (λ _. good (record { within = h }))) (λ fs p. try_stays im cap ks fs p.within)

  store_stays : (cap : rules.Capacity) (k : ℕ) (s : Slices) (end : ℕ) (es : List Entry) → (k ≡ x.entry → ⊥) → In x es → Holds Stays (rules.store cap k s end es)
  unfolding rules.store rules.fitting
  store_stays cap k s end es n h =
      bind_holds (add_stays cap k es h) (λ fs p. if_holds (λ _. good (record { within = put_in _ fs n p.within })) (λ _. none))

  -- among those of a round
  pub record StaysIn (t : rules.Round) : Type 0 where
    pub within : In x t.entries

  keep_stays : (im : Image) (cap : rules.Capacity) (k : ℕ) (s : Slices) (r : rules.Round) → (k ≡ x.entry → ⊥) → In x r.entries → Holds StaysIn (rules.keep_settled im cap k s r)
  unfolding rules.keep_settled
  keep_stays im cap k s r n h =
      bind_holds (trivial _)
      (λ t _. bind_holds (try_stays im cap t.function_references r.entries h)
      (λ es p. bind_holds (store_stays cap k t (last_end t.blocks) es n p.within) (λ fs q. good (record { within = q.within }))))

  pub finalize_stays : (im : Image) (cap : rules.Capacity) (last : Bool) (k : ℕ) (o : Option Slices) (r : rules.Round) → (k ≡ x.entry → ⊥) → In x r.entries → Holds StaysIn (rules.finalize_entry im cap last k o r)
  unfolding rules.finalize_function
  finalize_stays im cap last k nothing r n h = good (record { within = h })
  finalize_stays im cap last k (some s) r n h =
      bind_holds (trivial _) (λ t _. if_holds (λ _. keep_stays im cap k t.slices r n h) (λ _. good (record { within = h })))

-- ---- those of which a test holds

module _ (p : Entry → Bool) where
  filter_above : (k : ℕ) (es : List Entry) → Above entry_of k es → Rising entry_of es → Above entry_of k (filter p es)
  filter_above k [] a r = tt
  filter_above k (x ∷ es) a r =
      by_if (Above entry_of k) (p x) {x = x ∷ filter p es} {y = filter p es} (λ _. a) (λ _. filter_above k es (above_more entry_of k x.entry es a r.0) r.1)

  pub filter_rising : (es : List Entry) → Rising entry_of es → Rising entry_of (filter p es)
  filter_rising [] r = tt
  filter_rising (x ∷ es) r =
      by_if (Rising entry_of) (p x) {x = x ∷ filter p es} {y = filter p es} (λ _. (filter_above x.entry es r.0 r.1, filter_rising es r.1)) (λ _. filter_rising es r.1)

  filter_all : (P : Entry → Type 0) (es : List Entry) → All P es → All P (filter p es)
  filter_all P [] a = tt
  filter_all P (x ∷ es) a =
      by_if (All P) (p x) {x = x ∷ filter p es} {y = filter p es} (λ _. (a.0, filter_all P es a.1)) (λ _. filter_all P es a.1)

  all_in : (es : List Entry) → All (λ x. In x es) es
  all_in [] = tt
  all_in (x ∷ es) = (inl refl, all_map es (λ y h. inr h) (all_in es))

  pub filter_in : (es : List Entry) → All (λ x. In x es) (filter p es)
  filter_in es = filter_all (λ x. In x es) es (all_in es)
