-- What one lookup in each list tells of the words up to what it found.
use Rattle.std.proofs.Common.{◌≡◌, ℕ, suc, ◌+◌, ◌*◌, ◌-◌, ◌/◌, ◌<◌, ◌≤◌, refl, sym, ap, ◌∙◌, Bool, true, false, ◌||◌, List, [], ◌∷◌, map, Option, Some, None, min, eqb, ltb, arith}
use borrow.Author.Tests.{eq-eqb, ne_eqb, eqb-true, lt-ltb, le-ltb, ltb-true, ltb-false}
use Rattle.rules.specs.Choice.{if, if_true, if_false}
use Rattle.rules.specs.Ordered.{self, has, lower, upper}
use Rattle.rules.specs.Blocks.{start_of}
use Rattle.rules.specs.Slices.{Slices}
use Rattle.rules.specs.Known.{Entry, entry_of, new_entry, covers, covering}
use Rattle.rules.specs.Step as steps
use Rattle.rules.specs.Step.{Around}
use Rattle.rules.proofs.Tests.{or_right}
use Rattle.rules.proofs.Ordered.{has_keys}
use Rattle.tables.specs.declared.maps.Row.{Row}
use Rattle.tables.specs.Places.{first_from}
use Rattle.tables.specs.Rows.{row, key_of}
use Rattle.slices.specs.Blocks.{blocks_of}
use Rattle.walks.specs.Around.{Knows}
use Rattle.execution.specs.Stretch.{other, clear_until, how_many}

-- ---- the next key

abbrev pub key_or : Option Row → ℕ → ℕ
key_or (Some r) d = r.key
key_or None d = d

next_of : (q d : ℕ) (l : List Row) → key_or (first_from key_of q l) d ≡ upper self q d (map key_of l)
unfolding if
next_of q d [] = refl
next_of q d (x ∷ l) = by (ltb x.key q) (next_of q d l)
  where
    by : (c : Bool) → key_or (first_from key_of q l) d ≡ upper self q d (map key_of l) → key_or (if c (first_from key_of q l) (Some x)) d ≡ if c (upper self q d (map key_of l)) x.key
    by true e = e
    by false e = refl

pub next_row : (q d : ℕ) (l : List Row) (o : Option Row) → o ≡ first_from key_of q l → key_or o d ≡ upper self q d (map key_of l)
next_row q d l o e = ap (λ (r : Option Row). key_or r d) e ∙ next_of q d l

-- of blocks, and of the known functions
block_keys : (l : List Row) → map key_of l ≡ map start_of (blocks_of l)
block_keys [] = refl
block_keys (x ∷ l) = ap (λ (t : List ℕ). x.key ∷ t) (block_keys l)

entry_keys : (es : List Entry) → map key_of (map (λ (x : Entry). row x.entry x.end) es) ≡ map entry_of es
entry_keys [] = refl
entry_keys (x ∷ es) = ap (λ (t : List ℕ). x.entry ∷ t) (entry_keys es)

pub next_start : (q d r : ℕ) (l : List Row) → r ≡ upper self q d (map key_of l) → r ≡ upper self q d (map start_of (blocks_of l))
next_start q d r l e = e ∙ ap (upper self q d) (block_keys l)

pub next_entry : (q d r : ℕ) (l : List Row) (es : List Entry) → Knows l es → r ≡ upper self q d (map key_of l) → r ≡ upper self q d (map entry_of es)
next_entry q d r l es knows e = e ∙ ap (upper self q d) (ap (map key_of) knows ∙ entry_keys es)

-- ---- up to the next key

has_under : (q d j : ℕ) (l : List ℕ) → q ≤ j → j < upper self q d l → has self j l ≡ false
unfolding if
has_under q d j [] a b = refl
has_under q d j (x ∷ l) a b = by (ltb x q) refl b (has_under q d j l a)
  where
    by : (c : Bool) → ltb x q ≡ c → j < if c (upper self q d l) x → (j < upper self q d l → has self j l ≡ false) → if (ltb x j) (has self j l) (eqb x j) ≡ false
    by true e b f = let h : x < q = ltb-true _ _ e in rw (lt-ltb x j (omega arith)) (f b)
    by false e b f = let h : q ≤ x = ltb-false _ _ e in rw (le-ltb x j (omega arith)) (ne_eqb x j (λ z. absurd (omega arith)))

pub upper_from : (a q d : ℕ) (l : List ℕ) → a ≤ q → a ≤ d → a ≤ upper self q d l
unfolding if
upper_from a q d [] h g = g
upper_from a q d (x ∷ l) h g = by (ltb x q) refl (upper_from a q d l h g)
  where
    by : (c : Bool) → ltb x q ≡ c → a ≤ upper self q d l → a ≤ if c (upper self q d l) x
    by true e f = f
    by false e f = let l : q ≤ x = ltb-false _ _ e in let r : a ≤ x = omega (arith, h) in r

lower_under : (q r d : ℕ) (z : Entry) (es : List Entry) → q ≤ r → r ≤ upper self q d (map entry_of es) → lower entry_of r z es ≡ lower entry_of q z es
unfolding if
lower_under q r d z [] a b = refl
lower_under q r d z (x ∷ es) a b = by (ltb x.entry q) refl b (lower_under q r d x es a)
  where
    by : (c : Bool) → ltb x.entry q ≡ c → r ≤ if c (upper self q d (map entry_of es)) x.entry → (r ≤ upper self q d (map entry_of es) → lower entry_of r x es ≡ lower entry_of q x es) → if (ltb x.entry r) (lower entry_of r x es) z ≡ if c (lower entry_of q x es) z
    by true e b f = let h : x.entry < q = ltb-true _ _ e in rw (lt-ltb x.entry r (omega arith)) (f b)
    by false e b f = rw (le-ltb x.entry r b) refl

lower_low : (q : ℕ) (z : Entry) (es : List Entry) → z.entry < q → (lower entry_of q z es).entry < q
unfolding if
lower_low q z [] h = h
lower_low q z (x ∷ es) h = by (ltb x.entry q) refl (lower_low q x es)
  where
    by : (c : Bool) → ltb x.entry q ≡ c → (x.entry < q → (lower entry_of q x es).entry < q) → (if c (lower entry_of q x es) z).entry < q
    by true e f = f (ltb-true _ _ e)
    by false e f = h

-- ---- the function that covers a word

covers_on : (x : Entry) (k j start : ℕ) → x.entry ≤ k → k ≤ j → other (covers k x) start ≡ false → other (covers j x) start ≡ false
unfolding if
covers_on x k j start a b h = by (eqb x.entry j) refl (ltb j x.end) refl
  where
    by : (c : Bool) → eqb x.entry j ≡ c → (d : Bool) → ltb j x.end ≡ d → other (if (c || d) x.entry 0) start ≡ false
    by true q d p =
        let z : x.entry ≡ j = eqb-true _ _ q in
        let y : x.entry ≡ k = omega arith in
        let t : covers k x ≡ x.entry = rw (eq-eqb x.entry k y) refl in
        ap (λ (n : ℕ). other n start) (sym t) ∙ h
    by false q true p =
        let l : j < x.end = ltb-true _ _ p in
        let t : covers k x ≡ x.entry = if_true (or_right (eqb x.entry k) _ (lt-ltb k x.end (omega arith))) _ _ in
        ap (λ (n : ℕ). other n start) (sym t) ∙ h
    by false q false p = unfold other in refl

covering_on : (k j d start : ℕ) (es : List Entry) → k ≤ j → j < upper self (k + 1) d (map entry_of es) → other (covering k es) start ≡ false → other (covering j es) start ≡ false
unfolding covering
covering_on k j d start es a b h =
    let s : k + 1 ≡ suc k = omega arith in
    let u : suc j ≤ upper self (suc k) d (map entry_of es) = rw (← s) (omega arith) in
    let t : lower entry_of (suc j) (new_entry 0) es ≡ lower entry_of (suc k) (new_entry 0) es = lower_under (suc k) (suc j) d (new_entry 0) es (omega arith) u in
    let l : (lower entry_of (suc k) (new_entry 0) es).entry < suc k = lower_low (suc k) (new_entry 0) es (omega arith) in
    rw t (covers_on (lower entry_of (suc k) (new_entry 0) es) k j start (omega arith) a h)

-- ---- all of it

-- the word k is of no other known function and no possible block, and no block starts behind it
pub record Aside (e : Around) (s : Slices) (k : ℕ) : Type 0 where
  pub own : steps.is_known_function e s k ≡ false
  pub not_possible : has self k s.possible_blocks ≡ false
  pub no_start : has start_of (k + 4) s.blocks ≡ false

module _ (e : Around) (s : Slices) (k : ℕ) where
  known_not : (j : ℕ) → has self j s.function_references ≡ false → other (covering j e.entries) e.start ≡ false → steps.is_known_function e s j ≡ false
  unfolding steps.is_known_function steps.known_function other
  known_not j r o = rw (if_false r j (covering j e.entries)) o

  -- the lookups do not go back
  pub start_high : (d : ℕ) → 4 ≤ upper self (k + 4) (d + 4) (map start_of s.blocks)
  start_high d = upper_from 4 (k + 4) (d + 4) (map start_of s.blocks) (omega arith) (omega arith)

  pub clear_from : (d : ℕ) → k ≤ d → k ≤ clear_until e s k d
  unfolding clear_until
  clear_from d h =
      let b : k + 4 ≤ upper self (k + 4) (d + 4) (map start_of s.blocks) = upper_from (k + 4) (k + 4) (d + 4) (map start_of s.blocks) (omega arith) (omega arith) in
      let f : k ≤ upper self (k + 1) d (map entry_of e.entries) = upper_from k (k + 1) d (map entry_of e.entries) (omega arith) h in
      let r : k ≤ upper self k d s.function_references = upper_from k k d s.function_references (omega arith) h in
      let o : k ≤ upper self k d s.possible_blocks = upper_from k k d s.possible_blocks (omega arith) h in
      omega arith

  module _ (own : other (covering k e.entries) e.start ≡ false) where
    clear : (d j : ℕ) → k ≤ j → j < clear_until e s k d → Aside e s j
    unfolding clear_until
    clear d j l h =
        record {
          own = known_not j (has_under k d j s.function_references l (omega arith)) (covering_on k j d e.start e.entries l (omega arith) own);
          not_possible = has_under k d j s.possible_blocks l (omega arith);
          no_start = has_keys start_of (j + 4) s.blocks ∙ has_under (k + 4) (d + 4) (j + 4) (map start_of s.blocks) (omega arith) (omega (arith, start_high d));
        }

  pub few : (most : ℕ) → how_many e s k most ≤ most
  unfolding how_many if
  few most = by (other (covering k e.entries) e.start)
    where
      by : (c : Bool) → if c 0 (min ((clear_until e s k (k + 4 * most) - k) / 4) most) ≤ most
      by true = omega arith
      by false = omega arith

  pub aside : (most j : ℕ) → j < how_many e s k most → Aside e s (k + 4 * j)
  unfolding how_many if
  aside most j h = by (other (covering k e.entries) e.start) refl h
    where
      by : (c : Bool) → other (covering k e.entries) e.start ≡ c → j < if c 0 (min ((clear_until e s k (k + 4 * most) - k) / 4) most) → Aside e s (k + 4 * j)
      by true own h = absurd (omega arith)
      by false own h = clear own (k + 4 * most) (k + 4 * j) (omega arith) (omega (arith, clear_from (k + 4 * most) (omega arith)))
