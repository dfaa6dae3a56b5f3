-- One entry after the other finalized: what the loop keeps.
use Rattle.std.proofs.Common.{◌≡◌, ℕ, suc, ◌+◌, ◌<◌, Bool, false, List, [], ◌∷◌, map, length, get_or, drop, refl, sym, ap, ◌∙◌, inl, inr, arith, add-one, drop-cons}
use borrow.Author.Tests.{lt-ltb, le-ltb}
use Rattle.rules.specs.Choice.{if_true, if_false, Answer, fault, ◌>>=◌, filter}
use Rattle.rules.specs.Loop as loops
use Rattle.rules.specs.Ordered.{Above, Rising, upper}
use Rattle.rules.specs.Image.{Image}
use Rattle.rules.specs.Known.{Entry, entry_of, new_entry, is_unfinalized}
use Rattle.rules.specs.Map as rules
use Rattle.rules.proofs.Rows.{All, all_zip, all_above}
use Rattle.walks.proofs.Steps.{after_ok, after_err}
use Rattle.analyzer.specs.declared.AnalyzerState.{AnalyzerState}
use Rattle.analyzer.specs.Table.{Holds, slices_at}
use Rattle.analyzer.specs.Told.{Rounded}
use Rattle.rounds.proofs.Stays.{In, finalize_stays, filter_rising, filter_in}

-- ---- an entry among those that rise

in_above : (k : ℕ) (x : Entry) (es : List Entry) → Above entry_of k es → Rising entry_of es → In x es → k < x.entry
in_above k x [] a r h = absurd h
in_above k x (y ∷ es) a r (inl e) = omega (arith, ap entry_of e)
in_above k x (y ∷ es) a r (inr h) = omega (arith, in_above y.entry x es r.0 r.1 h)

-- it is found by its key
found : (x d : Entry) (es : List Entry) → Rising entry_of es → In x es → upper entry_of x.entry d es ≡ x
found x d [] r h = absurd h
found x d (y ∷ es) r (inl e) = if_false (le-ltb y.entry x.entry (omega (arith, ap entry_of e))) _ _ ∙ e
found x d (y ∷ es) r (inr h) = if_true (lt-ltb y.entry x.entry (in_above y.entry x es r.0 r.1 h)) _ _ ∙ found x d es r.1 h

-- the next key, and the end of the keys
pub next_key : (keys : List ℕ) (i : ℕ) → i < length keys → drop i keys ≡ get_or keys i 0 ∷ drop (i + 1) keys
next_key keys i h = rw add-one (drop-cons keys i 0 h)

no_keys : (es : List Entry) → map entry_of es ≡ [] → es ≡ []
no_keys [] e = refl
no_keys (x ∷ es) e = let z : ◌≡◌ {A = ℕ} (suc (length (map entry_of es))) 0 = ap length e in absurd (omega arith)

-- ---- the loop

module _ (im : Image) (cap : rules.Capacity) (last : Bool) (a : Answer rules.Round) where
  -- the entries that the state holds now, and those that are left, by their keys, which come to the answer
  pub record Now (keys : List ℕ) (changed : Bool) (s : AnalyzerState) (lists : List ℕ) : Type 0 where
    pub entries : List Entry
    pub holds : Holds cap s lists entries
    pub left : List Entry
    pub is_left : map entry_of left ≡ keys
    pub rising : Rising entry_of left
    pub within : All (λ x. In x entries) left
    pub same : rules.finalize_each im cap last left (rules.round changed entries) ≡ a

  pub each_ends : (changed : Bool) (s : AnalyzerState) (lists : List ℕ) → Now [] changed s lists → Rounded cap a s lists changed
  each_ends changed s lists w =
      let z : w.left ≡ [] = no_keys w.left w.is_left in
      record { entries = w.entries; is = sym w.same ∙ ap (λ (l : List Entry). rules.finalize_each im cap last l (rules.round changed w.entries)) z; holds = w.holds }

  -- the first of those that are left
  module _ (changed : Bool) (es : List Entry) where
    abbrev start : rules.Round
    start = rules.round changed es

    record Head (k : ℕ) (ks : List ℕ) : Type 0 where
      row : Entry
      rest : List Entry
      at : row.entry ≡ k
      keys : map entry_of rest ≡ ks
      above : All (λ y. row.entry < y.entry) rest
      rising : Rising entry_of rest
      within : All (λ y. In y es) rest
      same : (rules.finalize_entry im cap last k (slices_at k es) start >>= λ t. rules.finalize_each im cap last rest t) ≡ a

    head_of : (k : ℕ) (ks : List ℕ) (left : List Entry) → Rising entry_of es → map entry_of left ≡ k ∷ ks → Rising entry_of left → All (λ y. In y es) left → rules.finalize_each im cap last left start ≡ a → Head k ks
    head_of k ks [] g e r w q = let z : ◌≡◌ {A = ℕ} 0 (suc (length ks)) = ap length e in absurd (omega arith)
    head_of k ks (y ∷ ys) g e r w q =
        let at : y.entry ≡ k = ap (λ (l : List ℕ). get_or l 0 0) e in
        let by : ℕ → Answer rules.Round = λ j. rules.finalize_entry im cap last j (slices_at j es) start >>= λ t. rules.finalize_each im cap last ys t in
        record {
          row = y;
          rest = ys;
          at = at;
          keys = ap (drop 1) e;
          above = all_above entry_of y.entry ys r.0 r.1;
          rising = r.1;
          within = w.1;
          same =
              ap by (sym at)
              ∙ ap (λ (z : Entry). rules.finalize_entry im cap last y.entry z.slices start >>= λ t. rules.finalize_each im cap last ys t) (found y (new_entry y.entry) es g w.0)
              ∙ q;
        }

  module _ (k : ℕ) (ks : List ℕ) (changed : Bool) (s : AnalyzerState) (lists : List ℕ) (w : Now (k ∷ ks) changed s lists) where
    first : Head changed w.entries k ks
    first = head_of changed w.entries k ks w.left w.holds.rising w.is_left w.rising w.within w.same

    abbrev answer : Answer rules.Round
    answer = rules.finalize_entry im cap last k (slices_at k w.entries) (rules.round changed w.entries)

    pub each_fails : (n : ℕ) → answer ≡ fault n → a ≡ fault n
    each_fails n e = sym first.same ∙ after_err _ (sym e)

    pub each_on : (changed' : Bool) (s' : AnalyzerState) (lists' : List ℕ) → Rounded cap answer s' lists' changed' → Now ks changed' s' lists'
    each_on changed' s' lists' t =
        let f : Head changed w.entries k ks = first in
        record {
          entries = t.entries;
          holds = t.holds;
          left = f.rest;
          is_left = f.keys;
          rising = f.rising;
          within =
              all_zip f.rest
              (λ (y : Entry) (h : f.row.entry < y.entry) (v : In y w.entries). (loops.holds_at (finalize_stays y im cap last k (slices_at k w.entries) (rules.round changed w.entries) (λ q. omega (arith, h, q, f.at)) v) t.is).within)
              f.above f.within;
          same = sym (after_ok _ (sym t.is)) ∙ f.same;
        }

pub each_first : (im : Image) (cap : rules.Capacity) (last : Bool) (es : List Entry) (keys : List ℕ) (s : AnalyzerState) (lists : List ℕ) → Holds cap s lists es → keys ≡ map entry_of (filter is_unfinalized es) → Now im cap last (rules.finalize_functions im cap last es) keys false s lists
unfolding rules.finalize_functions
each_first im cap last es keys s lists h e =
    record { entries = es; holds = h; left = filter is_unfinalized es; is_left = sym e; rising = filter_rising is_unfinalized es h.rising; within = filter_in is_unfinalized es; same = refl }
