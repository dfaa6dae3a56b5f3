-- Where the numbers of an entry lie, and what the lists are with others in their place.
use mathlib.Core.Path.{◌≡◌, refl, sym, ap, ap₂, ◌∙◌}
use mathlib.Core.Bool.{true, false}
use mathlib.Core.List.{List, ◌++◌, append_assoc}
use Prim.Native.Nat.{ℕ, suc, ◌+◌, ◌-◌, ◌<◌, ◌≤◌}
use native.Mathlib.Omega.{arith}
use lib.ListN.{length, take, drop, get_or, length-append, take-append-drop, get_or-map}
use lib.Seq.{take_at, drop_at}
use denote.Ref.{Bor}
use Rattle.std.specs.Prelude.{Some, None}
use Rattle.std.specs.List.{between, take-map, drop-map}
use Rattle.std.proofs.lemmas.List.{get_or_past}
use Rattle.std.proofs.Math.Option.{Option, none, some}
use Rattle.rules.specs.Ordered.{rank}
use Rattle.rules.specs.Slices.{Slices}
use Rattle.rules.specs.Known.{Entry, entry_of, new_entry, is_some}
use Rattle.rules.specs.Map.{Capacity}
use Rattle.numbers.specs.declared.Header.{Header}
use Rattle.numbers.specs.Stored.{header_len}
use Rattle.analyzer.specs.declared.FunctionInfo.{FunctionInfo}
use Rattle.analyzer.specs.declared.AnalyzerState.{AnalyzerState}
use Rattle.analyzer.specs.Table.{info_of, header_in, numbers_in, entry_numbers, flat, RightIn, Holds, slices_at}
use Rattle.analyzer.specs.Placed.{header_long, info_long, infos_long, IsLent, Lent}
use Rattle.analyzer.proofs.Rows.{infos_count, upper_at}
use Rattle.analyzer.proofs.Flat.{flat_at, infos_are, entry_long, right_at}

-- numbers that begin with three runs
module _ (xs P B C : List ℕ) (b : take (length (P ++ (B ++ C))) xs ≡ P ++ (B ++ C)) where
  R : List ℕ
  R = drop (length (P ++ (B ++ C))) xs

  form : xs ≡ P ++ (B ++ (C ++ R))
  unfolding R
  form = sym (take-append-drop (length (P ++ (B ++ C))) xs) ∙ ap (λ l. l ++ drop (length (P ++ (B ++ C))) xs) b ∙ append_assoc P (B ++ C) _ ∙ ap (λ l. P ++ l) (append_assoc B C _)

  pub runs_long : length P + length B + length C ≤ length xs
  runs_long = omega (arith, ap length form, length-append P (B ++ (C ++ R)), length-append B (C ++ R), length-append C R)

  pub first_run : (from : ℕ) → from ≡ length P → take from xs ≡ P
  first_run from e = ap (take from) form ∙ take_at P (B ++ (C ++ R)) from (sym e)

  past : (from : ℕ) → from ≡ length P → drop from xs ≡ B ++ (C ++ R)
  past from e = ap (drop from) form ∙ drop_at P (B ++ (C ++ R)) from (sym e)

  pub second_run : (from until : ℕ) → from ≡ length P → until ≡ from + length B → between from until xs ≡ B
  second_run from until e f = ap (take (until - from)) (past from e) ∙ take_at B (C ++ R) (until - from) (omega arith)

  pub third_run : (until total : ℕ) → until ≡ length P + length B → total ≡ until + length C → between until total xs ≡ C
  third_run until total e f =
      let both : length (P ++ B) ≡ until = omega (arith, length-append P B) in
      ap (λ l. take (total - until) (drop until l)) (form ∙ sym (append_assoc P B (C ++ R)))
      ∙ ap (take (total - until)) (drop_at (P ++ B) (C ++ R) until both)
      ∙ take_at C R (total - until) (omega arith)

  -- others in the place of the second
  pub replaced_runs : (N new rest : List ℕ) (from until total : ℕ) → from ≡ length P → until ≡ from + length B → total ≡ until + length C → new ≡ take from xs ++ (N ++ (between until total xs ++ rest)) → take (length (P ++ (N ++ C))) new ≡ P ++ (N ++ C)
  replaced_runs N new rest from until total e f g is =
      let whole : new ≡ (P ++ (N ++ C)) ++ rest =
      is ∙ ap₂ (λ p c. p ++ (N ++ (c ++ rest))) (first_run from e) (third_run until total (omega arith) g)
      ∙ ap (λ l. P ++ l) (sym (append_assoc N C rest)) ∙ sym (append_assoc P (N ++ C) rest)
      in
      ap (take (length (P ++ (N ++ C)))) whole ∙ take_at (P ++ (N ++ C)) rest _ refl

-- by its lists
pub lent_by : (o : Option Slices) (p : Header × Bor (List ℕ)) → header_in o ≡ Some p.0 → p.1.now ≡ numbers_in o → RightIn o → Lent o (Some p)
lent_by none p e n r = cc
lent_by (some s) p e n r = record { header = cc; numbers = n; right = r }

pub not_lent : (o : Option Slices) → header_in o ≡ None → Lent o None
not_lent none e = tt
not_lent (some s) e = cc

module _ {cap : Capacity} {a : AnalyzerState} {lists : List ℕ} {es : List Entry} (h : Holds cap a lists es) where
  -- the numbers before an entry, its own and those behind
  module _ (at : ℕ) (d : Entry) (lt : at < length es) where
    abbrev before : List ℕ
    before = flat (take at es)

    abbrev own : List ℕ
    own = entry_numbers (get_or es at d)

    abbrev behind : List ℕ
    behind = flat (drop (suc at) es)

    pub runs : take (length (before ++ (own ++ behind))) lists ≡ before ++ (own ++ behind)
    runs = rw (flat_at es at lt d) at h.numbers

    pub before_is : infos_long (take at a.infos.items) ≡ length before
    before_is = ap (λ l. infos_long (take at l)) h.infos ∙ ap infos_long (take-map info_of at es) ∙ infos_are (take at es)

    pub behind_is : infos_long (drop (suc at) a.infos.items) ≡ length behind
    behind_is = ap (λ l. infos_long (drop (suc at) l)) h.infos ∙ ap infos_long (drop-map info_of (suc at) es) ∙ infos_are (drop (suc at) es)

    pub info_at : (i : FunctionInfo) → i ≡ get_or a.infos.items at (info_of d) → i ≡ info_of (get_or es at d)
    info_at i e = e ∙ ap (λ l. get_or l at (info_of d)) h.infos ∙ get_or-map info_of es at d

    pub own_is : (i : FunctionInfo) → i ≡ get_or a.infos.items at (info_of d) → info_long i ≡ length own
    own_is i e = ap info_long (info_at i e) ∙ entry_long (get_or es at d)

-- what is told of the entry at a key or above
module _ {cap : Capacity} {a : AnalyzerState} {lists : List ℕ} {es : List Entry} (h : Holds cap a lists es) (k at : ℕ) (place : at ≡ rank entry_of k es) where
  slices_are : slices_at k es ≡ (get_or es at (new_entry k)).slices
  slices_are = ap (λ (x : Entry). x.slices) (upper_at k (new_entry k) es ∙ ap (λ i. get_or es i (new_entry k)) (sym place))

  pub none_at : length a.infos.items ≤ at → Lent (slices_at k es) None
  none_at le =
      let past : (get_or es at (new_entry k)).slices ≡ none = ap (λ (x : Entry). x.slices) (get_or_past es at (new_entry k) (omega (arith, infos_count h))) in
      not_lent (slices_at k es) (ap header_in (slices_are ∙ past))

  module _ (i : FunctionInfo) (lt : at < length a.infos.items) (ei : (d : FunctionInfo) → i ≡ get_or a.infos.items at d) where
    below : at < length es
    below = omega (arith, infos_count h)

    header_at : header_in (slices_at k es) ≡ i.slices
    header_at = ap header_in slices_are ∙ ap (λ (j : FunctionInfo). j.slices) (sym (info_at h at (new_entry k) below i (ei (info_of (new_entry k)))))

    pub none_in : i.slices ≡ None → Lent (slices_at k es) None
    none_in e = not_lent (slices_at k es) (header_at ∙ e)

    module _ (hd : Header) (es_is : i.slices ≡ Some hd) (from len : ℕ) (ef : from ≡ infos_long (take at a.infos.items)) (el : len ≡ header_len hd) where
      own_long : len ≡ length (entry_numbers (get_or es at (new_entry k)))
      own_long = el ∙ ap header_long (sym es_is) ∙ own_is h at (new_entry k) below i (ei (info_of (new_entry k)))

      from_is : from ≡ length (flat (take at es))
      from_is = ef ∙ before_is h at (new_entry k) below

      pub within : from + len ≤ length lists
      within = omega (arith, runs_long lists (flat (take at es)) (entry_numbers (get_or es at (new_entry k))) (flat (drop (suc at) es)) (runs h at (new_entry k) below), from_is, own_long)

      pub lent_in : (p : Bor (List ℕ)) → p.now ≡ between from (from + len) lists → Lent (slices_at k es) (Some (hd, p))
      lent_in p n =
          let own : p.now ≡ numbers_in (slices_at k es) =
          n ∙ second_run lists (flat (take at es)) (entry_numbers (get_or es at (new_entry k))) (flat (drop (suc at) es)) (runs h at (new_entry k) below) from (from + len) from_is (ap (λ j. from + j) own_long)
          ∙ ap numbers_in (sym slices_are)
          in
          lent_by (slices_at k es) (hd, p) (header_at ∙ es_is) own (rw slices_are (right_at k es at h.right))

-- what was lent
pub lent_some : (o : Option Slices) (p : Header × Bor (List ℕ)) → Lent o (Some p) → true ≡ is_some o
lent_some none p l = absurd l
lent_some (some s) p l = refl

pub lent_none : (o : Option Slices) → Lent o None → false ≡ is_some o
lent_none none l = refl
lent_none (some s) l = absurd l

pub lent_slices : (o : Option Slices) (p : Header × Bor (List ℕ)) (s : Slices) → o ≡ some s → Lent o (Some p) → IsLent s p.0 p.1.now
lent_slices none p s e l = absurd l
lent_slices (some t) p s e l = let same : t ≡ s = cc in rw (← same) l

pub none_lent : (o : Option Slices) (s : Slices) → o ≡ some s → Lent o None → ⊥
none_lent none s e l = cc
none_lent (some t) s e l = l
