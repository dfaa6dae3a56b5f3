-- The rows put one after the other.
use Rattle.std.proofs.Common.{◌≡◌, ℕ, suc, ◌+◌, ◌-◌, ◌*◌, ◌<◌, ◌≤◌, min, Bool, true, false, List, [], ◌∷◌, ◌++◌, length, take, drop, map, get_or, replicate, slice_index_or, refl, sym, ap, ap₂, ◌∙◌}
use mathlib.Core.List.{append_assoc, append-nil}
use native.Mathlib.Omega.{arith}
use lib.ListN.{length-take, length-replicate, drop_of_length-le}
use lib.Seq.{paste, length-take-le, take_all}
use borrow.Rule.Slice.PartMut.{put_mid}
use Rattle.std.proofs.lemmas.Slice.{take-put_mid}
use Rattle.std.proofs.lemmas.List.{get_or-map, take_more, length-map}
use Rattle.std.specs.Prelude.{Option, Some, None, eqb, unwrap_or}
use Rattle.std.proofs.Math.Option.{Option as Maybe, none, some}
use borrow.Author.Tests.{eqb-true}
use Rattle.rules.specs.Choice.{if}
use Rattle.rules.specs.Slices.{Slices}
use Rattle.rules.specs.Known.{Entry, new_entry}
use Rattle.tables.specs.Rows as tables
use Rattle.tables.specs.declared.maps.Row.{Row}
use Rattle.obj_info.specs.Info.{some_nonzero}
use Rattle.numbers.specs.Stored.{header_of}
use Rattle.numbers.specs.declared.Header.{Header}
use Rattle.analyzer.specs.Table.{header_in, info, info_of, flat, Holds}
use Rattle.rules.specs.Map.{Capacity}
use Rattle.analyzer.specs.declared.FunctionInfo.{FunctionInfo}
use Rattle.analyzer.specs.declared.AnalyzerState.{AnalyzerState}
use Rattle.result_lists.specs.Rows.{ROW, flags, result_row, rows_of, padded, Results}

abbrev pub entry_row : Entry → Row
entry_row x = tables.row x.entry x.end

-- the rows of the first i entries are put
pub record Going (entries : List Row) (infos : List FunctionInfo) (before : List ℕ) (i : ℕ) (rows : List ℕ) : Type 0 where
  pub size : length rows ≡ length before
  pub done : (es : List Entry) → entries ≡ map entry_row es → infos ≡ map info_of es → take (i * ROW) rows ≡ rows_of (take i es)

-- ---- one row

-- an address that may be none, or 0
unwrapped : (n : ℕ) (o : Option ℕ) → o ≡ some_nonzero n → unwrap_or o 0 ≡ n
unfolding if
unwrapped n o e = rw e (go (eqb n 0) refl)
  where
    go : (b : Bool) → eqb n 0 ≡ b → unwrap_or (if b None (Some n)) 0 ≡ n
    go true h = sym (eqb-true n 0 h)
    go false h = refl

some_is : {A : Type 0} {y z : A} → Some y ≡ Some z → y ≡ z
some_is e = cc

not_some : {A : Type 0} {y : A} → Some y ≡ None → ⊥
not_some e = cc

-- of an entry with lists
pub row_some : (x : Entry) (a : FunctionInfo) (r : Row) (h : Header) (f pro epi : ℕ) → r ≡ entry_row x → a ≡ info_of x → a.slices ≡ Some h →
    f ≡ flags x.analyzed x.slices → pro ≡ unwrap_or h.prologue 0 → epi ≡ unwrap_or h.epilogue 0 →
    (r.key ∷ r.value ∷ f ∷ pro ∷ epi ∷ h.blocks ∷ h.branches ∷ h.function_references ∷ h.jump_table_references ∷ h.possible_blocks ∷ []) ≡ result_row x
row_some x a r h f pro epi er ea eh ef ep ee = by x.slices refl
  where
    by : (o : Maybe Slices) → x.slices ≡ o → (r.key ∷ r.value ∷ f ∷ pro ∷ epi ∷ h.blocks ∷ h.branches ∷ h.function_references ∷ h.jump_table_references ∷ h.possible_blocks ∷ []) ≡ result_row x
    by none q = absurd (not_some (sym eh ∙ ap (λ (y : FunctionInfo). y.slices) ea ∙ ap header_in q))
    by (some s) q =
        let e : h ≡ header_of s = some_is (sym eh ∙ ap (λ (y : FunctionInfo). y.slices) ea ∙ ap header_in q) in
        let p : pro ≡ s.prologue = ep ∙ unwrapped s.prologue h.prologue (ap (λ (y : Header). y.prologue) e) in
        let i : epi ≡ s.epilogue = ee ∙ unwrapped s.epilogue h.epilogue (ap (λ (y : Header). y.epilogue) e) in
        rw (q, er, e, p, i, ef ∙ ap (flags x.analyzed) q) refl

-- ---- all of them

rows_append : (es fs : List Entry) → rows_of (es ++ fs) ≡ rows_of es ++ rows_of fs
rows_append [] fs = refl
rows_append (x ∷ es) fs = ap (λ (l : List ℕ). result_row x ++ l) (rows_append es fs) ∙ sym (append_assoc (result_row x) (rows_of es) (rows_of fs))

-- of no entry
abbrev pub no_info : FunctionInfo
no_info = info None false

module _ (entries : List Row) (infos : List FunctionInfo) (before : List ℕ) (i : ℕ) (rows : List ℕ) (g : Going entries infos before i rows) (lt : i < length infos) where
  -- the next row is put
  pub going_on : (r : Row) (l out : List ℕ) → i < length entries → ((d : Row) → r ≡ slice_index_or entries i d) → ((x : Entry) → r ≡ entry_row x → slice_index_or infos i no_info ≡ info_of x → l ≡ result_row x) →
      length l ≡ ROW → i * ROW + ROW ≤ length rows → out ≡ put_mid (i * ROW) (i * ROW + ROW - i * ROW) rows l → length out ≡ length rows → Going entries infos before (i + 1) out
  going_on r l out le at row long room is size =
      record {
        size = size ∙ g.size;
        done = λ es e f.
            let x : Entry = get_or es i (new_entry 0) in
            let n : i < length es = omega (arith, ap length f, length-map es info_of) in
            let a : r ≡ entry_row x = at (entry_row (new_entry 0)) ∙ ap (λ (y : List Row). get_or y i (entry_row (new_entry 0))) e ∙ get_or-map entry_row es i (new_entry 0) (entry_row (new_entry 0)) n in
            let b : slice_index_or infos i no_info ≡ info_of x = ap (λ (y : List FunctionInfo). get_or y i no_info) f ∙ get_or-map info_of es i (new_entry 0) no_info n in
            let q : l ≡ result_row x = row x a b in
            let t : take (i + 1) es ≡ take i es ++ (x ∷ []) = take_more es i (new_entry 0) n in
            let p : take ((i + 1) * ROW) out ≡ take (i * ROW) rows ++ l = ap (take ((i + 1) * ROW)) is ∙ take-put_mid (i * ROW) (i * ROW + ROW - i * ROW) rows l ((i + 1) * ROW) (omega arith) (omega arith) in
            p ∙ ap₂ (λ (s u : List ℕ). s ++ u) (g.done es e f) (q ∙ sym (append-nil (result_row x))) ∙ sym (rows_append (take i es) (x ∷ [])) ∙ ap rows_of (sym t);
      }

  -- there is one
  pub going_not : length entries ≤ i → (out : List ℕ) → out ≡ rows → Going entries infos before (i + 1) out
  going_not le out is =
      record {
        size = ap length is ∙ g.size;
        done = λ es e f. absurd (omega (arith, ap length e, ap length f, length-map es entry_row, length-map es info_of));
      }

-- ---- zeros past them

pub cleared : (xs : List ℕ) (at n : ℕ) (out : List ℕ) → at ≤ length xs → n ≡ length xs - at → out ≡ paste xs at (replicate n 0) n → out ≡ padded (take at xs) (length xs)
cleared xs at n out h e q =
    let l : length (take at xs) ≡ at = length-take-le at xs h in
    let z : length {A = ℕ} (replicate n 0) ≡ n = length-replicate n 0 in
    let m : n ≡ length xs - length (take at xs) = omega arith in
    let d : drop (at + n) xs ≡ [] = drop_of_length-le xs {i = at + n} (omega arith) in
    q ∙ ap (λ (r : List ℕ). take at xs ++ take n (replicate n 0) ++ r) d ∙ append-nil (take at xs ++ take n (replicate n 0))
    ∙ ap (λ (r : List ℕ). take at xs ++ r) (take_all n (replicate n 0) (omega (arith, z)))
    ∙ ap (λ (m : ℕ). take at xs ++ replicate m 0) m

pub rows_done : (entries : List Row) (infos : List FunctionInfo) (before : List ℕ) (i : ℕ) (rows out : List ℕ) → Going entries infos before i rows → length infos ≤ i → (n : ℕ) → n ≡ length infos → n * ROW ≤ length rows →
    out ≡ paste rows (n * ROW) (replicate (length rows - n * ROW) 0) (length rows - n * ROW) → (es : List Entry) → entries ≡ map entry_row es → infos ≡ map info_of es → i ≤ length infos → out ≡ padded (rows_of es) (length before)
rows_done entries infos before i rows out g past n is room q es e f most =
    let k : n ≡ length es = is ∙ ap length f ∙ length-map es info_of in
    let j : n ≡ i = omega arith in
    let t : take i es ≡ es = take_all i es (omega arith) in
    let d : take (n * ROW) rows ≡ rows_of es = ap (λ (m : ℕ). take (m * ROW) rows) j ∙ g.done es e f ∙ ap rows_of t in
    cleared rows (n * ROW) (length rows - n * ROW) out room refl q ∙ ap₂ (λ (l : List ℕ) (m : ℕ). padded l m) d g.size

-- ---- the numbers

pub results_done : (cap : Capacity) (a : AnalyzerState) (lists : List ℕ) (es : List Entry) → Holds cap a lists es → (n total : ℕ) → n ≡ length (flat es) → total ≡ min n (length lists) → (rows₀ rows lists' : List ℕ) → rows ≡ padded (rows_of es) (length rows₀) →
    lists' ≡ paste lists total (replicate (length lists - total) 0) (length lists - total) → Results es rows₀ lists rows lists' total
results_done cap a lists es h n total is least rows₀ rows lists' r q =
    let l : length (flat es) ≤ length lists = omega (arith, ap length (sym h.numbers), length-take (length (flat es)) lists) in
    let t : total ≡ length (flat es) = omega arith in
    let d : take total lists ≡ flat es = ap (λ (m : ℕ). take m lists) t ∙ h.numbers in
    record {
      rows_are = r;
      lists_are = cleared lists total (length lists - total) lists' (omega arith) refl q ∙ ap (λ (x : List ℕ). padded x (length lists)) d;
      total_is = t;
    }
