-- How long the text of a map is at most.
use mathlib.Core.Path.{◌≡◌, ap, ◌∙◌}
use mathlib.Core.List.{List, [], ◌∷◌, ◌++◌}
use mathlib.Core.Option.{Option, none, some}
use Prim.Native.Nat.{ℕ, ◌+◌, ◌*◌, ◌≤◌}
use native.Mathlib.Omega.{arith}
use lib.Dec.{eqb}
use lib.ListN.{length, length-append}
use Rattle.rules.specs.Choice.{by_if}
use Rattle.rules.specs.Text.{bytes}
use Rattle.rules.specs.Blocks.{Block}
use Rattle.rules.specs.Slices.{Slices, Branches, Table, count_branches}
use Rattle.rules.specs.Known.{Entry, is_function}
use Rattle.rules.specs.Lines.{Line, address_or_dash, flag, text, line_F, lines_B, lines_from, lines_C, lines_X, lines_J, lines_function, lines_entry, lines_map}
use Rattle.analyzer.specs.Table.{numbers_in, entry_numbers, flat}
use Rattle.result_lists.proofs.Reading.{numbers_long}
use Rattle.printing.proofs.Columns.{text_append}

dash_short : (k : ℕ) → length (address_or_dash k) ≤ 8
dash_short k = by_if (λ (l : List ℕ). length l ≤ 8) (eqb k 0) (λ _. omega arith) (λ _. omega arith)

blocks_short : (l : List Block) → length (text (lines_B l)) ≤ 20 * length l
blocks_short [] = omega arith
blocks_short (b ∷ l) =
    let d : List ℕ = address_or_dash b.end in
    omega (arith, length-append (d ++ bytes "\n") (text (lines_B l)), length-append d (bytes "\n"), dash_short b.end, blocks_short l)

from_short : (k : ℕ) (l : List ℕ) → length (text (lines_from k l)) ≤ 20 * length l
from_short k [] = omega arith
from_short k (t ∷ l) = omega (arith, from_short k l)

branches_short : (l : List Branches) → length (text (lines_C l)) ≤ 20 * count_branches l
branches_short [] = omega arith
branches_short (w ∷ l) =
    omega (arith, ap length (text_append (lines_from w.from w.targets) (lines_C l)), length-append (text (lines_from w.from w.targets)) (text (lines_C l)), from_short w.from w.targets, branches_short l)

references_short : (l : List ℕ) → length (text (lines_X l)) ≤ 11 * length l
references_short [] = omega arith
references_short (k ∷ l) = omega (arith, references_short l)

tables_short : (l : List Table) → length (text (lines_J l)) ≤ 20 * length l
tables_short [] = omega arith
tables_short (t ∷ l) = omega (arith, tables_short l)

head_short : (x : Entry) (s : Slices) → length (line_F x s) ≤ 41
unfolding line_F
head_short x s =
    let p : List ℕ = address_or_dash s.prologue in
    let e : List ℕ = address_or_dash s.epilogue in
    let f : List ℕ = flag s.conditional_blr ∷ flag s.rfi ∷ flag s.r1_load ∷ [] in
    omega (arith, length-append p (bytes " "), length-append (p ++ bytes " ") e, length-append (p ++ bytes " " ++ e) (bytes " "), length-append (p ++ bytes " " ++ e ++ bytes " ") f, dash_short s.prologue, dash_short s.epilogue)

four : (a b c d : List Line) → length (text (a ++ b ++ c ++ d)) ≡ length (text a) + length (text b) + length (text c) + length (text d)
four a b c d =
    ap length (text_append (a ++ b ++ c) d ∙ ap (λ (t : List ℕ). t ++ text d) (text_append (a ++ b) c ∙ ap (λ (t : List ℕ). t ++ text c) (text_append a b)))
    ∙ length-append (text a ++ text b ++ text c) (text d)
    ∙ ap (λ (i : ℕ). i + length (text d)) (length-append (text a ++ text b) (text c) ∙ ap (λ (i : ℕ). i + length (text c)) (length-append (text a) (text b)))

function_short : (x : Entry) (o : Option Slices) → length (text (lines_function x o)) ≤ 46 + 11 * length (numbers_in o)
function_short x none = omega arith
function_short x (some s) =
    let e : length (text (lines_function x (some s))) ≡ length (line_F x s ++ bytes "\n") + length (text (lines_B s.blocks ++ lines_C s.branches ++ lines_X s.function_references ++ lines_J s.jump_table_references)) =
    length-append (line_F x s ++ bytes "\n") (text (lines_B s.blocks ++ lines_C s.branches ++ lines_X s.function_references ++ lines_J s.jump_table_references))
    in
    let n : length (line_F x s ++ bytes "\n") ≡ length (line_F x s) + 1 = length-append (line_F x s) (bytes "\n") in
    omega (arith, e, n, four (lines_B s.blocks) (lines_C s.branches) (lines_X s.function_references) (lines_J s.jump_table_references), head_short x s, blocks_short s.blocks, branches_short s.branches, references_short s.function_references, tables_short s.jump_table_references, numbers_long s [])

entry_short : (x : Entry) → length (text (lines_entry x)) ≤ 46 + 11 * length (entry_numbers x)
unfolding lines_entry
entry_short x =
    by_if (λ (l : List Line). length (text l) ≤ 46 + 11 * length (entry_numbers x)) (is_function x) (λ _. function_short x x.slices) (λ _. omega arith)

pub map_short : (es : List Entry) → length (text (lines_map es)) ≤ 46 * length es + 11 * length (flat es)
map_short [] = omega arith
map_short (x ∷ es) =
    let a : length (text (lines_entry x ++ lines_map es)) ≡ length (text (lines_entry x)) + length (text (lines_map es)) =
    ap length (text_append (lines_entry x) (lines_map es)) ∙ length-append (text (lines_entry x)) (text (lines_map es))
    in
    let b : length (entry_numbers x ++ flat es) ≡ length (entry_numbers x) + length (flat es) = length-append (entry_numbers x) (flat es) in
    omega (arith, entry_short x, map_short es)
