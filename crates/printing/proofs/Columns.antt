-- The lines of a function's lists are those of the columns among its numbers.
use Rattle.std.proofs.Common.{◌≡◌, refl, sym, ap, ◌∙◌, List, [], ◌∷◌, ◌++◌, ℕ, ◌+◌, ◌*◌, take, drop, eqb, arith, append_assoc}
use lib.Seq.{drop-drop}
use borrow.Author.Tests.{eqb-true}
use Rattle.rules.specs.Choice.{by_if}
use Rattle.rules.specs.Text.{bytes}
use Rattle.rules.specs.Blocks.{block}
use Rattle.rules.specs.Slices.{Branches}
use Rattle.rules.specs.Lines.{Line, address, text, lines_B, lines_from, lines_C, lines_X, lines_J}
use Rattle.tables.specs.Groups.{way, add_way, grouped}
use Rattle.tables.specs.declared.multimap.Way.{Way}
use Rattle.result_lists.specs.Back.{join, table, slices_from}
use Rattle.printing.specs.Columns.{line, lines}
use Rattle.printing.specs.Rows.{row_from, numbers_long}
use Rattle.printing.specs.Told.{listed, Cut}
use Rattle.printing.specs.declared.line.Kind.TheVariants as kinds
use Rattle.printing.specs.declared.row.EntryRow.{EntryRow}
use Rattle.printing.specs.declared.row.Lists.{Lists}

pub text_append : (ls ms : List Line) → text (ls ++ ms) ≡ text ls ++ text ms
text_append [] ms = refl
text_append (l ∷ ls) ms = ap (λ (t : List ℕ). l ++ bytes "\n" ++ t) (text_append ls ms) ∙ sym (append_assoc (l ++ bytes "\n") (text ls) (text ms))

-- ---- one column after the other

blocks_are : (ps qs : List ℕ) → text (lines_B (join block ps qs)) ≡ lines kinds.Block ps qs
blocks_are [] qs = refl
blocks_are (p ∷ ps) [] = refl
blocks_are (p ∷ ps) (q ∷ qs) = ap (λ (t : List ℕ). line kinds.Block p q ++ t) (blocks_are ps qs)

references_are : (ps : List ℕ) → text (lines_X ps) ≡ lines kinds.Reference ps ps
references_are [] = refl
references_are (p ∷ ps) = ap (λ (t : List ℕ). line kinds.Reference p p ++ t) (references_are ps)

tables_are : (ps qs : List ℕ) → text (lines_J (join table ps qs)) ≡ lines kinds.Table ps qs
tables_are [] qs = refl
tables_are (p ∷ ps) [] = refl
tables_are (p ∷ ps) (q ∷ qs) = ap (λ (t : List ℕ). line kinds.Table p q ++ t) (tables_are ps qs)

-- a way on before the others
way_line : Way → Line
way_line p = bytes "C " ++ address p.from ++ bytes " " ++ address p.to

way_added : (p : Way) (g : List Branches) → lines_C (add_way p g) ≡ way_line p ∷ lines_C g
unfolding way_line
way_added p [] = refl
way_added p (w ∷ g) =
    by_if (λ (l : List Branches). lines_C l ≡ way_line p ∷ lines_C (w ∷ g)) (eqb p.from w.from)
    (λ e. ap (λ (f : ℕ). way_line p ∷ (lines_from f w.targets ++ lines_C g)) (eqb-true p.from w.from e))
    (λ _. refl)

branches_are : (ps qs : List ℕ) → text (lines_C (grouped (join way ps qs))) ≡ lines kinds.Way ps qs
unfolding way_line
branches_are [] qs = refl
branches_are (p ∷ ps) [] = refl
branches_are (p ∷ ps) (q ∷ qs) = ap text (way_added (way p q) (grouped (join way ps qs))) ∙ ap (λ (t : List ℕ). line kinds.Way p q ++ t) (branches_are ps qs)

-- ---- the columns of an entry's numbers

-- of the lists read back
pub listed_is : (r l : List ℕ) (s : Lists) → Cut (row_from r) l s → text (lines_B (slices_from r l).blocks) ++ text (lines_C (slices_from r l).branches) ++ text (lines_X (slices_from r l).function_references) ++ text (lines_J (slices_from r l).jump_table_references) ≡ listed s
listed_is r l s c =
    rw (c.starts_are, c.ends_are, c.froms_are, c.tos_are, c.references_are, c.addresses_are, c.sizes_are) (rw (blocks_are, branches_are, references_are, tables_are) refl)

-- what stands behind a column
past : (l rest rest' : List ℕ) (m n k : ℕ) → rest ≡ drop m l → rest' ≡ drop n rest → m + n ≡ k → rest' ≡ drop k l
past l rest rest' m n k a b e = b ∙ ap (drop n) a ∙ drop-drop n m l ∙ ap (λ i. drop i l) e

module _ (e : EntryRow) (l : List ℕ) (s : Lists) (rest₁ rest₂ rest₃ rest₄ rest₅ rest₆ rest₇ : List ℕ) where
  abbrev b : ℕ
  b = e.blocks

  abbrev w : ℕ
  w = e.branches

  abbrev f : ℕ
  f = e.function_references

  abbrev t : ℕ
  t = e.jump_tables

  -- as they are split off, one after the other
  pub cut_of : s.block_starts.now ≡ take b l → rest₁ ≡ drop b l → s.block_ends.now ≡ take b rest₁ → rest₂ ≡ drop b rest₁ → s.froms.now ≡ take w rest₂ → rest₃ ≡ drop w rest₂ → s.tos.now ≡ take w rest₃ → rest₄ ≡ drop w rest₃ → s.function_references.now ≡ take f rest₄ → rest₅ ≡ drop f rest₄ → s.table_addresses.now ≡ take t rest₅ → rest₆ ≡ drop t rest₅ → s.table_sizes.now ≡ take t rest₆ → rest₇ ≡ drop t rest₆ → s.behind.now ≡ drop e.possible_blocks rest₇ → Cut e l s
  cut_of c₁ r₁ c₂ r₂ c₃ r₃ c₄ r₄ c₅ r₅ c₆ r₆ c₇ r₇ r₈ =
      let t₂ : rest₂ ≡ drop (2 * b) l = past l rest₁ rest₂ b b (2 * b) r₁ r₂ (omega arith) in
      let t₃ : rest₃ ≡ drop (2 * b + w) l = past l rest₂ rest₃ (2 * b) w (2 * b + w) t₂ r₃ refl in
      let t₄ : rest₄ ≡ drop (2 * b + 2 * w) l = past l rest₃ rest₄ (2 * b + w) w (2 * b + 2 * w) t₃ r₄ (omega arith) in
      let t₅ : rest₅ ≡ drop (2 * b + 2 * w + f) l = past l rest₄ rest₅ (2 * b + 2 * w) f (2 * b + 2 * w + f) t₄ r₅ refl in
      let t₆ : rest₆ ≡ drop (2 * b + 2 * w + f + t) l = past l rest₅ rest₆ (2 * b + 2 * w + f) t (2 * b + 2 * w + f + t) t₅ r₆ refl in
      let t₇ : rest₇ ≡ drop (2 * b + 2 * w + f + 2 * t) l = past l rest₆ rest₇ (2 * b + 2 * w + f + t) t (2 * b + 2 * w + f + 2 * t) t₆ r₇ (omega arith) in
      record {
        starts_are = c₁;
        ends_are = c₂ ∙ ap (take b) r₁;
        froms_are = c₃ ∙ ap (take w) t₂;
        tos_are = c₄ ∙ ap (take w) t₃;
        references_are = c₅ ∙ ap (take f) t₄;
        addresses_are = c₆ ∙ ap (take t) t₅;
        sizes_are = c₇ ∙ ap (take t) t₆;
        behind_is = past l rest₇ s.behind.now (2 * b + 2 * w + f + 2 * t) e.possible_blocks (numbers_long e) t₇ r₈ refl;
      }
