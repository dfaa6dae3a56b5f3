-- The lines of one entry, from its row and its numbers.
use Rattle.std.proofs.Common.{◌≡◌, refl, sym, ap, ◌∙◌, Bool, true, false, ◌&&◌, not, eqb, ℕ, List, [], ◌∷◌, ◌++◌, append_assoc}
use Rattle.std.proofs.Math.Option.{Option, none, some}
use Rattle.rules.specs.Choice.{if, if_true, if_false}
use Rattle.rules.specs.Text.{bytes}
use Rattle.rules.specs.Slices.{Slices}
use Rattle.rules.specs.Known.{Entry, is_some, is_function}
use Rattle.rules.specs.Lines.{address, address_or_dash, flag, text, line_F, lines_B, lines_C, lines_X, lines_J, lines_function, lines_entry}
use Rattle.rules.proofs.Tests.{and_right}
use Rattle.result_lists.specs.Back.{set_in, slices_from, entry_from}
use Rattle.printing.specs.Columns.{tagged, line, function_line}
use Rattle.printing.specs.Rows.{row_from}
use Rattle.printing.specs.Told.{of_function, listed, printed_entry, Cut}
use Rattle.printing.specs.declared.line.Kind.TheVariants.{SetAside}
use Rattle.printing.specs.declared.row.EntryRow.{EntryRow}
use Rattle.printing.specs.declared.row.Lists.{Lists}
use Rattle.printing.proofs.Columns.{text_append, listed_is}

-- the line of a function, put together otherwise
regrouped : (h a b f : List ℕ) → h ++ (32 ∷ []) ++ a ++ (32 ∷ []) ++ b ++ (32 ∷ []) ++ f ++ (10 ∷ []) ≡ h ++ (32 ∷ a) ++ (32 ∷ b) ++ ((32 ∷ f) ++ (10 ∷ []))
regrouped h a b f = simp append_assoc

has_lists : (b : Bool) (s : Slices) → is_some (if b (some s) none) ≡ b
unfolding if
has_lists true s = refl
has_lists false s = refl

module _ (e : EntryRow) (p : Lists) (b : Bool) (is : b ≡ of_function e) where
  pub printed_function : b ≡ true → printed_entry e p ≡ function_line e ++ listed p
  unfolding printed_entry
  printed_function t = if_true (sym is ∙ t) _ _

  pub printed_aside : b ≡ false → printed_entry e p ≡ line SetAside e.entry 0
  unfolding printed_entry
  printed_aside t = if_false (sym is ∙ t) _ _

module _ (r l : List ℕ) where
  abbrev e : EntryRow
  e = row_from r

  abbrev x : Entry
  x = entry_from r l

  abbrev s : Slices
  s = slices_from r l

  tested : is_function x ≡ of_function e
  tested = ap (λ b. set_in e.flags 1 && not (eqb e.end 0) && b) (has_lists (set_in e.flags 2) s)

  first_line : line_F x s ++ bytes "\n" ≡ function_line e
  unfolding line_F
  first_line =
      regrouped (tagged 70 e.entry ++ (32 ∷ address e.end)) (address_or_dash e.prologue) (address_or_dash e.epilogue)
      (flag (set_in e.flags 4) ∷ flag (set_in e.flags 8) ∷ flag (set_in e.flags 16) ∷ [])

  lists_lines : text (lines_B s.blocks ++ lines_C s.branches ++ lines_X s.function_references ++ lines_J s.jump_table_references) ≡ text (lines_B s.blocks) ++ text (lines_C s.branches) ++ text (lines_X s.function_references) ++ text (lines_J s.jump_table_references)
  lists_lines = simp text_append

  module _ (p : Lists) (c : Cut e l p) where
    of_a_function : of_function e ≡ true → text (lines_entry x) ≡ function_line e ++ listed p
    unfolding lines_entry
    of_a_function t =
        let has : set_in e.flags 2 ≡ true = and_right (set_in e.flags 1 && not (eqb e.end 0)) (set_in e.flags 2) t in
        ap text (if_true (tested ∙ t) (lines_function x x.slices) ((bytes "N " ++ address x.entry) ∷ []))
        ∙ ap (λ (o : Option Slices). text (lines_function x o)) (if_true has (some s) none)
        ∙ ap (λ (t : List ℕ). line_F x s ++ bytes "\n" ++ t) (lists_lines ∙ listed_is r l p c)
        ∙ ap (λ (t : List ℕ). t ++ listed p) first_line

    set_aside : of_function e ≡ false → text (lines_entry x) ≡ line SetAside e.entry 0
    unfolding lines_entry
    set_aside t = ap text (if_false (tested ∙ t) (lines_function x x.slices) ((bytes "N " ++ address x.entry) ∷ []))

    pub printed_is : text (lines_entry x) ≡ printed_entry e p
    printed_is = by (of_function e) refl
      where
        by : (b : Bool) → of_function e ≡ b → text (lines_entry x) ≡ printed_entry e p
        by true t = of_a_function t ∙ sym (printed_function e p true (sym t) refl)
        by false t = set_aside t ∙ sym (printed_aside e p false (sym t) refl)
