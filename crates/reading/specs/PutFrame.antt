-- A frame put into the lists that stand for an image (`Lent` of obj_image), or none where it does not belong there.
--
-- Nothing is checked here but what the check of the lists could not see. A row is put as it is read, and breaks its rule where the frames
-- do: a jump or a table that no frame 03 or 04 follows has the address 0, which lies in no section (2); a third branch makes the second
-- way one that there is none of (2); a second entry point makes a list of two (3). A list that is longer than its rule allows stays as it
-- is, since its answer is known.
use Rattle.std.specs.Prelude.{ℕ, List, [], ◌∷◌, leb, eqb, length}
use Rattle.std.specs.Prelude.{Option, None, Some}
use Rattle.rules.specs.Choice.{if}
use Rattle.obj_image.specs.Lent.{Lent, lent}
use Rattle.reading.specs.declared.line.Frame.{Frame}
use Rattle.reading.specs.declared.line.Frame.TheVariants.{Section as section, Word as word, CodeWord as code_word, Target as target, Table as table}
use Rattle.reading.specs.declared.line.Frame.TheVariants.{Branch as branch, Function as function, Object as object, Skip as skip, Entry as entry}
use Rattle.reading.specs.Rows.{add_row}
use Rattle.reading.specs.LastRows.{last_kind, add_word, set_target, set_table, add_branch}

-- how long each lent list is
pub record Room : Type 0 where
  pub sections : ℕ
  pub bytes : ℕ
  pub outcomes : ℕ
  pub functions : ℕ
  pub objects : ℕ
  pub skips : ℕ
  pub entry : ℕ

-- what comes of a result, if there is one
unfoldable pub onward : {A B : Type 0} → (A → B) → Option A → Option B
onward f None = None
onward f (Some a) = Some (f a)

-- another list in the place of one
module _ (l : Lent) where
  abbrev pub in_sections : List ℕ → Lent
  in_sections x = lent x l.bytes l.outcomes l.functions l.objects l.skips l.entry

  abbrev pub in_outcomes : List ℕ → Lent
  in_outcomes x = lent l.sections l.bytes x l.functions l.objects l.skips l.entry

  abbrev pub in_functions : List ℕ → Lent
  in_functions x = lent l.sections l.bytes l.outcomes x l.objects l.skips l.entry

  abbrev pub in_objects : List ℕ → Lent
  in_objects x = lent l.sections l.bytes l.outcomes l.functions x l.skips l.entry

  abbrev pub in_skips : List ℕ → Lent
  in_skips x = lent l.sections l.bytes l.outcomes l.functions l.objects x l.entry

  abbrev pub in_entry : List ℕ → Lent
  in_entry x = lent l.sections l.bytes l.outcomes l.functions l.objects l.skips x

  abbrev pub in_both : (List ℕ × List ℕ) → Lent
  in_both x = lent x.0 x.1 l.outcomes l.functions l.objects l.skips l.entry

-- a word of a section of this kind, 1 code, 2 another
abbrev pub put_word : Room → ℕ → ℕ → Lent → Option Lent
put_word m kind w l =
    if (eqb (last_kind l.sections) kind) (onward (in_both l) (add_word m.bytes w l.sections l.bytes)) None

-- an outcome, after its word; "Code is at most 1,024 words here"
abbrev pub put_outcome : Room → ℕ → ℕ → Option Lent → Option Lent
put_outcome m kind mark None = None
put_outcome m kind mark (Some l) =
    if (leb (length l.outcomes) 6138)
    (onward (in_outcomes l) (add_row 6138 m.outcomes (kind ∷ mark ∷ 0 ∷ 0 ∷ 0 ∷ 0 ∷ []) l.outcomes))
    None

unfoldable pub put_frame : Room → Frame → Lent → Option Lent
put_frame m (section k b s) l = onward (in_sections l) (add_row 32 m.sections (k ∷ b ∷ s ∷ 0 ∷ []) l.sections)
put_frame m (word w) l = put_word m 2 w l
put_frame m (code_word w k mark) l = put_outcome m k mark (put_word m 1 w l)
put_frame m (target a) l = onward (in_outcomes l) (set_target a l.outcomes)
put_frame m (table a s) l = onward (in_outcomes l) (set_table a s l.outcomes)
put_frame m (branch k t a) l = onward (in_outcomes l) (add_branch k t a l.outcomes)
put_frame m (function a s k) l = onward (in_functions l) (add_row 3072 m.functions (a ∷ s ∷ k ∷ []) l.functions)
put_frame m (object a s k) l = onward (in_objects l) (add_row 3072 m.objects (a ∷ s ∷ k ∷ []) l.objects)
put_frame m (skip a b) l = onward (in_skips l) (add_row 128 m.skips (a ∷ b ∷ []) l.skips)
put_frame m (entry a) l = onward (in_entry l) (add_row 1 m.entry (a ∷ []) l.entry)

-- of a line that is perhaps no frame
unfoldable pub put_line : Room → Option Frame → Lent → Option Lent
put_line m None l = None
put_line m (Some f) l = put_frame m f l
