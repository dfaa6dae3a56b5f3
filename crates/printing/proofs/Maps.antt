-- The entries read back from the result lists, and what is printed of them.
use Rattle.std.proofs.Common.{◌≡◌, refl, sym, ap, ap₂, ◌∙◌, ℕ, zero, suc, ◌+◌, ◌*◌, ◌/◌, ◌≤◌, ◌<◌, List, [], ◌∷◌, ◌++◌, length, take, drop, map, get_or, arith, append_assoc, length-append, drop-cons, add-one}
use mathlib.Core.List.{append-nil}
use lib.ListN.{take-append-drop}
use lib.Seq.{take_at, drop_at}
use Rattle.std.proofs.lemmas.List.{drop_all}
use Rattle.std.proofs.Math.Option.{Option, none, some}
use Rattle.std.specs.Simd.{first_chunks}
use Rattle.rules.specs.Choice.{ok, fault}
use Rattle.rules.specs.Slices.{Slices}
use Rattle.rules.specs.Known.{Entry}
use Rattle.rules.specs.Lines.{text, line_R, lines_entry, lines_map, lines}
use Rattle.analyzer.specs.Table.{entry_numbers, flat, AllRight}
use Rattle.result_lists.specs.Rows.{result_row, rows_of}
use Rattle.result_lists.specs.Back.{row_len, entry_from}
use Rattle.result_lists.proofs.Reading.{entry_back}
use Rattle.result_lists.proofs.Reading as reading
use Rattle.printing.specs.Printed.{laid, Room, Printed}
use Rattle.printing.specs.Rows.{row_from, numbers_long, entries_in, There, Begins, Tells, Telling}
use Rattle.printing.specs.Told.{Begun, printed_entry, Cut}
use Rattle.printing.specs.declared.line.Text.{Text}
use Rattle.printing.specs.declared.row.EntryRow.{EntryRow}
use Rattle.printing.specs.declared.row.Lists.{Lists}
use Rattle.printing.proofs.Printing.{printed_then, room_first, Going, going_on, going_ends}
use Rattle.printing.proofs.Columns.{text_append}
use Rattle.printing.proofs.Entries.{printed_is}
use Rattle.printing.proofs.Lengths.{map_short}

-- ---- the entries that the lists tell

begins_form : (l xs : List ℕ) → Begins l xs → xs ≡ l ++ drop (length l) xs
begins_form l xs b = sym (take-append-drop (length l) xs) ∙ ap (λ m. m ++ drop (length l) xs) b.same

begins_le : (l xs : List ℕ) → Begins l xs → length l ≤ length xs
begins_le l xs b = omega (arith, ap length (begins_form l xs b), length-append l (drop (length l) xs))

pub begins_of : (l z xs : List ℕ) → xs ≡ l ++ z → Begins l xs
begins_of l z xs e = record { same = ap (take (length l)) e ∙ take_at l z (length l) refl }

module _ (x : Entry) where
  ten : length (result_row x) ≡ 10
  ten = by x.slices refl
    where
      by : (o : Option Slices) → x.slices ≡ o → length (result_row x) ≡ 10
      by none q = rw q refl
      by (some s) q = rw q refl

  as_many : row_len (result_row x) ≡ length (entry_numbers x)
  as_many = by x.slices refl
    where
      by : (o : Option Slices) → x.slices ≡ o → row_len (result_row x) ≡ length (entry_numbers x)
      by none q = rw q refl
      by (some s) q = rw q (sym (reading.numbers_long s []))

  past : (y : List ℕ) → drop (row_len (result_row x)) (entry_numbers x ++ y) ≡ y
  past y = drop_at (entry_numbers x) y (row_len (result_row x)) (sym as_many)

pub rows_long : (es : List Entry) → length (rows_of es) ≡ 10 * length es
rows_long [] = refl
rows_long (x ∷ es) = omega (arith, length-append (result_row x) (rows_of es), ten x, rows_long es)

rows_cut : (es : List Entry) (z : List ℕ) (k : ℕ) → length es ≤ k → take (length es) (first_chunks 10 k (rows_of es ++ z)) ≡ map result_row es
rows_cut [] z k h = refl
rows_cut (x ∷ es) z zero h = absurd (omega arith)
rows_cut (x ∷ es) z (suc k) h =
    rw (append_assoc (result_row x) (rows_of es) z)
    (ap₂ (λ (r : List ℕ) (rows : List (List ℕ)). r ∷ rows) (take_at (result_row x) (rows_of es ++ z) 10 (ten x))
    (ap (λ (r : List ℕ). take (length es) (first_chunks 10 k r)) (drop_at (result_row x) (rows_of es ++ z) 10 (ten x)) ∙ rows_cut es z k (omega arith)))

all_there : (es : List Entry) (y : List ℕ) → There (map result_row es) (flat es ++ y)
all_there [] y = tt
all_there (x ∷ es) y =
    rw (append_assoc (entry_numbers x) (flat es) y)
    (omega (arith, as_many x, length-append (entry_numbers x) (flat es ++ y)), rw (past x (flat es ++ y)) (all_there es y))

all_back : (es : List Entry) (y : List ℕ) → AllRight es → entries_in (map result_row es) (flat es ++ y) ≡ es
all_back [] y r = refl
all_back (x ∷ es) y r =
    rw (append_assoc (entry_numbers x) (flat es) y)
    (ap₂ (λ (e : Entry) (l : List Entry). e ∷ l) (ap (λ z. entry_from z (entry_numbers x ++ (flat es ++ y))) (sym (append-nil (result_row x))) ∙ entry_back x [] (flat es ++ y) r.0)
    (ap (entries_in (map result_row es)) (past x (flat es ++ y)) ∙ all_back es y r.1))

module _ (n : ℕ) (rows lists : List ℕ) (es : List Entry) (t : Tells n rows lists es) where
  pub few : n ≤ length rows / 10
  few = omega (arith, t.count, begins_le (rows_of es) rows t.rows_are, rows_long es)

  module _ (c : List (List ℕ)) (cut : c ≡ take n (first_chunks 10 (length rows / 10) rows)) where
    rows_read : c ≡ map result_row es
    rows_read =
        cut ∙ ap₂ (λ (m : ℕ) (r : List ℕ). take m (first_chunks 10 (length rows / 10) r)) (sym t.count) (begins_form (rows_of es) rows t.rows_are)
        ∙ rows_cut es (drop (length (rows_of es)) rows) (length rows / 10) (omega (arith, few, t.count))

    pub there : There c lists
    there = rw (rows_read, begins_form (flat es) lists t.numbers_are) (all_there es (drop (length (flat es)) lists))

    pub entries_are : entries_in c lists ≡ es
    entries_are = ap₂ entries_in rows_read (begins_form (flat es) lists t.numbers_are) ∙ all_back es (drop (length (flat es)) lists) t.right

    pub short : length (text (lines_map (entries_in c lists))) ≤ 46 * n + 11 * length lists
    short = rw entries_are (omega (arith, map_short es, t.count, begins_le (flat es) lists t.numbers_are))

-- ---- the loop over them

-- what is printed of the entries that are left makes the whole
pub record Left (rows : List (List ℕ)) (numbers whole : List ℕ) (first t : Text) : Type 0 where
  pub there : There rows numbers
  pub going : Going (text (lines_map (entries_in rows numbers))) whole first t

module _ (rows : List (List ℕ)) (i : ℕ) (numbers whole : List ℕ) (first t : Text) (l : Left (drop i rows) numbers whole first t) where
  pub left_ends : length rows ≤ i → Printed whole first t
  left_ends h = let z : drop i rows ≡ [] = drop_all i rows h in going_ends (rw z at l.going)

  module _ (d : List ℕ) (lt : i < length rows) where
    abbrev r : List ℕ
    r = get_or rows i d

    one_more : Left (r ∷ drop (i + 1) rows) numbers whole first t
    one_more = let q : drop i rows ≡ r ∷ drop (i + 1) rows = rw add-one (drop-cons rows i d lt) in rw q at l

    -- the entry whose row it is, and its numbers
    module _ (e : EntryRow) (is : e ≡ row_from r) where
      module _ (s : Lists) (c : Cut e numbers s) where
        split : Going (printed_entry e s ++ text (lines_map (entries_in (drop (i + 1) rows) (drop (row_len r) numbers)))) whole first t
        split =
            let q : text (lines_entry (entry_from r numbers)) ≡ printed_entry e s = rw is (printed_is r numbers s (rw is at c)) in
            rw (text_append (lines_entry (entry_from r numbers)) _, q) at one_more.going

        pub first_room : Room (printed_entry e s) t
        first_room = room_first _ _ _ split.room

        behind_is : s.behind.now ≡ drop (row_len r) numbers
        behind_is = c.behind_is ∙ ap (λ e. drop (numbers_long e) numbers) is

        pub left_next : (m : Text) → Printed (printed_entry e s) t m → Left (drop (i + 1) rows) s.behind.now whole first m
        left_next m pr = rw behind_is (record { there = one_more.there.1; going = going_on split pr })

-- ---- the whole text

-- what is printed from the front of a slice, which is `out'` once its text is let go
begun : (l out out' : List ℕ) (n : ℕ) (t t' : Text) → t.out.now ≡ out → t.len ≡ 0 → out' ≡ t'.out.now → n ≡ t'.len → Printed l t t' → Begun l out out' n
begun l out out' n t t' o z is len p =
    let q : 0 + length l ≡ n = omega (arith, p.past) in
    record {
      count = omega arith;
      text = is ∙ p.same ∙ ap₂ (λ (out : List ℕ) (at : ℕ). laid out at l) o z ∙ ap (λ (i : ℕ). l ++ drop i out) q;
      size = ap length is ∙ p.size ∙ ap length o;
    }

module _ (out : List ℕ) (t : Text) (o : t.out.now ≡ out) (z : t.len ≡ 0) where
  pub answer_room : (n : ℕ) → 5 ≤ length out → Room (line_R n ++ (10 ∷ [])) t
  unfolding line_R
  answer_room n h = record { fits = omega (arith, ap length o) }

  module _ (out' : List ℕ) (k : ℕ) (t' : Text) (is : out' ≡ t'.out.now) (len : k ≡ t'.len) where
    pub refusal_begun : (n : ℕ) → Printed (line_R n ++ (10 ∷ [])) t t' → Begun (text (lines (fault n))) out out' k
    unfolding lines line_R
    refusal_begun n p = begun _ out out' k t t' o z is len p

  module _ (n : ℕ) (rows lists : List ℕ) (h : 6 + 46 * n + 11 * length lists ≤ length out) (c : List (List ℕ)) (cut : c ≡ take n (first_chunks 10 (length rows / 10) rows)) (m : Text) (first : Printed (line_R 0 ++ (10 ∷ [])) t m) where
    pub map_room : Telling n rows lists → Room (text (lines_map (entries_in c lists))) m
    unfolding line_R
    map_room s = record { fits = omega (arith, first.past, first.size, ap length o, short n rows lists s.entries s.tells c cut) }

    pub map_begun : (out' : List ℕ) (k : ℕ) (t' : Text) → out' ≡ t'.out.now → k ≡ t'.len → Printed (text (lines_map (entries_in c lists))) m t' → (es : List Entry) → Tells n rows lists es → Begun (text (lines (ok es))) out out' k
    unfolding lines
    map_begun out' k t' is len pr es s = begun _ out out' k t t' o z is len (rw (entries_are n rows lists es s c cut) at (printed_then first pr))
