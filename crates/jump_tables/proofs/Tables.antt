-- That what is read of a table is what `rules` says of it.
use Rattle.std.proofs.Common.{◌≡◌, ℕ, suc, ◌+◌, ◌-◌, ◌*◌, ◌/◌, ◌%◌, ◌≤◌, ◌≢◌, refl, sym, ap, ◌∙◌, Bool, true, false, ◌&&◌, ◌||◌, not, List, [], ◌∷◌, length, take, Option, Some, None, unwrap_or, eqb, leb, ltb, arith}
use borrow.Author.Tests.{eq-eqb, ne_eqb, eqb-false, le-leb}
use Rattle.rules.specs.Choice.{if, if_true, if_false, Answer, ok, fault, limited, ◌>>=◌}
use Rattle.rules.specs.Ordered.{self, has, put, put_all}
use Rattle.rules.specs.Address.{address_of}
use Rattle.rules.specs.Image.{Image, Section, locate, section_at, holds_tables}
use Rattle.rules.specs.JumpTable.{Entries, take_entry, sized_entries, unsized_entries, inside, ascending, clamped, table_words, sized_table, unsized_table, table_of_size, first_size, known_size, jump_table_entries}
use Rattle.rules.proofs.Ordered.{length_put_new, length_put_old}
use Rattle.obj_image.specs.Lent.{Lent, image}
use Rattle.obj_info.specs.Info.{lent_of, image_of, tables_of, table_lent, table_image, some_nonzero}
use Rattle.obj_info.specs.declared.info.ObjInfo.{ObjInfo}
use Rattle.obj_info.specs.declared.info.TableInfo.{TableInfo}
use Rattle.obj_info.proofs.Tables.{locate_same, section_same, objects_same}
use Rattle.jump_tables.specs.declared.reading.Reading.{Reading}
use Rattle.jump_tables.specs.Readings.{begun, taken, sized_words, is_before, is_inside, unsized_words}
use Rattle.jump_tables.specs.Entries.{sized_reading, unsized_end, unsized_reading}

bind_cons : (t : ℕ) (more : Answer (List ℕ)) (g : List ℕ → Answer Entries) → ((more >>= λ l. ok (t ∷ l)) >>= g) ≡ (more >>= λ l. g (t ∷ l))
unfolding ◌>>=◌
bind_cons t (ok l) g = refl
bind_cons t (fault n) g = refl

bind_same : (more : Answer (List ℕ)) (f g : List ℕ → Answer Entries) → ((l : List ℕ) → f l ≡ g l) → (more >>= f) ≡ (more >>= g)
unfolding ◌>>=◌
bind_same (ok l) f g e = e l
bind_same (fault n) f g e = refl

-- one more
most : (t : ℕ) (l : List ℕ) → length (put self t l) ≤ suc (length l)
most t l = by (has self t l) refl
  where
    by : (b : Bool) → has self t l ≡ b → length (put self t l) ≤ suc (length l)
    by true h = omega (arith, length_put_old self t l h)
    by false h = omega (arith, length_put_new self t l h)

-- the reading with t taken
abbrev with_entry : ℕ → Reading → Reading
with_entry t s = record { entries = put self t s.entries; room = s.room - 1 }

-- as long as each word may still be taken, the entries have room
abbrev Fits : Reading → Type 0
Fits s = length s.entries + s.room ≤ 256

fits_with : (t : ℕ) (s : Reading) → Fits s → s.room ≢ 0 → Fits (with_entry t s)
fits_with t s h n = omega (arith, most t s.entries)

has_room : (t : ℕ) (s : Reading) → Fits s → s.room ≢ 0 → limited 256 (put self t s.entries) ≡ ok (put self t s.entries)
unfolding limited
has_room t s h n = if_true (le-leb _ _ (omega (arith, most t s.entries))) _ _

-- an entry before the rest, and what is made of all
module _ (v t : ℕ) (s : Reading) (fits : Fits s) (more : Answer (List ℕ)) (g : List ℕ → Answer Entries) (rest : Reading → Answer Reading) (f : Reading → Answer Entries) where
  pub entry_taken : (s.room ≢ 0 → (more >>= λ l. g (t ∷ l)) ≡ (rest (with_entry t s) >>= f)) → (take_entry t v s.room more >>= g) ≡ ((taken v t s >>= rest) >>= f)
  unfolding take_entry if ◌>>=◌
  entry_taken same = by (eqb (v % 4) 0) (eqb s.room 0) refl
    where
      some : Answer Reading
      some = limited 256 (put self t s.entries) >>= λ l. ok (record { entries = l; room = s.room - 1 })

      by : (a b : Bool) → eqb s.room 0 ≡ b → (if a (if b (fault 4) (more >>= λ l. ok (t ∷ l))) (fault 10) >>= g) ≡ ((if a (if b (fault 4) some) (fault 10) >>= rest) >>= f)
      by false b e = refl
      by true true e = refl
      by true false e =
          let n : s.room ≢ 0 = eqb-false _ _ e in
          bind_cons t more g ∙ same n ∙ sym (ap (λ (a : Answer (List ℕ)). ((a >>= λ l. ok (record { entries = l; room = s.room - 1 })) >>= rest) >>= f) (has_room t s fits n))

-- ---- with a size

sized_all : (im : Image) (f : List ℕ → Answer Entries) (vs : List ℕ) (s : Reading) → Fits s → (sized_entries im s.room vs >>= λ l. f (put_all self l s.entries)) ≡ (sized_words im vs s >>= λ r. f r.entries)
unfolding ◌>>=◌ if
sized_all im f [] s h = refl
sized_all im f (v ∷ vs) s h =
    by (eqb v 0) (eqb (locate im v) 0) (sized_all im f vs s h)
    (entry_taken v (locate im v) s h (sized_entries im (s.room - 1) vs) (λ l. f (put_all self l s.entries)) (sized_words im vs) (λ r. f r.entries) (λ n. sized_all im f vs (with_entry (locate im v) s) (fits_with (locate im v) s h n)))
  where
    took : Answer (List ℕ)
    took = take_entry (locate im v) v s.room (sized_entries im (s.room - 1) vs)

    by : (a b : Bool) → (sized_entries im s.room vs >>= λ l. f (put_all self l s.entries)) ≡ (sized_words im vs s >>= λ r. f r.entries) → (took >>= λ l. f (put_all self l s.entries)) ≡ ((taken v (locate im v) s >>= sized_words im vs) >>= λ r. f r.entries) →
        (if a (sized_entries im s.room vs) (if b (fault 9) took) >>= λ l. f (put_all self l s.entries)) ≡ ((if a (ok s) (if b (fault 9) (taken v (locate im v) s)) >>= sized_words im vs) >>= λ r. f r.entries)
    by true b same took = same
    by false true same took = refl
    by false false same took = took

pub sized_is : (im : Image) (sec : Section) (a n c : ℕ) → c ≡ clamped sec a n → sized_table im sec a n ≡ sized_reading im c (take (c / 4) (table_words sec a))
unfolding sized_table sized_reading
sized_is im sec a n c e =
    rw (← e) (sized_all im (λ l. if (eqb (c % 4) 0) (ok (record { taken = l; size = c })) (fault 10)) (take (c / 4) (table_words sec a)) begun (omega arith))

-- ---- without

module _ (im : Image) (first end : ℕ) (past : Option ℕ) (is_end : past ≡ some_nonzero end) where
  same_end : (t : ℕ) → (eqb end 0 || ltb t end) ≡ is_before past t
  unfolding if
  same_end t = rw is_end (by (eqb end 0))
    where
      by : (b : Bool) → (b || ltb t end) ≡ is_before (if b None (Some end)) t
      by true = refl
      by false = refl

  same_inside : (t : ℕ) → inside first end t ≡ (not (eqb t 0) && is_inside first past t)
  same_inside t = ap (λ (b : Bool). not (eqb t 0) && leb first t && b) (same_end t) ∙ grouped (not (eqb t 0)) (leb first t) (is_before past t)
    where
      grouped : (a b c : Bool) → (a && b && c) ≡ (a && (b && c))
      grouped true b c = refl
      grouped false b c = refl

  abbrev read_from : Reading → List ℕ → Answer Entries
  read_from s l = ok (record { taken = put_all self l s.entries; size = 4 * (256 - s.room + length l) })

  none_read : (s : Reading) → read_from s [] ≡ unsized_end s
  none_read s = let z : 256 - s.room + 0 ≡ 256 - s.room = omega arith in rw z refl

  unsized_all : (vs : List ℕ) (s : Reading) → Fits s → (unsized_entries im first end s.room vs >>= read_from s) ≡ (unsized_words im first past vs s >>= unsized_end)
  unfolding ◌>>=◌ if
  unsized_all [] s h = none_read s
  unsized_all (v ∷ vs) s h =
      rw (same_inside (locate im v))
      (by (not (eqb (locate im v) 0) && is_inside first past (locate im v))
      (entry_taken v (locate im v) s h (unsized_entries im first end (s.room - 1) vs) (read_from s) (unsized_words im first past vs) unsized_end
      (λ n. bind_same (unsized_entries im first end (s.room - 1) vs) _ _ (one_more (locate im v) s h n) ∙ unsized_all vs (with_entry (locate im v) s) (fits_with (locate im v) s h n))))
    where
      one_more : (t : ℕ) (s : Reading) → Fits s → s.room ≢ 0 → (l : List ℕ) → read_from s (t ∷ l) ≡ read_from (with_entry t s) l
      one_more t s h n l = let z : 256 - s.room + suc (length l) ≡ 256 - (s.room - 1) + length l = omega arith in rw z refl

      took : Answer (List ℕ)
      took = take_entry (locate im v) v s.room (unsized_entries im first end (s.room - 1) vs)

      by : (b : Bool) → (took >>= read_from s) ≡ ((taken v (locate im v) s >>= unsized_words im first past vs) >>= unsized_end) →
          (if b took (ok []) >>= read_from s) ≡ (if b (taken v (locate im v) s >>= unsized_words im first past vs) (ok s) >>= unsized_end)
      by true same = same
      by false same = none_read s

  pub unsized_is : (sec : Section) (a : ℕ) → unsized_table im sec a first end ≡ unsized_reading im first past (table_words sec a)
  unfolding unsized_table unsized_reading
  unsized_is sec a =
      bind_same (unsized_entries im first end 256 (table_words sec a)) _ _ (λ l. let z : length l ≡ 256 - 256 + length l = omega arith in ap (λ (n : ℕ). ok (record { taken = ascending l; size = 4 * n })) z)
      ∙ unsized_all (table_words sec a) begun (omega arith)

-- ---- the table at an address

pub size_is : (o : Option ℕ) (known given r : ℕ) → o ≡ some_nonzero known → r ≡ unwrap_or o given → r ≡ first_size known given
unfolding if
size_is o known given r e f = f ∙ rw e (by (eqb known 0))
  where
    by : (b : Bool) → unwrap_or (if b None (Some known)) given ≡ if b given known
    by true = refl
    by false = refl

module _ (im : Image) (t n first end : ℕ) (sec : Section) (is_sec : sec ≡ section_at im t) (held : Bool) (is_held : held ≡ holds_tables sec.kind) where
  kind_is : (c : Bool) → held ≡ c → holds_tables (section_at im t).kind ≡ c
  kind_is c e = ap (λ (s : Section). holds_tables s.kind) (sym is_sec) ∙ sym is_held ∙ e

  pub not_held : held ≡ false → ok (record { taken = []; size = 0 }) ≡ jump_table_entries im t n first end
  unfolding jump_table_entries
  not_held e = sym (if_false (kind_is false e) _ _)

  module _ (is : held ≡ true) (m : ℕ) (is_m : m ≡ first_size (known_size (address_of t) im.objects) n) (a : Answer Entries) where
    pub held_unsized : m ≡ 0 → (past : Option ℕ) → past ≡ some_nonzero end → (ws : List ℕ) → ws ≡ table_words sec (address_of t) → a ≡ unsized_reading im first past ws → a ≡ jump_table_entries im t n first end
    unfolding jump_table_entries table_of_size
    held_unsized z past is_past ws is_ws e =
        rw (if_true (kind_is true is) _ _, ← is_m, if_true (eq-eqb m 0 z) _ _, ← is_sec, unsized_is im first end past is_past sec (address_of t), ← is_ws) e

    pub held_sized : m ≢ 0 → (c : ℕ) → c ≡ clamped sec (address_of t) m → (ws : List ℕ) → ws ≡ take (c / 4) (table_words sec (address_of t)) → a ≡ sized_reading im c ws → a ≡ jump_table_entries im t n first end
    unfolding jump_table_entries table_of_size
    held_sized z c is_c ws is_ws e =
        rw (if_true (kind_is true is) _ _, ← is_m, if_false (ne_eqb m 0 z) _ _, ← is_sec, sized_is im sec (address_of t) m c is_c, ← is_ws) e

-- ---- by the lists that a table is read by

module _ (l : Lent) where
  sized_same : (room : ℕ) (vs : List ℕ) → sized_entries (image (tables_of l)) room vs ≡ sized_entries (image l) room vs
  sized_same room [] = refl
  sized_same room (v ∷ vs) = rw (locate_same l v, sized_same room vs, sized_same (room - 1) vs) refl

  unsized_same : (first end room : ℕ) (vs : List ℕ) → unsized_entries (image (tables_of l)) first end room vs ≡ unsized_entries (image l) first end room vs
  unsized_same first end room [] = refl
  unsized_same first end room (v ∷ vs) = rw (locate_same l v, unsized_same first end (room - 1) vs) refl

  same_sized : (sec : Section) (a n : ℕ) → sized_table (image (tables_of l)) sec a n ≡ sized_table (image l) sec a n
  unfolding sized_table
  same_sized sec a n = rw (sized_same 256 (take (clamped sec a n / 4) (table_words sec a))) refl

  same_unsized : (sec : Section) (a first end : ℕ) → unsized_table (image (tables_of l)) sec a first end ≡ unsized_table (image l) sec a first end
  unfolding unsized_table
  same_unsized sec a first end = rw (unsized_same first end 256 (table_words sec a)) refl

  same_size : (sec : Section) (a n first end : ℕ) → table_of_size (image (tables_of l)) sec a n first end ≡ table_of_size (image l) sec a n first end
  unfolding table_of_size
  same_size sec a n first end = rw (same_sized sec a n, same_unsized sec a first end) refl

  pub entries_same : (t n first end : ℕ) → jump_table_entries (image (tables_of l)) t n first end ≡ jump_table_entries (image l) t n first end
  unfolding jump_table_entries
  entries_same t n first end =
      rw (section_same l t, same_size (section_at (image l) t) (address_of t) (first_size (known_size (address_of t) (image (tables_of l)).objects) n) first end, objects_same l) refl

-- of what tables are read by, of an image
pub entries_by : (i : ObjInfo) (by : TableInfo) → table_lent by ≡ tables_of (lent_of i) → (t n first end : ℕ) → jump_table_entries (table_image by) t n first end ≡ jump_table_entries (image_of i) t n first end
entries_by i by e t n first end = ap (λ (l : Lent). jump_table_entries (image l) t n first end) e ∙ entries_same (lent_of i) t n first end
