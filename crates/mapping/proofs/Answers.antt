-- What is printed of an answer, and of the lists that a text came to.
use Rattle.std.proofs.Common.{◌≡◌, refl, sym, ap, true, false, List, [], ◌∷◌, ◌⊎◌, inl, inr, ℕ, ◌+◌, ◌*◌, ◌-◌, ◌/◌, ◌<◌, ◌≤◌, arith, length, take, drop, replicate, length-append}
use Rattle.std.proofs.lemmas.List.{length-replicate}
use Rattle.std.specs.Prelude.{Result, Ok, Err}
use borrow.Author.Tests.{lt-ltb, le-ltb}
use Rattle.rules.specs.Choice.{if, if_true, if_false, Answer, ok, fault}
use Rattle.rules.specs.Given.{Given}
use Rattle.rules.specs.Check.{check}
use Rattle.rules.specs.Known.{Entry}
use Rattle.rules.specs.Map.{Capacity}
use Rattle.rules.specs.Run.{run}
use Rattle.rules.specs.Lines.{text, lines}
use Rattle.rules.proofs.Faults.{Number}
use Rattle.rules.proofs.Runs.{check_most, run_numbers}
use Rattle.obj_image.specs.Lent.{lent, given}
use Rattle.faults.specs.declared.Fault.{Fault}
use Rattle.faults.specs.Number.{number_of}
use Rattle.analyzer.specs.Table.{flat}
use Rattle.result_lists.specs.Rows.{rows_of}
use Rattle.reading.specs.View.{view, room}
use Rattle.reading.specs.declared.state.Reading.{Reading}
use Rattle.reading.specs.Texts.{TextRead}
use Rattle.printing.specs.Rows.{Tells, Telling}
use Rattle.printing.specs.Told.{Begun}
use Rattle.printing.proofs.Maps.{begins_of, rows_long}
use Rattle.detection.specs.Maps.{room_of, Reply, reply_of, Told}
use Rattle.detection.specs.declared.MapSize.{MapSize}
use Rattle.detection.proofs.Whole.{number_some}
use Rattle.mapping.specs.Answers.{answer, map_text, image_room, map_room, text_room, fmap_text, Shows, Showing, Sized}

-- ---- an answer printed

module _ (rows lists : List ℕ) where
  pub telling : (size : MapSize) → Showing (Ok size) rows lists → Telling size.entries rows lists
  telling size s = by s.of_run s.shows
    where
      by : (a : Answer (List Entry)) → Shows a (Ok size) rows lists → Telling size.entries rows lists
      by (ok es) t = record { entries = es; tells = t }
      by (fault n) t = absurd t

  pub number_low : (e : Fault) → Showing (Err e) rows lists → number_of e < 100
  number_low e s = by s.of_run s.shows
    where
      by : (a : Answer (List Entry)) → Shows a (Err e) rows lists → number_of e < 100
      by (ok es) t = absurd t
      by (fault n) t = omega (arith, t.0, t.1)

  module _ (out out' : List ℕ) (r : ℕ) where
    pub map_shown : (size : MapSize) → ((es : List Entry) → Tells size.entries rows lists es → Begun (text (lines (ok es))) out out' r) → (a : Answer (List Entry)) → Shows a (Ok size) rows lists → Begun (text (lines a)) out out' r
    map_shown size b (ok es) s = b es s
    map_shown size b (fault n) s = absurd s

    pub refusal_shown : (e : Fault) (n : ℕ) → n ≡ number_of e → Begun (text (lines (fault n))) out out' r → (a : Answer (List Entry)) → Shows a (Err e) rows lists → Begun (text (lines a)) out out' r
    refusal_shown e n is b (ok es) s = absurd s
    refusal_shown e n is b (fault m) s = rw (is, s.0) at b

-- ---- the answer of a run

abbrev number_in : Reply → ℕ
number_in r = r.number

abbrev entries_in : Reply → ℕ
entries_in r = r.entries

module _ (g : Given) (cap : Capacity) where
  low : (n : ℕ) → run g cap ≡ fault n → (1 ≤ n) × (n < 100)
  low n h = by (run_numbers g cap n h)
    where
      by : ((n ≡ check g) × (1 ≤ n)) ⊎ ((check g ≡ 0) × Number n) → (1 ≤ n) × (n < 100)
      by (inl p) = (p.1, omega (arith, p.0, check_most g))
      by (inr p) = (omega (arith, p.1.0), omega (arith, p.1.1))

module _ (rows₀ lists₀ rows lists : List ℕ) where
  told_shows_at : (g : Given) (cap : Capacity) (a : Answer (List Entry)) → run g cap ≡ a → (r : Result MapSize Fault) → Told a rows₀ lists₀ rows lists (reply_of r) → Shows a r rows lists
  told_shows_at g cap (ok es) q (Ok size) t =
      record {
        count = sym (ap entries_in t.answers.0);
        rows_are = begins_of (rows_of es) _ rows t.answers.1;
        numbers_are = begins_of (flat es) _ lists t.answers.2;
        right = t.right;
      }
  told_shows_at g cap (ok es) q (Err e) t = number_some e (ap number_in t.answers.0)
  told_shows_at g cap (fault n) q (Ok size) t = let z : 0 ≡ n = ap number_in t.answers.0 in absurd (omega (arith, (low g cap n q).0))
  told_shows_at g cap (fault n) q (Err e) t = (ap number_in t.answers.0, (low g cap n q).1)

  module _ (r : Result MapSize Fault) where
    pub told_shows : (g : Given) (cap : Capacity) → Told (run g cap) rows₀ lists₀ rows lists (reply_of r) → Shows (run g cap) r rows lists
    told_shows g cap t = told_shows_at g cap (run g cap) refl r t

    pub told_showing : (g : Given) (cap : Capacity) → Told (run g cap) rows₀ lists₀ rows lists (reply_of r) → Showing r rows lists
    told_showing g cap t = record { of_run = run g cap; shows = told_shows g cap t }

    -- no more entries than the rows have room for
    entries_few : (a : Answer (List Entry)) → Told a rows₀ lists₀ rows lists (reply_of r) → length rows ≡ length rows₀ → (reply_of r).entries ≤ length rows₀ / 10
    entries_few (ok es) t k =
        omega (arith, ap entries_in t.answers.0, ap length t.answers.1, length-append (rows_of es) (replicate (length rows₀ - length (rows_of es)) 0), rows_long es)
    entries_few (fault n) t k = omega (arith, ap entries_in t.answers.0)

    pub told_room : (a : Answer (List Entry)) (size : ℕ) → Told a rows₀ lists₀ rows lists (reply_of r) → length rows ≡ length rows₀ → length lists ≡ length lists₀ → 6 + 46 * (length rows₀ / 10) + 11 * length lists₀ ≤ size → 6 + 46 * (reply_of r).entries + 11 * length lists ≤ size
    told_room a size t k l h = omega (arith, entries_few a t k)

-- ---- the lists that a text came to

module _ (q : Reading) (s b o f j k e : List ℕ) (cap : Capacity) (out out' : List ℕ) (r : ℕ) where
  pub read_answered : q.ok ≡ true → Begun (text (lines (run (given (lent (take q.sections s) (take q.bytes b) (take q.outcomes o) (take q.functions f) (take q.objects j) (take q.skips k) (take q.entry e))) cap))) out out' r → Begun (text (lines (answer (view q s b o f j k e) cap))) out out' r
  unfolding view if
  read_answered h p = rw h p

  pub not_read : q.ok ≡ false → Begun (text (lines (fault 1))) out out' r → Begun (text (lines (answer (view q s b o f j k e) cap))) out out' r
  unfolding view if
  not_read h p = rw h p

pub text_mapped : (t : List ℕ) (q : Reading) (s s' b b' o o' f f' j j' k k' e e' : List ℕ) (cap : Capacity) (out out' : List ℕ) (r : ℕ) → TextRead t q s s' b b' o o' f f' j j' k k' e e' → Begun (text (lines (answer (view q s' b' o' f' j' k' e') cap))) out out' r → Begun (map_text (room s b o f j k e) cap t) out out' r
unfolding map_text
text_mapped t q s s' b b' o o' f f' j j' k k' e e' cap out out' r x p = rw x.same at p

-- ---- the room that `fmap` has

module _ (s b o f j k e rows lists out : List ℕ) (z : Sized s b o f j k e rows lists out) where
  pub room_enough : 6 + 46 * (length rows / 10) + 11 * length lists ≤ length out
  room_enough = omega (arith, z.size_rows, z.size_lists, z.size_out)

  ten : length rows / 10 ≡ 1024
  ten = omega (arith, z.size_rows)

  pub in_room : (t out' : List ℕ) (r : ℕ) → Begun (map_text (room s b o f j k e) (room_of rows lists) t) out out' r → Begun (map_text image_room map_room t) out out' r
  in_room t out' r p = rw (z.size_s, z.size_b, z.size_o, z.size_f, z.size_j, z.size_k, z.size_e, ten, z.size_lists) at p

pub zeros_sized : (out : List ℕ) → length out ≡ 1489000 → Sized (replicate 36 0) (replicate 393216 0) (replicate 6144 0) (replicate 3075 0) (replicate 3075 0) (replicate 130 0) (replicate 2 0) (replicate 10240 0) (replicate 131072 0) out
zeros_sized out h =
    record {
      size_s = length-replicate {A = ℕ} 36 0;
      size_b = length-replicate {A = ℕ} 393216 0;
      size_o = length-replicate {A = ℕ} 6144 0;
      size_f = length-replicate {A = ℕ} 3075 0;
      size_j = length-replicate {A = ℕ} 3075 0;
      size_k = length-replicate {A = ℕ} 130 0;
      size_e = length-replicate {A = ℕ} 2 0;
      size_rows = length-replicate {A = ℕ} 10240 0;
      size_lists = length-replicate {A = ℕ} 131072 0;
      size_out = h;
    }

-- ---- the texts that `fmap` reads

short : (t : List ℕ) → length t < text_room → fmap_text t ≡ map_text image_room map_room t
unfolding fmap_text
short t h = if_true (lt-ltb (length t) text_room h) _ _

long : (t : List ℕ) → text_room ≤ length t → fmap_text t ≡ text (lines (fault 1))
unfolding fmap_text
long t h = if_false (le-ltb (length t) text_room h) _ _

module _ (t out out' : List ℕ) (r : ℕ) where
  pub short_mapped : length t < text_room → Begun (map_text image_room map_room t) out out' r → Begun (fmap_text t) out out' r
  short_mapped h p = rw (short t h) p

  pub long_refused : text_room ≤ length t → Begun (text (lines (fault 1))) out out' r → Begun (fmap_text t) out out' r
  long_refused h p = rw (long t h) p
