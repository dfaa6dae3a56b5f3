-- What is printed one after the other is printed as one.
use Rattle.std.proofs.Common.{◌≡◌, refl, sym, ap, ap₂, ◌∙◌, List, [], ◌++◌, ℕ, ◌+◌, ◌≤◌, arith, length, take, drop, append_assoc, length-append}
use mathlib.Core.List.{append-nil}
use lib.ListN.{take-append-drop}
use lib.Seq.{length-take-le, take_at, drop_at, drop-drop}
use Rattle.printing.specs.Printed.{laid, Room, Printed}
use Rattle.printing.specs.declared.line.Text.{Text}

-- ---- bytes in the place of others

module _ (out : List ℕ) (at : ℕ) (a : List ℕ) (room : at + length a ≤ length out) where
  front : length (take at out ++ a) ≡ at + length a
  front = length-append (take at out) a ∙ ap (λ (i : ℕ). i + length a) (length-take-le at out (omega arith))

  before : take (at + length a) (laid out at a) ≡ take at out ++ a
  before = take_at (take at out ++ a) (drop (at + length a) out) (at + length a) front

  behind : (n : ℕ) → drop (at + length a + n) (laid out at a) ≡ drop (at + length a + n) out
  behind n =
      sym (drop-drop n (at + length a) (laid out at a))
      ∙ ap (drop n) (drop_at (take at out ++ a) (drop (at + length a) out) (at + length a) front)
      ∙ drop-drop n (at + length a) out

  laid_on : (b : List ℕ) → laid (laid out at a) (at + length a) b ≡ laid out at (a ++ b)
  laid_on b =
      let e : at + length a + length b ≡ at + length (a ++ b) = omega (arith, length-append a b) in
      ap₂ (λ (l m : List ℕ). l ++ b ++ m) before (behind (length b))
      ∙ ap₂ (λ (l : List ℕ) (i : ℕ). l ++ drop i out) (append_assoc (take at out) a b) e

-- ---- one text behind the other

pub room_first : (a b : List ℕ) (t : Text) → Room (a ++ b) t → Room a t
room_first a b t h = record { fits = omega (arith, h.fits, length-append a b) }

module _ {a b : List ℕ} {t m : Text} where
  pub room_next : Room (a ++ b) t → Printed a t m → Room b m
  room_next h p = record { fits = omega (arith, h.fits, length-append a b, p.past, p.size) }

  pub printed_then : {t' : Text} → Printed a t m → Printed b m t' → Printed (a ++ b) t t'
  printed_then {t'} p q =
      let w : m.len ≤ length t.out.now = p.within in
      let e : m.len ≡ t.len + length a = p.past in
      let r : t.len + length a ≤ length t.out.now = omega arith in
      record {
        same_reference = q.same_reference ∙ p.same_reference;
        same = q.same ∙ ap₂ (λ (l : List ℕ) (i : ℕ). laid l i b) p.same p.past ∙ laid_on t.out.now t.len a r b;
        past = omega (arith, q.past, length-append a b);
        within = omega (arith, q.within, p.size);
        size = q.size ∙ p.size;
      }

-- nothing
pub printed_none : (t : Text) → t.len ≤ length t.out.now → Printed [] t t
printed_none t h =
    let z : t.len + 0 ≡ t.len = omega arith in
    record {
      same_reference = refl;
      same = rw (append-nil (take t.len t.out.now), z) (sym (take-append-drop t.len t.out.now));
      past = sym z;
      within = h;
      size = refl;
    }

-- ---- in a loop

-- what is printed of the rest from here on makes the whole
pub record Going (rest whole : List ℕ) (first t : Text) : Type 0 where
  pub room : Room rest t
  pub size : length t.out.now ≡ length first.out.now
  pub makes : (t' : Text) → Printed rest t t' → Printed whole first t'

pub going_first : (whole : List ℕ) (t : Text) → Room whole t → Going whole whole t t
going_first whole t h = record { room = h; size = refl; makes = λ t' p. p }

module _ {whole : List ℕ} {first t : Text} where
  pub going_on : {a rest : List ℕ} {m : Text} → Going (a ++ rest) whole first t → Printed a t m → Going rest whole first m
  going_on g p = record { room = room_next g.room p; size = p.size ∙ g.size; makes = λ t' q. g.makes t' (printed_then p q) }

  pub going_ends : Going [] whole first t → Printed whole first t
  going_ends g = g.makes t (printed_none t (omega (arith, g.room.fits)))
