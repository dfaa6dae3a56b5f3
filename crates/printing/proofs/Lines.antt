-- The lines of two columns, one by one.
use Rattle.std.proofs.Common.{◌≡◌, refl, List, [], ◌∷◌, ◌++◌, ℕ, ◌⊎◌, inl, inr}
use Rattle.printing.specs.declared.line.Kind.{Kind}
use Rattle.printing.specs.declared.line.Text.{Text}
use Rattle.printing.specs.Columns.{line, lines}
use Rattle.printing.specs.Printed.{Room, Printed}
use Rattle.printing.proofs.Printing.{Going, going_first, going_on, going_ends, room_first}

no_first : (k : Kind) (ps qs : List ℕ) → (ps ≡ []) ⊎ (qs ≡ []) → lines k ps qs ≡ []
no_first k [] qs e = refl
no_first k (p ∷ ps) [] e = refl
no_first k (p ∷ ps) (q ∷ qs) e = elim e [ inl h ↦ cc | inr h ↦ cc ]

pub lines_first : (k : Kind) (ps qs ps' qs' : List ℕ) (t : Text) → ps' ≡ ps → qs' ≡ qs → Room (lines k ps qs) t → Going (lines k ps' qs') (lines k ps qs) t t
lines_first k ps qs ps' qs' t e f r = rw (e, f) (going_first _ t r)

-- a row before the others
module _ (k : Kind) {ps qs ps' qs' whole : List ℕ} {first t : Text} {x y : ℕ} (e : ps ≡ x ∷ ps') (f : qs ≡ y ∷ qs') (g : Going (lines k ps qs) whole first t) where
  more : Going (line k x y ++ lines k ps' qs') whole first t
  more = rw (e, f) at g

  pub line_room : Room (line k x y) t
  line_room = room_first _ _ _ more.room

  pub lines_next : {m : Text} → Printed (line k x y) t m → Going (lines k ps' qs') whole first m
  lines_next pr = going_on more pr

pub lines_end : (k : Kind) (ps qs whole : List ℕ) (first t : Text) → (ps ≡ []) ⊎ (qs ≡ []) → Going (lines k ps qs) whole first t → Printed whole first t
lines_end k ps qs whole first t h g = going_ends (rw (no_first k ps qs h) at g)
