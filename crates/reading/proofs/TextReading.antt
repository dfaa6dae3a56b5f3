-- Lines put one after the other.
use mathlib.Core.Path.{◌≡◌, refl, sym, ap, ◌∙◌}
use mathlib.Core.List.{List, [], ◌∷◌}
use mathlib.Core.Bool.{Bool, true, false}
use Rattle.std.specs.Prelude.{Option, None, Some}
use Prim.Native.Nat.{ℕ, ◌+◌, ◌-◌, ◌≤◌}
use native.Mathlib.Omega.{arith}
use lib.ListN.{length, take, drop, drop_of_length-le}
use Rattle.rules.specs.Choice.{if}
use Rattle.obj_image.specs.Lent.{Lent}
use Rattle.reading.specs.Frames.{read_frame}
use Rattle.reading.specs.declared.line.Frame.{Frame}
use Rattle.reading.specs.PutFrame.{Room, put_line}
use Rattle.reading.specs.View.{lists, view, room, Fit, FramePut}
use Rattle.reading.specs.declared.state.Reading.{Reading}
use Rattle.reading.specs.Texts.{lines_of, put_next, put_lines, read_text, Ends, Kept, LinePut, TextRead}

-- ---- one line

next_of : (m : Room) (x : List ℕ) (b : Bool) (l : Lent) → if b (put_line m (read_frame x) l) None ≡ put_next m x (if b (Some l) None)
unfolding if
next_of m x true l = refl
next_of m x false l = refl

pub line_put : (x : List ℕ) (a : Frame) (q r : Reading) (s s' b b' o o' f f' j j' k k' e e' : List ℕ) → Some a ≡ read_frame x → FramePut a q r s s' b b' o o' f f' j j' k k' e e' → LinePut x q r s s' b b' o o' f f' j j' k k' e e'
unfolding view
line_put x a q r s s' b b' o o' f f' j j' k k' e e' h p =
    record {
      kept =
          record {
            size_s = p.size_s;
            size_b = p.size_b;
            size_o = p.size_o;
            size_f = p.size_f;
            size_j = p.size_j;
            size_k = p.size_k;
            size_e = p.size_e;
            fit = p.fit;
          };
      same =
          p.same ∙ ap (λ (y : Option _). if q.ok (put_line (room s b o f j k e) y (lists q s b o f j k e)) None) h
          ∙ next_of (room s b o f j k e) x q.ok (lists q s b o f j k e);
    }

next_none : (m : Room) (x : List ℕ) (b : Bool) (l : Lent) → None ≡ read_frame x → None ≡ put_next m x (if b (Some l) None)
unfolding put_line if
next_none m x true l h = rw (sym h) refl
next_none m x false l h = refl

-- a line that is no frame
pub line_none : (x : List ℕ) (q : Reading) (s b o f j k e : List ℕ) → None ≡ read_frame x → Fit q s b o f j k e → LinePut x q record { ok = false; sections = q.sections; bytes = q.bytes; outcomes = q.outcomes; functions = q.functions; objects = q.objects; skips = q.skips; entry = q.entry } s s b b o o f f j j k k e e
unfolding view if
line_none x q s b o f j k e h w =
    record {
      kept =
          record {
            size_s = refl;
            size_b = refl;
            size_o = refl;
            size_f = refl;
            size_j = refl;
            size_k = refl;
            size_e = refl;
            fit =
                record { within_s = w.within_s; within_b = w.within_b; within_o = w.within_o; within_f = w.within_f; within_j = w.within_j; within_k = w.within_k; within_e = w.within_e };
          };
      same = next_none (room s b o f j k e) x q.ok (lists q s b o f j k e) h;
    }

-- ---- all lines

-- nothing comes of lines behind one that is no frame
stopped : (m : Room) (xs : List (List ℕ)) → put_lines m xs None ≡ None
stopped m [] = refl
stopped m (x ∷ xs) = stopped m xs

-- the lines before a place were put: the others, put onto the lists, come to the same as the whole text
pub record Going (t : List ℕ) (at : ℕ) (r : Reading) (s s' b b' o o' f f' j j' k k' e e' : List ℕ) : Type 0 where
  pub kept : Kept r s s' b b' o o' f f' j j' k k' e e'
  pub same : put_lines (room s b o f j k e) (lines_of (drop at t)) (view r s' b' o' f' j' k' e') ≡ read_text (room s b o f j k e) t

abbrev pub nothing_yet : Reading
nothing_yet = record { ok = true; sections = 0; bytes = 0; outcomes = 0; functions = 0; objects = 0; skips = 0; entry = 0 }

pub going_first : (t s b o f j k e : List ℕ) → Going t 0 nothing_yet s s b b o o f f j j k k e e
unfolding view read_text if
going_first t s b o f j k e =
    record {
      kept =
          record {
            size_s = refl;
            size_b = refl;
            size_o = refl;
            size_f = refl;
            size_j = refl;
            size_k = refl;
            size_e = refl;
            fit =
                record { within_s = omega arith; within_b = omega arith; within_o = omega arith; within_f = omega arith; within_j = omega arith; within_k = omega arith; within_e = omega arith };
          };
      same = refl;
    }

module _ (t : List ℕ) (at : ℕ) (q : Reading) (s s₁ b b₁ o o₁ f f₁ j j₁ k k₁ e e₁ : List ℕ) (g : Going t at q s s₁ b b₁ o o₁ f f₁ j j₁ k k₁ e e₁) where
  pub going_ends : length t ≤ at → TextRead t q s s₁ b b₁ o o₁ f f₁ j j₁ k k₁ e e₁
  going_ends h =
      record {
        kept = g.kept;
        same = ap (λ (x : List ℕ). put_lines (room s b o f j k e) (lines_of x) (view q s₁ b₁ o₁ f₁ j₁ k₁ e₁)) (sym (drop_of_length-le t {i = at} h)) ∙ g.same;
      }

  module _ (end : ℕ) (r : Reading) (s₂ b₂ o₂ f₂ j₂ k₂ e₂ : List ℕ) (h : Ends t at end) (p : LinePut (take (end - at) (drop at t)) q r s₁ s₂ b₁ b₂ o₁ o₂ f₁ f₂ j₁ j₂ k₁ k₂ e₁ e₂) where
    same_room : room s₁ b₁ o₁ f₁ j₁ k₁ e₁ ≡ room s b o f j k e
    same_room =
        rw (g.kept.size_s, g.kept.size_b, g.kept.size_o, g.kept.size_f, g.kept.size_j, g.kept.size_k, g.kept.size_e) refl

    both : Kept r s s₂ b b₂ o o₂ f f₂ j j₂ k k₂ e e₂
    both =
        record {
          size_s = p.kept.size_s ∙ g.kept.size_s;
          size_b = p.kept.size_b ∙ g.kept.size_b;
          size_o = p.kept.size_o ∙ g.kept.size_o;
          size_f = p.kept.size_f ∙ g.kept.size_f;
          size_j = p.kept.size_j ∙ g.kept.size_j;
          size_k = p.kept.size_k ∙ g.kept.size_k;
          size_e = p.kept.size_e ∙ g.kept.size_e;
          fit = p.kept.fit;
        }

    pub going_on : Going t (end + 1) r s s₂ b b₂ o o₂ f f₂ j j₂ k k₂ e e₂
    going_on =
        record {
          kept = both;
          same =
              ap (put_lines (room s b o f j k e) (lines_of (drop (end + 1) t)))
              (p.same ∙ ap (λ (m : Room). put_next m (take (end - at) (drop at t)) (view q s₁ b₁ o₁ f₁ j₁ k₁ e₁)) same_room)
              ∙ ap (λ (l : List (List ℕ)). put_lines (room s b o f j k e) l (view q s₁ b₁ o₁ f₁ j₁ k₁ e₁)) (sym h.first)
              ∙ g.same;
        }

    pub going_stops : r.ok ≡ false → TextRead t r s s₂ b b₂ o o₂ f f₂ j j₂ k k₂ e e₂
    unfolding view if
    going_stops no_more =
        let none_left : view r s₂ b₂ o₂ f₂ j₂ k₂ e₂ ≡ None = rw no_more refl in
        record {
          kept = both;
          same =
              none_left ∙ sym (stopped (room s b o f j k e) (lines_of (drop (end + 1) t)))
              ∙ ap (put_lines (room s b o f j k e) (lines_of (drop (end + 1) t))) (sym none_left)
              ∙ going_on.same;
        }
