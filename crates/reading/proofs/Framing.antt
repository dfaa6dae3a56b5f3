-- What putting a frame comes to, from its parts.
use mathlib.Core.Path.{◌≡◌, refl}
use mathlib.Core.List.{List}
use mathlib.Core.Bool.{Bool, true, false, not}
use Prim.Native.Nat.{ℕ}
use native.Mathlib.Omega.{arith}
use Rattle.rules.specs.Choice.{if}
use Rattle.reading.specs.declared.line.Frame.{Frame}
use Rattle.reading.specs.View.{view, Fit, FramePut, GivenPut, ImagePut}
use Rattle.reading.specs.declared.state.Reading.{Reading}

pub not_true : (b : Bool) → not b ≡ true → b ≡ false
not_true false e = refl
not_true true e = cc

pub not_false : (b : Bool) → not b ≡ false → b ≡ true
not_false true e = refl
not_false false e = cc

module _ (x : Frame) (r : Reading) (s b o f j k e : List ℕ) (fit : Fit r s b o f j k e) where
  pub put_before : r.ok ≡ false → FramePut x r r s s b b o o f f j j k k e e
  unfolding view if
  put_before h =
      record {
        size_s = refl;
        size_b = refl;
        size_o = refl;
        size_f = refl;
        size_j = refl;
        size_k = refl;
        size_e = refl;
        fit = fit;
        same = rw h refl;
      }

  pub put_parts : r.ok ≡ true → (q : Reading) (s' b' o' : List ℕ) → ImagePut x r q s s' b b' o o' → FramePut x r q s s' b b' o o' f f j j k k e e
  unfolding if
  put_parts h q s' b' o' a =
      record {
        size_s = a.size_s;
        size_b = a.size_b;
        size_o = a.size_o;
        size_f = refl;
        size_j = refl;
        size_k = refl;
        size_e = refl;
        fit =
            record {
              within_s = a.within_s;
              within_b = a.within_b;
              within_o = a.within_o;
              within_f = omega (arith, a.functions, fit.within_f);
              within_j = omega (arith, a.objects, fit.within_j);
              within_k = omega (arith, a.skips, fit.within_k);
              within_e = omega (arith, a.entry, fit.within_e);
            };
        same = rw h (a.same f j k e);
      }

  pub put_rest : r.ok ≡ true → (q : Reading) (f' j' k' e' : List ℕ) → GivenPut x r q f f' j j' k k' e e' → FramePut x r q s s b b o o f f' j j' k k' e e'
  unfolding if
  put_rest h q f' j' k' e' a =
      record {
        size_s = refl;
        size_b = refl;
        size_o = refl;
        size_f = a.size_f;
        size_j = a.size_j;
        size_k = a.size_k;
        size_e = a.size_e;
        fit =
            record {
              within_s = omega (arith, a.sections, fit.within_s);
              within_b = omega (arith, a.bytes, fit.within_b);
              within_o = omega (arith, a.outcomes, fit.within_o);
              within_f = a.within_f;
              within_j = a.within_j;
              within_k = a.within_k;
              within_e = a.within_e;
            };
        same = rw h (a.same s b o);
      }
