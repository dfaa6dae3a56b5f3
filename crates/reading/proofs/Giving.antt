-- What each frame of a symbol, a skip range or the entry point comes to.
use mathlib.Core.Path.{◌≡◌, refl, ap, ◌∙◌}
use mathlib.Core.List.{List, [], ◌∷◌}
use mathlib.Core.Bool.{Bool, true, false}
use Rattle.std.specs.Prelude.{None, Some}
use Prim.Native.Nat.{ℕ, ◌≤◌}
use lib.ListN.{length, take}
use Rattle.rules.specs.Choice.{if}
use Rattle.reading.specs.declared.line.Frame.TheVariants.{Function as function, Object as object, Skip as skip, Entry as entry}
use Rattle.reading.specs.declared.rows.Count.{Count}
use Rattle.reading.specs.Rows.{counted, Added}
use Rattle.reading.specs.PutFrame.{onward, put_frame, put_line, in_functions, in_objects, in_skips, in_entry}
use Rattle.reading.specs.View.{lists, view, GivenPut}
use Rattle.reading.specs.declared.state.Reading.{Reading}

pub onward_if : {A B : Type 0} (h : A → B) (t : Bool) (x : A) → if t (Some (h x)) None ≡ onward h (if t (Some x) None)
unfolding onward if
onward_if h true x = refl
onward_if h false x = refl

module _ (r : Reading) (f j k e : List ℕ) (wf : r.functions ≤ length f) (wj : r.objects ≤ length j) (wk : r.skips ≤ length k) (we : r.entry ≤ length e) (c : Count) where
  pub gives_function : (v m t : ℕ) → (f' : List ℕ) → Added 3072 r.functions (v ∷ m ∷ t ∷ []) f f' c → GivenPut (function v m t) r record { ok = c.ok; sections = r.sections; bytes = r.bytes; outcomes = r.outcomes; functions = c.count; objects = r.objects; skips = r.skips; entry = r.entry } f f' j j k k e e
  unfolding view counted put_line put_frame if
  gives_function v m t f' a =
      record {
        size_f = a.size;
        size_j = refl;
        size_k = refl;
        size_e = refl;
        within_f = a.within;
        within_j = wj;
        within_k = wk;
        within_e = we;
        sections = refl;
        bytes = refl;
        outcomes = refl;
        same =
            λ s b o. onward_if (in_functions (lists r s b o f j k e)) c.ok (take c.count f') ∙ ap (onward (in_functions (lists r s b o f j k e))) a.same;
      }

  pub gives_object : (v m t : ℕ) → (j' : List ℕ) → Added 3072 r.objects (v ∷ m ∷ t ∷ []) j j' c → GivenPut (object v m t) r record { ok = c.ok; sections = r.sections; bytes = r.bytes; outcomes = r.outcomes; functions = r.functions; objects = c.count; skips = r.skips; entry = r.entry } f f j j' k k e e
  unfolding view counted put_line put_frame if
  gives_object v m t j' a =
      record {
        size_f = refl;
        size_j = a.size;
        size_k = refl;
        size_e = refl;
        within_f = wf;
        within_j = a.within;
        within_k = wk;
        within_e = we;
        sections = refl;
        bytes = refl;
        outcomes = refl;
        same =
            λ s b o. onward_if (in_objects (lists r s b o f j k e)) c.ok (take c.count j') ∙ ap (onward (in_objects (lists r s b o f j k e))) a.same;
      }

  pub gives_skip : (v m : ℕ) → (k' : List ℕ) → Added 128 r.skips (v ∷ m ∷ []) k k' c → GivenPut (skip v m) r record { ok = c.ok; sections = r.sections; bytes = r.bytes; outcomes = r.outcomes; functions = r.functions; objects = r.objects; skips = c.count; entry = r.entry } f f j j k k' e e
  unfolding view counted put_line put_frame if
  gives_skip v m k' a =
      record {
        size_f = refl;
        size_j = refl;
        size_k = a.size;
        size_e = refl;
        within_f = wf;
        within_j = wj;
        within_k = a.within;
        within_e = we;
        sections = refl;
        bytes = refl;
        outcomes = refl;
        same =
            λ s b o. onward_if (in_skips (lists r s b o f j k e)) c.ok (take c.count k') ∙ ap (onward (in_skips (lists r s b o f j k e))) a.same;
      }

  pub gives_entry : (v : ℕ) → (e' : List ℕ) → Added 1 r.entry (v ∷ []) e e' c → GivenPut (entry v) r record { ok = c.ok; sections = r.sections; bytes = r.bytes; outcomes = r.outcomes; functions = r.functions; objects = r.objects; skips = r.skips; entry = c.count } f f j j k k e e'
  unfolding view counted put_line put_frame if
  gives_entry v e' a =
      record {
        size_f = refl;
        size_j = refl;
        size_k = refl;
        size_e = a.size;
        within_f = wf;
        within_j = wj;
        within_k = wk;
        within_e = a.within;
        sections = refl;
        bytes = refl;
        outcomes = refl;
        same =
            λ s b o. onward_if (in_entry (lists r s b o f j k e)) c.ok (take c.count e') ∙ ap (onward (in_entry (lists r s b o f j k e))) a.same;
      }
