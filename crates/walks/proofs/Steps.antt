-- Calls that may meet a fault, one after the other.
use Rattle.std.proofs.Common.{◌≡◌, ℕ, suc, ◌+◌, ◌<◌, Bool, List, length, get_or, drop, refl, sym, ap, ◌∙◌, add-one, drop-cons}
use Rattle.std.specs.Prelude.{Result, Ok, Err}
use Rattle.rules.specs.Choice.{Answer, ok, fault, ◌>>=◌}
use Rattle.rules.specs.Slices.{Slices}
use Rattle.rules.specs.Image.{Image}
use Rattle.rules.specs.Step.{Walk, seen, with_slices, with_pending, on_slices, mark_and_push, mark_and_push_all}
use Rattle.faults.specs.declared.Fault.{Fault}
use Rattle.faults.specs.Outcome.{outcome}

-- a change of the lists is a change of the walk
pub on_slices_is : {B : Type 0} (f : Slices → Answer Slices) (w : Walk) (s : Slices) (r : Result B Fault) → outcome s r ≡ f w.slices → outcome (with_slices w s) r ≡ on_slices f w
unfolding on_slices ◌>>=◌
on_slices_is f w s (Ok x) e = rw (← e) refl
on_slices_is f w s (Err n) e = rw (← e) refl

-- so is a fault
pub fault_on_slices : (f : Slices → Answer Slices) (w : Walk) (n : ℕ) → fault n ≡ f w.slices → fault n ≡ on_slices f w
unfolding on_slices ◌>>=◌
fault_on_slices f w n e = rw (← e) refl

-- a change of what is pending, too
pub on_pending_is : {B : Type 0} (a : Answer (List ℕ)) (w : Walk) (p : List ℕ) (r : Result B Fault) → outcome p r ≡ a → outcome (with_pending w p) r ≡ (a >>= λ q. ok (with_pending w q))
unfolding ◌>>=◌
on_pending_is a w p (Ok x) e = rw (← e) refl
on_pending_is a w p (Err n) e = rw (← e) refl

-- what comes after a call that met no fault, and after one that did
pub after_ok : {A B : Type 0} {a : Answer A} {x : A} (f : A → Answer B) → ok x ≡ a → (a >>= f) ≡ f x
unfolding ◌>>=◌
after_ok f e = rw (← e) refl

pub after_err : {A B : Type 0} {a : Answer A} {n : ℕ} (f : A → Answer B) → fault n ≡ a → (a >>= f) ≡ fault n
unfolding ◌>>=◌
after_err f e = rw (← e) refl

-- the next of several addresses, and the end of them
pub marked_next : (xs : List ℕ) (i : ℕ) → i < length xs → (w v : Walk) → ok v ≡ mark_and_push (get_or xs i 0) w → mark_and_push_all (drop i xs) w ≡ mark_and_push_all (drop (i + 1) xs) v
marked_next xs i h w v e = rw (add-one, drop-cons xs i 0) (after_ok (mark_and_push_all (drop (suc i) xs)) e)

pub marked_not : (xs : List ℕ) (i : ℕ) → i < length xs → (w : Walk) (n : ℕ) → fault n ≡ mark_and_push (get_or xs i 0) w → mark_and_push_all (drop i xs) w ≡ fault n
marked_not xs i h w n e = rw (drop-cons xs i 0) (after_err (mark_and_push_all (drop (suc i) xs)) e)

-- what was visited, in the same image
pub seen_as : (k : ℕ) (w : Walk) {im im2 : Image} {b r : Bool} → im ≡ im2 → r ≡ seen im2 k w → r ≡ b → seen im k w ≡ b
seen_as k w i e t = ap (λ (x : Image). seen x k w) i ∙ sym e ∙ t
