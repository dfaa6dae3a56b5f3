-- What is told of the lists of an image is told of the one list that they lie in. Assumes nothing.
use Prim.Native.Nat.{ℕ}
use mathlib.Core.Path.{◌≡◌, sym}
use mathlib.Core.List.{List}
use Rattle.rules.specs.Run.{run}
use Rattle.obj_image.specs.Lent.{lent, given, image}
use Rattle.image.specs.Lists.{sections_of, outcomes_of, functions_of, objects_of, skips_of, entry_of, lent_of, image_at}
use Rattle.detection.specs.Maps.{room_of, Reply, Told, Counted}

module _ (i b s o f x k e : List ℕ) (is_s : s ≡ sections_of i) (is_o : o ≡ outcomes_of i) (is_f : f ≡ functions_of i) (is_x : x ≡ objects_of i) (is_k : k ≡ skips_of i) (is_e : e ≡ entry_of i) (rows lists rows' lists' : List ℕ) (m : Reply) where
  pub told_of : Told (run (given (lent s b o f x k e)) (room_of rows lists)) rows lists rows' lists' m → Told (run (given (lent_of i b)) (room_of rows lists)) rows lists rows' lists' m
  told_of t = rw (← is_s, ← is_o, ← is_f, ← is_x, ← is_k, ← is_e) t

  pub counted_of : Counted (image (lent s b o f x k e)) rows' lists' m → Counted (image_at i b) rows' lists' m
  counted_of t = rw (← is_s, ← is_o, ← is_f, ← is_x, ← is_k, ← is_e) t
