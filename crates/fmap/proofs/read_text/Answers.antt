use Rattle.std.proofs.Common.{◌≡◌, ℕ, ◌+◌, ◌-◌, ◌≤◌, List, ◌++◌, rules, length, take, sym, ap, ◌∙◌, subst, le_refl, drop_at, length-take-le}
use Rattle.std.proofs.lemmas.Slice.{take-put_mid_below}
use Rattle.std.specs.Io.KnownBytes.{Consumes}
use Rattle.std.proofs.KnownBytes.{Consumes-trans}
use borrow.Rule.Slice.PartMut.{put_mid, post_of}
use lib.Seq.{take-add, take-append-le}
use Rattle.fmap.proofs.read_text.Goals as goal

-- the front, and what was read behind it, of which n bytes count
read_behind : (a k n : ℕ) (xs ys : List ℕ) → a ≤ length xs → n ≤ length ys → take a xs ++ take n ys ≡ take (a + n) (put_mid a k xs ys)
read_behind a k n xs ys within fits =
    let front = ap (λ l. l ++ take n ys) (sym (take-put_mid_below _ _ _ _ _ (le_refl a) within)) in
    let part = drop_at (take a xs) (ys ++ post_of a k xs) a (length-take-le a xs within) in
    let behind = sym (ap (take n) part ∙ take-append-le n ys (post_of a k xs) fits) in
    front ∙ ap (λ l. take a (put_mid a k xs ys) ++ l) behind ∙ sym (take-add a n (put_mid a k xs ys))

pub loop-count-preserved : goal.loop-count-preserved
loop-count-preserved g c =
    let l = c.loop-count in
    let read = read_behind l.count (length l.text - l.count) c.in-Ok.more l.text c.read.new.buf l.invariant.1 c.in-Ok.ensures.bound.0 in
    (search rules, search rules, subst (Consumes _ _) read (Consumes-trans _ _ _ _ _ l.invariant.2 c.in-Ok.ensures.bytes.0))
