use Rattle.std.proofs.Common.{◌≡◌, ℕ, ◌+◌, ◌-◌, ◌<◌, ◌≤◌, List, length, take, drop, true, sym, ap, ◌∙◌, arith, ltb, lt-ltb, take_at, length-take-le, length-drop}
use Rattle.std.proofs.lemmas.Bool.{cond-true}
use Rattle.std.proofs.lemmas.List.{drop-take}
use lib.Seq.{paste}
use Rattle.mapping.specs.Answers.{text_room}
use Rattle.replay.specs.Rest.{kept}
use Rattle.replay.proofs.keep_rest.Goals as goal

-- what is moved down is all that is kept
all_kept : (at n : ℕ) (t t' : List ℕ) → at ≤ n → n ≤ length t → n - at < text_room → t' ≡ paste t 0 (drop at t) (n - at)
    → take (n - at) t' ≡ kept at (take n t)
all_kept at n t t' behind within few moved =
    let long : length (take n t) ≡ n = length-take-le n t within in
    let split : n ≡ at + (n - at) = omega arith in
    let rest : drop at (take n t) ≡ take (n - at) (drop at t) = ap (λ k. drop at (take k t)) split ∙ drop-take at (n - at) t in
    let size : length (take (n - at) (drop at t)) ≡ n - at = length-take-le (n - at) (drop at t) (omega (arith, length-drop at t)) in
    let here : ltb (length (take n t) - at) text_room ≡ true = lt-ltb (length (take n t) - at) text_room (omega (arith, long)) in
    ap (take (n - at)) moved ∙ take_at (take (n - at) (drop at t)) (drop (0 + (n - at)) t) (n - at) size ∙ sym rest ∙ sym (cond-true _ _ _ here)

pub returns-then-rest-lt-IMAGE_ROOM-clause-kept : goal.returns-then-rest-lt-IMAGE_ROOM-clause-kept
returns-then-rest-lt-IMAGE_ROOM-clause-kept c =
    all_kept c.args.at c.args.count c.args.text.now _ c.requires.behind c.requires.within c.if-rest-lt-IMAGE_ROOM.true c.copy_within.ensures.after
