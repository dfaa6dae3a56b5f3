use Rattle.std.proofs.Common.{◌-◌, ◌+◌, ◌≡◌, ◌++◌, ◌∷◌, [], ap, ◌∙◌, length, arith}
use Rattle.std.proofs.lemmas.List.{length-append}
use Rattle.runs.proofs.Insertion.{put_in}
use Rattle.runs.proofs.vectors.put_at.Goals as goal

pub returns : goal.returns
returns g c front last e =
    let long : length c.args.items.now ≡ length front + 1 = ap length e ∙ length-append front (last ∷ []) in
    rw (c.move_within.ensures, e)
    (put_in front last c.args.item c.args.at (length (front ++ last ∷ []) - 1 - c.args.at) (omega (arith, long)) (omega (arith, length-append front (last ∷ []))))
