use Rattle.lines.proofs.image.+repeat_from.Given as goal

abbrev pub decreases-repeat_from : goal.decreases-repeat_from
decreases-repeat_from g l = l.times
