use Rattle.image.proofs.check.Goals as goal

pub returns : goal.returns
returns c = cc
