use Rattle.std.proofs.Common.{refl, sym, ap, ◌∙◌}
use Rattle.rules.specs.Walk.{step, step_at}
use Rattle.walks.specs.Around.{around_of}
use Rattle.walks.specs.State.{walk_of, place_of}
use Rattle.walks.specs.declared.walk.Place.{Place}
use Rattle.execution.proofs.step.Goals as goal

pub returns-in-Idle : goal.returns-in-Idle
unfolding step
returns-in-Idle c = λ es knows.
    c.pop.ensures (around_of c.args.around.now es) refl ∙ ap (λ (p : Place). step_at (around_of c.args.around.now es) (place_of p) (walk_of c.args.walk.now)) (sym c.in-Idle.is)

pub returns-in-At : goal.returns-in-At
unfolding step
returns-in-At c = λ es knows.
    c.enter.ensures es knows ∙ ap (λ (p : Place). step_at (around_of c.args.around.now es) (place_of p) (walk_of c.args.walk.now)) (sym c.in-At.is)

pub returns-in-Nowhere : goal.returns-in-Nowhere
unfolding step
returns-in-Nowhere c = λ es knows. ap (λ (p : Place). step_at (around_of c.args.around.now es) (place_of p) (walk_of c.args.walk.now)) (sym c.in-Nowhere.is)
