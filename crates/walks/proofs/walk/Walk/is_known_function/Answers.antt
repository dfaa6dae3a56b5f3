use Rattle.rules.specs.Step.{is_known_function}
use Rattle.walks.proofs.Options.{other_found, other_not_found}
use Rattle.walks.proofs.walk.Walk.is_known_function.Goals as goal

pub returns-in-Some : goal.returns-in-Some
unfolding is_known_function
returns-in-Some c = λ es knows. other_found _ _ _ (c.in-Some.ensures es knows)

pub returns-in-None : goal.returns-in-None
unfolding is_known_function
returns-in-None c = λ es knows. other_not_found _ _ (c.in-None.ensures es knows)
