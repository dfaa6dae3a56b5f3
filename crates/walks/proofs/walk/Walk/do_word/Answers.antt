use Rattle.std.proofs.Common.{ap, sym, ◌∙◌}
use Rattle.rules.specs.Choice.{if_true, if_false}
use Rattle.rules.specs.Image.{Outcome}
use Rattle.rules.specs.Step.{do_word, do_outcome}
use Rattle.walks.specs.Around.{around_of}
use Rattle.walks.specs.State.{walk_of}
use Rattle.walks.proofs.walk.Walk.do_word.Goals as goal

pub returns-then-is_known_function : goal.returns-then-is_known_function
unfolding do_word
returns-then-is_known_function c = λ es knows w o. sym (if_true (sym (c.is_known_function.ensures es knows) ∙ c.if-is_known_function.true) _ _)

pub returns : goal.returns
unfolding do_word
returns c = λ es knows w o.
    c.do_outcome.ensures es knows w ∙
    ap (λ (x : Outcome). do_outcome (around_of c.args.around.now es) c.args.addr c.args.block x (walk_of c.args.self.now)) o ∙
    sym (if_false (sym (c.is_known_function.ensures es knows) ∙ c.if-is_known_function.false) _ _)
