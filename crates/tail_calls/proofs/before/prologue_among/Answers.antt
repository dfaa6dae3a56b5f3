use Rattle.std.proofs.Common.{ℕ, List, ◌-◌, ap, ◌∙◌}
use Rattle.rules.specs.Bytes.{words_in}
use Rattle.rules.specs.Sequences.{prologue_among}
use Rattle.tail_calls.proofs.Among.{begins, goes_on, to_end}
use Rattle.tail_calls.proofs.before.prologue_among.Goals as goal

pub returns-then-begins_prologue : goal.returns-then-begins_prologue
returns-then-begins_prologue c =
    begins c.loop-left.left c.loop-left.rest.now _ c.loop-left-test.true c.if-rest-ge4.true c.begins_prologue.ensures c.if-begins_prologue.true ∙ c.loop-left.invariant

pub loop-left-preserved : goal.loop-left-preserved
loop-left-preserved c =
    ap (λ (l : List ℕ). prologue_among (c.loop-left.left - 1) (words_in l)) (to_end 4 c.loop-left.rest.now) ∙
    goes_on c.loop-left.left c.loop-left.rest.now _ c.loop-left-test.true c.if-rest-ge4.true c.begins_prologue.ensures c.if-begins_prologue.false ∙
    c.loop-left.invariant
