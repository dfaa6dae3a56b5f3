use Rattle.std.proofs.Common.{ℕ, ◌+◌, ◌*◌, ◌-◌, ◌/◌, min, sym, ap, ◌∙◌, arith}
use Rattle.rules.specs.Choice.{if_true, if_false}
use Rattle.rules.specs.Known.{covering}
use Rattle.slices.specs.View.{slices_of}
use Rattle.walks.specs.Around.{around_of}
use Rattle.execution.specs.Stretch.{how_many}
use Rattle.execution.proofs.Clear.{clear_from}
use Rattle.execution.proofs.Words.{entries_in, known_in}
use Rattle.execution.proofs.plain.how_many.Goals as goal

pub overflow_sub-past : goal.overflow_sub-past
overflow_sub-past c =
    let es = entries_in c.args.around.now.known.now in
    omega (arith, c.clear_until-past.ensures es (known_in c.args.around.now.known.now), clear_from (around_of c.args.around.now es) (slices_of c.args.slices.now) c.args.addr (c.args.addr + 4 * c.args.most) (omega arith))

pub returns-then-is_other-clause-value : goal.returns-then-is_other-clause-value
unfolding how_many
returns-then-is_other-clause-value c = λ es knows. sym (if_true (sym (c.is_other.ensures (covering c.args.addr es) (c.covering.ensures es knows)) ∙ c.if-is_other.true) _ _)

pub returns-clause-value : goal.returns-clause-value
unfolding how_many
returns-clause-value c = λ es knows.
    c.min.ensures ∙
    ap (λ (past : ℕ). min ((past - c.args.addr) / 4) c.args.most) (c.clear_until-past.ensures es knows) ∙
    sym (if_false (sym (c.is_other.ensures (covering c.args.addr es) (c.covering.ensures es knows)) ∙ c.if-is_other.false) _ _)
