use Rattle.std.proofs.Common.{ℕ, ap, ◌∙◌}
use Rattle.rules.specs.Step.{do_jump, do_table}
use Rattle.walks.specs.Around.{around_of}
use Rattle.walks.specs.State.{walk_of}
use Rattle.walks.proofs.Options.{located}
use Rattle.walks.proofs.walk.Walk.after_block.Goals as goal

pub returns-in-Jump : goal.returns-in-Jump
returns-in-Jump c = λ es knows w.
    rw c.in-Jump.is
    (c.do_jump.ensures es knows w ∙ ap (λ (t : ℕ). do_jump (around_of c.args.around.now es) c.args.addr t (walk_of c.args.self.now)) (c.unwrap_or-target.ensures ∙ located _ _ c.locate.ensures.value))

pub returns-in-JumpTable : goal.returns-in-JumpTable
returns-in-JumpTable c = λ es knows w.
    rw c.in-JumpTable.is
    (c.do_table.ensures es knows ∙ ap (λ (t : ℕ). do_table (around_of c.args.around.now es) c.args.addr t c.in-JumpTable.size (walk_of c.args.self.now)) (c.unwrap_or-target-in-JumpTable.ensures ∙ located _ _ c.locate-in-JumpTable.ensures.value))
