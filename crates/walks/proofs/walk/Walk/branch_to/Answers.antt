use Rattle.std.proofs.Common.{◌∙◌}
use Rattle.walks.specs.Around.{around_of}
use Rattle.walks.specs.State.{walk_of}
use Rattle.walks.proofs.Branching.{to_one, to_a_table, to_none, to_nothing}
use Rattle.walks.proofs.Options.{located}
use Rattle.walks.proofs.walk.Walk.branch_to.Goals as goal

pub returns-in-Address : goal.returns-in-Address
returns-in-Address c = λ es out knows.
    rw (c.in-Address.is) (to_one (around_of c.args.around.now es) _ _ out c.in-Address.a _ _ (c.unwrap_or-target.ensures ∙ located _ _ c.locate.ensures.value) (c.do_branch.ensures es out knows))

pub returns-in-Table : goal.returns-in-Table
returns-in-Table c = λ es out knows. rw (c.in-Table.is) (to_a_table (around_of c.args.around.now es) c.args.branch.link (walk_of c.args.self.now) out c.in-Table.field-0)

pub returns-in-Elsewhere : goal.returns-in-Elsewhere
returns-in-Elsewhere c = λ es out knows. rw (c.in-Elsewhere.is) (to_none (around_of c.args.around.now es) c.args.branch.link (walk_of c.args.self.now) out)

pub returns-in-Nowhere : goal.returns-in-Nowhere
returns-in-Nowhere c = λ es out knows. rw (c.in-Nowhere.is) (to_nothing (around_of c.args.around.now es) c.args.branch.link (walk_of c.args.self.now) out)
