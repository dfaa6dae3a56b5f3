use Rattle.std.proofs.Common.{◌≡◌, ◌+◌, ◌-◌, sym, arith}
use borrow.Author.Tests.{eq-eqb, ne_eqb}
use Rattle.rules.specs.Choice.{if_true, if_false}
use Rattle.obj_info.proofs.sections.bytes_of.Goals as goal

pub returns-then-part-eq4 : goal.returns-then-part-eq4
returns-then-part-eq4 c = sym (if_true (eq-eqb _ 4 c.if-part-eq4.true) _ _)

pub returns : goal.returns
returns c =
    let p = c.args.part in
    let e : p.offset + p.size - p.offset ≡ p.size = omega arith in
    rw e (sym (if_false (ne_eqb _ 4 c.if-part-eq4.false) _ _))
