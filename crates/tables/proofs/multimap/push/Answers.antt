-- A way on behind the others.
use Rattle.std.proofs.Common.{◌≡◌, length, true, sym, arith, ap, ◌∙◌}
use Rattle.std.proofs.lemmas.Bool.Decides.{nat_tests}
use Rattle.tables.specs.Groups.{last_up_to}
use Rattle.tables.proofs.Groups.{behind_pairs, last_pairs}
use Rattle.tables.proofs.multimap.push.Goals as goal
use Rattle.tables.proofs.multimap.push.Goals.{else-may_follow-via-then-may_follow+else-not-is_full, else-may_follow-via-else-may_follow}

pub returns-then-not-is_full-clause-rising : goal.returns-then-not-is_full-clause-rising
returns-then-not-is_full-clause-rising g c =
    let up : last_up_to c.args.way.from c.args.ways.now.items ≡ true = ap (last_up_to c.args.way.from) (sym c.deref.ensures.0) ∙ sym c.may_follow.ensures ∙ c.if-may_follow.true in
    rw c.push.ensures.items (behind_pairs c.args.way c.args.ways.now.items c.requires up)

pub returns-else-may_follow-clause-pushed : goal.returns-else-may_follow-clause-pushed
returns-else-may_follow-clause-pushed g c rise room =
    let up : last_up_to c.args.way.from c.args.ways.now.items ≡ true = last_pairs c.args.way c.args.ways.now.items rise in
    let may : c.may_follow.result ≡ true = c.may_follow.ensures ∙ ap (last_up_to c.args.way.from) c.deref.ensures.0 ∙ up in
    elim c.else-may_follow.branch [
      | else-may_follow-via-then-may_follow+else-not-is_full w ↦ let full : length c.args.ways.now.items ≡ g.row.N = grind (arith, nat_tests) in absurd (omega arith)
      | else-may_follow-via-else-may_follow w ↦ cc
    ]
