use Rattle.std.proofs.Common.{rules, arith, ◌≡◌, ◌+◌, ◌-◌, ◌*◌, ◌%◌, ◌++◌, take, drop, sym, ap, ◌∙◌}
use Rattle.std.specs.List.{repeat}
use Rattle.lines.proofs.Repeats.{one_more}
use Rattle.lines.proofs.image.put_odd.Goals as goal

pub returns-then-is_odd-clause-items : goal.returns-then-is_odd-clause-items
returns-then-is_odd-clause-items g c =
    let s = c.args.start in
    let e = c.args.end in
    let d = c.args.items.now in
    let odd : c.args.times % 2 ≡ 1 = search rules in
    ap (take (c.args.at + (e - s))) c.copy_within.ensures.after
    ∙ one_more s e c.args.at d c.requires.order c.requires.behind (omega (arith, c.requires.room, ap (λ k. (e - s) * k) odd))
    ∙ ap (λ k. take c.args.at d ++ repeat k (drop s (take e d))) (sym odd)
