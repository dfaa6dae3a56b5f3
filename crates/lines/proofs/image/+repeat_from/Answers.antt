use Rattle.std.proofs.Common.{rules, arith, ◌≡◌, ◌≤◌, ◌+◌, ◌-◌, ◌/◌, ◌%◌, ◌++◌, length, take, drop, ap, ◌∙◌}
use Rattle.std.specs.List.{repeat}
use Rattle.lines.proofs.Repeats.{twice_fits, total_is, halves, front, doubled, joined, beyond, once}
use Rattle.lines.proofs.image.+repeat_from.Goals as goal

pub copy_within-requires-clause-dest_in_bounds : goal.copy_within-requires-clause-dest_in_bounds
copy_within-requires-clause-dest_in_bounds g t c =
    let long : length c.repeat_from-half.new.items ≡ length c.args.items.now = search rules in
    twice_fits c.args.start (c.args.end - c.args.start) c.args.times _ _ c.repeat_from-half.ensures.len (rw long c.requires.room)

pub put_odd-requires-clause-behind : goal.put_odd-requires-clause-behind
put_odd-requires-clause-behind g t c =
    let n = c.args.times in
    let some : 1 ≤ n / 2 = omega arith in
    omega (arith, beyond c.args.start c.args.end n c.repeat_from-half.result c.requires.order some c.repeat_from-half.ensures.len)

pub put_odd-requires-clause-room : goal.put_odd-requires-clause-room
put_odd-requires-clause-room g t c =
    let long : length c.repeat_from-half.new.items ≡ length c.args.items.now = search rules in
    omega (arith, long, total_is c.args.start (c.args.end - c.args.start) c.args.times _ c.repeat_from-half.ensures.len)

pub returns-in-1-clause-items : goal.returns-in-1-clause-items
returns-in-1-clause-items g t c = rw c.in-1.is (once c.args.start c.args.end c.args.items.now c.requires.order)

pub returns-in_default-clause-len : goal.returns-in_default-clause-len
returns-in_default-clause-len g t c =
    c.put_odd.ensures.len ∙ total_is c.args.start (c.args.end - c.args.start) c.args.times _ c.repeat_from-half.ensures.len

pub returns-in_default-clause-items : goal.returns-in_default-clause-items
returns-in_default-clause-items g t c =
    let s = c.args.start in
    let e = c.args.end in
    let n = c.args.times in
    let old = c.args.items.now in
    let d = c.repeat_from-half.new.items in
    let half = c.repeat_from-half.result in
    let line = drop s (take e old) in
    let long : length d ≡ length old = search rules in
    let some : 1 ≤ n / 2 = omega arith in
    let far : e ≤ half = beyond s e n half c.requires.order some c.repeat_from-half.ensures.len in
    let fits : half + (half - s) ≤ length old = twice_fits s (e - s) n half _ c.repeat_from-half.ensures.len c.requires.room in
    let twice = doubled s half (n / 2) old d line (omega arith) (omega arith) (omega arith) c.repeat_from-half.ensures.items in
    let same = front e half d (drop s d) (half - s) far (omega arith) in
    c.put_odd.ensures.items
    ∙ ap (λ l. take (half + (half - s)) c.copy_within.new.self ++ repeat (n % 2) (drop s l)) (ap (take e) c.copy_within.ensures.after ∙ same ∙ c.repeat_from-half.ensures.line)
    ∙ joined s (n / 2 + n / 2) (n % 2) n old line (take (half + (half - s)) c.copy_within.new.self)
    (ap (take (half + (half - s))) c.copy_within.ensures.after ∙ twice) (halves n)

pub returns-in_default-clause-line : goal.returns-in_default-clause-line
returns-in_default-clause-line g t c =
    let s = c.args.start in
    let e = c.args.end in
    let n = c.args.times in
    let d = c.repeat_from-half.new.items in
    let half = c.repeat_from-half.result in
    let long : length d ≡ length c.args.items.now = search rules in
    let some : 1 ≤ n / 2 = omega arith in
    let far : e ≤ half = beyond s e n half c.requires.order some c.repeat_from-half.ensures.len in
    let fits : half + (half - s) ≤ length c.args.items.now = twice_fits s (e - s) n half _ c.repeat_from-half.ensures.len c.requires.room in
    c.put_odd.ensures.line ∙ ap (take e) c.copy_within.ensures.after ∙ front e half d (drop s d) (half - s) far (omega arith) ∙ c.repeat_from-half.ensures.line
