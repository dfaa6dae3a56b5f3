use Rattle.std.proofs.Common.{◌≤◌, length, take, ap, arith}
use lib.Seq.{length-take-le}
use Rattle.printing.proofs.Maps.{few, there, answer_room, map_room, map_begun}
use borrow.Author.Rules.{rules}
use Rattle.printing.proofs.put_map.Goals as goal

pub put_answer-requires-clause-room : goal.put_answer-requires-clause-room
put_answer-requires-clause-room c = answer_room _ _ c.new-text.ensures.lent c.new-text.ensures.empty _ (omega (arith, c.requires.room))

pub slice_bounds-put_entries-end : goal.slice_bounds-put_entries-end
slice_bounds-put_entries-end c =
    let t = c.requires.map in
    let h : c.args.count ≤ length c.as_chunks.result.0.now = omega (arith, few _ _ _ t.entries t.tells, c.as_chunks.ensures.front_len) in
    omega (arith, length-take-le c.args.count c.as_chunks.result.0.now h)

pub put_entries-requires-clause-there : goal.put_entries-requires-clause-there
put_entries-requires-clause-there c = let t = c.requires.map in there _ _ _ t.entries t.tells _ (ap (take c.args.count) c.as_chunks.ensures.front)

pub put_entries-requires-clause-room : goal.put_entries-requires-clause-room
put_entries-requires-clause-room c =
    map_room _ _ c.new-text.ensures.lent c.new-text.ensures.empty _ _ _ c.requires.room _ (ap (take c.args.count) c.as_chunks.ensures.front) _ c.put_answer.ensures c.requires.map

pub returns : goal.returns
returns c =
    map_begun _ _ c.new-text.ensures.lent c.new-text.ensures.empty _ _ _ c.requires.room _ (ap (take c.args.count) c.as_chunks.ensures.front) _ c.put_answer.ensures _ _ c.put_entries.new.text (search rules) c.len.ensures c.put_entries.ensures
