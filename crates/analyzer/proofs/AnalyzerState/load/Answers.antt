-- By what was lent.
use Rattle.analyzer.proofs.Spans.{lent_some, lent_none, lent_slices, none_lent}
use Rattle.analyzer.proofs.AnalyzerState.load.Goals as goal

pub returns-in-Some-clause-has : goal.returns-in-Some-clause-has
returns-in-Some-clause-has c cap es h = lent_some _ (c.in-Some.header, c.in-Some.numbers) (c.in-Some.ensures cap es h)

pub returns-in-Some-clause-lists : goal.returns-in-Some-clause-lists
returns-in-Some-clause-lists c cap es s h e =
    let l = lent_slices _ (c.in-Some.header, c.in-Some.numbers) s e (c.in-Some.ensures cap es h) in
    c.take_numbers.ensures s l.right l.header l.numbers

pub returns-in-None-clause-has : goal.returns-in-None-clause-has
returns-in-None-clause-has c cap es h = lent_none _ (c.in-None.ensures cap es h)

pub returns-in-None-clause-lists : goal.returns-in-None-clause-lists
returns-in-None-clause-lists c cap es s h e = absurd (none_lent _ s e (c.in-None.ensures cap es h))
