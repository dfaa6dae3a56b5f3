use Rattle.mapping.proofs.Answers.{short_mapped, long_refused}
use borrow.Author.Rules.{rules}
use Rattle.mapping.proofs.fmap_text.Goals as goal

pub returns-then-text-ge-TEXT_ROOM : goal.returns-then-text-ge-TEXT_ROOM
returns-then-text-ge-TEXT_ROOM c = search (rules, long_refused)

pub returns : goal.returns
returns c = search (rules, short_mapped)
