use borrow.Author.Rules.{rules}
use Rattle.tail_calls.proofs.Among.{no_prologue}
use Rattle.tail_calls.proofs.before.begins_prologue.Goals as goal

pub returns : goal.returns
returns c = search (rules, no_prologue)
