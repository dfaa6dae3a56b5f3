use Rattle.mapping.proofs.Answers.{told_shows, told_showing, told_room}
use borrow.Author.Rules.{rules}
use Rattle.mapping.proofs.map_lists.Goals as goal

pub print_answer-requires : goal.print_answer-requires
print_answer-requires c = let t = c.detect_functions-found.ensures.told in
    record { shown = told_showing _ _ _ _ _ _ _ t; room = told_room _ _ _ _ _ _ _ t (search rules) (search rules) c.requires.room }

pub returns : goal.returns
returns c = c.print_answer.ensures _ (told_shows _ _ _ _ _ _ _ c.detect_functions-found.ensures.told)
