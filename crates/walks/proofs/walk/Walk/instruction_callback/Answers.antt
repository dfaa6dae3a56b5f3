use Rattle.std.proofs.Common.{ap, sym, ◌∙◌}
use Rattle.std.proofs.lemmas.Result.{err_from_is_err_and}
use Rattle.rules.specs.Image.{Told}
use Rattle.walks.specs.Around.{around_of}
use Rattle.walks.specs.State.{walk_of}
use Rattle.obj_info.proofs.Lookups.{address_small}
use Rattle.walks.proofs.PlainWords.{split}
use Rattle.walks.proofs.Steps.{after_ok, after_err}
use Rattle.walks.proofs.walk.Walk.instruction_callback.Goals as goal

pub do_word-requires : goal.do_word-requires
do_word-requires c = address_small _ c.args.around.now.obj.checked _ c.args.around.now.obj.is_code _ c.requires

pub returns-in_err-note : goal.returns-in_err-note
returns-in_err-note c = λ es knows.
    let p = err_from_is_err_and c.from_residual.result c.from_residual.ensures.1 in
    rw (p.1, p.2)
    (sym (split (around_of c.args.around.now es) _ _ (walk_of c.args.self.now) ∙ after_err _ (c.in_err-note.ensures c.word_in-word.ensures (ap (λ (t : Told). t.mark) c.told_at-told.ensures))))

pub returns : goal.returns
returns c = λ es knows.
    c.do_word.ensures es knows c.word_in-word.ensures (ap (λ (t : Told). t.outcome) c.told_at-told.ensures) ∙
    sym (split (around_of c.args.around.now es) _ _ (walk_of c.args.self.now) ∙ after_ok _ (c.in_ok-note.ensures c.word_in-word.ensures (ap (λ (t : Told). t.mark) c.told_at-told.ensures)))
