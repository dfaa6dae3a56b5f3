use Rattle.std.proofs.Common.{refl, sym, ◌∙◌}
use Rattle.jump_tables.proofs.Readings.{chose_some}
use Rattle.walks.proofs.Options.{located}
use Rattle.finalizing.proofs.Words.{no_call, calls, no_word_plain}
use Rattle.finalizing.proofs.last_words.ends_in_call.Goals as goal

pub returns-in-Some : goal.returns-in-Some
returns-in-Some c =
    calls _ _ c.args.end c.requires c.in-Some.word c.before_end.result c.branch_dest.result c.unwrap_or.result _ (sym (chose_some _ _ _ c.in-Some.ensures.value).1) (sym c.opcode.ensures ∙ c.if-opcode-eq-BRANCH.true) c.before_end.ensures c.branch_dest.ensures (c.unwrap_or.ensures ∙ located _ _ c.locate-target.ensures.value) c.is_function_reference.ensures

pub returns-in_default : goal.returns-in_default
returns-in_default c =
    no_call _ _ c.args.end c.requires c.in-Some.word (sym (chose_some _ _ _ c.in-Some.ensures.value).1) (λ e. c.if-opcode-eq-BRANCH.false (c.opcode.ensures ∙ e))

pub returns-in_default-2 : goal.returns-in_default-2
returns-in_default-2 c = no_call _ _ c.args.end c.requires _ refl (no_word_plain _ c.in_default.ensures.none)
