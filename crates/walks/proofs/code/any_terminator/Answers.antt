use Rattle.std.proofs.Common.{ℕ, ◌-◌, ◌/◌, ◌%◌, List, rules, tests, ap, sym, ◌∙◌}
use Rattle.std.proofs.lemmas.Iterator.{YieldsList-from_slice}
use Rattle.std.proofs.lemmas.Iterator.Search.{any_from_yields_List}
use Rattle.rules.specs.Words.{is_function_terminator}
use Rattle.obj_info.specs.Info.{image_of}
use Rattle.tables.proofs.Places.{any_is}
use Rattle.jump_tables.specs.Readings.{number_in}
use Rattle.walks.proofs.CodeWords.{any_between}
use Rattle.walks.proofs.code.any_terminator.Goals as goal

pub returns : goal.returns
returns c =
    any_from_yields_List (λ (w : List ℕ). is_function_terminator (number_in w)) _ _ _ c.any.ensures.ran (YieldsList-from_slice _ c.iter.ensures.rest) (λ x b q k. search (rules, tests)) ∙
    sym (any_is (λ (w : List ℕ). is_function_terminator (number_in w)) _) ∙
    any_between (image_of c.args.obj.now) c.words-words.result.now c.args.from c.args.to (c.saturating_sub.result / 4) (c.saturating_sub-2.result / 4) c.min-start.result c.min-end.result c.words-words.ensures
    (ap (λ (n : ℕ). n / 4) (c.saturating_sub.ensures ∙ ap (λ (b : ℕ). c.args.from % 0x1_0000_0000 - b) c.code.ensures.is.base))
    (ap (λ (n : ℕ). n / 4) c.saturating_sub-2.ensures)
    c.min-start.ensures c.min-end.ensures
