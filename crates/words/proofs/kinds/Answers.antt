use Rattle.std.proofs.Common.{rules, ap, ◌∙◌, filter}
use Rattle.arrayvec.proofs.ArrayVecLemmas.{filter-from_retain}
use Rattle.words.specs.Kinds.{is_kind}
use Rattle.words.proofs.kinds.Goals as goal

pub returns : goal.returns
returns c =
    filter-from_retain _ _ _ (λ x b f' y called. search rules) _ _ c.retain.ensures.filtered ∙ ap (filter (λ k. is_kind k c.args.word)) c.from-kinds.ensures.0
