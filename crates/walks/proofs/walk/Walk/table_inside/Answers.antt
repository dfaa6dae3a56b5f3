use Rattle.std.proofs.Common.{◌≡◌, ℕ, rules, tests, ◌+◌, ◌&&◌, leb, ltb, sym, ap, ◌∙◌}
use Rattle.std.specs.Prelude.{max}
use Rattle.std.proofs.lemmas.Iterator.{YieldsList-from_slice}
use Rattle.std.proofs.lemmas.Iterator.Search.{any_from_yields_List}
use Rattle.rules.specs.Blocks.{last_start}
use Rattle.rules.specs.Step.{table_inside}
use Rattle.slices.specs.View.{slices_of}
use Rattle.tables.proofs.Places.{any_is}
use Rattle.walks.proofs.Options.{unwrapped_zero}
use Rattle.walks.proofs.Tabled.{any_same, under_either}
use Rattle.walks.proofs.walk.Walk.table_inside.Goals as goal

pub returns : goal.returns
unfolding table_inside
returns c = λ es.
    let first : c.unwrap_or.result ≡ last_start (slices_of c.args.self.now.slices).blocks = c.unwrap_or.ensures ∙ sym (unwrapped_zero c.last_start.result) ∙ c.last_start.ensures.start in
    let last : c.max-last.result ≡ max (last_start (slices_of c.args.self.now.slices).blocks) (c.args.addr + 4) = c.max-last.ensures ∙ ap (λ (a : ℕ). max a (c.args.addr + 4)) first in
    any_from_yields_List (λ (x : ℕ). ltb c.args.around.now.start x && leb x c.max-last.result) _ _ _ c.any.ensures.ran (YieldsList-from_slice _ c.iter.ensures.rest) (λ x b q k. search (rules, tests)) ∙
    sym (any_is _ _) ∙
    any_same _ _ (λ x. ap (λ b. ltb c.args.around.now.start x && b) (ap (leb x) last ∙ under_either x _ _)) c.args.entries.now
