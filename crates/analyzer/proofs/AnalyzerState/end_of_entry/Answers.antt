use Rattle.std.proofs.Common.{ap, ◌∙◌}
use Rattle.obj_info.specs.Info.{some_nonzero}
use Rattle.slices.specs.Some.{or_zero}
use Rattle.analyzer.proofs.Lookups.{end_is}
use Rattle.analyzer.proofs.AnalyzerState.end_of_entry.Goals as goal

pub returns : goal.returns
returns c cap lists es h = c.nonzero.ensures ∙ ap (λ o. some_nonzero (or_zero o)) c.get.ensures ∙ ap some_nonzero (end_is h c.args.key)
