use Rattle.std.proofs.Common.{ap, ◌∙◌}
use Rattle.analyzer.specs.Placed.{infos_long}
use Rattle.analyzer.proofs.Flat.{infos_are}
use Rattle.analyzer.proofs.AnalyzerState.numbers_len.Goals as goal

pub returns : goal.returns
returns c cap lists es h = c.total_len.ensures.value ∙ ap infos_long (c.deref.ensures.0 ∙ h.infos) ∙ infos_are es
