use Rattle.mapping.proofs.Answers.{zeros_sized}
use Rattle.mapping.proofs.map_image.Goals as goal

pub map_text-requires : goal.map_text-requires
map_text-requires c = record { sized = zeros_sized _ c.requires.room }

pub returns : goal.returns
returns c = c.map_text.ensures
