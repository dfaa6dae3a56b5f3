use Rattle.mapping.proofs.Answers.{text_mapped, room_enough, in_room}
use Rattle.mapping.proofs.map_text.Goals as goal

pub map_read-requires : goal.map_read-requires
map_read-requires c = record { fit = c.read_image-q.ensures.kept.fit; room = room_enough _ _ _ _ _ _ _ _ _ _ c.requires.sized }

pub returns : goal.returns
returns c = in_room _ _ _ _ _ _ _ _ _ _ c.requires.sized _ _ _ (text_mapped _ _ _ _ _ _ _ _ _ _ _ _ _ _ _ _ _ _ _ _ c.read_image-q.ensures c.map_read.ensures)
