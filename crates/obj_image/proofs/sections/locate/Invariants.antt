use Rattle.std.proofs.Common.{◌≡◌, ◌+◌, map, drop}
use Rattle.obj_image.specs.Sections.{read_row}
use Rattle.obj_image.proofs.SectionRows.{locate_in}
use Rattle.obj_image.proofs.sections.locate.Given as goal

abbrev pub invariant-loop-row : goal.invariant-loop-row
invariant-loop-row l = (l.number ≡ l.row-index + 1) × (locate_in l.number (map read_row (drop l.row-index l.rows)) l.a ≡ locate_in 1 (map read_row l.rows) l.a)
