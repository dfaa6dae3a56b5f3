use Rattle.std.proofs.Common.{refl}
use Rattle.obj_image.proofs.CheckImage.{few_of}
use Rattle.obj_info.specs.Info.{table_lent}
use Rattle.obj_info.proofs.Lookups.{part_end, section_found}
use Rattle.obj_info.proofs.Tables.{image_passes}
use Rattle.obj_info.proofs.info.TableInfo.section_at.Goals as goal

pub section_of-part-requires : goal.section_of-part-requires
section_of-part-requires c = few_of _ c.args.self.now.passed

pub bytes_of-requires : goal.bytes_of-requires
bytes_of-requires c = part_end _ (image_passes _ _ _ c.args.self.now.passed) _ _ (c.section_of-part.ensures (table_lent c.args.self.now) refl)

pub returns : goal.returns
returns c = section_found _ (image_passes _ _ _ c.args.self.now.passed) _ _ (c.section_of-part.ensures (table_lent c.args.self.now) refl) _ _ c.of.ensures c.bytes_of.ensures
