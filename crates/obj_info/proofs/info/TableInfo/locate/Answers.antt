use Rattle.std.proofs.Common.{refl, sym, ◌∙◌, arith}
use Rattle.obj_image.proofs.CheckImage.{few_of}
use Rattle.obj_info.specs.Info.{table_lent}
use Rattle.obj_info.proofs.Lookups.{none_found, one_found, located_low}
use Rattle.obj_info.proofs.Tables.{image_passes}
use Rattle.obj_info.proofs.info.TableInfo.locate.Goals as goal

pub locate-requires : goal.locate-requires
locate-requires c = few_of _ c.args.self.now.passed

pub returns-in-0-clause-value : goal.returns-in-0-clause-value
returns-in-0-clause-value c = none_found _ (sym c.in-0.is ∙ c.locate.ensures _ refl)

pub returns-in_default-clause-value : goal.returns-in_default-clause-value
returns-in_default-clause-value c = one_found _ _ (c.locate.ensures _ refl) (omega arith)

pub returns-in_default-clause-low : goal.returns-in_default-clause-low
returns-in_default-clause-low c =
    let passed = image_passes _ _ c.args.self.now.objects.now c.args.self.now.passed in
    omega (arith, c.locate.ensures (table_lent c.args.self.now) refl, located_low (table_lent c.args.self.now) passed c.args.a (omega arith))
