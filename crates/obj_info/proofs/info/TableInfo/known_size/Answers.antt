use Rattle.std.proofs.Common.{refl, sym, ◌∙◌, arith}
use Rattle.obj_image.proofs.CheckImage.{few_of}
use Rattle.obj_info.proofs.Lookups.{none_found, one_found}
use Rattle.obj_info.specs.Info.{table_lent}
use Rattle.obj_info.proofs.info.TableInfo.known_size.Goals as goal

pub known_size-requires-clause-few : goal.known_size-requires-clause-few
known_size-requires-clause-few c = few_of _ c.args.self.now.passed

pub known_size-requires-clause-objects : goal.known_size-requires-clause-objects
known_size-requires-clause-objects c = c.args.self.now.objects_ascend

pub returns-in-0 : goal.returns-in-0
returns-in-0 c = none_found _ (sym c.in-0.is ∙ c.known_size.ensures (table_lent c.args.self.now) refl)

pub returns-in_default : goal.returns-in_default
returns-in_default c = one_found _ _ (c.known_size.ensures (table_lent c.args.self.now) refl) (omega arith)
