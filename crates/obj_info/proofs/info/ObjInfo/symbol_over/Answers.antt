use Rattle.std.proofs.Common.{refl, sym, ◌∙◌, arith}
use Rattle.obj.proofs.Ready.{whole_functions, functions_rise}
use Rattle.obj_info.proofs.Lookups.{none_found, one_found}
use Rattle.obj_info.specs.Info.{lent_of}
use Rattle.obj_info.proofs.info.ObjInfo.symbol_over.Goals as goal

pub symbol_over-requires : goal.symbol_over-requires
symbol_over-requires c = (whole_functions _ c.args.self.now.checked, functions_rise _ c.args.self.now.checked)

pub returns-in-0 : goal.returns-in-0
returns-in-0 c = λ e i. none_found _ (sym c.in-0.is ∙ c.symbol_over.ensures (lent_of c.args.self.now) e refl c.args.self.now.is_code i)

pub returns-in_default : goal.returns-in_default
returns-in_default c = λ e i. one_found _ _ (c.symbol_over.ensures (lent_of c.args.self.now) e refl c.args.self.now.is_code i) (omega arith)
