use Rattle.std.proofs.Common.{◌∙◌, sym, ap, ◌%◌, ◌&&◌, Bool, eqb}
use Rattle.one_function.proofs.Checked.{start_is}
use Rattle.one_function.proofs.asked.is_start.Goals as goal

pub returns-then-is_code_address : goal.returns-then-is_code_address
returns-then-is_code_address c =
    sym (ap (λ (b : Bool). b && eqb (c.args.start % 4) 0) c.if-is_code_address.true) ∙ start_is _ _ _ c.is_code_address.ensures

pub returns-else-is_code_address : goal.returns-else-is_code_address
returns-else-is_code_address c =
    c.if-is_code_address.false ∙ sym (ap (λ (b : Bool). b && eqb (c.args.start % 4) 0) c.if-is_code_address.false) ∙ start_is _ _ _ c.is_code_address.ensures
