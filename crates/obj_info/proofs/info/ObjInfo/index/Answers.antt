use Rattle.std.proofs.Common.{sym, ◌∙◌}
use Rattle.rules.specs.Choice.{if_false}
use Rattle.obj_info.proofs.Lookups.{within, address_low, index_found, index_small}
use Rattle.obj_info.proofs.info.ObjInfo.index.Goals as goal

pub overflow_sub-result : goal.overflow_sub-result
overflow_sub-result c = rw c.address_of.ensures (address_low _ c.args.self.now.checked _ c.args.self.now.is_code _ (within _ c.args.self.now.checked _ c.args.self.now.is_code _ (sym c.is_code_address.ensures ∙ c.if-is_code_address.true)))

pub returns-then-is_code_address-clause-value : goal.returns-then-is_code_address-clause-value
returns-then-is_code_address-clause-value c = rw c.address_of.ensures (index_found _ c.args.self.now.checked _ c.args.self.now.is_code _ (sym c.is_code_address.ensures ∙ c.if-is_code_address.true))

pub returns-then-is_code_address-clause-bound : goal.returns-then-is_code_address-clause-bound
returns-then-is_code_address-clause-bound c = rw c.address_of.ensures (index_small _ c.args.self.now.checked _ c.args.self.now.is_code _ (within _ c.args.self.now.checked _ c.args.self.now.is_code _ (sym c.is_code_address.ensures ∙ c.if-is_code_address.true)))

pub returns-else-is_code_address-clause-value : goal.returns-else-is_code_address-clause-value
returns-else-is_code_address-clause-value c = sym (if_false (sym c.is_code_address.ensures ∙ c.if-is_code_address.false) _ _)
