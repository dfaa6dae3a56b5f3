use Rattle.obj.proofs.Seen.{code_address}
use borrow.Author.Rules.{rules}
use Rattle.obj.proofs.symbols.is_code_address.Goals as goal

-- `obj::symbols::is_code_address` is that the code section of `rules` contains it. Assumes nothing.
pub returns : goal.returns
returns c = search (rules, code_address)
