use Rattle.std.proofs.Common.{sym}
use Rattle.walks.proofs.Entries.{has_entry}
use Rattle.walks.proofs.around.Around.has_entry.Goals as goal

pub returns : goal.returns
returns c = λ es knows. sym (has_entry _ es _ knows _ c.contains_key.ensures.value)
