use Rattle.obj.proofs.Numbers.{rest_is}
use Rattle.obj.proofs.checks.check_rest.Goals as goal

-- `obj::checks::check_rest` is `check_rest` of `rules`. Assumes nothing.
pub returns : goal.returns
returns c = rest_is _ c.args.functions.now c.args.objects.now c.args.skips.now c.args.entry.now _ _ _ _ c.are_functions.ensures c.are_objects.ensures c.are_skips.ensures c.are_entries.ensures
