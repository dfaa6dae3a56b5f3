use Rattle.std.proofs.Common.{arith}
use Rattle.slices.specs.View.{slices_of}
use Rattle.walks.specs.Around.{around_of}
use Rattle.tail_calls.proofs.Referred.{between, none_between}
use Rattle.tail_calls.proofs.before.is_referred.Goals as goal

pub returns : goal.returns
returns c = λ es knows.
    let some = c.in-Some.ensures in
    between (around_of c.args.around.now es) c.args.addr (slices_of c.args.slices.now) c.in-Some.low _ _ (omega (arith, some)) c.any_function_reference.ensures (c.any_between.ensures es knows)

pub returns-in_default : goal.returns-in_default
returns-in_default c = λ es knows.
    let none = c.in_default.ensures in
    none_between (around_of c.args.around.now es) c.args.addr (slices_of c.args.slices.now) (omega (arith, none))
