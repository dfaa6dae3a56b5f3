use Rattle.std.proofs.Common.{◌≡◌, length, arith}
use lib.Seq.{length-take-le}
use Rattle.rules.specs.OneFunction.{numbers}
use Rattle.slices.specs.View.{slices_of}
use Rattle.one_function.proofs.Stored.{counted, stored_not, stored_all}
use Rattle.one_function.proofs.store.Goals as goal

pub returns-then-list-count : goal.returns-then-list-count
returns-then-list-count c =
    stored_not _ _ _ (counted _ _ _ c.of-header.ensures.header c.len-count.ensures.value) _ c.requires c.if-list-count.true

pub put_numbers-requires : goal.put_numbers-requires
put_numbers-requires c =
    let n : c.len-count.result ≡ length (numbers (slices_of c.args.slices.now)) = counted _ _ _ c.of-header.ensures.header c.len-count.ensures.value in
    record { len = omega (arith, length-take-le c.len-count.result c.args.list.now c.if-list-count.false) }

pub returns : goal.returns
returns c =
    stored_all _ _ _ (counted _ _ _ c.of-header.ensures.header c.len-count.ensures.value) _ c.requires c.if-list-count.false _ _ c.of-header.ensures.header c.put_numbers.ensures
