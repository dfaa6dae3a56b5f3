use Rattle.std.proofs.Common.{◌-◌, length, drop, subst, arith, length-take}
use Rattle.std.proofs.KnownBytes.{Appends-trans}
use Rattle.std.specs.Io.KnownBytes.{Appends}
use Rattle.streams.proofs.Parts.{take_joined}
use Rattle.streams.proofs.fixed_writer.write_out.Goals as goal

pub loop-count-preserved : goal.loop-count-preserved
loop-count-preserved g c =
    let done = c.loop-count.count in
    let xs = c.args.bytes.now in
    let fits = c.in-Ok.ensures.bound in
    let most = length-take (length xs - done) (drop done xs) in (
      omega arith,
      subst (Appends _ _) (take_joined done c.in-Ok.more xs (omega arith))
          (Appends-trans _ _ _ _ _ c.loop-count.invariant.1 c.in-Ok.ensures.bytes),
    )
