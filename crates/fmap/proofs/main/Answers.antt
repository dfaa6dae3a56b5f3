use Prim.Native.Nat.{ℕ}
use lib.ListN.{length-replicate}
use Rattle.fmap.proofs.main.Goals as goal

pub write_map-requires : goal.write_map-requires
write_map-requires c = record { text_room = length-replicate {A = ℕ} 1048576 0; map_room = length-replicate {A = ℕ} 1489000 0 }
