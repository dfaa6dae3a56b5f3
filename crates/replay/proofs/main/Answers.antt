use Prim.Native.Nat.{ℕ}
use lib.ListN.{length-replicate}
use Rattle.replay.proofs.main.Goals as goal

pub replay-requires : goal.replay-requires
replay-requires c = record { text_room = length-replicate {A = ℕ} 1114112 0; map_room = length-replicate {A = ℕ} 1489000 0 }
