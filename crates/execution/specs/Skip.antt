-- A walk that went over a stretch of plain words at once.
use Rattle.std.specs.Prelude.{ℕ, ◌&&◌}
use Rattle.rules.specs.Choice.{if}
use Rattle.rules.specs.Image.{index}
use Rattle.rules.specs.Plain.{leap}
use Rattle.rules.specs.Step.{Around, Walk, Place, idle, at, nowhere}
use Rattle.execution.specs.Spot.{is_spot, behind}
use Rattle.execution.specs.Stretch.{begins, stretch, how_many}

module _ (e : Around) where
  -- how many words from k on are gone over at once
  unfoldable pub at_once : ℕ → ℕ → Walk → ℕ
  at_once k b w =
      if (is_spot e.image k b && begins e.image w.visited (index e.image k))
      (stretch e.image w.visited (index e.image k) (how_many e w.slices k (behind e.image k)))
      0

  -- by the place
  abbrev pub skipped_at : Place → Walk → Walk
  skipped_at idle w = w
  skipped_at (at k b) w = leap e k b (at_once k b w) w
  skipped_at nowhere w = w

  unfoldable pub skipped : Walk → Walk
  skipped w = skipped_at w.place w
