-- The loop over the steps of a walk: what is left to do comes to the same, and the rules' own measure falls.
use Rattle.std.proofs.Common.{◌≡◌, ◌<◌, ◌≤◌, ℕ, refl, sym, ap, ◌∙◌, true, false, List}
use Rattle.rules.specs.Choice.{ok, fault, ◌>>=◌}
use Rattle.rules.specs.Known.{Entry}
use Rattle.rules.specs.Loop.{holds_at}
use Rattle.rules.specs.Step as steps
use Rattle.rules.specs.Walk as rules
use Rattle.rules.proofs.WalkEnds.{Sound, run_walk_step, run_walk_stop, walk_falls}
use Rattle.walks.specs.Around.{Knows, around_of}
use Rattle.walks.specs.declared.around.Around.{Around}
use Rattle.execution.specs.Skip.{skipped}
use Rattle.execution.proofs.Skips.{skipped_run, skipped_left, skipped_live}
use Rattle.execution.proofs.Words.{entries_in, known_in, sound_of}

-- the walk that is left from v on comes to what that from w does
pub record Goes (a : Around) (w v : steps.Walk) : Type 0 where
  pub same : (es : List Entry) → Knows a.known.now es → rules.run_walk (around_of a es) w ≡ rules.run_walk (around_of a es) v

module _ (a : Around) where
  pub sound : (es : List Entry) → Sound (around_of a es).image
  sound es = sound_of a.obj

  pub begun : (w : steps.Walk) → Goes a w w
  begun w = record { same = λ es knows. refl }

  module _ (w v : steps.Walk) (g : Goes a w v) where
    -- it ends where no step is left
    pub ended : rules.live v ≡ false → (es : List Entry) → Knows a.known.now es → ok v ≡ rules.run_walk (around_of a es) w
    ended h es knows = sym (g.same es knows ∙ run_walk_stop (around_of a es) (sound es) v h)

    module _ (h : rules.live v ≡ true) where
      first : (es : List Entry) → Knows a.known.now es → rules.run_walk (around_of a es) w ≡ (rules.step (around_of a es) v >>= rules.run_walk (around_of a es))
      first es knows = g.same es knows ∙ run_walk_step (around_of a es) (sound es) v h

      -- or with a fault
      pub stopped : (n : ℕ) (es : List Entry) → Knows a.known.now es → fault n ≡ rules.step (around_of a es) v → fault n ≡ rules.run_walk (around_of a es) w
      unfolding ◌>>=◌
      stopped n es knows e = sym (first es knows ∙ rw (← e) refl)

      module _ (u : steps.Walk) (e : (es : List Entry) → Knows a.known.now es → ok u ≡ rules.step (around_of a es) v) where
        pub turned : Goes a w u
        unfolding ◌>>=◌
        turned = record { same = λ es knows. first es knows ∙ rw (← e es knows) refl }

        pub less : rules.left (around_of a (entries_in a.known.now)) u < rules.left (around_of a (entries_in a.known.now)) v
        less =
            let es : List Entry = entries_in a.known.now in
            holds_at {P = λ t. rules.left (around_of a es) t < rules.left (around_of a es) v} (walk_falls (around_of a es) (sound es) v h tt) (sym (e es (known_in a.known.now)))

    -- a stretch was gone over before
    module _ (h : rules.live v ≡ true) (s : steps.Walk) (over : (es : List Entry) → Knows a.known.now es → s ≡ skipped (around_of a es) v) where
      pub still : Goes a w s
      still =
          record { same = λ es knows. g.same es knows ∙ sym (skipped_run (around_of a es) v (sound es)) ∙ ap (rules.run_walk (around_of a es)) (sym (over es knows)) }

      pub still_live : rules.live s ≡ true
      still_live = ap rules.live (over es known) ∙ skipped_live (around_of a es) v (sound es) h
        where
          es : List Entry
          es = entries_in a.known.now

          known : Knows a.known.now es
          known = known_in a.known.now

      pub no_more : rules.left (around_of a (entries_in a.known.now)) s ≤ rules.left (around_of a (entries_in a.known.now)) v
      no_more = rw (over (entries_in a.known.now) (known_in a.known.now)) (skipped_left (around_of a (entries_in a.known.now)) v (sound (entries_in a.known.now)))
