-- Every loop of a run ends, in one statement: from each state that `detect` brings it to, a loop comes to its answer step by step, with no bound.
use Prim.Native.Nat.{ℕ, ◌-◌, ◌≤◌}
use mathlib.Core.Path.{◌≡◌, sym, subst}
use mathlib.Core.Bool.{Bool, true, false}
use mathlib.Core.List.{List}
use lib.ListN.{length}
use Rattle.rules.specs.Loop.{Comes, loop_comes, Holds, map_holds, trivial, run}
use Rattle.rules.specs.Image.{Image}
use Rattle.rules.specs.Known.{Entry}
use Rattle.rules.specs.Step.{Around, Walk}
use Rattle.rules.specs.Walk as Exec
use Rattle.rules.specs.Analyze
use Rattle.rules.specs.Settle
use Rattle.rules.specs.Settle.{Settling}
use Rattle.rules.specs.Map
use Rattle.rules.specs.Map.{Capacity, Round}
use Rattle.rules.proofs.WalkEnds.{Sound, walk_falls}
use Rattle.rules.proofs.Keeps.{Aimed}
use Rattle.rules.proofs.PassesEnd.{connect_falls, reach_falls}
use Rattle.rules.proofs.SkipsEnd.{skip_nops_ends, padding_ends}
use Rattle.rules.proofs.SettlingEnds.{Few, few_kept, unsettled_falls}
use Rattle.rules.proofs.Placed.{Checked, Table}
use Rattle.rules.proofs.Rounds.{Sane, rounds, last_rounds, process_step_sane, process_falls, last_sane, last_falls, process_functions_processed}
use Rattle.rules.proofs.Demand3.{walk_given_table}

pub record LoopsEnd (im : Image) (cap : Capacity) (checked : Checked im) : Type 0 where
  -- Executor::run, from any state
  pub walk : (e : Around) → e.image ≡ im → (w : Walk) → Comes Exec.live (Exec.step e) w (Exec.run_walk e w)
  -- the two loops of `analyze`, from any state
  pub connect : (e : Around) → e.image ≡ im → (w : Walk) → Comes (Analyze.is_disconnected e) (Analyze.connect_step e) w (Analyze.connect e w)
  pub reach_end : (e : Around) → e.image ≡ im → (w : Walk) → Comes (Analyze.is_short e) (Analyze.reach_step e) w (Analyze.reach_end e w)
  -- the two loops that step over words, `nop` and padding
  pub nops : (e : Around) (a : ℕ) → Analyze.at_nop e (Analyze.skip_nops e a) ≡ false
  pub padding : (end a : ℕ) → Map.is_padding im cap end (run (Map.is_padding im cap end) (Map.skip_zero im cap) (λ x. end - x) a) ≡ false
  -- the possible blocks of one function: an entry of a table has at most 128 (Owned, in proofs/Settled.antt)
  pub settle : (e : Around) → e.image ≡ im → (low : ℕ) (final : Bool) (t : Settling) → length t.slices.possible_blocks ≤ 128 → Comes Settle.is_unsettled (Settle.settle_step e low final) t (Settle.settle_all e low final t)
  -- the rounds, from a table of entries
  pub process : (r : Round) → Table im false true r.entries → Comes Map.is_changed (Map.process_step im cap) r (rounds im checked cap r)
  pub last : (r : Round) → Table im false true r.entries → Comes Map.is_changed (Map.last_step im cap) r (last_rounds im checked cap r)
  -- and such a table is what `detect` starts the rounds from, and what they hand on
  pub started : Holds (Table im false true) (Map.walk_given im cap)
  pub processed : (es : List Entry) → Table im false true es → Holds (Table im false true) (Map.process_functions im cap es)

module _ (im : Image) where
  walk_comes : Sound im → (e : Around) → e.image ≡ im → (w : Walk) → Comes Exec.live (Exec.step e) w (Exec.run_walk e w)
  unfolding Exec.run_walk
  walk_comes s e q w =
      loop_comes Exec.live (Exec.step e) (λ _. Unit {0}) (λ _ _ _. trivial _) (Exec.left e) (walk_falls e (subst Sound (sym q) s)) w tt

  connect_comes : Sound im → Aimed im → (e : Around) → e.image ≡ im → (w : Walk) → Comes (Analyze.is_disconnected e) (Analyze.connect_step e) w (Analyze.connect e w)
  unfolding Analyze.connect
  connect_comes s g e q w =
      loop_comes (Analyze.is_disconnected e) (Analyze.connect_step e) (λ _. Unit {0}) (λ _ _ _. trivial _) (Analyze.passes_left e)
      (connect_falls e (subst Sound (sym q) s) (subst Aimed (sym q) g)) w tt

  reach_comes : Sound im → Aimed im → (e : Around) → e.image ≡ im → (w : Walk) → Comes (Analyze.is_short e) (Analyze.reach_step e) w (Analyze.reach_end e w)
  unfolding Analyze.reach_end
  reach_comes s g e q w =
      loop_comes (Analyze.is_short e) (Analyze.reach_step e) (λ _. Unit {0}) (λ _ _ _. trivial _) (Analyze.passes_left e)
      (reach_falls e (subst Sound (sym q) s) (subst Aimed (sym q) g)) w tt

  settle_comes : Aimed im → (e : Around) → e.image ≡ im → (low : ℕ) (final : Bool) (t : Settling) → length t.slices.possible_blocks ≤ 128 → Comes Settle.is_unsettled (Settle.settle_step e low final) t (Settle.settle_all e low final t)
  unfolding Settle.settle_all
  settle_comes g e q low final t few =
      let h : Aimed e.image = subst Aimed (sym q) g in
      loop_comes Settle.is_unsettled (Settle.settle_step e low final) (Few e low final h) (few_kept e low final h) (Settle.unsettled e low final)
      (unsettled_falls e low final h) t (record { few = few })

  -- for every image that passes the checks, and every capacity
  pub loops_end : (cap : Capacity) (checked : Checked im) → LoopsEnd im cap checked
  loops_end cap checked =
      record {
        walk = walk_comes checked.sound;
        connect = connect_comes checked.sound checked.aimed;
        reach_end = reach_comes checked.sound checked.aimed;
        nops = skip_nops_ends;
        padding = padding_ends im cap;
        settle = settle_comes checked.aimed;
        process = λ r m. loop_comes Map.is_changed (Map.process_step im cap) (Sane im checked cap) (process_step_sane im checked cap) Map.rounds_left (process_falls im checked cap) r (record { late = m });
        last = λ r m. loop_comes Map.is_changed (Map.last_step im cap) (Sane im checked cap) (last_sane im checked cap) Map.rounds_left (last_falls im checked cap) r (record { late = m });
        started = walk_given_table im cap checked;
        processed = λ es m. map_holds (process_functions_processed im checked cap es m) (λ fs p. p.late);
      }
