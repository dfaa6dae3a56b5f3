-- The loop over possible blocks: what is left to do comes to the same, and less is left to settle.
use Rattle.std.proofs.Common.{◌≡◌, ℕ, ◌<◌, ◌≤◌, Bool, true, false, List, [], length, refl, sym, ap, ◌∙◌, ne_eqb}
use Rattle.std.specs.Prelude.{Some, None}
use Rattle.rules.specs.Choice.{ok, fault, ◌>>=◌}
use Rattle.rules.specs.Loop.{holds_at, loop_stop}
use Rattle.rules.specs.Known.{Entry}
use Rattle.rules.specs.Slices.{Slices}
use Rattle.rules.specs.Step as steps
use Rattle.rules.specs.Settle as rules
use Rattle.rules.proofs.SettlingEnds.{Few, settle_all_step, unsettled_falls}
use Rattle.obj_info.specs.Info.{some_nonzero}
use Rattle.walks.specs.Around.{Knows, around_of}
use Rattle.walks.specs.declared.around.Around.{Around}
use Rattle.walks.proofs.Options.{found, not_found}
use Rattle.walks.proofs.Steps.{after_ok, after_err}
use Rattle.passes.proofs.Images.{aimed_of}
use Rattle.passes.proofs.Loops.{goes_on, fails, entries_of, knows}
use Rattle.settling.specs.Settled.{settled_block, settled}

-- how much is left, whatever functions are known
abbrev pub left : Around → ℕ → Bool → rules.Settling → ℕ
left a low last t = rules.unsettled (around_of a []) low last t

-- ---- whether one is left

module _ (t : rules.Settling) where
  pub none_left : None ≡ some_nonzero (rules.next_possible_block t) → rules.is_unsettled t ≡ false
  unfolding rules.is_unsettled
  none_left h = rw (not_found _ h) refl

  module _ (k : ℕ) (next : Some k ≡ some_nonzero (rules.next_possible_block t)) where
    pub one_left : rules.is_unsettled t ≡ true
    unfolding rules.is_unsettled
    one_left = rw (ne_eqb (rules.next_possible_block t) 0 (found _ _ next).1) refl

    pub its_step : (e : steps.Around) (low : ℕ) (last : Bool) → settled_block e low last k t.slices ≡ rules.settle_step e low last t
    unfolding settled_block rules.settle_step
    its_step e low last = ap (λ (n : ℕ). settled_block e low last n t.slices) (sym (found _ _ next).0)

-- ---- one turn

module _ (a : Around) (low : ℕ) (last : Bool) (t : rules.Settling) (few : length t.slices.possible_blocks ≤ 128) (k : ℕ) (next : Some k ≡ some_nonzero (rules.next_possible_block t)) where
  few_here : (es : List Entry) → Few (around_of a es) low last (aimed_of a.obj) t
  few_here es = record { few = few }

  again : (es : List Entry) → rules.settle_all (around_of a es) low last t ≡ (rules.settle_step (around_of a es) low last t >>= rules.settle_all (around_of a es) low last)
  again es = settle_all_step (around_of a es) low last (aimed_of a.obj) t (one_left t k next) (few_here es)

  module _ (u : rules.Settling) (made : (es : List Entry) → Knows a.known.now es → ok u ≡ settled_block (around_of a es) low last k t.slices) where
    pub less_left : left a low last u < left a low last t
    unfolding rules.unsettled
    less_left =
        let es = entries_of a.known.now in
        holds_at (unsettled_falls (around_of a es) low last (aimed_of a.obj) t (one_left t k next) (few_here es)) (sym (made es (knows a.known.now) ∙ its_step t k next (around_of a es) low last))

    pub turned : (es : List Entry) (s : rules.Settling) → Knows a.known.now es → rules.settle_all (around_of a es) low last t ≡ rules.settle_all (around_of a es) low last s → rules.settle_all (around_of a es) low last u ≡ rules.settle_all (around_of a es) low last s
    turned es s known same =
        let e = around_of a es in
        goes_on (rules.settle_all e low last) (rules.settle_step e low last) s t same (again es) u (made es known ∙ its_step t k next e low last)

  pub failed_whole : (n : ℕ) (es : List Entry) (s : rules.Settling) → fault n ≡ settled_block (around_of a es) low last k t.slices → rules.settle_all (around_of a es) low last t ≡ rules.settle_all (around_of a es) low last s → fault n ≡ rules.settle_all (around_of a es) low last s
  failed_whole n es s h same =
      let e = around_of a es in
      fails (rules.settle_all e low last) (rules.settle_step e low last) s t same (again es) n (h ∙ its_step t k next e low last)

  -- of the lists alone
  pub failed : (n : ℕ) (es : List Entry) (s : Slices) → fault n ≡ settled_block (around_of a es) low last k t.slices → rules.settle_all (around_of a es) low last t ≡ rules.settle_all (around_of a es) low last (rules.settling s low) → fault n ≡ settled (around_of a es) low last s
  unfolding settled
  failed n es s h same = sym (after_err _ (failed_whole n es (rules.settling s low) h same))

-- none is left
pub ended_whole : (e : steps.Around) (low : ℕ) (last : Bool) (t s : rules.Settling) → None ≡ some_nonzero (rules.next_possible_block t) → rules.settle_all e low last t ≡ rules.settle_all e low last s → ok t ≡ rules.settle_all e low last s
unfolding rules.settle_all
ended_whole e low last t s h same =
    sym (loop_stop rules.is_unsettled (rules.settle_step e low last) (rules.unsettled e low last) t (none_left t h)) ∙ same

-- of the lists alone
pub ended : (e : steps.Around) (low : ℕ) (last : Bool) (t : rules.Settling) (s : Slices) → None ≡ some_nonzero (rules.next_possible_block t) → rules.settle_all e low last t ≡ rules.settle_all e low last (rules.settling s low) → ok t.slices ≡ settled e low last s
unfolding settled
ended e low last t s h same = sym (after_ok _ (ended_whole e low last t (rules.settling s low) h same))
