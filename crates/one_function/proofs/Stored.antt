-- How an analysis is stored, and what is answered.
use Rattle.std.proofs.Common.{◌≡◌, ℕ, ◌-◌, ◌<◌, ◌≤◌, refl, sym, ap, ap₂, ◌∙◌, List, ◌++◌, length, drop, replicate, Bool, arith}
use borrow.Author.Tests.{le-leb, lt-leb}
use Rattle.std.proofs.lemmas.List.{drop-replicate}
use Rattle.std.specs.Prelude.{Result, Ok, Err}
use Rattle.rules.specs.Choice.{if_true, if_false, Answer, ok, fault}
use Rattle.rules.specs.Loop.{result, number, bind_fails, if_fails}
use Rattle.rules.specs.Slices.{Slices}
use Rattle.rules.specs.Step.{Around}
use Rattle.rules.specs.Analyze as analysis
use Rattle.rules.specs.OneFunction as rules
use Rattle.rules.proofs.Faults.{Met, analyze_met}
use Rattle.faults.specs.declared.Fault.{Fault}
use Rattle.faults.specs.declared.Fault.TheVariants.{Limit}
use Rattle.faults.specs.Outcome.{answer}
use Rattle.walks.proofs.Steps.{after_ok, after_err}
use Rattle.numbers.specs.Stored.{header_of, header_len}
use Rattle.numbers.specs.declared.Header.{Header}
use Rattle.numbers.proofs.Columns.{numbers_long}
use Rattle.one_function.specs.declared.Function.{Function}
use Rattle.one_function.specs.Results.{analyzed, kept_in, Leaves, Answers, Finished, Told}

-- the numbers are as many as the header says
pub counted : (s : Slices) (h : Header) (n : ℕ) → h ≡ header_of s → n ≡ header_len h → n ≡ length (rules.numbers s)
counted s h n e f = f ∙ ap header_len e ∙ sym (numbers_long s)

module _ (s : Slices) (found : Bool) (n : ℕ) (count : n ≡ length (rules.numbers s)) (list : List ℕ) (clear : list ≡ replicate (length list) 0) where
  pub stored_not : length list < n → Finished (rules.stored (length list) (analyzed found s)) (length list) list (Err Limit)
  unfolding rules.stored
  stored_not h = record { leaves = rw (if_false (lt-leb (length (rules.numbers s)) (length list) (omega arith)) (ok (analyzed found s)) (fault 4)) (refl, clear) }

  pub stored_all : n ≤ length list → (h : Header) (out : List ℕ) → h ≡ header_of s → out ≡ rules.numbers s → Finished (rules.stored (length list) (analyzed found s)) (length list) (out ++ drop n list) (Ok (record { found = found; header = h }))
  unfolding rules.stored
  stored_all fits h out e f =
      record {
        leaves = rw (if_true (le-leb (length (rules.numbers s)) (length list) (omega arith)) (ok (analyzed found s)) (fault 4))
            (rw e refl, ap₂ (λ (a b : List ℕ). a ++ b) f (ap (drop n) clear ∙ drop-replicate n (length list) 0 ∙ ap (λ (k : ℕ). replicate (length list - k) 0) count));
      }

-- ---- of the walk

pub kept_fault : {a : Answer analysis.Analyzed} (room n : ℕ) (after : List ℕ) (r : Result Function Fault) → fault n ≡ a → answer r ≡ fault n → after ≡ replicate room 0 → Finished (kept_in room a) room after r
kept_fault room n after r e f z = record { leaves = rw (after_err (rules.stored room) e) (f, z) }

pub kept_ok : {a : Answer analysis.Analyzed} (room : ℕ) (x : analysis.Analyzed) (after : List ℕ) (r : Result Function Fault) → ok x ≡ a → Finished (rules.stored room x) room after r → Finished (kept_in room a) room after r
kept_ok room x after r e f = rw (after_ok (rules.stored room) e) f

-- a fault of the walk is none of 1 to 3
stored_met : (n : ℕ) (r : analysis.Analyzed) → Met (rules.stored n r)
unfolding rules.stored
stored_met n r = if_fails (λ _. result) (λ _. number (omega arith, omega arith))

told_as : (a : Answer analysis.Analyzed) → Met a → (before after : List ℕ) (r : Answer Function) → Leaves a (length before) after r → Answers a before after r
told_as (ok x) m before after r f = f
told_as (fault n) (number h) before after r f = (f.0, f.1 ∙ sym (if_false (lt-leb n 3 h.0) _ _))

pub told_walk : (e : Around) (k : ℕ) (s : Slices) (before after : List ℕ) (r : Result Function Fault) → Finished (kept_in (length before) (analysis.analyze e k s)) (length before) after r → Told (kept_in (length before) (analysis.analyze e k s)) before after r
told_walk e k s before after r f = record { answers = told_as _ (bind_fails (analyze_met e k s) (λ x. stored_met (length before) x)) before after _ f.leaves }
