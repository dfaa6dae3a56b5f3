-- FunctionSlices::check_tail_call: whether a possible block is one of the function's or a function of its own.
use Rattle.std.specs.Prelude.{ℕ, ◌+◌, ◌-◌, ◌/◌, Bool, ◌&&◌, ◌||◌, not, ltb, leb, eqb}
use Rattle.rules.specs.Choice.{if, Answer, ok, fault, any, filter}
use Rattle.rules.specs.Ordered.{has}
use Rattle.rules.specs.Address.{address_of, section_of}
use Rattle.rules.specs.Image
use Rattle.rules.specs.Sequences.{prologue_among}
use Rattle.rules.specs.Blocks.{start_of, first_start, last_end}
use Rattle.rules.specs.Slices.{Slices, with_only, with_possible_blocks}
use Rattle.rules.specs.Known.{any_between}
use Rattle.rules.specs.Step.{Around}
use Rattle.rules.specs.Analyze.{Analyzed, analyze}

-- a tail call: a function of its own
pub data TailCall : Type 0 where
  is_not is possibly : TailCall

-- the answer, and the function's lists: other possible blocks may be gone from them
pub record Verdict : Type 0 where
  pub answer : TailCall
  pub slices : Slices

-- an answer
abbrev pub verdict : TailCall → Slices → Answer Verdict
verdict a s = ok (record { answer = a; slices = s })

-- these faults of the trial end the whole run; at the others nothing is known
abbrev pub ends_run : ℕ → Bool
ends_run n = eqb n 4 || eqb n 10 || eqb n 16

module _ (e : Around) where
  -- ---- the trial walk

  -- the trial has a prologue, or a load of r1: a function
  abbrev pub own_word : Slices → TailCall
  own_word t = if (not (eqb t.prologue 0) || t.r1_load) is possibly

  -- a possible block inside the trial's blocks, behind its first word
  abbrev pub is_other : Slices → ℕ → Bool
  is_other t p = leb (first_start t.blocks + 4) p && ltb p (last_end t.blocks)

  -- another possible block lies in the trial's blocks: it goes with this one
  unfoldable pub judge_others : Slices → Slices → Answer Verdict
  judge_others s t =
      if (any (is_other t) s.possible_blocks)
      (verdict is_not (with_possible_blocks s (filter (λ p. not (is_other t p)) s.possible_blocks)))
      (verdict (own_word t) s)

  -- the trial reached back before k: not a tail call
  unfoldable pub judge_trial : ℕ → Slices → Slices → Answer Verdict
  judge_trial k s t = if (ltb (first_start t.blocks) k) (verdict is_not s) (judge_others s t)

  -- "Faults 5 to 9, 11 and 15 in the trial give Possible; 4, 10 and 16 end the whole run"
  unfoldable pub judge : ℕ → Slices → Answer Analyzed → Answer Verdict
  judge k s (ok r) = if r.found (judge_trial k s r.slices) (verdict is s)
  judge k s (fault n) = if (ends_run n) (fault n) (verdict possibly s)

  -- "then a trial walk as in `check_tail_call`"
  unfoldable pub trial : ℕ → Slices → Answer Verdict
  trial k s = judge k s (analyze e k (with_only s.function_references))

  -- ---- the tests before it, in order

  -- "a reference or known entry from start + 4 up to it, Is"
  unfoldable pub is_referred : ℕ → Slices → Bool
  is_referred k s =
      any (λ r. leb (e.start + 4) r && leb r k) s.function_references || any_between (e.start + 4) k e.entries

  -- "a prologue sequence from the start up to it, Is"
  unfoldable pub prologue_before : ℕ → Bool
  prologue_before k = prologue_among ((k - e.start) / 4) (Image.words_from e.image e.start)

  -- "no end, Possible", then these two, then the trial
  unfoldable pub check_between : ℕ → Slices → Answer Verdict
  check_between k s =
      if (eqb e.end 0) (verdict possibly s) (if (is_referred k s || prologue_before k) (verdict is s) (trial k s))

  -- "below the start, Is; another section, Is; zero word before it, Is"
  unfoldable pub is_separate : ℕ → Bool
  is_separate k =
      ltb k e.start || not (eqb (section_of k) (section_of e.start)) || eqb (Image.word e.image (address_of k - 4)) 0

  -- "a block start, Not; inside start to end, Not; prologue recorded, Not"
  unfoldable pub is_own : ℕ → Slices → Bool
  is_own k s = has start_of k s.blocks || (leb e.start k && ltb k e.end) || not (eqb s.prologue 0)

  -- FunctionSlices::check_tail_call
  unfoldable pub check_tail_call : ℕ → Slices → Answer Verdict
  check_tail_call k s = if (is_own k s) (verdict is_not s) (if (is_separate k) (verdict is s) (check_between k s))
