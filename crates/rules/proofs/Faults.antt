-- Every fault that a run can meet has a number from 4 to 17.
use Prim.Native.Nat.{ℕ, ◌-◌, ◌/◌, ◌≤◌}
use mathlib.Core.Path.{◌≡◌}
use mathlib.Core.Bool.{Bool, true, false}
use mathlib.Core.List.{List, [], ◌∷◌, map}
use mathlib.Core.Option.{Option, none, some}
use lib.Dec.{lit≤}
use lib.ListN.{take}
use Rattle.rules.specs.Choice.{Answer, ok, fault, limited, filter}
use Rattle.rules.specs.Loop.{Fails, result, number, fails_at, bind_fails, if_fails, loop_fails}
use Rattle.rules.specs.Image
use Rattle.rules.specs.Image.{Image, Symbol, Branch, To, to_address, to_table, elsewhere, Outcome, go_on, illegal, unknown, return, jump, jump_table, branches}
use Rattle.rules.specs.JumpTable
use Rattle.rules.specs.Slices as Lists
use Rattle.rules.specs.Slices.{Slices}
use Rattle.rules.specs.Known.{Entry, entry_of, is_unfinalized}
use Rattle.rules.specs.Step
use Rattle.rules.specs.Step.{Around, Walk, Place, idle, at, nowhere}
use Rattle.rules.specs.Walk as Exec
use Rattle.rules.specs.Analyze
use Rattle.rules.specs.TailCall
use Rattle.rules.specs.TailCall.{is_not, is, possibly}
use Rattle.rules.specs.Settle
use Rattle.rules.specs.Finalize
use Rattle.rules.specs.Map
use Rattle.rules.specs.Map.{Capacity, Round, round}

abbrev pub Number : ℕ → Type 0
Number n = (4 ≤ n) × (n ≤ 17)

abbrev pub Met : {A : Type 0} → Answer A → Type 0
Met a = Fails Number a

four : {A : Type 0} → Met {A = A} (fault 4)
four = number (lit≤ tt, lit≤ tt)

pub limited_met : {A : Type 0} (n : ℕ) (l : List A) → Met (limited n l)
unfolding limited
limited_met n l = if_fails (λ _. result) (λ _. four)

-- ---- a function's lists

module _ (s : Slices) where
  pub set_block_met : (b e : ℕ) → Met (Lists.set_block b e s)
  unfolding Lists.set_block
  set_block_met b e = bind_fails (limited_met _ _) (λ _. result)

  pub add_block_start_met : (k : ℕ) → Met (Lists.add_block_start k s)
  unfolding Lists.add_block_start
  add_block_start_met k = bind_fails (limited_met _ _) (λ _. result)

  pub set_branches_met : (k : ℕ) (l : List ℕ) → Met (Lists.set_branches k l s)
  unfolding Lists.set_branches
  set_branches_met k l = bind_fails (if_fails (λ _. result) (λ _. four)) (λ _. result)

  pub add_function_reference_met : (k : ℕ) → Met (Lists.add_function_reference k s)
  unfolding Lists.add_function_reference
  add_function_reference_met k = bind_fails (limited_met _ _) (λ _. result)

  pub set_jump_table_reference_met : (k n : ℕ) → Met (Lists.set_jump_table_reference k n s)
  unfolding Lists.set_jump_table_reference
  set_jump_table_reference_met k n = bind_fails (limited_met _ _) (λ _. result)

  pub add_possible_block_met : (k : ℕ) → Met (Lists.add_possible_block k s)
  unfolding Lists.add_possible_block
  add_possible_block_met k = bind_fails (limited_met _ _) (λ _. result)

add_all_possible_blocks_met : (l : List ℕ) (s : Slices) → Met (Lists.add_all_possible_blocks l s)
add_all_possible_blocks_met [] s = result
add_all_possible_blocks_met (k ∷ l) s = bind_fails (add_possible_block_met s k) (λ t. add_all_possible_blocks_met l t)

-- ---- jump tables

module _ (im : Image) where
  take_entry_met : (t v room : ℕ) (more : Answer (List ℕ)) → Met more → Met (JumpTable.take_entry t v room more)
  unfolding JumpTable.take_entry
  take_entry_met t v room more m = if_fails (λ _. if_fails (λ _. four) (λ _. bind_fails m (λ _. result))) (λ _. number (lit≤ tt, lit≤ tt))

  sized_entries_met : (room : ℕ) (l : List ℕ) → Met (JumpTable.sized_entries im room l)
  sized_entries_met room [] = result
  sized_entries_met room (v ∷ l) =
      if_fails (λ _. sized_entries_met room l) (λ _. if_fails (λ _. number (lit≤ tt, lit≤ tt)) (λ _. take_entry_met _ v room _ (sized_entries_met (room - 1) l)))

  unsized_entries_met : (first past room : ℕ) (l : List ℕ) → Met (JumpTable.unsized_entries im first past room l)
  unsized_entries_met first past room [] = result
  unsized_entries_met first past room (v ∷ l) = if_fails (λ _. take_entry_met _ v room _ (unsized_entries_met first past (room - 1) l)) (λ _. result)

  unsized_table_met : (c : Image.Section) (a first past : ℕ) → Met (JumpTable.unsized_table im c a first past)
  unfolding JumpTable.unsized_table
  unsized_table_met c a first past = bind_fails (unsized_entries_met first past 256 (JumpTable.table_words c a)) (λ _. result)

  sized_table_met : (c : Image.Section) (a n : ℕ) → Met (JumpTable.sized_table im c a n)
  unfolding JumpTable.sized_table
  sized_table_met c a n =
      bind_fails (sized_entries_met 256 (take (JumpTable.clamped c a n / 4) (JumpTable.table_words c a))) (λ _. if_fails (λ _. result) (λ _. number (lit≤ tt, lit≤ tt)))

  jump_table_entries_met : (t n first past : ℕ) → Met (JumpTable.jump_table_entries im t n first past)
  unfolding JumpTable.jump_table_entries JumpTable.table_of_size
  jump_table_entries_met t n first past = if_fails (λ _. if_fails (λ _. unsized_table_met _ _ _ _) (λ _. sized_table_met _ _ _)) (λ _. result)

-- ---- one word

on_slices_met : (f : Slices → Answer Slices) (w : Walk) → Met (f w.slices) → Met (Step.on_slices f w)
unfolding Step.on_slices
on_slices_met f w m = bind_fails m (λ _. result)

push_met : (k : ℕ) (w : Walk) → Met (Step.push k w)
unfolding Step.push
push_met k w = bind_fails (limited_met _ _) (λ _. result)

check_sequences_met : (im : Image) (k : ℕ) (s : Slices) → Met (Step.check_sequences im k s)
unfolding Step.check_sequences Step.check_prologue Step.check_epilogue Step.meet_prologue Step.second_prologue Step.meet_epilogue
check_sequences_met im k s = if_fails (λ _. epilogue s) (λ _. bind_fails prologue (λ t. epilogue t))
  where
    epilogue : (t : Slices) → Met (Step.check_epilogue im k t)
    epilogue t = if_fails (λ _. if_fails (λ _. result) (λ _. if_fails (λ _. result) (λ _. number (lit≤ tt, lit≤ tt)))) (λ _. result)

    prologue : Met (Step.check_prologue im k s)
    prologue = if_fails (λ _. result) (λ _. if_fails (λ _. if_fails (λ _. result) (λ _. if_fails (λ _. number (lit≤ tt, lit≤ tt)) (λ _. result))) (λ _. result))

mark_and_push_met : (k : ℕ) (w : Walk) → Met (Step.mark_and_push k w)
unfolding Step.mark_and_push
mark_and_push_met k w = bind_fails (add_block_start_met _ k) (λ s. if_fails (λ _. push_met k _) (λ _. result))

mark_and_push_all_met : (ks : List ℕ) (w : Walk) → Met (Step.mark_and_push_all ks w)
mark_and_push_all_met [] w = result
mark_and_push_all_met (k ∷ ks) w = bind_fails (mark_and_push_met k w) (λ v. mark_and_push_all_met ks v)

end_block_met : (k b : ℕ) (w : Walk) → Met (Step.end_block k b w)
unfolding Step.end_block
end_block_met k b w = bind_fails (set_block_met _ b _) (λ _. result)

module _ (e : Around) where
  do_go_on_met : (k b : ℕ) (w : Walk) → Met (Step.do_go_on e k b w)
  unfolding Step.do_go_on
  do_go_on_met k b w = if_fails (λ _. bind_fails (end_block_met k b w) (λ v. on_slices_met _ v (set_branches_met _ k _))) (λ _. result)

  do_unknown_met : (k : ℕ) (w : Walk) → Met (Step.do_unknown e k w)
  unfolding Step.do_unknown
  do_unknown_met k w = if_fails (λ _. bind_fails (on_slices_met _ w (set_branches_met _ k _)) (λ v. mark_and_push_met _ v)) (λ _. result)

  do_jump_met : (k t : ℕ) (w : Walk) → Met (Step.do_jump e k t w)
  unfolding Step.do_jump Step.do_jump_elsewhere Step.jump_inside Step.jump_outside
  do_jump_met k t w =
      bind_fails (on_slices_met _ w (set_branches_met _ k _))
      (λ v. if_fails (λ _. result)
      (λ _. if_fails (λ _. bind_fails (add_block_start_met _ t) (λ s. if_fails (λ _. result) (λ _. result)))
      (λ _. on_slices_met _ v (if_fails (λ _. if_fails (λ _. add_function_reference_met _ _) (λ _. add_possible_block_met _ _)) (λ _. if_fails (λ _. number (lit≤ tt, lit≤ tt)) (λ _. add_function_reference_met _ _))))))

  do_table_met : (k t n : ℕ) (w : Walk) → Met (Step.do_table e k t n w)
  unfolding Step.do_table Step.do_own_table
  do_table_met k t n w =
      bind_fails (jump_table_entries_met _ t n _ _)
      (λ r. if_fails
      (λ _. bind_fails (on_slices_met _ w (set_jump_table_reference_met _ t _)) (λ v. bind_fails (mark_and_push_all_met r.taken v) (λ u. on_slices_met _ u (set_branches_met _ k r.taken))))
      (λ _. on_slices_met _ w (add_all_possible_blocks_met r.taken _)))

  branch_to_met : (link : Bool) (to : To) (w : Walk) (out : List ℕ) → Met (Step.branch_to e link to w out)
  unfolding Step.do_branch
  branch_to_met link (to_address a) w out =
      if_fails (λ _. bind_fails (mark_and_push_met _ w) (λ _. result)) (λ _. bind_fails (on_slices_met _ w (add_function_reference_met _ _)) (λ _. result))
  branch_to_met link (to_table a) w out = number (lit≤ tt, lit≤ tt)
  branch_to_met link elsewhere w out = result

  branch_each_met : (bs : List Branch) (w : Walk) (out : List ℕ) → Met (Step.branch_each e bs w out)
  branch_each_met [] w out = result
  branch_each_met (b ∷ bs) w out = bind_fails (branch_to_met b.link b.to w out) (λ r. branch_each_met bs r.0 r.1)

  do_outcome_met : (k b : ℕ) (o : Outcome) (w : Walk) → Met (Step.do_outcome e k b o w)
  unfolding Step.do_outcome Step.do_illegal Step.do_branches
  do_outcome_met k b go_on w = do_go_on_met k b w
  do_outcome_met k b illegal w = if_fails (λ _. result) (λ _. result)
  do_outcome_met k b unknown w = bind_fails (end_block_met k b w) (λ v. do_unknown_met k v)
  do_outcome_met k b return w = end_block_met k b w
  do_outcome_met k b (jump a) w = bind_fails (end_block_met k b w) (λ v. do_jump_met k _ v)
  do_outcome_met k b (jump_table a n) w = bind_fails (end_block_met k b w) (λ v. do_table_met k _ n v)
  do_outcome_met k b (branches l) w =
      bind_fails (end_block_met k b w)
      (λ v. bind_fails (branch_each_met l v []) (λ r. if_fails (λ _. result) (λ _. on_slices_met _ r.0 (set_branches_met _ k _))))

  -- ---- a walk, and its passes

  pop_met : (l : List ℕ) (w : Walk) → Met (Exec.pop e l w)
  unfolding Exec.take_pending
  pop_met [] w = result
  pop_met (k ∷ l) w = if_fails (λ _. if_fails (λ _. result) (λ _. result)) (λ _. number (lit≤ tt, lit≤ tt))

  step_at_met : (p : Place) (w : Walk) → Met (Exec.step_at e p w)
  unfolding Exec.enter Step.instruction_callback Step.do_word
  step_at_met idle w = pop_met w.pending w
  step_at_met (at k b) w =
      if_fails (λ _. bind_fails (check_sequences_met _ k _) (λ s. if_fails (λ _. result) (λ _. do_outcome_met k b _ _))) (λ _. number (lit≤ tt, lit≤ tt))
  step_at_met nowhere w = result

  run_walk_met : (w : Walk) → Met (Exec.run_walk e w)
  unfolding Exec.run_walk Exec.step
  run_walk_met w = loop_fails Exec.live (Exec.step e) (Exec.left e) (λ v. step_at_met v.place v) w

  walk_from_met : (k : ℕ) (w : Walk) → Met (Analyze.walk_from e k w)
  unfolding Analyze.walk_from
  walk_from_met k w = bind_fails (push_met k _) (λ v. run_walk_met v)

  run_pass_met : (k : ℕ) (w : Walk) → Met (Analyze.run_pass e k w)
  unfolding Analyze.run_pass Analyze.checked_pass
  run_pass_met k w = bind_fails (walk_from_met k w) (λ v. if_fails (λ _. result) (λ _. number (lit≤ tt, lit≤ tt)))

  pub analyze_met : (k : ℕ) (s : Slices) → Met (Analyze.analyze e k s)
  unfolding Analyze.analyze Analyze.analyze_walk Analyze.connect Analyze.reach_end Analyze.analyze_ends Analyze.connect_step Analyze.pass_behind Analyze.reach_step
  analyze_met k s =
      bind_fails (add_block_start_met s k)
      (λ t. if_fails
      (λ _. bind_fails (walk_from_met k _)
      (λ w. bind_fails (loop_fails (Analyze.is_disconnected e) (Analyze.connect_step e) (Analyze.passes_left e) (λ v. run_pass_met _ _) w)
      (λ v. bind_fails (loop_fails (Analyze.is_short e) (Analyze.reach_step e) (Analyze.passes_left e) (λ u. run_pass_met _ u) v)
      (λ u. if_fails (λ _. result) (λ _. if_fails (λ _. number (lit≤ tt, lit≤ tt)) (λ _. result))))))
      (λ _. result))

  -- ---- possible blocks

  judge_met : (k : ℕ) (s : Slices) (a : Answer Analyze.Analyzed) → Met a → Met (TailCall.judge e k s a)
  unfolding TailCall.judge TailCall.judge_trial TailCall.judge_others
  judge_met k s (ok r) m = if_fails (λ _. if_fails (λ _. result) (λ _. if_fails (λ _. result) (λ _. result))) (λ _. result)
  judge_met k s (fault n) (number f) = if_fails (λ _. number f) (λ _. result)

  check_tail_call_met : (k : ℕ) (s : Slices) → Met (TailCall.check_tail_call e k s)
  unfolding TailCall.check_tail_call TailCall.check_between TailCall.trial
  check_tail_call_met k s = if_fails (λ _. result) (λ _. if_fails (λ _. result) (λ _. if_fails (λ _. result) (λ _. if_fails (λ _. result) (λ _. judge_met k s _ (analyze_met k _)))))

  module _ (low : ℕ) (final : Bool) where
    include_met : (k : ℕ) (s : Slices) → Met (Settle.include e low final k s)
    unfolding Settle.include
    include_met k s = bind_fails (analyze_met k _) (λ _. result)

    settle_met : (k : ℕ) (a : TailCall.TailCall) (s : Slices) → Met (Settle.settle e low final k a s)
    unfolding Settle.settle
    settle_met k is_not s = bind_fails (include_met k s) (λ _. result)
    settle_met k is s = bind_fails (add_function_reference_met _ k) (λ _. result)
    settle_met k possibly s = if_fails (λ _. bind_fails (include_met k s) (λ _. result)) (λ _. result)

    settle_all_met : (t : Settle.Settling) → Met (Settle.settle_all e low final t)
    unfolding Settle.settle_all Settle.settle_step
    settle_all_met t =
        loop_fails Settle.is_unsettled (Settle.settle_step e low final) (Settle.unsettled e low final)
        (λ u. bind_fails (check_tail_call_met _ _) (λ v. settle_met _ v.answer v.slices)) t

-- ---- the map

module _ (im : Image) (cap : Capacity) where
  pub finalize_met : (es : List Entry) (s : Slices) → Met (Finalize.finalize im es s)
  unfolding Finalize.finalize Finalize.finalize_closed Finalize.finalize_end Finalize.add_last
  finalize_met es s =
      if_fails (λ _. number (lit≤ tt, lit≤ tt))
      (λ _. if_fails (λ _. number (lit≤ tt, lit≤ tt))
      (λ _. if_fails (λ _. number (lit≤ tt, lit≤ tt)) (λ _. bind_fails (if_fails (λ _. set_block_met _ _ _) (λ _. result)) (λ _. result))))

  pub add_entry_met : (k : ℕ) (es : List Entry) → Met (Map.add_entry cap k es)
  unfolding Map.add_entry
  add_entry_met k es = if_fails (λ _. result) (λ _. limited_met _ _)

  pub store_met : (k : ℕ) (s : Slices) (end : ℕ) (es : List Entry) → Met (Map.store cap k s end es)
  unfolding Map.store Map.fitting
  store_met k s end es = bind_fails (add_entry_met k es) (λ _. if_fails (λ _. result) (λ _. four))

  pub try_add_functions_met : (ks : List ℕ) (es : List Entry) → Met (Map.try_add_functions im cap ks es)
  unfolding Map.try_add_function
  try_add_functions_met [] es = result
  try_add_functions_met (k ∷ ks) es = bind_fails (if_fails (λ _. add_entry_met k es) (λ _. result)) (λ fs. try_add_functions_met ks fs)

  pub process_function_at_met : (k : ℕ) (es : List Entry) → Met (Map.process_function_at im cap k es)
  unfolding Map.process_function_at Map.store_function Map.store_final Map.set_aside
  process_function_at_met k es =
      bind_fails (analyze_met _ k _)
      (λ r. if_fails
      (λ _. bind_fails (try_add_functions_met r.slices.function_references es) (λ fs. if_fails (λ _. bind_fails (finalize_met fs _) (λ t. store_met k t _ fs)) (λ _. store_met k _ 0 fs)))
      (λ _. bind_fails (add_entry_met k es) (λ _. result)))

  pub process_each_met : (ks : List ℕ) (es : List Entry) → Met (Map.process_each im cap ks es)
  process_each_met [] es = result
  process_each_met (k ∷ ks) es = bind_fails (process_function_at_met k es) (λ fs. process_each_met ks fs)

  pub finalize_entry_met : (final : Bool) (k : ℕ) (o : Option Slices) (r : Round) → Met (Map.finalize_entry im cap final k o r)
  unfolding Map.finalize_function Map.keep_settled
  finalize_entry_met final k none r = result
  finalize_entry_met final k (some s) r =
      bind_fails (settle_all_met _ _ final _)
      (λ t. if_fails
      (λ _. bind_fails (finalize_met _ _) (λ u. bind_fails (try_add_functions_met u.function_references r.entries) (λ es. bind_fails (store_met k u _ es) (λ _. result)))) (λ _. result))

  pub finalize_each_met : (final : Bool) (xs : List Entry) (r : Round) → Met (Map.finalize_each im cap final xs r)
  finalize_each_met final [] r = result
  finalize_each_met final (x ∷ xs) r = bind_fails (finalize_entry_met final x.entry x.slices r) (λ t. finalize_each_met final xs t)

  pub new_functions_met : (es : List Entry) → Met (Map.new_functions im cap es)
  unfolding Map.found_behind
  new_functions_met [] = result
  new_functions_met (x ∷ es) =
      bind_fails (if_fails (λ _. result) (λ _. if_fails (λ _. number (lit≤ tt, lit≤ tt)) (λ _. result))) (λ l. bind_fails (new_functions_met es) (λ _. result))

  pub add_entries_met : (ks : List ℕ) (es : List Entry) → Met (Map.add_entries im cap ks es)
  add_entries_met [] es = result
  add_entries_met (k ∷ ks) es = bind_fails (add_entry_met k es) (λ fs. add_entries_met ks fs)

  pub finalize_functions_met : (final : Bool) (es : List Entry) → Met (Map.finalize_functions im cap final es)
  unfolding Map.finalize_functions
  finalize_functions_met final es = finalize_each_met final (filter is_unfinalized es) (round false es)

  pub detect_new_functions_met : (es : List Entry) → Met (Map.detect_new_functions im cap es)
  unfolding Map.detect_new_functions
  detect_new_functions_met es = bind_fails (new_functions_met es) (λ ks. bind_fails (add_entries_met ks es) (λ _. result))

  pub process_step_met : (r : Round) → Met (Map.process_step im cap r)
  unfolding Map.process_step Map.process_next Map.finalize_or_detect
  process_step_met r =
      if_fails (λ _. bind_fails (finalize_functions_met false r.entries) (λ t. if_fails (λ _. result) (λ _. detect_new_functions_met t.entries)))
      (λ _. bind_fails (process_function_at_met _ _) (λ _. result))

  pub process_functions_met : (es : List Entry) → Met (Map.process_functions im cap es)
  unfolding Map.process_functions
  process_functions_met es = bind_fails (loop_fails Map.is_changed (Map.process_step im cap) Map.rounds_left process_step_met _) (λ _. result)

  pub last_step_met : (r : Round) → Met (Map.last_step im cap r)
  unfolding Map.last_step
  last_step_met r = bind_fails (finalize_functions_met true r.entries) (λ t. if_fails (λ _. bind_fails (process_functions_met t.entries) (λ _. result)) (λ _. result))

  pub last_rounds_met : (es : List Entry) → Met (Map.last_rounds im cap es)
  unfolding Map.last_rounds
  last_rounds_met es = bind_fails (loop_fails Map.is_changed (Map.last_step im cap) Map.rounds_left last_step_met _) (λ _. result)

  pub add_symbol_met : (f : Symbol) (es : List Entry) → Met (Map.add_symbol im cap f es)
  unfolding Map.add_symbol
  add_symbol_met f es = bind_fails (add_entry_met _ es) (λ _. result)

  pub add_symbols_met : (fs : List Symbol) (es : List Entry) → Met (Map.add_symbols im cap fs es)
  add_symbols_met [] es = result
  add_symbols_met (f ∷ fs) es = bind_fails (add_symbol_met f es) (λ gs. add_symbols_met fs gs)

  pub walk_given_met : Met (Map.walk_given im cap)
  unfolding Map.walk_given Map.first_entries Map.process_entry_point
  walk_given_met =
      bind_fails (bind_fails (add_symbols_met im.functions []) (λ es. add_entry_met _ es))
      (λ es. bind_fails (process_each_met (map entry_of es) es) (λ fs. if_fails (λ _. result) (λ _. process_function_at_met _ fs)))

  pub detect_met : Met (Map.detect im cap)
  unfolding Map.detect Map.detect_functions Map.all_finalized
  detect_met =
      bind_fails walk_given_met
      (λ es. bind_fails (process_functions_met es) (λ fs. bind_fails (last_rounds_met fs) (λ gs. if_fails (λ _. number (lit≤ tt, lit≤ tt)) (λ _. result))))

-- a run that gives no map gives the number of a fault
pub fault_numbers : (im : Image) (cap : Capacity) (n : ℕ) → Map.detect im cap ≡ fault n → Number n
fault_numbers im cap n h = fails_at (detect_met im cap) h
