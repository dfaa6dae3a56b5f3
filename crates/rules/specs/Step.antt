-- One word of a walk (instruction_callback).
use Rattle.std.specs.Prelude.{ℕ, ◌+◌, Bool, ◌&&◌, ◌||◌, not, List, [], ◌∷◌, ◌++◌, ltb, leb, eqb}
use Rattle.rules.specs.Choice.{if, Answer, ok, fault, ◌>>=◌, limited, any}
use Rattle.rules.specs.Ordered.{self, has, empty}
use Rattle.rules.specs.Address.{key, address_of, section_of}
use Rattle.rules.specs.Image
use Rattle.rules.specs.Image.{Image, Branch, To, to_address, to_table, elsewhere, Outcome, go_on, illegal, unknown, return, jump, jump_table, branches, Symbol}
use Rattle.rules.specs.Words.{is_lwz, is_rfi, is_conditional_blr, is_function_terminator}
use Rattle.rules.specs.Sequences.{check_prologue_sequence, check_epilogue_sequence}
use Rattle.rules.specs.Blocks.{start_of, is_new, last_start, last_end}
use Rattle.rules.specs.Slices.{Slices, set_block, set_branches, add_block_start, add_function_reference, add_possible_block, add_all_possible_blocks, set_jump_table_reference, discard_possible_block, with_prologue, with_epilogue, with_r1_load, with_returns}
use Rattle.rules.specs.Known.{Entry, covering}
use Rattle.rules.specs.JumpTable.{Entries, jump_table_entries}

-- what stays as it is during a walk: the image, the function's start and end (0: not known) and the entries so far
pub record Around : Type 0 where
  pub image : Image
  pub start : ℕ
  pub end : ℕ
  pub entries : List Entry

-- where a walk is
pub data Place : Type 0 where
  -- between two blocks
  idle : Place
  -- before a word, in the block with this start
  at : ℕ → ℕ → Place
  -- it met no function
  nowhere : Place

-- the state of a walk
pub record Walk : Type 0 where
  pub slices : Slices
  -- by the number of the code word
  pub visited : ℕ → Bool
  -- the highest first
  pub pending : List ℕ
  -- whether this pass visited a word that none had visited
  pub fresh : Bool
  pub place : Place

abbrev pub with_slices : Walk → Slices → Walk
with_slices w s = record { slices = s; visited = w.visited; pending = w.pending; fresh = w.fresh; place = w.place }

abbrev pub with_pending : Walk → List ℕ → Walk
with_pending w p = record { slices = w.slices; visited = w.visited; pending = p; fresh = w.fresh; place = w.place }

abbrev pub with_place : Walk → Place → Walk
with_place w p = record { slices = w.slices; visited = w.visited; pending = w.pending; fresh = w.fresh; place = p }

-- a step of the slices, as a step of the walk
unfoldable pub on_slices : (Slices → Answer Slices) → Walk → Answer Walk
on_slices f w = f w.slices >>= λ s. ok (with_slices w s)

-- in order, the highest first
abbrev pub insert : ℕ → List ℕ → List ℕ
insert k [] = k ∷ []
insert k (x ∷ l) = if (leb x k) (k ∷ x ∷ l) (x ∷ insert k l)

-- "Pending addresses are sorted at each push"; "256 pending addresses"
unfoldable pub push : ℕ → Walk → Answer Walk
push k w = limited 256 (insert k w.pending) >>= λ p. ok (with_pending w p)

-- whether the word at k was visited
unfoldable pub seen : Image → ℕ → Walk → Bool
seen im k w = Image.in_code im k && w.visited (Image.index im k)

-- ---- sequences

-- "a second prologue, and it lies below the recorded one or a terminator stands between" (5)
unfoldable pub second_prologue : Image → ℕ → Slices → Answer Slices
second_prologue im k s =
    if (ltb k s.prologue || any is_function_terminator (Image.words_between im (s.prologue + 4) k)) (fault 5) (ok s)

-- the first is recorded
unfoldable pub meet_prologue : Image → ℕ → Slices → Answer Slices
meet_prologue im k s = if (eqb s.prologue 0) (ok (with_prologue s k)) (second_prologue im k s)

-- "A load `lwz r1` only sets its flag"
unfoldable pub check_prologue : Image → ℕ → Slices → Answer Slices
check_prologue im k s =
    if (is_lwz (Image.word im (address_of k))) (ok (with_r1_load s))
    (if (check_prologue_sequence (Image.words_from im k)) (meet_prologue im k s) (ok s))

-- "an epilogue at another address than the recorded one" (6)
unfoldable pub meet_epilogue : ℕ → Slices → Answer Slices
meet_epilogue k s = if (eqb s.epilogue 0) (ok (with_epilogue s k)) (if (eqb s.epilogue k) (ok s) (fault 6))

-- the first is recorded
unfoldable pub check_epilogue : Image → ℕ → Slices → Answer Slices
check_epilogue im k s = if (check_epilogue_sequence (Image.words_from im k)) (meet_epilogue k s) (ok s)

-- with the mark no prologue is looked for
unfoldable pub check_sequences : Image → ℕ → Slices → Answer Slices
check_sequences im k s =
    if (Image.told_at im k).mark (check_epilogue im k s) (check_prologue im k s >>= λ t. check_epilogue im k t)

-- returns are noted, and the word is no longer a possible block
unfoldable pub note_word : Image → ℕ → Slices → Slices
note_word im k s =
    discard_possible_block k
    (with_returns s (s.conditional_blr || is_conditional_blr (Image.word im (address_of k))) (s.rfi || is_rfi (Image.word im (address_of k))))

-- ---- outcomes

-- a new block start is to be walked
unfoldable pub mark_and_push : ℕ → Walk → Answer Walk
mark_and_push k w =
    add_block_start k w.slices >>= λ s.
    if (is_new k w.slices.blocks) (push k (with_slices w s)) (ok (with_slices w s))

-- each of them
abbrev pub mark_and_push_all : List ℕ → Walk → Answer Walk
mark_and_push_all [] w = ok w
mark_and_push_all (k ∷ ks) w = mark_and_push k w >>= λ v. mark_and_push_all ks v

-- the block b ends behind the word k
unfoldable pub end_block : ℕ → ℕ → Walk → Answer Walk
end_block k b w = set_block b (k + 4) w.slices >>= λ s. ok (with_place (with_slices w s) idle)

-- the walk goes on to the next word
unfoldable pub walk_on : ℕ → ℕ → Walk → Walk
walk_on k b w = with_place w (at (k + 4) b)

module _ (e : Around) where
  -- the function at or around k; 0 for none
  unfoldable pub known_function : ℕ → Slices → ℕ
  known_function k s = if (has self k s.function_references) k (covering k e.entries)

  -- k belongs to a known function that is not the walked one
  unfoldable pub is_known_function : Slices → ℕ → Bool
  is_known_function s k = not (eqb (known_function k s) 0) && not (eqb (known_function k s) e.start)

  -- the next word is walked, or was
  unfoldable pub is_met : ℕ → Walk → Bool
  is_met k w = seen e.image k w || has start_of k w.slices.blocks

  -- "the block ends before a word already visited or a block start"
  unfoldable pub do_go_on : ℕ → ℕ → Walk → Answer Walk
  do_go_on k b w =
      if (is_met (k + 4) w) (end_block k b w >>= λ v. on_slices (set_branches k ((k + 4) ∷ [])) v) (ok (walk_on k b w))

  -- "After a nonzero illegal word the walk goes on without that test; a zero one ends it with 'no function'"
  unfoldable pub do_illegal : ℕ → ℕ → Walk → Answer Walk
  do_illegal k b w = if (eqb (Image.word e.image (address_of k)) 0) (ok (with_place w nowhere)) (ok (walk_on k b w))

  -- between prologue and epilogue an unknown jump goes on to the next word
  unfoldable pub do_unknown : ℕ → Walk → Answer Walk
  do_unknown k w =
      if (not (eqb w.slices.prologue 0) && eqb w.slices.epilogue 0)
      (on_slices (set_branches k ((k + 4) ∷ [])) w >>= λ v. mark_and_push (k + 4) v) (ok w)

  -- the target t of the jump at k lies inside the function, as far as that is known
  unfoldable pub jumps_inside : ℕ → ℕ → Slices → Bool
  jumps_inside k t s = leb e.start t && (ltb t e.end || ltb t (last_end s.blocks) || ltb t k)

  -- the walk goes on at t, unless t was visited
  unfoldable pub go_to : ℕ → Walk → Walk
  go_to t w = if (seen e.image t w) w (with_place w (at t t))

  -- a block of the function starts at the target
  unfoldable pub jump_inside : ℕ → Walk → Answer Walk
  jump_inside t w =
      add_block_start t w.slices >>= λ s.
      if (is_new t w.slices.blocks) (ok (go_to t (with_slices w s))) (ok (with_slices w s))

  -- the target is a known function's, or one is referred to, or it may be a block of this one
  unfoldable pub jump_outside : ℕ → ℕ → Slices → Answer Slices
  jump_outside k t s =
      if (eqb (known_function t s) 0)
      (if (not (eqb (section_of t) (section_of k)) || eqb (Image.word e.image (address_of k)) 0) (add_function_reference t s) (add_possible_block t s))
      (if (eqb (known_function t s) e.start) (fault 8) (add_function_reference (known_function t s) s))

  -- a jump to another word
  unfoldable pub do_jump_elsewhere : ℕ → ℕ → Walk → Answer Walk
  do_jump_elsewhere k t w = if (jumps_inside k t w.slices) (jump_inside t w) (on_slices (jump_outside k t) w)

  -- a jump to its own word ends the walk of it
  unfoldable pub do_jump : ℕ → ℕ → Walk → Answer Walk
  do_jump k t w = on_slices (set_branches k (t ∷ [])) w >>= λ v. if (eqb t k) (ok v) (do_jump_elsewhere k t v)

  -- the function's end, where it is known, else the last block's
  unfoldable pub known_end : Slices → ℕ
  known_end s = if (eqb e.end 0) (last_end s.blocks) e.end

  -- an entry lies among the blocks of the function
  unfoldable pub table_inside : ℕ → List ℕ → Slices → Bool
  table_inside k l s = any (λ t. ltb e.start t && (leb t (last_start s.blocks) || leb t (k + 4))) l

  -- an entry among the blocks, and none in another known function
  unfoldable pub is_own_table : ℕ → List ℕ → Slices → Bool
  is_own_table k l s = table_inside k l s && not (any (is_known_function s) l)

  -- the entries are blocks of the function
  unfoldable pub do_own_table : ℕ → ℕ → Entries → Walk → Answer Walk
  do_own_table k t r w =
      on_slices (set_jump_table_reference t r.size) w >>= λ v.
      mark_and_push_all r.taken v >>= λ u.
      on_slices (set_branches k r.taken) u

  -- otherwise they are possible blocks
  unfoldable pub do_table : ℕ → ℕ → ℕ → Walk → Answer Walk
  do_table k t n w =
      jump_table_entries e.image t n e.start (known_end w.slices) >>= λ r.
      if (is_own_table k r.taken w.slices) (do_own_table k t r w) (on_slices (add_all_possible_blocks r.taken) w)

  -- the last function symbol below a, if its size covers a; 0 for none
  abbrev pub lower_symbol : ℕ → ℕ → ℕ → List Symbol → ℕ
  lower_symbol a d past [] = if (ltb a past) d 0
  lower_symbol a d past (f ∷ fs) =
      if (ltb f.address a) (lower_symbol a (key (Image.code_number e.image) f.address) (f.address + f.size) fs) (if (ltb a past) d 0)

  -- of an address in code
  unfoldable pub symbol_over : ℕ → ℕ
  symbol_over t = if (eqb (section_of t) (Image.code_number e.image)) (lower_symbol (address_of t) 0 0 e.image.functions) 0

  -- the function symbol whose size covers the target, else the target
  unfoldable pub linked_function : ℕ → ℕ
  linked_function t = if (eqb (symbol_over t) 0) t (symbol_over t)

  -- a branch to another known function, or one with link, is a reference; the others are ways on, each a block
  unfoldable pub refers_to : Bool → ℕ → Slices → ℕ
  refers_to link t s = if (is_known_function s t) (known_function t s) (if link (linked_function t) 0)

  -- the walk, and the ways on so far
  unfoldable pub do_branch : Bool → ℕ → Walk → List ℕ → Answer (Walk × List ℕ)
  do_branch link t w out =
      if (eqb (refers_to link t w.slices) 0)
      (mark_and_push t w >>= λ v. ok (v, out ++ (t ∷ [])))
      (on_slices (add_function_reference (refers_to link t w.slices)) w >>= λ v. ok (v, out))

  -- "a branch list names a jump table" (7)
  abbrev pub branch_to : Bool → To → Walk → List ℕ → Answer (Walk × List ℕ)
  branch_to link (to_address a) w out = do_branch link (Image.locate e.image a) w out
  branch_to link (to_table a) w out = fault 7
  branch_to link elsewhere w out = ok (w, out)

  -- one after the other
  abbrev pub branch_each : List Branch → Walk → List ℕ → Answer (Walk × List ℕ)
  branch_each [] w out = ok (w, out)
  branch_each (b ∷ bs) w out = branch_to b.link b.to w out >>= λ r. branch_each bs r.0 r.1

  -- the ways on, where there are any
  unfoldable pub do_branches : ℕ → List Branch → Walk → Answer Walk
  do_branches k bs w = branch_each bs w [] >>= λ r. if (empty r.1) (ok r.0) (on_slices (set_branches k r.1) r.0)

  -- each outcome but go on and illegal ends the block
  unfoldable pub do_outcome : ℕ → ℕ → Outcome → Walk → Answer Walk
  do_outcome k b go_on w = do_go_on k b w
  do_outcome k b illegal w = do_illegal k b w
  do_outcome k b unknown w = end_block k b w >>= λ v. do_unknown k v
  do_outcome k b return w = end_block k b w
  do_outcome k b (jump a) w = end_block k b w >>= λ v. do_jump k (Image.locate e.image a) v
  do_outcome k b (jump_table a n) w = end_block k b w >>= λ v. do_table k (Image.locate e.image a) n v
  do_outcome k b (branches l) w = end_block k b w >>= λ v. do_branches k l v

  -- "Entering a word of another known function also ends it so, after the sequence tests, before any outcome"
  unfoldable pub do_word : ℕ → ℕ → Walk → Answer Walk
  do_word k b w =
      if (is_known_function w.slices k) (ok (with_place w nowhere)) (do_outcome k b (Image.told_at e.image k).outcome w)

  -- FunctionSlices::instruction_callback
  unfoldable pub instruction_callback : ℕ → ℕ → Walk → Answer Walk
  instruction_callback k b w =
      check_sequences e.image k w.slices >>= λ s. do_word k b (with_slices w (note_word e.image k s))
