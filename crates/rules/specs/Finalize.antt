-- FunctionSlices::finalize: a last word that belongs to the function still.
use Rattle.std.specs.Prelude.{ℕ, ◌+◌, ◌-◌, Bool, ◌&&◌, ◌||◌, not, List, ltb, eqb, length}
use Rattle.rules.specs.Choice.{if, Answer, ok, fault, ◌>>=◌, any}
use Rattle.rules.specs.Ordered.{self, has}
use Rattle.rules.specs.Address.{address_of}
use Rattle.rules.specs.Image
use Rattle.rules.specs.Image.{Image}
use Rattle.rules.specs.Words.{blr, nop, primary}
use Rattle.rules.specs.Branches.{branch_dest}
use Rattle.rules.specs.Blocks.{last_start, last_end}
use Rattle.rules.specs.Slices.{Slices, Branches, set_block, with_returns, with_finalized}
use Rattle.rules.specs.Known.{Entry, entry_of}

module _ (im : Image) where
  -- the function's last word
  unfoldable pub last_word : Slices → ℕ
  last_word s = Image.word im (address_of (last_end s.blocks) - 4)

  -- the word behind its end
  unfoldable pub word_after : Slices → ℕ
  word_after s = Image.word im (address_of (last_end s.blocks))

  -- the last word is a branch to a function that is referred to
  unfoldable pub ends_in_call : Slices → Bool
  ends_in_call s =
      eqb (primary (last_word s)) 18 &&
      has self (Image.locate im (branch_dest (last_word s) (address_of (last_end s.blocks) - 4))) s.function_references

  -- two ways on, one of them to the last block
  abbrev pub branches_to : ℕ → Branches → Bool
  branches_to k v = ltb 1 (length v.targets) && any (eqb k) v.targets

  -- a conditional `blr`, or the end that a call gives to two ways on
  unfoldable pub is_conditional : Slices → Bool
  is_conditional s =
      s.conditional_blr || (ends_in_call s && any (branches_to (last_start s.blocks)) s.branches)

  -- a `blr` behind a conditional end, or a `nop` behind an `rfi`
  unfoldable pub has_last : Slices → Bool
  has_last s = (s.conditional_blr && not (eqb (last_word s) blr) && eqb (word_after s) blr) || (s.rfi && eqb (word_after s) nop)

  -- the word behind the end becomes a block, unless it is an entry
  unfoldable pub add_last : List Entry → Slices → Answer Slices
  add_last es s =
      if (has_last s && not (has entry_of (last_end s.blocks) es))
      (set_block (last_end s.blocks) (last_end s.blocks + 4) s) (ok s)

  -- the last word is added, and the function is finalized
  unfoldable pub finalize_end : List Entry → Slices → Answer Slices
  finalize_end es s = add_last es s >>= λ t. ok (with_finalized t)

  -- "at finalizing: the last block is open" (13)
  unfoldable pub finalize_closed : List Entry → Slices → Answer Slices
  finalize_closed es s =
      if (eqb (last_end s.blocks) 0) (fault 13) (finalize_end es (with_returns s (is_conditional s) s.rfi))

  -- "a finalized one comes to be finalized again" (17); "epilogue, no prologue, no load of r1" (12)
  unfoldable pub finalize : List Entry → Slices → Answer Slices
  finalize es s =
      if s.finalized (fault 17)
      (if (eqb s.prologue 0 && not (eqb s.epilogue 0) && not s.r1_load) (fault 12) (finalize_closed es s))
