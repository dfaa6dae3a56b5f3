-- The whole map (cfa.rs): entries are walked, finalized and found, round by round.
use Rattle.std.specs.Prelude.{ℕ, ◌+◌, ◌-◌, ◌*◌, min, Bool, true, false, ◌&&◌, not, List, [], ◌∷◌, ◌++◌, map, ltb, leb, eqb, length}
use Rattle.std.proofs.Math.Option.{Option, none, some}
use Rattle.rules.specs.Choice.{if, Answer, ok, fault, ◌>>=◌, limited, any, filter}
use Rattle.rules.specs.Loop.{run, loop}
use Rattle.rules.specs.Ordered.{has, put, upper, first, empty}
use Rattle.rules.specs.Address.{key, address_of, section_of}
use Rattle.rules.specs.Image
use Rattle.rules.specs.Image.{Image, Symbol, Range}
use Rattle.rules.specs.Blocks.{first_start, last_end}
use Rattle.rules.specs.Slices.{Slices, with_only, count_branches}
use Rattle.rules.specs.Known.{Entry, entry_of, new_entry, end_of_entry, is_unfinalized}
use Rattle.rules.specs.Step.{Around}
use Rattle.rules.specs.Analyze.{analyze}
use Rattle.rules.specs.Settle.{settling, settle_all}
use Rattle.rules.specs.Finalize.{finalize}

-- what the lent result lists hold: rows, one for each entry, and numbers, for all the functions' lists together
pub record Capacity : Type 0 where
  pub entries : ℕ
  pub numbers : ℕ

-- the entries, and whether a round has changed them
pub record Round : Type 0 where
  pub entries : List Entry
  pub changed : Bool

-- what a round leaves
abbrev pub round : Bool → List Entry → Round
round c es = record { entries = es; changed = c }

-- the first entry that is not analyzed; 0 for none
abbrev pub first_unbounded_function : List Entry → ℕ
first_unbounded_function [] = 0
first_unbounded_function (x ∷ es) = if x.analyzed (first_unbounded_function es) x.entry

-- rounds go on while they change something
abbrev pub is_changed : Round → Bool
is_changed r = r.changed

-- what is to be done for one entry
abbrev pub weight : Entry → ℕ
weight x = if x.analyzed (if (eqb x.end 0) 1 0) 2

-- for all of them
abbrev pub weights : List Entry → ℕ
weights [] = 0
weights (x ∷ es) = weight x + weights es

-- what is still to be done: for an entry that can be added 3, that is to be walked 2, that has no end 1
abbrev pub to_do : List Entry → ℕ
to_do es = 3 * (1024 - length es) + weights es

-- each round walks an entry, or finalizes one, or adds one
unfoldable pub rounds_left : Round → ℕ
rounds_left r = 2 * to_do r.entries + if r.changed 1 0

-- ---- entries added and stored

module _ (cap : Capacity) where
  -- "1,024 entries", and no more than the lent rows (4)
  unfoldable pub add_entry : ℕ → List Entry → Answer (List Entry)
  add_entry k es = if (has entry_of k es) (ok es) (limited (min 1024 cap.entries) (put entry_of (new_entry k) es))

  -- of an entry's lists, if it has any
  abbrev pub size_of : (Slices → ℕ) → Option Slices → ℕ
  size_of f none = 0
  size_of f (some s) = f s

  -- of all entries' lists
  abbrev pub total : (Slices → ℕ) → List Entry → ℕ
  total f [] = 0
  total f (x ∷ es) = size_of f x.slices + total f es

  -- how many numbers a function's lists take: two for a block, a way on or a jump table, one for a reference or a possible block
  abbrev pub numbers_of : Slices → ℕ
  numbers_of s =
      2 * length s.blocks + 2 * count_branches s.branches + length s.function_references + 2 * length s.jump_table_references + length s.possible_blocks

  -- all the entries' lists fit the lent one
  unfoldable pub fit : List Entry → Bool
  fit es = leb (total numbers_of es) cap.numbers

  -- "after a pass over a function, its lists are stored" (4)
  unfoldable pub fitting : List Entry → Answer (List Entry)
  fitting es = if (fit es) (ok es) (fault 4)

  -- an analyzed entry with its end and lists
  unfoldable pub store : ℕ → Slices → ℕ → List Entry → Answer (List Entry)
  store k s end es =
      add_entry k es >>= λ fs.
      fitting (put entry_of (record { entry = k; analyzed = true; end = end; slices = some s }) fs)

  -- analyzed, with no end
  abbrev pub set_aside_entry : Entry → Entry
  set_aside_entry x = record { entry = x.entry; analyzed = true; end = 0; slices = x.slices }

  -- an entry at which there is no function
  unfoldable pub set_aside : ℕ → List Entry → Answer (List Entry)
  set_aside k es =
      add_entry k es >>= λ fs. ok (put entry_of (set_aside_entry (upper entry_of k (new_entry k) fs)) fs)

module _ (im : Image) (cap : Capacity) where
  -- an entry in code, not skipped
  unfoldable pub try_add_function : ℕ → List Entry → Answer (List Entry)
  try_add_function k es =
      if (eqb (section_of k) (Image.code_number im) && not (Image.in_skipped_range im (address_of k))) (add_entry cap k es) (ok es)

  -- each of them
  abbrev pub try_add_functions : List ℕ → List Entry → Answer (List Entry)
  try_add_functions [] es = ok es
  try_add_functions (k ∷ ks) es = try_add_function k es >>= λ fs. try_add_functions ks fs

  -- ---- one entry

  -- with nothing left to settle, the function is finalized at once
  unfoldable pub store_final : ℕ → Slices → List Entry → Answer (List Entry)
  store_final k s es = finalize im es s >>= λ t. store cap k t (last_end t.blocks) es

  -- what it refers to becomes an entry first
  unfoldable pub store_function : ℕ → Slices → List Entry → Answer (List Entry)
  store_function k s es =
      try_add_functions s.function_references es >>= λ fs.
      if (empty s.possible_blocks) (store_final k s fs) (store cap k s 0 fs)

  -- a walk of this image
  abbrev pub around : ℕ → ℕ → List Entry → Around
  around first past es = record { image = im; start = first; end = past; entries = es }

  -- AnalyzerState::process_function_at
  unfoldable pub process_function_at : ℕ → List Entry → Answer (List Entry)
  process_function_at k es =
      analyze (around k (end_of_entry k es) es) k (with_only []) >>= λ r.
      if r.found (store_function k r.slices es) (set_aside cap k es)

  -- one after the other
  abbrev pub process_each : List ℕ → List Entry → Answer (List Entry)
  process_each [] es = ok es
  process_each (k ∷ ks) es = process_function_at k es >>= λ fs. process_each ks fs

  -- ---- entries finalized

  -- a settled function is finalized and stored
  unfoldable pub keep_settled : ℕ → Slices → Round → Answer Round
  keep_settled k s r =
      finalize im r.entries s >>= λ t.
      try_add_functions t.function_references r.entries >>= λ es.
      store cap k t (last_end t.blocks) es >>= λ fs. ok (round true fs)

  -- its possible blocks are settled; where none is left, it is finalized
  unfoldable pub finalize_function : Bool → ℕ → Slices → Round → Answer Round
  finalize_function final k s r =
      settle_all (around (first_start s.blocks) (last_end s.blocks) r.entries) low final (settling s low) >>= λ t.
      if (empty t.slices.possible_blocks) (keep_settled k t.slices r) (ok r)
    where
      low : ℕ
      low = key (section_of k) 0

  -- of an entry with lists
  abbrev pub finalize_entry : Bool → ℕ → Option Slices → Round → Answer Round
  finalize_entry final k none r = ok r
  finalize_entry final k (some s) r = finalize_function final k s r

  -- one after the other
  abbrev pub finalize_each : Bool → List Entry → Round → Answer Round
  finalize_each final [] r = ok r
  finalize_each final (x ∷ xs) r = finalize_entry final x.entry x.slices r >>= λ t. finalize_each final xs t

  -- AnalyzerState::finalize_functions
  unfoldable pub finalize_functions : Bool → List Entry → Answer Round
  finalize_functions final es = finalize_each final (filter is_unfinalized es) (round false es)

  -- ---- entries found behind the ends of others

  -- behind the first range that holds a
  abbrev pub past_range : ℕ → List Range → ℕ
  past_range a [] = a
  past_range a (r ∷ rs) = if (Image.in_range a r) r.past (past_range a rs)

  -- over one skip range
  unfoldable pub skip_range : ℕ → ℕ
  skip_range a = past_range a im.skips

  -- a zero word behind one skip range, that ends by `end`
  unfoldable pub is_padding : ℕ → ℕ → Bool
  is_padding end a = leb (skip_range a + 4) end && eqb (Image.word im (skip_range a)) 0

  -- over one skip range and a word
  unfoldable pub skip_zero : ℕ → ℕ
  skip_zero a = skip_range a + 4

  -- the first word from a, over skip ranges and zero words, that ends by `end`; `end` where there is none
  unfoldable pub skip_alignment : ℕ → ℕ → ℕ
  skip_alignment a end = if (leb (b + 4) end) b end
    where
      b : ℕ
      b = skip_range (run (is_padding end) skip_zero (λ x. end - x) a)

  -- the first address past the code section
  unfoldable pub section_end : ℕ
  section_end = key (Image.code_number im) ((Image.code_section im).base + (Image.code_section im).size)

  -- the new entry between an end and the next entry, if there is one
  unfoldable pub new_between : ℕ → ℕ → List ℕ
  new_between end after = if (ltb a (address_of after)) (key (Image.code_number im) a ∷ []) []
    where
      a : ℕ
      a = skip_alignment (address_of end) (address_of after)

  -- "an end lies above the next entry" (14)
  unfoldable pub found_behind : Entry → ℕ → Answer (List ℕ)
  found_behind x after =
      if (eqb x.end 0) (ok [])
      (if (not (eqb after section_end) && ltb after x.end) (fault 14) (ok (new_between x.end after)))

  -- behind each entry's end, up to the next entry
  abbrev pub new_functions : List Entry → Answer (List ℕ)
  new_functions [] = ok []
  new_functions (x ∷ es) =
      found_behind x (first (new_entry section_end) es).entry >>= λ l. new_functions es >>= λ ks. ok (l ++ ks)

  -- each of them
  abbrev pub add_entries : List ℕ → List Entry → Answer (List Entry)
  add_entries [] es = ok es
  add_entries (k ∷ ks) es = add_entry cap k es >>= λ fs. add_entries ks fs

  -- whether any was found. (No new entry is one that exists: `new_entries` in proofs/Rounds.antt.)
  unfoldable pub detect_new_functions : List Entry → Answer Round
  detect_new_functions es =
      new_functions es >>= λ ks. add_entries ks es >>= λ fs. ok (round (not (empty ks)) fs)

  -- ---- rounds

  -- nothing is left to be walked: finalize what can be, or else find more
  unfoldable pub finalize_or_detect : List Entry → Answer Round
  finalize_or_detect es =
      finalize_functions false es >>= λ r. if r.changed (ok r) (detect_new_functions r.entries)

  -- the next entry that is not analyzed, if there is one
  unfoldable pub process_next : ℕ → List Entry → Answer Round
  process_next k es = if (eqb k 0) (finalize_or_detect es) (process_function_at k es >>= λ fs. ok (round true fs))

  -- one round
  unfoldable pub process_step : Round → Answer Round
  process_step r = process_next (first_unbounded_function r.entries) r.entries

  -- AnalyzerState::process_functions: rounds until one changes nothing
  unfoldable pub process_functions : List Entry → Answer (List Entry)
  process_functions es = loop is_changed process_step rounds_left (round true es) >>= λ r. ok r.entries

  -- a round in which possible blocks are taken for the function's own
  unfoldable pub last_step : Round → Answer Round
  last_step r =
      finalize_functions true r.entries >>= λ t.
      if t.changed (process_functions t.entries >>= λ es. ok (round true es)) (ok t)

  -- such rounds until one changes nothing
  unfoldable pub last_rounds : List Entry → Answer (List Entry)
  last_rounds es = loop is_changed last_step rounds_left (round true es) >>= λ r. ok r.entries

  -- ---- the whole

  -- a symbol's known size gives the end
  abbrev pub set_end : Symbol → Entry → Entry
  set_end f x =
      record { entry = x.entry; analyzed = x.analyzed; end = if f.known (x.entry + f.size) 0; slices = x.slices }

  -- a function symbol is an entry
  unfoldable pub add_symbol : Symbol → List Entry → Answer (List Entry)
  add_symbol f es =
      add_entry cap k es >>= λ fs. ok (put entry_of (set_end f (upper entry_of k (new_entry k) fs)) fs)
    where
      k : ℕ
      k = key (Image.code_number im) f.address

  -- each of them
  abbrev pub add_symbols : List Symbol → List Entry → Answer (List Entry)
  add_symbols [] es = ok es
  add_symbols (f ∷ fs) es = add_symbol f es >>= λ gs. add_symbols fs gs

  -- function symbols, and the code section's first word: "always an entry"
  unfoldable pub first_entries : Answer (List Entry)
  first_entries = add_symbols im.functions [] >>= λ es. add_entry cap (key (Image.code_number im) (Image.code_section im).base) es

  -- the entry point, if there is one
  unfoldable pub process_entry_point : List Entry → Answer (List Entry)
  process_entry_point es = if (eqb im.entry 0) (ok es) (process_function_at im.entry es)

  -- "functions remain that cannot be finalized" (17)
  unfoldable pub all_finalized : List Entry → Answer (List Entry)
  all_finalized es = if (any is_unfinalized es) (fault 17) (ok es)

  -- what is known beforehand is walked once
  unfoldable pub walk_given : Answer (List Entry)
  walk_given = first_entries >>= λ es. process_each (map entry_of es) es >>= λ fs. process_entry_point fs

  -- AnalyzerState::detect_functions
  unfoldable pub detect_functions : Answer (List Entry)
  detect_functions = walk_given >>= λ es. process_functions es >>= λ fs. last_rounds fs >>= λ gs. all_finalized gs

-- the map of an image, or the number of the fault that the walk met
unfoldable pub detect : Image → Capacity → Answer (List Entry)
detect im cap = detect_functions im cap
