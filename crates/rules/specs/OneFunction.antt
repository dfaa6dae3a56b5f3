-- The walk of one function for itself: `FunctionSlices::analyze` on an empty value, and how its lists are stored in a lent one.
use Rattle.std.specs.Prelude.{ℕ, ◌+◌, ◌%◌, Bool, false, ◌&&◌, ◌||◌, List, [], ◌∷◌, ◌++◌, map, ltb, leb, eqb, length}
use Rattle.std.proofs.Math.Option.{none}
use Rattle.rules.specs.Choice.{if, Answer, ok, fault, ◌>>=◌}
use Rattle.rules.specs.Address.{address_of, section_of}
use Rattle.rules.specs.Image.{Image, code_number}
use Rattle.rules.specs.Given.{Given, image_of}
use Rattle.rules.specs.Check.{check, chained, is_entry}
use Rattle.rules.specs.Blocks.{Block, start_of}
use Rattle.rules.specs.Slices.{Slices, Branches, Table, own_address, with_only}
use Rattle.rules.specs.Known.{Entry}
use Rattle.rules.specs.Analyze.{Analyzed, analyze}
use Rattle.rules.specs.Step.{Around}

-- ---- what is asked: the known functions by their entries and ends, the start, the end (0 for none)

-- a known function of which nothing but its end is known
abbrev pub known_entry : Block → Entry
known_entry b = record { entry = b.start; analyzed = false; end = b.end; slices = none }

-- the known functions ascend strictly, at most 1,024 of them
unfoldable pub are_known : List Block → Bool
are_known l = leb (length l) 1024 && chained (λ a b. ltb a.start b.start) l

-- the start is an aligned code address with its section
unfoldable pub is_start : Image → ℕ → Bool
is_start im k = eqb (section_of k) (code_number im) && is_entry im (address_of k)

-- the end, if given, is not below the start and at most 262,144 bytes from it, as a symbol's size may be
unfoldable pub is_end : ℕ → ℕ → Bool
is_end k end = eqb end 0 || (leb k end && leb end (k + 262144) && eqb (end % 4) 0)

-- 1 to 3 as for every image, and 3 where the known functions as lent, the start or the end break a rule; 0 where nothing does
unfoldable pub check_one : Given → Bool → ℕ → ℕ → ℕ
check_one g known k end = if (eqb (check g) 0) (if (known && is_start (image_of g) k && is_end k end) 0 3) (check g)

-- ---- a function's lists as numbers, column by column

abbrev pub end_of : Block → ℕ
end_of b = b.end

abbrev pub size_of : Table → ℕ
size_of t = t.size

-- the word that each way on is from, and where it goes
abbrev pub way_froms : List Branches → List ℕ
way_froms [] = []
way_froms (v ∷ vs) = map (λ _. v.from) v.targets ++ way_froms vs

abbrev pub way_tos : List Branches → List ℕ
way_tos [] = []
way_tos (v ∷ vs) = v.targets ++ way_tos vs

-- starts and ends of blocks, words and targets of ways on, references, addresses and sizes of jump tables, possible blocks
unfoldable pub numbers : Slices → List ℕ
numbers s =
    map start_of s.blocks ++ map end_of s.blocks ++ way_froms s.branches ++ way_tos s.branches ++ s.function_references ++
    map own_address s.jump_table_references ++ map size_of s.jump_table_references ++ s.possible_blocks

-- ---- the walk

-- "4 where one is passed, when they are stored"
unfoldable pub stored : ℕ → Analyzed → Answer Analyzed
stored room r = if (leb (length (numbers r.slices)) room) (ok r) (fault 4)

-- what stays as it is during the walk
abbrev pub around_one : Image → List Block → ℕ → ℕ → Around
around_one im known k end = record { image = im; start = k; end = end; entries = map known_entry known }

-- the walk from the start, on an empty value; `right` says whether the known functions are lent as they must be
unfoldable pub walk_function : Given → Bool → List Block → ℕ → ℕ → ℕ → Answer Analyzed
walk_function g right known k end room =
    if (eqb (check_one g right k end) 0)
    (analyze (around_one (image_of g) known k end) k (with_only []) >>= λ r. stored room r)
    (fault (check_one g right k end))
