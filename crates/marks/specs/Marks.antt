-- One mark in a lent table of any lengths: the number, the count, the answer, and every element of both slices.
use Rattle.std.specs.Prelude.{◌≡◌, ℕ, min, Bool, true, false, ◌&&◌, List, [], ◌∷◌, ◌++◌, map, length, drop, nat_le}
use Rattle.rules.specs.Choice.{if, Answer, ok, fault}
use Rattle.rules.specs.Blocks.{Block, Marked, mark_in, start_of, is_aligned, is_table}
use Rattle.blocks.specs.Table.{rows}
use Rattle.marks.specs.declared.Marking.{Marking}
use Rattle.blocks.specs.declared.Step.{Step}
use Rattle.blocks.specs.declared.Added.{Added}
use Rattle.blocks.specs.declared.Added.TheVariants.{Yes, No, Full}

abbrev pub end_of : Block → ℕ
end_of b = b.end

-- how many blocks both slices can hold
abbrev pub lent : List ℕ → List ℕ → ℕ
lent ss es = min (length ss) (length es)

-- the first start, if there is one, is b or more
abbrev pub starts_from : ℕ → List Block → Bool
starts_from b [] = true
starts_from b (r ∷ l) = nat_le b r.start

-- rows that may stand in a table where b is what the next start must reach
abbrev pub goes_on : ℕ → List Block → Bool
goes_on b l = starts_from b l && is_table l

-- the count fits both slices, and the address and the table break no rule
abbrev pub markable : ℕ → ℕ → List ℕ → List ℕ → Bool
markable n a ss es = nat_le n (lent ss es) && (is_aligned a && is_table (rows n ss es))

-- 3 where the count passes a lent length; else what `rules` says of the first n rows
unfoldable pub mark_lent : ℕ → ℕ → List ℕ → List ℕ → Answer Marked
mark_lent n a ss es = if (nat_le n (lent ss es)) (mark_in (lent ss es) a (rows n ss es)) (fault 3)

-- 0 for a table that was marked
abbrev pub number_of : Answer Marked → ℕ
number_of (ok m) = 0
number_of (fault k) = k

abbrev pub count_of : ℕ → Answer Marked → ℕ
count_of n (ok m) = length m.blocks
count_of n (fault k) = n

abbrev pub new_of : Answer Marked → Bool
new_of (ok m) = m.new
new_of (fault k) = false

-- a lent slice with a column of the marked table over its first elements
abbrev pub column_of : (Block → ℕ) → List ℕ → Answer Marked → List ℕ
column_of field xs (ok m) = map field m.blocks ++ drop (length m.blocks) xs
column_of field xs (fault k) = xs

-- the answer of a mark in a table that breaks no rule
abbrev pub number_by : Added → ℕ
number_by Yes = 0
number_by No = 0
number_by Full = 4

abbrev pub new_by : Added → Bool
new_by Yes = true
new_by No = false
new_by Full = false

pub record IsAnswered (r : Step) (m : Marking) : Type 0 where
  pub number : m.number ≡ number_by r.added
  pub count : m.count ≡ r.count
  pub new : m.new ≡ new_by r.added

-- the whole result of a mark in lent slices
pub record IsMarking (answer : Answer Marked) (n : ℕ) (ss es ss' es' : List ℕ) (r : Marking) : Type 0 where
  pub number : r.number ≡ number_of answer
  pub count : r.count ≡ count_of n answer
  pub new : r.new ≡ new_of answer
  pub starts : ss' ≡ column_of start_of ss answer
  pub ends : es' ≡ column_of end_of es answer
