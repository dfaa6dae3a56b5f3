-- The table of blocks in two lent slices, starts and ends, of which the first n elements are in use.
use Rattle.std.specs.Prelude.{◌≡◌, List, Bool, true, false, ℕ, ◌<◌, ◌≤◌, ltb, length, take, drop}
use Rattle.rules.specs.Choice.{if}
use Rattle.rules.specs.Ordered.{put, Rising}
use Rattle.rules.specs.Blocks.{Block, block, start_of, below, reaches, mark, is_new}
use Rattle.ordered.specs.Columns.{join}
use Rattle.ordered.specs.Part.{IsFound}
use Rattle.ordered.specs.declared.Found.{Found}
use Rattle.blocks.specs.declared.Stored.{Stored}
use Rattle.blocks.specs.declared.Step.{Step}
use Rattle.blocks.specs.declared.Added.TheVariants.{Yes, No, Full}

-- the blocks that the first n elements hold
abbrev pub rows : ℕ → List ℕ → List ℕ → List Block
rows n ss es = join block (take n ss) (take n es)

-- both slices hold n rows, and their starts ascend
pub record Table (n : ℕ) (ss es : List ℕ) : Type 0 where
  pub starts : n ≤ length ss
  pub ends : n ≤ length es
  pub rising : Rising start_of (rows n ss es)

-- as many blocks as there is room for fit both slices
pub record Room (n room : ℕ) (ss es : List ℕ) : Type 0 where
  pub count : n ≤ room
  pub starts : room ≤ length ss
  pub ends : room ≤ length es

-- one more fits both slices, where the start that was looked up is not there
pub record Spare (n : ℕ) (hit : Bool) (ss es : List ℕ) : Type 0 where
  pub starts : hit ≡ false → n < length ss
  pub ends : hit ≡ false → n < length es

-- a start was looked up in a table that has room for it
pub record Looked (n a : ℕ) (f : Found) (ss es : List ℕ) : Type 0 where
  pub table : Table n ss es
  pub place : IsFound (take n ss) a f
  pub spare : Spare n f.hit ss es

-- and the block that ends at `end` reaches over it
pub record Reached (n a : ℕ) (f : Found) (end : ℕ) (ss es : List ℕ) : Type 0 where
  pub looked : Looked n a f ss es
  pub over : reaches a (rows n ss es) ≡ true
  pub end_is : end ≡ (below a (rows n ss es)).end

-- the m blocks bs stand in both slices, and what is past them is as it was
pub record Holds (m : ℕ) (bs : List Block) (ss es ss' es' : List ℕ) : Type 0 where
  pub count : length bs ≡ m
  pub live : rows m ss' es' ≡ bs
  pub rest_starts : drop m ss' ≡ drop m ss
  pub rest_ends : drop m es' ≡ drop m es
  pub size_starts : length ss' ≡ length ss
  pub size_ends : length es' ≡ length es

-- a block put in its place, or nothing changed where that would pass the room
pub record IsStored (n room : ℕ) (b : Block) (ss es ss' es' : List ℕ) (r : Stored) : Type 0 where
  pub full : r.full ≡ ltb room (length (put start_of b (rows n ss es)))
  pub table : Holds r.count (if r.full (rows n ss es) (put start_of b (rows n ss es))) ss es ss' es'

-- the table as marked, or nothing changed where that would pass the room
pub record IsAdded (n room a : ℕ) (ss es ss' es' : List ℕ) (r : Step) : Type 0 where
  pub answer : r.added ≡ if (ltb room (length (mark a (rows n ss es)))) Full (if (is_new a (rows n ss es)) Yes No)
  pub table : Holds r.count (if (ltb room (length (mark a (rows n ss es)))) (rows n ss es) (mark a (rows n ss es))) ss es ss' es'
