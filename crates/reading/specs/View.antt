-- The lists that stand in the first numbers of the lent ones.
use Rattle.std.specs.Prelude.{◌≡◌, List, ℕ, ◌≤◌, length, take}
use Rattle.std.specs.Prelude.{Option, None, Some}
use Rattle.rules.specs.Choice.{if}
use Rattle.obj_image.specs.Lent.{Lent, lent}
use Rattle.reading.specs.declared.line.Frame.{Frame}
use Rattle.reading.specs.PutFrame.{Room, put_word, put_line}
use Rattle.reading.specs.declared.state.Reading.{Reading}

abbrev pub lists : Reading → List ℕ → List ℕ → List ℕ → List ℕ → List ℕ → List ℕ → List ℕ → Lent
lists r s b o f j k e =
    lent (take r.sections s) (take r.bytes b) (take r.outcomes o) (take r.functions f) (take r.objects j) (take r.skips k)
    (take r.entry e)

-- the lists, if every line was a frame
unfoldable pub view : Reading → List ℕ → List ℕ → List ℕ → List ℕ → List ℕ → List ℕ → List ℕ → Option Lent
view r s b o f j k e = if r.ok (Some (lists r s b o f j k e)) None

abbrev pub room : List ℕ → List ℕ → List ℕ → List ℕ → List ℕ → List ℕ → List ℕ → Room
room s b o f j k e =
    record {
      sections = length s;
      bytes = length b;
      outcomes = length o;
      functions = length f;
      objects = length j;
      skips = length k;
      entry = length e;
    }

-- a frame put into the symbols, skip ranges and entry point; whatever the other lists are, they stay
pub record GivenPut (x : Frame) (r q : Reading) (f f' j j' k k' e e' : List ℕ) : Type 0 where
  pub size_f : length f' ≡ length f
  pub size_j : length j' ≡ length j
  pub size_k : length k' ≡ length k
  pub size_e : length e' ≡ length e
  pub within_f : q.functions ≤ length f'
  pub within_j : q.objects ≤ length j'
  pub within_k : q.skips ≤ length k'
  pub within_e : q.entry ≤ length e'
  pub sections : q.sections ≡ r.sections
  pub bytes : q.bytes ≡ r.bytes
  pub outcomes : q.outcomes ≡ r.outcomes
  pub same : (s b o : List ℕ) → view q s b o f' j' k' e' ≡ put_line (room s b o f j k e) (Some x) (lists r s b o f j k e)

-- a word put into the last section
pub record WordPut (kind w : ℕ) (r q : Reading) (s s' b b' : List ℕ) : Type 0 where
  pub size_s : length s' ≡ length s
  pub size_b : length b' ≡ length b
  pub within_b : q.bytes ≤ length b'
  pub sections : q.sections ≡ r.sections
  pub outcomes : q.outcomes ≡ r.outcomes
  pub functions : q.functions ≡ r.functions
  pub objects : q.objects ≡ r.objects
  pub skips : q.skips ≡ r.skips
  pub entry : q.entry ≡ r.entry
  pub same : (o f j k e : List ℕ) → view q s' b' o f j k e ≡ put_word (room s b o f j k e) kind w (lists r s b o f j k e)

-- a frame put into the sections, the bytes and the outcomes; whatever the other lists are, they stay
pub record ImagePut (x : Frame) (r q : Reading) (s s' b b' o o' : List ℕ) : Type 0 where
  pub size_s : length s' ≡ length s
  pub size_b : length b' ≡ length b
  pub size_o : length o' ≡ length o
  pub within_s : q.sections ≤ length s'
  pub within_b : q.bytes ≤ length b'
  pub within_o : q.outcomes ≤ length o'
  pub functions : q.functions ≡ r.functions
  pub objects : q.objects ≡ r.objects
  pub skips : q.skips ≡ r.skips
  pub entry : q.entry ≡ r.entry
  pub same : (f j k e : List ℕ) → view q s' b' o' f j k e ≡ put_line (room s b o f j k e) (Some x) (lists r s b o f j k e)

-- a frame put into the outcomes; whatever the other lists are, they stay
pub record ToldPut (x : Frame) (r q : Reading) (o o' : List ℕ) : Type 0 where
  pub size_o : length o' ≡ length o
  pub sections : q.sections ≡ r.sections
  pub bytes : q.bytes ≡ r.bytes
  pub outcomes : q.outcomes ≡ r.outcomes
  pub functions : q.functions ≡ r.functions
  pub objects : q.objects ≡ r.objects
  pub skips : q.skips ≡ r.skips
  pub entry : q.entry ≡ r.entry
  pub same : (s b f j k e : List ℕ) → view q s b o' f j k e ≡ put_line (room s b o f j k e) (Some x) (lists r s b o f j k e)

-- the counts are within the lent lists
pub record Fit (r : Reading) (s b o f j k e : List ℕ) : Type 0 where
  pub within_s : r.sections ≤ length s
  pub within_b : r.bytes ≤ length b
  pub within_o : r.outcomes ≤ length o
  pub within_f : r.functions ≤ length f
  pub within_j : r.objects ≤ length j
  pub within_k : r.skips ≤ length k
  pub within_e : r.entry ≤ length e

-- a frame put into the lists: what was to be read before is read on, if there was anything
pub record FramePut (x : Frame) (r q : Reading) (s s' b b' o o' f f' j j' k k' e e' : List ℕ) : Type 0 where
  pub size_s : length s' ≡ length s
  pub size_b : length b' ≡ length b
  pub size_o : length o' ≡ length o
  pub size_f : length f' ≡ length f
  pub size_j : length j' ≡ length j
  pub size_k : length k' ≡ length k
  pub size_e : length e' ≡ length e
  pub fit : Fit q s' b' o' f' j' k' e'
  pub same : view q s' b' o' f' j' k' e' ≡ if r.ok (put_line (room s b o f j k e) (Some x) (lists r s b o f j k e)) None
