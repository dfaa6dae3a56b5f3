-- Words at which a step of the walk only marks the word and goes on, and a stretch of them as one step.
use Rattle.std.specs.Prelude.{ℕ, ◌+◌, ◌*◌, ◌≡◌, Bool, true, false, ◌&&◌, ◌||◌, not, ltb, leb}
use Rattle.rules.specs.Choice.{if}
use Rattle.rules.specs.Ordered.{self, has}
use Rattle.rules.specs.Address.{address_of}
use Rattle.rules.specs.Image.{Image, code_section, contains, word, told_at, go_on, index}
use Rattle.rules.specs.Words.{is_stwu, is_mflr, is_mtlr, is_or, is_lwz, is_conditional_blr, is_rfi}
use Rattle.rules.specs.Step.{Around, Walk, at, is_known_function, is_met}

-- a word that begins no sequence, loads no r1 and is no return that sets a flag
unfoldable pub plain : ℕ → Bool
plain w = not (is_stwu w || is_mflr w || is_mtlr w || is_or w || is_lwz w || is_conditional_blr w || is_rfi w)

-- a code word that is plain and goes on
pub record Quick (im : Image) (k : ℕ) : Type 0 where
  pub inside : contains (code_section im) (address_of k) ≡ true
  pub is_plain : plain (word im (address_of k)) ≡ true
  pub goes : (told_at im k).outcome ≡ go_on

-- it was not visited, the walk's lists and the known functions have nothing there, and the next word does not end the block
pub record Free (e : Around) (k : ℕ) (w : Walk) : Type 0 where
  pub not_possible : has self k w.slices.possible_blocks ≡ false
  pub not_known : is_known_function e w.slices k ≡ false
  pub new : w.visited (index e.image k) ≡ false
  pub next : is_met e (k + 4) w ≡ false

-- both
pub record Passes (e : Around) (k : ℕ) (w : Walk) : Type 0 where
  pub quick : Quick e.image k
  pub free : Free e k w

-- a set of numbers, with the n from i on in it too
unfoldable pub with_run : (ℕ → Bool) → ℕ → ℕ → ℕ → Bool
with_run v i n j = if (leb i j && ltb j (i + n)) true (v j)

-- over the n words from k on, in the block b
unfoldable pub leap : Around → ℕ → ℕ → ℕ → Walk → Walk
leap e k b n w =
    record { slices = w.slices; visited = with_run w.visited (index e.image k) n; pending = w.pending; fresh = w.fresh || ltb 0 n; place = at (k + 4 * n) b }
