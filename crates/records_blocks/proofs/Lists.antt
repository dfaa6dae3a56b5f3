-- What a sweep makes of a list of records in each of its modes, and what it knows of the table then.
use Prim.Native.Nat.{ℕ, zero, suc, ◌+◌, ◌<◌, ◌≤◌}
use mathlib.Core.Path.{◌≡◌, refl, sym, ◌∙◌, ap, subst}
use mathlib.Core.Bool.{Bool, true, false, ◌&&◌}
use mathlib.Core.List.{List, [], ◌∷◌, ◌++◌, map}
use native.Mathlib.Omega.{arith}
use lib.Dec.{ltb, leb}
use lib.ListN.{length, take, drop, get_or, set, take-append-drop}
use borrow.Author.Tests.{ltb-true, ltb-false}
use Rattle.rules.specs.Choice.{if, if_true, if_false}
use Rattle.rules.specs.Ordered.{rank, has, lower, insert_at}
use Rattle.rules.specs.Blocks.{Block as Row, block, start_of, is_block, is_table}
use Rattle.rules.proofs.Blocks.{none}
use Rattle.marks.specs.Marks.{starts_from, goes_on}
use Rattle.marks.proofs.Checks.{above_from}
use Rattle.records_blocks.specs.Sweep.{entry, row, follows, checked, checks, renewed, wrote, held, passed, found, turned, after, swept}
use Rattle.records_blocks.specs.Records.{entry_of, rows_of}
use Rattle.records_blocks.specs.declared.Block.{Block}
use Rattle.records_blocks.specs.declared.Check.{Check}
use Rattle.records_blocks.specs.declared.Carry.{Carry}
use Rattle.records_blocks.proofs.Turns.{moved_check, turn_pass, turn_find, turn_cut, turn_under, turn_whole, turn_shift, turn_swap, turn_past, turn_keep}

-- the records of blocks
abbrev pub entries : List Row → List Block
entries l = map entry_of l

pub same_entries : (l : List Block) → entries (map row l) ≡ l
same_entries [] = refl
same_entries (b ∷ l) = ap (λ (r : List Block). b ∷ r) (same_entries l)

-- ---- what is known of the table

pub after_check : (m i : ℕ) (c : Carry) (l : List Block) → (after m i c l).check ≡ checks m c.check l
after_check zero i c l = refl
after_check (suc m) i c [] = refl
after_check (suc m) i c (b ∷ l) = after_check m (i + 1) (turned c i b) l ∙ ap (λ (k : Check). checks m k l) (moved_check (renewed c b) i b)

-- one row, and those after it
row_on : (k : ℕ) (b : Block) (l : List Row) → goes_on k (row b ∷ l) ≡ ((leb k b.start && is_block (row b)) && goes_on (b.start + 1) l)
row_on k b l = rw (above_from b.start l) (by (leb k b.start) (is_block (row b)) (starts_from (b.start + 1) l) (is_table l))
  where
    by : (a x s t : Bool) → (a && (x && s && t)) ≡ ((a && x) && (s && t))
    by true true s t = refl
    by true false s t = refl
    by false x s t = refl

pub checks_sound : (m : ℕ) (k : Check) (l : List Block) → (checks m k l).sound ≡ (k.sound && goes_on k.least (rows_of m l))
unfolding checked
checks_sound zero k l = alone k.sound
  where
    alone : (s : Bool) → s ≡ (s && true)
    alone true = refl
    alone false = refl
checks_sound (suc m) k [] = alone k.sound
  where
    alone : (s : Bool) → s ≡ (s && true)
    alone true = refl
    alone false = refl
checks_sound (suc m) k (b ∷ l) = go (checks_sound m (record { least = b.start + 1; sound = true }) l) (checks_sound m (record { least = k.least; sound = false }) l) (follows k b) refl
  where
    rest : Bool
    rest = goes_on (b.start + 1) (rows_of m l)

    whole : (k.sound && goes_on k.least (row b ∷ rows_of m l)) ≡ (follows k b && rest)
    whole = rw (row_on k.least b (rows_of m l)) (by k.sound (leb k.least b.start && is_block (row b)) rest)
      where
        by : (s t u : Bool) → (s && (t && u)) ≡ ((s && t) && u)
        by true t u = refl
        by false t u = refl

    Goes : Check → Type 0
    Goes j = (checks m j l).sound ≡ (j.sound && goes_on j.least (rows_of m l))

    go : Goes (record { least = b.start + 1; sound = true }) → Goes (record { least = k.least; sound = false }) → (t : Bool) → follows k b ≡ t → (checks m (checked k b) l).sound ≡ (k.sound && goes_on k.least (row b ∷ rows_of m l))
    go on off true e = ap (λ (j : Check). (checks m j l).sound) (if_true e _ _) ∙ on ∙ sym (whole ∙ ap (λ (t : Bool). t && rest) e)
    go on off false e = ap (λ (j : Check). (checks m j l).sound) (if_false e _ _) ∙ off ∙ sym (whole ∙ ap (λ (t : Bool). t && rest) e)

-- one turn, where it is known
step_swept : (m i : ℕ) (c d : Carry) (b : Block) (l : List Block) → turned c i b ≡ d → swept (suc m) i c (b ∷ l) ≡ d.out ∷ swept m (i + 1) d l
step_swept m i c d b l e = ap (λ (u : Carry). u.out ∷ swept m (i + 1) u l) e

step_after : (m i : ℕ) (c d : Carry) (b : Block) (l : List Block) → turned c i b ≡ d → after (suc m) i c (b ∷ l) ≡ after m (i + 1) d l
step_after m i c d b l e = ap (λ (u : Carry). after m (i + 1) u l) e

-- ---- looking

-- what is seen of a list from the place i on, by a sweep that carries c
pub record Seen (c r : Carry) (i : ℕ) (l : List Block) (d : Block) : Type 0 where
  pub addr : r.addr ≡ c.addr
  pub at : r.at ≡ i + rank start_of c.addr (map row l)
  pub hit : r.hit ≡ has start_of c.addr (map row l)
  pub below : r.below ≡ (lower start_of c.addr (row d) (map row l)).end

-- past the place nothing changes
pub record Same (c r : Carry) : Type 0 where
  pub addr : r.addr ≡ c.addr
  pub at : r.at ≡ c.at
  pub hit : r.hit ≡ c.hit
  pub below : r.below ≡ c.below

pub stay_after : (m i : ℕ) (c : Carry) (l : List Block) → c.mode ≡ 1 → c.at ≤ i → Same c (after m i c l)
stay_after zero i c l h k = record { addr = refl; at = refl; hit = refl; below = refl }
stay_after (suc m) i c [] h k = record { addr = refl; at = refl; hit = refl; below = refl }
stay_after (suc m) i c (b ∷ l) h k =
    let e : turned c i b ≡ wrote (renewed c b) b = turn_keep (renewed c b) i b (λ z. omega arith) k (λ z. omega arith) (λ z. omega arith) in
    subst (Same c) (sym (step_after m i c (wrote (renewed c b) b) b l e)) (again (stay_after m (i + 1) (wrote (renewed c b) b) l h (omega arith)))
  where
    again : {r : Carry} → Same (wrote (renewed c b) b) r → Same c r
    again s = record { addr = s.addr; at = s.at; hit = s.hit; below = s.below }

pub stay_swept : (m i : ℕ) (c : Carry) (l : List Block) → c.mode ≡ 1 → c.at ≤ i → swept m i c l ≡ l
stay_swept zero i c l h k = refl
stay_swept (suc m) i c [] h k = refl
stay_swept (suc m) i c (b ∷ l) h k =
    let e : turned c i b ≡ wrote (renewed c b) b = turn_keep (renewed c b) i b (λ z. omega arith) k (λ z. omega arith) (λ z. omega arith) in
    step_swept m i c (wrote (renewed c b) b) b l e ∙ ap (λ (r : List Block). b ∷ r) (stay_swept m (i + 1) (wrote (renewed c b) b) l h (omega arith))

pub look_swept : (m i : ℕ) (c : Carry) (l : List Block) → c.mode ≡ 0 → swept m i c l ≡ l
look_swept zero i c l h = refl
look_swept (suc m) i c [] h = refl
look_swept (suc m) i c (b ∷ l) h = go (look_swept m (i + 1) (passed (renewed c b) b) l h) (ltb b.start c.addr) refl
  where
    go : swept m (i + 1) (passed (renewed c b) b) l ≡ l → (t : Bool) → ltb b.start c.addr ≡ t → swept (suc m) i c (b ∷ l) ≡ b ∷ l
    go ih true e = step_swept m i c (passed (renewed c b) b) b l (turn_pass (renewed c b) i b h (ltb-true _ _ e)) ∙ ap (λ (r : List Block). b ∷ r) ih
    go ih false e = step_swept m i c (found (renewed c b) i b) b l (turn_find (renewed c b) i b h (ltb-false _ _ e)) ∙ ap (λ (r : List Block). b ∷ r) (stay_swept m (i + 1) (found (renewed c b) i b) l refl (omega arith))

pub look_after : (m i : ℕ) (c : Carry) (l : List Block) (d : Block) → c.mode ≡ 0 → c.hit ≡ false → c.at ≡ i + m → c.below ≡ d.end → m ≤ length l → Seen c (after m i c l) i (take m l) d
unfolding if
look_after zero i c l d h k a w f = record { addr = refl; at = a; hit = k; below = w }
look_after (suc m) i c [] d h k a w f = absurd (omega arith)
look_after (suc m) i c (b ∷ l) d h k a w f = go (look_after m (i + 1) (passed (renewed c b) b) l b h k (omega arith) refl (omega arith)) (ltb b.start c.addr) refl
  where
    go : Seen (passed (renewed c b) b) (after m (i + 1) (passed (renewed c b) b) l) (i + 1) (take m l) b → (t : Bool) → ltb b.start c.addr ≡ t → Seen c (after (suc m) i c (b ∷ l)) i (take (suc m) (b ∷ l)) d
    go s true e =
        let r : i + suc (rank start_of c.addr (rows_of m l)) ≡ i + 1 + rank start_of c.addr (rows_of m l) = omega arith in
        subst (λ (u : Carry). Seen c u i (b ∷ take m l) d) (sym (step_after m i c (passed (renewed c b) b) b l (turn_pass (renewed c b) i b h (ltb-true _ _ e))))
        (record { addr = s.addr; at = rw e (s.at ∙ sym r); hit = rw e s.hit; below = rw e s.below })
    go ih false e =
        let s : Same (found (renewed c b) i b) (after m (i + 1) (found (renewed c b) i b) l) = stay_after m (i + 1) (found (renewed c b) i b) l refl (omega arith) in
        let r : i + 0 ≡ i = omega arith in
        subst (λ (u : Carry). Seen c u i (b ∷ take m l) d) (sym (step_after m i c (found (renewed c b) i b) b l (turn_find (renewed c b) i b h (ltb-false _ _ e))))
        (record { addr = s.addr; at = rw e (s.at ∙ sym r); hit = rw e s.hit; below = rw e (s.below ∙ w) })

-- ---- changing

-- from the place on, each block moves up by one
pub shift_swept : (m i : ℕ) (c : Carry) (l : List Block) → c.mode ≡ 3 → c.at ≤ i → suc m ≤ length l → swept (suc m) i c l ≡ c.hold ∷ (take m l ++ drop (suc m) l)
shift_swept m i c [] h k f = absurd (omega arith)
shift_swept zero i c (b ∷ l) h k f = step_swept 0 i c (held (renewed c b) c.hold b) b l (turn_shift (renewed c b) i b (λ z. omega arith) k h)
shift_swept (suc m) i c (b ∷ l) h k f =
    step_swept (suc m) i c (held (renewed c b) c.hold b) b l (turn_shift (renewed c b) i b (λ z. omega arith) k h)
    ∙ ap (λ (r : List Block). c.hold ∷ r) (shift_swept m (i + 1) (held (renewed c b) c.hold b) l h (omega arith) (omega arith))

-- a block is put in at p
pub open_swept : (p m i : ℕ) (c : Carry) (l : List Block) → c.mode ≡ 3 → c.cut ≡ false → c.at ≡ i + p → p ≤ m → suc m ≤ length l → swept (suc m) i c l ≡ entries (insert_at p (row c.hold) (rows_of m l)) ++ drop (suc m) l
open_swept zero m i c l h t a k f = shift_swept m i c l h (omega arith) f ∙ ap (λ (r : List Block). c.hold ∷ (r ++ drop (suc m) l)) (sym (same_entries (take m l)))
open_swept (suc p) zero i c l h t a k f = absurd (omega arith)
open_swept (suc p) (suc m) i c [] h t a k f = absurd (omega arith)
open_swept (suc p) (suc m) i c (b ∷ l) h t a k f =
    step_swept (suc m) i c (wrote (renewed c b) b) b l (turn_whole (renewed c b) i b (λ z. omega arith) (omega arith) t)
    ∙ ap (λ (r : List Block). b ∷ r) (open_swept p m (i + 1) (wrote (renewed c b) b) l h t (omega arith) (omega arith) (omega arith))

-- the block at k is cut, and the rest of it is put in after it
pub cut_swept : (k m i : ℕ) (c : Carry) (l : List Block) → c.mode ≡ 3 → c.cut ≡ true → c.at ≡ i + suc k → c.last ≡ i + k → suc k ≤ m → suc m ≤ length l
    → swept (suc m) i c l ≡ entries (insert_at (suc k) (block c.addr (get_or (rows_of m l) k none).end) (set (rows_of m l) k (block (get_or (rows_of m l) k none).start c.addr))) ++ drop (suc m) l
cut_swept k zero i c l h t a e j f = absurd (omega arith)
cut_swept k (suc m) i c [] h t a e j f = absurd (omega arith)
cut_swept zero (suc m) i c (b ∷ l) h t a e j f =
    let d : Carry = held (renewed c b) (entry b.start c.addr) (entry c.addr b.end) in
    step_swept (suc m) i c d b l (turn_cut (renewed c b) i b (λ z. omega arith) (omega arith) t (omega arith))
    ∙ ap (λ (r : List Block). entry b.start c.addr ∷ r)
    (shift_swept m (i + 1) d l h (omega arith) (omega arith) ∙ ap (λ (r : List Block). entry c.addr b.end ∷ (r ++ drop (suc m) l)) (sym (same_entries (take m l))))
cut_swept (suc k) (suc m) i c (b ∷ l) h t a e j f =
    step_swept (suc m) i c (wrote (renewed c b) b) b l (turn_under (renewed c b) i b (λ z. omega arith) (omega arith) t (λ z. omega arith))
    ∙ ap (λ (r : List Block). b ∷ r) (cut_swept k m (i + 1) (wrote (renewed c b) b) l h t (omega arith) (omega arith) (omega arith) (omega arith))

-- past the place nothing changes
pub past_swept : (m i : ℕ) (c : Carry) (l : List Block) → c.mode ≡ 4 → c.at < i → swept m i c l ≡ l
past_swept zero i c l h k = refl
past_swept (suc m) i c [] h k = refl
past_swept (suc m) i c (b ∷ l) h k =
    step_swept m i c (wrote (renewed c b) b) b l (turn_past (renewed c b) i b (λ z. omega arith) (omega arith) (λ z. omega arith) h (λ z. omega arith))
    ∙ ap (λ (r : List Block). b ∷ r) (past_swept m (i + 1) (wrote (renewed c b) b) l h (omega arith))

-- the block at k is cut, and the rest of it stands instead of the one after it
pub swap_swept : (k m i : ℕ) (c : Carry) (l : List Block) → c.mode ≡ 4 → c.cut ≡ true → c.at ≡ i + suc k → c.last ≡ i + k → suc k < m → m ≤ length l
    → swept m i c l ≡ entries (set (set (rows_of m l) k (block (get_or (rows_of m l) k none).start c.addr)) (suc k) (block c.addr (get_or (rows_of m l) k none).end)) ++ drop m l
swap_swept k zero i c l h t a e j f = absurd (omega arith)
swap_swept k (suc zero) i c l h t a e j f = absurd (omega arith)
swap_swept k (suc (suc m)) i c [] h t a e j f = absurd (omega arith)
swap_swept k (suc (suc m)) i c (b ∷ []) h t a e j f = absurd (omega arith)
swap_swept zero (suc (suc m)) i c (b ∷ b' ∷ l) h t a e j f =
    let d : Carry = held (renewed c b) (entry b.start c.addr) (entry c.addr b.end) in
    step_swept (suc m) i c d b (b' ∷ l) (turn_cut (renewed c b) i b (λ z. omega arith) (omega arith) t (omega arith))
    ∙ ap (λ (r : List Block). entry b.start c.addr ∷ r)
    (step_swept m (i + 1) d (wrote (renewed d b') d.hold) b' l (turn_swap (renewed d b') (i + 1) b' (λ z. omega arith) (omega arith) (λ z. omega arith) h (omega arith))
    ∙ ap (λ (r : List Block). entry c.addr b.end ∷ r)
    (past_swept m (i + 1 + 1) (wrote (renewed d b') d.hold) l h (omega arith) ∙ sym (take-append-drop m l) ∙ ap (λ (r : List Block). r ++ drop m l) (sym (same_entries (take m l)))))
swap_swept (suc k) (suc (suc m)) i c (b ∷ b' ∷ l) h t a e j f =
    step_swept (suc m) i c (wrote (renewed c b) b) b (b' ∷ l) (turn_under (renewed c b) i b (λ z. omega arith) (omega arith) t (λ z. omega arith))
    ∙ ap (λ (r : List Block). b ∷ r) (swap_swept k (suc m) (i + 1) (wrote (renewed c b) b) (b' ∷ l) h t (omega arith) (omega arith) (omega arith) (omega arith))
