-- Ways grouped by the words that they are from: what a splice of pairs makes of the rows.
use mathlib.Core.Path.{◌≡◌, refl, sym, ap, subst, ◌∙◌}
use mathlib.Core.List.{List, [], ◌∷◌, ◌++◌, map}
use mathlib.Core.Bool.{true}
use Prim.Native.Nat.{ℕ, zero, suc, ◌+◌, ◌-◌, ◌<◌, ◌≤◌}
use native.Mathlib.Omega.{arith}
use native.Mathlib.Decide.{ℕ_discrete, dec_lt}
use lib.Dec.{ltb, eqb, leb}
use lib.ListN.{length, take, drop}
use borrow.Author.Tests.{lt-ltb, le-ltb, eq-eqb, ne_eqb, leb-true, le-leb}
use Rattle.std.specs.Prelude.{Some, slice_get}
use Rattle.rules.specs.Choice.{if_true, if_false, by_if}
use Rattle.rules.specs.Ordered.{rank, put, Above, Rising}
use Rattle.rules.specs.Slices.{Branches, from_of, count_branches}
use Rattle.tables.specs.declared.multimap.Way.{Way}
use Rattle.tables.specs.Groups.{way, leaves, last_up_to, branches_of, add_way, grouped}

-- rows of which the first is from k
data Headed : ℕ → List Branches → Type 0 where
  headed : {k : ℕ} {ts : List ℕ} {r : List Branches} → Headed k (branches_of k ts ∷ r)

-- a pair's own row
abbrev one : Way → Branches
one p = branches_of p.from (p.to ∷ [])

add_headed : (p : Way) (g : List Branches) → Headed p.from (add_way p g)
add_headed p [] = headed
add_headed p (w ∷ g) = by_if (Headed p.from) (eqb p.from w.from) (λ _. headed) (λ _. headed)

-- a pair before a row of its word, and before another word's
add_same : (p : Way) (w : Branches) (g : List Branches) → p.from ≡ w.from → add_way p (w ∷ g) ≡ branches_of p.from (p.to ∷ w.targets) ∷ g
add_same p w g e = if_true (eq-eqb p.from w.from e) _ _

add_other : (p : Way) (w : Branches) (g : List Branches) → (p.from ≡ w.from → ⊥) → add_way p (w ∷ g) ≡ one p ∷ w ∷ g
add_other p w g ne = if_false (ne_eqb p.from w.from ne) _ _

add_on : (p : Way) {k : ℕ} {l : List Branches} → p.from ≡ k → Headed k l → drop 1 (add_way p l) ≡ drop 1 l
add_on p {k} e (headed {ts} {r}) = ap (drop 1) (add_same p (branches_of k ts) r e)

add_apart : (p : Way) {k : ℕ} {l : List Branches} → (p.from ≡ k → ⊥) → Headed k l → add_way p l ≡ one p ∷ l
add_apart p {k} ne (headed {ts} {r}) = add_other p (branches_of k ts) r ne

-- by what is above
add_above : (p : Way) (g : List Branches) → Above from_of p.from g → add_way p g ≡ one p ∷ g
add_above p [] h = refl
add_above p (w ∷ g) h = add_other p w g (λ e. omega arith)

above_headed : (j : ℕ) {k : ℕ} {l : List Branches} → j < k → Headed k l → Above from_of j l
above_headed j h headed = h

headed_above : (j : ℕ) {k : ℕ} {l : List Branches} → Above from_of j l → Headed k l → j < k
headed_above j h headed = h

rest_above : {k : ℕ} {l : List Branches} → Headed k l → Rising from_of l → Above from_of k (drop 1 l)
rest_above headed r = r.0

-- a row put before rows from its own word, and from one above
put_head : (w : Branches) {k : ℕ} {l : List Branches} → k ≡ w.from → Headed k l → put from_of w l ≡ w ∷ drop 1 l
put_head w {k} e (headed {ts} {r}) =
    if_false (le-ltb k w.from (omega arith)) _ _ ∙ if_true (eq-eqb k w.from e) _ _

put_before : (w : Branches) {k : ℕ} {l : List Branches} → w.from < k → Headed k l → put from_of w l ≡ w ∷ l
put_before w {k} h (headed {ts} {r}) =
    if_false (le-ltb k w.from (omega arith)) _ _ ∙ if_false (ne_eqb k w.from (λ e. omega arith)) _ _

put_after : (w x : Branches) (g : List Branches) → x.from < w.from → put from_of w (x ∷ g) ≡ x ∷ put from_of w g
put_after w x g h = if_true (lt-ltb x.from w.from h) _ _

-- a pair added before the rows from higher words
Apart : ℕ → List Branches → Type 0
Apart k [] = Unit {0}
Apart k (w ∷ g) = k ≡ w.from → ⊥

add_by : (p : Way) (l : List Branches) → Apart p.from l → add_way p l ≡ one p ∷ l
unfolding Apart
add_by p [] a = refl
add_by p (w ∷ g) a = add_other p w g a

put_apart : (k : ℕ) (w x : Branches) (g : List Branches) → (k ≡ w.from → ⊥) → (k ≡ x.from → ⊥) → Apart k (put from_of w (x ∷ g))
unfolding Apart
put_apart k w x g nw nx =
    by_if (Apart k) (ltb x.from w.from) (λ _. nx) (λ _. by_if (Apart k) (eqb x.from w.from) (λ _. nw) (λ _. nw))

add_put : (p : Way) (w : Branches) (g : List Branches) → p.from < w.from → add_way p (put from_of w g) ≡ put from_of w (add_way p g)
add_put p w [] h = add_other p w [] (λ e. omega arith) ∙ sym (put_after w (one p) [] h)
add_put p w (x ∷ g) h = go (ℕ_discrete p.from x.from)
  where
    go : Dec (p.from ≡ x.from) → add_way p (put from_of w (x ∷ g)) ≡ put from_of w (add_way p (x ∷ g))
    go (yes e) =
        ap (add_way p) (put_after w x g (omega arith))
        ∙ add_same p x (put from_of w g) e
        ∙ sym (ap (put from_of w) (add_same p x g e) ∙ put_after w (branches_of p.from (p.to ∷ x.targets)) g h)
    go (no ne) =
        add_by p (put from_of w (x ∷ g)) (put_apart p.from w x g (λ e. omega arith) ne)
        ∙ sym (ap (put from_of w) (add_other p x g ne) ∙ put_after w (one p) (x ∷ g) h)

-- rows ascend without the first pair
rising_add : (p : Way) (g : List Branches) → Rising from_of (add_way p g) → Rising from_of g
rising_add p [] r = r.1
rising_add p (w ∷ g) r = go (ℕ_discrete p.from w.from)
  where
    go : Dec (p.from ≡ w.from) → Rising from_of (w ∷ g)
    go (yes e) = let s : Rising from_of (branches_of p.from (p.to ∷ w.targets) ∷ g) = rw (add_same p w g e) at r in rw e at s
    go (no ne) = let s : Rising from_of (one p ∷ w ∷ g) = rw (add_other p w g ne) at r in s.1

-- the rows behind a pair's own are those of the pairs behind its word's
rest_of : (p : Way) (l : List Way) → Rising from_of (add_way p (grouped l)) → drop 1 (add_way p (grouped l)) ≡ grouped (drop (rank leaves (suc p.from) l) l)
rest_of p [] r = refl
rest_of p (q ∷ l) r = go (dec_lt p.from q.from) (ℕ_discrete p.from q.from) (rest_of q l)
  where
    go : Dec (p.from < q.from) → Dec (p.from ≡ q.from) → (Rising from_of (add_way q (grouped l)) → drop 1 (add_way q (grouped l)) ≡ grouped (drop (rank leaves (suc q.from) l) l)) → drop 1 (add_way p (add_way q (grouped l))) ≡ grouped (drop (rank leaves (suc p.from) (q ∷ l)) (q ∷ l))
    go (yes h) d f =
        ap (drop 1) (add_apart p (λ e. omega arith) (add_headed q (grouped l)))
        ∙ ap (λ (i : ℕ). grouped (drop i (q ∷ l))) (sym (if_false (le-ltb q.from (suc p.from) h) (suc (rank leaves (suc p.from) l)) 0))
    go (no h) (yes e) f =
        add_on p e (add_headed q (grouped l))
        ∙ f (rising_add p (add_way q (grouped l)) r)
        ∙ ap (λ (i : ℕ). grouped (drop (rank leaves (suc i) l) l)) (sym e)
        ∙ ap (λ (i : ℕ). grouped (drop i (q ∷ l))) (sym (if_true (lt-ltb q.from (suc p.from) (omega arith)) (suc (rank leaves (suc p.from) l)) 0))
    go (no h) (no ne) f =
        let s : Rising from_of (one p ∷ add_way q (grouped l)) = rw (add_apart p ne (add_headed q (grouped l))) at r in
        absurd (h (headed_above p.from s.0 (add_headed q (grouped l))))

-- the pairs of one word before others
grouped_row : (k t : ℕ) (ts : List ℕ) (r : List Way) → Above from_of k (grouped r) → grouped (map (way k) (t ∷ ts) ++ r) ≡ branches_of k (t ∷ ts) ∷ grouped r
grouped_row k t [] r h = add_above (way k t) (grouped r) h
grouped_row k t (u ∷ ts) r h = ap (add_way (way k t)) (grouped_row k u ts r h) ∙ add_same (way k t) (branches_of k (u ∷ ts)) (grouped r) refl

-- l with the pairs ps in the place of those from k
abbrev pub replaced : ℕ → List Way → List Way → List Way
replaced k ps l = take (rank leaves k l) l ++ (ps ++ drop (rank leaves (suc k) l) l)

pub put_pairs : (k t : ℕ) (ts : List ℕ) (l : List Way) → Rising from_of (grouped l) → grouped (replaced k (map (way k) (t ∷ ts)) l) ≡ put from_of (branches_of k (t ∷ ts)) (grouped l)
put_pairs k t ts [] r = grouped_row k t ts [] tt
put_pairs k t ts (q ∷ l) r = go (dec_lt q.from k) (ℕ_discrete q.from k) (put_pairs k t ts l (rising_add q (grouped l) r))
  where
    go : Dec (q.from < k) → Dec (q.from ≡ k) → grouped (replaced k (map (way k) (t ∷ ts)) l) ≡ put from_of (branches_of k (t ∷ ts)) (grouped l) → grouped (replaced k (map (way k) (t ∷ ts)) (q ∷ l)) ≡ put from_of (branches_of k (t ∷ ts)) (add_way q (grouped l))
    go (yes h) d f =
        rw (if_true (lt-ltb q.from k h) (suc (rank leaves k l)) 0, if_true (lt-ltb q.from (suc k) (omega arith)) (suc (rank leaves (suc k) l)) 0)
        (ap (add_way q) f ∙ add_put q (branches_of k (t ∷ ts)) (grouped l) h)
    go (no h) (yes e) f =
        let rest : drop 1 (add_way q (grouped l)) ≡ grouped (drop (rank leaves (suc k) l) l) = rest_of q l r ∙ ap (λ (i : ℕ). grouped (drop (rank leaves (suc i) l) l)) e in
        let above : Above from_of k (grouped (drop (rank leaves (suc k) l) l)) = subst (λ (i : ℕ). Above from_of i (grouped (drop (rank leaves (suc k) l) l))) e (rw rest at (rest_above (add_headed q (grouped l)) r)) in
        rw (if_false (le-ltb q.from k (omega arith)) (suc (rank leaves k l)) 0, if_true (lt-ltb q.from (suc k) (omega arith)) (suc (rank leaves (suc k) l)) 0)
        (grouped_row k t ts (drop (rank leaves (suc k) l) l) above ∙ ap (λ (g : List Branches). branches_of k (t ∷ ts) ∷ g) (sym rest) ∙ sym (put_head (branches_of k (t ∷ ts)) e (add_headed q (grouped l))))
    go (no h) (no ne) f =
        let more : k < q.from = omega arith in
        rw (if_false (le-ltb q.from k (omega arith)) (suc (rank leaves k l)) 0, if_false (le-ltb q.from (suc k) (omega arith)) (suc (rank leaves (suc k) l)) 0)
        (grouped_row k t ts (q ∷ l) (above_headed k more (add_headed q (grouped l))) ∙ sym (put_before (branches_of k (t ∷ ts)) more (add_headed q (grouped l))))

-- as many ways on as pairs
count_add : (p : Way) (g : List Branches) → count_branches (add_way p g) ≡ suc (count_branches g)
count_add p [] = refl
count_add p (w ∷ g) = by_if (λ (l : List Branches). count_branches l ≡ suc (length w.targets + count_branches g)) (eqb p.from w.from) (λ _. omega arith) (λ _. omega arith)

pub count_grouped : (l : List Way) → count_branches (grouped l) ≡ length l
count_grouped [] = refl
count_grouped (p ∷ l) = count_add p (grouped l) ∙ ap suc (count_grouped l)

-- a place is not behind the next
pub rank_next : (k : ℕ) (l : List Way) → rank leaves k l ≤ rank leaves (suc k) l
rank_next k [] = omega arith
rank_next k (q ∷ l) = go (dec_lt q.from k) (rank_next k l)
  where
    go : Dec (q.from < k) → rank leaves k l ≤ rank leaves (suc k) l → rank leaves k (q ∷ l) ≤ rank leaves (suc k) (q ∷ l)
    go (yes h) f = rw (if_true (lt-ltb q.from k h) (suc (rank leaves k l)) 0, if_true (lt-ltb q.from (suc k) (omega arith)) (suc (rank leaves (suc k) l)) 0) (omega arith)
    go (no h) f = rw (if_false (le-ltb q.from k (omega arith)) (suc (rank leaves k l)) 0) (omega arith)

-- a word's ways on do not stand before those of a lower word
pub next_leaves : (p q : Way) (l : List Way) → Rising from_of (grouped (p ∷ q ∷ l)) → p.from ≤ q.from
next_leaves p q l r = go (dec_lt q.from p.from)
  where
    go : Dec (q.from < p.from) → p.from ≤ q.from
    go (yes h) =
        let s : Rising from_of (one p ∷ add_way q (grouped l)) = rw (add_apart p (λ e. omega arith) (add_headed q (grouped l))) at r in
        let up : p.from < q.from = headed_above p.from s.0 (add_headed q (grouped l)) in
        absurd (omega arith)
    go (no h) = omega arith

pub rising_rest : (p : Way) (l : List Way) → Rising from_of (grouped (p ∷ l)) → Rising from_of (grouped l)
rising_rest p l r = rising_add p (grouped l) r

-- the first pair, if there is one, is from k or above
abbrev From : ℕ → List Way → Type 0
From k [] = Unit {0}
From k (q ∷ l) = k ≤ q.from

on_rising : (p : Way) {k : ℕ} {g : List Branches} → p.from ≡ k → Headed k g → Rising from_of g → Rising from_of (add_way p g)
on_rising p {k} e (headed {ts} {r}) rise =
    let above : Above from_of p.from r = rw e rise.0 in
    rw (add_same p (branches_of k ts) r e) (above, rise.1)

rising_pair : (p : Way) (l : List Way) → From p.from l → Rising from_of (grouped l) → Rising from_of (grouped (p ∷ l))
rising_pair p [] h r = (tt, tt)
rising_pair p (q ∷ l) h r = go (ℕ_discrete p.from q.from)
  where
    go : Dec (p.from ≡ q.from) → Rising from_of (grouped (p ∷ q ∷ l))
    go (yes e) = on_rising p e (add_headed q (grouped l)) r
    go (no ne) = rw (add_apart p ne (add_headed q (grouped l))) (above_headed p.from (omega arith) (add_headed q (grouped l)), r)

from_take : (p : Way) (n : ℕ) (l : List Way) → Rising from_of (grouped (p ∷ l)) → From p.from (take n l)
from_take p zero l r = tt
from_take p (suc n) [] r = tt
from_take p (suc n) (q ∷ l) r = next_leaves p q l r

-- the first pairs of some that ascend
pub take_pairs : (n : ℕ) (l : List Way) → Rising from_of (grouped l) → Rising from_of (grouped (take n l))
take_pairs zero l r = tt
take_pairs (suc n) [] r = tt
take_pairs (suc n) (p ∷ l) r = rising_pair p (take n l) (from_take p n l r) (take_pairs n l (rising_rest p l r))

-- whether a pair may stand behind others
pub behind_pairs : (p : Way) (l : List Way) → Rising from_of (grouped l) → last_up_to p.from l ≡ true → Rising from_of (grouped (l ++ (p ∷ [])))
behind_pairs p [] r h = (tt, tt)
behind_pairs p (q ∷ []) r h = rising_pair q (p ∷ []) (leb-true _ _ h) (tt, tt)
behind_pairs p (q ∷ s ∷ l) r h = rising_pair q (s ∷ (l ++ (p ∷ []))) (next_leaves q s l r) (behind_pairs p (s ∷ l) (rising_rest q (s ∷ l) r) h)

pub last_pairs : (p : Way) (l : List Way) → Rising from_of (grouped (l ++ (p ∷ []))) → last_up_to p.from l ≡ true
last_pairs p [] r = refl
last_pairs p (q ∷ []) r = le-leb _ _ (next_leaves q p [] r)
last_pairs p (q ∷ s ∷ l) r = last_pairs p (s ∷ l) (rising_rest q (s ∷ (l ++ (p ∷ []))) r)

-- by the last pair as it is read
pub last_read : (k : ℕ) (p : Way) (l : List Way) → slice_get l (length l - 1) ≡ Some p → leb p.from k ≡ last_up_to k l
last_read k p [] e = cc
last_read k p (q ∷ []) e = let same : q ≡ p = cc in rw same refl
last_read k p (q ∷ s ∷ l) e =
    let one : length (s ∷ l) - 1 ≡ length l = omega arith in
    let two : length (q ∷ s ∷ l) - 1 ≡ suc (length l) = omega arith in
    last_read k p (s ∷ l) (ap (slice_get (s ∷ l)) one ∙ (rw two at e))
