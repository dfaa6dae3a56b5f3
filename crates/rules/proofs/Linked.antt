-- Where no nonzero word is illegal: no closed block holds a start but its own.
use Prim.Native.Nat.{ℕ, ◌+◌, ◌-◌, ◌%◌, ◌≤◌, ◌<◌}
use mathlib.Core.Path.{◌≡◌, refl, sym, ◌∙◌, ap, subst}
use mathlib.Core.Bool.{Bool, true, false, false≢true, not, ◌||◌}
use mathlib.Core.List.{List, [], ◌∷◌}
use mathlib.Core.Logic.{◌⊎◌, inl, inr}
use native.Mathlib.Omega.{arith}
use lib.Dec.{ltb, leb, eqb}
use borrow.Author.Tests.{leb-true, leb-false, ltb-true, ltb-false, eqb-true, eqb-false, not-true}
use Rattle.rules.specs.Choice.{if, by_if, if_true, if_false}
use Rattle.rules.specs.Loop.{Holds, good, none, bind_holds, map_holds, if_holds, both, loop_keeps, run_keeps}
use Rattle.rules.specs.Ordered.{put, has, lower, last, empty, Rising, Above}
use Rattle.rules.specs.Address.{address_of, section_of}
use Rattle.rules.specs.Image
use Rattle.rules.specs.Image.{illegal}
use Rattle.rules.specs.Blocks
use Rattle.rules.specs.Blocks.{Block, block, start_of, mark, cut, reaches, below, is_new, last_end}
use Rattle.rules.specs.Slices as Lists
use Rattle.rules.specs.Slices.{Slices}
use Rattle.rules.specs.Step
use Rattle.rules.specs.Step.{Around, Walk, Place, idle, at, nowhere, with_slices, with_place}
use Rattle.rules.specs.Walk as Exec
use Rattle.rules.specs.Analyze
use Rattle.rules.specs.Accounted.{Member, Apart, NoIllegal}
use Rattle.rules.proofs.Sizes
use Rattle.rules.proofs.WalkEnds.{Sound, run_walk_step, run_walk_ends}
use Rattle.rules.proofs.Keeps
use Rattle.rules.specs.Ordered
use Rattle.rules.proofs.Keeps.{Laws, In, Aimed, Other, run_walk_keeps}
use Rattle.rules.proofs.Tidy
use Rattle.rules.proofs.Tidy.{Proper, open_one, closed, TidyBlocks, mark_tidy, Aligned, Names, Framed, Word, Tidy, tidy_laws, restarts_tidy, apart_holds}
use Rattle.rules.proofs.Starts.{among_mark, mark_among}
use Rattle.rules.proofs.Rows.{all_without, All, all_map, all_zip, all_of, all_swap, all_put, lower_holds, last_holds, Among, among_put, among_last, all_above}
use Rattle.rules.proofs.Tests.{and_left, and_right}

-- ---- lists

module _ {A : Type 0} (key : A → ℕ) where
  pick : {C : Type 0} (P : A → Type 0) (k : ℕ) (l : List A) → All P l → Among key k l → ((x : A) → key x ≡ k → P x → C) → C
  pick P k [] p h f = absurd h
  pick P k (x ∷ l) p (inl e) f = f x e p.0
  pick P k (x ∷ l) p (inr m) f = pick P k l p.1 m f

  -- only the other rows stay
  all_put_other : (P : A → Type 0) (a : A) (l : List A) → Rising key l → P a → All (λ x. (key x ≡ key a → ⊥) → P x) l → All P (put key a l)
  all_put_other P a [] r p q = (p, tt)
  all_put_other P a (x ∷ l) r p q =
      by_if (All P) (ltb (key x) (key a)) {x = x ∷ put key a l} {y = if (eqb (key x) (key a)) (a ∷ l) (a ∷ x ∷ l)}
      (λ h. let y = ltb-true (key x) (key a) h in (q.0 (λ e. omega arith), all_put_other P a l r.1 p q.1))
      (λ h. let y = ltb-false (key x) (key a) h in
      by_if (All P) (eqb (key x) (key a)) {x = a ∷ l} {y = a ∷ x ∷ l}
      (λ e. (p, rest y))
      (λ e. (p, (q.0 (eqb-false _ _ e), rest y))))
    where
      rest : key a ≤ key x → All P l
      rest y = all_zip l (λ z (h : key x < key z) (f : (key z ≡ key a → ⊥) → P z). f (λ e. omega arith)) (all_above key (key x) l r.0 r.1) q.1

  has_none : (k : ℕ) (l : List A) → Rising key l → has key k l ≡ false → All (λ x. key x ≡ k → ⊥) l
  unfolding if
  has_none k [] r h = tt
  has_none k (x ∷ l) r h = by (ltb (key x) k) refl (has_none k l r.1) h
    where
      by : (b : Bool) → ltb (key x) k ≡ b → (has key k l ≡ false → All (λ y. key y ≡ k → ⊥) l) → if b (has key k l) (eqb (key x) k) ≡ false → All (λ y. key y ≡ k → ⊥) (x ∷ l)
      by true e f q = let y = ltb-true (key x) k e in ((λ z. omega arith), f q)
      by false e f q =
          let y = ltb-false (key x) k e in
          (eqb-false _ _ q, all_map l (λ z (g : key x < key z) (w : key z ≡ k). omega arith) (all_above key (key x) l r.0 r.1))

-- ---- blocks

-- y does not start inside x
abbrev pub Sep : Block → Block → Type 0
Sep x y = (y.start ≤ x.start) ⊎ (x.end ≤ y.start)

abbrev pub Even : Block → Type 0
Even x = x.start % 4 ≡ 0

pub record Linked (bs : List Block) : Type 0 where
  pub even : All Even bs
  pub apart : All (λ x. All (Sep x) bs) bs

-- k lies strictly inside no closed block
abbrev pub Clear : ℕ → List Block → Type 0
Clear k bs = All (λ x. (k ≤ x.start) ⊎ (x.end ≤ k)) bs

-- no start lies above b up to k
abbrev Free : ℕ → ℕ → List Block → Type 0
Free b k bs = All (λ x. (x.start ≤ b) ⊎ (k < x.start)) bs

pub put_linked : (a : Block) (bs : List Block) → Even a → All (Sep a) bs → All (λ x. Sep x a) bs → Linked bs → Linked (put start_of a bs)
put_linked a bs e f g l =
    record {
      even = all_put start_of Even a bs e l.even;
      apart = all_put start_of (λ x. All (Sep x) (put start_of a bs)) a bs (all_put start_of (Sep a) a bs (inl (omega arith)) f)
          (all_zip bs (λ x h p. all_put start_of (Sep x) a bs p h) l.apart g);
    }

pub start_clear : (k : ℕ) (bs : List Block) → Linked bs → Among start_of k bs → Clear k bs
start_clear k bs l h =
    pick start_of (λ y. All (λ x. Sep x y) bs) k bs (all_swap Sep bs bs l.apart) h (λ y e p. subst (λ j. All (λ (x : Block). (j ≤ x.start) ⊎ (x.end ≤ j)) bs) e p)

-- what the nearest lower block says of the others
lower_near : (k : ℕ) (d : Block) (l : List Block) → d.start < k → Above start_of d.start l → Rising start_of l → All (λ (z : Block). (z.start ≤ (lower start_of k d l).start) ⊎ (k ≤ z.start)) l × (d.start ≤ (lower start_of k d l).start)
lower_near k d [] h a r = (tt, omega arith)
lower_near k d (x ∷ l) h a r =
    by_if (λ (b : Block). All (λ (z : Block). (z.start ≤ b.start) ⊎ (k ≤ z.start)) (x ∷ l) × (d.start ≤ b.start)) (ltb x.start k) {x = lower start_of k x l} {y = d}
    (λ q. let p = lower_near k x l (ltb-true _ _ q) r.0 r.1 in let s : x.start ≤ (lower start_of k x l).start = p.1 in ((inl s, p.0), omega arith))
    (λ q. let y = ltb-false x.start k q in ((inr y, all_map l (λ z (g : x.start < z.start). inr (omega arith)) (all_above start_of x.start l r.0 r.1)), omega arith))

below_near : (k : ℕ) (bs : List Block) → Rising start_of bs → All (λ (z : Block). (z.start ≤ (below k bs).start) ⊎ (k ≤ z.start)) bs
below_near k [] r = tt
below_near k (x ∷ l) r =
    by_if (λ (b : Block). All (λ (z : Block). (z.start ≤ b.start) ⊎ (k ≤ z.start)) (x ∷ l)) (ltb x.start k) {x = lower start_of k x l} {y = block 0 0}
    (λ q. let p = lower_near k x l (ltb-true _ _ q) r.0 r.1 in let s : x.start ≤ (lower start_of k x l).start = p.1 in (inl s, p.0))
    (λ q. let y = ltb-false x.start k q in (inr y, all_map l (λ z (g : x.start < z.start). inr (omega arith)) (all_above start_of x.start l r.0 r.1)))

-- each does not hold the starts of the later ones
abbrev Chain : List Block → Type 0
Chain [] = Unit {0}
Chain (x ∷ l) = All (Sep x) l × Chain l

chain_of : (bs : List Block) → All (λ x. All (Sep x) bs) bs → Chain bs
chain_of [] p = tt
chain_of (x ∷ l) p = (p.0.1, chain_of l (all_map l (λ y q. q.1) p.1))

lower_clear : (k : ℕ) (d : Block) (l : List Block) → d.start < k → Above start_of d.start l → Rising start_of l → All (Sep d) l → Chain l → (lower start_of k d l).end ≤ k → (d.end ≤ k) × Clear k l
unfolding if
lower_clear k d [] h a r s c e = (e, tt)
lower_clear k d (x ∷ l) h a r s c e = by (ltb x.start k) refl (λ t. lower_clear k x l t r.0 r.1 c.0 c.1) e
  where
    next : Sep d x → x.start < k → d.end ≤ k
    next (inl q) t = absurd (omega arith)
    next (inr q) t = omega arith

    by : (t : Bool) → ltb x.start k ≡ t → (x.start < k → (lower start_of k x l).end ≤ k → (x.end ≤ k) × Clear k l) → (if t (lower start_of k x l) d).end ≤ k → (d.end ≤ k) × Clear k (x ∷ l)
    by true q f e = let p = f (ltb-true _ _ q) e in (next s.0 (ltb-true _ _ q), (inr p.0, p.1))
    by false q f e =
        let y = ltb-false x.start k q in
        (e, (inl y, all_map l (λ z (g : x.start < z.start). inl (omega arith)) (all_above start_of x.start l r.0 r.1)))

below_clear : (k : ℕ) (bs : List Block) → Rising start_of bs → Chain bs → (below k bs).end ≤ k → Clear k bs
unfolding if
below_clear k [] r c e = tt
below_clear k (x ∷ l) r c e = by (ltb x.start k) refl e
  where
    by : (t : Bool) → ltb x.start k ≡ t → (if t (lower start_of k x l) (block 0 0)).end ≤ k → Clear k (x ∷ l)
    by true q e = let p = lower_clear k x l (ltb-true _ _ q) r.0 r.1 c.0 c.1 e in (inr p.0, p.1)
    by false q e =
        let y = ltb-false x.start k q in
        (inl y, all_map l (λ z (g : x.start < z.start). inl (omega arith)) (all_above start_of x.start l r.0 r.1))

module _ (k : ℕ) (bs : List Block) (aligned : k % 4 ≡ 0) (rising : Rising start_of bs) (l : Linked bs) where
  from_below : All (Sep (below k bs)) bs
  from_below = lower_holds start_of (λ x. All (Sep x) bs) (λ x. All (Sep x) bs) k (block 0 0) bs (all_of bs (λ y. inr (omega arith))) (λ x q _. q) l.apart

  to_below : All (λ x. Sep x (below k bs)) bs
  to_below =
      lower_holds start_of (λ y. All (λ x. Sep x y) bs) (λ y. All (λ x. Sep x y) bs) k (block 0 0) bs (all_of bs (λ x. inl (omega arith))) (λ x q _. q) (all_swap Sep bs bs l.apart)

  below_even : Even (below k bs)
  below_even = lower_holds start_of Even Even k (block 0 0) bs refl (λ x q _. q) l.even

  record Low (x : Block) : Type 0 where
    low : (x.end ≡ 0) ⊎ (x.start < k)

  below_low : Low (below k bs)
  below_low = lower_holds start_of Low (λ x. Unit {0}) k (block 0 0) bs (record { low = inl refl }) (λ x _ h. record { low = inr h }) (all_of bs (λ x. tt))

  cut_linked : k < (below k bs).end → Linked (cut k bs)
  unfolding cut
  cut_linked h =
      put_linked (block k (below k bs).end) (put start_of (block (below k bs).start k) bs) aligned
      (all_put start_of (Sep (block k (below k bs).end)) (block (below k bs).start k) bs (inl below_le) (all_map bs after from_below))
      (all_put_other start_of (λ x. Sep x (block k (below k bs).end)) (block (below k bs).start k) bs rising (inr (omega arith)) (all_zip bs before to_below (below_near k bs rising)))
      (put_linked (block (below k bs).start k) bs below_even (all_map bs shorter from_below) (all_map bs (λ x p. p) to_below) l)
    where
      start_low : (below k bs).start < k
      start_low = by below_low.low
        where
          by : ((below k bs).end ≡ 0) ⊎ ((below k bs).start < k) → (below k bs).start < k
          by (inl z) = absurd (omega arith)
          by (inr z) = z

      below_le : (below k bs).start ≤ k
      below_le = omega (arith, start_low)

      after : (y : Block) → Sep (below k bs) y → Sep (block k (below k bs).end) y
      after y (inl p) = inl (omega (arith, start_low))
      after y (inr p) = inr p

      shorter : (y : Block) → Sep (below k bs) y → Sep (block (below k bs).start k) y
      shorter y (inl p) = inl p
      shorter y (inr p) = inr (omega arith)

      before : (x : Block) → Sep x (below k bs) → (x.start ≤ (below k bs).start) ⊎ (k ≤ x.start) → (x.start ≡ (below k bs).start → ⊥) → Sep x (block k (below k bs).end)
      before x (inr p) n f = inr (omega (arith, start_low))
      before x (inl p) (inr n) f = inl n
      before x (inl p) (inl n) f = absurd (f (omega arith))

  pub mark_linked : Linked (mark k bs)
  unfolding mark reaches
  mark_linked =
      by_if Linked (reaches k bs) {x = cut k bs} {y = if (has start_of k bs) bs (put start_of (block k 0) bs)}
      (λ h. cut_linked (ltb-true _ _ h))
      (λ h. by_if Linked (has start_of k bs) {x = bs} {y = put start_of (block k 0) bs} (λ _. l)
      (λ _. put_linked (block k 0) bs aligned (all_of bs (λ y. inr (omega arith))) (below_clear k bs rising (chain_of bs l.apart) (ltb-false _ _ h)) l))

-- ---- the ends of closed blocks are clear

module _ (im : Image.Image) where
  data EndClear (bs : List Block) (x : Block) : Type 0 where
    is_open : x.end ≡ 0 → EndClear bs x
    is_clear : x.start < x.end → Clear x.end bs → EndClear bs x

  ends_clear : (bs : List Block) → Rising start_of bs → All (Proper im) bs → Chain bs → All (EndClear bs) bs
  ends_clear [] r p c = tt
  ends_clear (x ∷ l) r p c =
      (own p.0, all_zip l more (all_zip l (λ y a b. (a, b)) (ends_clear l r.1 p.1 c.1) c.0) (all_above start_of x.start l r.0 r.1))
    where
      over : (y : Block) → Sep x y → x.start < y.start → x.end ≤ y.start
      over y (inl q) h = absurd (omega arith)
      over y (inr q) h = q

      own : Proper im x → EndClear (x ∷ l) x
      own (open_one z) = is_open z
      own (closed a b d e) = is_clear b (inr (omega arith), all_zip l (λ y s h. inl (over y s h)) c.0 (all_above start_of x.start l r.0 r.1))

      more : (y : Block) → EndClear l y × Sep x y → x.start < y.start → EndClear (x ∷ l) y
      more y (is_open z, s) h = is_open z
      more y (is_clear a q, s) h = is_clear a (inr (let w = over y s h in omega arith), q)

  end_clear : (bs : List Block) (x : Block) → EndClear bs x → (x.end ≡ 0 → ⊥) → Clear x.end bs
  end_clear bs x (is_open z) n = absurd (n z)
  end_clear bs x (is_clear a q) n = q

  pub gap_clear : (bs : List Block) → TidyBlocks im bs → Linked bs → ((Blocks.first_disconnected_block bs).end ≡ 0 → ⊥) → Clear (Blocks.first_disconnected_block bs).end bs
  gap_clear bs t l n =
      end_clear bs _ (apart_holds (EndClear bs) bs (is_open refl) (ends_clear bs t.rising t.proper (chain_of bs l.apart))) n

  low_last : (d : Block) (bs : List Block) → Rising start_of bs → All (λ (z : Block). z.start ≤ (last d bs).start) bs
  low_last d [] r = tt
  low_last d (x ∷ l) r = (among_last start_of x.start d (x ∷ l) r (inl refl), low_last x l r.1)

  -- and every start lies below the last end
  pub last_above : (bs : List Block) → TidyBlocks im bs → (last_end bs ≡ 0 → ⊥) → All (λ (z : Block). z.start < last_end bs) bs
  unfolding last_end
  last_above bs t n = by (last (block 0 0) bs) (last_holds (Proper im) (block 0 0) bs (open_one refl) t.proper) n (low_last (block 0 0) bs t.rising)
    where
      by : (x : Block) → Proper im x → (x.end ≡ 0 → ⊥) → All (λ (z : Block). z.start ≤ x.start) bs → All (λ (z : Block). z.start < x.end) bs
      by x (open_one z) n m = absurd (n z)
      by x (closed a b c d) n m = all_map bs (λ z (h : z.start ≤ x.start). omega arith) m

  -- every end is the last one's or below
  pub last_most : (bs : List Block) → TidyBlocks im bs → Linked bs → (last_end bs ≡ 0 → ⊥) → All (λ (z : Block). z.end ≤ last_end bs) bs
  unfolding last_end
  last_most bs t l n =
      by (last (block 0 0) bs) (last_holds (EndClear bs) (block 0 0) bs (is_open refl) (ends_clear bs t.rising t.proper (chain_of bs l.apart))) n (low_last (block 0 0) bs t.rising)
    where
      by : (x : Block) → EndClear bs x → (x.end ≡ 0 → ⊥) → All (λ (z : Block). z.start ≤ x.start) bs → All (λ (z : Block). z.end ≤ x.end) bs
      by x (is_open z) n m = absurd (n z)
      by x (is_clear a q) n m = all_zip bs one q m
        where
          one : (z : Block) → (x.end ≤ z.start) ⊎ (z.end ≤ x.end) → z.start ≤ x.start → z.end ≤ x.end
          one z (inl w) h = absurd (omega arith)
          one z (inr w) h = w

-- ---- the walk

-- what is known of the block that is walked
pub record Walked (k b : ℕ) (bs : List Block) : Type 0 where
  pub even : b % 4 ≡ 0
  pub clear : Clear b bs
  pub free : Free b k bs

abbrev AtWord : Place → List Block → Type 0
AtWord idle bs = Unit {0}
AtWord (at k b) bs = Walked k b bs
AtWord nowhere bs = Unit {0}

pub record LinkedIn (r : Analyze.Analyzed) : Type 0 where
  pub linked : Linked r.slices.blocks

module _ (e : Around) (sound : Sound e.image) (aimed : Aimed e.image) (framed : Framed e) (legal : NoIllegal e.image) where
  pub record Neat (w : Walk) : Type 0 where
    pub tidy : Tidy e w
    pub linked : Linked w.slices.blocks
    pub waits : All (λ k. Among start_of k w.slices.blocks) w.pending
    pub here : AtWord w.place w.slices.blocks

  tidies : Laws e (Tidy e) (Word e) Aligned
  tidies = tidy_laws e sound aimed framed

  at_word : (k b : ℕ) (w : Walk) → w.place ≡ at k b → Neat w → Walked k b w.slices.blocks
  at_word k b w h p = subst (λ q. AtWord q w.slices.blocks) h p.here

  idle_word : (w : Walk) (bs : List Block) → w.place ≡ idle → AtWord w.place bs
  idle_word w bs h = subst (λ q. AtWord q bs) (sym h) tt

  marked_linked : (k : ℕ) (w : Walk) (s : Slices) → Aligned k → Sizes.Marked k w.slices s → Neat w → Linked s.blocks
  marked_linked k w s a m p = rw m.as_marked (mark_linked k w.slices.blocks a p.tidy.blocks.rising p.linked)

  marked_waits : (k : ℕ) (w : Walk) (s : Slices) → Sizes.Marked k w.slices s → Neat w → All (λ j. Among start_of j s.blocks) w.pending
  marked_waits k w s m p = rw m.as_marked (all_map w.pending (λ j h. among_mark j k w.slices.blocks h) p.waits)

  marked_start : (k : ℕ) (w : Walk) (s : Slices) → Sizes.Marked k w.slices s → Among start_of k s.blocks
  marked_start k w s m = rw m.as_marked (mark_among k w.slices.blocks)

  insert_all : (P : ℕ → Type 0) (k : ℕ) (l : List ℕ) → P k → All P l → All P (Step.insert k l)
  insert_all P k [] h p = (h, tt)
  insert_all P k (x ∷ l) h p =
      by_if (All P) (leb x k) {x = k ∷ x ∷ l} {y = x ∷ Step.insert k l} (λ _. (h, p)) (λ _. (p.0, insert_all P k l h p.1))

  -- a walk from a clear address
  from_clear : (k : ℕ) (bs : List Block) → Aligned k → Clear k bs → Walked k k bs
  from_clear k bs a c = record { even = a; clear = c; free = all_of bs (λ x. split x (leb x.start k) refl) }
    where
      split : (x : Block) (t : Bool) → leb x.start k ≡ t → (x.start ≤ k) ⊎ (k < x.start)
      split x true h = inl (leb-true _ _ h)
      split x false h = inr (leb-false _ _ h)

  jumps_neat : (k t : ℕ) (w : Walk) (s : Slices) → w.place ≡ idle → Word e k → Aligned t → Step.jumps_inside e k t w.slices ≡ true → is_new t w.slices.blocks ≡ true → Sizes.Marked t w.slices s → Neat w → Neat (Step.go_to e t (with_slices w s))
  unfolding Step.go_to
  jumps_neat k t w s i q a h n m p =
      by (tidies.jumps k t w s i q a h n m p.tidy) (Step.seen e.image t (with_slices w s)) refl
    where
      l : Linked s.blocks
      l = marked_linked t w s a m p

      by : Tidy e (if (Step.seen e.image t (with_slices w s)) (with_slices w s) (with_place (with_slices w s) (at t t))) → (c : Bool) → Step.seen e.image t (with_slices w s) ≡ c → Neat (if (Step.seen e.image t (with_slices w s)) (with_slices w s) (with_place (with_slices w s) (at t t)))
      by d true z =
          let q2 = if_true z (with_slices w s) (with_place (with_slices w s) (at t t)) in
          subst Neat (sym q2) (record { tidy = subst (Tidy e) q2 d; linked = l; waits = marked_waits t w s m p; here = idle_word w s.blocks i })
      by d false z =
          let q2 = if_false z (with_slices w s) (with_place (with_slices w s) (at t t)) in
          subst Neat (sym q2) (record { tidy = subst (Tidy e) q2 d; linked = l; waits = marked_waits t w s m p; here = from_clear t s.blocks a (start_clear t s.blocks l (marked_start t w s m)) })

  ends_neat : (k b : ℕ) (w : Walk) (s : Slices) → w.place ≡ at k b → s.blocks ≡ put start_of (block b (k + 4)) w.slices.blocks → Tidy e (with_place (with_slices w s) idle) → Neat w → Neat (with_place (with_slices w s) idle)
  ends_neat k b w s h q t p =
      let a = at_word k b w h p in
      let x = Tidy.at_place e sound aimed framed k b w h p.tidy in
      record {
        tidy = t;
        linked = rw q (put_linked (block b (k + 4)) w.slices.blocks a.even (all_zip w.slices.blocks (λ y z v. past y x.word.even z v) a.free p.linked.even) a.clear p.linked);
        waits = rw q (all_map w.pending (λ j m. among_put start_of j (block b (k + 4)) w.slices.blocks m) p.waits);
        here = tt;
      }
    where
      past : (y : Block) → k % 4 ≡ 0 → (y.start ≤ b) ⊎ (k < y.start) → Even y → Sep (block b (k + 4)) y
      past y g (inl z) v = inl z
      past y g (inr z) v = inr (let w : k + 4 ≤ y.start = omega arith in w)

  goes_on_neat : (k b : ℕ) (w : Walk) → w.place ≡ at k b → Step.is_met e (k + 4) w ≡ false → Tidy e (with_place w (at (k + 4) b)) → Neat w → Neat (with_place w (at (k + 4) b))
  unfolding Step.is_met
  goes_on_neat k b w h n t p =
      let a = at_word k b w h p in
      let x = Tidy.at_place e sound aimed framed k b w h p.tidy in
      record {
        tidy = t;
        linked = p.linked;
        waits = p.waits;
        here = record {
          even = a.even;
          clear = a.clear;
          free = all_zip w.slices.blocks (λ y z (v : Even y × (y.start ≡ k + 4 → ⊥)). on y x.word.even z v.0 v.1) a.free
              (all_zip w.slices.blocks (λ y z v. (z, v)) p.linked.even (has_none start_of (k + 4) w.slices.blocks p.tidy.blocks.rising (or_right (Step.seen e.image (k + 4) w) _ n)));
        };
      }
    where
      or_right : (a b : Bool) → (a || b) ≡ false → b ≡ false
      or_right true b h = absurd (false≢true (sym h))
      or_right false b h = h

      on : (y : Block) → k % 4 ≡ 0 → (y.start ≤ b) ⊎ (k < y.start) → Even y → (y.start ≡ k + 4 → ⊥) → (y.start ≤ b) ⊎ (k + 4 < y.start)
      on y g (inl z) v f = inl z
      on y g (inr z) v f = by (ltb (k + 4) y.start) refl
        where
          by : (c : Bool) → ltb (k + 4) y.start ≡ c → (y.start ≤ b) ⊎ (k + 4 < y.start)
          by true q = inr (ltb-true _ _ q)
          by false q = let l = ltb-false (k + 4) y.start q in absurd (f (omega arith))

  -- a word that is illegal is zero
  never_passes : (k b : ℕ) (w : Walk) → w.place ≡ at k b → In e k → (Image.told_at e.image k).outcome ≡ illegal → eqb (Image.word e.image (address_of k)) 0 ≡ false → Neat w → ⊥
  never_passes k b w h i o z p =
      let x = Tidy.at_place e sound aimed framed k b w h p.tidy in
      let c : section_of k ≡ Image.code_number e.image = x.word.section in
      let l = leb-true (Image.code_section e.image).base (address_of k) (and_left _ _ i) in
      let r = ltb-true (address_of k) ((Image.code_section e.image).base + (Image.code_section e.image).size) (and_right (leb (Image.code_section e.image).base (address_of k)) _ i) in
      eqb-false _ _ z (legal.zero k (record { low = omega arith; high = omega arith; even = x.word.even }) o)

  neat_laws : Laws e Neat (Word e) Aligned
  neat_laws =
      record {
        here = λ k b w h i p. tidies.here k b w h i p.tidy;
        next = tidies.next;
        target = tidies.target;
        known = tidies.known;
        symbol = tidies.symbol;
        other = λ w s o p. record { tidy = tidies.other w s o p.tidy; linked = rw o.same p.linked; waits = rw o.same p.waits; here = rw o.same p.here };
        cuts = λ k w s i a n m p. record { tidy = tidies.cuts k w s i a n m p.tidy; linked = marked_linked k w s a m p; waits = marked_waits k w s m p; here = idle_word w s.blocks i };
        starts = λ k w s i a n m p. record {
          tidy = tidies.starts k w s i a n m p.tidy;
          linked = marked_linked k w s a m p;
          waits = insert_all (λ j. Among start_of j s.blocks) k w.pending (marked_start k w s m) (marked_waits k w s m p);
          here = idle_word w s.blocks i;
        };
        jumps = jumps_neat;
        ends = λ k b w s h i v q x y p. ends_neat k b w s h q (tidies.ends k b w s h i v q x y p.tidy) p;
        goes_on = λ k b w h i v n p. goes_on_neat k b w h n (tidies.goes_on k b w h i v n p.tidy) p;
        passes = λ k b w h i v o z p. absurd (never_passes k b w h i o z p);
        stops = λ w p. record { tidy = tidies.stops w p.tidy; linked = p.linked; waits = p.waits; here = tt };
        visits = λ k b v h i p. unfold Exec.visit in record { tidy = tidies.visits k b v h i p.tidy; linked = p.linked; waits = p.waits; here = p.here };
        takes = λ k ks w q i p. record { tidy = tidies.takes k ks w q i p.tidy; linked = p.linked; waits = (subst (All (λ j. Among start_of j w.slices.blocks)) q p.waits).1; here = p.here };
        begins = λ k ks w q i c n s p.
            let a : All (λ j. Among start_of j w.slices.blocks) (k ∷ ks) = subst (All (λ j. Among start_of j w.slices.blocks)) q p.waits in
            let x : All Aligned (k ∷ ks) = subst (All Aligned) q p.tidy.waits in
            record { tidy = tidies.begins k ks w q i c n s p.tidy; linked = p.linked; waits = a.1; here = from_clear k w.slices.blocks x.0 (start_clear k w.slices.blocks p.linked a.0) };
      }

  -- ---- the passes, and all of `analyze`

  -- between two passes nothing is pending
  record Halted (w : Walk) : Type 0 where
    neat : Neat w
    rests : Analyze.is_nowhere w.place ≡ false → w.pending ≡ []

  halted : (w : Walk) → Neat w → Exec.live w ≡ false → Halted w
  unfolding Exec.live
  halted w p h = record { neat = p; rests = λ n. by w.place w.pending n h }
    where
      none_left : (l : List ℕ) → not (empty l) ≡ false → l ≡ []
      none_left [] z = refl
      none_left (x ∷ l) z = absurd (false≢true (sym z))

      by : (q : Place) (l : List ℕ) → Analyze.is_nowhere q ≡ false → Exec.goes_on q l ≡ false → l ≡ []
      by idle l n z = none_left l z
      by (at k b) l n z = absurd (false≢true (sym z))
      by nowhere l n z = absurd (false≢true (sym n))

  run_halted : (w : Walk) → Neat w → Holds Halted (Exec.run_walk e w)
  run_halted w p =
      map_holds (both (run_walk_keeps e aimed Neat (Word e) Aligned neat_laws w p) (run_walk_ends e sound w)) (λ v q. halted v q.0 q.1)

  not_no : (a : Bool) → not a ≡ false → a ≡ true
  not_no true h = refl
  not_no false h = absurd (false≢true (sym h))

  lies : (k : ℕ) → Image.contains (Image.section_at e.image k) (address_of k) ≡ true → not (eqb (section_of k) (Image.code_number e.image)) ≡ false → In e k
  unfolding Image.section_at Image.code_section
  lies k c n =
      let q : section_of k ≡ Image.code_number e.image = eqb-true _ _ (not_no _ n) in
      rw (← q) c

  record Begun (k : ℕ) (w v : Walk) : Type 0 where
    place : v.place ≡ idle
    pending : v.pending ≡ k ∷ []
    blocks : v.slices.blocks ≡ w.slices.blocks
    tidy : Tidy e v

  clear_discard : (k j : ℕ) (v : Walk) → Clear k v.slices.blocks → Clear k (Lists.discard_possible_block j v.slices).blocks
  unfolding Lists.discard_possible_block
  clear_discard k j v c = c

  linked_discard : (j : ℕ) (v : Walk) → Linked v.slices.blocks → Linked (Lists.discard_possible_block j v.slices).blocks
  unfolding Lists.discard_possible_block
  linked_discard j v l = l

  -- the one address that a pass begins with is taken first
  first_taken : (k : ℕ) (w : Walk) → w.place ≡ idle → w.pending ≡ k ∷ [] → Aligned k → Clear k w.slices.blocks → Tidy e w → Linked w.slices.blocks → Holds Neat (Exec.step e w)
  unfolding Exec.step Exec.take_pending
  first_taken k w i q a c t l =
      subst (λ y. Holds Neat (Exec.step_at e y w)) (sym i)
      (subst (λ y. Holds Neat (Exec.pop e y w)) (sym q)
      (if_holds (λ z. if_holds (λ _. good (record { tidy = tidies.takes k [] w q i t; linked = l; waits = tt; here = idle_word w w.slices.blocks i }))
      (λ h. good (record { tidy = tidies.begins k [] w q i (lies k z (or_no (not (eqb (section_of k) (Image.code_number e.image))) _ h).0) (eqb-true _ _ (not_no _ (or_no (not (eqb (section_of k) (Image.code_number e.image))) _ h).0)) (or_no (not (eqb (section_of k) (Image.code_number e.image))) _ h).1 t; linked = l; waits = tt; here = from_clear k w.slices.blocks a c }))) (λ _. none)))
    where
      or_no : (a b : Bool) → (a || b) ≡ false → (a ≡ false) × (b ≡ false)
      or_no true b h = absurd (false≢true (sym h))
      or_no false b h = (refl, h)

  walk_from_halted : (k : ℕ) (w : Walk) → w.pending ≡ [] → Aligned k → Clear k w.slices.blocks → Tidy e w → Linked w.slices.blocks → Holds Halted (Analyze.walk_from e k w)
  unfolding Analyze.walk_from Step.push Exec.live
  walk_from_halted k w q a c t l =
      bind_holds {P = Begun k w} (bind_holds (Sizes.limited_is 256 (Step.insert k w.pending)) (λ p i. good (record { place = refl; pending = i.0 ∙ rw q refl; blocks = refl; tidy = rw i.0 (restarts_tidy e sound aimed framed k w a t) })))
      (λ v b. go v b)
    where
      go : (v : Walk) → Begun k w v → Holds Halted (Exec.run_walk e v)
      go v b =
          rw (run_walk_step e sound v (rw (b.place, b.pending) refl))
          (bind_holds (first_taken k v b.place b.pending a (rw b.blocks c) b.tidy (rw b.blocks l)) (λ u p. run_halted u p))

  run_pass_halted : (k : ℕ) (w : Walk) → w.pending ≡ [] → Aligned k → Clear k w.slices.blocks → Tidy e w → Linked w.slices.blocks → Holds Halted (Analyze.run_pass e k w)
  unfolding Analyze.run_pass Analyze.checked_pass
  run_pass_halted k w q a c t l = bind_holds (walk_from_halted k w q a c t l) (λ v p. if_holds (λ _. good p) (λ _. none))

  discard_other : (k : ℕ) (s : Slices) → Other Aligned s (Lists.discard_possible_block k s)
  unfolding Lists.discard_possible_block
  discard_other k s = record { same = refl; few = λ h. omega (arith, Keeps.without_few k s.possible_blocks); refers = λ h. h; maybe = λ h. all_without Ordered.self Aligned k s.possible_blocks h }

  connect_halted : (w : Walk) → Halted w → Holds Halted (Analyze.connect e w)
  unfolding Analyze.connect Analyze.connect_step Analyze.pass_behind Analyze.is_disconnected
  connect_halted w p =
      loop_keeps (Analyze.is_disconnected e) (Analyze.connect_step e) Halted
      (λ v h q. run_pass_halted (Blocks.first_disconnected_block v.slices.blocks).end (with_slices v (Lists.discard_possible_block (Blocks.first_disconnected_block v.slices.blocks).start v.slices)) (q.rests (not-true _ (and_left _ _ h))) (Tidy.behind_aligned e sound aimed framed v q.neat.tidy)
      (clear_discard (Blocks.first_disconnected_block v.slices.blocks).end (Blocks.first_disconnected_block v.slices.blocks).start v (gap_clear e.image v.slices.blocks q.neat.tidy.blocks q.neat.linked (eqb-false _ _ (not-true _ (and_right (not (Analyze.is_nowhere v.place)) _ h)))))
      (tidies.other v (Lists.discard_possible_block (Blocks.first_disconnected_block v.slices.blocks).start v.slices) (discard_other (Blocks.first_disconnected_block v.slices.blocks).start v.slices) q.neat.tidy)
      (linked_discard (Blocks.first_disconnected_block v.slices.blocks).start v q.neat.linked)) (Analyze.passes_left e) w p

  further_clear : (w : Walk) → Neat w → (last_end w.slices.blocks ≡ 0 → ⊥) → Clear (Analyze.next_part e w) w.slices.blocks
  unfolding Analyze.next_part Analyze.skip_nops
  further_clear w p n =
      let h = run_keeps (Analyze.at_nop e) (Analyze.four_on e) (λ a. e.end - a) (λ a. last_end w.slices.blocks ≤ a) (λ a _ h. omega arith) (last_end w.slices.blocks) (omega arith) in
      all_map w.slices.blocks (λ z (m : z.end ≤ last_end w.slices.blocks). inr (omega arith)) (last_most e.image w.slices.blocks p.tidy.blocks p.linked n)

  reach_end_halted : (w : Walk) → Halted w → Holds Halted (Analyze.reach_end e w)
  unfolding Analyze.reach_end Analyze.reach_step Analyze.is_short
  reach_end_halted w p =
      loop_keeps (Analyze.is_short e) (Analyze.reach_step e) Halted
      (λ v h q. run_pass_halted _ v (q.rests (not-true _ (and_left _ _ (and_left _ _ h)))) (Tidy.further_aligned e sound aimed framed v q.neat.tidy)
      (further_clear v q.neat (eqb-false _ _ (not-true _ (and_right (not (Analyze.is_nowhere v.place)) _ (and_left _ _ h)))))
      q.neat.tidy q.neat.linked) (Analyze.passes_left e) w p

  pub analyze_linked : (k : ℕ) (s : Slices) → Aligned k → TidyBlocks e.image s.blocks → Names s → Linked s.blocks → Holds LinkedIn (Analyze.analyze e k s)
  unfolding Analyze.analyze Analyze.analyze_walk Analyze.analyze_ends
  analyze_linked k s a t n l =
      bind_holds (Sizes.add_block_start_marks s k)
      (λ u m. let b : Linked u.blocks = rw m.as_marked (mark_linked k s.blocks a t.rising l) in
      let z : TidyBlocks e.image u.blocks = rw m.as_marked (mark_tidy e.image k s.blocks a t) in
      let y : Among start_of k u.blocks = rw m.as_marked (mark_among k s.blocks) in
      if_holds
      (λ _. bind_holds (walk_from_halted k (Analyze.new_walk u) refl a (start_clear k u.blocks b y) (record { blocks = z; names = Tidy.same_names e sound aimed framed s u m.rest m.refs n; waits = tt; here = tt }) b)
      (λ w p. bind_holds (connect_halted w p)
      (λ v q. bind_holds (reach_end_halted v q)
      (λ x r. if_holds (λ _. good (record { linked = r.neat.linked })) (λ _. if_holds (λ _. none) (λ _. good (record { linked = r.neat.linked })))))))
      (λ _. good (record { linked = b })))

-- ---- what that says

member_of : (P : Block → Type 0) (b : Block) (l : List Block) → All P l → Member b l → P b
member_of P b [] p h = absurd h
member_of P b (y ∷ l) p (inl e) = subst P e p.0
member_of P b (y ∷ l) p (inr h) = member_of P b l p.1 h

-- x stands before y
abbrev Before : Block → Block → Type 0
Before x y = (x.start < y.start) × (x.end ≤ y.start)

later : (x : Block) (l : List Block) → Above start_of x.start l → Rising start_of l → All (Sep x) l → All (Before x) l
later x l a r s = all_zip l (λ y h z. (h, side y h z)) (all_above start_of x.start l a r) s
  where
    side : (y : Block) → x.start < y.start → Sep x y → x.end ≤ y.start
    side y h (inl z) = absurd (omega arith)
    side y h (inr z) = z

order : (bs : List Block) → Rising start_of bs → Chain bs → (a b : Block) → Member a bs → Member b bs → (a ≡ b) ⊎ (Before a b ⊎ Before b a)
order [] r c a b h l = absurd h
order (x ∷ bs) r c a b (inl p) (inl q) = inl (sym p ∙ q)
order (x ∷ bs) r c a b (inl p) (inr q) = inr (inl (subst (λ (y : Block). Before y b) p (member_of (Before x) b bs (later x bs r.0 r.1 c.0) q)))
order (x ∷ bs) r c a b (inr p) (inl q) = inr (inr (subst (λ (y : Block). Before y a) q (member_of (Before x) a bs (later x bs r.0 r.1 c.0) p)))
order (x ∷ bs) r c a b (inr p) (inr q) = order bs r.1 c.1 a b p q

pub linked_apart : (bs : List Block) → Rising start_of bs → Linked bs → Apart bs
linked_apart bs r l =
    record {
      starts = λ a b p q h m. no_start a b h m (order bs r (chain_of bs l.apart) a b p q);
      words = λ a b p q k h m n o. same a b k h m n o (order bs r (chain_of bs l.apart) a b p q);
    }
  where
    no_start : (a b : Block) → a.start < b.start → b.start < a.end → (a ≡ b) ⊎ (Before a b ⊎ Before b a) → ⊥
    no_start a b h m (inl e) = let z = ap start_of e in omega arith
    no_start a b h m (inr (inl z)) = omega (arith, z.0, z.1)
    no_start a b h m (inr (inr z)) = omega (arith, z.0, z.1)

    same : (a b : Block) (k : ℕ) → a.start ≤ k → k < a.end → b.start ≤ k → k < b.end → (a ≡ b) ⊎ (Before a b ⊎ Before b a) → a ≡ b
    same a b k h m n o (inl e) = e
    same a b k h m n o (inr (inl z)) = absurd (omega (arith, z.0, z.1))
    same a b k h m n o (inr (inr z)) = absurd (omega (arith, z.0, z.1))
