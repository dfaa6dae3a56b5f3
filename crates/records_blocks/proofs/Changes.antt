-- What the two sweeps of `work` make of a list of records.
use Prim.Native.Nat.{ℕ, zero, suc, ◌+◌, ◌-◌, ◌%◌, ◌<◌, ◌≤◌, min}
use mathlib.Core.Path.{◌≡◌, refl, sym, ◌∙◌, ap, ap₂, subst}
use mathlib.Core.Bool.{Bool, true, false, ◌&&◌}
use mathlib.Core.List.{List, ◌∷◌, ◌++◌}
use native.Mathlib.Omega.{arith}
use native.Mathlib.Numerals.{add-one}
use lib.Dec.{ltb, leb, eqb}
use lib.ListN.{length, take, drop, get_or, set, length-set, length-map, take-append-drop}
use lib.Seq.{length-take-le}
use borrow.Author.Tests.{ltb-true, ltb-false, leb-true, leb-false, le-leb, lt-leb, lt-ltb, le-ltb, eqb-true, eqb-false}
use Rattle.rules.specs.Choice.{if, if_true, if_false, ok, fault}
use Rattle.rules.specs.Ordered.{rank, has, put, insert_at, Rising}
use Rattle.rules.specs.Blocks.{Block as Row, block, start_of, below, reaches, cut, mark, is_new, mark_in, most_blocks, is_aligned, is_table}
use Rattle.rules.proofs.Ordered.{rank_le, rank_set, has_set, has_below, put_old, put_new, length_insert_at}
use Rattle.rules.proofs.Blocks.{none, below_is, mark_over, new_over, mark_held, new_held, mark_open, new_open, trimmed_at, length_mark_new, table_rising}
use Rattle.rules.proofs.Sizes.{mark_grows}
use Rattle.marks.proofs.Checks.{table_starts}
use Rattle.records_blocks.specs.Sweep.{entry, row, after, swept}
use Rattle.std.specs.Prelude.{Ok}
use Rattle.faults.specs.declared.Fault.{Fault}
use Rattle.faults.specs.declared.Fault.TheVariants as faults
use Rattle.faults.specs.declared.Fault.TheVariants.{Limit}
use Rattle.faults.specs.Number.{number_of}
use Rattle.records_blocks.specs.Plan.{plan, done, seeking, looked_at, looking, changing, still, refused, opening, placed, planned}
use Rattle.records_blocks.specs.Records.{rows_of, only_cut, cut_in, mark_records, cut_records, change_records, IsDone}
use Rattle.records_blocks.specs.declared.Block.{Block}
use Rattle.records_blocks.specs.declared.Carry.{Carry}
use Rattle.records_blocks.specs.declared.Plan.{Plan}
use Rattle.records_blocks.proofs.Turns.{open_only, open_held, open_new, open_full, place_first, place_open, place_swap, place_cut, place_full, plan_past, plan_odd, plan_unsound, plan_place, plan_full}
use Rattle.records_blocks.proofs.Lists.{entries, same_entries, after_check, checks_sound, Seen, look_swept, look_after, open_swept, cut_swept, swap_swept}

-- ---- the answers

-- the table after the change, and what is answered
abbrev table : Bool → ℕ → List Row → List Row
table true a bs = only_cut a bs
table false a bs = mark a bs

abbrev said : Bool → ℕ → List Row → Bool
said true a bs = reaches a bs
said false a bs = is_new a bs

module _ (n a : ℕ) (l : List Block) where
  past : (only : Bool) → length l < n → change_records only n a l ≡ fault 3
  unfolding if mark_records cut_records
  past true h = if_false (lt-leb _ _ h) _ _
  past false h = if_false (lt-leb _ _ h) _ _

  module _ (f : n ≤ length l) where
    broken : (only : Bool) → (is_aligned a && is_table (rows_of n l)) ≡ false → change_records only n a l ≡ fault 3
    unfolding if mark_records cut_records mark_in cut_in
    broken true g = if_true (le-leb _ _ f) _ _ ∙ if_false g _ _
    broken false g = if_true (le-leb _ _ f) _ _ ∙ if_false g _ _

    module _ (g : (is_aligned a && is_table (rows_of n l)) ≡ true) where
      full : (only : Bool) → most_blocks (length l) < length (table only a (rows_of n l)) → change_records only n a l ≡ fault 4
      unfolding if mark_records cut_records mark_in cut_in
      full true h = if_true (le-leb _ _ f) _ _ ∙ if_true g _ _ ∙ if_false (lt-leb _ _ h) _ _
      full false h = if_true (le-leb _ _ f) _ _ ∙ if_true g _ _ ∙ if_false (lt-leb _ _ h) _ _

      fits : (only : Bool) → length (table only a (rows_of n l)) ≤ most_blocks (length l) → change_records only n a l ≡ ok (record { blocks = table only a (rows_of n l); new = said only a (rows_of n l) })
      unfolding if mark_records cut_records mark_in cut_in
      fits true h = if_true (le-leb _ _ f) _ _ ∙ if_true g _ _ ∙ if_true (le-leb _ _ h) _ _
      fits false h = if_true (le-leb _ _ f) _ _ ∙ if_true g _ _ ∙ if_true (le-leb _ _ h) _ _

-- ---- the changed table by its rows

module _ (a : ℕ) (bs : List Row) where
  table_over : (only : Bool) → reaches a bs ≡ true → table only a bs ≡ cut a bs
  unfolding only_cut
  table_over true h = if_true h _ _
  table_over false h = mark_over a bs h

  said_over : (only : Bool) → reaches a bs ≡ true → said only a bs ≡ only
  said_over true h = h
  said_over false h = new_over a bs h

  table_grows : (only : Bool) → length bs ≤ length (table only a bs)
  unfolding only_cut
  table_grows true = go (reaches a bs) refl
    where
      go : (t : Bool) → reaches a bs ≡ t → length bs ≤ length (if (reaches a bs) (cut a bs) bs)
      go true h = rw (if_true h (cut a bs) bs, ← (mark_over a bs h)) (mark_grows a bs)
      go false h = rw (if_false h (cut a bs) bs) (omega arith)
  table_grows false = mark_grows a bs

  only_held : reaches a bs ≡ false → (table true a bs ≡ bs) × (said true a bs ≡ false)
  unfolding only_cut
  only_held h = (if_false h _ _, h)

  module _ (over : reaches a bs ≡ true) (rise : Rising start_of bs) (q : ℕ) (at : rank start_of a bs ≡ suc q) where
    -- the block that is cut, ended at a
    abbrev short : List Row
    short = set bs q (block (get_or bs q none).start a)

    abbrev rest : Row
    rest = block a (get_or bs q none).end

    parts : cut a bs ≡ put start_of rest short
    unfolding cut
    parts =
        let low : below a bs ≡ get_or bs q none = below_is a bs ∙ ap (λ (p : ℕ). get_or (none ∷ bs) p none) at in
        ap₂ (λ (e : ℕ) (l : List Row). put start_of (block a e) l) (ap (λ (b : Row). b.end) low) (trimmed_at a bs over rise q at)

    place_is : rank start_of a short ≡ suc q
    place_is = rank_set start_of none a bs q (block (get_or bs q none).start a) refl ∙ at

    has_is : has start_of a short ≡ has start_of a bs
    has_is = has_set start_of none a bs q (block (get_or bs q none).start a) refl

    cut_old : has start_of a bs ≡ true → cut a bs ≡ set short (suc q) rest
    cut_old h = parts ∙ put_old start_of rest short (has_is ∙ h) ∙ ap (λ (k : ℕ). set short k rest) place_is

    cut_new : has start_of a bs ≡ false → cut a bs ≡ insert_at (suc q) rest short
    cut_new h = parts ∙ put_new start_of rest short (has_is ∙ h) ∙ ap (λ (k : ℕ). insert_at k rest short) place_is

-- ---- the plan

module _ (only : Bool) (ys : List Block) (count a : ℕ) where
  abbrev bs : List Row
  bs = rows_of count ys

  abbrev room : ℕ
  room = min 256 (length ys)

  -- the plan p does what is to be done
  abbrev pub Right : Plan → Type 0
  Right p = (p.n ≤ length ys) × IsDone (change_records only count a ys) ys (swept p.n 0 p.carry ys) p.done

  faulty : (c : Carry) (f : Fault) → change_records only count a ys ≡ fault (number_of f) → Right (refused c f)
  faulty c f e = (omega arith, rw e (record { said = refl; list = refl }))

  module _ (fit : count ≤ length ys) where
    size : length bs ≡ count
    size = length-map (take count ys) row ∙ length-take-le count ys fit

    module _ (good : (is_aligned a && is_table bs) ≡ true) (rise : Rising start_of bs) (c : Carry) (s : Seen (seeking count a) c 0 (take count ys) (entry 0 0)) where
      -- the list has become the changed one
      became : (d : Carry) (n m : ℕ) (y : Bool) (zs : List Row) → n ≤ length ys → m ≤ room → table only a bs ≡ zs → said only a bs ≡ y → length zs ≡ m → swept n 0 d ys ≡ entries zs ++ drop m ys → Right (plan d n (Ok (done m y)))
      became d n m y zs hn hm e k l w =
          let long : length (table only a bs) ≡ m = ap length e ∙ l in
          let is : change_records only count a ys ≡ ok (record { blocks = table only a bs; new = said only a bs }) = fits count a ys fit good only (rw long hm) in
          (hn, rw is (record { said = ap₂ (λ (m : ℕ) (y : Bool). ok (done m y)) (sym long) (sym k); list = w ∙ ap₂ (λ (l : List Row) (k : ℕ). entries l ++ drop k ys) (sym e) (sym long) }))

      -- there is no room for one more
      nowhere : (d : Carry) → length (table only a bs) ≡ suc (length bs) → room ≤ count → Right (refused d Limit)
      nowhere d e l = faulty d Limit (full count a ys fit good only (omega (arith, e, size)))

      abbrev p : ℕ
      p = c.at

      at : rank start_of a bs ≡ p
      at = let z : 0 + rank start_of a bs ≡ rank start_of a bs = omega arith in sym (s.at ∙ z)

      end_is : c.below ≡ (below a bs).end
      end_is = s.below

      place : p ≤ count
      place = omega (arith, rank_le start_of a bs, at, size)

      -- no block reaches over the address
      module _ (left : c.below ≤ a) (h : count ≤ room) where
        free : reaches a bs ≡ false
        unfolding reaches
        free = le-ltb _ _ (rw end_is at left)

        stays : (table only a bs ≡ bs) × (said only a bs ≡ false) → Right (still c count)
        stays e = became c 0 count false bs (omega arith) h e.0 e.1 size (sym (take-append-drop count ys) ∙ ap (λ (l : List Block). l ++ drop count ys) (sym (same_entries (take count ys))))

        opens : (o : Bool) → only ≡ o → (t : Bool) → c.hit ≡ t → (u : Bool) → ltb count room ≡ u → Right (opening only room count c)
        opens true o t e u f = subst Right (sym (open_only only room count c o)) (stays (subst (λ (x : Bool). (table x a bs ≡ bs) × (said x a bs ≡ false)) (sym o) (only_held a bs free)))
        opens false o true e u f =
            let held : has start_of a bs ≡ true = sym s.hit ∙ e in
            subst Right (sym (open_held only room count c o e)) (stays (subst (λ (x : Bool). (table x a bs ≡ bs) × (said x a bs ≡ false)) (sym o) (mark_held a bs free held, new_held a bs free held)))
        opens false o false e true f =
            let miss : has start_of a bs ≡ false = sym s.hit ∙ e in
            let k : count < room = ltb-true _ _ f in
            let zs : List Row = insert_at p (block a 0) bs in
            let is : mark a bs ≡ zs = mark_open a bs free miss ∙ put_new start_of (block a 0) bs miss ∙ ap (λ (k : ℕ). insert_at k (block a 0) bs) at in
            let d : Carry = changing c false 0 3 in
            let w : swept (suc count) 0 d ys ≡ entries (insert_at p (block c.addr 0) bs) ++ drop (suc count) ys = open_swept p count 0 d ys refl refl (omega arith) place (omega arith) in
            subst Right (sym (open_new only room count c o e k))
            (became d (count + 1) (count + 1) true zs (omega arith) (omega arith)
            (subst (λ (x : Bool). table x a bs ≡ zs) (sym o) is) (subst (λ (x : Bool). said x a bs ≡ true) (sym o) (new_open a bs free miss))
            (length_insert_at p (block a 0) bs ∙ omega (arith, size))
            (rw (add-one count) (w ∙ ap (λ (x : ℕ). entries (insert_at p (block x 0) bs) ++ drop (suc count) ys) s.addr)))
        opens false o false e false f =
            let miss : has start_of a bs ≡ false = sym s.hit ∙ e in
            subst Right (sym (open_full only room count c o e (ltb-false _ _ f)))
            (nowhere c (subst (λ (x : Bool). length (table x a bs) ≡ suc (length bs)) (sym o) (length_mark_new a bs rise miss)) (ltb-false _ _ f))

      -- the block before the place reaches over the address
      module _ (q : ℕ) (next : p ≡ suc q) (over : a < c.below) (h : count ≤ room) where
        abbrev b : Row
        b = get_or bs q none

        abbrev ended : ℕ → List Row
        ended x = set bs q (block b.start x)

        some : c.at ≡ 0 → ⊥
        some z = omega (arith, next)

        over' : c.addr < c.below
        over' = let z : c.addr ≡ a = s.addr in omega arith

        reached : reaches a bs ≡ true
        unfolding reaches
        reached = lt-ltb _ _ (rw end_is at over)

        at_q : rank start_of a bs ≡ suc q
        at_q = at ∙ next

        cuts : (t : Bool) → c.hit ≡ t → (u : Bool) → ltb count room ≡ u → Right (placed only room count c)
        cuts true e u f =
            let held : has start_of a bs ≡ true = sym s.hit ∙ e in
            let zs : List Row = set (ended a) (suc q) (block a b.end) in
            let d : Carry = changing c true (c.at - 1) 4 in
            let k : suc q < count = omega (arith, at_q, has_below start_of a bs held, size) in
            let w : swept count 0 d ys ≡ entries (set (ended c.addr) (suc q) (block c.addr b.end)) ++ drop count ys = swap_swept q count 0 d ys refl refl (omega (arith, next)) (omega (arith, next)) k fit in
            subst Right (sym (place_swap only room count c some over' e))
            (became d count count only zs fit h (table_over a bs only reached ∙ cut_old a bs reached rise q at_q held) (said_over a bs only reached)
            (length-set (ended a) (suc q) (block a b.end) ∙ (length-set bs q (block b.start a) ∙ size))
            (w ∙ ap (λ (x : ℕ). entries (set (ended x) (suc q) (block x b.end)) ++ drop count ys) s.addr))
        cuts false e true f =
            let miss : has start_of a bs ≡ false = sym s.hit ∙ e in
            let zs : List Row = insert_at (suc q) (block a b.end) (ended a) in
            let d : Carry = changing c true (c.at - 1) 3 in
            let k : count < room = ltb-true _ _ f in
            let w : swept (suc count) 0 d ys ≡ entries (insert_at (suc q) (block c.addr b.end) (ended c.addr)) ++ drop (suc count) ys = cut_swept q count 0 d ys refl refl (omega (arith, next)) (omega (arith, next)) (omega (arith, next, place)) (omega arith) in
            let l : suc (length (ended a)) ≡ count + 1 = omega (arith, length-set bs q (block b.start a), size) in
            subst Right (sym (place_cut only room count c some over' e k))
            (became d (count + 1) (count + 1) only zs (omega arith) (omega arith) (table_over a bs only reached ∙ cut_new a bs reached rise q at_q miss) (said_over a bs only reached)
            (length_insert_at (suc q) (block a b.end) (ended a) ∙ l)
            (rw (add-one count) (w ∙ ap (λ (x : ℕ). entries (insert_at (suc q) (block x b.end) (ended x)) ++ drop (suc count) ys) s.addr)))
        cuts false e false f =
            let miss : has start_of a bs ≡ false = sym s.hit ∙ e in
            subst Right (sym (place_full only room count c some over' e (ltb-false _ _ f)))
            (nowhere c (ap length (table_over a bs only reached ∙ sym (mark_over a bs reached)) ∙ length_mark_new a bs rise miss) (ltb-false _ _ f))

      at_place : count ≤ room → (k : ℕ) → p ≡ k → (t : Bool) → leb c.below a ≡ t → Right (placed only room count c)
      at_place h zero z t e =
          let low : (below a bs).end ≡ 0 = ap (λ (b : Row). b.end) (below_is a bs ∙ ap (λ (k : ℕ). get_or (none ∷ bs) k none) (at ∙ z)) in
          subst Right (sym (place_first only room count c z)) (opens (omega (arith, end_is)) h only refl c.hit refl (ltb count room) refl)
      at_place h (suc q) next true e =
          let n : c.addr ≡ a = s.addr in
          let k : c.below ≤ a = leb-true _ _ e in
          subst Right (sym (place_open only room count c (λ z. omega (arith, next)) (omega arith))) (opens k h only refl c.hit refl (ltb count room) refl)
      at_place h (suc q) next false e = cuts q next (leb-false _ _ e) h c.hit refl (ltb count room) refl

      -- the table breaks no rule
      sound_right : c.addr % 4 ≡ 0 → c.check.sound ≡ true → Right (planned only (length ys) count c)
      sound_right al so = go (leb count room) refl
        where
          go : (t : Bool) → leb count room ≡ t → Right (planned only (length ys) count c)
          go true e = subst Right (sym (plan_place only (length ys) count c fit al so (leb-true _ _ e))) (at_place (leb-true _ _ e) p refl (leb c.below a) refl)
          go false e =
              let k : room < count = leb-false _ _ e in
              subst Right (sym (plan_full only (length ys) count c fit al so k)) (faulty c Limit (full count a ys fit good only (omega (arith, table_grows a bs only, size))))

  -- ---- the first sweep

  abbrev pub first : Plan
  first = looking (length ys) count a

  abbrev pub seen : Carry
  seen = after first.n 0 first.carry ys

  pub same : swept first.n 0 first.carry ys ≡ ys
  same = look_swept first.n 0 first.carry ys refl

  pub looked : first.n ≤ length ys
  looked = go (ltb (length ys) count) refl
    where
      go : (t : Bool) → ltb (length ys) count ≡ t → looked_at (length ys) count ≤ length ys
      go true e = rw (if_true e 0 count) (omega arith)
      go false e = rw (if_false e 0 count) (ltb-false _ _ e)

  within : count ≤ length ys → Right (planned only (length ys) count (after count 0 (seeking count a) ys))
  within fit = aligned (eqb (a % 4) 0) refl
    where
      c : Carry
      c = after count 0 (seeking count a) ys

      s : Seen (seeking count a) c 0 (take count ys) (entry 0 0)
      s = look_after count 0 (seeking count a) ys (entry 0 0) refl refl (omega arith) refl fit

      sound : c.check.sound ≡ is_table bs
      sound = ap (λ k. k.sound) (after_check count 0 (seeking count a) ys) ∙ checks_sound count (record { least = 0; sound = true }) ys ∙ sym (table_starts bs)

      tabled : a % 4 ≡ 0 → is_aligned a ≡ true → (t : Bool) → is_table bs ≡ t → Right (planned only (length ys) count c)
      tabled al x true e =
          sound_right fit (ap₂ ◌&&◌ x e) (table_rising bs e) c s (ap (λ (n : ℕ). n % 4) s.addr ∙ al) (sound ∙ e)
      tabled al x false e =
          subst Right (sym (plan_unsound only (length ys) count c fit (ap (λ (n : ℕ). n % 4) s.addr ∙ al) (sound ∙ e))) (faulty c faults.List (broken count a ys fit only (ap₂ ◌&&◌ x e)))

      aligned : (t : Bool) → is_aligned a ≡ t → Right (planned only (length ys) count c)
      aligned true x = tabled (eqb-true _ _ x) x (is_table bs) refl
      aligned false x =
          let odd : c.addr % 4 ≡ 0 → ⊥ = λ z. eqb-false _ _ x (sym (ap (λ (n : ℕ). n % 4) s.addr) ∙ z) in
          subst Right (sym (plan_odd only (length ys) count c fit odd)) (faulty c faults.List (broken count a ys fit only (ap (λ (t : Bool). t && is_table bs) x)))

  pub right : Right (planned only (length ys) count seen)
  right = go (ltb (length ys) count) refl
    where
      go : (t : Bool) → ltb (length ys) count ≡ t → Right (planned only (length ys) count seen)
      go true e = subst Right (sym (plan_past only (length ys) count seen (ltb-true _ _ e))) (faulty seen faults.List (past count a ys only (ltb-true _ _ e)))
      go false e = rw (if_false e 0 count) (within (ltb-false _ _ e))
