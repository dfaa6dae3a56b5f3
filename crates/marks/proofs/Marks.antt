-- What `mark` ensures at each return, from what the functions that it calls ensure.
use Rattle.std.proofs.Common.{◌≡◌, ℕ, ◌%◌, ◌<◌, ◌≤◌, min, Bool, true, false, ◌&&◌, ltb, leb, List, ◌++◌, map, length, drop, sym, refl, ap, ◌∙◌, ap₂, arith, take-append-drop, ltb-false, ltb-true, eq-eqb, ne_eqb, le-leb, leb-true}
use borrow.Author.Tests.{lt-leb}
use Rattle.rules.specs.Choice.{if, if_true, if_false, ok, fault}
use Rattle.rules.specs.Blocks.{Block, block, start_of, mark, is_new, is_aligned, is_table, mark_in, most_blocks}
use Rattle.rules.proofs.Blocks.{and_left, and_right, table_rising}
use Rattle.rules.proofs.Sizes.{mark_grows}
use Rattle.ordered.proofs.Columns.{rows_keys, rows_values}
use Rattle.blocks.specs.Table.{rows, Table, Room, Holds, IsAdded}
use Rattle.marks.specs.Marks.{end_of, lent, markable, mark_lent, number_by, new_by, IsAnswered, IsMarking}
use Rattle.marks.specs.declared.Marking.{Marking}
use Rattle.blocks.specs.declared.Step.{Step}
use Rattle.blocks.specs.declared.Added.TheVariants.{Yes, No, Full}
use Rattle.blocks.proofs.Rows.{length_rows}
use Rattle.blocks.proofs.Adds.{held}

-- the tests, one by one
module _ (n a : ℕ) (ss es : List ℕ) where
  pub passes_starts : length ss < n → false ≡ markable n a ss es
  passes_starts h = sym (rw (lt-leb n (lent ss es) (omega arith)))

  pub passes_ends : length es < n → false ≡ markable n a ss es
  passes_ends h = sym (rw (lt-leb n (lent ss es) (omega arith)))

  pub not_aligned : (a % 4 ≡ 0 → ⊥) → false ≡ markable n a ss es
  not_aligned h = go (leb n (lent ss es))
    where
      go : (t : Bool) → false ≡ (t && (is_aligned a && is_table (rows n ss es)))
      go true = sym (rw (ne_eqb (a % 4) 0 h))
      go false = refl

  pub by_table : (b : Bool) → n ≤ length ss → n ≤ length es → a % 4 ≡ 0 → b ≡ is_table (rows n ss es) → b ≡ markable n a ss es
  by_table b hs he z e = e ∙ sym (rw (le-leb n (lent ss es) (omega arith), eq-eqb (a % 4) 0 z))

-- a slice whose first m elements are a column of the blocks, and whose rest is as it was
module _ (m : ℕ) (bs : List Block) (ss es ss' es' : List ℕ) (h : Holds m bs ss es ss' es') (hs : m ≤ length ss) (he : m ≤ length es) where
  fs : m ≤ length ss'
  fs = rw h.size_starts hs

  fe : m ≤ length es'
  fe = rw h.size_ends he

  starts_are : ss' ≡ map start_of bs ++ drop (length bs) ss
  starts_are =
      sym (take-append-drop m ss')
      ∙ ap₂ (λ (x y : List ℕ). x ++ y) (sym (rows_keys block m ss' es' fs fe start_of (λ x y. refl)) ∙ ap (map start_of) h.live) (h.rest_starts ∙ rw h.count)

  ends_are : es' ≡ map end_of bs ++ drop (length bs) es
  ends_are =
      sym (take-append-drop m es')
      ∙ ap₂ (λ (x y : List ℕ). x ++ y) (sym (rows_values block m ss' es' fs fe end_of (λ x y. refl)) ∙ ap (map end_of) h.live) (h.rest_ends ∙ rw h.count)

yes_no_number : (t : Bool) → number_by (if t Yes No) ≡ 0
unfolding if
yes_no_number true = refl
yes_no_number false = refl

yes_no_new : (t : Bool) → new_by (if t Yes No) ≡ t
unfolding if
yes_no_new true = refl
yes_no_new false = refl

module _ (n a : ℕ) (ss es : List ℕ) where
  -- a fault leaves everything as it was
  faulty : (k : ℕ) → mark_lent n a ss es ≡ fault k → IsMarking (mark_lent n a ss es) n ss es ss es (record { number = k; count = n; new = false })
  faulty k e = rw e (record { number = refl; count = refl; new = refl; starts = refl; ends = refl })

  pub not_markable : (b : Bool) → b ≡ markable n a ss es → b ≡ false → IsMarking (mark_lent n a ss es) n ss es ss es (record { number = 3; count = n; new = false })
  unfolding mark_lent mark_in
  not_markable b e f = faulty 3 (go (leb n (lent ss es)) (is_aligned a && is_table (rows n ss es)) refl refl (sym e ∙ f))
    where
      go : (t u : Bool) → leb n (lent ss es) ≡ t → (is_aligned a && is_table (rows n ss es)) ≡ u → (t && u) ≡ false → mark_lent n a ss es ≡ fault 3
      go true true p q h = let z : ◌≡◌ {A = ℕ} 0 1 = cc h in absurd (omega arith)
      go true false p q h = if_true p _ _ ∙ if_false q _ _
      go false u p q h = if_false p _ _

  module _ (b : Bool) (e : b ≡ markable n a ss es) (t : b ≡ true) where
    fits : leb n (lent ss es) ≡ true
    fits = and_left (leb n (lent ss es)) _ (sym e ∙ t)

    holds : (is_aligned a && is_table (rows n ss es)) ≡ true
    holds = and_right (leb n (lent ss es)) _ (sym e ∙ t)

    within : n ≤ lent ss es
    within = leb-true _ _ fits

    pub table_is : Table n ss es
    table_is = record { starts = omega (arith, within); ends = omega (arith, within); rising = table_rising (rows n ss es) (and_right (is_aligned a) _ holds) }

    pub room_is : (room : ℕ) → room ≡ most_blocks (min (length ss) (length es)) → n ≤ room → Room n room ss es
    room_is room r h = record { count = h; starts = omega arith; ends = omega arith }

    long : length (rows n ss es) ≡ n
    long = length_rows n ss es table_is.starts table_is.ends

    passed : most_blocks (lent ss es) < length (mark a (rows n ss es)) → mark_lent n a ss es ≡ fault 4
    unfolding mark_lent mark_in
    passed h = if_true fits _ _ ∙ if_true holds _ _ ∙ if_false (lt-leb _ _ h) _ _

    marked : length (mark a (rows n ss es)) ≤ most_blocks (lent ss es) → mark_lent n a ss es ≡ ok (record { blocks = mark a (rows n ss es); new = is_new a (rows n ss es) })
    unfolding mark_lent mark_in
    marked h = if_true fits _ _ ∙ if_true holds _ _ ∙ if_true (le-leb _ _ h) _ _

    pub too_many : (room : ℕ) → room ≡ most_blocks (min (length ss) (length es)) → room < n → IsMarking (mark_lent n a ss es) n ss es ss es (record { number = 4; count = n; new = false })
    too_many room r h = faulty 4 (passed (omega (arith, mark_grows a (rows n ss es), long)))

    module _ (room : ℕ) (ss' es' : List ℕ) (s : Step) (m : Marking) (r : room ≡ most_blocks (min (length ss) (length es))) (h : n ≤ room) (w : IsAdded n room a ss es ss' es' s) (by : IsAnswered s m) where
      full : ltb room (length (mark a (rows n ss es))) ≡ true → IsMarking (mark_lent n a ss es) n ss es ss' es' m
      full p =
          let same : Holds s.count (rows n ss es) ss es ss' es' = rw (if_true p (rows n ss es) (mark a (rows n ss es))) at w.table in
          let stay : Holds n (rows n ss es) ss es ss es = held n ss es table_is in
          let code : s.added ≡ Full = w.answer ∙ if_true p _ _ in
          let count : s.count ≡ n = sym same.count ∙ long in
          let above : room < length (mark a (rows n ss es)) = ltb-true _ _ p in
          let fs : s.count ≤ length ss = omega (arith, table_is.starts) in
          let fe : s.count ≤ length es = omega (arith, table_is.ends) in
          rw (passed (omega arith)) (record {
            number = by.number ∙ ap number_by code;
            count = by.count ∙ count;
            new = by.new ∙ ap new_by code;
            starts = starts_are s.count (rows n ss es) ss es ss' es' same fs fe ∙ sym (starts_are n (rows n ss es) ss es ss es stay table_is.starts table_is.ends);
            ends = ends_are s.count (rows n ss es) ss es ss' es' same fs fe ∙ sym (ends_are n (rows n ss es) ss es ss es stay table_is.starts table_is.ends);
          })

      done : ltb room (length (mark a (rows n ss es))) ≡ false → IsMarking (mark_lent n a ss es) n ss es ss' es' m
      done p =
          let new : Holds s.count (mark a (rows n ss es)) ss es ss' es' = rw (if_false p (rows n ss es) (mark a (rows n ss es))) at w.table in
          let code : s.added ≡ if (is_new a (rows n ss es)) Yes No = w.answer ∙ if_false p _ _ in
          let below : length (mark a (rows n ss es)) ≤ room = ltb-false _ _ p in
          let count : length (mark a (rows n ss es)) ≡ s.count = new.count in
          rw (marked (omega arith)) (record {
            number = by.number ∙ ap number_by code ∙ yes_no_number (is_new a (rows n ss es));
            count = by.count ∙ sym count;
            new = by.new ∙ ap new_by code ∙ yes_no_new (is_new a (rows n ss es));
            starts = starts_are s.count (mark a (rows n ss es)) ss es ss' es' new (omega arith) (omega arith);
            ends = ends_are s.count (mark a (rows n ss es)) ss es ss' es' new (omega arith) (omega arith);
          })

      pub answer_is : IsMarking (mark_lent n a ss es) n ss es ss' es' m
      answer_is = go (ltb room (length (mark a (rows n ss es)))) refl
        where
          go : (t : Bool) → ltb room (length (mark a (rows n ss es))) ≡ t → IsMarking (mark_lent n a ss es) n ss es ss' es' m
          go true p = full p
          go false p = done p
