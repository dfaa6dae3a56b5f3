-- The map is read back from the result lists.
use Rattle.std.proofs.Common.{◌≡◌, ℕ, zero, suc, ◌+◌, ◌*◌, ◌<◌, Bool, true, false, ◌&&◌, List, [], ◌∷◌, ◌++◌, length, take, drop, map, get_or, eqb, refl, sym, ap, ap₂, ◌∙◌}
use mathlib.Core.List.{append_assoc}
use native.Mathlib.Omega.{arith}
use lib.Seq.{drop_at, take_at, drop-append-add}
use Rattle.std.proofs.Math.Option.{Option, none, some}
use Rattle.std.proofs.lemmas.List.{length-map, length-append}
use borrow.Author.Tests.{eqb-true}
use Rattle.rules.specs.Choice.{if, by_if, if_true, if_false}
use Rattle.rules.specs.Blocks.{Block, block, start_of}
use Rattle.rules.specs.Slices.{Slices, Branches, Table, slices_of, own_address, count_branches}
use Rattle.rules.specs.Known.{Entry}
use Rattle.rules.specs.OneFunction.{numbers, end_of, size_of, way_froms, way_tos}
use Rattle.tables.specs.Groups.{way, leaves, branches_of, add_way, grouped}
use Rattle.tables.specs.declared.multimap.Way.{Way}
use Rattle.numbers.specs.Stored.{Right}
use Rattle.analyzer.specs.Table.{numbers_in, entry_numbers, flat, RightIn, AllRight}
use Rattle.result_lists.specs.Rows.{flag, flags, row_of, result_row, rows_of}
use Rattle.result_lists.specs.Back.{set_in, part, join, table, lists_from, slices_from, row_len, entry_from, map_of}

-- ---- columns, one behind the other

joined : List (List ℕ) → List ℕ → List ℕ
joined [] y = y
joined (l ∷ ls) y = l ++ joined ls y

before : ℕ → List (List ℕ) → ℕ
before zero ls = 0
before (suc i) [] = 0
before (suc i) (l ∷ ls) = length l + before i ls

column : (i : ℕ) (ls : List (List ℕ)) (y : List ℕ) → i < length ls → part (before i ls) (length (get_or ls i [])) (joined ls y) ≡ get_or ls i []
unfolding joined before
column zero [] y lt = absurd (omega arith)
column zero (l ∷ ls) y lt = take_at l (joined ls y) (length l) refl
column (suc i) [] y lt = absurd (omega arith)
column (suc i) (l ∷ ls) y lt =
    ap (take (length (get_or ls i []))) (drop-append-add l (joined ls y) (before i ls)) ∙ column i ls y (omega arith)

-- the column at a place that is so far, with so many numbers
at_place : (i : ℕ) (ls : List (List ℕ)) (y : List ℕ) (a n : ℕ) → i < length ls → a ≡ before i ls → n ≡ length (get_or ls i []) → part a n (joined ls y) ≡ get_or ls i []
at_place i ls y a n lt p q = rw (p, q) (column i ls y lt)

-- ---- rows of two columns

join_map : {A : Type 0} (f : ℕ → ℕ → A) (g h : A → ℕ) → ((x : A) → f (g x) (h x) ≡ x) → (l : List A) → join f (map g l) (map h l) ≡ l
join_map f g h e [] = refl
join_map f g h e (x ∷ l) = ap₂ (λ a m. a ∷ m) (e x) (join_map f g h e l)

abbrev goes_to : Way → ℕ
goes_to w = w.to

froms_added : (p : Way) (bs : List Branches) → way_froms (add_way p bs) ≡ p.from ∷ way_froms bs
froms_added p [] = refl
froms_added p (w ∷ ws) =
    by_if (λ bs. way_froms bs ≡ p.from ∷ way_froms (w ∷ ws)) (eqb p.from w.from)
    (λ h. ap (λ (k : ℕ). p.from ∷ (map (λ (x : ℕ). k) w.targets ++ way_froms ws)) (eqb-true p.from w.from h)) (λ h. refl)

tos_added : (p : Way) (bs : List Branches) → way_tos (add_way p bs) ≡ p.to ∷ way_tos bs
tos_added p [] = refl
tos_added p (w ∷ ws) = by_if (λ bs. way_tos bs ≡ p.to ∷ way_tos (w ∷ ws)) (eqb p.from w.from) (λ h. refl) (λ h. refl)

froms_grouped : (l : List Way) → way_froms (grouped l) ≡ map leaves l
froms_grouped [] = refl
froms_grouped (p ∷ l) = froms_added p (grouped l) ∙ ap (λ m. p.from ∷ m) (froms_grouped l)

tos_grouped : (l : List Way) → way_tos (grouped l) ≡ map goes_to l
tos_grouped [] = refl
tos_grouped (p ∷ l) = tos_added p (grouped l) ∙ ap (λ m. p.to ∷ m) (tos_grouped l)

-- ways on again, where they are pairs
ways_back : (bs : List Branches) (l : List Way) → grouped l ≡ bs → grouped (join way (way_froms bs) (way_tos bs)) ≡ bs
ways_back bs l e =
    let f : way_froms bs ≡ map leaves l = ap way_froms (sym e) ∙ froms_grouped l in
    let t : way_tos bs ≡ map goes_to l = ap way_tos (sym e) ∙ tos_grouped l in
    ap₂ (λ a b. grouped (join way a b)) f t ∙ ap grouped (join_map way leaves goes_to (λ w. refl) l) ∙ e

froms_long : (bs : List Branches) → length (way_froms bs) ≡ count_branches bs
froms_long [] = refl
froms_long (w ∷ ws) = omega (arith, length-append (map (λ (x : ℕ). w.from) w.targets) (way_froms ws), length-map w.targets (λ (x : ℕ). w.from), froms_long ws)

tos_long : (bs : List Branches) → length (way_tos bs) ≡ count_branches bs
tos_long [] = refl
tos_long (w ∷ ws) = omega (arith, length-append w.targets (way_tos ws), tos_long ws)

-- ---- a function's lists

joined_long : (ls : List (List ℕ)) (y : List ℕ) → length (joined ls y) ≡ before (length ls) ls + length y
unfolding joined before
joined_long [] y = omega arith
joined_long (m ∷ ls) y = omega (arith, length-append m (joined ls y), joined_long ls y)

module _ (s : Slices) (y : List ℕ) where
  abbrev columns : List (List ℕ)
  columns =
      map start_of s.blocks ∷ map end_of s.blocks ∷ way_froms s.branches ∷ way_tos s.branches ∷ s.function_references ∷
      map own_address s.jump_table_references ∷ map size_of s.jump_table_references ∷ s.possible_blocks ∷ []

  numbers_joined : numbers s ++ y ≡ joined columns y
  unfolding numbers joined
  numbers_joined = simp append_assoc

  abbrev b : ℕ
  b = length s.blocks

  abbrev w : ℕ
  w = count_branches s.branches

  abbrev f : ℕ
  f = length s.function_references

  abbrev t : ℕ
  t = length s.jump_table_references

  abbrev p : ℕ
  p = length s.possible_blocks

  -- the column i
  read : (i a n : ℕ) → i < 8 → a ≡ before i columns → n ≡ length (get_or columns i []) → part a n (numbers s ++ y) ≡ get_or columns i []
  read i a n lt q e = ap (part a n) numbers_joined ∙ at_place i columns y a n lt q e

  starts_long : length (map start_of s.blocks) ≡ b
  starts_long = length-map s.blocks start_of

  ends_long : length (map end_of s.blocks) ≡ b
  ends_long = length-map s.blocks end_of

  addresses_long : length (map own_address s.jump_table_references) ≡ t
  addresses_long = length-map s.jump_table_references own_address

  sizes_long : length (map size_of s.jump_table_references) ≡ t
  sizes_long = length-map s.jump_table_references size_of

  lists_back : Right s → (g : ℕ) → set_in g 4 ≡ s.conditional_blr → set_in g 8 ≡ s.rfi → set_in g 16 ≡ s.r1_load → set_in g 32 ≡ s.finalized → lists_from b w f t p (numbers s ++ y) g s.prologue s.epilogue ≡ s
  unfolding before
  lists_back r g c i l d =
      let starts : part 0 b (numbers s ++ y) ≡ map start_of s.blocks = read 0 0 b (omega arith) refl (omega (arith, starts_long)) in
      let ends : part b b (numbers s ++ y) ≡ map end_of s.blocks = read 1 b b (omega arith) (omega (arith, starts_long)) (omega (arith, ends_long)) in
      let froms : part (2 * b) w (numbers s ++ y) ≡ way_froms s.branches = read 2 (2 * b) w (omega arith) (omega (arith, starts_long, ends_long)) (omega (arith, froms_long s.branches)) in
      let tos : part (2 * b + w) w (numbers s ++ y) ≡ way_tos s.branches = read 3 (2 * b + w) w (omega arith) (omega (arith, starts_long, ends_long, froms_long s.branches)) (omega (arith, tos_long s.branches)) in
      let refs : part (2 * b + 2 * w) f (numbers s ++ y) ≡ s.function_references = read 4 (2 * b + 2 * w) f (omega arith) (omega (arith, starts_long, ends_long, froms_long s.branches, tos_long s.branches)) refl in
      let adds : part (2 * b + 2 * w + f) t (numbers s ++ y) ≡ map own_address s.jump_table_references = read 5 (2 * b + 2 * w + f) t (omega arith) (omega (arith, starts_long, ends_long, froms_long s.branches, tos_long s.branches)) (omega (arith, addresses_long)) in
      let sizes : part (2 * b + 2 * w + f + t) t (numbers s ++ y) ≡ map size_of s.jump_table_references = read 6 (2 * b + 2 * w + f + t) t (omega arith) (omega (arith, starts_long, ends_long, froms_long s.branches, tos_long s.branches, addresses_long)) (omega (arith, sizes_long)) in
      let poss : part (2 * b + 2 * w + f + 2 * t) p (numbers s ++ y) ≡ s.possible_blocks = read 7 (2 * b + 2 * w + f + 2 * t) p (omega arith) (omega (arith, starts_long, ends_long, froms_long s.branches, tos_long s.branches, addresses_long, sizes_long)) refl in
      let blocks : join block (part 0 b (numbers s ++ y)) (part b b (numbers s ++ y)) ≡ s.blocks = rw (starts, ends) (join_map block start_of end_of (λ x. refl) s.blocks) in
      let branches : grouped (join way (part (2 * b) w (numbers s ++ y)) (part (2 * b + w) w (numbers s ++ y))) ≡ s.branches = rw (froms, tos) (ways_back s.branches r.pairs.ways r.pairs.same) in
      let tables : join table (part (2 * b + 2 * w + f) t (numbers s ++ y)) (part (2 * b + 2 * w + f + t) t (numbers s ++ y)) ≡ s.jump_table_references = rw (adds, sizes) (join_map table own_address size_of (λ x. refl) s.jump_table_references) in
      rw (blocks, branches, refs, tables, poss, c, i, l, d) refl

  -- how many numbers there are
  pub numbers_long : length (numbers s) ≡ 2 * b + 2 * w + f + 2 * t + p
  unfolding joined before
  numbers_long =
      omega (arith, length-append (numbers s) y, ap length numbers_joined, joined_long columns y, starts_long, ends_long, froms_long s.branches, tos_long s.branches, addresses_long, sizes_long)

-- ---- flags

every : (Bool → Bool) → Bool
every q = q true && q false

both : (a c : Bool) → (a && c) ≡ true → (a ≡ true) × (c ≡ true)
both true c e = (refl, e)
both false c e = cc

by_every : (q : Bool → Bool) → every q ≡ true → (a : Bool) → q a ≡ true
unfolding every
by_every q e true = (both (q true) (q false) e).0
by_every q e false = (both (q true) (q false) e).1

same : Bool → Bool → Bool
same true a = a
same false true = false
same false false = true

by_same : (a c : Bool) → same a c ≡ true → a ≡ c
unfolding same
by_same true c e = sym e
by_same false true e = e
by_same false false e = refl

abbrev word : Bool → Bool → Bool → Bool → Bool → ℕ
word a c i l d = flag a + 2 + 4 * flag c + 8 * flag i + 16 * flag l + 32 * flag d

-- each flag is read from its bit
bits : (a c i l d : Bool) → (set_in (word a c i l d) 1 ≡ a) × (set_in (word a c i l d) 2 ≡ true) × (set_in (word a c i l d) 4 ≡ c) × (set_in (word a c i l d) 8 ≡ i) × (set_in (word a c i l d) 16 ≡ l) × (set_in (word a c i l d) 32 ≡ d)
unfolding every same
bits a c i l d = (
  get (λ a c i l d. set_in (word a c i l d) 1) (λ a c i l d. a) refl,
  get (λ a c i l d. set_in (word a c i l d) 2) (λ a c i l d. true) refl,
  get (λ a c i l d. set_in (word a c i l d) 4) (λ a c i l d. c) refl,
  get (λ a c i l d. set_in (word a c i l d) 8) (λ a c i l d. i) refl,
  get (λ a c i l d. set_in (word a c i l d) 16) (λ a c i l d. l) refl,
  get (λ a c i l d. set_in (word a c i l d) 32) (λ a c i l d. d) refl,
)
  where
    get : (q r : Bool → Bool → Bool → Bool → Bool → Bool) → every (λ a. every (λ c. every (λ i. every (λ l. every (λ d. same (q a c i l d) (r a c i l d)))))) ≡ true → q a c i l d ≡ r a c i l d
    get q r e =
        by_same (q a c i l d) (r a c i l d)
        (by_every (λ d. same (q a c i l d) (r a c i l d))
        (by_every (λ l. every (λ d. same (q a c i l d) (r a c i l d)))
        (by_every (λ i. every (λ l. every (λ d. same (q a c i l d) (r a c i l d))))
        (by_every (λ c. every (λ i. every (λ l. every (λ d. same (q a c i l d) (r a c i l d)))))
        (by_every (λ a. every (λ c. every (λ i. every (λ l. every (λ d. same (q a c i l d) (r a c i l d)))))) e a) c) i) l) d)

-- ---- entries

-- an entry with no lists has one flag
alone : (a : Bool) → (set_in (flag a) 1 ≡ a) × (set_in (flag a) 2 ≡ false)
alone true = (refl, refl)
alone false = (refl, refl)

-- behind a row, and behind an entry's numbers
row_past : (x : Entry) (z : List ℕ) → drop 10 (result_row x ++ z) ≡ z
row_past x z = by x.slices refl
  where
    by : (o : Option Slices) → x.slices ≡ o → drop 10 (result_row x ++ z) ≡ z
    by none q = rw q refl
    by (some s) q = rw q refl

numbers_past : (x : Entry) (z y : List ℕ) → drop (row_len (result_row x ++ z)) (entry_numbers x ++ y) ≡ y
numbers_past x z y = by x.slices refl
  where
    by : (o : Option Slices) → x.slices ≡ o → drop (row_len (result_row x ++ z)) (entry_numbers x ++ y) ≡ y
    by none q = rw q refl
    by (some s) q = rw q (drop_at (numbers s) y (2 * length s.blocks + 2 * count_branches s.branches + length s.function_references + 2 * length s.jump_table_references + length s.possible_blocks) (numbers_long s y))

pub entry_back : (x : Entry) (z y : List ℕ) → RightIn x.slices → entry_from (result_row x ++ z) (entry_numbers x ++ y) ≡ x
entry_back x z y r = by x.slices refl r
  where
    by : (o : Option Slices) → x.slices ≡ o → RightIn o → entry_from (result_row x ++ z) (entry_numbers x ++ y) ≡ x
    by none q r =
        rw q (ap₂ (λ (a : Bool) (o : Option Slices). record { entry = x.entry; analyzed = a; end = x.end; slices = o }) (alone x.analyzed).0 (if_false (alone x.analyzed).1 _ none))
    by (some s) q r =
        let g = bits x.analyzed s.conditional_blr s.rfi s.r1_load s.finalized in
        let l : slices_from (row_of x.entry x.end x.analyzed (some s) ++ z) (numbers s ++ y) ≡ s = lists_back s y r (word x.analyzed s.conditional_blr s.rfi s.r1_load s.finalized) g.2 g.3 g.4 g.5 in
        rw q (ap₂ (λ (a : Bool) (o : Option Slices). record { entry = x.entry; analyzed = a; end = x.end; slices = o }) g.0 (if_true g.1 _ none ∙ ap some l))

pub map_back : (es : List Entry) (z y : List ℕ) → AllRight es → map_of (length es) (rows_of es ++ z) (flat es ++ y) ≡ es
map_back [] z y r = refl
map_back (x ∷ es) z y r =
    rw (append_assoc (result_row x) (rows_of es) z, append_assoc (entry_numbers x) (flat es) y)
    (ap₂ (λ (e : Entry) (l : List Entry). e ∷ l) (entry_back x (rows_of es ++ z) (flat es ++ y) r.0)
    (ap₂ (λ (i l : List ℕ). map_of (length es) i l) (row_past x (rows_of es ++ z)) (numbers_past x (rows_of es ++ z) (flat es ++ y)) ∙ map_back es z y r.1))
