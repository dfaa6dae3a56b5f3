-- The columns of a function's numbers, and the rows that they were made from.
use mathlib.Core.Path.{◌≡◌, refl, sym, ap, ◌∙◌}
use mathlib.Core.List.{List, [], ◌∷◌, ◌++◌, map, append_assoc}
use Prim.Native.Nat.{ℕ, ◌+◌, ◌*◌, ◌<◌, ◌≤◌}
use native.Mathlib.Omega.{arith}
use native.Mathlib.Decide.{ℕ_discrete}
use lib.ListN.{length, take, drop, get_or, set, length-append, length-map}
use lib.Seq.{take_at, drop_at, take_all}
use Rattle.std.proofs.lemmas.List.{take_more, take_more_set, map-append}
use borrow.Author.Tests.{eq-eqb, ne_eqb}
use Rattle.rules.specs.Choice.{if_true, if_false}
use Rattle.rules.specs.Blocks.{start_of}
use Rattle.rules.specs.Slices.{Slices, Branches, own_address, count_branches}
use Rattle.rules.specs.OneFunction.{numbers, end_of, size_of, way_froms, way_tos}
use Rattle.tables.specs.declared.multimap.Way.{Way}
use Rattle.tables.specs.declared.maps.Row.{Row}
use Rattle.tables.specs.Groups.{leaves, goes_to, branches_of, add_way, grouped}
use Rattle.tables.proofs.Groups.{count_grouped}
use Rattle.slices.specs.declared.FunctionSlices.{FunctionSlices}
use Rattle.std.specs.Prelude.{Some, None}
use Rattle.slices.specs.Some.{some_nonzero, or_zero}
use Rattle.slices.specs.Blocks.{block_of}
use Rattle.slices.specs.View.{slices_of, table_of}
use Rattle.slices.proofs.Rows.{length_rows}

-- rows made of rows
pub map_through : {A B C : Type 0} (f : B → C) (g : A → B) (h : A → C) → ((a : A) → f (g a) ≡ h a) → (l : List A) → map f (map g l) ≡ map h l
map_through f g h e [] = refl
map_through f g h e (x ∷ l) = rw (e x, map_through f g h e l) refl

pub map_back : {A B : Type 0} (f : B → A) (g : A → B) → ((a : A) → f (g a) ≡ a) → (l : List A) → map f (map g l) ≡ l
map_back f g e [] = refl
map_back f g e (x ∷ l) = rw (e x, map_back f g e l) refl

-- the columns of ways on are those of their pairs
froms_add : (p : Way) (g : List Branches) → way_froms (add_way p g) ≡ p.from ∷ way_froms g
froms_add p [] = refl
froms_add p (w ∷ g) = go (ℕ_discrete p.from w.from)
  where
    go : Dec (p.from ≡ w.from) → way_froms (add_way p (w ∷ g)) ≡ p.from ∷ way_froms (w ∷ g)
    go (yes e) = ap way_froms (if_true (eq-eqb p.from w.from e) (branches_of p.from (p.to ∷ w.targets) ∷ g) _) ∙ ap (λ k. p.from ∷ (map (λ _. k) w.targets ++ way_froms g)) e
    go (no ne) = ap way_froms (if_false (ne_eqb p.from w.from ne) _ (branches_of p.from (p.to ∷ []) ∷ w ∷ g))

pub froms_are : (l : List Way) → way_froms (grouped l) ≡ map leaves l
froms_are [] = refl
froms_are (p ∷ l) = froms_add p (grouped l) ∙ ap (λ r. p.from ∷ r) (froms_are l)

tos_add : (p : Way) (g : List Branches) → way_tos (add_way p g) ≡ p.to ∷ way_tos g
tos_add p [] = refl
tos_add p (w ∷ g) = go (ℕ_discrete p.from w.from)
  where
    go : Dec (p.from ≡ w.from) → way_tos (add_way p (w ∷ g)) ≡ p.to ∷ way_tos (w ∷ g)
    go (yes e) = ap way_tos (if_true (eq-eqb p.from w.from e) (branches_of p.from (p.to ∷ w.targets) ∷ g) _)
    go (no ne) = ap way_tos (if_false (ne_eqb p.from w.from ne) _ (branches_of p.from (p.to ∷ []) ∷ w ∷ g))

pub tos_are : (l : List Way) → way_tos (grouped l) ≡ map goes_to l
tos_are [] = refl
tos_are (p ∷ l) = tos_add p (grouped l) ∙ ap (λ r. p.to ∷ r) (tos_are l)

-- a column and those behind it, by its length
pub parted : (n : ℕ) (xs p q a r : List ℕ) → xs ≡ a ++ r → n ≡ length a → p ≡ take n xs → q ≡ drop n xs → (p ≡ a) × (q ≡ r)
parted n xs p q a r e h first rest = (first ∙ ap (take n) e ∙ take_at a r n (sym h), rest ∙ ap (drop n) e ∙ drop_at a r n (sym h))

-- a function's columns, one behind the other
pub in_order : (s : Slices) → numbers s ≡ map start_of s.blocks ++ (map end_of s.blocks ++ (way_froms s.branches ++ (way_tos s.branches ++ (s.function_references ++ (map own_address s.jump_table_references ++ (map size_of s.jump_table_references ++ s.possible_blocks))))))
unfolding numbers
in_order s = simp append_assoc

-- how long they are
pub count_tos : (l : List Branches) → length (way_tos l) ≡ count_branches l
count_tos [] = refl
count_tos (v ∷ l) = length-append v.targets (way_tos l) ∙ ap (λ n. length v.targets + n) (count_tos l)

pub count_froms : (l : List Branches) → length (way_froms l) ≡ count_branches l
count_froms [] = refl
count_froms (v ∷ l) = length-append (map (λ _. v.from) v.targets) (way_froms l) ∙ rw (length-map v.targets (λ _. v.from), count_froms l) refl

pub numbers_long : (s : Slices) → length (numbers s) ≡ 2 * length s.blocks + 2 * count_branches s.branches + length s.function_references + 2 * length s.jump_table_references + length s.possible_blocks
numbers_long s =
    ap length (in_order s)
    ∙ rw (length-append, length-append, length-append, length-append, length-append, length-append, length-append, length-map s.blocks start_of, length-map s.blocks end_of, count_froms s.branches, count_tos s.branches, length-map s.jump_table_references own_address, length-map s.jump_table_references size_of)
    (omega arith)

-- by the lists as they are read
pub room : (s : FunctionSlices) (b t : List Row) (w : List Way) (r p out : List ℕ) → b ≡ s.blocks → grouped w ≡ s.branches → r ≡ s.function_references → t ≡ s.jump_table_references → p ≡ s.possible_blocks → length out ≡ length (numbers (slices_of s)) → length out ≡ 2 * length b + 2 * length w + length r + 2 * length t + length p
unfolding slices_of
room s b t w r p out eb ew er et ep e =
    let n = numbers_long (slices_of s) in
    let ways : count_branches s.branches ≡ length w = ap count_branches (sym ew) ∙ count_grouped w in
    omega (arith, length_rows block_of s.blocks, length_rows table_of s.jump_table_references, ap length eb, ap length er, ap length et, ap length ep)

-- a number of the next row
pub column_next : {T : Type 0} (f : T → ℕ) (rows : List T) (column : List ℕ) (i n : ℕ) (d : T) → i < length column → i < length rows → take i column ≡ map f (take i rows) → n ≡ f (get_or rows i d) → take (i + 1) (set column i n) ≡ map f (take (i + 1) rows)
column_next f rows column i n d h l e at =
    take_more_set column i n h
    ∙ rw (e, at) (sym (ap (map f) (take_more rows i d l) ∙ map-append f (take i rows) (get_or rows i d ∷ [])))

pub column_all : {T : Type 0} (f : T → ℕ) (rows : List T) (column : List ℕ) (i : ℕ) → length column ≡ length rows → length rows ≤ i → take i column ≡ map f (take i rows) → column ≡ map f rows
column_all f rows column i long h e = sym (take_all i column (omega arith)) ∙ e ∙ ap (map f) (take_all i rows h)

-- a number that is none for 0
pub or_some : (n : ℕ) → or_zero (some_nonzero n) ≡ n
or_some n = go (ℕ_discrete n 0)
  where
    go : Dec (n ≡ 0) → or_zero (some_nonzero n) ≡ n
    go (yes e) = ap or_zero (if_true (eq-eqb n 0 e) None (Some n)) ∙ sym e
    go (no ne) = ap or_zero (if_false (ne_eqb n 0 ne) None (Some n))
