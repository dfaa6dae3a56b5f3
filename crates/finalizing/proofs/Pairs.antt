-- Whether a word has two ways on, one of them to a given place: from each pair and the next, and from the rows that they are.
use Rattle.std.proofs.Common.{◌≡◌, ℕ, suc, refl, ap, ◌∙◌, sym, Bool, true, false, ◌&&◌, ◌||◌, eqb, ltb, List, [], ◌∷◌, length, drop, zip, arith, lt-ltb, ltb-false}
use Rattle.rules.specs.Choice.{if, by_if, any}
use Rattle.rules.specs.Image.{Image}
use Rattle.rules.specs.Slices.{Branches}
use Rattle.rules.specs.Finalize as rules
use Rattle.tables.specs.declared.multimap.Way.{Way}
use Rattle.tables.specs.Groups.{branches_of, add_way, grouped}

module _ (im : Image) (key : ℕ) where
  -- both are from one word, and one of them goes there
  abbrev pub shared : Way → Way → Bool
  shared p q = eqb p.from q.from && (eqb key p.to || eqb key q.to)

  -- each way on and the next
  any_shared : List Way → Bool
  any_shared [] = false
  any_shared (p ∷ []) = false
  any_shared (p ∷ q ∷ l) = if (shared p q) true (any_shared (q ∷ l))

  zipped : (l : List Way) → any (λ (p : Way × Way). shared p.0 p.1) (zip l (drop 1 l)) ≡ any_shared l
  unfolding any_shared
  zipped [] = refl
  zipped (p ∷ []) = refl
  zipped (p ∷ q ∷ l) = ap (λ (b : Bool). if (shared p q) true b) (zipped (q ∷ l))

  -- rows of which the first is from k, and first goes to t
  data Headed : ℕ → ℕ → List Branches → Type 0 where
    headed : {k t : ℕ} {ts : List ℕ} {r : List Branches} → Headed k t (branches_of k (t ∷ ts) ∷ r)

  add_headed : (p : Way) (g : List Branches) → Headed p.from p.to (add_way p g)
  add_headed p [] = headed
  add_headed p (w ∷ g) = by_if (Headed p.from p.to) (eqb p.from w.from) (λ _. headed) (λ _. headed)

  abbrev rows : List Branches → Bool
  rows l = any (rules.branches_to im key) l

  none : (ts : List ℕ) → length ts ≡ 0 → any (eqb key) ts ≡ false
  none [] h = refl
  none (t ∷ ts) h = absurd (omega arith)

  -- a row of two and n more, told by its first two and by the row without the first
  joined : (x y z r : Bool) (n : ℕ) → (n ≡ 0 → z ≡ false) → if (ltb 1 (suc (suc n)) && if x true (if y true z)) true r ≡ if (x || y) true (if (ltb 1 (suc n) && if y true z) true r)
  unfolding if
  joined x y z r n h = rw (lt-ltb 1 (suc (suc n)) (omega arith)) (go x y z (ltb 1 (suc n)) refl h)
    where
      go : (x y z b : Bool) → ltb 1 (suc n) ≡ b → (n ≡ 0 → z ≡ false) → if (if x true (if y true z)) true r ≡ if (x || y) true (if (b && if y true z) true r)
      go true y z b q h = refl
      go false true z b q h = refl
      go false false true true q h = refl
      go false false true false q h = let e : n ≡ 0 = omega (arith, ltb-false 1 (suc n) q) in let c = h e in cc
      go false false false true q h = refl
      go false false false false q h = refl

  turn : (p : Way) (k t : ℕ) {l : List Branches} → Headed k t l → rows (add_way p l) ≡ if (eqb p.from k && (eqb key p.to || eqb key t)) true (rows l)
  turn p k t (headed {ts} {r}) = go (eqb p.from k)
    where
      go : (b : Bool) → rows (if b (branches_of p.from (p.to ∷ t ∷ ts) ∷ r) (branches_of p.from (p.to ∷ []) ∷ branches_of k (t ∷ ts) ∷ r)) ≡ if (b && (eqb key p.to || eqb key t)) true (rows (branches_of k (t ∷ ts) ∷ r))
      go true = unfold if in joined (eqb key p.to) (eqb key t) (any (eqb key) ts) (rows r) (length ts) (none ts)
      go false = unfold if in refl

  shared_rows : (l : List Way) → any_shared l ≡ rows (grouped l)
  unfolding any_shared
  shared_rows [] = refl
  shared_rows (p ∷ []) = unfold if in refl
  shared_rows (p ∷ q ∷ l) =
      ap (λ (b : Bool). if (shared p q) true b) (shared_rows (q ∷ l)) ∙ sym (turn p q.from q.to (add_headed q (grouped l)))

  pub any_pair : (l : List Way) → any (λ (p : Way × Way). shared p.0 p.1) (zip l (drop 1 l)) ≡ any (rules.branches_to im key) (grouped l)
  any_pair l = zipped l ∙ shared_rows l
