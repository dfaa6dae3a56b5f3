-- Ways on as pairs, (from, to), in order: consecutive pairs from one word are that word's ways on.
use Rattle.std.specs.Prelude.{List, [], ◌∷◌, ℕ, Bool, true, eqb, leb}
use Rattle.rules.specs.Choice.{if, Answer, ok, fault}
use Rattle.rules.specs.Slices.{Branches, count_branches}
use Rattle.tables.specs.declared.multimap.Way.{Way}

abbrev pub way : ℕ → ℕ → Way
way f t = record { from = f; to = t }

-- the word that a way on leaves
abbrev pub leaves : Way → ℕ
leaves w = w.from

-- the word that it goes to
abbrev pub goes_to : Way → ℕ
goes_to w = w.to

-- whether the last of them, if there is one, is from k or below
abbrev pub last_up_to : ℕ → List Way → Bool
last_up_to k [] = true
last_up_to k (p ∷ []) = leb p.from k
last_up_to k (p ∷ q ∷ l) = last_up_to k (q ∷ l)

abbrev pub branches_of : ℕ → List ℕ → Branches
branches_of f l = record { from = f; targets = l }

-- a pair before the rows: the first of its word's, or with those it has
abbrev pub add_way : Way → List Branches → List Branches
add_way p [] = branches_of p.from (p.to ∷ []) ∷ []
add_way p (w ∷ ws) =
    if (eqb p.from w.from) (branches_of p.from (p.to ∷ w.targets) ∷ ws)
    (branches_of p.from (p.to ∷ []) ∷ w ∷ ws)

-- the rows that pairs are
abbrev pub grouped : List Way → List Branches
grouped [] = []
grouped (p ∷ ps) = add_way p (grouped ps)

-- fault 4 where there are more pairs than that
abbrev pub limited_ways : ℕ → List Branches → Answer (List Branches)
limited_ways n l = if (leb (count_branches l) n) (ok l) (fault 4)
