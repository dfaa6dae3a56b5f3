-- Rows of a table whose columns stand in arrays of their own.
use Rattle.std.specs.Prelude.{List, [], ◌∷◌}

-- the rows of two columns
abbrev pub join : {X Y A : Type 0} → (X → Y → A) → List X → List Y → List A
join f [] ys = []
join f (x ∷ xs) [] = []
join f (x ∷ xs) (y ∷ ys) = f x y ∷ join f xs ys

abbrev pub both : {Y Z : Type 0} → Y → Z → Y × Z
both y z = (y, z)

abbrev pub spread : {X Y Z A : Type 0} → (X → Y → Z → A) → X → Y × Z → A
spread f x p = f x p.0 p.1

-- the rows of three columns: those of the first, and of the other two joined
abbrev pub join3 : {X Y Z A : Type 0} → (X → Y → Z → A) → List X → List Y → List Z → List A
join3 f xs ys zs = join (spread f) xs (join both ys zs)
