-- Reading on, word by word.
use Rattle.std.proofs.Common.{◌≡◌, ℕ, ◌+◌, ◌<◌, ◌≤◌, refl, ◌∙◌, List, ◌∷◌, map, length, drop, get_or, add-one, drop-cons, Option, Some, None}
use Rattle.std.proofs.lemmas.List.{drop_all}
use Rattle.rules.specs.Choice.{if_true, if_false, Answer, ok, fault, ◌>>=◌}
use Rattle.rules.specs.Bytes.{words_in}
use Rattle.rules.specs.Image.{Image}
use Rattle.jump_tables.specs.declared.reading.Reading.{Reading}
use Rattle.jump_tables.specs.Readings.{number_in, begun, taken, sized_word, sized_words, target_inside, unsized_words}
use Rattle.jump_tables.specs.Entries.{sized_end, sized_reading, unsized_end, unsized_reading}
use Rattle.jump_tables.proofs.Readings.{chose_some, chose_none}

module _ (items : List (List ℕ)) (i : ℕ) (d : List ℕ) (v : ℕ) (is_v : v ≡ number_in (get_or items i d)) where
  next : i < length items → map number_in (drop i items) ≡ v ∷ map number_in (drop (i + 1) items)
  next h = rw (drop-cons items i d h, is_v, add-one i) refl

  module _ (im : Image) (s : Reading) (h : i < length items) where
    pub sized_goes : (r : Reading) → ok r ≡ sized_word im v s → sized_words im (map number_in (drop i items)) s ≡ sized_words im (map number_in (drop (i + 1) items)) r
    unfolding ◌>>=◌
    sized_goes r e = rw (next h, ← e) refl

    pub sized_fails : (n : ℕ) → fault n ≡ sized_word im v s → sized_words im (map number_in (drop i items)) s ≡ fault n
    unfolding ◌>>=◌
    sized_fails n e = rw (next h, ← e) refl

    module _ (first : ℕ) (past : Option ℕ) where
      pub unsized_stops : None ≡ target_inside im first past v → unsized_words im first past (map number_in (drop i items)) s ≡ ok s
      unsized_stops e = rw (next h) (if_false (chose_none _ _ e) _ _)

      pub unsized_goes : (t : ℕ) → Some t ≡ target_inside im first past v → (r : Reading) → ok r ≡ taken v t s → unsized_words im first past (map number_in (drop i items)) s ≡ unsized_words im first past (map number_in (drop (i + 1) items)) r
      unfolding ◌>>=◌
      unsized_goes t e r f = let q = chose_some _ _ _ e in rw (next h) (if_true q.0 _ _ ∙ rw (q.1, ← f) refl)

      pub unsized_fails : (t : ℕ) → Some t ≡ target_inside im first past v → (n : ℕ) → fault n ≡ taken v t s → unsized_words im first past (map number_in (drop i items)) s ≡ fault n
      unfolding ◌>>=◌
      unsized_fails t e n f = let q = chose_some _ _ _ e in rw (next h) (if_true q.0 _ _ ∙ rw (q.1, ← f) refl)

module _ (items : List (List ℕ)) (b : List ℕ) (words_are : map number_in items ≡ words_in b) (im : Image) where
  pub sized_came : (n : ℕ) (a : Answer Reading) → sized_words im (map number_in items) begun ≡ a → (a >>= sized_end n) ≡ sized_reading im n (words_in b)
  unfolding sized_reading
  sized_came n a e = rw (← words_are, e) refl

  pub unsized_came : (first : ℕ) (past : Option ℕ) (a : Answer Reading) → unsized_words im first past (map number_in items) begun ≡ a → (a >>= unsized_end) ≡ unsized_reading im first past (words_in b)
  unfolding unsized_reading
  unsized_came first past a e = rw (← words_are, e) refl

module _ (items : List (List ℕ)) (i : ℕ) (h : length items ≤ i) (im : Image) (s : Reading) where
  pub sized_done : sized_words im (map number_in (drop i items)) s ≡ ok s
  sized_done = rw (drop_all i items h) refl

  pub unsized_done : (first : ℕ) (past : Option ℕ) → unsized_words im first past (map number_in (drop i items)) s ≡ ok s
  unsized_done first past = rw (drop_all i items h) refl
