-- A new entry behind an end, or none.
use Rattle.std.proofs.Common.{◌≡◌, ◌≢◌, ℕ, ◌+◌, true, false, ◌&&◌, not, List, [], ◌∷◌, ltb, eqb, refl, sym, ap, ◌∙◌}
use Rattle.std.specs.Prelude.{Some, None}
use borrow.Author.Tests.{ne_eqb, eq-eqb}
use Rattle.rules.specs.Choice.{if, if_true, if_false, ok, fault}
use Rattle.rules.specs.Address.{key, address_of}
use Rattle.rules.specs.Image as images
use Rattle.rules.specs.Known.{Entry}
use Rattle.rules.specs.Map as rules
use Rattle.jump_tables.proofs.Readings.{chose_some, chose_none}
use Rattle.additions.specs.Found.{some_below}

module _ (im : images.Image) (cap : rules.Capacity) where
  module _ (end after : ℕ) where
    abbrev found : ℕ
    found = rules.skip_alignment im cap (address_of end) (address_of after)

    pub between_some : (w k : ℕ) → Some w ≡ some_below (address_of after) found → k ≡ key (images.code_number im) w → k ∷ [] ≡ rules.new_between im cap end after
    unfolding rules.new_between
    between_some w k e f =
        let q = chose_some _ _ _ e in
        sym (if_true q.0 _ _ ∙ ap (λ (a : ℕ). key (images.code_number im) a ∷ []) q.1 ∙ ap (λ (y : ℕ). y ∷ []) (sym f))

    pub between_none : None ≡ some_below (address_of after) found → [] ≡ rules.new_between im cap end after
    unfolding rules.new_between
    between_none e = sym (if_false (chose_none _ _ e) _ _)

  pub section_end_is : (r s : ℕ) → r ≡ key (images.code_number im) s → s ≡ (images.code_section im).base + (images.code_section im).size → r ≡ rules.section_end im cap
  unfolding rules.section_end
  section_end_is r s e f = e ∙ ap (key (images.code_number im)) f

  module _ (x : Entry) (end after : ℕ) (is_end : x.end ≡ end) where
    pub behind_none : end ≡ 0 → ok [] ≡ rules.found_behind im cap x after
    unfolding rules.found_behind
    behind_none z = sym (if_true (eq-eqb x.end 0 (is_end ∙ z)) _ _)

    module _ (n : end ≢ 0) (s : ℕ) (is_s : s ≡ rules.section_end im cap) where
      pub behind_above : (not (eqb after s) && ltb after end) ≡ true → fault 14 ≡ rules.found_behind im cap x after
      unfolding rules.found_behind
      behind_above h = rw (is_end, ne_eqb end 0 n, ← is_s, h) (unfold if in refl)

      pub behind_found : (l : List ℕ) → (not (eqb after s) && ltb after end) ≡ false → l ≡ rules.new_between im cap end after → ok l ≡ rules.found_behind im cap x after
      unfolding rules.found_behind
      behind_found l h g = rw (is_end, ne_eqb end 0 n, ← is_s, h) (unfold if in ap ok g)
