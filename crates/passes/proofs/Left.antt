-- What the passes have still to do.
use Rattle.std.proofs.Common.{◌≡◌, ℕ, ◌<◌, ◌≤◌, Bool, true, false, ◌&&◌, refl, sym, ap, ◌∙◌, ltb}
use Rattle.std.specs.Prelude.{Some, None, not}
use borrow.Author.Tests.{ne_eqb, lt-ltb, le-ltb}
use Rattle.rules.specs.Choice.{if, if_true, if_false}
use Rattle.rules.specs.Blocks.{Block, is_open, last_end, first_disconnected_block}
use Rattle.rules.specs.Step.{Around, Walk}
use Rattle.rules.specs.Analyze.{is_nowhere, is_disconnected, pass_behind, connect_step, is_short, next_part, skip_nops, run_pass, reach_step}
use Rattle.jump_tables.proofs.Readings.{chose_some}
use Rattle.passes.specs.Left.{block_apart, left_out}

-- ---- blocks that stand apart

module _ (e : Around) (w : Walk) where
  abbrev first : Block
  first = first_disconnected_block w.slices.blocks

  first_is : (b : Block) → Some b ≡ block_apart w → ((not (is_nowhere w.place) && not (is_open first)) ≡ true) × (first ≡ b)
  unfolding if
  first_is b h = go (is_nowhere w.place) (is_open first) h
    where
      go : (m n : Bool) → Some b ≡ if m None (if n None (Some first)) → ((not m && not n) ≡ true) × (first ≡ b)
      go true n q = cc
      go false true q = cc
      go false false q = (refl, cc)

  -- one does: a pass goes on behind it
  pub is_apart : (b : Block) → Some b ≡ block_apart w → (is_disconnected e w ≡ true) × (pass_behind e b w ≡ connect_step e w)
  unfolding is_disconnected connect_step
  is_apart b h = let p = first_is b h in (p.0, ap (λ (x : Block). pass_behind e x w) (sym p.1))

  -- none does
  pub none_apart : None ≡ block_apart w → is_disconnected e w ≡ false
  unfolding is_disconnected if
  none_apart h = go (is_nowhere w.place) (is_open first) h
    where
      go : (m n : Bool) → None ≡ if m None (if n None (Some first)) → (not m && not n) ≡ false
      go true n q = refl
      go false true q = refl
      go false false q = cc

-- ---- words before the end

module _ (e : Around) (w : Walk) where
  -- some are: a pass goes on there
  pub is_left : (k : ℕ) → Some k ≡ left_out e w → (is_short e w ≡ true) × (run_pass e k w ≡ reach_step e w)
  unfolding reach_step
  is_left k h = let p = chose_some (is_short e w) (next_part e w) k h in (p.0, ap (λ (x : ℕ). run_pass e x w) (sym p.1))

  -- the walk met no function
  pub none_left : is_nowhere w.place ≡ true → None ≡ left_out e w
  unfolding is_short
  none_left h = rw h (sym (if_false refl _ _))

  module _ (met : is_nowhere w.place ≡ false) where
    -- the last block is open
    pub open_left : last_end w.slices.blocks ≡ 0 → None ≡ left_out e w
    unfolding is_short
    open_left h = rw (met, h) (sym (if_false refl _ _))

    module _ (end from : ℕ) (closed : last_end w.slices.blocks ≡ end) (some : end ≡ 0 → ⊥) (is_from : from ≡ skip_nops e end) where
      short_by : is_short e w ≡ ltb from e.end
      unfolding is_short next_part
      short_by = rw (met, closed, ne_eqb end 0 some, is_from) refl

      pub words_left : from < e.end → Some from ≡ left_out e w
      unfolding next_part
      words_left h = sym (if_true (short_by ∙ lt-ltb _ _ h) _ _ ∙ rw (closed, is_from) refl)

      pub at_end : e.end ≤ from → None ≡ left_out e w
      at_end h = sym (if_false (short_by ∙ le-ltb _ _ h) _ _)
