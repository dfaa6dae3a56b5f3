-- What a turn of a sweep comes to in each case, and what a plan does.
use Prim.Native.Nat.{ℕ, ◌+◌, ◌-◌, ◌%◌, ◌<◌, ◌≤◌, min}
use mathlib.Core.Path.{◌≡◌, refl, ◌∙◌, sym}
use mathlib.Core.Bool.{Bool, true, false, ◌&&◌}
use lib.Dec.{leb}
use borrow.Author.Tests.{eq-eqb, ne_eqb, lt-ltb, le-ltb, le-leb, lt-leb}
use Rattle.rules.specs.Choice.{if, if_true, if_false, by_if}
use Rattle.rules.specs.Blocks.{is_aligned, is_block}
use Rattle.records_blocks.specs.Sweep.{entry, row, checked, wrote, held, passed, found, moved}
use Rattle.std.specs.Prelude.{Ok}
use Rattle.faults.specs.declared.Fault.TheVariants.{List, Limit}
use Rattle.records_blocks.specs.Plan.{plan, done, changing, still, refused, longer, opening, cutting, placed, planned}
use Rattle.records_blocks.specs.declared.Block.{Block}
use Rattle.records_blocks.specs.declared.Check.{Check}
use Rattle.records_blocks.specs.declared.Carry.{Carry}

-- ---- the check

module _ (k : Check) (b : Block) where
  pub check_good : k.sound ≡ true → k.least ≤ b.start → (x : Bool) → x ≡ is_block (row b) → x ≡ true → record { least = b.start + 1; sound = true } ≡ checked k b
  unfolding checked if
  check_good s l x e t = sym (simp (s, le-leb _ _ l, sym e ∙ t))

  pub check_unsound : k.sound ≡ false → record { least = k.least; sound = false } ≡ checked k b
  unfolding checked if
  check_unsound s = sym (simp s)

  pub check_low : k.sound ≡ true → b.start < k.least → record { least = k.least; sound = false } ≡ checked k b
  unfolding checked if
  check_low s l = sym (simp (s, lt-leb _ _ l))

  pub check_no_block : k.sound ≡ true → k.least ≤ b.start → (x : Bool) → x ≡ is_block (row b) → x ≡ false → record { least = k.least; sound = false } ≡ checked k b
  unfolding checked if
  check_no_block s l x e t = sym (simp (s, le-leb _ _ l, sym e ∙ t))

-- ---- a turn

module _ (c : Carry) (i : ℕ) (b : Block) where
  pub turn_pass : c.mode ≡ 0 → b.start < c.addr → moved c i b ≡ passed c b
  unfolding moved if
  turn_pass m l = simp (eq-eqb _ _ m, lt-ltb _ _ l)

  pub turn_find : c.mode ≡ 0 → c.addr ≤ b.start → moved c i b ≡ found c i b
  unfolding moved if
  turn_find m l = simp (eq-eqb _ _ m, le-ltb _ _ l)

  module _ (m : c.mode ≡ 0 → ⊥) where
    module _ (l : i < c.at) where
      pub turn_cut : c.cut ≡ true → i ≡ c.last → moved c i b ≡ held c (entry b.start c.addr) (entry c.addr b.end)
      unfolding moved if
      turn_cut t e = simp (ne_eqb _ _ m, lt-ltb _ _ l, t, eq-eqb _ _ e)

      pub turn_under : c.cut ≡ true → (i ≡ c.last → ⊥) → moved c i b ≡ wrote c b
      unfolding moved if
      turn_under t e = simp (ne_eqb _ _ m, lt-ltb _ _ l, t, ne_eqb _ _ e)

      pub turn_whole : c.cut ≡ false → moved c i b ≡ wrote c b
      unfolding moved if
      turn_whole t = simp (ne_eqb _ _ m, lt-ltb _ _ l, t)

    module _ (l : c.at ≤ i) where
      pub turn_shift : c.mode ≡ 3 → moved c i b ≡ held c c.hold b
      unfolding moved if
      turn_shift k = simp (ne_eqb _ _ m, le-ltb _ _ l, eq-eqb _ _ k)

      module _ (n : c.mode ≡ 3 → ⊥) where
        pub turn_swap : c.mode ≡ 4 → i ≡ c.at → moved c i b ≡ wrote c c.hold
        unfolding moved if
        turn_swap k e = simp (ne_eqb _ _ m, le-ltb _ _ l, ne_eqb _ _ n, eq-eqb _ _ k, eq-eqb _ _ e)

        pub turn_past : c.mode ≡ 4 → (i ≡ c.at → ⊥) → moved c i b ≡ wrote c b
        unfolding moved if
        turn_past k e = simp (ne_eqb _ _ m, le-ltb _ _ l, ne_eqb _ _ n, eq-eqb _ _ k, ne_eqb _ _ e)

        pub turn_keep : (c.mode ≡ 4 → ⊥) → moved c i b ≡ wrote c b
        unfolding moved if
        turn_keep k = simp (ne_eqb _ _ m, le-ltb _ _ l, ne_eqb _ _ n, ne_eqb _ _ k)

  -- no turn changes what is known of the table
  pub moved_check : (moved c i b).check ≡ c.check
  unfolding moved
  moved_check =
      by_if Keeps _
      (λ _. by_if Keeps _ (λ _. refl) (λ _. refl))
      (λ _. by_if Keeps _
      (λ _. by_if Keeps _ (λ _. by_if Keeps _ (λ _. refl) (λ _. refl)) (λ _. refl))
      (λ _. by_if Keeps _ (λ _. refl) (λ _. by_if Keeps _ (λ _. by_if Keeps _ (λ _. refl) (λ _. refl)) (λ _. refl))))
    where
      Keeps : Carry → Type 0
      Keeps r = r.check ≡ c.check

-- ---- a plan

module _ (only : Bool) (room count : ℕ) (c : Carry) where
  pub open_only : only ≡ true → opening only room count c ≡ still c count
  open_only h = if_true h _ _

  module _ (o : only ≡ false) where
    pub open_held : c.hit ≡ true → opening only room count c ≡ still c count
    open_held h = if_false o _ _ ∙ if_true h _ _

    pub open_new : c.hit ≡ false → count < room → opening only room count c ≡ longer (changing c false 0 3) count true
    open_new h k = if_false o _ _ ∙ if_false h _ _ ∙ if_true (lt-ltb _ _ k) _ _

    pub open_full : c.hit ≡ false → room ≤ count → opening only room count c ≡ refused c Limit
    open_full h k = if_false o _ _ ∙ if_false h _ _ ∙ if_false (le-ltb _ _ k) _ _

  pub place_first : c.at ≡ 0 → placed only room count c ≡ opening only room count c
  unfolding placed
  place_first e = if_true (eq-eqb _ _ e) _ _

  module _ (e : c.at ≡ 0 → ⊥) where
    pub place_open : c.below ≤ c.addr → placed only room count c ≡ opening only room count c
    unfolding placed
    place_open l = if_false (ne_eqb _ _ e) _ _ ∙ if_true (le-leb _ _ l) _ _

    module _ (l : c.addr < c.below) where
      cuts : placed only room count c ≡ cutting only room count c
      unfolding placed
      cuts = if_false (ne_eqb _ _ e) _ _ ∙ if_false (lt-leb _ _ l) _ _

      pub place_swap : c.hit ≡ true → placed only room count c ≡ plan (changing c true (c.at - 1) 4) count (Ok (done count only))
      place_swap h = cuts ∙ if_true h _ _

      pub place_cut : c.hit ≡ false → count < room → placed only room count c ≡ longer (changing c true (c.at - 1) 3) count only
      place_cut h k = cuts ∙ if_false h _ _ ∙ if_true (lt-ltb _ _ k) _ _

      pub place_full : c.hit ≡ false → room ≤ count → placed only room count c ≡ refused c Limit
      place_full h k = cuts ∙ if_false h _ _ ∙ if_false (le-ltb _ _ k) _ _

module _ (only : Bool) (len count : ℕ) (c : Carry) where
  pub plan_past : len < count → planned only len count c ≡ refused c List
  unfolding planned if
  plan_past l = simp (lt-leb _ _ l)

  module _ (f : count ≤ len) where
    pub plan_odd : (c.addr % 4 ≡ 0 → ⊥) → planned only len count c ≡ refused c List
    unfolding planned if
    plan_odd h = simp (le-leb _ _ f, ne_eqb _ _ h)

    module _ (a : c.addr % 4 ≡ 0) where
      pub plan_unsound : c.check.sound ≡ false → planned only len count c ≡ refused c List
      unfolding planned if
      plan_unsound s = simp (le-leb _ _ f, eq-eqb _ _ a, s)

      module _ (s : c.check.sound ≡ true) where
        good : (leb count len && (is_aligned c.addr && c.check.sound)) ≡ true
        good = simp (le-leb _ _ f, eq-eqb _ _ a, s)

        pub plan_place : count ≤ min 256 len → planned only len count c ≡ placed only (min 256 len) count c
        unfolding planned
        plan_place l = if_true good _ _ ∙ if_true (le-leb _ _ l) _ _

        pub plan_full : min 256 len < count → planned only len count c ≡ refused c Limit
        unfolding planned
        plan_full l = if_true good _ _ ∙ if_false (lt-leb _ _ l) _ _
