use Rattle.std.proofs.Common.{◌≡◌, ◌&&◌, not, false, eqb, ltb, refl}
use borrow.Author.Tests.{eq-eqb, ne_eqb, lt-ltb, le-ltb}
use Rattle.additions.proofs.Behind.{behind_none, behind_above, behind_found}
use Rattle.additions.proofs.gaps.found_behind.Goals as goal
use Rattle.additions.proofs.gaps.found_behind.Goals.{else-after-section_end-via-then-after-section_end+else-after-end, else-after-section_end-via-else-after-section_end}

pub returns-then-end-eq0 : goal.returns-then-end-eq0
returns-then-end-eq0 c = λ cap x e. behind_none _ cap x _ _ e c.if-end-eq0.true

pub returns-then-after-end : goal.returns-then-after-end
returns-then-after-end c = λ cap x e. behind_above _ cap x _ _ e c.if-end-eq0.false _ (c.section_end.ensures cap) (rw (ne_eqb _ _ c.if-after-section_end.true, lt-ltb _ _ c.if-after-end.true) refl)

pub returns : goal.returns
returns c =
    let h : (not (eqb c.args.after c.section_end.result) && ltb c.args.after c.args.function.value) ≡ false =
    elim c.else-after-section_end.branch [
      | else-after-section_end-via-then-after-section_end+else-after-end w ↦ rw (ne_eqb _ _ w.if-after-section_end.true, le-ltb _ _ w.if-after-end.false) refl
      | else-after-section_end-via-else-after-section_end w ↦ rw (eq-eqb _ _ w.if-after-section_end.false) refl
    ] in
    λ cap x e. behind_found _ cap x _ _ e c.if-end-eq0.false _ (c.section_end.ensures cap) _ h (c.new_between.ensures cap)
