use Prim.Native.Nat.{◌≤◌}
use mathlib.Core.Logic.{⊎_elim}
use borrow.Author.Rules.{rules}
use native.Mathlib.Omega.{arith}
use Rattle.obj_image.specs.Lent.{seen}
use Rattle.obj_rows.specs.Outcomes.{number_of}
use Rattle.obj_rows.proofs.OutcomeRows.{list_fits, table_fits, jump_fits, plain_fits}
use Rattle.obj_rows.proofs.outcomes.fits_kind.Goals as goal

-- `obj::outcomes::fits_kind` is `fits_kind` of `rules`. Assumes nothing.
pub returns-then-r-le3 : goal.returns-then-r-le3
returns-then-r-le3 c = plain_fits (seen c.args.sections.now) c.args.r (omega arith)

pub returns-in-GoOn : goal.returns-in-GoOn
returns-in-GoOn c = let h : number_of c.args.kind ≤ 3 = ⊎_elim (λ e. rw e (omega arith)) (⊎_elim (λ e. rw e (omega arith)) (⊎_elim (λ e. rw e (omega arith)) (λ e. rw e (omega arith)))) c.in-GoOn.is in absurd (omega (arith, h, c.requires.kind))

pub returns-in-Jump : goal.returns-in-Jump
returns-in-Jump c = search (rules, jump_fits)

pub returns-in-JumpTable : goal.returns-in-JumpTable
returns-in-JumpTable c = search (rules, table_fits)

pub returns-in-Branches : goal.returns-in-Branches
returns-in-Branches c = search (rules, list_fits)
