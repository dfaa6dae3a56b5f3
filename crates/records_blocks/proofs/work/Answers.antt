-- What `look`, `sweep` and `decide` ensure comes to what `Changes` says of the two sweeps.
use Rattle.std.proofs.Common.{◌≡◌, ◌≤◌, Bool, ℕ, List, length, sym, ◌∙◌, ap, ap₂, subst}
use Rattle.records_blocks.specs.Sweep.{after, swept}
use Rattle.records_blocks.specs.Plan.{looking, planned}
use Rattle.records_blocks.specs.Records.{change_records, IsDone}
use Rattle.records_blocks.specs.declared.Block.{Block}
use Rattle.records_blocks.specs.declared.Carry.{Carry}
use Rattle.records_blocks.specs.declared.Plan.{Plan}
use Rattle.records_blocks.proofs.Changes as changes
use Rattle.records_blocks.proofs.work.Goals as goal

module _ (only : Bool) (ys : List Block) (n a : ℕ) (p : Plan) (e₁ : p ≡ looking (length ys) n a) where
  inside : p.n ≤ length ys
  inside = subst (λ (u : Plan). u.n ≤ length ys) (sym e₁) (changes.looked only ys n a)

  module _ (d : Carry) (zs : List Block) (r : Plan) (e₂ : (d ≡ after p.n 0 p.carry ys) × (zs ≡ swept p.n 0 p.carry ys)) (e₃ : r ≡ planned only (length zs) n d) where
    d_is : d ≡ changes.seen only ys n a
    d_is = e₂.0 ∙ ap (λ (u : Plan). after u.n 0 u.carry ys) e₁

    zs_is : zs ≡ ys
    zs_is = e₂.1 ∙ (ap (λ (u : Plan). swept u.n 0 u.carry ys) e₁ ∙ changes.same only ys n a)

    right : changes.Right only ys n a r
    right = subst (changes.Right only ys n a) (sym (e₃ ∙ ap₂ (λ (l : List Block) (c : Carry). planned only (length l) n c) zs_is d_is)) (changes.right only ys n a)

    within : r.n ≤ length zs
    within = subst (λ (l : List Block). r.n ≤ length l) (sym zs_is) right.0

    worked : (ws : List Block) → ws ≡ swept r.n 0 r.carry zs → IsDone (change_records only n a ys) ys ws r.done
    worked ws e = subst (λ (l : List Block). IsDone (change_records only n a ys) ys l r.done) (sym (e ∙ ap (swept r.n 0 r.carry) zs_is)) right.1

pub sweep-c-requires : goal.sweep-c-requires
sweep-c-requires c = inside c.args.only _ _ _ _ c.look-p.ensures

pub sweep-requires : goal.sweep-requires
sweep-requires c = within _ _ _ _ _ c.look-p.ensures _ _ _ c.sweep-c.ensures c.decide-q.ensures

pub returns : goal.returns
returns c = worked _ _ _ _ _ c.look-p.ensures _ _ _ c.sweep-c.ensures c.decide-q.ensures _ c.sweep.ensures.1
