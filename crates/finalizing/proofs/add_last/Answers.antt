use Rattle.std.proofs.Common.{sym, ◌∙◌, arith}
use Rattle.obj_info.specs.Info.{lent_of}
use Rattle.slices.specs.View.{slices_of}
use Rattle.walks.proofs.Entries.{has_entry}
use Rattle.finalizing.proofs.Words.{end_low}
use Rattle.finalizing.proofs.Ends.{no_last, entry_last, block_last}
use Rattle.finalizing.proofs.add_last.Goals.{else-has_last-via-then-has_last+else-not-contains_key, else-has_last-via-else-has_last}
use Rattle.finalizing.proofs.add_last.Goals as goal

pub overflow_add-end : goal.overflow_add-end
overflow_add-end c =
    let low = end_low (lent_of c.args.obj.now) c.args.obj.now.checked (slices_of c.args.slices.now) (sym c.has_last.ensures ∙ c.if-has_last.true) in
    omega (arith, low, c.requires)

pub returns-then-not-contains_key : goal.returns-then-not-contains_key
returns-then-not-contains_key c = λ es knows.
    c.set_block.ensures ∙ block_last _ es _ c.args.end c.requires (sym c.has_last.ensures ∙ c.if-has_last.true) (has_entry c.args.end es _ knows _ c.contains_key.ensures.value ∙ c.if-not-contains_key.true)

pub returns : goal.returns
returns c = λ es knows. elim c.else-has_last.branch [
  | else-has_last-via-then-has_last+else-not-contains_key w ↦
      entry_last _ es _ c.args.end c.requires (sym c.has_last.ensures ∙ w.if-has_last.true) (has_entry c.args.end es _ knows _ w.contains_key.ensures.value ∙ w.if-not-contains_key.false)
  | else-has_last-via-else-has_last w ↦ no_last _ es _ c.args.end c.requires (sym c.has_last.ensures ∙ w.if-has_last.false)
]
