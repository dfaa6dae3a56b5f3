use Rattle.std.proofs.Common.{◌≡◌, List, ◌∙◌, sym}
use Rattle.rules.specs.Choice.{ok}
use Rattle.rules.specs.Map.{Capacity, try_add_function}
use Rattle.rules.specs.Known.{Entry}
use Rattle.obj_info.specs.Info.{image_of}
use Rattle.additions.proofs.Tried.{tried, of_other, skipped}
use Rattle.additions.proofs.references.try_add_function.Goals as goal
use Rattle.additions.proofs.references.try_add_function.Goals.{else-section_of-code-via-then-section_of-code+else-not-in_skipped_range, else-section_of-code-via-else-section_of-code}

pub returns-then-not-in_skipped_range : goal.returns-then-not-in_skipped_range
returns-then-not-in_skipped_range c = λ cap lists es h.
    rw (tried _ cap c.args.key es (sym c.section_of.ensures ∙ c.if-section_of-code.true ∙ c.code.ensures.is.number) (sym (rw c.address_of.ensures at c.in_skipped_range.ensures) ∙ c.if-not-in_skipped_range.true))
    (c.add_entry.ensures cap lists es h)

pub returns-else-section_of-code : goal.returns-else-section_of-code
returns-else-section_of-code c =
    let e : (cap : Capacity) (es : List Entry) → try_add_function (image_of c.args.obj.now) cap c.args.key es ≡ ok es =
    elim c.else-section_of-code.branch [
      | else-section_of-code-via-then-section_of-code+else-not-in_skipped_range w ↦ λ cap es. skipped _ cap _ es (sym c.section_of.ensures ∙ w.if-section_of-code.true ∙ c.code.ensures.is.number) (sym (rw w.address_of.ensures at w.in_skipped_range.ensures) ∙ w.if-not-in_skipped_range.false)
      | else-section_of-code-via-else-section_of-code w ↦ λ cap es. of_other _ cap _ es (λ q. w.if-section_of-code.false (c.section_of.ensures ∙ q ∙ sym c.code.ensures.is.number))
    ] in
    λ cap lists es h. record { entries = es; is = e cap es; holds = h }
