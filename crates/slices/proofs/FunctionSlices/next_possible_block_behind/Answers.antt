-- The blocks up to the word stand first.
use Rattle.std.proofs.Common.{◌≡◌, ℕ, ◌+◌, rules, tests, sym, ap, ◌∙◌, arith}
use Rattle.std.proofs.lemmas.List.Sorted.{IsPartitionedBy-ltb, IsPartitionPoint-from_clause}
use Rattle.std.specs.Prelude.{slice_get}
use lib.Dec.{ltb}
use Rattle.rules.specs.Ordered.{self as own, rank}
use Rattle.tables.proofs.Places.{first_place, first_from_is, rising_le, copied_item}
use Rattle.slices.specs.View.{slices_of}
use Rattle.slices.proofs.Views.{up_to_word, first_nonzero}
use Rattle.slices.proofs.FunctionSlices.next_possible_block_behind.Goals as goal

pub returns-clause-value : goal.returns-clause-value
unfolding slices_of
returns-clause-value c =
    let l = c.as_slice-blocks.result.now in
    let k = c.args.block + 4 in
    let point = IsPartitionPoint-from_clause (λ (x : ℕ). ltb x k) _ _ c.partition_point-at.ensures.partitioned (IsPartitionedBy-ltb own _ _ (λ i j d le h. rising_le own d l i j c.as_slice-blocks.ensures.rising le h)) (λ a r f q. rw (← up_to_word a.0.now c.args.block) (search (rules, tests))) in
    let at : c.partition_point-at.result ≡ rank own k l = first_place own 0 k _ l c.partition_point-at.ensures.bound point in
    rw (← c.as_slice-blocks.ensures.items)
    (c.copied.ensures ∙ copied_item _ _ _ c.get.ensures.lookup ∙ ap (slice_get l) at ∙ sym (first_from_is own k l) ∙ first_nonzero k l (omega arith))
