use Rattle.std.proofs.Common.{◌≡◌, ◌%◌, length, refl, ◌∙◌, arith}
use Rattle.one_function.proofs.Known.{known_are, known_rows, known_broken}
use Rattle.one_function.proofs.asked.known_functions.Goals as goal

pub returns-in_default-clause-err : goal.returns-in_default-clause-err
returns-in_default-clause-err c = (known_broken _ (omega (arith, c.as_chunks.ensures.back_len, c.in_default.len_at_least)), refl)

pub returns-then-not-are_known-clause-err : goal.returns-then-not-are_known-clause-err
returns-then-not-are_known-clause-err c =
    let whole : length c.args.rows.now % 2 ≡ 0 = omega (arith, c.as_chunks.ensures.back_len, c.in_default-empty.len_below) in
    (known_are _ whole _ c.as_chunks.ensures.front _ c.are_known.ensures ∙ c.if-not-are_known.true, refl)

pub returns-clause-ok : goal.returns-clause-ok
returns-clause-ok c =
    let whole : length c.args.rows.now % 2 ≡ 0 = omega (arith, c.as_chunks.ensures.back_len, c.in_default-empty.len_below) in
    known_rows _ whole _ c.as_chunks.ensures.front _ c.collect.ensures

pub returns-clause-told : goal.returns-clause-told
returns-clause-told c =
    let whole : length c.args.rows.now % 2 ≡ 0 = omega (arith, c.as_chunks.ensures.back_len, c.in_default-empty.len_below) in
    known_are _ whole _ c.as_chunks.ensures.front _ c.are_known.ensures ∙ c.if-not-are_known.false
