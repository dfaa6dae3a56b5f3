-- Of the entry at the key or above, where there is one.
use Rattle.std.proofs.Common.{◌+◌, ◌≤◌, length, take, get_or, arith, ap, ◌∙◌}
use Rattle.analyzer.specs.Placed.{infos_long}
use Rattle.analyzer.proofs.Rows.{place_is}
use Rattle.analyzer.proofs.Spans.{none_at, none_in, within, lent_in}
use Rattle.analyzer.proofs.AnalyzerState.numbers_of.Goals as goal

pub returns-in_err-get : goal.returns-in_err-get
returns-in_err-get c cap es h =
    rw c.from_residual.ensures
    (none_at h c.args.key c.rank-at.result (c.rank-at.ensures.value ∙ place_is h c.args.key) (omega (arith, c.in_err-get.ensures.lookup.3, ap length c.deref.ensures.0)))

pub returns-in_err-header : goal.returns-in_err-header
returns-in_err-header c cap es h =
    let at = c.in_ok-get.ensures.lookup.3 in
    rw c.from_residual-in_err-header.ensures
    (none_in h c.args.key c.rank-at.result (c.rank-at.ensures.value ∙ place_is h c.args.key) c.in_ok-get.field-0.now (omega (arith, at.0, ap length c.deref.ensures.0))
    (λ d. at.1 d ∙ ap (λ l. get_or l c.rank-at.result d) c.deref.ensures.0) c.in_err-header.was)

pub returns-in_err-numbers : goal.returns-in_err-numbers
returns-in_err-numbers c cap es h =
    let at = c.in_ok-get.ensures.lookup.3 in
    let fits : c.total_len-start.result + c.len.result ≤ length c.args.lists.now =
    within h c.args.key c.rank-at.result (c.rank-at.ensures.value ∙ place_is h c.args.key) c.in_ok-get.field-0.now (omega (arith, at.0, ap length c.deref.ensures.0))
    (λ d. at.1 d ∙ ap (λ l. get_or l c.rank-at.result d) c.deref.ensures.0) c.in_ok-header.header c.in_ok-header.was c.total_len-start.result c.len.result
    (c.total_len-start.ensures.value ∙ ap (λ l. infos_long (take c.rank-at.result l)) c.deref-2.ensures.0) c.len.ensures.value
    in
    absurd (omega (arith, c.in_err-numbers.ensures.lookup.0))

pub returns : goal.returns
returns c cap es h =
    let at = c.in_ok-get.ensures.lookup.3 in
    lent_in h c.args.key c.rank-at.result (c.rank-at.ensures.value ∙ place_is h c.args.key) c.in_ok-get.field-0.now (omega (arith, at.0, ap length c.deref.ensures.0))
    (λ d. at.1 d ∙ ap (λ l. get_or l c.rank-at.result d) c.deref.ensures.0) c.in_ok-header.header c.in_ok-header.was c.total_len-start.result c.len.result
    (c.total_len-start.ensures.value ∙ ap (λ l. infos_long (take c.rank-at.result l)) c.deref-2.ensures.0) c.len.ensures.value c.in_ok-numbers.numbers c.in_ok-numbers.ensures.lookup.0.2
