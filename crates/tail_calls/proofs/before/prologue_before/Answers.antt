use Rattle.std.proofs.Common.{◌≡◌, ℕ, List, ◌-◌, ◌*◌, ◌/◌, ap, ◌∙◌}
use Rattle.rules.specs.Bytes.{words_in}
use Rattle.rules.specs.Address.{address_of}
use Rattle.rules.specs.Image.{words_from}
use Rattle.rules.specs.Sequences.{prologue_among}
use Rattle.rules.specs.TailCall.{prologue_before}
use Rattle.obj_info.specs.Info.{image_of}
use Rattle.tail_calls.proofs.Among.{to_end, from_start}
use Rattle.tail_calls.proofs.before.prologue_before.Goals as goal

pub returns : goal.returns
unfolding prologue_before
returns c = λ es.
    let a = c.args.around.now in
    let n = c.saturating_sub-count.result / 4 in
    let bytes = c.code_bytes-bytes.result.now in
    let from : c.saturating_sub.result / 4 * 4 ≡ (address_of a.start - c.code.result.base) / 4 * 4 = ap (λ (x : ℕ). x / 4 * 4) (c.saturating_sub.ensures ∙ ap (λ (x : ℕ). x - c.code.result.base) c.address_of.ensures) in
    c.prologue_among.ensures ∙
    ap (λ (l : List ℕ). prologue_among n (words_in l)) (to_end c.min.result bytes) ∙
    ap (prologue_among n) (from_start (image_of a.obj) bytes a.start c.code.result.base _ c.min.result c.code_bytes-bytes.ensures.words c.code.ensures.is.base from c.min.ensures) ∙
    ap (λ (x : ℕ). prologue_among (x / 4) (words_from (image_of a.obj) a.start)) c.saturating_sub-count.ensures
