-- The lists that are lent for an image that was read.
use Rattle.std.specs.Prelude.{◌≡◌, ℕ, List, take, drop}
use Rattle.lines.specs.declared.image.Image.{Image}
use Rattle.lines.specs.declared.image.Reading.{Reading}
use Rattle.lines.specs.declared.image.Span.{Span}

-- the elements of a span
abbrev pub within : Span → List ℕ → List ℕ
within s items = drop s.from (take s.to items)

-- each list is what its lines put among the numbers ns, or the bytes bs
pub record Lends (r : Reading) (ns bs : List ℕ) (i : Image) : Type 0 where
  pub sections : i.sections.now ≡ within r.spans.sections ns
  pub bytes : i.bytes.now ≡ take r.bytes bs
  pub outcomes : i.outcomes.now ≡ within r.spans.outcomes ns
  pub functions : i.functions.now ≡ within r.spans.functions ns
  pub objects : i.objects.now ≡ within r.spans.objects ns
  pub skips : i.skips.now ≡ within r.spans.skips ns
  pub entry : i.entry.now ≡ within r.spans.entry ns
  pub known : i.known.now ≡ within r.spans.known ns
  pub walks : i.walks.now ≡ within r.spans.walks ns
