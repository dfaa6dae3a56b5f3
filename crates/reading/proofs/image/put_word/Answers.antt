use Rattle.reading.proofs.Imaging.{section_there, word_goes, word_stays}
use Rattle.reading.proofs.image.put_word.Goals as goal

pub add_word-c-requires : goal.add_word-c-requires
add_word-c-requires c = let a = c.args in (section_there a.kind a.w a.r a.sections.now a.bytes.now c.requires.fit.0 c.requires.fit.1 _ c.last_kind.ensures c.requires.going.1 c.if-last_kind-kind.true, c.requires.fit.0, c.requires.fit.1)

pub returns-then-last_kind-kind : goal.returns-then-last_kind-kind
returns-then-last_kind-kind c = let a = c.args in word_goes a.kind a.w a.r a.sections.now a.bytes.now c.requires.fit.0 c.requires.fit.1 _ c.last_kind.ensures c.if-last_kind-kind.true _ _ _ c.add_word-c.ensures

pub returns-else-last_kind-kind : goal.returns-else-last_kind-kind
returns-else-last_kind-kind c = let a = c.args in word_stays a.kind a.w a.r a.sections.now a.bytes.now c.requires.fit.0 c.requires.fit.1 _ c.last_kind.ensures c.if-last_kind-kind.false
