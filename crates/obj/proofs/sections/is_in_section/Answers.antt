use borrow.Author.Rules.{rules}
use borrow.Author.Tests.{tests}
use mathlib.Core.Path.{refl}
use Rattle.obj.proofs.CodeSection.{in_section, in_no_section}
use Rattle.obj.proofs.sections.is_in_section.Goals as goal

-- `obj::sections::is_in_section` is that its section of `rules` contains it. Assumes nothing.
pub returns-in_default : goal.returns-in_default
returns-in_default c = in_no_section c.args.sections.now c.requires.whole c.as_chunks.result.0.now c.as_chunks.ensures.front c.args.key c.index_of.result c.index_of.ensures (search (rules, tests))

pub returns : goal.returns
returns c = in_section c.args.sections.now c.requires.whole c.as_chunks.result.0.now c.as_chunks.ensures.front c.args.key c.index_of.result c.index_of.ensures (search (rules, tests)) c.from.result (search rules) _ refl c.contains.result c.contains.ensures
