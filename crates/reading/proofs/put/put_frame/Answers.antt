use Rattle.reading.proofs.Framing.{not_true, not_false, put_before, put_parts, put_rest}
use Rattle.reading.proofs.Giving.{gives_function, gives_object, gives_skip, gives_entry}
use Rattle.reading.proofs.Imaging.{image_section, image_word, image_told, told_target, told_table, told_branch}
use Rattle.reading.proofs.put.put_frame.Goals as goal

pub returns-then-not-r : goal.returns-then-not-r
returns-then-not-r c = let a = c.args in put_before _ a.r a.sections.now a.bytes.now a.outcomes.now a.functions.now a.objects.now a.skips.now a.entry.now c.requires.fit (not_true _ c.if-not-r.true)

pub returns-in-Section : goal.returns-in-Section
returns-in-Section c = let a = c.args in rw c.in-Section.is (put_parts _ a.r a.sections.now a.bytes.now a.outcomes.now a.functions.now a.objects.now a.skips.now a.entry.now c.requires.fit (not_false _ c.if-not-r.false) _ _ _ _ (image_section a.r a.sections.now a.bytes.now a.outcomes.now c.requires.fit.within_s c.requires.fit.within_b c.requires.fit.within_o _ _ _ _ _ c.add_row-c.ensures))

pub returns-in-Word : goal.returns-in-Word
returns-in-Word c = let a = c.args in rw c.in-Word.is (put_parts _ a.r a.sections.now a.bytes.now a.outcomes.now a.functions.now a.objects.now a.skips.now a.entry.now c.requires.fit (not_false _ c.if-not-r.false) _ _ _ _ (image_word a.r a.sections.now a.bytes.now a.outcomes.now c.requires.fit.within_s c.requires.fit.within_b c.requires.fit.within_o _ _ _ _ c.put_word.ensures))

pub returns-in-CodeWord : goal.returns-in-CodeWord
returns-in-CodeWord c = let a = c.args in rw c.in-CodeWord.is (put_parts _ a.r a.sections.now a.bytes.now a.outcomes.now a.functions.now a.objects.now a.skips.now a.entry.now c.requires.fit (not_false _ c.if-not-r.false) _ _ _ _ c.put_code_word.ensures)

pub returns-in-Target : goal.returns-in-Target
returns-in-Target c = let a = c.args in rw c.in-Target.is (put_parts _ a.r a.sections.now a.bytes.now a.outcomes.now a.functions.now a.objects.now a.skips.now a.entry.now c.requires.fit (not_false _ c.if-not-r.false) _ _ _ _ (image_told a.r a.sections.now a.bytes.now a.outcomes.now c.requires.fit.within_s c.requires.fit.within_b c.requires.fit.within_o _ _ _ (told_target a.r a.outcomes.now _ _ _ c.set_target.ensures)))

pub returns-in-Table : goal.returns-in-Table
returns-in-Table c = let a = c.args in rw c.in-Table.is (put_parts _ a.r a.sections.now a.bytes.now a.outcomes.now a.functions.now a.objects.now a.skips.now a.entry.now c.requires.fit (not_false _ c.if-not-r.false) _ _ _ _ (image_told a.r a.sections.now a.bytes.now a.outcomes.now c.requires.fit.within_s c.requires.fit.within_b c.requires.fit.within_o _ _ _ (told_table a.r a.outcomes.now _ _ _ _ c.set_table.ensures)))

pub returns-in-Branch : goal.returns-in-Branch
returns-in-Branch c = let a = c.args in rw c.in-Branch.is (put_parts _ a.r a.sections.now a.bytes.now a.outcomes.now a.functions.now a.objects.now a.skips.now a.entry.now c.requires.fit (not_false _ c.if-not-r.false) _ _ _ _ (image_told a.r a.sections.now a.bytes.now a.outcomes.now c.requires.fit.within_s c.requires.fit.within_b c.requires.fit.within_o _ _ _ (told_branch a.r a.outcomes.now _ _ _ _ _ c.add_branch.ensures)))

pub returns-in-Function : goal.returns-in-Function
returns-in-Function c = let a = c.args in rw c.in-Function.is (put_rest _ a.r a.sections.now a.bytes.now a.outcomes.now a.functions.now a.objects.now a.skips.now a.entry.now c.requires.fit (not_false _ c.if-not-r.false) _ _ _ _ _ (gives_function a.r a.functions.now a.objects.now a.skips.now a.entry.now c.requires.fit.within_f c.requires.fit.within_j c.requires.fit.within_k c.requires.fit.within_e _ _ _ _ _ c.add_row-c-in-Function.ensures))

pub returns-in-Object : goal.returns-in-Object
returns-in-Object c = let a = c.args in rw c.in-Object.is (put_rest _ a.r a.sections.now a.bytes.now a.outcomes.now a.functions.now a.objects.now a.skips.now a.entry.now c.requires.fit (not_false _ c.if-not-r.false) _ _ _ _ _ (gives_object a.r a.functions.now a.objects.now a.skips.now a.entry.now c.requires.fit.within_f c.requires.fit.within_j c.requires.fit.within_k c.requires.fit.within_e _ _ _ _ _ c.add_row-c-in-Object.ensures))

pub returns-in-Skip : goal.returns-in-Skip
returns-in-Skip c = let a = c.args in rw c.in-Skip.is (put_rest _ a.r a.sections.now a.bytes.now a.outcomes.now a.functions.now a.objects.now a.skips.now a.entry.now c.requires.fit (not_false _ c.if-not-r.false) _ _ _ _ _ (gives_skip a.r a.functions.now a.objects.now a.skips.now a.entry.now c.requires.fit.within_f c.requires.fit.within_j c.requires.fit.within_k c.requires.fit.within_e _ _ _ _ c.add_row-c-in-Skip.ensures))

pub returns-in-Entry : goal.returns-in-Entry
returns-in-Entry c = let a = c.args in rw c.in-Entry.is (put_rest _ a.r a.sections.now a.bytes.now a.outcomes.now a.functions.now a.objects.now a.skips.now a.entry.now c.requires.fit (not_false _ c.if-not-r.false) _ _ _ _ _ (gives_entry a.r a.functions.now a.objects.now a.skips.now a.entry.now c.requires.fit.within_f c.requires.fit.within_j c.requires.fit.within_k c.requires.fit.within_e _ _ _ c.add_row-c-in-Entry.ensures))

pub add_branch-requires : goal.add_branch-requires
add_branch-requires c = let h = rw c.in-Branch.is at c.requires.ranged in (c.requires.fit.within_o, h.0, h.1)
