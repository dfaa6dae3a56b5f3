use Rattle.std.proofs.Common.{arith}
use Rattle.rules.specs.Choice.{if}
use Rattle.reading.specs.Frames.{tagged}
use Rattle.reading.specs.Kinds.{of_digits}
use Rattle.reading.proofs.Cases.{tag_is, tag_section, tag_word, tag_code_word, tag_branch, tag_function, tag_object, tag_not}
use Rattle.reading.proofs.line.tagged.Goals as goal

pub returns-in-1 : goal.returns-in-1
returns-in-1 c = let a = c.args in tag_section a.line.now _ a.tag c.in-1.is c.of_digits.ensures

pub returns-in-2 : goal.returns-in-2
returns-in-2 c = let a = c.args in tag_word a.line.now _ a.tag c.in-2.is c.if-line-eq10.true c.of_digits-in-2.ensures

pub returns-in-2-2 : goal.returns-in-2-2
returns-in-2-2 c = let a = c.args in tag_code_word a.line.now _ a.tag c.in-2.is c.if-line-eq10.false c.of_digits-in-2-2.ensures

pub returns-in-3 : goal.returns-in-3
unfolding tagged of_digits if
returns-in-3 c = let a = c.args in tag_is a.line.now _ a.tag 3 c.in-3.is c.of_digits-in-3.ensures

pub returns-in-4 : goal.returns-in-4
unfolding tagged of_digits if
returns-in-4 c = let a = c.args in tag_is a.line.now _ a.tag 4 c.in-4.is c.of_digits-in-4.ensures

pub returns-in-5 : goal.returns-in-5
returns-in-5 c = let a = c.args in tag_branch a.line.now _ a.tag c.in-5.is c.of_digits-in-5.ensures

pub returns-in-6 : goal.returns-in-6
returns-in-6 c = let a = c.args in tag_function a.line.now _ a.tag c.in-6.is c.of_digits-in-6.ensures

pub returns-in-7 : goal.returns-in-7
returns-in-7 c = let a = c.args in tag_object a.line.now _ a.tag c.in-7.is c.of_digits-in-7.ensures

pub returns-in-8 : goal.returns-in-8
unfolding tagged of_digits if
returns-in-8 c = let a = c.args in tag_is a.line.now _ a.tag 8 c.in-8.is c.of_digits-in-8.ensures

pub returns-in-9 : goal.returns-in-9
unfolding tagged of_digits if
returns-in-9 c = let a = c.args in tag_is a.line.now _ a.tag 9 c.in-9.is c.of_digits-in-9.ensures

pub returns-in_default : goal.returns-in_default
returns-in_default c = tag_not c.args.line.now c.args.tag (omega arith) (omega arith) (omega arith) (omega arith) (omega arith) (omega arith) (omega arith) (omega arith) (omega arith)
