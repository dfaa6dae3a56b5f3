use Rattle.std.proofs.Common.{sym, ap, ◌∙◌, ℕ, eqb}
use borrow.Author.Tests.{lt-ltb, le-ltb, eqb-true}
use Rattle.rules.specs.Words.{nop}
use Rattle.rules.specs.Analyze.{at_nop}
use Rattle.obj_info.specs.Info.{image_of}
use Rattle.walks.proofs.Options.{and_first, and_second}
use Rattle.passes.proofs.Images.{sound_of, word_there, no_nop, nop_low}
use Rattle.passes.proofs.trailing.at_nop.Goals as goal

pub returns-then-addr-unwrap_or-clause-is : goal.returns-then-addr-unwrap_or-clause-is
unfolding at_nop
returns-then-addr-unwrap_or-clause-is c = λ es.
    let h = le-ltb _ _ (rw c.unwrap_or.ensures at c.if-addr-unwrap_or.true) in sym h ∙ and_first _ _ h

pub returns-in-Some-clause-is : goal.returns-in-Some-clause-is
unfolding at_nop
returns-in-Some-clause-is c = λ es.
    ap (λ (w : ℕ). eqb w nop) (sym (word_there (image_of c.args.around.now.obj) _ _ c.address_of.ensures _ c.in-Some.ensures.value)) ∙
    and_second _ _ (lt-ltb _ _ (rw c.unwrap_or.ensures at c.if-addr-unwrap_or.false))

pub returns-in-Some-clause-low : goal.returns-in-Some-clause-low
returns-in-Some-clause-low c = λ h.
    nop_low _ c.args.addr (sound_of c.args.around.now.obj) (word_there (image_of c.args.around.now.obj) _ _ c.address_of.ensures _ c.in-Some.ensures.value ∙ eqb-true _ _ h)

pub returns-in-None-clause-is : goal.returns-in-None-clause-is
unfolding at_nop
returns-in-None-clause-is c = λ es.
    let n = no_nop (image_of c.args.around.now.obj) _ _ c.address_of.ensures c.in-None.ensures.value in
    sym n ∙ and_second _ _ (lt-ltb _ _ (rw c.unwrap_or.ensures at c.if-addr-unwrap_or.false))
