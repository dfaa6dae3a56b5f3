use Rattle.tail_calls.proofs.Tests.{not_one, is_apart_one, no_end, is_referred_one, is_behind_prologue, trial_decides, none_known, some_known}
use Rattle.tail_calls.proofs.before.check_before.Goals as goal

pub returns-then-is_own : goal.returns-then-is_own
returns-then-is_own c = λ es knows. not_one _ _ _ _ (c.is_own.ensures es) c.if-is_own.true

pub returns-then-is_separate : goal.returns-then-is_separate
returns-then-is_separate c = λ es knows. is_apart_one _ _ _ _ (c.is_own.ensures es) c.if-is_own.false _ (c.is_separate.ensures es) c.if-is_separate.true

pub returns-then-is_none : goal.returns-then-is_none
returns-then-is_none c = λ es knows.
    no_end _ _ _ _ (c.is_own.ensures es) c.if-is_own.false _ (c.is_separate.ensures es) c.if-is_separate.false (none_known c.args.around.now.end _ c.is_none.ensures c.if-is_none.true)

pub returns-then-is_referred : goal.returns-then-is_referred
returns-then-is_referred c = λ es knows.
    is_referred_one _ _ _ _ (c.is_own.ensures es) c.if-is_own.false _ (c.is_separate.ensures es) c.if-is_separate.false (some_known c.args.around.now.end c.args.around.now.end_is_address _ c.is_none.ensures c.if-is_none.false) _ (c.is_referred.ensures es knows) c.if-is_referred.true

pub returns-then-prologue_before : goal.returns-then-prologue_before
returns-then-prologue_before c = λ es knows.
    is_behind_prologue _ _ _ _ (c.is_own.ensures es) c.if-is_own.false _ (c.is_separate.ensures es) c.if-is_separate.false (some_known c.args.around.now.end c.args.around.now.end_is_address _ c.is_none.ensures c.if-is_none.false) _ (c.is_referred.ensures es knows) c.if-is_referred.false _ (c.prologue_before.ensures es) c.if-prologue_before.true

pub returns : goal.returns
returns c = λ es knows.
    trial_decides _ _ _ _ (c.is_own.ensures es) c.if-is_own.false _ (c.is_separate.ensures es) c.if-is_separate.false (some_known c.args.around.now.end c.args.around.now.end_is_address _ c.is_none.ensures c.if-is_none.false) _ (c.is_referred.ensures es knows) c.if-is_referred.false _ (c.prologue_before.ensures es) c.if-prologue_before.false
