-- What is left of an outcome after its block has ended.
use Rattle.std.specs.Prelude.{ℕ}
use Rattle.rules.specs.Choice.{Answer, ok}
use Rattle.rules.specs.Image.{locate, Outcome, go_on, illegal, unknown, return, jump, jump_table, branches}
use Rattle.rules.specs.Step as rules

abbrev pub after_block : rules.Around → ℕ → Outcome → rules.Walk → Answer rules.Walk
after_block e k go_on w = ok w
after_block e k illegal w = ok w
after_block e k unknown w = rules.do_unknown e k w
after_block e k return w = ok w
after_block e k (jump a) w = rules.do_jump e k (locate e.image a) w
after_block e k (jump_table a n) w = rules.do_table e k (locate e.image a) n w
after_block e k (branches l) w = rules.do_branches e k l w
