-- Which words are of a kind.
use Rattle.std.specs.Prelude.{ℕ, Bool}
use Rattle.rules.specs.Words as words
use Rattle.words.specs.declared.kind.Kind.{Kind}
use Rattle.words.specs.declared.kind.Kind.TheVariants.{Blr, Nop, Rfi, ConditionalBlr, Mflr, Mtlr, Stwu, Stw, Addi, Or, Lwz, Terminator}

abbrev pub is_kind : Kind → ℕ → Bool
is_kind Blr w = words.is_blr w
is_kind Nop w = words.is_nop w
is_kind Rfi w = words.is_rfi w
is_kind ConditionalBlr w = words.is_conditional_blr w
is_kind Mflr w = words.is_mflr w
is_kind Mtlr w = words.is_mtlr w
is_kind Stwu w = words.is_stwu w
is_kind Stw w = words.is_stw w
is_kind Addi w = words.is_addi w
is_kind Or w = words.is_or w
is_kind Lwz w = words.is_lwz w
is_kind Terminator w = words.is_function_terminator w
