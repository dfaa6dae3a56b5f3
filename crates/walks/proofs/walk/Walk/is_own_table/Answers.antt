use Rattle.std.proofs.Common.{[], sym, ap, ◌∙◌}
use Rattle.std.proofs.lemmas.Bool.{false≢true}
use Rattle.std.specs.Prelude.{not}
use Rattle.rules.specs.Step.{is_own_table, table_inside}
use Rattle.walks.proofs.Options.{and_first, and_second}
use Rattle.walks.proofs.Tabled.{some_of}
use Rattle.walks.proofs.walk.Walk.is_own_table.Goals as goal

pub returns-then-table_inside : goal.returns-then-table_inside
unfolding is_own_table table_inside
returns-then-table_inside c = record {
  own = λ es knows. ap not (c.any_known.ensures es knows) ∙ and_second _ _ (sym (c.table_inside.ensures es) ∙ c.if-table_inside.true);
  some = λ h. some_of _ _ (sym (c.table_inside.ensures []) ∙ c.if-table_inside.true);
}

pub returns-else-table_inside : goal.returns-else-table_inside
unfolding is_own_table
returns-else-table_inside c = record {
  own = λ es knows. c.table_inside.ensures es ∙ and_first _ _ (sym (c.table_inside.ensures es) ∙ c.if-table_inside.false);
  some = λ h. absurd (false≢true (sym c.if-table_inside.false ∙ h));
}
