use Rattle.std.proofs.Common.{sym, ◌∙◌}
use Rattle.lt_tree.specs.Typing.Types.{is_void}
use Rattle.lt_tree.specs.Typing.TypeRows.{type_in}
use Rattle.lt_table.proofs.TablePointers.{then_some, points_some, points_none}
use Rattle.lt_table.proofs.table.TypeTable.is_pointer_to_void.Goals as goal

pub returns-in-Some-clause-value : goal.returns-in-Some-clause-value
returns-in-Some-clause-value c =
    then_some c.is_void.result
    (λ b known longer more.
    known longer more ∙ sym (points_some longer is_void (type_in longer c.args.t) c.in_ok-target.field-0 c.in-Some.target (c.in_ok-target.ensures.value longer more) c.in-Some.is))
    c.is_void.ensures.value

pub returns-in-None-clause-value : goal.returns-in-None-clause-value
returns-in-None-clause-value c = λ longer more.
    sym (points_none longer is_void (type_in longer c.args.t) c.in_ok-target.field-0 (c.in_ok-target.ensures.value longer more) c.in-None.is)
