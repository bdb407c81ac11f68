use Rattle.std.proofs.Common.{sym, ap, ◌∙◌}
use Rattle.lt_table.specs.TableKinds.{kind_is_function}
use Rattle.lt_tree.specs.Typing.TypeRows.{type_in, types_of_rows}
use Rattle.lt_table.proofs.TableRows.{continues_through}
use Rattle.lt_table.proofs.TableFound.{then_ok}
use Rattle.lt_table.proofs.TableMade.{adjusted_function}
use Rattle.lt_table.proofs.table.TypeTable.adjusted.Goals as goal

pub returns-in-Some-Function-clause-made : goal.returns-in-Some-Function-clause-made
returns-in-Some-Function-clause-made c =
    then_ok c.pointer-in-Some-Function.result
    (λ id made longer more.
    let past = continues_through (types_of_rows c.args.self.now) _ longer c.pointer-in-Some-Function.ensures.grows more in
    made longer more ∙ sym (adjusted_function (type_in longer c.args.t) ((c.in-Some-Function.ensures.kind longer past).function ∙ ap kind_is_function c.in-Some-Function.field-0-is)))
    c.pointer-in-Some-Function.ensures.made
