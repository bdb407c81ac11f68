use Rattle.std.proofs.Common.{sym, ap, ◌∙◌}
use Rattle.lt_tree.specs.View.{qualifiers_of}
use Rattle.lt_tree.specs.Typing.Types.{qualified}
use Rattle.lt_tree.specs.Typing.TypeRows.{type_in, types_of_rows}
use Rattle.lt_table.specs.TableRows.{arrays}
use Rattle.lt_table.proofs.TableRows.{continues_through}
use Rattle.lt_table.proofs.TableFound.{then_ok}
use Rattle.lt_table.proofs.TableMade.{qualified_arrays}
use Rattle.lt_table.proofs.table.TypeTable.qualified.Goals as goal

pub returns-clause-made : goal.returns-clause-made
returns-clause-made c =
    then_ok c.wound.result
    (λ id made longer more.
    let second = continues_through (types_of_rows c.qualified_element.new.self) (types_of_rows c.wound.new.self) longer c.wound.ensures.grows more in
    let first = continues_through (types_of_rows c.args.self.now) (types_of_rows c.qualified_element.new.self) longer c.in_ok-made.ensures.grows second in
    made longer more ∙ ap (arrays c.in_ok-element.lengths.items) (c.in_ok-made.ensures.made longer second)
    ∙ sym (qualified_arrays (qualifiers_of c.args.quals) c.in_ok-element.lengths.items (type_in longer c.in_ok-element.element))
    ∙ ap (qualified (qualifiers_of c.args.quals)) (sym (c.in_ok-element.ensures.wound longer first)))
    c.wound.ensures.made
