use Rattle.std.proofs.Common.{sym, ap, ◌∙◌}
use Rattle.lt_tree.specs.Typing.Filling.{opened, is_character_array}
use Rattle.lt_table.proofs.TableFound.{then_ok}
use Rattle.lt_unit.specs.LeftParts.{begins_with_characters}
use Rattle.lt_unit.proofs.LeftLists.{one_more}
use Rattle.lt_unit.proofs.initialiser.opening.opens_to_characters.Goals as goal

pub returns-in-Some : goal.returns-in-Some
returns-in-Some c = then_ok c.opens_top_to_characters.result (λ b made longer h known k.
    made longer h known k
    ∙ ap (λ l. begins_with_characters (opened known is_character_array l)) (sym (one_more longer c.in-Some.below.now c.args.left.now c.in-Some.top.now c.in-Some.ensures.cases.0)))
    c.opens_top_to_characters.ensures
