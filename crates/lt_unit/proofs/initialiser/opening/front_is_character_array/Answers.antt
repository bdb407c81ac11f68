use Rattle.std.proofs.Common.{sym, ap, ◌∙◌}
use Rattle.lt_table.proofs.TableFound.{then_ok}
use Rattle.lt_unit.specs.LeftParts.{begins_with_characters}
use Rattle.lt_unit.proofs.LeftLists.{one_more}
use Rattle.lt_unit.proofs.initialiser.opening.front_is_character_array.Goals as goal

pub returns-in-Some : goal.returns-in-Some
returns-in-Some c = then_ok c.is_character_array.result (λ b made longer h.
    made longer h ∙ ap begins_with_characters (sym (one_more longer c.in-Some.field-0-1.now c.args.left.now c.in-Some.front.now c.in-Some.ensures.cases.0)))
    c.is_character_array.ensures
