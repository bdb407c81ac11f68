use Rattle.std.proofs.Common.{refl, sym, ap, ◌∙◌}
use Rattle.lt_tree.specs.Typing.Filling.{opened, is_character_array}
use Rattle.lt_table.proofs.TableFound.{then_ok}
use Rattle.lt_unit.specs.LeftParts.{runs_of, begins_with_characters}
use Rattle.lt_unit.proofs.CharactersInFront.{part_in_front}
use Rattle.lt_unit.proofs.initialiser.opening.take_characters.Goals as goal

pub returns-then-not-branch : goal.returns-then-not-branch
returns-then-not-branch c = λ longer h known k.
    let is = c.in_ok-opens_to_characters.ensures longer h known k in
    (ap (λ l. begins_with_characters (opened known is_character_array (runs_of longer l))) (sym c.deref.ensures.value) ∙ sym is ∙ c.if-not-branch.true, refl)

pub returns : goal.returns
returns c = then_ok c.take_part.result (λ part made longer h known k.
    let is = c.in_ok-opens_to_characters.ensures longer h known k in
    part_in_front longer (opened known is_character_array (runs_of longer c.args.left.now.items)) (runs_of longer c.args.left.now.items) part (runs_of longer c.take_part.new.left.items)
    (sym c.if-not-branch.false ∙ is ∙ ap (λ l. begins_with_characters (opened known is_character_array (runs_of longer l))) c.deref.ensures.value)
    (made longer h known k))
    c.take_part.ensures
