use Rattle.std.proofs.Common.{◌≡◌, ◌++◌, length, sym, ap, ◌∙◌, arith}
use Rattle.std.proofs.lemmas.Bool.Decides.{nat_tests}
use Rattle.lt_table.proofs.TableFound.{then_ok}
use Rattle.lt_unit.specs.LeftParts.{runs_of, begins_with_characters}
use Rattle.lt_unit.proofs.LeftLists.{nothing, front_alone}
use Rattle.lt_unit.proofs.CharactersInFront.{opened_front}
use Rattle.lt_unit.proofs.initialiser.opening.opens_top_to_characters.Goals as goal

pub returns-then-is_empty : goal.returns-then-is_empty
returns-then-is_empty c = then_ok c.front_is_character_array.result (λ b made longer h known k.
    let none : length c.open.new.left.items ≡ 0 = grind (arith, nat_tests, c.open.new.left.ok.0) in
    made longer h
    ∙ ap (λ l. begins_with_characters (l ++ runs_of longer c.args.below.now)) (sym (nothing longer c.open.new.left.items none))
    ∙ opened_front longer known c.args.top.now c.args.below.now c.open.new.left.items c.new-opened.result.items c.new-opened.ensures.items (c.in_ok-open.ensures longer h known k))
    c.front_is_character_array.ensures

pub returns : goal.returns
returns c = then_ok c.front_is_character_array-else-is_empty.result (λ b made longer h known k.
    let some : length c.open.new.left.items ≡ 0 → ⊥ = grind (arith, nat_tests, c.open.new.left.ok.0) in
    made longer h
    ∙ ap (λ l. begins_with_characters (runs_of longer l)) c.deref.ensures.value
    ∙ sym (front_alone longer c.open.new.left.items (runs_of longer c.args.below.now) some)
    ∙ opened_front longer known c.args.top.now c.args.below.now c.open.new.left.items c.new-opened.result.items c.new-opened.ensures.items (c.in_ok-open.ensures longer h known k))
    c.front_is_character_array-else-is_empty.ensures
