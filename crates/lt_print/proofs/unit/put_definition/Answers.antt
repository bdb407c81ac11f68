use Rattle.std.proofs.Common.{◌++◌, List, ap, ◌∙◌}
use Rattle.lt_tree.specs.declared.statement.Item.{Item}
use Rattle.lt_tree.specs.Pieces.{text_of}
use Rattle.lt_tree.specs.Records.{specifiers_of, declarator_of}
use Rattle.lt_tree.specs.UnitView.{items_in}
use Rattle.lt_tree.specs.Canon.{Pieces, apart, specifiers, declarator}
use Rattle.lt_tree.specs.CanonUnits.{item_lines}
use Rattle.lt_print.proofs.Texts.{on_ok}
use Rattle.lt_print.proofs.Words.{joined}
use Rattle.lt_print.proofs.Types.{apart_text}
use Rattle.lt_print.proofs.Units.{definition_shape}
use Rattle.lt_print.proofs.unit.put_definition.Goals as goal

pub returns : goal.returns
returns c =
    on_ok c.end_line.result
    (λ e. joined _ _ _ _ _ (apart_text _ _ c.in_ok-before.before _ _ _ c.in_ok-before.ensures.stands c.in_ok-before.ensures.text c.in_ok-put_declared.ensures)
    (joined _ _ _ _ _ c.in_ok-open_braces.ensures
    (joined _ _ _ _ _ (c.in_ok-put_items.ensures ∙ ap (λ (l : List Item). c.open_braces.new.out.items ++ text_of (item_lines 1 (items_in l))) c.deref.ensures.value) (joined _ _ _ _ _ c.in_ok-put_sign.ensures e)))
    ∙ ap (λ (x : Pieces). c.args.out.now.items ++ text_of x)
    (definition_shape (apart (specifiers 0 (specifiers_of c.args.definition.now.specifiers)) (declarator 0 (declarator_of c.args.definition.now.declarator))) (item_lines 1 (items_in c.args.definition.now.body.items))))
    c.end_line.ensures
