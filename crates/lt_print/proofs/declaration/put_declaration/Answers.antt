use Rattle.std.proofs.Common.{◌++◌, ◌&&◌, List, Bool, map, ap, ◌∙◌}
use Rattle.lt_tree.specs.declared.declaration.InitDeclarator.{InitDeclarator}
use Rattle.lt_tree.specs.Pieces.{text_of}
use Rattle.lt_tree.specs.UnitView.{init_declarator_of, declaration_of}
use Rattle.lt_tree.specs.Canon.{gap_if}
use Rattle.lt_tree.specs.CanonUnits.{init_declarators}
use Rattle.lt_print.specs.Statements.{declared_stand}
use Rattle.lt_print.proofs.Texts.{on_ok}
use Rattle.lt_print.proofs.Units.{declaration_text}
use Rattle.lt_print.proofs.declaration.put_declaration.Goals as goal

pub returns : goal.returns
returns c =
    on_ok c.put_sign.result
    (λ e. declaration_text c.args.line (declaration_of c.args.declaration.now) c.in_ok-before.before _ _ _ _ _ c.in_ok-before.ensures.text c.in_ok-before.ensures.stands
    (c.in_ok-put_gap_if.ensures ∙ ap (λ (b : Bool). c.put_specifiers.new.out.items ++ text_of (gap_if (c.in_ok-before.before && b))) (c.any_stands.ensures ∙ ap (λ (l : List InitDeclarator). declared_stand (map init_declarator_of l)) c.deref.ensures.value))
    (c.in_ok-put_init_declarators.ensures ∙ ap (λ (l : List InitDeclarator). c.put_gap_if.new.out.items ++ text_of (init_declarators c.args.line (map init_declarator_of l))) c.deref-2.ensures.value)
    e)
    c.put_sign.ensures
