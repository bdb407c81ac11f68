use Rattle.std.proofs.Common.{◌≡◌, sym, ap, ◌∙◌, ◌&&◌}
use Rattle.lt_tree.specs.View.{expression_of}
use Rattle.lt_tree.specs.Records.{expressions_in, specifiers_of, declarator_of, parameter_list_in}
use Rattle.lt_tree.specs.Purity.{is_pure, are_pure, is_pure_parameter_list, is_pure_specifiers, is_pure_declarator}
use Rattle.lt_tree.proofs.Pure.{pure_parameters, pure_sizeof, pure_comma, cast_goes, cast_stops}
use Rattle.lt_tree.proofs.purity.+purity.Goals as goal

pub are_pure_parameters-returns-in-Listed : goal.are_pure_parameters-returns-in-Listed
are_pure_parameters-returns-in-Listed t c =
    c.is_pure_list.ensures
    ∙ ap (λ xs. is_pure_parameter_list (parameter_list_in xs)) c.as_slice.ensures.value
    ∙ sym (pure_parameters _ c.in-Listed.list c.in-Listed.is)

pub is_pure-returns-in-SizeofType : goal.is_pure-returns-in-SizeofType
is_pure-returns-in-SizeofType t c =
    c.is_pure_type_name.ensures
    ∙ ap (λ name. is_pure_specifiers (specifiers_of name.specifiers) && is_pure_declarator (declarator_of name.declarator)) c.deref-in-SizeofType.ensures
    ∙ sym (pure_sizeof _ c.in-SizeofType.name c.in-SizeofType.is)

pub is_pure-returns-in-Comma : goal.is_pure-returns-in-Comma
is_pure-returns-in-Comma t c =
    c.are_pure.ensures ∙ ap (λ xs. are_pure (expressions_in xs)) c.as_slice.ensures.value ∙ sym (pure_comma _ c.in-Comma.parts c.in-Comma.is)

pub is_pure-returns-then-is_pure_type_name : goal.is_pure-returns-then-is_pure_type_name
is_pure-returns-then-is_pure_type_name t c =
    let names : c.is_pure_type_name-in-Cast.result ≡ is_pure_specifiers (specifiers_of c.deref-in-Cast.result.now.specifiers) && is_pure_declarator (declarator_of c.deref-in-Cast.result.now.declarator) = c.is_pure_type_name-in-Cast.ensures in
    cast_goes _ c.in-Cast.name c.in-Cast.operand c.in-Cast.is _ _ c.deref-in-Cast.ensures names c.if-is_pure_type_name.true
    (c.is_pure-then-is_pure_type_name.ensures ∙ ap (λ x. is_pure (expression_of x)) c.deref-then-is_pure_type_name.ensures)

pub is_pure-returns-else-is_pure_type_name : goal.is_pure-returns-else-is_pure_type_name
is_pure-returns-else-is_pure_type_name t c =
    let names : c.is_pure_type_name-in-Cast.result ≡ is_pure_specifiers (specifiers_of c.deref-in-Cast.result.now.specifiers) && is_pure_declarator (declarator_of c.deref-in-Cast.result.now.declarator) = c.is_pure_type_name-in-Cast.ensures in
    cast_stops _ c.in-Cast.name c.in-Cast.operand c.in-Cast.is _ _ c.deref-in-Cast.ensures names c.if-is_pure_type_name.false
