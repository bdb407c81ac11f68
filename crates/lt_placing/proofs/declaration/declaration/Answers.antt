use Rattle.std.proofs.Common.{refl, sym, ap, length-append}
use Rattle.std.specs.Prelude.{map}
use Rattle.lt_tree.specs.Records.{specifiers_of}
use Rattle.lt_tree.specs.UnitView.{init_declarator_of}
use Rattle.lt_tree.specs.Nodes.{in_declaration}
use Rattle.lt_objectives.specs.Marked.{declarators_with_marks, declaration_with_marks}
use Rattle.lt_placing.proofs.Sequences.{pair_of_parts}
use Rattle.lt_placing.proofs.declaration.declaration.Goals as goal

pub returns : goal.returns
returns c =
    let d = c.args.d.now in
    pair_of_parts declaration_with_marks in_declaration (λ x y. record { specifiers = x; declarators = y }) _ _ (specifiers_of d.specifiers) _ (map init_declarator_of c.as_slice.result.now) _
    (λ new k. specifiers_of d.specifiers) (λ new k. declarators_with_marks new k (map init_declarator_of c.as_slice.result.now)) _ _
    (ap (λ xs. record { specifiers = specifiers_of d.specifiers; declarators = map init_declarator_of xs }) (sym c.as_slice.ensures.value)) refl (λ new k. refl) (length-append _ _)
    c.in_ok-specifiers.ensures c.in_ok-declarators.ensures
