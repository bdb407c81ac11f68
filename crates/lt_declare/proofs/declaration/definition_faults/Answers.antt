use Rattle.std.proofs.Common.{◌++◌, false, ap, ◌∙◌}
use Rattle.lt_tree.specs.Typing.Rules.{broken_if}
use Rattle.lt_env.specs.Going.{known_of}
use Rattle.std.proofs.Common.{◌||◌}
use Rattle.lt_tree.specs.declared.specifier.Storage.TheVariants as storage
use Rattle.lt_tree.specs.Typing.Rules.{function_disagrees}
use Rattle.lt_tree.specs.Typing.Specifying as specifying
use Rattle.lt_tree.specs.Typing.Declaring as declaring
use Rattle.lt_declare.specs.DeclaredViews.{built_of}
use Rattle.lt_declare.proofs.declaration.definition_faults.Goals as goal

pub returns : goal.returns
returns c = λ longer h.
    let known = known_of longer c.args.walker.now in
    let name = c.args.name.now in
    let it = built_of longer c.args.b.now in
    let class = c.args.class in
    let before = c.in_ok-append.ensures ∙ ap (λ f. f ++ c.in_ok-shape.shape) (c.in_ok-faults.ensures longer h) ∙ ap (λ f. declaring.declaration_faults class false name known it ++ f) (c.in_ok-shape.ensures longer h) in
    c.in_ok-broken_if.ensures ∙ ap (λ f. f ++ broken_if function_disagrees (c.is_class-is_typedef.result || c.has_body_already-has_body.result)) before
    ∙ ap (λ b. declaring.declaration_faults class false name known it ++ declaring.definition_shape_faults it ++ broken_if function_disagrees (b || c.has_body_already-has_body.result)) c.is_class-is_typedef.ensures
    ∙ ap (λ b. declaring.declaration_faults class false name known it ++ declaring.definition_shape_faults it ++ broken_if function_disagrees (specifying.is_class storage.Typedef class || b)) (c.has_body_already-has_body.ensures longer)
