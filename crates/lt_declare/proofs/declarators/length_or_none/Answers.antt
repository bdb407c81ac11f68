use Rattle.std.proofs.Common.{option_map, sym, ap, ◌∙◌}
use Rattle.lt_env.specs.Views.{typed_in, typed_of}
use Rattle.lt_env.proofs.Judgements.{judged, widens_none}
use Rattle.lt_tree.specs.Typing.Declarators as declarators
use Rattle.lt_declare.proofs.DeclaratorParts.{length_in_is}
use Rattle.lt_declare.proofs.declarators.length_or_none.Goals as goal

pub returns-in_ok-z-in-Some : goal.returns-in_ok-z-in-Some
returns-in_ok-z-in-Some c =
    let is_outermost = c.args.is_outermost in
    judged widens_none
    (λ types h. c.length_given.ensures ∙ ap (option_map declarators.length_from) (c.in_ok-z-in-Some.ensures types h) ∙ length_in_is (typed_of types c.deref.result.now)
    ∙ ap (λ x. declarators.length_in (typed_of types x)) c.deref.ensures ∙ ap (λ x. declarators.length_or_none is_outermost (option_map (typed_in types) x)) (sym c.in-Some.is))
