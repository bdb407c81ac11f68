use Rattle.std.proofs.Common.{ap, sym, ◌∙◌}
use Rattle.std.specs.Prelude.{option_map, unwrap_or}
use Rattle.lt_tree.specs.Typing.Types.{Void}
use Rattle.lt_tree.specs.Typing.TypeRows.{type_in}
use Rattle.lt_tree.specs.Typing.Entities as entities
use Rattle.lt_env.specs.Going.{known_of}
use Rattle.lt_unit.proofs.Changed.{object_type}
use Rattle.lt_env.proofs.Judgements.{judged, widens_none}
use Rattle.lt_unit.proofs.declared.type_of_object.Goals as goal

pub returns-in-Some : goal.returns-in-Some
returns-in-Some c =
    judged {f = λ types known. entities.type_of_object known c.args.number} widens_none
    (λ types more. sym (ap (λ a. unwrap_or a Void) (object_type types c.args.walker.now.objects c.args.number _ c.declared_type.ensures ∙ ap (option_map (type_in types)) c.in-Some.is)))

pub returns-in_ok-void-in-None : goal.returns-in_ok-void-in-None
returns-in_ok-void-in-None c =
    judged {f = λ types known. entities.type_of_object known c.args.number} c.void.ensures.widens
    (λ types more.
    c.in_ok-void-in-None.ensures.made types more
    ∙ sym (ap (λ a. unwrap_or a Void) (object_type types c.args.walker.now.objects c.args.number _ c.declared_type.ensures ∙ ap (option_map (type_in types)) c.in-None.is)))
