use Rattle.std.proofs.Common.{sym, ap, ◌∙◌, subst}
use Rattle.std.specs.Prelude.{option_map, option_to_list}
use Rattle.lt_tree.specs.Typing.EntityView.{object_of}
use Rattle.lt_entry.specs.Naming.{object_root}
use Rattle.lt_input_names.specs.Roots.{Puts}
use Rattle.lt_input_names.proofs.RootLaws.{puts_none}
use Rattle.lt_input_names.proofs.roots.put_numbered.Goals as goal

pub returns-in-None : goal.returns-in-None
returns-in-None c = λ types.
    subst (λ o. Puts types c.args.roots.now c.args.roots.now (option_to_list (option_map (λ o. object_root (object_of types o)) o))) (sym (ap (option_map (λ o. o.now)) c.in-None.is) ∙ c.object_at.ensures) (puts_none types c.args.roots.now)

pub returns-in_ok-put_object-in-Some : goal.returns-in_ok-put_object-in-Some
returns-in_ok-put_object-in-Some c = λ types.
    subst (λ o. Puts types c.args.roots.now c.put_object.new.roots (option_to_list (option_map (λ o. object_root (object_of types o)) o))) (sym (ap (option_map (λ o. o.now)) c.in-Some.is) ∙ c.object_at.ensures) (c.in_ok-put_object-in-Some.ensures types)
