use Rattle.std.proofs.Common.{cond, Some, None, sym, ◌∙◌, subst}
use Rattle.std.specs.Prelude.{option_to_list}
use Rattle.lt_tree.specs.Typing.EntityView.{object_of}
use Rattle.lt_entry.specs.Naming.{object_root}
use Rattle.lt_input_names.specs.Roots.{Puts}
use Rattle.lt_input_names.proofs.RootLaws.{puts_none}
use Rattle.lt_input_names.proofs.roots.put_linked.Goals as goal

pub returns-then-is_linked : goal.returns-then-is_linked
returns-then-is_linked c = λ types.
    subst (λ b. Puts types c.args.roots.now c.put_object.new.roots (option_to_list (cond b (Some (object_root (object_of types c.args.object.now))) None))) (sym c.if-is_linked.true ∙ c.is_linked.ensures) (c.in_ok-put_object.ensures types)

pub returns : goal.returns
returns c = λ types.
    subst (λ b. Puts types c.args.roots.now c.args.roots.now (option_to_list (cond b (Some (object_root (object_of types c.args.object.now))) None))) (sym c.if-is_linked.false ∙ c.is_linked.ensures) (puts_none types c.args.roots.now)
