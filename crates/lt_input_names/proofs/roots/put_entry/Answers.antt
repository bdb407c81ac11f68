use Rattle.std.proofs.Common.{None, Some, sym, ap, ◌∙◌, subst, slice_get}
use Rattle.std.specs.Prelude.{option_map}
use Rattle.std.specs.List.{filter_map}
use Rattle.lt_tree.specs.Typing.EntityView.{object_of}
use Rattle.lt_entry.specs.Naming.{object_root}
use Rattle.lt_input_names.specs.Blocks.{program_types}
use Rattle.lt_input_names.specs.Roots.{Puts}
use Rattle.lt_input_names.proofs.RootLaws.{puts_none, parameters_law}
use Rattle.lt_input_names.proofs.roots.put_entry.Goals as goal

pub returns-in-None : goal.returns-in-None
returns-in-None c =
    let program = c.args.program.now in
    subst (Puts (program_types program) c.args.roots.now c.args.roots.now) (sym (parameters_law program c.args.entry None (sym (ap (option_map (λ f. f.now)) c.in-None.is) ∙ c.function_at.ensures))) (puts_none (program_types program) c.args.roots.now)

pub returns-in_ok-put_parameters-in-Some : goal.returns-in_ok-put_parameters-in-Some
returns-in_ok-put_parameters-in-Some c =
    let program = c.args.program.now in
    subst (Puts (program_types program) c.args.roots.now c.put_parameters.new.roots)
    (ap (filter_map (λ n. option_map (λ o. object_root (object_of (program_types program) o)) (slice_get program.objects.items n))) c.deref.ensures.value
    ∙ sym (parameters_law program c.args.entry (Some c.in-Some.function.now) (sym (ap (option_map (λ f. f.now)) c.in-Some.is) ∙ c.function_at.ensures)))
    (c.in_ok-put_parameters-in-Some.ensures (program_types program))
