-- Programs are made of one another in steps.
use Rattle.std.proofs.Common.{◌≡◌, ℕ, List, map, Bool, true, sym, ap, ◌∙◌, subst}
use Rattle.lt_tree.specs.Typing.Programs.{Program}
use Rattle.lt_object_laws.specs.Renamed.{renumbered, function_with}
use Rattle.lt_object_laws.specs.Further.{HasFurther}
use Rattle.lt_mark_typing.specs.MarkedPrograms.{AddsBeside, AddsInSteps, no_step, IsMadeBeside}
use Rattle.lt_marked_runs.specs.Laws.{ProgramsAreMadeInSteps}
use Rattle.lt_marked_runs.proofs.Itself.{functions_itself}
use Rattle.lt_marked_runs.proofs.Twice.{functions_twice}
use Rattle.lt_marked_runs.proofs.Flags.{none_further, none_renumbered, no_further_ones, all_flags, all_renumbered, all_further}
use Rattle.lt_marked_runs.proofs.Objects.{steps_with}

made_of_itself : (new : ℕ → Bool) (p : Program) → IsMadeBeside new (none_further p.objects) p p
made_of_itself new p =
    subst (λ r. (HasFurther r (none_further p.objects) p.objects p.objects × AddsInSteps new (record p { functions = map (function_with r) p.functions }) p) → IsMadeBeside new (none_further p.objects) p p) (sym (none_renumbered p.objects))
    (λ it. record { objects = p.objects; further_ones = it.0; steps = it.1 })
    (no_further_ones p.objects, subst (λ fs. AddsInSteps new (record p { functions = fs }) p) (sym (functions_itself p.functions)) no_step)

pub made_in_steps : ProgramsAreMadeInSteps
made_in_steps = ((λ new p. (none_further p.objects, made_of_itself new p)), (λ new own further more p q t own_new made adds. (all_flags more further, made_on new own further more p q t own_new made adds)))
  where
    made_on : (new own : ℕ → Bool) (further more : List Bool) (p q t : Program) → ((id : ℕ) → own id ≡ true → new id ≡ true) → IsMadeBeside new further p q → AddsBeside own more q t → IsMadeBeside new (all_flags more further) p t
    made_on new own further more p q t own_new made adds =
        let it = steps_with (renumbered more) own more own_new adds.model adds.structs adds.objects adds.functions made.steps in
        record {
          objects = it.0;
          further_ones = subst (λ r. HasFurther r (all_flags more further) p.objects it.0) (all_renumbered more further) (all_further (renumbered further) (renumbered more) it.1 made.further_ones);
          steps = subst (λ fs. AddsInSteps new (record p { objects = it.0; functions = fs }) t)
              (sym (functions_twice (renumbered further) (renumbered more) p.functions) ∙ ap (λ r. map (function_with r) p.functions) (all_renumbered more further)) it.2;
        }
