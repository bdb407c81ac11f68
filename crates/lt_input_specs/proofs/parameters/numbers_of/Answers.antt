use Rattle.std.proofs.Common.{None, Some, sym, ap, ◌∙◌}
use Rattle.std.specs.Prelude.{option_map}
use Rattle.lt_input_specs.specs.Defaults.{roots_at}
use Rattle.lt_input_specs.proofs.EntryLaws.{no_parameters, some_parameters}
use Rattle.lt_input_specs.proofs.parameters.numbers_of.Goals as goal

pub returns-in-None : goal.returns-in-None
returns-in-None c = sym (no_parameters c.args.program.now c.args.number (sym c.function_at.ensures ∙ ap (option_map (λ f. f.now)) c.in-None.is))

pub returns-in-Some : goal.returns-in-Some
returns-in-Some c =
    ap (roots_at c.args.program.now) c.as_slice.ensures.value
    ∙ sym (some_parameters c.args.program.now c.args.number c.in-Some.function.now (sym c.function_at.ensures ∙ ap (option_map (λ f. f.now)) c.in-Some.is))
