use Rattle.std.proofs.Common.{◌++◌, Option, sym, ap, ◌∙◌}
use Rattle.std.specs.Prelude.{option_to_list}
use Rattle.lt_model.specs.declared.input.Need.{Need}
use Rattle.lt_entry.specs.declared.specification_line.Line.{Line}
use Rattle.lt_entry.specs.Meaning.{need_said}
use Rattle.lt_entry.specs.LineViews.{line_view}
use Rattle.lt_input_names.specs.Views.{scope_of}
use Rattle.lt_spec_reader.proofs.needs.put_need.Goals as goal

pub returns-in_ok-push-in-Require : goal.returns-in_ok-push-in-Require
returns-in_ok-push-in-Require c =
    let scope = scope_of c.args.names.now in
    c.in_ok-push-in-Require.ensures.items
    ∙ ap (λ (o : Option Need). c.args.needs.now.items ++ option_to_list o) (c.in_ok-need_of-in-Require.ensures ∙ ap (λ (l : Line). need_said scope (line_view l)) (sym c.in-Require.is))
