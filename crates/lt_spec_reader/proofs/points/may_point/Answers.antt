use Rattle.std.proofs.Common.{map, ap, ◌∙◌}
use Rattle.lt_tree.specs.Typing.Types.{target_of}
use Rattle.lt_entry.specs.Conditions.{have_targets}
use Rattle.lt_entry.specs.Views.{target_view}
use Rattle.lt_input_names.specs.Views.{scope_of, type_at, named_at}
use Rattle.lt_spec_reader.proofs.SaidLaws.{may_point_is}
use Rattle.lt_spec_reader.proofs.points.may_point.Goals as goal

pub returns : goal.returns
returns c = λ before said.
    let names = c.args.names.now in
    may_point_is (scope_of names) before (map target_view c.args.line.now.targets.items) (named_at names c.args.part.now) c.in_ok-have.have c.is_said.result _
    (c.in_ok-have.ensures ∙ ap (λ l. have_targets (scope_of names) (map target_view l) (target_of (type_at names c.args.part.now.ty))) c.as_slice.ensures.value)
    c.is_said.ensures (said c.args.part.now.place)
