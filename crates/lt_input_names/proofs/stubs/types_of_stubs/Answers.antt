use Rattle.std.proofs.Common.{map, ap, ◌∙◌}
use Rattle.lt_entry.specs.Conditions.{stub_among}
use Rattle.lt_input_names.specs.Stubs.{stub_view}
use Rattle.lt_input_names.proofs.Lists.{ok_map}
use Rattle.lt_input_names.proofs.stubs.types_of_stubs.Goals as goal

pub returns : goal.returns
returns c = ok_map _ _ c.first_types.result (λ types h name. h name ∙ ap (λ l. stub_among name (map stub_view l)) c.as_slice.ensures.value ∙ ap (stub_among name) c.in_ok-stubs.ensures) c.first_types.ensures
