use Rattle.std.proofs.Common.{sym, ap, ◌∙◌}
use Rattle.std.specs.Prelude.{is_some}
use Rattle.lt_entry.specs.Views.{target_view}
use Rattle.lt_spec_reader.proofs.Bools.{some_mapped}
use Rattle.lt_spec_reader.proofs.pointed.is_target.Goals as goal

pub returns : goal.returns
returns c = c.is_some.ensures ∙ sym (some_mapped target_view c.in_ok-target_of.field-0) ∙ ap is_some c.in_ok-target_of.ensures
