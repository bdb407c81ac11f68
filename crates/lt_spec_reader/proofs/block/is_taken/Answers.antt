use Rattle.std.specs.Prelude.{is_some}
use Rattle.lt_token.specs.Words.{is_no_identifier}
use Rattle.lt_entry.specs.Naming.{roots, root_among}
use Rattle.lt_input_names.specs.Views.{scope_of}
use Rattle.lt_spec_reader.proofs.Loops.{or_both}
use Rattle.lt_spec_reader.proofs.block.is_taken.Goals as goal

pub returns : goal.returns
returns c =
    or_both c.is_no_identifier.result c.has.result (is_no_identifier c.args.name.now) (is_some (root_among (roots (scope_of c.args.names.now)) c.args.name.now)) c.is_no_identifier.ensures c.has.ensures
