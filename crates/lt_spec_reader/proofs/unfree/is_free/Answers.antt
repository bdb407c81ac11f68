use Rattle.std.proofs.Common.{ap, ◌∙◌}
use Rattle.std.specs.Prelude.{is_some, ◌++◌, map}
use Rattle.std.specs.List.{list_any}
use Rattle.lt_entry.specs.Naming.{block_root, root_among}
use Rattle.lt_entry.specs.Conditions.{is_ranged_by}
use Rattle.lt_input_names.specs.Stubs.{has_name}
use Rattle.lt_input_names.specs.Views.{scope_of}
use Rattle.lt_spec_reader.specs.Frees.{has_place}
use Rattle.lt_spec_reader.proofs.Loops.{or_both}
use Rattle.lt_spec_reader.proofs.MapLaws.{at}
use Rattle.lt_spec_reader.proofs.unfree.is_free.Goals as goal

pub returns : goal.returns
returns c = λ names rows are.
    let place = c.args.part.now.place in
    let scope = scope_of names in
    or_both c.contains.result c.contains-2.result (is_some (root_among (scope.parameters ++ map block_root scope.blocks) place.root)) (list_any (λ row. is_ranged_by scope place row.words) rows)
    (c.contains.ensures ∙ ap (has_name c.args.free.now.own) c.as_slice-name.ensures ∙ are.own place.root)
    (c.contains-2.ensures ∙ ap (λ r. has_place c.args.free.now.ranged (at r place.offset)) c.as_slice-name.ensures ∙ are.ranged place)
