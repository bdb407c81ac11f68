use Rattle.std.proofs.Common.{Bor, map, ap, ◌∙◌}
use Rattle.std.specs.Prelude.{◌||◌}
use Rattle.std.specs.List.{list_any}
use Rattle.std.specs.Str.{bytes_eq}
use Rattle.lt_tree.specs.declared.typed.entity.Object.{Object}
use Rattle.lt_entry.specs.LineViews.{row_view}
use Rattle.lt_input_names.specs.declared.block.Block.{Block}
use Rattle.lt_input_names.specs.declared.block.LineBlock.{LineBlock}
use Rattle.lt_spec_reader.proofs.FaultLaws.{own_has}
use Rattle.lt_spec_reader.proofs.faults.free_cells.Goals as goal

pub returns : goal.returns
returns c = λ program entry lines is are made. record {
  own =
      own_has program (map row_view c.args.rows.now) entry lines c.args.state.now c.args.objects.now c.args.blocks.now c.in_ok-own_names.field-0 is are made
      (λ name.
      c.in_ok-own_names.ensures name
      ∙ ap (λ l. (list_any (λ (it : Bor Object). bytes_eq it.now.name name) c.args.objects.now || list_any (λ (it : LineBlock). bytes_eq it.name.now name) l) || list_any (λ (it : Block). bytes_eq it.name name) c.args.blocks.now) c.as_slice.ensures.value);
  ranged = c.in_ok-ranged_places.ensures;
}
