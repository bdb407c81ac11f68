use Rattle.std.proofs.Common.{◌≤◌, length, arith}
use Rattle.lt_entry.specs.Lines.{Row}
use Rattle.lt_entry.specs.Conditions.{is_ranged_by}
use Rattle.lt_entry.specs.LineViews.{row_view}
use Rattle.lt_input_names.specs.Views.{scope_of}
use Rattle.lt_spec_reader.specs.Frees.{has_place}
use Rattle.lt_spec_reader.proofs.Loops.{any_mapped_more, any_mapped_done}
use Rattle.lt_spec_reader.proofs.ranged.ranged_places.Goals as goal

pub loop-row-preserved : goal.loop-row-preserved
loop-row-preserved c = λ place.
    any_mapped_more (λ (row : Row). is_ranged_by (scope_of c.args.names.now) place row.words) row_view c.args.rows.now c.loop-row.row-index c.row-item.result (has_place c.loop-row.ranged place) _ c.loop-row-test.true c.row-item.is (c.loop-row.invariant place) (c.in_ok-put_row.ensures place)

pub returns : goal.returns
returns c = λ place.
    let all : length c.args.rows.now ≤ c.loop-row.row-index = omega arith in
    any_mapped_done (λ (row : Row). is_ranged_by (scope_of c.args.names.now) place row.words) row_view c.args.rows.now c.loop-row.row-index (has_place c.loop-row.ranged place) all (c.loop-row.invariant place)
