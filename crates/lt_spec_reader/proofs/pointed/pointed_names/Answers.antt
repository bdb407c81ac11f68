use Rattle.std.proofs.Common.{refl, sym, ap, ◌∙◌}
use Rattle.std.specs.Prelude.{◌||◌, option_map}
use Rattle.lt_entry.specs.Lines.{Row}
use Rattle.lt_entry.specs.Conditions.{points_at}
use Rattle.lt_entry.specs.LineViews.{row_view}
use Rattle.lt_input_names.specs.Stubs.{has_name}
use Rattle.lt_spec_reader.specs.Frees.{is_name_of}
use Rattle.lt_spec_reader.proofs.Loops.{any_mapped_more, or_none}
use Rattle.lt_spec_reader.proofs.MapLaws.{name_more}
use Rattle.lt_spec_reader.proofs.pointed.pointed_names.Goals as goal
use Rattle.lt_spec_reader.proofs.pointed.pointed_names.Goals.{in-None, in-Some+in_ok-insert-in-Some}

pub loop-row-preserved : goal.loop-row-preserved
loop-row-preserved c = λ name.
    let rows = c.args.rows.now in
    let row = c.row-item.result in
    let said = c.in_ok-pointed_name.ensures name in
    elim c.match-branch-2.branch [
      | in-None w ↦
          rw w.names-is
          (any_mapped_more (λ (row : Row). points_at name row.words) row_view rows c.loop-row.row-index row (has_name c.loop-row.names name) _ c.loop-row-test.true c.row-item.is (c.loop-row.invariant name)
          (or_none (has_name c.loop-row.names name) _ (said ∙ ap (λ o. is_name_of name (option_map (λ n. n.now) o)) w.in-None.is)))
      | in-Some+in_ok-insert-in-Some w ↦
          rw w.names-is
          (any_mapped_more (λ (row : Row). points_at name row.words) row_view rows c.loop-row.row-index row (has_name c.loop-row.names name) _ c.loop-row-test.true c.row-item.is (c.loop-row.invariant name)
          (name_more c.loop-row.names w.insert.new.self w.in-Some.name w.in-Some.name.now refl w.in_ok-insert-in-Some.ensures.updates.0 name
          ∙ ap (λ b. has_name c.loop-row.names name || b) (sym (said ∙ ap (λ o. is_name_of name (option_map (λ n. n.now) o)) w.in-Some.is))))
    ]
