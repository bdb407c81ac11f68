use Rattle.lt_tree.specs.Typing.TypeRows.{types_of_rows}
use Rattle.lt_replayed.proofs.WithoutFacts.{in_range_without_facts, rows_without_facts}
use Rattle.lt_replayed.proofs.runnable.stripped.Goals as goal

pub invariant_of-result : goal.invariant_of-result
invariant_of-result c =
    let p = c.args.program in
    record {
      in_range = in_range_without_facts (types_of_rows p.table.items) p.structs.items p.objects.items p.declared.items p.functions.items p.file p.types.items p.labels.items p.facts.items c.new.result.items c.new.ensures.items p.in_range;
      has_rows = rows_without_facts _ p.structs.items p.objects.items p.declared.items p.functions.items p.file p.types.items p.facts.items c.new.result.items c.new.ensures.items p.has_rows;
      rows_before = p.rows_before;
    }
