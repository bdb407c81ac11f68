use Rattle.std.proofs.Common.{◌≡◌, ◌∷◌, [], length, ap, subst, arith, length-append}
use Rattle.lt_tree.specs.Typing.EntityView.{structs_of}
use Rattle.lt_input_names.specs.Blocks.{program_types}
use Rattle.lt_input_names.proofs.FactRows.{AreFactsBelow, row_made, all_facts}
use Rattle.lt_input_names.proofs.kinds.Kinds.new.Goals as goal

pub loop-row-preserved : goal.loop-row-preserved
loop-row-preserved c = record {
  count = omega (arith, ap length c.in_ok-push.ensures.items, length-append c.loop-row.facts.items (c.facts_of_row-it.result ∷ []), c.loop-row.invariant.count);
  known =
      row_made c.args.program.now.structs.items c.deref-in-loop-row.result.now c.args.program.now.table.items c.deref-row-items.result.now c.loop-row.row-index c.row-item.result c.loop-row.facts.items c.deref.result.now
      c.push.new.self.items c.facts_of_row-it.result c.deref-row-items.ensures.value c.deref-in-loop-row.ensures.value c.deref.ensures.value c.loop-row-test.true c.row-item.is c.loop-row.invariant.count c.loop-row.invariant.known
      c.facts_of_row-it.ensures c.args.program.now.rows_before c.in_ok-push.ensures.items;
}

pub returns-clause-kinds : goal.returns-clause-kinds
returns-clause-kinds c =
    let program = c.args.program.now in
    let structs = structs_of (program_types program) program.structs.items in
    let end : c.loop-row.row-index ≡ length program.table.items = omega (arith, ap length c.deref-row-items.ensures.value, c.loop-row-test.false, c.loop-row.auto.row-index-end) in
    let count : length c.loop-row.facts.items ≡ length program.table.items = omega (arith, end, c.loop-row.invariant.count) in
    all_facts structs program.table.items c.loop-row.facts.items count (subst (λ n. AreFactsBelow structs (program_types program) n c.loop-row.facts.items) end c.loop-row.invariant.known)
