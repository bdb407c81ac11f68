use Rattle.std.proofs.Common.{◌≤◌, length, arith}
use Rattle.lt_entry.specs.Meaning.{need_terms}
use Rattle.lt_entry.specs.LineViews.{addend_view}
use Rattle.lt_input_names.specs.Views.{scope_of}
use Rattle.lt_spec_reader.proofs.CellLaws.{flat_mapped_more, flat_mapped_done}
use Rattle.lt_spec_reader.proofs.needs.put_addends.Goals as goal

pub loop-addend-preserved : goal.loop-addend-preserved
loop-addend-preserved c =
    flat_mapped_more (need_terms (scope_of c.args.names.now)) addend_view c.args.addends.now c.loop-addend.addend-index c.addend-item.result c.args.terms.now.items c.loop-addend.terms.items _ c.loop-addend-test.true c.addend-item.is c.loop-addend.invariant c.in_ok-put_terms.ensures

pub returns : goal.returns
returns c =
    let all : length c.args.addends.now ≤ c.loop-addend.addend-index = omega arith in
    flat_mapped_done (need_terms (scope_of c.args.names.now)) addend_view c.args.addends.now c.loop-addend.addend-index c.args.terms.now.items c.loop-addend.terms.items all c.loop-addend.invariant
