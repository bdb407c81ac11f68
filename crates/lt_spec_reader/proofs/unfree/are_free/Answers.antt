use Rattle.std.proofs.Common.{◌≡◌, ◌≤◌, true, false, length, sym, ◌∙◌, arith, rules}
use Rattle.lt_entry.specs.Conditions.{is_free}
use Rattle.lt_input_names.specs.Views.{scope_of, named_at}
use Rattle.lt_spec_reader.proofs.Loops.{all_more, all_fails, all_done}
use Rattle.lt_spec_reader.proofs.unfree.are_free.Goals as goal

pub returns-then-not-is_free : goal.returns-then-not-is_free
returns-then-not-is_free c = λ names rows are.
    let fails : c.is_free.result ≡ false = search rules in
    sym (all_fails (is_free (scope_of names) rows) (named_at names) c.args.parts.now c.loop-part.part-index c.part-item.result c.loop-part-test.true c.part-item.is (sym (c.is_free.ensures names rows are) ∙ fails))

pub loop-part-preserved : goal.loop-part-preserved
loop-part-preserved c = λ names rows are.
    let holds : c.is_free.result ≡ true = search rules in
    all_more (is_free (scope_of names) rows) (named_at names) c.args.parts.now c.loop-part.part-index c.part-item.result c.loop-part-test.true c.part-item.is (c.loop-part.invariant names rows are) (sym (c.is_free.ensures names rows are) ∙ holds)

pub returns : goal.returns
returns c = λ names rows are.
    let all : length c.args.parts.now ≤ c.loop-part.part-index = omega arith in
    sym (all_done (is_free (scope_of names) rows) (named_at names) c.args.parts.now c.loop-part.part-index all (c.loop-part.invariant names rows are))
