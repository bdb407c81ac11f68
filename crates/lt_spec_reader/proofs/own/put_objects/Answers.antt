use Rattle.std.specs.Str.{bytes_eq}
use Rattle.std.specs.Borrow.{Bor}
use Rattle.lt_tree.specs.declared.typed.entity.Object.{Object}
use Rattle.lt_input_names.specs.Stubs.{has_name}
use Rattle.lt_spec_reader.proofs.Loops.{any_more}
use Rattle.lt_spec_reader.proofs.MapLaws.{name_more}
use Rattle.lt_spec_reader.proofs.own.put_objects.Goals as goal

pub loop-it-preserved : goal.loop-it-preserved
loop-it-preserved c = λ name.
    any_more (λ (it : Bor Object). bytes_eq it.now.name name) c.args.objects.now c.loop-it.it-index c.it-item.result (has_name c.loop-it.own name) _ (has_name c.args.own.now name) c.loop-it-test.true c.it-item.is (c.loop-it.invariant name)
    (name_more c.loop-it.own c.insert.new.self c.as_slice.result c.it-item.result.now.name c.as_slice.ensures c.in_ok-insert.ensures.updates.0 name)
