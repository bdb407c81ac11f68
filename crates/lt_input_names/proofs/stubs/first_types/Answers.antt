use Rattle.std.proofs.Common.{get_or, []}
use Rattle.lt_model.specs.declared.scalar.Scalar.TheVariants as S
use Rattle.lt_input_names.specs.declared.stubs.Stub.{Stub}
use Rattle.lt_input_names.specs.Found.{found_in}
use Rattle.lt_input_names.specs.Stubs.{stub_view}
use Rattle.lt_input_names.proofs.Lists.{item_is}
use Rattle.lt_input_names.proofs.RootLaws.{stub_more}
use Rattle.lt_input_names.proofs.stubs.first_types.Goals as goal

pub loop-stub-preserved : goal.loop-stub-preserved
loop-stub-preserved c = λ name.
    let other : Stub = record { name = record { ref_ptr = (0, 0); now = [] }; ty = S.Bool } in
    stub_more stub_view c.args.stubs.now c.loop-stub.stub-index (get_or c.args.stubs.now c.loop-stub.stub-index other) name (found_in c.loop-stub.types name) (found_in c.put_stub.new.types name) c.loop-stub-test.true
    (item_is c.args.stubs.now c.loop-stub.stub-index other c.loop-stub-test.true) (c.loop-stub.invariant name) (c.in_ok-put_stub.ensures name)
