use Rattle.std.proofs.Common.{◌∙◌, ap}
use Rattle.lt_ir.specs.PureView.{pure_of}
use Rattle.lt_acts.specs.Values.{loaded_value, moved_value, member_value, counted_value, applied_value, compared_value}
use Rattle.lt_ir.specs.Pure.{convert_as}
use Rattle.lt_acts.proofs.PureRows.{comma_is}
use Rattle.lt_acts.proofs.Looks.{looked_then, looked_both, chosen, other, no_choice}
use Rattle.lt_acts.proofs.looking.+look.Goals as goal

pub look-returns-in_ok-at-in-Load : goal.look-returns-in_ok-at-in-Load
look-returns-in_ok-at-in-Load t c =
    rw c.in-Load.is (looked_then c.args.memory.now.model c.args.scope.now c.args.memory.now.blocks _ _ (loaded_value c.args.memory.now.model c.in-Load.ty) c.in_ok-at-in-Load.at c.loaded.result (ap pure_of c.deref.ensures) c.in_ok-at-in-Load.ensures c.loaded.ensures)

pub look-returns-in_ok-content-in-Convert : goal.look-returns-in_ok-content-in-Convert
look-returns-in_ok-content-in-Convert t c =
    rw c.in-Convert.is (looked_then c.args.memory.now.model c.args.scope.now c.args.memory.now.blocks _ _ (convert_as c.args.memory.now.model c.in-Convert.how) c.in_ok-content-in-Convert.content c.convert_as.result (ap pure_of c.deref-in-Convert.ensures) c.in_ok-content-in-Convert.ensures (rw c.model.ensures at c.convert_as.ensures))

pub look-returns-in_ok-b-in-Apply : goal.look-returns-in_ok-b-in-Apply
look-returns-in_ok-b-in-Apply t c =
    rw c.in-Apply.is (looked_both c.args.memory.now.model c.args.scope.now c.args.memory.now.blocks _ _ _ _ (applied_value c.args.memory.now.model c.in-Apply.op c.in-Apply.ty) c.in_ok-a-in-Apply.a c.in_ok-b-in-Apply.b c.applied_value.result
    (ap pure_of c.deref-in-Apply.ensures) c.in_ok-a-in-Apply.ensures (ap pure_of c.deref-in-Apply-2.ensures) c.in_ok-b-in-Apply.ensures c.applied_value.ensures)

pub look-returns-in_ok-b-in-Move : goal.look-returns-in_ok-b-in-Move
look-returns-in_ok-b-in-Move t c =
    rw c.in-Move.is (looked_both c.args.memory.now.model c.args.scope.now c.args.memory.now.blocks _ _ _ _ (moved_value c.in-Move.op c.in-Move.size) c.in_ok-a-in-Move.a c.in_ok-b-in-Move.b c.moved_value.result
    (ap pure_of c.deref-in-Move.ensures) c.in_ok-a-in-Move.ensures (ap pure_of c.deref-in-Move-2.ensures) c.in_ok-b-in-Move.ensures c.moved_value.ensures)

pub look-returns-in_ok-at-in-Member : goal.look-returns-in_ok-at-in-Member
look-returns-in_ok-at-in-Member t c =
    rw c.in-Member.is (looked_then c.args.memory.now.model c.args.scope.now c.args.memory.now.blocks _ _ (member_value c.in-Member.offset) c.in_ok-at-in-Member.at c.member_value.result (ap pure_of c.deref-in-Member.ensures) c.in_ok-at-in-Member.ensures c.member_value.ensures)

pub look-returns-in_ok-b-in-Distance : goal.look-returns-in_ok-b-in-Distance
look-returns-in_ok-b-in-Distance t c =
    rw c.in-Distance.is (looked_both c.args.memory.now.model c.args.scope.now c.args.memory.now.blocks _ _ _ _ (counted_value c.in-Distance.size) c.in_ok-a-in-Distance.a c.in_ok-b-in-Distance.b c.counted_value.result
    (ap pure_of c.deref-in-Distance.ensures) c.in_ok-a-in-Distance.ensures (ap pure_of c.deref-in-Distance-2.ensures) c.in_ok-b-in-Distance.ensures c.counted_value.ensures)

pub look-returns-in_ok-b-in-Compare : goal.look-returns-in_ok-b-in-Compare
look-returns-in_ok-b-in-Compare t c =
    rw c.in-Compare.is (looked_both c.args.memory.now.model c.args.scope.now c.args.memory.now.blocks _ _ _ _ (compared_value c.in-Compare.op) c.in_ok-a-in-Compare.a c.in_ok-b-in-Compare.b c.compared_value.result
    (ap pure_of c.deref-in-Compare.ensures) c.in_ok-a-in-Compare.ensures (ap pure_of c.deref-in-Compare-2.ensures) c.in_ok-b-in-Compare.ensures c.compared_value.ensures)

pub look-returns-in-Ok-true : goal.look-returns-in-Ok-true
look-returns-in-Ok-true t c =
    rw c.in-Choose.is (chosen c.args.memory.now.model c.args.scope.now c.args.memory.now.blocks _ _ _ _ (pure_of c.in-Choose.off.value) c.in_ok-content-in-Choose.content c.look-in-Ok-true.result
    (ap pure_of c.deref-in-Choose.ensures) c.in_ok-content-in-Choose.ensures (rw c.in-Ok-true.field-0-test at c.in-Ok-true.ensures) (ap pure_of c.deref-in-Ok-true.ensures) c.look-in-Ok-true.ensures)

pub look-returns-in-Ok-false : goal.look-returns-in-Ok-false
look-returns-in-Ok-false t c =
    rw c.in-Choose.is (other c.args.memory.now.model c.args.scope.now c.args.memory.now.blocks _ _ (pure_of c.in-Choose.on.value) _ _ c.in_ok-content-in-Choose.content c.look-in-Ok-false.result
    (ap pure_of c.deref-in-Choose.ensures) c.in_ok-content-in-Choose.ensures (rw c.in-Ok-false.field-0-test at c.in-Ok-false.ensures) (ap pure_of c.deref-in-Ok-false.ensures) c.look-in-Ok-false.ensures)

pub look-returns-in-Err : goal.look-returns-in-Err
look-returns-in-Err t c =
    rw c.in-Choose.is (no_choice c.args.memory.now.model c.args.scope.now c.args.memory.now.blocks _ _ (pure_of c.in-Choose.on.value) (pure_of c.in-Choose.off.value) c.in_ok-content-in-Choose.content c.in-Err.fault
    (ap pure_of c.deref-in-Choose.ensures) c.in_ok-content-in-Choose.ensures c.in-Err.ensures)

pub look-returns-in-Comma : goal.look-returns-in-Comma
look-returns-in-Comma t c =
    rw (ap pure_of c.in-Comma.is ∙ comma_is c.in-Comma.parts) (rw c.as_slice.ensures.value at c.look_all.ensures)
