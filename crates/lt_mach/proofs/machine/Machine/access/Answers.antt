use Rattle.std.proofs.Common.{Some, refl, sym}
use Rattle.lt_mach.specs.declared.machine.Machine.{Machine}
use Rattle.lt_mach.specs.Standing.{state_of}
use Rattle.lt_mach.proofs.After.{done_does}
use Rattle.lt_mach.proofs.machine.Machine.access.Goals as goal

pub returns : goal.returns
returns c =
    let m = c.args.self.now in
    let m1 : Machine = record m { call = record m.call { registers = c.access-done.new.registers }; memory = c.access-done.new.memory } in
    done_does c.args.graph.now (Some c.args.code.now) c.args.node.now c.access-done.result.answer c.access-done.result.next m m1 c.after.new.self c.after.result
    (λ marks. c.access-done.ensures.acts c.args.graph.now (Some c.args.code.now) (sym c.requires.fit.model) (sym c.as_slice.ensures) (state_of m marks))
    (record { model = c.access-done.ensures.model; places = refl; names = λ name. refl }) c.after.ensures
