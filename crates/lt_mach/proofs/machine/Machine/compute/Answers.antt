use Rattle.std.proofs.Common.{Some, refl, sym}
use Rattle.lt_mach.specs.declared.machine.Machine.{Machine}
use Rattle.lt_mach.specs.Standing.{state_of}
use Rattle.lt_mach.proofs.After.{done_does}
use Rattle.lt_mach.proofs.machine.Machine.compute.Goals as goal

pub returns : goal.returns
returns c =
    let m = c.args.self.now in
    let m1 : Machine = record m { call = record m.call { registers = c.compute-done.new.registers } } in
    done_does c.args.graph.now (Some c.args.code.now) c.args.node.now c.compute-done.result.answer c.compute-done.result.next m m1 c.after.new.self c.after.result
    (λ marks. c.compute-done.ensures c.args.code.now.structs c.args.graph.now (Some c.args.code.now) (sym c.requires.fit.model) refl (state_of m marks))
    (record { model = refl; places = refl; names = λ name. refl }) c.after.ensures
