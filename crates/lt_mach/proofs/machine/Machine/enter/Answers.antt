use Rattle.std.proofs.Common.{◌≡◌, nat_lt, true, rules, tests, refl, ap, Ok, Err}
use Rattle.lt_ir.specs.Running.{most_calls}
use Rattle.lt_mach.proofs.Entering.{taken_so, enters, enters_over}
use Rattle.lt_mach.proofs.machine.Machine.enter.Goals as goal

pub returns-in_ok-start-in-Ok : goal.returns-in_ok-start-in-Ok
returns-in_ok-start-in-Ok c =
    let few : nat_lt c.args.self.now.depth most_calls ≡ true = search (rules, tests) in
    rw c.in_ok-start-in-Ok.ensures
    (enters c.args.self.now.memory.model c.args.function c.args.code.now c.args.target c.args.next c.args.self.now c.wait.new.self c.take_arguments.new.scope c.take_arguments.new.memory few c.in_ok-wait.ensures
    (taken_so _ _ _ _ _ _ _ _ _ _ (Ok tt) (Ok tt) (ap (λ m. m.model) c.in_ok-wait.ensures.memory) c.as_slice.ensures c.as_slice-2.ensures.value refl c.in-Ok.ensures.takes) c.take_arguments.ensures.model)

pub returns-in-Err-Over : goal.returns-in-Err-Over
returns-in-Err-Over c =
    let few : nat_lt c.args.self.now.depth most_calls ≡ true = search (rules, tests) in
    rw c.end.ensures
    (enters_over c.args.self.now.memory.model c.args.function c.args.code.now c.args.target c.args.next c.args.self.now c.wait.new.self c.take_arguments.new.scope c.take_arguments.new.memory c.in-Err-Over.fault few
    c.in_ok-wait.ensures (taken_so _ _ _ _ _ _ _ _ _ _ _ _ (ap (λ m. m.model) c.in_ok-wait.ensures.memory) c.as_slice.ensures c.as_slice-2.ensures.value (ap (λ x. Err x) c.in-Err-Over.field-0-is) c.in-Err-Over.ensures.takes) c.take_arguments.ensures.model)
