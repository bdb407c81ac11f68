use Rattle.std.proofs.Common.{◌≡◌, Some, refl, sym, subst}
use Rattle.std.specs.Prelude.{slice_get, IfOk}
use Rattle.lt_model.specs.declared.scalar.DataModel.{DataModel}
use Rattle.lt_mach.specs.Calling.{Enters}
use Rattle.std.proofs.lemmas.Result.{IfOk-weaker}
use Rattle.lt_mach.specs.declared.machine.Machine.{Machine}
use Rattle.lt_mach.proofs.Entering.{calls_on}
use Rattle.lt_mach.proofs.machine.Machine.call.Goals as goal

pub returns : goal.returns
returns c = λ o.
    let gathered : Machine = record c.args.self.now { arguments = c.gather.new.contents } in
    let e : slice_get c.args.graph.now.codes c.args.function ≡ Some c.in-Some.code.now = sym c.in-Some.ensures in
    let h = rw (c.if-not-branch.false) at c.in_ok-gather.ensures in
    let l = subst (λ (d : DataModel). IfOk c.enter.result (λ flow. Enters d c.args.function c.in-Some.code.now c.args.target c.args.next flow gathered c.enter.new.self)) c.requires c.enter.ensures in
    IfOk-weaker _ _ _ (λ flow f. calls_on c.args.graph.now o c.in-Some.code.now c.args.function c.args.target c.args.first c.args.count c.args.next flow c.args.self.now gathered c.enter.new.self e h (λ marks. refl) (record { model = refl; places = refl; names = λ name. refl }) f) l
