use Rattle.std.proofs.Common.{◌∙◌, sym}
use Rattle.lt_ir.specs.Evaluation.{truth_in}
use Rattle.lt_ir.specs.Pure.{look}
use Rattle.lt_ir.specs.PureView.{pure_of}
use Rattle.lt_acts.proofs.Quiet.{quiet_then}
use Rattle.lt_acts.proofs.marking.truth_of.Goals as goal

pub returns-in-Ok : goal.returns-in-Ok
returns-in-Ok c = λ at. quiet_then (look c.args.memory.now.model (pure_of c.args.it.now)) truth_in c.args.scope.now c.args.memory.now.blocks c.in-Ok.content c.truth_in.result c.in-Ok.ensures c.truth_in.ensures at ∙ sym c.ok.ensures.value
