use Rattle.std.proofs.Common.{◌∙◌, ap}
use Rattle.lt_ir.specs.Graph.{are_static}
use Rattle.lt_mach_parts.proofs.Scoped.{own_tell}
use Rattle.lt_mach_parts.proofs.scope.Scope.are_static.Goals as goal

pub returns : goal.returns
returns c = own_tell c.self.inside.own c.self.inside.statics.value c.is_empty.result c.self.invariant.0 c.self.invariant.1 c.is_empty.ensures ∙ ap are_static c.self.view_is
