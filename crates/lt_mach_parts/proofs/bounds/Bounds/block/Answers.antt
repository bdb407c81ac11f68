use Rattle.std.proofs.Common.{◌∙◌, ap}
use Rattle.lt_ir.specs.Running.{block_among}
use Rattle.lt_mach_parts.specs.Stacks.{first_of}
use Rattle.lt_mach_parts.specs.Bindings.{scope_of}
use Rattle.lt_mach_parts.proofs.Scoped.{first_among}
use Rattle.lt_mach_parts.proofs.bounds.Bounds.block.Goals as goal

pub returns : goal.returns
returns c = c.first.ensures ∙ ap first_of (c.self.invariant c.args.v) ∙ first_among (scope_of c.self.inside.list.items) c.args.v ∙ ap (λ scope. block_among scope c.args.v) c.self.view_is
