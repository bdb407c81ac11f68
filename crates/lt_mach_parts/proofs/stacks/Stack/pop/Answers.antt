use Rattle.std.proofs.Common.{◌∙◌, ap}
use Rattle.lt_mach_parts.specs.Stacks.{rest_of}
use Rattle.lt_mach_parts.proofs.Stacked.{one_less, rest_is}
use Rattle.lt_mach_parts.proofs.stacks.Stack.pop.Goals as goal

pub returns-then-is_some : goal.returns-then-is_some
returns-then-is_some c =
    one_less c.pop-self-inside.result c.self.inside.outer.items c.pop-self-inside.new.self.items c.pop-self-inside.ensures.items c.self.inside.outer.len c.self.inside.outer.ok.0 c.pop-self-inside.ensures.variant
    ∙ rest_is c.self.inside.innermost c.self.inside.outer.items c.is_some.result c.is_some.ensures c.if-is_some.true ∙ ap rest_of c.self.view_is
