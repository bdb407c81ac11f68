use Rattle.std.proofs.Common.{◌∙◌, ap, sym, ◌∷◌}
use Rattle.std.specs.Prelude.{nat_eq, if◌then◌else◌}
use Rattle.lt_mach_parts.specs.Stacks.{stack_at}
use Rattle.lt_mach_parts.proofs.Stacked.{at_set, at_within, on_ok}
use Rattle.lt_mach_parts.proofs.stacks.push.Goals as goal

pub returns-clause-done : goal.returns-clause-done
returns-clause-done c = on_ok c.push.result c.push.ensures.done (λ e j.
    at_set c.grow.new.list.items c.args.k c.push.new.self c.in_ok-grow.ensures.there j
    ∙ ap (λ it. if nat_eq c.args.k j then it else stack_at c.grow.new.list.items j) (e ∙ ap (λ it. c.args.block ∷ it) (c.index_mut-stack.ensures.value ∙ sym (at_within c.grow.new.list.items c.args.k _ c.in_ok-grow.ensures.there) ∙ c.grow.ensures.same c.args.k))
    ∙ ap (λ it. if nat_eq c.args.k j then c.args.block ∷ stack_at c.args.list.now.items c.args.k else it) (c.grow.ensures.same j))
