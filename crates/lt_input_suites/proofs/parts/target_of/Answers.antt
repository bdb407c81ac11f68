use Rattle.lt_tree.specs.Typing.Types.{target_of}
use Rattle.lt_entry.specs.Views.{target_view}
use Rattle.lt_input_names.specs.Views.{scope_of, type_at}
use Rattle.lt_input_suites.proofs.Singles.{target_is}
use Rattle.lt_input_suites.proofs.parts.target_of.Goals as goal

pub returns-in_ok-targets-in-Some : goal.returns-in_ok-targets-in-Some
returns-in_ok-targets-in-Some c = λ single.
    target_is (scope_of c.args.names.now) (target_view c.args.target.now) (type_at c.args.names.now c.in-Some.pointed) (target_of (type_at c.args.names.now c.args.ty))
    c.in_ok-targets-in-Some.targets.items c.pop.new.self.items c.in_ok-targets-in-Some.targets.len c.pop.result single c.in-Some.ensures
    c.in_ok-targets-in-Some.ensures c.in_ok-targets-in-Some.targets.ok.0 c.pop.ensures.items c.pop.ensures.variant
