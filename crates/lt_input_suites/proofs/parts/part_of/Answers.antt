use Rattle.lt_entry.specs.Views.{place_view}
use Rattle.lt_input_names.specs.Views.{scope_of, named_at}
use Rattle.lt_input_suites.proofs.Singles.{part_is}
use Rattle.lt_input_suites.proofs.parts.part_of.Goals as goal

pub returns : goal.returns
returns c = λ single.
    part_is (scope_of c.args.names.now) (place_view c.args.place.now) (named_at c.args.names.now) c.in_ok-parts.parts.items c.pop.new.self.items c.in_ok-parts.parts.len c.pop.result single
    c.in_ok-parts.ensures c.in_ok-parts.parts.ok.0 c.pop.ensures.items c.pop.ensures.variant
