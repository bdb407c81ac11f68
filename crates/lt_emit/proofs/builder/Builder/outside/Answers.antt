use Rattle.std.proofs.Common.{◌≡◌, true, false, sym, ◌∙◌}
use Rattle.lt_tree.specs.Typing.Types.{is_void}
use Rattle.lt_tree.specs.Typing.TypeRows.{type_in}
use Rattle.lt_meaning.specs.Runs.{stops}
use Rattle.lt_emit.specs.Emission.{here_of, site_in}
use Rattle.lt_emit.proofs.Spent.{within_here, fitting}
use Rattle.lt_emit.proofs.Calls.{outside_is}
use Rattle.lt_emit.proofs.builder.Builder.outside.Goals as goal

pub returns-else-is_void : goal.returns-else-is_void
returns-else-is_void c =
    within_here c.next_for.ensures (λ from it p none known.
    let here = here_of c.args.self.now in
    let t = type_in here.types c.args.ty in
    let goes_on : false ≡ stops c.args.name.now = sym c.if-stops.false ∙ c.stops.ensures in
    let some : false ≡ is_void t = sym c.if-is_void.false ∙ c.is_void.ensures in
    let number = known none (sym goes_on) (sym some) in
    outside_is (site_in here it).stands here.stubs c.args.is_taken c.args.name.now t c.args.register (it.point from) (it.point c.args.to)
    false true false goes_on (sym c.if-not-is_taken.false) some (p number.0 number.1)) (grind fitting)
