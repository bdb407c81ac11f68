use Rattle.lt_places.specs.Walks.{reached}
use Rattle.lt_places.proofs.Wrappings.{led_off, led_on, led_there}
use Rattle.lt_places.proofs.walk.innermost.Goals as goal

pub wrappings-init : goal.wrappings-init
wrappings-init c unit e are is = led_off c.args.wrapping c.args.k c.args.sites.now unit e are is

pub wrappings-preserved : goal.wrappings-preserved
wrappings-preserved c unit e are is =
    led_on c.args.wrapping c.wrappings.at c.in-Some.next (reached c.args.wrapping c.args.k e) c.args.sites.now c.in-Some.ensures.further.0 c.in-Some.ensures.further.1 c.in-Some.ensures.value
    (c.wrappings.invariant unit e are is)

pub returns : goal.returns
returns c unit e are is =
    led_there c.args.wrapping c.wrappings.at (reached c.args.wrapping c.args.k e) c.args.sites.now c.in_default.ensures.value (c.wrappings.invariant unit e are is)
