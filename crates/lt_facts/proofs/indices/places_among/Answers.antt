use Rattle.std.proofs.Common.{None, get_or, ◌∙◌, arith}
use Rattle.lt_facts.specs.Indices.{place_among}
use Rattle.lt_facts.proofs.Maps.{mapped_more}
use Rattle.lt_facts.proofs.FirstPlaces.{place_found}
use Rattle.lt_facts.proofs.indices.places_among.Goals as goal

pub loop-number-preserved : goal.loop-number-preserved
loop-number-preserved c =
    let numbers = c.args.numbers.now in
    let k = c.loop-number.number-index in
    mapped_more (place_among c.args.others.now) numbers k None c.place_of.result c.loop-number.places.items c.push.new.self.items (omega arith)
    (c.place_of.ensures ∙ place_found c.in_ok-first.first c.args.others.now (get_or numbers k None) c.in_ok-first.ensures) c.in_ok-push.ensures.items c.loop-number.invariant
