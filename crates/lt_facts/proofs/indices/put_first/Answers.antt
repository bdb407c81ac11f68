use Rattle.std.proofs.Common.{sym, ◌∙◌}
use Rattle.lt_facts.proofs.FirstPlaces.{place_put, place_kept}
use Rattle.lt_facts.proofs.indices.put_first.Goals as goal

pub returns-then-contains_key : goal.returns-then-contains_key
returns-then-contains_key c = place_kept c.args.places.now c.args.number c.args.place (sym c.contains_key.ensures ∙ c.if-contains_key.true)

pub returns : goal.returns
returns c = place_put c.args.places.now c.insert.new.self c.args.number c.args.place (sym c.contains_key.ensures ∙ c.if-contains_key.false) c.in_ok-insert.ensures.updates.0
