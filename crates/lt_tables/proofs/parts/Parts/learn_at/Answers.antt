use Rattle.lt_tables.specs.PartTypes.{types_of}
use Rattle.lt_tables.proofs.StructExtents.{reached_at}
use Rattle.lt_tables.proofs.parts.Parts.learn_at.Goals as goal

pub returns-in-Some : goal.returns-in-Some
returns-in-Some c = λ before.
    reached_at (types_of c.args.self.now) c.args.structs.now c.args.self.now.model c.args.known.now c.args.place c.index-structs-place.result c.in-Some.extent c.requires c.if-place-structs.false c.index-structs-place.is
    c.in-Some.ensures.new c.in-Some.ensures.follows before
