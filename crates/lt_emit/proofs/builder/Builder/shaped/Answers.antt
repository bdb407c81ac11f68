use Rattle.std.proofs.Common.{rules, ◌≡◌, ℕ, length, refl, subst}
use Rattle.lt_emit.specs.Accesses.{PutsShape}
use Rattle.lt_emit.proofs.AccessPieces.{shape_put}
use Rattle.lt_emit.proofs.builder.Builder.shaped.Goals as goal

pub returns : goal.returns
returns c =
    let a = c.args.self.now in
    let after = record a { structs = c.push.new.self } in
    let number : length a.structs.items ≡ c.in-Ok.place = search rules in
    let Puts : ℕ → Type 0 = λ place. PutsShape a after c.args.ty place in
    subst Puts number (shape_put a after c.args.ty c.in_ok-shape.shape refl refl c.in_ok-push.ensures.items refl c.in_ok-shape.ensures)
