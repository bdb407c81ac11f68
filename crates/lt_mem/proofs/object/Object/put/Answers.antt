use Rattle.std.proofs.Common.{arith, ◌≡◌, ◌<◌, length, ap, refl}
use Rattle.lt_mem.specs.Image.{Body}
use Rattle.lt_mem.proofs.Contents.{put_keeps, put_is}
use Rattle.lt_mem.proofs.object.Object.put.Goals as goal

pub invariant_of-self : goal.invariant_of-self
invariant_of-self c =
    let same : length c.self.inside.cells.items ≡ length c.args.self.now.cells = ap (λ (b : Body). length b.cells) c.self.view_is in
    let within : c.args.place < length c.self.inside.cells.items = omega (arith, same, c.requires.within) in
    put_keeps _ _ _ _ _ c.index-cell.result.now _ c.self.invariant within c.index-cell.ensures c.as_type.ensures.is c.as_type.ensures.fit

pub returns : goal.returns
returns c =
    let same : length c.self.inside.cells.items ≡ length c.args.self.now.cells = ap (λ (b : Body). length b.cells) c.self.view_is in
    let within : c.args.place < length c.self.inside.cells.items = omega (arith, same, c.requires.within) in
    rw (← c.self.view_is) (ap (λ cells. record { writable = c.self.inside.writable; size = c.self.inside.size; cells = cells }) (put_is _ _ _ _ _ c.index-cell.result.now _ within c.index-cell.ensures c.as_type.ensures.is refl))
