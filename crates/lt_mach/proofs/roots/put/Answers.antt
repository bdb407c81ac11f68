use Rattle.std.proofs.Common.{◌∷◌, ◌∙◌, ap, sym}
use Rattle.lt_mach.specs.Roots.{root_of}
use Rattle.lt_mach.proofs.Rooted.{found_after, same_found}
use Rattle.lt_mach.proofs.roots.put.Goals as goal

pub returns : goal.returns
returns c rest are name =
    let e = c.new.ensures in
    same_found (c.new.result ∷ rest) (root_of c.args.it.now c.args.block ∷ rest) c.insert.new.self (ap (λ r. r ∷ rest) e)
    (found_after rest c.args.roots.now c.insert.new.self c.as_slice.result c.new.result (c.as_slice.ensures ∙ sym (ap (λ r. r.name) e)) c.in_ok-insert.ensures.updates are)
    name
