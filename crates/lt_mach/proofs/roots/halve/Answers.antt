use Rattle.std.proofs.Common.{rules}
use Rattle.std.proofs.lemmas.List.Sorted.{answers_always}
use Rattle.lt_mach.proofs.Rooted.{searched}
use Rattle.lt_mach.proofs.roots.halve.Goals as goal

pub returns : goal.returns
returns c =
    let facts = c.binary_search_by_key-found.ensures in
    rw c.ok.ensures.value (searched _ c.requires _ _ facts.bound (facts.position (λ cell. cell.offset) (answers_always _ _ _ (λ f a r g called. search rules))))
