use Rattle.std.proofs.Common.{◌≡◌, [], ◌∷◌, ◌++◌, drop, map}
use Rattle.lt_sites.specs.Sites.{entry_of}
use Rattle.lt_copies.specs.Judged.{judged}
use Rattle.lt_copies.proofs.walk.fitting_nodes.Given as goal

abbrev pub invariant-sites : goal.invariant-sites
invariant-sites l = l.fitting.items ++ judged (map entry_of (drop l.number l.sites)) l.blocks ≡ judged (map entry_of l.sites) (record { frames = [] ∷ []; behind = [] })
