use Rattle.std.proofs.Common.{◌≡◌, ◌++◌, map, drop}
use Rattle.lt_sites.specs.Sites.{entry_of}
use Rattle.lt_facts.specs.Outside.{outside_from}
use Rattle.lt_facts.proofs.outside.outside_marks.Given as goal

abbrev pub invariant-loop-site : goal.invariant-loop-site
invariant-loop-site l = l.outside.items ++ outside_from l.marked (map entry_of (drop l.site-index l.sites)) ≡ outside_from 0 (map entry_of l.sites)
