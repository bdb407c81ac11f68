use Rattle.std.proofs.Common.{◌≡◌, ◌++◌, map}
use Rattle.std.specs.Slice.Iter.{iter_rest}
use Rattle.std.specs.Iterator.Adapters.{zip_first, zip_second}
use Rattle.lt_sites.specs.Sites.{entry_of}
use Rattle.lt_places.specs.Closed.{opens}
use Rattle.lt_places.proofs.open.open_places.Given as goal

abbrev pub invariant-sites : goal.invariant-sites
invariant-sites l =
    l.open.items ++ opens l.closed (map entry_of (iter_rest (zip_first l.site-iterator))) (iter_rest (zip_second l.site-iterator)) ≡ opens 0 (map entry_of l.sites) l.constants
