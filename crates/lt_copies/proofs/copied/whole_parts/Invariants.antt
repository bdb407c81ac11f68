use Rattle.std.proofs.Common.{◌≡◌, drop, map, reverse}
use Rattle.lt_sites.specs.Sites.{entry_of}
use Rattle.lt_copies.specs.Judged.{whole_parts, run_of}
use Rattle.lt_copies.proofs.copied.whole_parts.Given as goal

abbrev pub invariant-sites : goal.invariant-sites
invariant-sites l = record {
  wholes : reverse l.whole.items ≡ whole_parts (drop l.number l.fitting) (map entry_of (drop l.number l.sites));
  runs : l.run ≡ run_of (drop l.number l.fitting);
}
