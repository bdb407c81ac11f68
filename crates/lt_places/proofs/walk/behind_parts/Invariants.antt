use Rattle.std.proofs.Common.{◌≡◌, ◌≤◌, ◌-◌, length, drop}
use Rattle.lt_places.specs.Walks.{behind_parts}
use Rattle.lt_places.proofs.walk.behind_parts.Given as goal

abbrev pub invariant-parts : goal.invariant-parts
invariant-parts l = (l.from ≤ l.end) × (l.end ≤ length l.sites) × (behind_parts (l.count - l._part) (drop l.end l.sites) ≡ behind_parts l.count (drop l.from l.sites))
