use Rattle.std.proofs.Common.{◌≡◌, ◌≤◌, ◌++◌, length, map, reverse, drop}
use Rattle.lt_unit.specs.declared.listing.Task.TheVariants as task
use Rattle.lt_unit.proofs.listing.open_all.Given as goal

abbrev pub invariant-parts : goal.invariant-parts
invariant-parts l = record {
  within : l.left ≤ length l.parts;
  opened : reverse l.tasks.items ≡ map task.List (drop l.left l.parts) ++ reverse l.initial.tasks.items;
}

abbrev pub decreases-parts : goal.decreases-parts
decreases-parts l = l.left
