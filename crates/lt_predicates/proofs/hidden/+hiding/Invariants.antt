use Rattle.std.proofs.Common.{◌≡◌, drop}
use Rattle.lt_tree.specs.Records.{expressions_in}
use Rattle.lt_objectives.specs.Copies.{any_hides}
use Rattle.lt_predicates.proofs.hidden.+hiding.Given as goal

abbrev pub invariant-any_hides-parts : goal.invariant-any_hides-parts
invariant-any_hides-parts l = any_hides (expressions_in (drop l.part-index l.parts)) ≡ any_hides (expressions_in l.parts)
