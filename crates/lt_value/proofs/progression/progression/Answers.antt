use Rattle.std.specs.Int.{w128}
use Rattle.std.proofs.lemmas.Int.{to_z-of_z}
use Rattle.lt_value.proofs.Members.{step_small, canonical_from_ends, canonical_as_code}
use Rattle.lt_value.proofs.progression.progression.Goals as goal

pub rest_by-rest-requires : goal.rest_by-rest-requires
rest_by-rest-requires c = step_small _ _ _ c.requires

pub invariant_of-result : goal.invariant_of-result
invariant_of-result c =
    let r = c.rest_by-rest.ensures in
    let lo = to_z-of_z w128 _ c.ranges.lo in
    record { canonical = canonical_as_code _ _ _ _ _ _ lo (to_z-of_z w128 _ c.ranges.hi) (canonical_from_ends _ _ _ _ _ c.requires lo r.leaves r.none r.below) }
