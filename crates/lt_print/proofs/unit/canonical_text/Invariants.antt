use Rattle.std.proofs.Common.{◌≡◌, ◌++◌, map, drop}
use Rattle.std.specs.List.{flat_map}
use Rattle.lt_tree.specs.Pieces.{text_of}
use Rattle.lt_tree.specs.UnitView.{external_of}
use Rattle.lt_tree.specs.CanonUnits.{external}
use Rattle.lt_print.proofs.unit.canonical_text.Given as goal

abbrev pub invariant-loop-external : goal.invariant-loop-external
invariant-loop-external l =
    l.out.items ++ text_of (flat_map external (map external_of (drop l.external-index l.external-items))) ≡ text_of (flat_map external (map external_of l.external-items))
