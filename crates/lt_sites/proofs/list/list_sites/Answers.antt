use Rattle.std.proofs.Common.{ap, ◌∙◌, map}
use Rattle.std.specs.List.{flat_map}
use Rattle.lt_tree.specs.UnitView.{external_of}
use Rattle.lt_tree.specs.Nodes.{in_external}
use Rattle.lt_sites.specs.Sites.{part_of}
use Rattle.lt_sites.specs.Listed.{listed}
use Rattle.lt_sites.proofs.Whole.{alone}
use Rattle.lt_sites.proofs.list.list_sites.Goals as goal

pub returns : goal.returns
returns c =
    c.into_sites.ensures ∙ c.in_ok-externals.ensures ∙ ap (listed _) c.new-lister.ensures ∙ alone _
    ∙ ap (λ xs. map part_of (flat_map in_external (map external_of xs))) c.as_slice.ensures.value
