use Rattle.std.proofs.Common.{◌≡◌, ◌∙◌, subst, Bool, List}
use Rattle.std.specs.Result.{IfOk}
use Rattle.lt_tree.specs.UnitView.{unit_of}
use Rattle.lt_copies.proofs.Parts.{unit_parts}
use Rattle.lt_copies.proofs.copied.copied_parts.Goals as goal

pub returns : goal.returns
returns c =
    let unit = unit_of c.args.unit.now in
    subst (λ (zs : List Bool). IfOk c.whole_parts.result (λ it. it.items ≡ zs))
    (unit_parts c.args.sites.now unit c.deref.result.now c.requires (c.deref.ensures.value ∙ c.in_ok-fitting.ensures.nodes unit c.requires)) c.whole_parts.ensures
