use Rattle.lt_tree.specs.Typing.TypeRows.{type_in}
use Rattle.lt_emit.specs.Emission.{site_in}
use Rattle.lt_emit.proofs.Spent.{within, fitting}
use Rattle.lt_emit.proofs.Accessing.{target_is}
use Rattle.lt_emit.proofs.builder.Builder.target.Goals as goal

pub returns : goal.returns
returns c =
    within c.clash.ensures (λ from here it code is.
    target_is (site_in here it) (type_in here.types c.args.ty) c.args.access c.args.register _ _ is code) (λ here. grind fitting)
