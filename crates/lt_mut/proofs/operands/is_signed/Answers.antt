use Rattle.std.proofs.Common.{sym, ap, ◌∙◌}
use Rattle.std.proofs.lemmas.Option.{slice_get_within}
use Rattle.lt_tree.specs.Nodes.{nodes, an_expression}
use Rattle.lt_facts.specs.Families.{is_signed_family}
use Rattle.lt_mut.proofs.Families.{signed_known}
use Rattle.lt_mut.proofs.operands.is_signed.Goals as goal

pub returns : goal.returns
returns c unit program e known at =
    signed_known unit program c.args.survey.now.families.items c.args.k known.families (slice_get_within (nodes unit) c.args.k (an_expression e) at)
    ∙ ap is_signed_family (sym c.family_at.ensures) ∙ sym c.is_signed_family.ensures
