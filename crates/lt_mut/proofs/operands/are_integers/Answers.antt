use Rattle.std.proofs.Common.{◌&&◌, sym, ap, subst, ◌∙◌}
use Rattle.lt_tree.specs.View.{expression_of}
use Rattle.lt_facts.specs.Families.{is_integer_family}
use Rattle.lt_sites.specs.Sites.{AreSitesOf}
use Rattle.lt_mut.specs.Operands.{family_at}
use Rattle.lt_mut.proofs.Families.{integers_known}
use Rattle.lt_mut.proofs.operands.are_integers.Goals as goal

pub returns-then-is_integer_family : goal.returns-then-is_integer_family
returns-then-is_integer_family c unit program known at =
    let families = c.args.survey.now.families.items in
    let left = c.operand_numbers-left.result.0 in
    let right = c.operand_numbers-left.result.1 in
    let numbers = c.operand_numbers-left.ensures unit (subst (λ sites. AreSitesOf sites unit) (sym c.deref.ensures.value) known.sites) at in
    integers_known unit program families c.args.k (expression_of c.args.e.now) left right known.families at numbers.0 numbers.1
    ∙ ap (λ b. b && is_integer_family (family_at families right)) (ap is_integer_family (sym c.family_at.ensures) ∙ sym c.is_integer_family.ensures ∙ c.if-is_integer_family.true)
    ∙ ap is_integer_family (sym c.family_at-then-is_integer_family.ensures) ∙ sym c.is_integer_family-then-is_integer_family.ensures

pub returns-else-is_integer_family : goal.returns-else-is_integer_family
returns-else-is_integer_family c unit program known at =
    let families = c.args.survey.now.families.items in
    let left = c.operand_numbers-left.result.0 in
    let right = c.operand_numbers-left.result.1 in
    let numbers = c.operand_numbers-left.ensures unit (subst (λ sites. AreSitesOf sites unit) (sym c.deref.ensures.value) known.sites) at in
    let first = ap is_integer_family (sym c.family_at.ensures) ∙ sym c.is_integer_family.ensures in
    integers_known unit program families c.args.k (expression_of c.args.e.now) left right known.families at numbers.0 numbers.1
    ∙ ap (λ b. b && is_integer_family (family_at families right)) (first ∙ c.if-is_integer_family.false) ∙ sym c.if-is_integer_family.false
