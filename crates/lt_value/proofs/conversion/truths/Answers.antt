use Rattle.std.proofs.Common.{◌∙◌, sym, ap, refl, to_z, of_z}
use Rattle.std.specs.Int.{w128}
use Rattle.std.proofs.lemmas.Int.{to_z-of_z}
use Rattle.lt_value.proofs.Members.{lo_fits, hi_fits}
use Rattle.lt_value.proofs.Conversions.{only_one, only_zero, both_truths}
use Rattle.lt_value.proofs.conversion.truths.Goals as goal

pub returns-then-not-is_member : goal.returns-then-not-is_member
returns-then-not-is_member c = only_one c.args.model c.args.n.now c.single.result _ _ refl refl (λ h. cc (c.is_member.ensures.1 h)) c.single.ensures

pub returns-then-n : goal.returns-then-n
returns-then-n c =
    let n = c.args.n.now in
    only_zero c.args.model n c.single-then-n.result _ _ refl refl (c.is_member.ensures.0 c.if-not-is_member.false) (sym (to_z-of_z w128 n.lo (lo_fits n)) ∙ ap (to_z w128) c.if-n.true ∙ to_z-of_z w128 n.hi (hi_fits n)) c.single-then-n.ensures

pub returns-else-n : goal.returns-else-n
returns-else-n c = both_truths c.args.model c.args.n.now c.between.result _ _ _ refl refl refl (c.is_member.ensures.0 c.if-not-is_member.false) (λ e. c.if-n.false (ap (of_z w128) e)) c.between.ensures
