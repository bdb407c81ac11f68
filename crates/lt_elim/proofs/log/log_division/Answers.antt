use Rattle.std.proofs.Common.{rules, ◌≡◌, sym, ◌∙◌, ap, subst, ℤ, pos}
use Rattle.std.proofs.lemmas.Int.{to_z-of_z}
use mir.Val.{SFits, to_z, of_z}
use mir.Syntax.{w128}
use Rattle.lt_lin.specs.declared.line.Line.{Divide}
use Rattle.lt_lin.specs.Refutation.{IsQuotient}
use Rattle.lt_elim.specs.Tracing.{IsKnownAs}
use Rattle.lt_elim.proofs.Combining.{if_ok_more}
use Rattle.lt_elim.proofs.Tracing.{gained, gained_nothing, undivided_is}
use Rattle.lt_elim.proofs.log.log_division.Goals as goal

is_one : (z : ℤ) → SFits w128 z → of_z w128 z ≡ 1 → z ≡ pos 1
is_one z s e = sym (to_z-of_z w128 z s) ∙ ap (to_z w128) e

pub returns-then-divisor-eq1 : goal.returns-then-divisor-eq1
returns-then-divisor-eq1 c =
    let k : SFits w128 c.args.divisor = search rules in
    λ rows known q r d i e. gained_nothing rows known r c.args.log.now c.args.number d (subst (IsKnownAs known c.args.number) (undivided_is q r (subst (λ (z : ℤ). IsQuotient q z r) (is_one c.args.divisor k c.if-divisor-eq1.true) e)) i)

pub returns : goal.returns
returns c =
    let k : SFits w128 c.args.divisor = search rules in
    if_ok_more c.push.result (λ n p rows known q r d i e. gained rows known r c.args.log.now c.push.new.log (Divide c.args.number c.args.divisor) n d (λ rest h. (r, (q, i, e), h)) p) (simp to_z-of_z at c.push.ensures)
