use Rattle.std.proofs.Common.{◌≡◌, pos, ◌-ℤ◌, sym, ap, ◌∙◌, subst, rules}
use Rattle.std.specs.Prelude.{neg_ℤ, if◌then◌else◌}
use Rattle.std.proofs.lemmas.Int.{to_z-of_z}
use mir.Syntax.{w128}
use mir.Val.{SFits, to_z, of_z}
use Rattle.lt_input_wants.proofs.NumberLaws.{opposite_fits, opposite_is}
use Rattle.lt_input_wants.proofs.numbers.value_of.Goals as goal

pub returns-then-numeral : goal.returns-then-numeral
returns-then-numeral c =
    let size = c.args.numeral.size in
    let fits : SFits w128 c.from-size.result = search rules in
    let same : to_z w128 (of_z w128 c.from-size.result) ≡ pos size = to_z-of_z w128 c.from-size.result fits ∙ c.from-size.ensures in
    let small : SFits w128 (pos size) = subst (SFits w128) c.from-size.ensures fits in
    ap (λ z. to_z w128 (of_z w128 (pos 0 -ℤ z))) same ∙ to_z-of_z w128 (pos 0 -ℤ pos size) (opposite_fits size small) ∙ opposite_is size
    ∙ ap (λ b. if b then neg_ℤ (pos size) else pos size) (sym c.if-numeral.true)

pub returns-else-numeral : goal.returns-else-numeral
returns-else-numeral c =
    let size = c.args.numeral.size in
    let fits : SFits w128 c.from-size.result = search rules in
    to_z-of_z w128 c.from-size.result fits ∙ c.from-size.ensures ∙ ap (λ b. if b then neg_ℤ (pos size) else pos size) (sym c.if-numeral.false)
