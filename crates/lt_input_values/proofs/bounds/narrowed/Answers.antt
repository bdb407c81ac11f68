use Rattle.std.proofs.Common.{rules}
use mir.Syntax.{w128}
use mir.Val.{SFits}
use Rattle.lt_input_values.proofs.Narrowing.{narrower_kept}
use Rattle.lt_input_values.proofs.bounds.narrowed.Goals as goal

pub returns-in-Some : goal.returns-in-Some
returns-in-Some c = λ z.
    let low : SFits w128 c.in-Some.low = search rules in
    let high : SFits w128 c.in-Some.high = search rules in
    let lo : SFits w128 c.args.range.now.lo = search rules in
    let hi : SFits w128 c.args.range.now.hi = search rules in
    let most : SFits w128 c.max.result = search rules in
    let least : SFits w128 c.min.result = search rules in
    let kept = narrower_kept c.in-Some.low c.in-Some.high c.args.range.now.lo c.args.range.now.hi c.max.result c.min.result z low high lo hi most least c.max.ensures.value c.min.ensures.value in
    rw c.in-Some.is kept
