use Rattle.std.proofs.Common.{arith}
use Rattle.std.proofs.lemmas.Int.{ints}
use Rattle.lt_value.proofs.Cuts.{if_none_of}
use Rattle.lt_value.proofs.Relations.{less_refined, less_none_left, less_none_right}
use Rattle.lt_value.proofs.relation.less.Goals as goal

pub returns-in_err-left-clause-none : goal.returns-in_err-left-clause-none
returns-in_err-left-clause-none c =
    let n = c.args.b.now.canonical in
    if_none_of _ c.from_residual.result (less_none_left c.args.a.now c.args.b.now c.args.gap _ c.in_err-left.ensures.none (omega (arith, ints, c.requires.above, c.requires.below, n.least, n.greatest, n.ordered)))

pub returns-in_err-right-clause-none : goal.returns-in_err-right-clause-none
returns-in_err-right-clause-none c =
    let n = c.args.a.now.canonical in
    if_none_of _ c.from_residual-in_err-right.result (less_none_right c.args.a.now c.args.b.now c.args.gap _ c.in_err-right.ensures.none (omega (arith, ints, c.requires.above, c.requires.below, n.least, n.greatest, n.ordered)))

pub returns-clause-some : goal.returns-clause-some
returns-clause-some c =
    let m = c.args.b.now.canonical in
    let n = c.args.a.now.canonical in
    less_refined c.args.a.now c.args.b.now c.in_ok-left.left c.in_ok-right.right c.args.gap _ _ c.in_ok-left.ensures.some c.in_ok-right.ensures.some
    (omega (arith, ints, c.requires.above, c.requires.below, m.least, m.greatest, m.ordered))
    (omega (arith, ints, c.requires.above, c.requires.below, n.least, n.greatest, n.ordered))
