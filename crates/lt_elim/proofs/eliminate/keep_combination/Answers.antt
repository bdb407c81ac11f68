use Rattle.std.proofs.Common.{rules, ◌≡◌, sym, subst, ◌++◌}
use mir.Val.{SFits}
use mir.Syntax.{w128}
use Rattle.lt_elim.specs.Combination.{combination}
use Rattle.lt_elim.specs.Tracing.{IsKnownAs}
use Rattle.lt_elim.proofs.Combining.{if_ok_more}
use Rattle.lt_elim.proofs.Combined.{line_is, same_pairs}
use Rattle.lt_elim.proofs.Tracing.{traced_from, known_more}
use Rattle.lt_elim.proofs.eliminate.keep_combination.Goals as goal

pub returns-clause-traced : goal.returns-clause-traced
returns-clause-traced c =
    let k : SFits w128 c.pair_of.result.of_raising = search rules in
    let l : SFits w128 c.pair_of.result.of_lowering = search rules in
    let s : SFits w128 c.in-Some.sum.constant = search rules in
    let made = rw c.in-Some.is at c.in_ok-combined.ensures in
    let g = c.in_ok-number.ensures in
    let p = c.pair_of.ensures.multipliers in
    let is : combination c.args.variable c.args.raising.now.row c.args.lowering.now.row ≡ record { terms = c.in-Some.sum.terms.items; constant = c.in-Some.sum.constant } = sym made.1 in
    if_ok_more c.keep.result (λ e h rows known t a.
    let line = line_is c.args.limited known c.args.variable c.args.raising.now.row c.args.lowering.now.row c.args.raising.now.number c.args.lowering.now.number c.requires made.0 a.0 a.1.0 in
    let x = g rows known (combination c.args.variable c.args.raising.now.row c.args.lowering.now.row) t.derives (same_pairs known c.args.variable c.args.raising.now.row c.args.lowering.now.row (combination c.args.variable c.args.raising.now.row c.args.lowering.now.row) c.pair_of.result.raising c.pair_of.result.lowering c.args.raising.now.number c.args.lowering.now.number c.pair_of.result.of_raising c.pair_of.result.of_lowering c.pair_of.ensures.raising c.pair_of.ensures.lowering p line) in
    traced_from rows known x.more c.keep.new.log c.keep.new.kept.numbered e
    (h rows (known ++ x.more) (record { derives = x.derives; are_known = known_more known x.more c.args.kept.now.numbered t.are_known }) (subst (IsKnownAs (known ++ x.more) c.in_ok-number.number) is x.is_known, tt))) c.keep.ensures.traced
