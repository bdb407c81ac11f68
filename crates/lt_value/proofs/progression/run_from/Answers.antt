use Rattle.std.proofs.Common.{◌∙◌}
use Rattle.lt_value.proofs.Meets.{run_ends, run_is, sum_code, lo_code}
use Rattle.lt_value.proofs.progression.run_from.Goals as goal

pub progression-requires : goal.progression-requires
progression-requires c =
    let r = c.requires in
    let m = c.greatest_multiple-reach.ensures in
    run_ends c.args.lo _ _ _ _ _ r.least r.greatest r.step m (lo_code _ _ r.least r.greatest) (sum_code _ _ _ r.least r.greatest m.within)

pub returns : goal.returns
returns c =
    let r = c.requires in
    let m = c.greatest_multiple-reach.ensures in
    let p = c.progression.ensures in
    run_is c.progression.result _ _ _ c.greatest_multiple-reach.result (p.lo ∙ lo_code _ _ r.least r.greatest) (p.hi ∙ sum_code _ _ _ r.least r.greatest m.within) p.step m.within m.greatest
