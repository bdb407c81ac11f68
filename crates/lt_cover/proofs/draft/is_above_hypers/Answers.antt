use Rattle.std.proofs.lemmas.Cmp.{nat_cmp_total}
use Rattle.lt_cover.specs.declared.rows.HyperRow.{HyperRow}
use Rattle.lt_cover.proofs.Drafts.{last_tells, last_told, lt_less, less_lt}
use Rattle.lt_cover.proofs.draft.is_above_hypers.Goals as goal

pub returns-in-Some : goal.returns-in-Some
returns-in-Some c =
    let rows = c.args.hypers.now in
    let id = c.args.id in
    let last = c.in-Some.last.now in
    let at = c.in-Some.ensures.item.3 in (
      λ yes. last_tells nat_cmp_total (λ (r : HyperRow). r.id) rows id last c.requires at.0 at.1 (lt_less last.id id yes),
      λ h. less_lt last.id id (last_told nat_cmp_total (λ (r : HyperRow). r.id) rows id last at.0 at.1 h),
    )
