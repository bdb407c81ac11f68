use Rattle.std.proofs.Common.{◌∙◌, ap, sym}
use Rattle.std.specs.Ordering.{nat_cmp}
use Rattle.std.specs.Cmp.Lexicographic.{slice_cmp}
use Rattle.std.proofs.lemmas.Cmp.{nat_list_cmp_total}
use Rattle.lt_cover.specs.declared.rows.TestRow.{TestRow}
use Rattle.lt_cover.proofs.Drafts.{last_tells, last_told, index_less, less_index}
use Rattle.lt_cover.proofs.draft.is_above_tests.Goals as goal

pub returns-in-Some : goal.returns-in-Some
returns-in-Some c =
    let tests = c.args.tests.now in
    let name = c.args.name.now in
    let last = c.in-Some.last.now in
    let at = c.in-Some.ensures.item.3 in
    let read = ap (λ n. slice_cmp nat_cmp n name) c.as_slice.ensures in (
      λ yes. last_tells nat_list_cmp_total (λ (t : TestRow). t.name) tests name last c.requires at.0 at.1 (sym read ∙ (sym c.cmp.ensures ∙ index_less c.cmp.result c.eq.result c.eq.ensures yes)),
      λ h. less_index c.cmp.result c.eq.result c.eq.ensures (c.cmp.ensures ∙ (read ∙ last_told nat_list_cmp_total (λ (t : TestRow). t.name) tests name last at.0 at.1 h)),
    )
