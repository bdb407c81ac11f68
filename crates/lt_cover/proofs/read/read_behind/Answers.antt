use Rattle.std.proofs.Common.{◌∷◌, [], refl, sym, subst, ap, ◌∙◌, true, false, ◌+◌, min}
use Rattle.lt_cover.specs.Coverage.Table.{Table}
use Rattle.lt_cover.specs.Coverage.Text.{AreRowsOf, header, row_number}
use Rattle.lt_cover.specs.Coverage.Rows.{Takes}
use Rattle.lt_cover.specs.Coverage.Draft.{table_of}
use Rattle.lt_cover.proofs.Follows.{first_row}
use Rattle.lt_cover.proofs.Fronts.{taken_as, front_grown, each_grown, first_broken, number_more, first_each}
use Rattle.lt_cover.proofs.read.read_behind.Goals as goal

pub loop-fields-init : goal.loop-fields-init
loop-fields-init c = record {
  version = c.new-draft.ensures.version;
  front = subst (λ (t : Table). AreRowsOf c.args.version t (header c.args.version ∷ [])) (sym c.new-draft.ensures.table) (first_row c.args.version);
  each = first_each c.args.version c.args.rows.now;
  number = refl;
}

pub returns-then-not-branch : goal.returns-then-not-branch
returns-then-not-branch c =
    let draft = c.loop-fields.draft in
    let i = c.loop-fields.fields-index in
    let kept = c.loop-fields.invariant in
    let after = table_of c.take.new.self in
    let taken : Takes c.args.version (table_of draft) c.fields-item.result false after = taken_as draft.version c.args.version (table_of draft) c.as_slice.result.now c.fields-item.result c.in_ok-take.field-0 false after kept.version c.as_slice.ensures c.if-not-branch.true c.in_ok-take.ensures.row in (
      i + 1 + 1,
      first_broken c.args.version (table_of draft) c.args.rows.now i c.fields-item.result c.loop-fields-test.true c.fields-item.is kept.front after taken kept.each,
      c.saturating_add-number.ensures ∙ (ap (λ n. min (n + 1) 4294967295) kept.number ∙ number_more (row_number (i + 1)) (i + 1) refl),
    )

pub loop-fields-preserved : goal.loop-fields-preserved
loop-fields-preserved c =
    let draft = c.loop-fields.draft in
    let i = c.loop-fields.fields-index in
    let kept = c.loop-fields.invariant in
    let after = table_of c.take.new.self in
    let taken : Takes c.args.version (table_of draft) c.fields-item.result true after = taken_as draft.version c.args.version (table_of draft) c.as_slice.result.now c.fields-item.result c.in_ok-take.field-0 true after kept.version c.as_slice.ensures c.if-not-branch.false c.in_ok-take.ensures.row in
    record {
      version = c.in_ok-take.ensures.version ∙ kept.version;
      front = front_grown c.args.version (table_of draft) c.args.rows.now i c.fields-item.result c.loop-fields-test.true c.fields-item.is kept.front after taken;
      each = each_grown c.args.version (table_of draft) c.args.rows.now i c.fields-item.result c.loop-fields-test.true c.fields-item.is kept.front after taken kept.each;
      number = c.saturating_add-number.ensures ∙ (ap (λ n. min (n + 1) 4294967295) kept.number ∙ number_more (row_number (i + 1)) (i + 1) refl);
    }
