use Rattle.std.proofs.Common.{rules, sym}
use Rattle.lt_cover.proofs.Ids.{not_begun, id_is_utf8, id_parsed, none_parsed, some_parsed, id_too_great, fact_from_none}
use Rattle.lt_cover.proofs.values.id_of.Goals as goal

pub returns-then-not-begins_well : goal.returns-then-not-begins_well
returns-then-not-begins_well c = not_begun c.args.word.now (sym c.if-not-begins_well.ensures)

pub returns-in_err-ok : goal.returns-in_err-ok
returns-in_err-ok c = rw c.from_residual.ensures (λ x id is. fact_from_none c.from_utf8.result c.ok.result _ _ ⊥ c.ok.ensures.value c.in_err-ok.was c.from_utf8.ensures.cases (λ e no_text. no_text.0 (id_is_utf8 c.args.word.now x id is)))

pub returns-in_err-id : goal.returns-in_err-id
returns-in_err-id c =
    rw c.from_residual-in_err-id.ensures
    (none_parsed c.args.word.now c.ok-2.result c.in_err-id.was (id_parsed c.args.word.now c.in_ok-ok.field-0.now c.parse.result c.ok-2.result (sym c.if-not-begins_well.ensures) (search rules) c.parse.ensures.value.0 c.ok-2.ensures.value))

pub returns-then-id-gt-MOST_ID : goal.returns-then-id-gt-MOST_ID
returns-then-id-gt-MOST_ID c =
    let parsed = id_parsed c.args.word.now c.in_ok-ok.field-0.now c.parse.result c.ok-2.result (sym c.if-not-begins_well.ensures) (search rules) c.parse.ensures.value.0 c.ok-2.ensures.value in
    id_too_great c.args.word.now c.in_ok-id.id (some_parsed c.args.word.now c.ok-2.result c.in_ok-id.id c.in_ok-id.was parsed) c.if-id-gt-MOST_ID.true

pub returns : goal.returns
returns c =
    let parsed = id_parsed c.args.word.now c.in_ok-ok.field-0.now c.parse.result c.ok-2.result (sym c.if-not-begins_well.ensures) (search rules) c.parse.ensures.value.0 c.ok-2.ensures.value in
    let known = some_parsed c.args.word.now c.ok-2.result c.in_ok-id.id c.in_ok-id.was parsed in
    ((known.0, c.if-id-gt-MOST_ID.false), known.2)
