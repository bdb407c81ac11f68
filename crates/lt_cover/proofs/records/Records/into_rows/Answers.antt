use Rattle.std.proofs.Common.{◌∙◌, ap, sym, ◌++◌, ◌∷◌, []}
use Rattle.std.proofs.lemmas.List.{append-nil}
use Rattle.lt_cover.specs.Coverage.Records.{state_of}
use Rattle.lt_cover.proofs.Rests.{row_at_end, none_at_end}
use Rattle.lt_cover.proofs.records.Records.into_rows.Goals as goal
use Rattle.lt_cover.proofs.records.Records.into_rows.Goals.{then-ends_at_end+in_ok-end_row, else-ends_at_end}

pub returns : goal.returns
returns c =
    let old = c.args.self in
    elim c.if-ends_at_end.branch [
      | then-ends_at_end+in_ok-end_row w ↦ ((old.fields.items ++ old.bytes.items ∷ []) ∷ [], ap (λ r. r.rows.items) w.self-is ∙ w.in_ok-end_row.ensures.rows, row_at_end (state_of old.position) old.fields.items old.bytes.items (sym c.ends_at_end.ensures ∙ w.if-ends_at_end.true))
      | else-ends_at_end w ↦ ([], ap (λ r. r.rows.items) w.self-is ∙ sym (append-nil old.rows.items), none_at_end (state_of old.position) old.fields.items old.bytes.items (sym c.ends_at_end.ensures ∙ w.if-ends_at_end.false))
    ]
