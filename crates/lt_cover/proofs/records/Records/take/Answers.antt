use Rattle.std.proofs.Common.{◌∙◌, ap, ◌++◌, ◌∷◌, [], append_assoc}
use Rattle.lt_cover.specs.Coverage.Records.{state_of}
use Rattle.lt_cover.proofs.Rests.{nothing_done, field_joined, field_ended, row_ended}
use Rattle.lt_cover.proofs.records.Records.take.Goals as goal

pub returns-in-Nothing : goal.returns-in-Nothing
returns-in-Nothing c rest all h =
    let old = c.args.self.now in
    (h.0, h.1, nothing_done (state_of old.position) c.step-position.result.0 c.step-position.result.1 c.args.byte old.fields.items old.bytes.items rest h.0 c.step-position.ensures c.in-Nothing.is h.2)

pub returns-in_ok-push-in-JoinsField : goal.returns-in_ok-push-in-JoinsField
returns-in_ok-push-in-JoinsField c rest all h =
    let old = c.args.self.now in
    (h.0, h.1, field_joined (state_of old.position) c.step-position.result.0 c.step-position.result.1 c.args.byte old.fields.items old.bytes.items c.push.new.self.items rest h.0 c.step-position.ensures c.in-JoinsField.is c.in_ok-push-in-JoinsField.ensures.items h.2)

pub returns-in_ok-end_field-in-EndsField : goal.returns-in_ok-end_field-in-EndsField
returns-in_ok-end_field-in-EndsField c rest all h =
    let old = c.args.self.now in
    let new = c.end_field.new.self in
    let ensured = c.in_ok-end_field-in-EndsField.ensures in
    (h.0, h.1 ∙ ap (λ rows. rows.items ++ h.0) ensured.rows, field_ended (state_of old.position) c.step-position.result.0 c.step-position.result.1 c.args.byte old.fields.items new.fields.items old.bytes.items new.bytes.items rest h.0 c.step-position.ensures c.in-EndsField.is ensured.fields ensured.bytes (rw ensured.position at h.2))

pub returns-in_ok-end_row-in-EndsRow : goal.returns-in_ok-end_row-in-EndsRow
returns-in_ok-end_row-in-EndsRow c rest all h =
    let old = c.args.self.now in
    let new = c.end_row.new.self in
    let ensured = c.in_ok-end_row-in-EndsRow.ensures in
    let row = old.fields.items ++ old.bytes.items ∷ [] in
    (row ∷ h.0, h.1 ∙ (ap (λ rows. rows ++ h.0) ensured.rows ∙ append_assoc old.rows.items (row ∷ []) h.0), row_ended (state_of old.position) c.step-position.result.0 c.step-position.result.1 c.args.byte old.fields.items new.fields.items old.bytes.items new.bytes.items rest h.0 c.step-position.ensures c.in-EndsRow.is ensured.fields ensured.bytes (rw ensured.position at h.2))
