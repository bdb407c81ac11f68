use Rattle.std.proofs.Common.{ℕ, List, [], ◌∷◌, map, ap, ◌∙◌}
use Rattle.std.proofs.lemmas.List.{map-append}
use Rattle.lt_cover.specs.declared.rows.LabelRow.{LabelRow}
use Rattle.lt_merge.specs.Keys.{key_of}
use Rattle.lt_merge.specs.declared.agree.Key.{Key}
use Rattle.lt_cover.proofs.Loops.{more_mapped, all_mapped}
use Rattle.lt_merge.proofs.agree.keys_of_labels.Goals as goal

pub loop-label-preserved : goal.loop-label-preserved
loop-label-preserved c =
    let row = c.label-item.result in
    let key : Key = record { id = row.id; tag = c.as_slice.result } in
    more_mapped (λ (x : LabelRow). (x.id, x.tag)) _ _ _ _ row (key_of key) c.loop-label-test.true c.label-item.is c.loop-label.invariant (ap (λ (t : List ℕ). (row.id, t)) c.as_slice.ensures)
    (ap (map key_of) c.in_ok-push.ensures.items ∙ map-append key_of c.loop-label.keys.items (key ∷ []))

pub returns : goal.returns
returns c = all_mapped (λ (x : LabelRow). (x.id, x.tag)) _ _ _ c.loop-label-test.false c.loop-label.invariant
