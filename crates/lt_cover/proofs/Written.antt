-- What is written of a table is read as the same table.
use Rattle.std.proofs.Common.{◌≡◌, ℕ, List, [], ◌∷◌, ◌++◌, refl, sym, ap, subst, ◌∙◌, Some, None}
use Rattle.std.specs.Prelude.{All, map, codes}
use Rattle.std.specs.List.{flat_map}
use Rattle.std.specs.Fmt.{decimal}
use Rattle.std.proofs.lemmas.List.Concat.{flat_map-cons}
use Rattle.std.proofs.lemmas.List.Elements.{All-cons, All-head, All-tail, All-map, All-weaker}
use Rattle.csv.specs.Machine.{next_record}
use Rattle.csv.specs.Reading.{AreRecords, Reached, default_config, strip_bom}
use Rattle.csv.specs.Writing.{default_writer, row_text, read_back}
use Rattle.csv.specs.declared.parser.State.TheVariants.{StartRecord}
use Rattle.csv.proofs.RoundTrip.{read-write}
use Rattle.lt_cover.specs.declared.rows.Row.{Row}
use Rattle.lt_cover.specs.declared.rows.Row.TheVariants.{Test, Label, Hyper}
use Rattle.lt_cover.specs.declared.rows.Version.TheVariants.{Two}
use Rattle.lt_cover.specs.Coverage.Table.{Table, IsTable}
use Rattle.lt_cover.specs.Coverage.Text.{IsCoverText, MayHold, cover_text, end_word, header, label_word, line, names_text, row_fields, rows_in, rows_of, state_word, version_word}
use Rattle.lt_cover.specs.Coverage.Rows.{IsRow}
use Rattle.lt_cover.proofs.Bare.{row_of_bare, bare_name, bare_names, bare_end, bare_tag, bare_id, bare_label_word, bare_state}
use Rattle.lt_cover.proofs.Tables.{each_row}

-- the row is written with no quotes, and read as it is
pub record IsLine (fields : List (List ℕ)) : Type 0 where
  pub bare : row_text default_writer fields ≡ line fields
  pub back : read_back fields ≡ fields

header_line : IsLine (header Two)
header_line = record { bare = row_of_bare (codes "ltest-cover") (version_word Two) (codes "tag") (codes "state") (codes "by") refl refl refl refl refl; back = refl }

row_line : (row : Row) → IsRow row → IsLine (row_fields row)
row_line (Test t) h = record { bare = row_of_bare (codes "test") t.name [] (end_word t.end) [] refl (bare_name t.name h.name) refl (bare_end t.end h.end) refl; back = refl }
row_line (Label l) h = record { bare = row_of_bare (codes "label") (decimal l.id) l.tag (label_word l.by) (names_text l.by) refl (bare_id l.id h.row.id) (bare_tag l.tag h.row.tag) (bare_label_word l.by) (bare_names l.by h.by.each); back = refl }
row_line (Hyper x) h = record { bare = row_of_bare (codes "hyper") (decimal x.id) x.tag (state_word x.state) [] refl (bare_id x.id h.id) (bare_tag x.tag h.tag) (bare_state x.state) refl; back = refl }

reached : (rows : List (List (List ℕ))) → All IsLine rows → Reached default_config StartRecord (flat_map line rows) rows StartRecord []
unfolding Reached
reached [] h = (refl, refl)
reached (fields ∷ rows) h =
    let this : IsLine fields = All-head IsLine fields rows h in
    let text : flat_map line (fields ∷ rows) ≡ row_text default_writer fields ++ flat_map line rows = flat_map-cons line fields rows ∙ ap (λ z. z ++ flat_map line rows) (sym this.bare) in
    let next : next_record default_config StartRecord [] [] (flat_map line (fields ∷ rows)) ≡ Some (read_back fields, StartRecord, flat_map line rows) = ap (next_record default_config StartRecord [] []) text ∙ read-write fields (flat_map line rows) in
    ((read_back fields, StartRecord, flat_map line rows), next, sym this.back, reached rows (All-tail IsLine fields rows h))

no_end : next_record default_config StartRecord [] [] [] ≡ None
unfolding next_record
no_end = refl

no_mark : (t : Table) → strip_bom (cover_text t) ≡ cover_text t
unfolding strip_bom
no_mark t = refl

pub written : (t : Table) → IsTable t → IsCoverText (cover_text t) t
written t h =
    let rows = rows_of Two t in
    let each : All IsLine rows = All-cons IsLine (header Two) (map row_fields (rows_in t)) header_line (All-map IsLine row_fields (rows_in t) (All-weaker IsRow (λ r. IsLine (row_fields r)) row_line (rows_in t) (each_row t h))) in
    let records : AreRecords default_config StartRecord (cover_text t) rows = (StartRecord, [], reached rows each, no_end) in
    let holds : All (MayHold Two) t.labels = λ k d less. tt in
    (rows, subst (λ x. AreRecords default_config StartRecord x rows) (sym (no_mark t)) records, (Two, record { table = h; holds = holds; are = refl }))
