-- The table of the tests so far, as it lies in memory.
use Rattle.std.specs.Prelude.{◌≡◌, ◌==◌, ℕ, List, [], ◌∷◌, ◌++◌, map, find, All, Option, option_map, if◌then◌else◌}
use Rattle.std.specs.List.{list_any}
use Rattle.std.specs.Ordering.{nat_cmp}
use Rattle.std.specs.BTreeMap.{BTreeMap, IsOrdered, get, values}
use Rattle.lt_tree.specs.Typing.Entities.{Label}
use Rattle.lt_cover.specs.declared.rows.LabelRow.{LabelRow}
use Rattle.lt_cover.specs.Coverage.Table.{Table}
use Rattle.lt_replay.specs.declared.draft.Tagged.{Tagged}
use Rattle.lt_replay.specs.declared.draft.Draft.{Draft}
use Rattle.lt_replay.specs.declared.seen.Seen.{Seen}

-- ---- labels

abbrev pub row_of : ℕ × Tagged → LabelRow
row_of entry = record { id = entry.0; tag = entry.1.tag; by = entry.1.by.items }

-- in the order of their ids
abbrev pub rows_of : BTreeMap ℕ Tagged → List LabelRow
rows_of labels = map row_of labels.entries

-- each id that a label has is there, with the tag of the first label that has it, and no test covers one
pub record HasLabels (labels : List Label) (held : BTreeMap ℕ Tagged) : Type 0 where
  pub ordered : IsOrdered nat_cmp held
  pub tags : (id : ℕ) → option_map (λ it. it.tag) (get nat_cmp held id) ≡ option_map (λ label. label.tag) (find (λ label. label.id == id) labels)
  pub uncovered : All (λ it. it.by.items ≡ []) (values held)

-- ---- tests

abbrev pub table_of : Draft → Table
table_of draft = record { tests = draft.tests.items; labels = rows_of draft.labels; hypers = [] }

-- with one more name, where the label is one of these
abbrev pub with_name : List ℕ → (ids : List ℕ) → LabelRow → LabelRow
with_name name ids row = record row { by = if list_any (λ id. id == row.id) ids then row.by ++ name ∷ [] else row.by }

-- with one more test
abbrev pub with_test : List ℕ → Seen → Table → Table
with_test name seen table = record table {
  tests = table.tests ++ record { name = name; end = seen.end } ∷ [];
  labels = map (with_name name seen.covered.keys) table.labels;
}
