-- The rows of a table tell the table.
use Rattle.std.proofs.Common.{◌≡◌, List, [], ◌∷◌, ◌++◌, get_or, refl, sym, ap, ◌∙◌}
use Rattle.std.specs.Prelude.{All, map}
use Rattle.std.proofs.lemmas.List.{append-nil}
use Rattle.std.proofs.lemmas.List.Elements.{All-append, All-map}
use Rattle.lt_cover.specs.declared.rows.TestRow.{TestRow}
use Rattle.lt_cover.specs.declared.rows.LabelRow.{LabelRow}
use Rattle.lt_cover.specs.declared.rows.HyperRow.{HyperRow}
use Rattle.lt_cover.specs.declared.rows.Row.{Row}
use Rattle.lt_cover.specs.declared.rows.Row.TheVariants.{Test, Label, Hyper}
use Rattle.lt_cover.specs.Coverage.Table.{Table, IsTable}
use Rattle.lt_cover.specs.Coverage.Text.{row_fields, rows_in}
use Rattle.lt_cover.specs.Coverage.Rows.{IsRow, IsLabelForm}
use Rattle.lt_cover.proofs.NameFields.{label_form}
use Rattle.lt_cover.proofs.RowFields.{rows_inj}

-- the tests, labels and hyperlabels among rows
unfoldable pub tests_in : List Row → List TestRow
tests_in [] = []
tests_in (Test t ∷ rows) = t ∷ tests_in rows
tests_in (Label l ∷ rows) = tests_in rows
tests_in (Hyper h ∷ rows) = tests_in rows

unfoldable pub labels_in : List Row → List LabelRow
labels_in [] = []
labels_in (Test t ∷ rows) = labels_in rows
labels_in (Label l ∷ rows) = l ∷ labels_in rows
labels_in (Hyper h ∷ rows) = labels_in rows

unfoldable pub hypers_in : List Row → List HyperRow
hypers_in [] = []
hypers_in (Test t ∷ rows) = hypers_in rows
hypers_in (Label l ∷ rows) = hypers_in rows
hypers_in (Hyper h ∷ rows) = h ∷ hypers_in rows

hypers_of_hypers : (h : List HyperRow) → hypers_in (map Hyper h) ≡ h
unfolding hypers_in
hypers_of_hypers [] = refl
hypers_of_hypers (x ∷ h) = ap (λ r. x ∷ r) (hypers_of_hypers h)

tests_of_hypers : (h : List HyperRow) → tests_in (map Hyper h) ≡ []
unfolding tests_in
tests_of_hypers [] = refl
tests_of_hypers (x ∷ h) = tests_of_hypers h

labels_of_hypers : (h : List HyperRow) → labels_in (map Hyper h) ≡ []
unfolding labels_in
labels_of_hypers [] = refl
labels_of_hypers (x ∷ h) = labels_of_hypers h

tests_of_labels : (l : List LabelRow) (rest : List Row) → tests_in (map Label l ++ rest) ≡ tests_in rest
unfolding tests_in
tests_of_labels [] rest = refl
tests_of_labels (x ∷ l) rest = tests_of_labels l rest

labels_of_labels : (l : List LabelRow) (rest : List Row) → labels_in (map Label l ++ rest) ≡ l ++ labels_in rest
unfolding labels_in
labels_of_labels [] rest = refl
labels_of_labels (x ∷ l) rest = ap (λ r. x ∷ r) (labels_of_labels l rest)

hypers_of_labels : (l : List LabelRow) (rest : List Row) → hypers_in (map Label l ++ rest) ≡ hypers_in rest
unfolding hypers_in
hypers_of_labels [] rest = refl
hypers_of_labels (x ∷ l) rest = hypers_of_labels l rest

tests_of_tests : (t : List TestRow) (rest : List Row) → tests_in (map Test t ++ rest) ≡ t ++ tests_in rest
unfolding tests_in
tests_of_tests [] rest = refl
tests_of_tests (x ∷ t) rest = ap (λ r. x ∷ r) (tests_of_tests t rest)

labels_of_tests : (t : List TestRow) (rest : List Row) → labels_in (map Test t ++ rest) ≡ labels_in rest
unfolding labels_in
labels_of_tests [] rest = refl
labels_of_tests (x ∷ t) rest = labels_of_tests t rest

hypers_of_tests : (t : List TestRow) (rest : List Row) → hypers_in (map Test t ++ rest) ≡ hypers_in rest
unfolding hypers_in
hypers_of_tests [] rest = refl
hypers_of_tests (x ∷ t) rest = hypers_of_tests t rest

pub tests_are : (t : Table) → tests_in (rows_in t) ≡ t.tests
tests_are t =
    tests_of_tests t.tests (map Label t.labels ++ map Hyper t.hypers)
    ∙ (ap (λ r. t.tests ++ r) (tests_of_labels t.labels (map Hyper t.hypers) ∙ tests_of_hypers t.hypers) ∙ append-nil t.tests)

pub labels_are : (t : Table) → labels_in (rows_in t) ≡ t.labels
labels_are t =
    labels_of_tests t.tests (map Label t.labels ++ map Hyper t.hypers)
    ∙ (labels_of_labels t.labels (map Hyper t.hypers) ∙ (ap (λ r. t.labels ++ r) (labels_of_hypers t.hypers) ∙ append-nil t.labels))

pub hypers_are : (t : Table) → hypers_in (rows_in t) ≡ t.hypers
hypers_are t =
    hypers_of_tests t.tests (map Label t.labels ++ map Hyper t.hypers)
    ∙ (hypers_of_labels t.labels (map Hyper t.hypers) ∙ hypers_of_hypers t.hypers)

table_same : (a b : Table) → a.tests ≡ b.tests → a.labels ≡ b.labels → a.hypers ≡ b.hypers → a ≡ b
table_same a b p q r = λ i. record { tests = p i; labels = q i; hypers = r i }

-- the rows behind the first tell the table
rows_tell : (a b : Table) → rows_in a ≡ rows_in b → a ≡ b
rows_tell a b e = table_same a b (sym (tests_are a) ∙ (ap tests_in e ∙ tests_are b)) (sym (labels_are a) ∙ (ap labels_in e ∙ labels_are b)) (sym (hypers_are a) ∙ (ap hypers_in e ∙ hypers_are b))

pub each_form : (t : Table) → IsTable t → All IsLabelForm t.labels
each_form t h = λ i d within. label_form t.tests (get_or t.labels i d) h.each_test (h.each_label i d within) (h.ordered.covered i d within)

pub each_row : (t : Table) → IsTable t → All IsRow (rows_in t)
each_row t h =
    All-append IsRow (map Test t.tests) (map Label t.labels ++ map Hyper t.hypers) (All-map IsRow Test t.tests h.each_test)
    (All-append IsRow (map Label t.labels) (map Hyper t.hypers) (All-map IsRow Label t.labels (each_form t h)) (All-map IsRow Hyper t.hypers h.each_hyper))

-- the rows of two tables are those of one
pub table_inj : (a b : Table) → IsTable a → IsTable b → map row_fields (rows_in a) ≡ map row_fields (rows_in b) → a ≡ b
table_inj a b ha hb e = rows_tell a b (rows_inj (rows_in a) (rows_in b) (each_row a ha) (each_row b hb) e)
