-- The rows of a table with one row more.
use Rattle.std.proofs.Common.{◌≡◌, ℕ, List, [], ◌∷◌, ◌++◌, get_or, map, refl, sym, ap, subst, ◌∙◌, arith, append_assoc}
use Rattle.std.specs.Prelude.{All, Contains}
use Rattle.std.specs.Ordering.{nat_cmp}
use Rattle.std.specs.Cmp.Lexicographic.{slice_cmp}
use Rattle.std.specs.List.Sorted.{IsStrictlySortedBy}
use Rattle.std.proofs.lemmas.List.{append-nil, map-append}
use Rattle.std.proofs.lemmas.List.Elements.{All-nil, All-head, All-tail, All-push, All-append, All-map, All-same}
use Rattle.lt_cover.specs.declared.rows.TestRow.{TestRow}
use Rattle.lt_cover.specs.declared.rows.LabelRow.{LabelRow}
use Rattle.lt_cover.specs.declared.rows.HyperRow.{HyperRow}
use Rattle.lt_cover.specs.declared.rows.Row.{Row}
use Rattle.lt_cover.specs.declared.rows.Row.TheVariants.{Test, Label, Hyper}
use Rattle.lt_cover.specs.declared.rows.Version.{Version}
use Rattle.lt_cover.specs.declared.rows.Version.TheVariants.{One, Two}
use Rattle.lt_cover.specs.Coverage.Table.{Table, IsOrdered, IsTable, IsTestRow, IsLabelRow, IsHyperRow, IsCoveredBy, NamesRise, names_of, label_ids, hyper_ids}
use Rattle.lt_cover.specs.Coverage.Text.{AreRowsOf, StandFor, MayHold, header, row_fields, rows_in}
use Rattle.lt_cover.specs.Coverage.Rows.{IsRow, MayFollow, added}
use Rattle.lt_cover.proofs.RowFields.{row_inj}
use Rattle.lt_cover.proofs.Tables.{each_row, tests_in, labels_in, hypers_in, tests_are, labels_are, hypers_are}
use Rattle.lt_cover.proofs.Rising.{rise_nil, rise_push, rise_back}

-- the row comes last
rows_added : (version : Version) (t : Table) (row : Row) → MayFollow version t row → rows_in (added t row) ≡ rows_in t ++ row ∷ []
rows_added version t (Test x) h =
    behind (t.tests) x t.labels t.hypers h.labels h.hypers
  where
    behind : (tests : List TestRow) (x : TestRow) (labels : List LabelRow) (hypers : List HyperRow) → labels ≡ [] → hypers ≡ [] → map Test (tests ++ x ∷ []) ++ (map Label labels ++ map Hyper hypers) ≡ (map Test tests ++ (map Label labels ++ map Hyper hypers)) ++ Test x ∷ []
    behind tests x labels hypers l e = rw (l, e) (simp (map-append, append-nil))
rows_added version t (Label x) h = behind t.tests t.labels x t.hypers h.hypers
  where
    behind : (tests : List TestRow) (labels : List LabelRow) (x : LabelRow) (hypers : List HyperRow) → hypers ≡ [] → map Test tests ++ (map Label (labels ++ x ∷ []) ++ map Hyper hypers) ≡ (map Test tests ++ (map Label labels ++ map Hyper hypers)) ++ Label x ∷ []
    behind tests labels x hypers e = rw e (simp (map-append, append-nil, append_assoc))
rows_added version t (Hyper x) h = behind t.tests t.labels t.hypers x
  where
    behind : (tests : List TestRow) (labels : List LabelRow) (hypers : List HyperRow) (x : HyperRow) → map Test tests ++ (map Label labels ++ map Hyper (hypers ++ x ∷ [])) ≡ (map Test tests ++ (map Label labels ++ map Hyper hypers)) ++ Hyper x ∷ []
    behind tests labels hypers x = simp (map-append, append_assoc)

names_push : (tests : List TestRow) (x : TestRow) → names_of (tests ++ x ∷ []) ≡ names_of tests ++ x.name ∷ []
names_push tests x = map-append (λ (t : TestRow). t.name) tests (x ∷ [])

label_ids_push : (labels : List LabelRow) (x : LabelRow) → label_ids (labels ++ x ∷ []) ≡ label_ids labels ++ x.id ∷ []
label_ids_push labels x = map-append (λ (l : LabelRow). l.id) labels (x ∷ [])

hyper_ids_push : (hypers : List HyperRow) (x : HyperRow) → hyper_ids (hypers ++ x ∷ []) ≡ hyper_ids hypers ++ x.id ∷ []
hyper_ids_push hypers x = map-append (λ (h : HyperRow). h.id) hypers (x ∷ [])

order_added : (version : Version) (t : Table) (row : Row) → IsOrdered t → IsRow row → MayFollow version t row → IsOrdered (added t row)
order_added version t (Test x) order form h = record {
  tests_rise = subst NamesRise (sym (names_push t.tests x)) (rise_push (slice_cmp nat_cmp) (names_of t.tests) x.name order.tests_rise h.above);
  labels_rise = order.labels_rise;
  hypers_rise = order.hypers_rise;
  covered = All-same (IsCoveredBy (names_of (t.tests ++ x ∷ []))) t.labels [] h.labels (All-nil (IsCoveredBy (names_of (t.tests ++ x ∷ []))));
}
order_added version t (Label x) order form h = record {
  tests_rise = order.tests_rise;
  labels_rise = subst (IsStrictlySortedBy nat_cmp) (sym (label_ids_push t.labels x)) (rise_push nat_cmp (label_ids t.labels) x.id order.labels_rise h.above);
  hypers_rise = order.hypers_rise;
  covered = All-push (IsCoveredBy (names_of t.tests)) t.labels x order.covered (record { rise = form.by.rise; known = h.known });
}
order_added version t (Hyper x) order form h = record {
  tests_rise = order.tests_rise;
  labels_rise = order.labels_rise;
  hypers_rise = subst (IsStrictlySortedBy nat_cmp) (sym (hyper_ids_push t.hypers x)) (rise_push nat_cmp (hyper_ids t.hypers) x.id order.hypers_rise h);
  covered = order.covered;
}

table_added : (version : Version) (t : Table) (row : Row) → IsTable t → IsRow row → MayFollow version t row → IsTable (added t row)
table_added version t (Test x) table form h = record {
  ordered = order_added version t (Test x) table.ordered form h;
  each_test = All-push IsTestRow t.tests x table.each_test form;
  each_label = table.each_label;
  each_hyper = table.each_hyper;
}
table_added version t (Label x) table form h = record {
  ordered = order_added version t (Label x) table.ordered form h;
  each_test = table.each_test;
  each_label = All-push IsLabelRow t.labels x table.each_label form.row;
  each_hyper = table.each_hyper;
}
table_added version t (Hyper x) table form h = record {
  ordered = order_added version t (Hyper x) table.ordered form h;
  each_test = table.each_test;
  each_label = table.each_label;
  each_hyper = All-push IsHyperRow t.hypers x table.each_hyper form;
}

holds_added : (version : Version) (t : Table) (row : Row) → All (MayHold version) t.labels → MayFollow version t row → All (MayHold version) (added t row).labels
holds_added version t (Test x) holds h = holds
holds_added version t (Label x) holds h = All-push (MayHold version) t.labels x holds h.holds
holds_added version t (Hyper x) holds h = holds

-- a table and a row that may follow it
pub grows : (version : Version) (t : Table) (row : Row) (rows : List (List (List ℕ))) → AreRowsOf version t rows → IsRow row → MayFollow version t row → AreRowsOf version (added t row) (rows ++ row_fields row ∷ [])
grows version t row rows are form h = record {
  table = table_added version t row are.table form h;
  holds = holds_added version t row are.holds h;
  are = ap (λ z. z ++ row_fields row ∷ []) are.are ∙ ap (λ z. header version ∷ z) (sym (map-append row_fields (rows_in t) (row ∷ [])) ∙ ap (map row_fields) (sym (rows_added version t row h)));
}

-- a list of rows behind which one row more stands
unmapped : (a b : List Row) (r : List (List ℕ)) → All IsRow a → All IsRow b → map row_fields b ≡ map row_fields a ++ r ∷ [] → (row : Row) × (b ≡ a ++ row ∷ []) × (row_fields row ≡ r) × IsRow row
unmapped [] [] r ha hb e = absurd (cc)
unmapped [] (y ∷ []) r ha hb e = (y, refl, head_is e, All-head IsRow y [] hb)
  where
    head_is : row_fields y ∷ [] ≡ r ∷ [] → row_fields y ≡ r
    head_is e = cc
unmapped [] (y ∷ z ∷ b) r ha hb e = absurd (more e)
  where
    more : row_fields y ∷ row_fields z ∷ map row_fields b ≡ r ∷ [] → ⊥
    more e = absurd (cc)
unmapped (x ∷ a) [] r ha hb e = absurd (cc)
unmapped (x ∷ a) (y ∷ b) r ha hb e =
    let head : row_fields y ≡ row_fields x = cc in
    let tail : map row_fields b ≡ map row_fields a ++ r ∷ [] = cc in
    let first : y ≡ x = row_inj y x (All-head IsRow y b hb) (All-head IsRow x a ha) head in
    let rest = unmapped a b r (All-tail IsRow x a ha) (All-tail IsRow y b hb) tail in
    (rest.0, (λ i. first i ∷ rest.1 i), rest.2, rest.3)

-- what the last row is not, the rows of later kinds all are
none_behind : (P : Row → Type 0) (ys zs a : List Row) (x : Row) → All P zs → (P x → ⊥) → ys ++ zs ≡ a ++ x ∷ [] → zs ≡ []
none_behind P [] zs a x each not e = absurd (not (last_of a zs e each))
  where
    last_of : (a zs : List Row) → zs ≡ a ++ x ∷ [] → All P zs → P x
    last_of [] zs e h = All-head P x [] (All-same P (x ∷ []) zs (sym e) h)
    last_of (b ∷ a) [] e h = absurd (cc)
    last_of (b ∷ a) (z ∷ zs) e h = let tail : zs ≡ a ++ x ∷ [] = cc in last_of a zs tail (All-tail P z zs h)
none_behind P (y ∷ []) [] [] x each not e = refl
none_behind P (y ∷ []) (z ∷ zs) [] x each not e = absurd (cc)
none_behind P (y ∷ w ∷ ys) zs [] x each not e = absurd (cc)
none_behind P (y ∷ ys) zs (b ∷ a) x each not e = let tail : ys ++ zs ≡ a ++ x ∷ [] = cc in none_behind P ys zs a x each not tail

abbrev IsNoTest : Row → Type 0
IsNoTest (Test x) = ⊥
IsNoTest (Label x) = Unit {0}
IsNoTest (Hyper x) = Unit {0}

abbrev IsNoLabel : Row → Type 0
IsNoLabel (Label x) = ⊥
IsNoLabel (Test x) = Unit {0}
IsNoLabel (Hyper x) = Unit {0}

unmap_nil : {X Y : Type 0} (f : X → Y) (xs : List X) → map f xs ≡ [] → xs ≡ []
unmap_nil f [] e = refl
unmap_nil f (x ∷ xs) e = absurd (cc)

left_nil : {X : Type 0} (xs ys : List X) → xs ++ ys ≡ [] → xs ≡ []
left_nil [] ys e = refl
left_nil (x ∷ xs) ys e = absurd (cc)

right_nil : {X : Type 0} (xs ys : List X) → xs ++ ys ≡ [] → ys ≡ []
right_nil [] ys e = e
right_nil (x ∷ xs) ys e = absurd (cc)

behind_test : (t : Table) (a : List Row) (x : TestRow) → rows_in t ≡ a ++ Test x ∷ [] → (t.labels ≡ []) × (t.hypers ≡ [])
behind_test t a x e =
    let labels : All IsNoTest (map Label t.labels) = All-map IsNoTest Label t.labels (λ k d less. tt) in
    let hypers : All IsNoTest (map Hyper t.hypers) = All-map IsNoTest Hyper t.hypers (λ k d less. tt) in
    let none = none_behind IsNoTest (map Test t.tests) (map Label t.labels ++ map Hyper t.hypers) a (Test x) (All-append IsNoTest (map Label t.labels) (map Hyper t.hypers) labels hypers) (λ h. h) e in
    (unmap_nil Label t.labels (left_nil (map Label t.labels) (map Hyper t.hypers) none), unmap_nil Hyper t.hypers (right_nil (map Label t.labels) (map Hyper t.hypers) none))

behind_label : (t : Table) (a : List Row) (x : LabelRow) → rows_in t ≡ a ++ Label x ∷ [] → t.hypers ≡ []
behind_label t a x e =
    let hypers : All IsNoLabel (map Hyper t.hypers) = All-map IsNoLabel Hyper t.hypers (λ k d less. tt) in
    unmap_nil Hyper t.hypers (none_behind IsNoLabel (map Test t.tests ++ map Label t.labels) (map Hyper t.hypers) a (Label x) hypers (λ h. h) (append_assoc (map Test t.tests) (map Label t.labels) (map Hyper t.hypers) ∙ e))

tests_push : (rows : List Row) (row : Row) → tests_in (rows ++ row ∷ []) ≡ tests_in rows ++ tests_in (row ∷ [])
unfolding tests_in
tests_push [] row = refl
tests_push (Test y ∷ rows) row = ap (λ z. y ∷ z) (tests_push rows row)
tests_push (Label y ∷ rows) row = tests_push rows row
tests_push (Hyper y ∷ rows) row = tests_push rows row

labels_push : (rows : List Row) (row : Row) → labels_in (rows ++ row ∷ []) ≡ labels_in rows ++ labels_in (row ∷ [])
unfolding labels_in
labels_push [] row = refl
labels_push (Test y ∷ rows) row = labels_push rows row
labels_push (Label y ∷ rows) row = ap (λ z. y ∷ z) (labels_push rows row)
labels_push (Hyper y ∷ rows) row = labels_push rows row

hypers_push : (rows : List Row) (row : Row) → hypers_in (rows ++ row ∷ []) ≡ hypers_in rows ++ hypers_in (row ∷ [])
unfolding hypers_in
hypers_push [] row = refl
hypers_push (Test y ∷ rows) row = hypers_push rows row
hypers_push (Label y ∷ rows) row = hypers_push rows row
hypers_push (Hyper y ∷ rows) row = ap (λ z. y ∷ z) (hypers_push rows row)

tests_grown : (t u : Table) (row : Row) → rows_in u ≡ rows_in t ++ row ∷ [] → u.tests ≡ t.tests ++ tests_in (row ∷ [])
tests_grown t u row e = sym (tests_are u) ∙ (ap tests_in e ∙ (tests_push (rows_in t) row ∙ ap (λ z. z ++ tests_in (row ∷ [])) (tests_are t)))

labels_grown : (t u : Table) (row : Row) → rows_in u ≡ rows_in t ++ row ∷ [] → u.labels ≡ t.labels ++ labels_in (row ∷ [])
labels_grown t u row e = sym (labels_are u) ∙ (ap labels_in e ∙ (labels_push (rows_in t) row ∙ ap (λ z. z ++ labels_in (row ∷ [])) (labels_are t)))

hypers_grown : (t u : Table) (row : Row) → rows_in u ≡ rows_in t ++ row ∷ [] → u.hypers ≡ t.hypers ++ hypers_in (row ∷ [])
hypers_grown t u row e = sym (hypers_are u) ∙ (ap hypers_in e ∙ (hypers_push (rows_in t) row ∙ ap (λ z. z ++ hypers_in (row ∷ [])) (hypers_are t)))

last_holds : {X : Type 0} (P : X → Type 0) (xs : List X) (x : X) → All P (xs ++ x ∷ []) → P x
last_holds P [] x h = All-head P x [] h
last_holds P (y ∷ xs) x h = last_holds P xs x (All-tail P y (xs ++ x ∷ []) h)

-- the last row of a table may follow the others
follows : (version : Version) (t u : Table) (row : Row) → IsTable u → All (MayHold version) u.labels → rows_in u ≡ rows_in t ++ row ∷ [] → MayFollow version t row
unfolding tests_in labels_in hypers_in
follows version t u (Test x) table holds e =
    let none = behind_test u (rows_in t) x e in
    let tests : u.tests ≡ t.tests ++ x ∷ [] = tests_grown t u (Test x) e in
    let labels : u.labels ≡ t.labels = labels_grown t u (Test x) e ∙ append-nil t.labels in
    let hypers : u.hypers ≡ t.hypers = hypers_grown t u (Test x) e ∙ append-nil t.hypers in
    record {
      labels = sym labels ∙ none.0;
      hypers = sym hypers ∙ none.1;
      above = rise_back (slice_cmp nat_cmp) (names_of t.tests) x.name (subst NamesRise (ap names_of tests ∙ names_push t.tests x) table.ordered.tests_rise);
    }
follows version t u (Label x) table holds e =
    let tests : u.tests ≡ t.tests = tests_grown t u (Label x) e ∙ append-nil t.tests in
    let labels : u.labels ≡ t.labels ++ x ∷ [] = labels_grown t u (Label x) e in
    let hypers : u.hypers ≡ t.hypers = hypers_grown t u (Label x) e ∙ append-nil t.hypers in
    let row : IsCoveredBy (names_of u.tests) x = last_holds (IsCoveredBy (names_of u.tests)) t.labels x (subst (All (IsCoveredBy (names_of u.tests))) labels table.ordered.covered) in
    record {
      hypers = sym hypers ∙ behind_label u (rows_in t) x e;
      above = rise_back nat_cmp (label_ids t.labels) x.id (subst (IsStrictlySortedBy nat_cmp) (ap label_ids labels ∙ label_ids_push t.labels x) table.ordered.labels_rise);
      known = subst (λ (z : List TestRow). All (λ name. Contains (names_of z) name) x.by) tests row.known;
      holds = last_holds (MayHold version) t.labels x (subst (All (MayHold version)) labels holds);
    }
follows version t u (Hyper x) table holds e =
    let hypers : u.hypers ≡ t.hypers ++ x ∷ [] = hypers_grown t u (Hyper x) e in
    rise_back nat_cmp (hyper_ids t.hypers) x.id (subst (IsStrictlySortedBy nat_cmp) (ap hyper_ids hypers ∙ hyper_ids_push t.hypers x) table.ordered.hypers_rise)

abbrev version_byte : List (List ℕ) → ℕ
version_byte fields = get_or (get_or fields 1 []) 0 0

same_version : (v w : Version) → header v ≡ header w → v ≡ w
same_version One One e = refl
same_version One Two e = absurd (omega (arith, ap version_byte e))
same_version Two One e = absurd (omega (arith, ap version_byte e))
same_version Two Two e = refl

-- the rows of a table with one more are those of a table only where the one is a row that may follow
pub only : (version : Version) (t : Table) (rows : List (List (List ℕ))) (fields : List (List ℕ)) (u : Table) → AreRowsOf version t rows → StandFor (rows ++ fields ∷ []) u → (row : Row) × IsRow row × (row_fields row ≡ fields) × MayFollow version t row
only version t rows fields u are (other, h) =
    let whole : header version ∷ (map row_fields (rows_in t) ++ fields ∷ []) ≡ header other ∷ map row_fields (rows_in u) = ap (λ z. z ++ fields ∷ []) (sym are.are) ∙ h.are in
    let first : header version ≡ header other = cc in
    let rest : map row_fields (rows_in u) ≡ map row_fields (rows_in t) ++ fields ∷ [] = cc in
    let same = same_version version other first in
    let found = unmapped (rows_in t) (rows_in u) fields (each_row t are.table) (each_row u h.table) rest in
    (found.0, found.3, found.2, follows version t u found.0 h.table (subst (λ (v : Version). All (MayHold v) u.labels) (sym same) h.holds) found.1)

-- the first row
pub first_row : (version : Version) → AreRowsOf version (record { tests = []; labels = []; hypers = [] }) (header version ∷ [])
first_row version = record {
  table = record {
    ordered = record {
      tests_rise = rise_nil (slice_cmp nat_cmp);
      labels_rise = rise_nil nat_cmp;
      hypers_rise = rise_nil nat_cmp;
      covered = All-nil (IsCoveredBy []);
    };
    each_test = All-nil IsTestRow;
    each_label = All-nil IsLabelRow;
    each_hyper = All-nil IsHyperRow;
  };
  holds = All-nil (MayHold version);
  are = refl;
}
