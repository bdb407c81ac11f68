-- The table of the tests so far, one test after the other.
use Rattle.std.proofs.Common.{◌≡◌, ℕ, zero, suc, ◌<◌, List, [], ◌∷◌, ◌++◌, map, length, get_or, slice_get, Option, Some, None, Bool, true, false, ◌↔◌, ◌⊎◌, inl, inr, refl, sym, subst, ap, ap₂, ◌∙◌, arith}
use Rattle.std.specs.Prelude.{Contains, All, ◌==◌, option_map, find, if◌then◌else◌}
use Rattle.std.specs.List.{list_any}
use Rattle.std.specs.Ordering.{nat_cmp}
use Rattle.std.specs.Cmp.Lexicographic.{slice_cmp}
use Rattle.std.specs.declared.cmp.Ordering.TheVariants.{Less}
use Rattle.std.specs.List.Sorted.{IsStrictlySortedBy}
use Rattle.std.specs.Map.{keys_of, values_of}
use Rattle.std.specs.BTreeMap.{BTreeMap, get}
use Rattle.std.proofs.lemmas.Cmp.{nat_cmp_total}
use Rattle.std.proofs.lemmas.List.{map_push}
use Rattle.std.proofs.lemmas.List.Elements.{All-nil, All-cons, All-head, All-tail, All-map, All-push, All-weaker, All-contains, Contains-get_or, Contains-push, Contains-push_cases, Contains-append_left}
use Rattle.std.proofs.lemmas.Map.Lookups.{exact_unsigned}
use Rattle.std.proofs.lemmas.Map.Views.{btree_map_get_iff}
use Rattle.lt_model.specs.declared.input.Spec.{Spec}
use Rattle.lt_tree.specs.Typing.Entities.{Function, Label}
use Rattle.lt_tree.specs.Typing.Programs.{Program}
use Rattle.lt_entry.specs.declared.test.Test.{Test}
use Rattle.lt_entry.specs.declared.test.Suite.{Suite}
use Rattle.lt_cover.specs.declared.rows.TestEnd.{TestEnd}
use Rattle.lt_cover.specs.declared.rows.TestEnd.TheVariants.{Ran, Outside}
use Rattle.lt_cover.specs.declared.rows.TestRow.{TestRow}
use Rattle.lt_cover.specs.declared.rows.LabelRow.{LabelRow}
use Rattle.lt_cover.specs.Coverage.Table as cover
use Rattle.lt_cover.specs.Coverage.Table.{Table, IsOrdered, NamesRise, names_of, label_ids}
use Rattle.lt_cover.specs.Coverage.Merge.{label_keys}
use Rattle.lt_cover.proofs.Rising.{rise_nil, rise_push}
use Rattle.lt_replay.specs.declared.draft.Tagged.{Tagged}
use Rattle.lt_replay.specs.declared.draft.Draft.{Draft}
use Rattle.lt_replay.specs.declared.seen.Seen.{Seen}
use Rattle.lt_replayed.specs.Replayed.{Setting, run_of, IsInside, IsOverSo, is_run, is_outside, Covers, tag_of, IsRowOf, IsCoveredBy, IsTableOf, IsCoverage}
use Rattle.lt_replay.specs.Order.{AreInOrder}
use Rattle.lt_replay.specs.Drafts.{row_of, rows_of, HasLabels, table_of, with_name, with_test}
use Rattle.lt_replay.proofs.Lists.{contains_map, contained_in_map}
use Rattle.lt_replay.proofs.Naming.{mapped_some}
use Rattle.lt_replay.proofs.Seeing.{AreCovered}

abbrev key_of : LabelRow → ℕ × List ℕ
key_of row = (row.id, row.tag)

abbrev name_of : TestRow → List ℕ
name_of row = row.name

none_contained : {X : Type 0} (x : X) → Contains [] x → ⊥
none_contained x (k, within, is) = omega arith

all_from_contained : {X : Type 0} (P : X → Type 0) (xs : List X) → ((x : X) → Contains xs x → P x) → All P xs
all_from_contained P xs each k d less = each (get_or xs k d) (Contains-get_or xs k d less)

-- ---- no tests

ids_are : (es : List (ℕ × Tagged)) → label_ids (map row_of es) ≡ keys_of es
ids_are [] = refl
ids_are (e ∷ es) = ap (λ ids. e.0 ∷ ids) (ids_are es)

rows_uncovered : (es : List (ℕ × Tagged)) → All (λ (it : Tagged). it.by.items ≡ []) (values_of es) → All (λ (row : LabelRow). row.by ≡ []) (map row_of es)
rows_uncovered [] none = All-nil (λ (row : LabelRow). row.by ≡ [])
rows_uncovered (e ∷ es) none =
    All-cons (λ (row : LabelRow). row.by ≡ []) (row_of e) (map row_of es) (All-head (λ (it : Tagged). it.by.items ≡ []) e.1 (values_of es) none)
    (rows_uncovered es (All-tail (λ (it : Tagged). it.by.items ≡ []) e.1 (values_of es) none))

module _ (labels : List Label) (held : BTreeMap ℕ Tagged) (has : HasLabels labels held) where
  tag_there : (id : ℕ) (tag : List ℕ) → Contains (label_keys (rows_of held)) (id, tag) → option_map (λ (label : Label). label.tag) (find (λ label. label.id == id) labels) ≡ Some tag
  tag_there id tag there =
      let row = contained_in_map key_of (rows_of held) (id, tag) there in
      let e = contained_in_map row_of held.entries row.0 row.1 in
      let here : get nat_cmp held e.0.0 ≡ Some e.0.1 = (btree_map_get_iff nat_cmp_total exact_unsigned held has.ordered e.0.0 e.0.1).1 e.1 in
      let key : key_of (row_of e.0) ≡ (id, tag) = ap key_of e.2 ∙ row.2 in
      let is_id : e.0.0 ≡ id = ap (λ (key : ℕ × List ℕ). key.0) key in
      let is_tag : e.0.1.tag ≡ tag = ap (λ (key : ℕ × List ℕ). key.1) key in
      let Is : ℕ → Type 0 = λ n. option_map (λ (label : Label). label.tag) (find (λ label. label.id == n) labels) ≡ Some tag in
      subst Is is_id (sym (has.tags e.0.0) ∙ ap (option_map (λ (it : Tagged). it.tag)) here ∙ ap Some is_tag)

  there_by_tag : (id : ℕ) (tag : List ℕ) → option_map (λ (label : Label). label.tag) (find (λ label. label.id == id) labels) ≡ Some tag → Contains (label_keys (rows_of held)) (id, tag)
  there_by_tag id tag is =
      let it = mapped_some (λ (it : Tagged). it.tag) (get nat_cmp held id) tag (has.tags id ∙ is) in
      let entry : Contains held.entries (id, it.0) = (btree_map_get_iff nat_cmp_total exact_unsigned held has.ordered id it.0).0 it.1 in
      let row = contains_map row_of held.entries (id, it.0) entry in
      let Has : List ℕ → Type 0 = λ t. Contains (label_keys (rows_of held)) (id, t) in
      subst Has it.2 (contains_map key_of (rows_of held) (row_of (id, it.0)) row)

pub table_of_none :
    (setting : Setting) (draft : Draft) → draft.tests.items ≡ [] → HasLabels setting.program.labels draft.labels → IsTableOf setting [] (table_of draft)
table_of_none setting draft none has = record {
  ordered = record {
    tests_rise = subst (λ (tests : List TestRow). NamesRise (names_of tests)) (sym none) (rise_nil (slice_cmp nat_cmp));
    labels_rise = subst (IsStrictlySortedBy nat_cmp) (sym (ids_are draft.labels.entries)) has.ordered;
    hypers_rise = rise_nil nat_cmp;
    covered = All-weaker (λ (row : LabelRow). row.by ≡ []) (cover.IsCoveredBy (names_of draft.tests.items)) (λ row by. record {
      rise = subst NamesRise (sym by) (rise_nil (slice_cmp nat_cmp));
      known = subst (All (Contains (names_of draft.tests.items))) (sym by) (All-nil (Contains (names_of draft.tests.items)));
    }) (rows_of draft.labels) uncovered;
  };
  tests = λ row. (
    λ there. absurd (none_contained row (subst (λ (tests : List TestRow). Contains tests row) none there)),
    λ is. absurd (none_contained is.0 is.1),
  );
  labels = λ id tag. (tag_there setting.program.labels draft.labels has id tag, there_by_tag setting.program.labels draft.labels has id tag);
  covered = All-weaker (λ (row : LabelRow). row.by ≡ []) (IsCoveredBy setting []) (λ row by name. (
    λ there. absurd (none_contained name (subst (λ names. Contains names name) by there)),
    λ is. absurd (none_contained is.0 is.1),
  )) (rows_of draft.labels) uncovered;
  hypers = refl;
}
  where
    uncovered : All (λ (row : LabelRow). row.by ≡ []) (rows_of draft.labels)
    uncovered = rows_uncovered draft.labels.entries has.uncovered

-- ---- one more test

same_ids : (name : List ℕ) (ids : List ℕ) (rows : List LabelRow) → label_ids (map (with_name name ids) rows) ≡ label_ids rows
same_ids name ids [] = refl
same_ids name ids (row ∷ rows) = ap (λ ns. row.id ∷ ns) (same_ids name ids rows)

same_keys : (name : List ℕ) (ids : List ℕ) (rows : List LabelRow) → label_keys (map (with_name name ids) rows) ≡ label_keys rows
same_keys name ids [] = refl
same_keys name ids (row ∷ rows) = ap (λ keys. key_of row ∷ keys) (same_keys name ids rows)

-- one of these tests has the name and covers the label
abbrev CoversBy : Setting → (id : ℕ) → (name : List ℕ) → List Test → Type 0
CoversBy setting id name tests = (test : Test) × Contains tests test × (test.name ≡ name) × Covers setting id test

-- a test is over in one way
end_of_run : {setting : Setting} {test : Test} {end : TestEnd} → IsInside setting test → IsOverSo setting test end → Ran (run_of setting test).end ≡ end
end_of_run inside (is_run inside1) = refl
end_of_run inside (is_outside outside) = absurd (outside inside)

end_of_outside : {setting : Setting} {test : Test} {end : TestEnd} → (IsInside setting test → ⊥) → IsOverSo setting test end → Outside ≡ end
end_of_outside outside (is_run inside) = absurd (outside inside)
end_of_outside outside (is_outside outside1) = refl

one_end : {setting : Setting} {test : Test} {a b : TestEnd} → IsOverSo setting test a → IsOverSo setting test b → a ≡ b
one_end (is_run inside) so = end_of_run inside so
one_end (is_outside outside) so = end_of_outside outside so

module _ (setting : Setting) (ts : List Test) (table : Table) (t : Test) (seen : Seen) (so : IsTableOf setting ts table) (over : IsOverSo setting t seen.end) (covers : AreCovered setting t seen.covered.keys) (above : All (λ (u : Test). slice_cmp nat_cmp u.name t.name ≡ Less) ts) where
  abbrev new_row : TestRow
  new_row = record { name = t.name; end = seen.end }

  abbrev IsEarlier : List ℕ → Type 0
  IsEarlier name = slice_cmp nat_cmp name t.name ≡ Less

  earlier : (u : Test) (name : List ℕ) → Contains ts u → u.name ≡ name → IsEarlier name
  earlier u name has is = subst IsEarlier is (All-contains (λ (u : Test). IsEarlier u.name) ts u above has)

  all_earlier : All IsEarlier (names_of table.tests)
  all_earlier = all_from_contained IsEarlier (names_of table.tests) each
    where
      each : (name : List ℕ) → Contains (names_of table.tests) name → IsEarlier name
      each name has =
          let row = contained_in_map name_of table.tests name has in
          let u = (so.tests row.0).0 row.1 in
          earlier u.0 name u.1 (u.2 ∙ row.2)

  names_more : names_of (table.tests ++ new_row ∷ []) ≡ names_of table.tests ++ t.name ∷ []
  names_more = map_push name_of table.tests new_row

  -- what holds of a label's row, where it is among the new names or isn't
  row_ordered : (row : LabelRow) → cover.IsCoveredBy (names_of table.tests) row → IsCoveredBy setting ts row
      → cover.IsCoveredBy (names_of table.tests ++ t.name ∷ []) (with_name t.name seen.covered.keys row)
  row_ordered row is by = here (list_any (λ id. id == row.id) seen.covered.keys)
    where
      earlier_by : All IsEarlier row.by
      earlier_by = all_from_contained IsEarlier row.by (λ name has. let u = (by name).0 has in earlier u.0 name u.1 u.2)

      known : All (Contains (names_of table.tests ++ t.name ∷ [])) row.by
      known =
          All-weaker (Contains (names_of table.tests)) (Contains (names_of table.tests ++ t.name ∷ []))
          (λ name has. Contains-append_left (names_of table.tests) (t.name ∷ []) name has) row.by is.known

      here : (b : Bool) → cover.IsCoveredBy (names_of table.tests ++ t.name ∷ []) (record row { by = if b then row.by ++ t.name ∷ [] else row.by })
      here true = record {
        rise = rise_push (slice_cmp nat_cmp) row.by t.name is.rise earlier_by;
        known = All-push (Contains (names_of table.tests ++ t.name ∷ [])) row.by t.name known (Contains-push (names_of table.tests) t.name);
      }
      here false = record { rise = is.rise; known = known }

  row_covered : (row : LabelRow) → IsCoveredBy setting ts row → IsCoveredBy setting (ts ++ t ∷ []) (with_name t.name seen.covered.keys row)
  row_covered row by name = here (list_any (λ id. id == row.id) seen.covered.keys) refl
    where
      still : Contains row.by name → CoversBy setting row.id name (ts ++ t ∷ [])
      still has = let u = (by name).0 has in (u.0, Contains-append_left ts (t ∷ []) u.0 u.1, u.2, u.3)

      here : (b : Bool) → list_any (λ id. id == row.id) seen.covered.keys ≡ b → Contains (if b then row.by ++ t.name ∷ [] else row.by) name ↔ CoversBy setting row.id name (ts ++ t ∷ [])
      here true is = (forth, back)
        where
          forth : Contains (row.by ++ t.name ∷ []) name → CoversBy setting row.id name (ts ++ t ∷ [])
          forth has = cases (Contains-push_cases row.by t.name name has)
            where
              cases : Contains row.by name ⊎ (t.name ≡ name) → CoversBy setting row.id name (ts ++ t ∷ [])
              cases (inl before) = still before
              cases (inr last) = (t, Contains-push ts t, last, (covers row.id).0 is)

          back : CoversBy setting row.id name (ts ++ t ∷ []) → Contains (row.by ++ t.name ∷ []) name
          back (test, has, called, covered) = cases (Contains-push_cases ts t test has)
            where
              cases : Contains ts test ⊎ (t ≡ test) → Contains (row.by ++ t.name ∷ []) name
              cases (inl before) = Contains-append_left row.by (t.name ∷ []) name ((by name).1 (test, before, called, covered))
              cases (inr last) = subst (Contains (row.by ++ t.name ∷ [])) (ap (λ (u : Test). u.name) last ∙ called) (Contains-push row.by t.name)
      here false is = (still, back)
        where
          back : CoversBy setting row.id name (ts ++ t ∷ []) → Contains row.by name
          back (test, has, called, covered) = cases (Contains-push_cases ts t test has)
            where
              cases : Contains ts test ⊎ (t ≡ test) → Contains row.by name
              cases (inl before) = (by name).1 (test, before, called, covered)
              cases (inr last) =
                  let never : list_any (λ id. id == row.id) seen.covered.keys ≡ true = (covers row.id).1 (subst (Covers setting row.id) (sym last) covered) in
                  absurd (cc)

  row_forth : (row : TestRow) → Contains (table.tests ++ new_row ∷ []) row → IsRowOf setting (ts ++ t ∷ []) row
  row_forth row has = cases (Contains-push_cases table.tests new_row row has)
    where
      cases : Contains table.tests row ⊎ (new_row ≡ row) → IsRowOf setting (ts ++ t ∷ []) row
      cases (inl before) = let u = (so.tests row).0 before in (u.0, Contains-append_left ts (t ∷ []) u.0 u.1, u.2, u.3)
      cases (inr last) = subst (IsRowOf setting (ts ++ t ∷ [])) last (t, Contains-push ts t, refl, over)

  row_back : (row : TestRow) → IsRowOf setting (ts ++ t ∷ []) row → Contains (table.tests ++ new_row ∷ []) row
  row_back row (test, has, called, over_so) = cases (Contains-push_cases ts t test has)
    where
      cases : Contains ts test ⊎ (t ≡ test) → Contains (table.tests ++ new_row ∷ []) row
      cases (inl before) = Contains-append_left table.tests (new_row ∷ []) row ((so.tests row).1 (test, before, called, over_so))
      cases (inr last) =
          let name : t.name ≡ row.name = ap (λ (u : Test). u.name) last ∙ called in
          let end : seen.end ≡ row.end = one_end over (subst (λ (u : Test). IsOverSo setting u row.end) (sym last) over_so) in
          let same : new_row ≡ row = ap₂ (λ name end. record { name = name; end = end }) name end in
          subst (Contains (table.tests ++ new_row ∷ [])) same (Contains-push table.tests new_row)

  pub one_more_test : IsTableOf setting (ts ++ t ∷ []) (with_test t.name seen table)
  one_more_test = record {
    ordered = record {
      tests_rise = subst NamesRise (sym names_more) (rise_push (slice_cmp nat_cmp) (names_of table.tests) t.name so.ordered.tests_rise all_earlier);
      labels_rise = subst (IsStrictlySortedBy nat_cmp) (sym (same_ids t.name seen.covered.keys table.labels)) so.ordered.labels_rise;
      hypers_rise = so.ordered.hypers_rise;
      covered =
          All-map (cover.IsCoveredBy (names_of (table.tests ++ new_row ∷ []))) (with_name t.name seen.covered.keys) table.labels
          (λ k d less. subst (λ names. cover.IsCoveredBy names (with_name t.name seen.covered.keys (get_or table.labels k d))) (sym names_more)
          (row_ordered (get_or table.labels k d) (so.ordered.covered k d less) (so.covered k d less)));
    };
    tests = λ row. (row_forth row, row_back row);
    labels = λ id tag.
        let Has : List (ℕ × List ℕ) → Type 0 = λ keys. Contains keys (id, tag) ↔ (tag_of setting.program id ≡ Some tag) in
        subst Has (sym (same_keys t.name seen.covered.keys table.labels)) (so.labels id tag);
    covered =
        All-map (IsCoveredBy setting (ts ++ t ∷ [])) (with_name t.name seen.covered.keys) table.labels
        (λ k d less. row_covered (get_or table.labels k d) (so.covered k d less));
    hypers = so.hypers;
  }

-- ---- all tests

-- the order of tests is no matter
pub of_same_tests : (setting : Setting) (order tests : List Test) (table : Table) → AreInOrder order tests → IsTableOf setting order table → IsTableOf setting tests table
of_same_tests setting order tests table are so = record {
  ordered = so.ordered;
  tests = λ row. (
    λ has. let u = (so.tests row).0 has in (u.0, (are.same u.0).0 u.1, u.2, u.3),
    λ is. (so.tests row).1 (is.0, (are.same is.0).1 is.1, is.2, is.3),
  );
  labels = so.labels;
  covered = All-weaker (IsCoveredBy setting order) (IsCoveredBy setting tests) (λ row by name. (
    λ has. let u = (by name).0 has in (u.0, (are.same u.0).0 u.1, u.2, u.3),
    λ is. (by name).1 (is.0, (are.same is.0).1 is.1, is.2, is.3),
  )) table.labels so.covered;
  hypers = so.hypers;
}
