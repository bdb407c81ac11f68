-- A suite has at most one table.
use Rattle.std.proofs.Common.{◌≡◌, ℕ, List, [], ◌∷◌, map, length, drop, get_or, refl, sym, ap, subst, ◌∙◌, arith}
use Rattle.std.specs.Prelude.{All, Contains}
use Rattle.std.specs.Ordering.{nat_cmp}
use Rattle.std.specs.List.Sorted.{IsStrictlySortedBy}
use Rattle.std.proofs.lemmas.Cmp.{nat_cmp_total, nat_list_cmp_total}
use Rattle.std.proofs.lemmas.List.{map-id}
use Rattle.std.proofs.lemmas.List.Elements.{All-head, All-tail}
use Rattle.std.proofs.lemmas.Option.{same_Some}
use Rattle.lt_tree.specs.Typing.Entities.{Function}
use Rattle.lt_entry.specs.declared.test.Test.{Test}
use Rattle.lt_cover.specs.declared.rows.TestRow.{TestRow}
use Rattle.lt_cover.specs.declared.rows.LabelRow.{LabelRow}
use Rattle.lt_cover.specs.Coverage.Table.{Table, NamesRise, label_ids}
use Rattle.lt_cover.specs.Coverage.Merge.{label_keys}
use Rattle.lt_replayed.specs.Replayed.{Setting, Covers, IsCoveredBy, IsTableOf}
use Rattle.lt_replayed.specs.Laws.{SuitesHaveOneTable}
use Rattle.lt_replayed.proofs.Members.{same_lists}
use Rattle.lt_model.specs.declared.input.Spec.{Spec}
use Rattle.lt_tree.specs.Typing.Programs.{Program}

-- the entry that a specification names
abbrev setting_of : Program → Function → Spec → (steps : ℕ) → Setting
setting_of program fun spec steps = record { program = program; entry = fun; spec = spec; steps = steps }

abbrev Key : Type 0
Key = ℕ × List ℕ

same_names :
    (xs ys : List (List ℕ)) → NamesRise xs → NamesRise ys → ((name : List ℕ) → Contains xs name → Contains ys name)
    → ((name : List ℕ) → Contains ys name → Contains xs name) → xs ≡ ys
same_names xs ys left right into from =
    same_lists nat_list_cmp_total (λ (name : List ℕ). name) xs ys (subst NamesRise (sym (map-id xs)) left) (subst NamesRise (sym (map-id ys)) right) into from

ids_of_keys : (labels : List LabelRow) → map (λ (k : Key). k.0) (label_keys labels) ≡ label_ids labels
ids_of_keys [] = refl
ids_of_keys (row ∷ labels) = ap (λ ids. row.id ∷ ids) (ids_of_keys labels)

keys_rise : (labels : List LabelRow) → IsStrictlySortedBy nat_cmp (label_ids labels) → IsStrictlySortedBy nat_cmp (map (λ (k : Key). k.0) (label_keys labels))
keys_rise labels rise = subst (IsStrictlySortedBy nat_cmp) (sym (ids_of_keys labels)) rise

module _ (setting : Setting) (suite : List Test) where
  -- a test of the name covers the label
  abbrev IsCovering : List ℕ → ℕ → Type 0
  IsCovering name id = (test : Test) × Contains suite test × (test.name ≡ name) × Covers setting id test

  same_row :
      (x y : LabelRow) → x.id ≡ y.id → x.tag ≡ y.tag → NamesRise x.by → NamesRise y.by
      → IsCoveredBy setting suite x → IsCoveredBy setting suite y → x ≡ y
  same_row x y id tag left right covered other =
      let names : x.by ≡ y.by = same_names x.by y.by left right
      (λ name has. (other name).1 (subst (IsCovering name) id ((covered name).0 has)))
      (λ name has. (covered name).1 (subst (IsCovering name) (sym id) ((other name).0 has))) in
      λ i. record { id = id i; tag = tag i; by = names i }

  abbrev IsRisingRow : LabelRow → Type 0
  IsRisingRow row = NamesRise row.by × IsCoveredBy setting suite row

  same_labels : (a b : List LabelRow) → label_keys a ≡ label_keys b → All IsRisingRow a → All IsRisingRow b → a ≡ b
  same_labels [] [] keys left right = refl
  same_labels [] (y ∷ b) keys left right = absurd (omega (arith, ap length keys))
  same_labels (x ∷ a) [] keys left right = absurd (omega (arith, ap length keys))
  same_labels (x ∷ a) (y ∷ b) keys left right =
      let key : (x.id, x.tag) ≡ (y.id, y.tag) = ap (λ (ks : List Key). get_or ks 0 (x.id, x.tag)) keys in
      let one = All-head IsRisingRow x a left in
      let two = All-head IsRisingRow y b right in
      let first : x ≡ y = same_row x y (ap (λ (k : Key). k.0) key) (ap (λ (k : Key). k.1) key) one.0 two.0 one.1 two.1 in
      let rest : a ≡ b = same_labels a b (ap (λ (ks : List Key). drop 1 ks) keys) (All-tail IsRisingRow x a left) (All-tail IsRisingRow y b right) in
      λ i. first i ∷ rest i

  rising_rows : (table : Table) → IsTableOf setting suite table → All IsRisingRow table.labels
  rising_rows table is = λ k d within. ((is.ordered.covered k d within).rise, is.covered k d within)

  table_is_one : (t u : Table) → IsTableOf setting suite t → IsTableOf setting suite u → t ≡ u
  table_is_one t u is are =
      let tests : t.tests ≡ u.tests = same_lists nat_list_cmp_total (λ (row : TestRow). row.name) t.tests u.tests is.ordered.tests_rise are.ordered.tests_rise
      (λ row has. (are.tests row).1 ((is.tests row).0 has)) (λ row has. (is.tests row).1 ((are.tests row).0 has)) in
      let keys : label_keys t.labels ≡ label_keys u.labels = same_lists nat_cmp_total (λ (k : Key). k.0) (label_keys t.labels) (label_keys u.labels)
      (keys_rise t.labels is.ordered.labels_rise) (keys_rise u.labels are.ordered.labels_rise)
      (λ key has. (are.labels key.0 key.1).1 ((is.labels key.0 key.1).0 has)) (λ key has. (is.labels key.0 key.1).1 ((are.labels key.0 key.1).0 has)) in
      let labels : t.labels ≡ u.labels = same_labels t.labels u.labels keys (rising_rows t is) (rising_rows u are) in
      let hypers : t.hypers ≡ u.hypers = is.hypers ∙ sym are.hypers in
      λ i. record { tests = tests i; labels = labels i; hypers = hypers i }

pub suites_have_one_table : SuitesHaveOneTable
suites_have_one_table program spec suite steps table other is are =
    let entry : is.entry ≡ are.entry = same_Some is.entry are.entry (sym is.named ∙ are.named) in
    table_is_one (setting_of program are.entry spec steps) suite.tests table other
    (subst (λ (fun : Function). IsTableOf (setting_of program fun spec steps) suite.tests table) entry is.table) are.table
