-- The rows of labels that are being collected.
use Rattle.std.proofs.Common.{◌≡◌, ℕ, zero, suc, ◌+◌, ◌-◌, ◌<◌, ◌≤◌, List, [], ◌∷◌, ◌++◌, map, length, drop, get_or, Option, Some, None, Bool, true, false, ◌||◌, cond, if◌then◌else◌, refl, sym, subst, ap, ap₂, ◌∙◌, arith, Bor}
use Rattle.std.specs.Prelude.{option_map, find, All, ◌==◌}
use Rattle.std.specs.List.{list_any, AllByRecursion}
use Rattle.std.specs.Ordering.{nat_cmp, is_eq}
use Rattle.std.specs.declared.cmp.Ordering.TheVariants.{Less}
use Rattle.std.specs.List.Sorted.{IsStrictlySortedBy}
use Rattle.std.specs.Map.{keys_of, lookup, set_value}
use Rattle.std.specs.BTreeMap.{BTreeMap, is_at, get, values, insert_entry, IsOrdered, Updates}
use Rattle.std.proofs.lemmas.Grind.{common_steps}
use Rattle.std.proofs.lemmas.Bool.{eqb-true, or_from}
use Rattle.std.specs.Iterator.{Yields}
use Rattle.std.specs.Map.Iter.{TakesFirst, deref}
use Rattle.std.proofs.lemmas.Map.Iter.{rest_so_far}
use Rattle.std.proofs.lemmas.List.{drop_more, drop_all}
use Rattle.std.proofs.lemmas.List.Folds.{list_any-append}
use Rattle.std.proofs.lemmas.Map.Keys.{sorted_head, sorted_tail}
use Rattle.std.proofs.lemmas.Map.Views.{All-values-insert_entry}
use Rattle.std.proofs.lemmas.Option.{same_Some}
use Rattle.lt_tree.specs.declared.typed.entity.LabelInfo.{LabelInfo}
use Rattle.lt_tree.specs.Typing.Entities.{Label}
use Rattle.lt_tree.specs.Typing.EntityView.{label_of}
use Rattle.lt_cover.specs.declared.rows.LabelRow.{LabelRow}
use Rattle.lt_replay.specs.declared.draft.Tagged.{Tagged}
use Rattle.lt_replay.specs.Drafts.{row_of, rows_of, HasLabels, with_name}

-- a number is found by its order as it is by equality
pub found_as : (a b : ℕ) → is_eq (nat_cmp a b) ≡ (a == b)
found_as a b = grind (arith, common_steps)

-- ---- labels

pub no_labels : (labels : List LabelInfo) (held : BTreeMap ℕ Tagged) (k : ℕ) → length labels ≤ k → held.entries ≡ [] → IsOrdered nat_cmp held → HasLabels (map label_of (drop k labels)) held
no_labels labels held k past empty ordered =
    let Has : List LabelInfo → Type 0 = λ ls. HasLabels (map label_of ls) held in
    subst Has (sym (drop_all k labels past)) (record {
      ordered = ordered;
      tags = λ id. ap (λ es. option_map (λ (it : Tagged). it.tag) (lookup (is_at (nat_cmp id)) es)) empty;
      uncovered = λ n d less. absurd (let none : length (values held) ≡ 0 = ap (λ es. length (map (λ e. e.1) es)) empty in omega (arith, none, less));
    })

-- one more in front
pub one_label :
    (labels : List LabelInfo) (held after : BTreeMap ℕ Tagged) (k : ℕ) (label : LabelInfo) (it : Tagged) → 0 < k → k ≤ length labels
    → label ≡ get_or labels (k - 1) label → HasLabels (map label_of (drop k labels)) held → it.tag ≡ label.tag → it.by.items ≡ []
    → Updates nat_cmp held after label.id (Some it) → after.entries ≡ insert_entry nat_cmp held.entries label.id it → IsOrdered nat_cmp after
    → HasLabels (map label_of (drop (k - 1) labels)) after
one_label labels held after k label it some fits at has tag by updates entries ordered =
    let less : k - 1 < length labels = omega arith in
    let next : k - 1 + 1 ≡ k = omega arith in
    let in_front : drop (k - 1) labels ≡ label ∷ drop k labels =
    drop_more labels (k - 1) label less ∙ ap₂ (λ it n. it ∷ drop n labels) (sym at) next in
    let Has : List LabelInfo → Type 0 = λ ls. HasLabels (map label_of ls) after in
    subst Has (sym in_front) (record {
      ordered = ordered;
      tags = λ id.
          ap (option_map (λ (it : Tagged). it.tag)) (updates.0 id)
          ∙ chosen (is_eq (nat_cmp label.id id)) (label.id == id) (get nat_cmp held id) (find (λ (l : Label). l.id == id) (map label_of (drop k labels))) (found_as label.id id) (has.tags id);
      uncovered =
          let AllNone : List Tagged → Type 0 = λ its. All (λ (it : Tagged). it.by.items ≡ []) its in
          subst AllNone (ap (map (λ (e : ℕ × Tagged). e.1)) (sym entries)) (All-values-insert_entry nat_cmp label.id it (λ (it : Tagged). it.by.items ≡ []) held.entries has.uncovered by);
    })
  where
    chosen :
        (b c : Bool) (o : Option Tagged) (p : Option Label) → b ≡ c → option_map (λ (it : Tagged). it.tag) o ≡ option_map (λ (l : Label). l.tag) p
        → option_map (λ (it : Tagged). it.tag) (cond b (Some it) o) ≡ option_map (λ (l : Label). l.tag) (cond c (Some (label_of label)) p)
    chosen true true o p same rest = ap Some tag
    chosen false false o p same rest = rest
    chosen true false o p same rest = absurd (cc)
    chosen false true o p same rest = absurd (cc)

-- ---- one more name

abbrev named : List ℕ → Bool → List (List ℕ) → List (List ℕ)
named name b by = if b then by ++ name ∷ [] else by

-- the row of an entry, where other names cover its label
abbrev with_by : ℕ × Tagged → List (List ℕ) → LabelRow
with_by e by = record { id = e.0; tag = e.1.tag; by = by }

-- labels of other ids stay
untouched :
    (name : List ℕ) (id : ℕ) (es : List (ℕ × Tagged)) → AllByRecursion (λ y. nat_cmp id y ≡ Less) (keys_of es)
    → map row_of es ≡ map (with_name name (id ∷ [])) (map row_of es)
untouched name id [] above = refl
untouched name id (e ∷ es) above =
    ap₂ (λ by rows. with_by e by ∷ rows) (ap (λ b. named name (b || false) e.1.by.items) (sym not_equal)) (untouched name id es above.1)
  where
    not_equal : (id == e.0) ≡ false
    not_equal = sym (found_as id e.0) ∙ ap is_eq above.0

-- the label of this id
pub name_put :
    (name : List ℕ) (id : ℕ) (es : List (ℕ × Tagged)) (old new : Tagged) → IsStrictlySortedBy nat_cmp (keys_of es)
    → lookup (is_at (nat_cmp id)) es ≡ Some old → new.tag ≡ old.tag → new.by.items ≡ old.by.items ++ name ∷ []
    → map row_of (set_value (is_at (nat_cmp id)) es new) ≡ map (with_name name (id ∷ [])) (map row_of es)
name_put name id [] old new sorted found tag by = absurd (cc)
name_put name id (e ∷ es) old new sorted found tag by =
    here (is_eq (nat_cmp id e.0)) (id == e.0) refl (found_as id e.0)
    (λ later. name_put name id es old new (sorted_tail nat_cmp e.0 (keys_of es) sorted) later tag by)
  where
    here : (b c : Bool) → is_eq (nat_cmp id e.0) ≡ b → b ≡ c
        → (lookup (is_at (nat_cmp id)) es ≡ Some old → map row_of (set_value (is_at (nat_cmp id)) es new) ≡ map (with_name name (id ∷ [])) (map row_of es))
        → map row_of (cond b ((e.0, new) ∷ es) (e ∷ set_value (is_at (nat_cmp id)) es new))
        ≡ with_by e (named name (c || false) e.1.by.items) ∷ map (with_name name (id ∷ [])) (map row_of es)
    here true true is same rest =
        let first : e.1 ≡ old = same_Some e.1 old (sym (ap (λ b. cond b (Some e.1) (lookup (is_at (nat_cmp id)) es)) is) ∙ found) in
        let equal : id ≡ e.0 = eqb-true id e.0 (sym (found_as id e.0) ∙ is) in
        let Above : ℕ → Type 0 = λ n. AllByRecursion (λ y. nat_cmp n y ≡ Less) (keys_of es) in
        let row : row_of (e.0, new) ≡ with_by e (e.1.by.items ++ name ∷ []) =
        ap₂ (λ tag by. record { id = e.0; tag = tag; by = by }) (tag ∙ ap (λ (it : Tagged). it.tag) (sym first))
        (by ∙ ap (λ (it : Tagged). it.by.items ++ name ∷ []) (sym first)) in
        ap₂ (λ row rows. row ∷ rows) row (untouched name id es (subst Above (sym equal) (sorted_head nat_cmp e.0 (keys_of es) sorted)))
    here false false is same rest =
        ap (λ rows. row_of e ∷ rows) (rest (sym (ap (λ b. cond b (Some e.1) (lookup (is_at (nat_cmp id)) es)) is) ∙ found))
    here true false is same rest = absurd (cc)
    here false true is same rest = absurd (cc)

-- no label is of this id
pub no_name_put :
    (name : List ℕ) (id : ℕ) (es : List (ℕ × Tagged)) → lookup (is_at (nat_cmp id)) es ≡ None → map row_of es ≡ map (with_name name (id ∷ [])) (map row_of es)
no_name_put name id [] none = refl
no_name_put name id (e ∷ es) none =
    here (is_eq (nat_cmp id e.0)) (id == e.0) refl (found_as id e.0) (λ later. no_name_put name id es later)
  where
    here : (b c : Bool) → is_eq (nat_cmp id e.0) ≡ b → b ≡ c
        → (lookup (is_at (nat_cmp id)) es ≡ None → map row_of es ≡ map (with_name name (id ∷ [])) (map row_of es))
        → row_of e ∷ map row_of es ≡ with_by e (named name (c || false) e.1.by.items) ∷ map (with_name name (id ∷ [])) (map row_of es)
    here true true is same rest = absurd (let found = sym (ap (λ b. cond b (Some e.1) (lookup (is_at (nat_cmp id)) es)) is) ∙ none in cc)
    here false false is same rest =
        ap (λ rows. row_of e ∷ rows) (rest (sym (ap (λ b. cond b (Some e.1) (lookup (is_at (nat_cmp id)) es)) is) ∙ none))
    here true false is same rest = absurd (cc)
    here false true is same rest = absurd (cc)

-- ---- names for more ids

pub no_ids : (name : List ℕ) (rows : List LabelRow) → rows ≡ map (with_name name []) rows
no_ids name [] = refl
no_ids name (row ∷ rows) = ap (λ rows. row ∷ rows) (no_ids name rows)

-- one more id, which wasn't among those before
pub one_more_id :
    (name : List ℕ) (ids : List ℕ) (id : ℕ) (rows : List LabelRow) → list_any (λ other. other == id) ids ≡ false
    → map (with_name name (id ∷ [])) (map (with_name name ids) rows) ≡ map (with_name name (ids ++ id ∷ [])) rows
one_more_id name ids id [] new = refl
one_more_id name ids id (row ∷ rows) new =
    ap₂ (λ by rows. record { id = row.id; tag = row.tag; by = by } ∷ rows)
    (here (list_any (λ other. other == row.id) ids) (id == row.id) _ (not_both (id == row.id) refl) (list_any-append (λ other. other == row.id) ids (id ∷ [])))
    (one_more_id name ids id rows new)
  where
    not_both : (c : Bool) → (id == row.id) ≡ c → c ≡ true → list_any (λ other. other == row.id) ids ≡ false
    not_both c is holds = subst (λ n. list_any (λ other. other == n) ids ≡ false) (eqb-true id row.id (is ∙ holds)) new

    here : (b c all : Bool) → (c ≡ true → b ≡ false) → all ≡ (b || (c || false)) → named name (c || false) (named name b row.by) ≡ named name all row.by
    here true true all apart is = absurd (let never = apart refl in cc)
    here true false all apart is = ap (λ x. named name x row.by) (sym is)
    here false true all apart is = ap (λ x. named name x row.by) (sym is)
    here false false all apart is = ap (λ x. named name x row.by) (sym is)

behind_all : (P : ℕ → Type 0) (xs : List ℕ) (y : ℕ) (ys : List ℕ) → AllByRecursion P (xs ++ y ∷ ys) → P y
behind_all P [] y ys all = all.0
behind_all P (x ∷ xs) y ys all = behind_all P xs y ys all.1

-- in order, a number isn't among those before it
new_behind : (xs : List ℕ) (y : ℕ) (ys : List ℕ) → IsStrictlySortedBy nat_cmp (xs ++ y ∷ ys) → list_any (λ x. x == y) xs ≡ false
new_behind [] y ys sorted = refl
new_behind (x ∷ xs) y ys sorted =
    let less : nat_cmp x y ≡ Less = behind_all (λ z. nat_cmp x z ≡ Less) xs y ys (sorted_head nat_cmp x (xs ++ y ∷ ys) sorted) in
    or_from (x == y) (list_any (λ x. x == y) xs) (sym (found_as x y) ∙ ap is_eq less) (new_behind xs y ys (sorted_tail nat_cmp x (xs ++ y ∷ ys) sorted))

-- at a turn of a loop along a set, its number isn't among those of earlier turns
pub new_at_turn :
    (all : List ℕ) (xs : List (Bor ℕ)) (s t u : List ℕ) (x : Bor ℕ) → s ≡ all → IsStrictlySortedBy nat_cmp all
    → Yields (TakesFirst deref) s xs t → t ≡ x.now ∷ u → list_any (λ y. y == x.now) (map (λ (y : Bor ℕ). y.now) xs) ≡ false
new_at_turn all xs s t u x start sorted yields next =
    let so_far : s ≡ map deref xs ++ t = rest_so_far deref xs s t yields in
    let split : all ≡ map deref xs ++ x.now ∷ u = sym start ∙ so_far ∙ ap (λ rest. map deref xs ++ rest) next in
    new_behind (map deref xs) x.now u (subst (IsStrictlySortedBy nat_cmp) split sorted)
