-- The rows of a merge, one by one, and the table that they make.
use Rattle.std.proofs.Common.{◌≡◌, ℕ, ◌+◌, ◌<◌, ◌≤◌, List, [], ◌∷◌, ◌++◌, length, get_or, map, take, refl, sym, ap, subst, ◌∙◌, arith, inl, inr}
use Rattle.std.specs.Prelude.{All, Contains, ◌⊎◌, ◌↔◌}
use Rattle.std.specs.Ordering.{nat_cmp}
use Rattle.std.specs.List.Sorted.{IsStrictlySortedBy}
use Rattle.std.proofs.lemmas.List.{length-map, take_more, take_all, get_or_default}
use Rattle.std.proofs.Math.ListN.{get_or-map}
use Rattle.std.proofs.lemmas.List.Elements.{All-nil, All-cons, All-head, All-tail, All-weaker}
use Rattle.lt_cover.specs.declared.rows.TestRow.{TestRow}
use Rattle.lt_cover.specs.declared.rows.LabelRow.{LabelRow}
use Rattle.lt_cover.specs.declared.rows.HyperRow.{HyperRow}
use Rattle.lt_cover.specs.Coverage.Names.{IsId, IsTag}
use Rattle.lt_cover.specs.Coverage.Table.{Table, IsOrdered, IsTable, IsTestRow, IsLabelRow, IsHyperRow, IsCoveredBy, NamesRise, names_of, label_ids, hyper_ids}
use Rattle.lt_cover.specs.Coverage.Merge.{EachMerged, IsMerge, IsMergedHyper, IsMergedLabel, label_keys, hyper_keys}
use Rattle.lt_merge.specs.Keys.{IsRisingLabel, IsSameLabel, IsSameHyper, KeysRise}

-- one row more
each_push : {X : Type 0} (R : X → X → X → Type 0) (a b m : List X) (x y z : X) → EachMerged R a b m → R x y z → EachMerged R (a ++ x ∷ []) (b ++ y ∷ []) (m ++ z ∷ [])
each_push R [] [] [] x y z h k = (k, tt)
each_push R (u ∷ a) (v ∷ b) (w ∷ m) x y z h k = (h.0, each_push R a b m x y z h.1 k)
each_push R [] [] (w ∷ m) x y z h k = absurd h
each_push R [] (v ∷ b) [] x y z h k = absurd h
each_push R [] (v ∷ b) (w ∷ m) x y z h k = absurd h
each_push R (u ∷ a) [] [] x y z h k = absurd h
each_push R (u ∷ a) [] (w ∷ m) x y z h k = absurd h
each_push R (u ∷ a) (v ∷ b) [] x y z h k = absurd h

pub each_more : {X : Type 0} (R : X → X → X → Type 0) (a b m m2 : List X) (i : ℕ) (x y z : X) → i < length a → length a ≡ length b → x ≡ get_or a i x → y ≡ get_or b i y → EachMerged R (take i a) (take i b) m → m2 ≡ m ++ z ∷ [] → R x y z → EachMerged R (take (i + 1) a) (take (i + 1) b) m2
each_more R a b m m2 i x y z ia many xi yi h e k =
    let ea : take (i + 1) a ≡ take i a ++ x ∷ [] = take_more a i x ia ∙ ap (λ w. take i a ++ w ∷ []) (sym xi) in
    let eb : take (i + 1) b ≡ take i b ++ y ∷ [] = take_more b i y (omega (arith, ia, many)) ∙ ap (λ w. take i b ++ w ∷ []) (sym yi) in
    subst (EachMerged R (take (i + 1) a) (take (i + 1) b)) (sym e)
    (subst (λ w. EachMerged R w (take (i + 1) b) (m ++ z ∷ [])) (sym ea)
    (subst (λ w. EachMerged R (take i a ++ x ∷ []) w (m ++ z ∷ [])) (sym eb)
    (each_push R (take i a) (take i b) m x y z h k)))

pub each_taken : {X : Type 0} (R : X → X → X → Type 0) (a b m : List X) (i : ℕ) → length a ≤ i → length a ≡ length b → EachMerged R (take i a) (take i b) m → EachMerged R a b m
each_taken R a b m i past same h = subst (λ w. EachMerged R w b m) (take_all i a past) (subst (λ w. EachMerged R (take i a) w m) (take_all i b (omega (arith, past, same))) h)

each_weaker : {X : Type 0} (R S : X → X → X → Type 0) → ((x y z : X) → R x y z → S x y z) → (a b m : List X) → EachMerged R a b m → EachMerged S a b m
each_weaker R S s [] [] [] h = tt
each_weaker R S s (x ∷ a) (y ∷ b) (z ∷ m) h = (s x y z h.0, each_weaker R S s a b m h.1)
each_weaker R S s [] [] (z ∷ m) h = absurd h
each_weaker R S s [] (y ∷ b) [] h = absurd h
each_weaker R S s [] (y ∷ b) (z ∷ m) h = absurd h
each_weaker R S s (x ∷ a) [] [] h = absurd h
each_weaker R S s (x ∷ a) [] (z ∷ m) h = absurd h
each_weaker R S s (x ∷ a) (y ∷ b) [] h = absurd h

-- what a merge keeps of the rows of the first list
each_key : {X Y : Type 0} (R : X → X → X → Type 0) (f : X → Y) → ((x y z : X) → R x y z → f z ≡ f x) → (a b m : List X) → EachMerged R a b m → map f m ≡ map f a
each_key R f s [] [] [] h = refl
each_key R f s (x ∷ a) (y ∷ b) (z ∷ m) h =
    let first = s x y z h.0 in
    let rest = each_key R f s a b m h.1 in
    λ i. first i ∷ rest i
each_key R f s [] [] (z ∷ m) h = absurd h
each_key R f s [] (y ∷ b) [] h = absurd h
each_key R f s [] (y ∷ b) (z ∷ m) h = absurd h
each_key R f s (x ∷ a) [] [] h = absurd h
each_key R f s (x ∷ a) [] (z ∷ m) h = absurd h
each_key R f s (x ∷ a) (y ∷ b) [] h = absurd h

-- what each merged row has
each_has : {X : Type 0} (R : X → X → X → Type 0) (A B P : X → Type 0) → ((x y z : X) → R x y z → A x → B y → P z) → (a b m : List X) → EachMerged R a b m → All A a → All B b → All P m
each_has R A B P s [] [] [] h k l = All-nil P
each_has R A B P s (x ∷ a) (y ∷ b) (z ∷ m) h k l =
    All-cons P z m (s x y z h.0 (All-head A x a k) (All-head B y b l)) (each_has R A B P s a b m h.1 (All-tail A x a k) (All-tail B y b l))
each_has R A B P s [] [] (z ∷ m) h k l = absurd h
each_has R A B P s [] (y ∷ b) [] h k l = absurd h
each_has R A B P s [] (y ∷ b) (z ∷ m) h k l = absurd h
each_has R A B P s (x ∷ a) [] [] h k l = absurd h
each_has R A B P s (x ∷ a) [] (z ∷ m) h k l = absurd h
each_has R A B P s (x ∷ a) (y ∷ b) [] h k l = absurd h

-- a test's name stands in a list with all tests of another
names_kept : (a m : List TestRow) → ((x : TestRow) → Contains a x → Contains m x) → (name : List ℕ) → Contains (names_of a) name → Contains (names_of m) name
names_kept [] m h name k = absurd (omega (arith, k.1))
names_kept (t ∷ a) m h name k =
    let name_at : (tests : List TestRow) (i : ℕ) → get_or (names_of tests) i t.name ≡ (get_or tests i t).name = λ tests i. get_or-map (λ (x : TestRow). x.name) tests i t in
    let within : k.0 < length (t ∷ a) = omega (arith, k.1, length-map (t ∷ a) (λ (x : TestRow). x.name)) in
    let found = h (get_or (t ∷ a) k.0 t) (k.0, within, get_or_default (t ∷ a) k.0 (get_or (t ∷ a) k.0 t) t within) in
    let inside : found.0 < length (names_of m) = omega (arith, found.1, length-map m (λ (x : TestRow). x.name)) in
    let same : (get_or m found.0 t).name ≡ (get_or (t ∷ a) k.0 t).name = ap (λ (x : TestRow). x.name) (get_or_default m found.0 t (get_or (t ∷ a) k.0 t) found.1 ∙ found.2) in
    (found.0, inside, get_or_default (names_of m) found.0 name t.name inside ∙ (name_at m found.0 ∙ (same ∙ (sym (name_at (t ∷ a) k.0) ∙ (get_or_default (names_of (t ∷ a)) k.0 t.name name k.1 ∙ k.2)))))

all_of_either : (P : TestRow → Type 0) (a b m : List TestRow) → ((x : TestRow) → Contains m x ↔ (Contains a x ⊎ Contains b x)) → All P a → All P b → All P m
all_of_either P a b m h k l = λ i d within. by (get_or m i d) ((h (get_or m i d)).0 (i, within, get_or_default m i (get_or m i d) d within))
  where
    by : (x : TestRow) → Contains a x ⊎ Contains b x → P x
    by x (inl c) = subst P c.2 (k c.0 x c.1)
    by x (inr c) = subst P c.2 (l c.0 x c.1)

known_by : (names more less : List (List ℕ)) → ((name : List ℕ) → Contains names name → Contains more name) → All (λ name. Contains names name) less → All (λ name. Contains more name) less
known_by names more less h k = All-weaker (λ name. Contains names name) (λ name. Contains more name) h less k

each_known : (names : List (List ℕ)) (a b m : LabelRow) → IsMergedLabel a b m → All (λ name. Contains names name) a.by → All (λ name. Contains names name) b.by → All (λ name. Contains names name) m.by
each_known names a b m h k l = λ i d within. by (get_or m.by i d) ((h.by (get_or m.by i d)).0 (i, within, get_or_default m.by i (get_or m.by i d) d within))
  where
    by : (name : List ℕ) → Contains a.by name ⊎ Contains b.by name → Contains names name
    by name (inl c) = subst (Contains names) c.2 (k c.0 name c.1)
    by name (inr c) = subst (Contains names) c.2 (l c.0 name c.1)

-- the tests, labels and hyperlabels of a merge are in order
merged_order : (a b m : Table) → IsOrdered a → IsOrdered b → NamesRise (names_of m.tests) → ((x : TestRow) → Contains m.tests x ↔ (Contains a.tests x ⊎ Contains b.tests x)) → EachMerged IsRisingLabel a.labels b.labels m.labels → EachMerged IsMergedHyper a.hypers b.hypers m.hypers → IsOrdered m
merged_order a b m ha hb rise tests labels hypers = record {
  tests_rise = rise;
  labels_rise = subst (IsStrictlySortedBy nat_cmp) (sym (each_key IsRisingLabel (λ (l : LabelRow). l.id) (λ x y z h. h.merged.left.0) a.labels b.labels m.labels labels)) ha.labels_rise;
  hypers_rise = subst (IsStrictlySortedBy nat_cmp) (sym (each_key IsMergedHyper (λ (h : HyperRow). h.id) (λ x y z h. h.left.0) a.hypers b.hypers m.hypers hypers)) ha.hypers_rise;
  covered = each_has IsRisingLabel (IsCoveredBy (names_of a.tests)) (IsCoveredBy (names_of b.tests)) (IsCoveredBy (names_of m.tests)) (λ x y z h k l. record {
    rise = h.rise;
    known = each_known (names_of m.tests) x y z h.merged (known_by (names_of a.tests) (names_of m.tests) x.by first k.known) (known_by (names_of b.tests) (names_of m.tests) y.by second l.known);
  }) a.labels b.labels m.labels labels ha.covered hb.covered;
}
  where
    first : (name : List ℕ) → Contains (names_of a.tests) name → Contains (names_of m.tests) name
    first = names_kept a.tests m.tests (λ x c. (tests x).1 (inl c))

    second : (name : List ℕ) → Contains (names_of b.tests) name → Contains (names_of m.tests) name
    second = names_kept b.tests m.tests (λ x c. (tests x).1 (inr c))

-- a merge of tables of coverage files is one
pub merge_table : (a b m : Table) → IsTable a → IsTable b → IsMerge a b m → IsTable m
merge_table a b m ha hb h = record {
  ordered = h.ordered;
  each_test = all_of_either IsTestRow a.tests b.tests m.tests h.tests ha.each_test hb.each_test;
  each_label = each_has IsMergedLabel IsLabelRow IsLabelRow IsLabelRow (λ x y z k l r. record {
    id = subst IsId (sym k.left.0) l.id;
    tag = subst IsTag (sym k.left.1) l.tag;
  }) a.labels b.labels m.labels h.labels ha.each_label hb.each_label;
  each_hyper = each_has IsMergedHyper IsHyperRow IsHyperRow IsHyperRow (λ x y z k l r. record {
    id = subst IsId (sym k.left.0) l.id;
    tag = subst IsTag (sym k.left.1) l.tag;
  }) a.hypers b.hypers m.hypers h.hypers ha.each_hyper hb.each_hyper;
}

merged : (a b m : Table) → IsOrdered a → IsOrdered b → NamesRise (names_of m.tests) → ((x : TestRow) → Contains m.tests x ↔ (Contains a.tests x ⊎ Contains b.tests x)) → EachMerged IsRisingLabel a.labels b.labels m.labels → EachMerged IsMergedHyper a.hypers b.hypers m.hypers → IsMerge a b m
merged a b m ha hb rise tests labels hypers = record {
  ordered = merged_order a b m ha hb rise tests labels hypers;
  tests = tests;
  labels = each_weaker IsRisingLabel IsMergedLabel (λ x y z h. h.merged) a.labels b.labels m.labels labels;
  hypers = hypers;
}

-- the same of lists by other names
pub merged_of : (a b : Table) (ta tb tests : List TestRow) (la lb labels : List LabelRow) (ga gb hypers : List HyperRow) → IsOrdered a → IsOrdered b → ta ≡ a.tests → tb ≡ b.tests → la ≡ a.labels → lb ≡ b.labels → ga ≡ a.hypers → gb ≡ b.hypers
    → NamesRise (names_of tests) → ((x : TestRow) → Contains tests x ↔ (Contains ta x ⊎ Contains tb x)) → EachMerged IsRisingLabel la lb labels → EachMerged IsMergedHyper ga gb hypers → IsMerge a b (record { tests = tests; labels = labels; hypers = hypers })
merged_of a b ta tb tests la lb labels ga gb hypers ha hb et eu el em eg eh rise each_test each_label each_hyper =
    merged a b (record { tests = tests; labels = labels; hypers = hypers }) ha hb rise
    (subst (λ (z : List TestRow). (x : TestRow) → Contains tests x ↔ (Contains a.tests x ⊎ Contains z x)) eu (subst (λ (z : List TestRow). (x : TestRow) → Contains tests x ↔ (Contains z x ⊎ Contains tb x)) et each_test))
    (subst (λ (z : List LabelRow). EachMerged IsRisingLabel a.labels z labels) em (subst (λ (z : List LabelRow). EachMerged IsRisingLabel z lb labels) el each_label))
    (subst (λ (z : List HyperRow). EachMerged IsMergedHyper a.hypers z hypers) eh (subst (λ (z : List HyperRow). EachMerged IsMergedHyper z gb hypers) eg each_hyper))

-- keys and ids
ids_of_labels : (labels : List LabelRow) → map (λ (k : ℕ × List ℕ). k.0) (label_keys labels) ≡ label_ids labels
ids_of_labels [] = refl
ids_of_labels (l ∷ labels) = ap (λ z. l.id ∷ z) (ids_of_labels labels)

ids_of_hypers : (hypers : List HyperRow) → map (λ (k : ℕ × List ℕ). k.0) (hyper_keys hypers) ≡ hyper_ids hypers
ids_of_hypers [] = refl
ids_of_hypers (h ∷ hypers) = ap (λ z. h.id ∷ z) (ids_of_hypers hypers)

pub label_keys_rise : (labels : List LabelRow) (keys : List (ℕ × List ℕ)) → keys ≡ label_keys labels → IsStrictlySortedBy nat_cmp (label_ids labels) → KeysRise keys
label_keys_rise labels keys e h = subst KeysRise (sym e) (subst (IsStrictlySortedBy nat_cmp) (sym (ids_of_labels labels)) h)

pub hyper_keys_rise : (hypers : List HyperRow) (keys : List (ℕ × List ℕ)) → keys ≡ hyper_keys hypers → IsStrictlySortedBy nat_cmp (hyper_ids hypers) → KeysRise keys
hyper_keys_rise hypers keys e h = subst KeysRise (sym e) (subst (IsStrictlySortedBy nat_cmp) (sym (ids_of_hypers hypers)) h)

pub as_many_labels : (a b : List LabelRow) → label_keys a ≡ label_keys b → length a ≡ length b
as_many_labels a b e = sym (length-map a label_key) ∙ (ap length e ∙ length-map b label_key)
  where
    label_key : LabelRow → ℕ × List ℕ
    label_key l = (l.id, l.tag)

pub as_many_hypers : (a b : List HyperRow) → hyper_keys a ≡ hyper_keys b → length a ≡ length b
as_many_hypers a b e = sym (length-map a hyper_key) ∙ (ap length e ∙ length-map b hyper_key)
  where
    hyper_key : HyperRow → ℕ × List ℕ
    hyper_key h = (h.id, h.tag)

-- the keys at one place
same_key : {X : Type 0} (key : X → ℕ × List ℕ) (a b : List X) (i : ℕ) (x y : X) → map key a ≡ map key b → i < length b → x ≡ get_or a i x → y ≡ get_or b i y → key x ≡ key y
same_key key a b i x y e ib xi yi =
    ap key xi ∙ (sym (get_or-map key a i x) ∙ (ap (λ (ks : List (ℕ × List ℕ)). get_or ks i (key x)) e ∙ (get_or-map key b i x ∙ ap key (get_or_default b i x y ib ∙ sym yi))))

pub same_label : (a b : List LabelRow) (i : ℕ) (x y : LabelRow) → label_keys a ≡ label_keys b → i < length a → x ≡ get_or a i x → y ≡ get_or b i y → IsSameLabel x y
same_label a b i x y e ia xi yi =
    let same = same_key (λ (l : LabelRow). (l.id, l.tag)) a b i x y e (omega (arith, ia, as_many_labels a b e)) xi yi in
    (ap (λ (k : ℕ × List ℕ). k.0) same, ap (λ (k : ℕ × List ℕ). k.1) same)

pub same_hyper : (a b : List HyperRow) (i : ℕ) (x y : HyperRow) → hyper_keys a ≡ hyper_keys b → i < length a → x ≡ get_or a i x → y ≡ get_or b i y → IsSameHyper x y
same_hyper a b i x y e ia xi yi =
    let same = same_key (λ (h : HyperRow). (h.id, h.tag)) a b i x y e (omega (arith, ia, as_many_hypers a b e)) xi yi in
    (ap (λ (k : ℕ × List ℕ). k.0) same, ap (λ (k : ℕ × List ℕ). k.1) same)

pub labels_rise : (t : Table) (labels : List LabelRow) → IsOrdered t → labels ≡ t.labels → All (λ (l : LabelRow). NamesRise l.by) labels
labels_rise t labels h e =
    subst (All (λ (l : LabelRow). NamesRise l.by)) (sym e) (All-weaker (IsCoveredBy (names_of t.tests)) (λ (l : LabelRow). NamesRise l.by) (λ l k. k.rise) t.labels h.covered)

pub rising_label : (a b : LabelRow) (tag given : List ℕ) (left right names by : List (List ℕ)) → IsSameLabel a b → tag ≡ given → given ≡ a.tag → left ≡ a.by → right ≡ b.by → by ≡ names → NamesRise names → ((name : List ℕ) → Contains names name ↔ (Contains left name ⊎ Contains right name)) → IsRisingLabel a b (record { id = a.id; tag = tag; by = by })
rising_label a b tag given left right names by same t g l r n rise h = record {
  merged = record { left = (refl, t ∙ g); right = (same.0, t ∙ (g ∙ same.1)); by = λ name. (λ k. there name ((h name).0 (subst (λ w. Contains w name) n k)), λ k. subst (λ w. Contains w name) (sym n) ((h name).1 (back name k))) };
  rise = subst NamesRise (sym n) rise;
}
  where
    there : (name : List ℕ) → Contains left name ⊎ Contains right name → Contains a.by name ⊎ Contains b.by name
    there name (inl k) = inl (subst (λ w. Contains w name) l k)
    there name (inr k) = inr (subst (λ w. Contains w name) r k)

    back : (name : List ℕ) → Contains a.by name ⊎ Contains b.by name → Contains left name ⊎ Contains right name
    back name (inl k) = inl (subst (λ w. Contains w name) (sym l) k)
    back name (inr k) = inr (subst (λ w. Contains w name) (sym r) k)
