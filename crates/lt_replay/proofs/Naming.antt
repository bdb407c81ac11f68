-- Tests by their names.
use Rattle.std.proofs.Common.{◌≡◌, ℕ, zero, suc, ◌+◌, ◌<◌, ◌≤◌, List, [], ◌∷◌, ◌++◌, map, length, take, get_or, min, Option, Some, None, Bool, true, false, cond, Bor, ◌↔◌, ◌⊎◌, inl, inr, refl, sym, subst, ap, ◌∙◌, arith}
use Rattle.std.specs.Prelude.{Contains, All, option_map, slice_get}
use Rattle.std.specs.Str.{bytes_eq}
use Rattle.std.specs.Ordering.{nat_cmp, on}
use Rattle.std.specs.Cmp.{IsTotalOrder}
use Rattle.std.specs.Cmp.Lexicographic.{slice_cmp}
use Rattle.std.specs.declared.cmp.Ordering.{Ordering}
use Rattle.std.specs.declared.cmp.Ordering.TheVariants.{Less}
use Rattle.std.specs.List.Sorted.{IsStrictlySortedBy}
use Rattle.std.specs.Map.{keys_of, lookup}
use Rattle.std.specs.BTreeMap as tree
use Rattle.std.specs.Global.{Vec}
use Rattle.std.specs.BTreeMap.{BTreeMap, is_at}
use Rattle.std.proofs.lemmas.Bool.{false_from_ne_true}
use Rattle.std.proofs.lemmas.Cmp.{nat_list_cmp_total, on_total}
use Rattle.std.proofs.lemmas.List.{take_more, get_or-take, length-take}
use Rattle.std.proofs.lemmas.List.Elements.{All-nil, All-cons, All-head, All-tail, All-map, Contains-push, Contains-push_cases, Contains-append_left, Contains-get_or}
use Rattle.std.proofs.lemmas.Option.{slice_get-get_or, same_Some, slice_get_within, get_or_from_slice_get}
use Rattle.std.proofs.lemmas.Slice.Eq.{bytes_eq-Decides}
use Rattle.std.proofs.lemmas.Map.Text.{btree_map_updates_str, is_eq-slice_cmp}
use Rattle.std.proofs.lemmas.Map.Entries.{place_from_lookup, btree_map_get_place}
use Rattle.lt_entry.specs.declared.test.Test.{Test}
use Rattle.lt_cover.specs.Coverage.Table.{NamesRise}
use Rattle.lt_cover.proofs.Rising.{rise_head, rise_tail, rise_cons, rise_nil}
use Rattle.lt_replayed.specs.Replayed.{NamesDiffer}
use Rattle.lt_replay.specs.Order.{found, AreNamed, AreInOrder}
use Rattle.lt_replay.proofs.Lists.{contains_map, contained_in_map}

abbrev Named : Type 0
Named = BTreeMap (Bor (List ℕ)) (Bor Test)

-- the order of keys
abbrev pub by_bytes : Bor (List ℕ) → Bor (List ℕ) → Ordering
by_bytes x y = slice_cmp nat_cmp x.now y.now

bytes_total : IsTotalOrder by_bytes
bytes_total = on_total (λ (x : Bor (List ℕ)). x.now) nat_list_cmp_total

-- ---- one test after the other

pub none_named : (tests : List Test) (named : Named) → named.entries ≡ [] → AreNamed (take 0 tests) named
none_named tests named empty name test =
    let none : found named name ≡ None = ap (λ es. option_map (λ (it : Bor Test). it.now) (lookup (is_at (λ k. slice_cmp nat_cmp name k.now)) es)) empty in
    (λ is. absurd (cc), λ has. absurd (let less : has.0.0 < length (take 0 tests) = has.0.1 in omega arith))

found_after :
    (old new : Named) (name : Bor (List ℕ)) (it : Bor Test) → tree.Updates by_bytes old new name (Some it)
    → (q : List ℕ) → found new q ≡ cond (bytes_eq name.now q) (Some it.now) (found old q)
found_after old new name it updates q =
    ap (option_map (λ (it : Bor Test). it.now)) (btree_map_updates_str name.now old new (Some it) updates q) ∙ chosen (bytes_eq name.now q) _
  where
    chosen : (b : Bool) (o : Option (Bor Test)) → option_map (λ (it : Bor Test). it.now) (cond b (Some it) o) ≡ cond b (Some it.now) (option_map (λ (it : Bor Test). it.now) o)
    chosen true o = refl
    chosen false o = refl

module _ (tests : List Test) (differ : NamesDiffer tests) (i : ℕ) (within : i < length tests) (here : Test) (at : here ≡ get_or tests i here) where
  -- those before it have other names
  other_name : (t : Test) → Contains (take i tests) t → t.name ≡ here.name → ⊥
  other_name t (k, less, is) same =
      let before : k < i = (let long : length (take i tests) ≤ i = length_take_most in omega (arith, long, less)) in
      let there : get_or tests k t ≡ t = sym (get_or-take i tests k t before) ∙ is in
      let first : slice_get tests k ≡ Some t = slice_get-get_or tests k t (omega arith) ∙ ap Some there in
      let second : slice_get tests i ≡ Some here = slice_get-get_or tests i here within ∙ ap Some (sym at) in
      let equal : k ≡ i = differ.differ k i t here first second same in
      omega arith
    where
      length_take_most : length (take i tests) ≤ i
      length_take_most = let long : length (take i tests) ≡ min i (length tests) = length-take i tests in omega arith

  pub one_named :
      (old new : Named) (name : Bor (List ℕ)) (it : Bor Test) → it.now ≡ here → name.now ≡ here.name → AreNamed (take i tests) old
      → tree.Updates by_bytes old new name (Some it) → AreNamed (take (i + 1) tests) new
  one_named old new name it is called named updates q t =
      let more : take (i + 1) tests ≡ take i tests ++ here ∷ [] = take_more tests i here within ∙ ap (λ x. take i tests ++ x ∷ []) (sym at) in
      let P : List Test → Type 0 = λ ts. (found new q ≡ Some t) ↔ (Contains ts t × (t.name ≡ q)) in
      subst P (sym more) (forth, back)
    where
      after : found new q ≡ cond (bytes_eq name.now q) (Some it.now) (found old q)
      after = found_after old new name it updates q

      forth : found new q ≡ Some t → Contains (take i tests ++ here ∷ []) t × (t.name ≡ q)
      forth found_now = by_test (bytes_eq name.now q) refl
        where
          by_test : (b : Bool) → bytes_eq name.now q ≡ b → Contains (take i tests ++ here ∷ []) t × (t.name ≡ q)
          by_test true same =
              let equal : name.now ≡ q = (bytes_eq-Decides name.now q).0 same in
              let is_it : Some it.now ≡ Some t = sym (after ∙ ap (λ b. cond b (Some it.now) (found old q)) same) ∙ found_now in
              let is_here : here ≡ t = sym is ∙ same_Some it.now t is_it in
              let Has : Test → Type 0 = λ x. Contains (take i tests ++ here ∷ []) x in
              (subst Has is_here (Contains-push (take i tests) here), ap (λ (x : Test). x.name) (sym is_here) ∙ sym called ∙ equal)
          by_test false other =
              let was : found old q ≡ Some t = sym (after ∙ ap (λ b. cond b (Some it.now) (found old q)) other) ∙ found_now in
              let has = (named q t).0 was in
              (Contains-append_left (take i tests) (here ∷ []) t has.0, has.1)

      back : Contains (take i tests ++ here ∷ []) t × (t.name ≡ q) → found new q ≡ Some t
      back (has, is_called) = by_place (Contains-push_cases (take i tests) here t has)
        where
          by_place : Contains (take i tests) t ⊎ (here ≡ t) → found new q ≡ Some t
          by_place (inl before) =
              let apart : bytes_eq name.now q ≡ false = false_from_ne_true _ (λ same. other_name t before (is_called ∙ sym ((bytes_eq-Decides name.now q).0 same) ∙ called)) in
              after ∙ ap (λ b. cond b (Some it.now) (found old q)) apart ∙ (named q t).1 (before, is_called)
          by_place (inr last) =
              let same : bytes_eq name.now q ≡ true = (bytes_eq-Decides name.now q).1 (called ∙ ap (λ (x : Test). x.name) last ∙ is_called) in
              after ∙ ap (λ b. cond b (Some it.now) (found old q)) same ∙ ap Some (is ∙ last)

-- ---- in order

entry_named :
    (tests : List Test) (named : Named) → AreNamed tests named → tree.IsOrdered by_bytes named
    → (i : ℕ) (key : Bor (List ℕ)) (it : Bor Test) → slice_get named.entries i ≡ Some (key, it) → Contains tests it.now × (it.now.name ≡ key.now)
entry_named tests named are ordered i key it at =
    let got : tree.get by_bytes named key ≡ Some it = btree_map_get_place bytes_total named i key it ordered at in
    (are key.now it.now).0 (ap (option_map (λ (it : Bor Test). it.now)) got)

abbrev names_in : List (Bor (List ℕ) × Bor Test) → List (List ℕ)
names_in es = map (λ (t : Test). t.name) (map (λ (it : Bor Test). it.now) (map (λ e. e.1) es))

abbrev HasName : Bor (List ℕ) × Bor Test → Type 0
HasName e = e.1.now.name ≡ e.0.now

below_each :
    (n : List ℕ) (es : List (Bor (List ℕ) × Bor Test)) → All HasName es → All (λ (k : Bor (List ℕ)). slice_cmp nat_cmp n k.now ≡ Less) (keys_of es)
    → All (λ y. slice_cmp nat_cmp n y ≡ Less) (names_in es)
below_each n [] are less = All-nil (λ y. slice_cmp nat_cmp n y ≡ Less)
below_each n (e ∷ es) are less =
    All-cons (λ y. slice_cmp nat_cmp n y ≡ Less) e.1.now.name (names_in es)
    (ap (slice_cmp nat_cmp n) (All-head HasName e es are) ∙ All-head (λ (k : Bor (List ℕ)). slice_cmp nat_cmp n k.now ≡ Less) e.0 (keys_of es) less)
    (below_each n es (All-tail HasName e es are) (All-tail (λ (k : Bor (List ℕ)). slice_cmp nat_cmp n k.now ≡ Less) e.0 (keys_of es) less))

names_rise : (es : List (Bor (List ℕ) × Bor Test)) → All HasName es → IsStrictlySortedBy by_bytes (keys_of es) → NamesRise (names_in es)
names_rise [] are sorted = rise_nil (slice_cmp nat_cmp)
names_rise (e ∷ es) are sorted =
    let first : e.1.now.name ≡ e.0.now = All-head HasName e es are in
    let Below : List ℕ → Type 0 = λ n. All (λ y. slice_cmp nat_cmp n y ≡ Less) (names_in es) in
    rise_cons (slice_cmp nat_cmp) e.1.now.name (names_in es)
    (subst Below (sym first) (below_each e.0.now es (All-tail HasName e es are) (rise_head by_bytes e.0 (keys_of es) sorted)))
    (names_rise es (All-tail HasName e es are) (rise_tail by_bytes e.0 (keys_of es) sorted))

pub mapped_some : {X Y : Type 0} (f : X → Y) (o : Option X) (y : Y) → option_map f o ≡ Some y → (x : X) × (o ≡ Some x) × (f x ≡ y)
mapped_some f None y is = absurd (cc)
mapped_some f (Some x) y is = (x, refl, same_Some (f x) y is)

-- the values of a map by names are the tests in order
pub all_in_order :
    (tests : List Test) (named : Named) → AreNamed tests named → tree.IsOrdered by_bytes named
    → AreInOrder (map (λ (it : Bor Test). it.now) (map (λ e. e.1) named.entries)) tests
all_in_order tests named are ordered = record {
  rise = names_rise named.entries each ordered;
  same = λ test. (forth test, back test);
}
  where
    each : All HasName named.entries
    each k d less =
        let e = get_or named.entries k d in
        (entry_named tests named are ordered k e.0 e.1 (slice_get-get_or named.entries k d less)).1

    forth : (test : Test) → Contains (map (λ (it : Bor Test). it.now) (map (λ e. e.1) named.entries)) test → Contains tests test
    forth test has =
        let it = contained_in_map (λ (it : Bor Test). it.now) (map (λ e. e.1) named.entries) test has in
        let e = contained_in_map (λ e. e.1) named.entries it.0 it.1 in
        let at : slice_get named.entries e.1.0 ≡ Some e.0 = slice_get-get_or named.entries e.1.0 e.0 e.1.1 ∙ ap Some e.1.2 in
        let is : e.0.1.now ≡ test = ap (λ (it : Bor Test). it.now) e.2 ∙ it.2 in
        subst (Contains tests) is (entry_named tests named are ordered e.1.0 e.0.0 e.0.1 at).0

    back : (test : Test) → Contains tests test → Contains (map (λ (it : Bor Test). it.now) (map (λ e. e.1) named.entries)) test
    back test has =
        let got = mapped_some (λ (it : Bor Test). it.now) _ test ((are test.name test).1 (has, refl)) in
        let place = place_from_lookup (is_at (λ (k : Bor (List ℕ)). slice_cmp nat_cmp test.name k.now)) named.entries got.0 got.1 in
        let inside : Contains named.entries (place.1, got.0) =
        (place.0, slice_get_within named.entries place.0 (place.1, got.0) place.2, get_or_from_slice_get named.entries place.0 (place.1, got.0) (place.1, got.0) place.2) in
        subst (Contains (map (λ (it : Bor Test). it.now) (map (λ e. e.1) named.entries))) got.2
        (contains_map (λ (it : Bor Test). it.now) (map (λ e. e.1) named.entries) got.0 (contains_map (λ e. e.1) named.entries (place.1, got.0) inside))

-- so where a list of the values was made
pub made_in_order :
    (tests : List Test) (named : Named) → AreNamed tests named → tree.IsOrdered by_bytes named
    → (order : Vec (Bor Test)) → order.items ≡ tree.values named → AreInOrder (map (λ (it : Bor Test). it.now) order.items) tests
made_in_order tests named are ordered order is =
    let In : List (Bor Test) → Type 0 = λ its. AreInOrder (map (λ (it : Bor Test). it.now) its) tests in
    subst In (sym is) (all_in_order tests named are ordered)
