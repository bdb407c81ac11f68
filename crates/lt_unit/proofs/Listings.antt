-- Types are listed one by one.
use Rattle.std.proofs.Common.{◌≡◌, ◌≢◌, ℕ, zero, suc, ◌+◌, ◌<◌, ◌≤◌, ◌⊎◌, inl, inr, Bool, true, false, ◌||◌, List, [], ◌∷◌, ◌++◌, length, map, drop, drop-cons, slice_get, get_or, replicate, slice_index_or, Some, is_some, Result, Ok, Err, refl, sym, ap, subst, ◌∙◌, arith, true≢false, add-one}
use Rattle.std.specs.Prelude.{slice_set, if◌then◌else◌, OnOk}
use Rattle.std.specs.List.{list_any, flat_map}
use Rattle.std.proofs.lemmas.List.{drop_all, length-replicate, get_or-replicate}
use Rattle.std.proofs.lemmas.Option.{slice_get_within, get_or_from_slice_get}
use Rattle.lt_tree.specs.declared.typed.types.TypeId.{TypeId}
use Rattle.lt_tree.specs.Typing.Types.{CType, Void, same}
use Rattle.lt_tree.specs.Typing.TypeRows.{type_in}
use Rattle.lt_tree.specs.Typing.TypeIds.{AreBelow}
use Rattle.lt_tree.specs.Typing.Programs.{made_of, with_new}
use Rattle.lt_table.proofs.TableRows.{continues_same}
use Rattle.lt_table.proofs.TableSame.{same_exact, same_self}
use Rattle.lt_unit.specs.MadeOf.{IsClosed}
use Rattle.lt_unit.specs.Listing.{AreByPlace, AreMarked, IsListing, ListsMore, types_at, listed_in}
use Rattle.lt_unit.specs.declared.listing.Listed.{Listed}
use Rattle.lt_unit.specs.declared.listing.TypesByPlace.{TypesByPlace}
use Rattle.lt_unit.proofs.MadeOf.{with_new-append, closed_none, listed_already}

pub then_ok : {A E : Type 0} (r : Result A E) {P Q : Type 0} → (P → Q) → OnOk r P → OnOk r Q
then_ok (Ok a) f p = f p
then_ok (Err e) f p = tt

pub both_ok : {A E : Type 0} (r : Result A E) {P Q R : Type 0} → (P → Q → R) → OnOk r P → OnOk r Q → OnOk r R
both_ok (Ok a) f p q = f p q
both_ok (Err e) f p q = tt

-- ---- a type that isn't listed

-- ids with rows, and one more
below_last : (n : ℕ) (ids : List TypeId) (t : TypeId) → AreBelow n ids → t.place < n → AreBelow n (ids ++ t ∷ [])
below_last n [] t h below = (below, tt)
below_last n (id ∷ ids) t h below = (h.0, below_last n ids t h.1 below)

set_one : (xs : List Bool) (j k : ℕ) (b : Bool) → slice_get (slice_set xs j true) k ≡ Some b → ((k ≡ j) × (b ≡ true)) ⊎ ((k ≢ j) × (slice_get xs k ≡ Some b))
set_one [] j k b at = absurd (true≢false (sym (ap is_some at)))
set_one (x ∷ xs) zero zero b at = inl (refl, cc)
set_one (x ∷ xs) zero (suc k) b at = inr (λ e. absurd cc, at)
set_one (x ∷ xs) (suc j) zero b at = inr (λ e. absurd cc, at)
set_one (x ∷ xs) (suc j) (suc k) b at = elim (set_one xs j k b at) [ inl h ↦ inl (ap suc h.0, h.1) | inr h ↦ inr (λ e. h.0 (omega (arith, e)), h.1) ]

length_set : (xs : List Bool) (j : ℕ) (b : Bool) → length (slice_set xs j b) ≡ length xs
length_set [] j b = refl
length_set (x ∷ xs) zero b = refl
length_set (x ∷ xs) (suc j) b = ap suc (length_set xs j b)

shown_last : (types : List CType) (ids : List TypeId) (t : TypeId) → map (type_in types) (ids ++ t ∷ []) ≡ map (type_in types) ids ++ type_in types t ∷ []
shown_last types [] t = refl
shown_last types (u ∷ ids) t = ap (λ l. type_in types u ∷ l) (shown_last types ids t)

any_last : (x : CType) (list : List CType) (y : CType) → list_any (same x) (list ++ y ∷ []) ≡ (list_any (same x) list || same x y)
any_last x [] y = or_none (same x y)
  where
    or_none : (b : Bool) → (b || false) ≡ b
    or_none true = refl
    or_none false = refl
any_last x (z ∷ list) y = ap (λ b. same x z || b) (any_last x list y) ∙ sym (or_assoc (same x z) (list_any (same x) list) (same x y))
  where
    or_assoc : (a b c : Bool) → ((a || b) || c) ≡ (a || (b || c))
    or_assoc true b c = refl
    or_assoc false b c = refl

or_true : (a : Bool) → (a || true) ≡ true
or_true true = refl
or_true false = refl

or_false : (a : Bool) → (a || false) ≡ a
or_false true = refl
or_false false = refl

module _ (types : TypesByPlace) (old new : Listed) (t : TypeId) (known : AreByPlace types) (marked : AreMarked types old) (at : slice_get old.is_listed.items t.place ≡ Some false)
    (ids : new.ids.items ≡ old.ids.items ++ t ∷ []) (flags : new.is_listed.items ≡ slice_set old.is_listed.items t.place true) where
  shown : listed_in (types_at types) new ≡ listed_in (types_at types) old ++ type_in (types_at types) t ∷ []
  shown = ap (map (type_in (types_at types))) ids ∙ shown_last (types_at types) old.ids.items t

  pub is_added : listed_in (types_at types) new ≡ with_new (listed_in (types_at types) old) (type_in (types_at types) t ∷ [])
  is_added =
      shown
      ∙ ap (λ (b : Bool). if b then listed_in (types_at types) old else listed_in (types_at types) old ++ type_in (types_at types) t ∷ []) (marked.marks t false at)

  other : (u : TypeId) → u.place < length types.rows.items → u.place ≢ t.place → (c : Bool) → same (type_in (types_at types) u) (type_in (types_at types) t) ≡ c → false ≡ same (type_in (types_at types) u) (type_in (types_at types) t)
  other u within apart false e = sym e
  other u within apart true e =
      absurd (apart (known.once.apart u t within (omega (arith, marked.within, slice_get_within old.is_listed.items t.place false at)) (same_exact (type_in (types_at types) u) (type_in (types_at types) t) e)))

  its_mark : (u : TypeId) (b : Bool) → slice_get (slice_set old.is_listed.items t.place true) u.place ≡ Some b → b ≡ list_any (same (type_in (types_at types) u)) (listed_in (types_at types) new)
  its_mark u b is =
      elim (set_one old.is_listed.items t.place u.place b is) [
        | inl h ↦
            h.1 ∙ sym (or_true (list_any (same (type_in (types_at types) u)) (listed_in (types_at types) old)))
            ∙ ap (λ c. list_any (same (type_in (types_at types) u)) (listed_in (types_at types) old) || c) (sym (same_self (type_in (types_at types) u)) ∙ ap (λ k. same (type_in (types_at types) u) (slice_index_or (types_at types) k Void)) h.0)
        | inr h ↦
            marked.marks u b h.1 ∙ sym (or_false (list_any (same (type_in (types_at types) u)) (listed_in (types_at types) old)))
            ∙ ap (λ c. list_any (same (type_in (types_at types) u)) (listed_in (types_at types) old) || c) (other u (omega (arith, marked.within, slice_get_within old.is_listed.items u.place b h.1)) h.0 (same (type_in (types_at types) u) (type_in (types_at types) t)) refl)
      ]
      ∙ sym (any_last (type_in (types_at types) u) (listed_in (types_at types) old) (type_in (types_at types) t)) ∙ ap (list_any (same (type_in (types_at types) u))) (sym shown)

  stands : t.place < length types.rows.items
  stands = omega (arith, marked.within, slice_get_within old.is_listed.items t.place false at)

  pub is_marked : AreMarked types new
  is_marked = record {
    rows = subst (AreBelow (length types.rows.items)) (sym ids) (below_last (length types.rows.items) old.ids.items t marked.rows stands);
    within = ap length flags ∙ length_set old.is_listed.items t.place true ∙ marked.within;
    marks = λ u b is. its_mark u b (subst (λ l. slice_get l u.place ≡ Some b) flags is);
  }

-- ---- a type that is listed

pub is_there : (types : TypesByPlace) (it : Listed) (t : TypeId) → AreMarked types it → slice_get it.is_listed.items t.place ≡ Some true → listed_in (types_at types) it ≡ with_new (listed_in (types_at types) it) (type_in (types_at types) t ∷ [])
is_there types it t marked at =
    ap (λ (b : Bool). if b then listed_in (types_at types) it else listed_in (types_at types) it ++ type_in (types_at types) t ∷ []) (marked.marks t true at)

pub all_there : (types : TypesByPlace) (it : Listed) (t u : TypeId) → AreByPlace types → IsListing types it → slice_get types.bare.items t.place ≡ Some u → slice_get it.is_listed.items u.place ≡ Some true
    → ListsMore types it it (made_of (type_in (types_at types) t))
all_there types it t u known listing is at = record {
  listing = listing;
  listed = sym (listed_already (listed_in (types_at types) it) (type_in (types_at types) t) listing.closed
      (ap (λ x. list_any (same x) (listed_in (types_at types) it)) (sym (known.bare t u is (types_at types) (continues_same (types_at types)))) ∙ sym (listing.marked.marks u true at)));
}

-- ---- steps

pub lists_then : {types : TypesByPlace} {a b c : Listed} (xs ys : List CType) → ListsMore types a b xs → ListsMore types b c ys → ListsMore types a c (xs ++ ys)
lists_then {types} {a} {b} {c} xs ys f g = record {
  listing = g.listing;
  listed = g.listed ∙ ap (λ l. with_new l ys) f.listed ∙ sym (with_new-append (listed_in (types_at types) a) xs ys);
}

-- ---- lists of what has types

items_opened : {X A : Type 0} (f : A → List CType) (view : X → A) (list : List X) (i : ℕ) (x d : X) → i < length list → x ≡ get_or list i d → flat_map f (map view (drop i list)) ≡ f (view x) ++ flat_map f (map view (drop (i + 1) list))
items_opened f view list i x d within is =
    ap (λ l. flat_map f (map view l)) (drop-cons list i d within ∙ ap (λ z. z ∷ drop (suc i) list) (sym is) ∙ ap (λ k. x ∷ drop k list) (sym (add-one i)))

-- the types of one more were listed
pub item_listed : {X A : Type 0} (f : A → List CType) (view : X → A) (types : TypesByPlace) (a b : Listed) (list : List X) (i : ℕ) (x d : X) (whole : List CType) → i < length list → x ≡ get_or list i d
    → with_new (listed_in (types_at types) a) (flat_map f (map view (drop i list))) ≡ whole → ListsMore types a b (f (view x))
    → with_new (listed_in (types_at types) b) (flat_map f (map view (drop (i + 1) list))) ≡ whole
item_listed f view types a b list i x d whole within is so_far more =
    ap (λ l. with_new l (flat_map f (map view (drop (i + 1) list)))) more.listed
    ∙ sym (with_new-append (listed_in (types_at types) a) (f (view x)) (flat_map f (map view (drop (i + 1) list))))
    ∙ ap (with_new (listed_in (types_at types) a)) (sym (items_opened f view list i x d within is))
    ∙ so_far

pub all_listed : {X A : Type 0} (f : A → List CType) (view : X → A) (types : TypesByPlace) (a b : Listed) (list : List X) (i : ℕ) → length list ≤ i → IsListing types b
    → with_new (listed_in (types_at types) b) (flat_map f (map view (drop i list))) ≡ with_new (listed_in (types_at types) a) (flat_map f (map view list)) → ListsMore types a b (flat_map f (map view list))
all_listed f view types a b list i beyond listing so_far = record {
  listing = listing;
  listed = ap (λ l. with_new (listed_in (types_at types) b) (flat_map f (map view l))) (sym (drop_all i list beyond)) ∙ so_far;
}

-- ---- no types

flag_false : (n k : ℕ) (b : Bool) → slice_get (replicate n false) k ≡ Some b → b ≡ false
flag_false n k b at =
    let within : k < n = omega (arith, slice_get_within (replicate n false) k b at, length-replicate n false) in
    sym (get_or_from_slice_get (replicate n false) k b true at) ∙ get_or-replicate n k false true within

pub none_listed : (types : TypesByPlace) (it : Listed) → it.ids.items ≡ [] → it.is_listed.items ≡ replicate (length types.rows.items) false → IsListing types it
none_listed types it ids flags = record {
  marked = record {
    rows = subst (AreBelow (length types.rows.items)) (sym ids) tt;
    within = ap length flags ∙ length-replicate (length types.rows.items) false;
    marks = λ t b at. flag_false (length types.rows.items) t.place b (subst (λ l. slice_get l t.place ≡ Some b) flags at) ∙ ap (λ l. list_any (same (type_in (types_at types) t)) (map (type_in (types_at types)) l)) (sym ids);
  };
  closed = subst (λ l. IsClosed (map (type_in (types_at types)) l)) (sym ids) closed_none;
}
