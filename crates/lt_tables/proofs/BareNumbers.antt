-- The numbers of types without qualifiers among types of a program.
use Rattle.std.proofs.Common.{◌≡◌, ◌==◌, ◌<◌, ◌≤◌, ◌+◌, ℕ, zero, suc, Bool, true, false, cond, ◌&&◌, List, [], ◌∷◌, ◌++◌, length, map, slice_index_or, Option, Some, unwrap_or, refl, sym, ap, ◌∙◌, ⊎_elim, ◌⊎◌, inl, inr, true≢false, arith, zero-add}
use Rattle.std.proofs.lemmas.Bool.{cases_Bool, eqb-true, eq-eqb}
use Rattle.lt_tree.specs.declared.typed.types.TypeId.{TypeId}
use Rattle.lt_tree.specs.declared.typed.types.TypeRow.{TypeRow}
use Rattle.lt_tree.specs.Typing.Types.{CType, CTypes, no_types, a_type, Void, Num, Pointer, Array, Struct, Function, Floating, Qualified, bare, all_bare, same}
use Rattle.lt_tree.specs.Typing.TypeRows.{type_in, types_of_rows, Continues}
use Rattle.lt_tree.specs.Typing.Shapes as shapes
use Rattle.lt_meaning.specs.Runs as runs
use Rattle.lt_table.specs.RowsOnce.{AreOnce}
use Rattle.lt_table.specs.TableRows.{Stays}
use Rattle.lt_table.proofs.TableRows.{continues_same, length-types_behind}
use Rattle.lt_table.proofs.TableSame.{same_exact, same_self}
use Rattle.lt_tables.specs.declared.bare.BareRow.{BareRow}
use Rattle.lt_tables.specs.BareTypes.{is_bare, are_bare, IsBareOf, key_of}

both_true : (a b : Bool) → (a ≡ true → b ≡ true) → (b ≡ true → a ≡ true) → a ≡ b
both_true true b f g = sym (f refl)
both_true false true f g = g refl
both_true false false f g = refl

-- ---- types without qualifiers

mutual
  bare_is_bare : (t : CType) → is_bare (bare t) ≡ true
  bare_is_bare (Pointer t) = bare_is_bare t
  bare_is_bare (Array t n) = bare_is_bare t
  bare_is_bare (Function t ts dots) = ap (λ b. b && are_bare (all_bare ts)) (bare_is_bare t) ∙ all_are_bare ts
  bare_is_bare (Qualified q t) = bare_is_bare t
  bare_is_bare Void = refl
  bare_is_bare (Num s) = refl
  bare_is_bare (Struct k) = refl
  bare_is_bare Floating = refl

  all_are_bare : (ts : CTypes) → are_bare (all_bare ts) ≡ true
  all_are_bare no_types = refl
  all_are_bare (a_type t ts) = ap (λ b. b && are_bare (all_bare ts)) (bare_is_bare t) ∙ all_are_bare ts

left_true : (a b : Bool) → (a && b) ≡ true → a ≡ true
left_true true b h = refl
left_true false b h = h

right_true : (a b : Bool) → (a && b) ≡ true → b ≡ true
right_true true b h = h
right_true false b h = absurd (true≢false (sym h))

mutual
  bare_stays : (t : CType) → is_bare t ≡ true → bare t ≡ t
  bare_stays (Pointer t) h = ap Pointer (bare_stays t h)
  bare_stays (Array t n) h = ap (λ u. Array u n) (bare_stays t h)
  bare_stays (Function t ts dots) h =
      ap (λ u. Function u (all_bare ts) dots) (bare_stays t (left_true (is_bare t) (are_bare ts) h)) ∙ ap (λ us. Function t us dots) (all_stay ts (right_true (is_bare t) (are_bare ts) h))
  bare_stays (Qualified q t) h = absurd (true≢false (sym h))
  bare_stays Void h = refl
  bare_stays (Num s) h = refl
  bare_stays (Struct k) h = refl
  bare_stays Floating h = refl

  all_stay : (ts : CTypes) → are_bare ts ≡ true → all_bare ts ≡ ts
  all_stay no_types h = refl
  all_stay (a_type t ts) h = ap (λ u. a_type u (all_bare ts)) (bare_stays t (left_true (is_bare t) (are_bare ts) h)) ∙ ap (a_type t) (all_stay ts (right_true (is_bare t) (are_bare ts) h))

-- ---- an id that has a type whatever rows follow is one of a row

less_or_not : (a b : ℕ) → (a < b) ⊎ (b ≤ a)
less_or_not a b = grind arith

filled : CType → ℕ → List CType
filled t zero = t ∷ []
filled t (suc n) = t ∷ filled t n

filled_at : (types : List CType) (t : CType) (k n : ℕ) → length types ≤ k → k ≤ n → slice_index_or (types ++ filled t n) k Void ≡ t
unfolding filled
filled_at [] t zero zero h le = refl
filled_at [] t zero (suc n) h le = refl
filled_at [] t (suc k) zero h le = absurd (omega arith)
filled_at [] t (suc k) (suc n) h le = filled_at [] t k n (omega arith) (omega arith)
filled_at (x ∷ types) t zero n h le = absurd (omega arith)
filled_at (x ∷ types) t (suc k) n h le = filled_at types t k n (omega arith) (omega arith)

not_both : (t : CType) → t ≡ Void → t ≡ Floating → ⊥
not_both t p q = true≢false (ap (λ u. same Void u) (sym p ∙ q))

void_or : (types : List CType) (id : TypeId) → ((longer : List CType) → Continues types longer → type_in longer id ≡ type_in types id) → (id.place < length types) ⊎ (length types ≤ id.place) → id.place < length types
void_or types id h (inl within) = within
void_or types id h (inr beyond) =
    absurd
    (not_both (type_in types id)
    (sym (h (types ++ filled Void id.place) (filled Void id.place, refl)) ∙ filled_at types Void id.place id.place beyond (omega arith))
    (sym (h (types ++ filled Floating id.place) (filled Floating id.place, refl)) ∙ filled_at types Floating id.place id.place beyond (omega arith)))

pub made_within : (rows : List TypeRow) (id : TypeId) (made : CType) → Stays rows (λ types. type_in types id ≡ made) → id.place < length rows
made_within rows id made h =
    let types = types_of_rows rows in
    let size : length types ≡ 0 + length rows = length-types_behind [] rows in
    let within : id.place < length types =
    void_or types id (λ longer more. h longer more ∙ sym (h types (continues_same types))) (less_or_not id.place (length types)) in
    omega arith

-- ---- the same type has the same key

pub key_same : (rows : List TypeRow) (once : AreOnce rows) (size : ℕ) → length rows ≤ size → (t u : CType) (id : TypeId) (b : BareRow) → Stays rows (λ types. type_in types id ≡ bare t) → IsBareOf rows u b
    → (key_of size b == id.place) ≡ same (bare t) u
key_same rows once size fits t u id b is that =
    let types = types_of_rows rows in
    let first : type_in types id ≡ bare t = is types (continues_same types) in
    let second : type_in types b.id ≡ bare u = that.0 types (continues_same types) in
    let here : id.place < length rows = made_within rows id (bare t) is in
    let there : b.id.place < length rows = made_within rows b.id (bare u) that.0 in
    ⊎_elim
    (λ plain.
    let itself : bare u ≡ u = bare_stays u (sym that.1 ∙ plain) in
    let key : key_of size b ≡ b.id.place = ap (λ f. cond f b.id.place size) plain in
    both_true (key_of size b == id.place) (same (bare t) u)
    (λ e.
    let places : b.id.place ≡ id.place = sym key ∙ eqb-true (key_of size b) id.place e in
    let types_same : bare t ≡ u = sym first ∙ ap (λ k. slice_index_or types k Void) (sym places) ∙ second ∙ itself in
    ap (λ v. same v u) types_same ∙ same_self u)
    (λ e.
    let types_same : type_in types id ≡ type_in types b.id = first ∙ same_exact (bare t) u e ∙ sym itself ∙ sym second in
    eq-eqb (key_of size b) id.place (key ∙ sym (once.apart id b.id here there types_same))))
    (λ marked.
    let key : key_of size b ≡ size = ap (λ f. cond f b.id.place size) marked in
    both_true (key_of size b == id.place) (same (bare t) u)
    (λ e. let places : size ≡ id.place = sym key ∙ eqb-true (key_of size b) id.place e in absurd (omega (arith, places, here, fits)))
    (λ e. absurd (true≢false (sym (bare_is_bare t) ∙ ap is_bare (same_exact (bare t) u e) ∙ sym that.1 ∙ marked))))
    (cases_Bool b.is_bare)

-- ids are equal exactly where their types are the same
pub ids_same : (rows : List TypeRow) (once : AreOnce rows) (t u : CType) (a b : TypeId) → Stays rows (λ types. type_in types a ≡ bare t) → Stays rows (λ types. type_in types b ≡ bare u)
    → (a.place == b.place) ≡ same (bare t) (bare u)
ids_same rows once t u a b is that =
    let types = types_of_rows rows in
    let first : type_in types a ≡ bare t = is types (continues_same types) in
    let second : type_in types b ≡ bare u = that types (continues_same types) in
    both_true (a.place == b.place) (same (bare t) (bare u))
    (λ e.
    let types_same : bare t ≡ bare u = sym first ∙ ap (λ k. slice_index_or types k Void) (eqb-true a.place b.place e) ∙ second in
    ap (λ v. same v (bare u)) types_same ∙ same_self (bare u))
    (λ e.
    eq-eqb a.place b.place (once.apart a b (made_within rows a (bare t) is) (made_within rows b (bare u) that) (first ∙ same_exact (bare t) (bare u) e ∙ sym second)))

found_first : (a b : Bool) (k : ℕ) (o : Option ℕ) (rest count : ℕ) → a ≡ b → unwrap_or o (count + suc k) ≡ rest → unwrap_or (cond a (Some k) o) (suc count + k) ≡ cond b k rest
found_first true true k o rest count e h = refl
found_first false false k o rest count e h = let n : suc count + k ≡ count + suc k = omega arith in ap (unwrap_or o) n ∙ h
found_first true false k o rest count e h = absurd (true≢false e)
found_first false true k o rest count e h = absurd (true≢false (sym e))

pub found : (types : List CType) (x : CType) (n : ℕ) (key : TypeId → ℕ) → ((id : TypeId) → (key id == n) ≡ same x (type_in types id)) → (k : ℕ) (list : List TypeId)
    → unwrap_or (runs.place_among k n (map key list)) (length list + k) ≡ shapes.place_among k x (map (type_in types) list)
found types x n key h k [] = zero-add k
found types x n key h k (id ∷ ids) =
    found_first (key id == n) (same x (type_in types id)) k (runs.place_among (suc k) n (map key ids)) (shapes.place_among (suc k) x (map (type_in types) ids)) (length ids) (h id)
    (found types x n key h (suc k) ids)
