-- An id that stands for one type, whatever types are added later, has a row.
use Rattle.std.proofs.Common.{◌≡◌, sym, ap, ◌+◌, ◌-◌, ◌<◌, ◌≤◌, List, [], ◌∷◌, ◌++◌, length, map, replicate, Option, Some, None, inl, inr, arith}
use Rattle.std.specs.Prelude.{unwrap_or, option_map}
use Rattle.std.specs.List.{AllByRecursion, flat_map}
use Rattle.std.proofs.lemmas.Bool.Decides.{leb_tells}
use Rattle.std.proofs.lemmas.List.{append-nil, append_assoc, length-append, length-replicate, get_or_past, get_or_push}
use Rattle.lt_tree.specs.declared.typed.types.TypeId.{TypeId}
use Rattle.lt_tree.specs.declared.typed.types.TypeRow.{TypeRow}
use Rattle.lt_tree.specs.Typing.Types.{CType, Void, Floating}
use Rattle.lt_tree.specs.Typing.TypeRows.{type_in, type_of_row, types_behind, Continues}
use Rattle.lt_tree.specs.Typing.TypeIds.{IsBelow, ids_in_option}

-- it is the same, whatever types are added to these
pub record Same {A : Type 0} (types : List CType) (it : List CType → A) : Type 0 where
  pub is : (t u : List CType) → Continues types t → Continues types u → it t ≡ it u

-- a part of what is the same is the same
pub part : {A B : Type 0} {types : List CType} {it : List CType → A} (of : A → B) → Same types it → Same types (λ ts. of (it ts))
part of h = record { is = λ t u p q. ap of (h.is t u p q) }

pub length_of_rows : (types : List CType) (rows : List TypeRow) → length (types_behind types rows) ≡ length types + length rows
length_of_rows types [] = omega arith
length_of_rows types (r ∷ rows) = omega (arith, length_of_rows (types ++ type_of_row types r ∷ []) rows, length-append types (type_of_row types r ∷ []))

-- ---- one id

-- past the types stands none, and any other one could be added there
past : (types : List CType) (id : TypeId) → Same types (λ ts. type_in ts id) → length types ≤ id.place → ⊥
past types id h le =
    let others : List CType = types ++ replicate (id.place - length types) Void in
    let long : length others ≡ id.place = omega (arith, length-append types (replicate (id.place - length types) Void), length-replicate (id.place - length types) Void) in
    let none : type_in types id ≡ Void = get_or_past types id.place Void le in
    let there : type_in (others ++ Floating ∷ []) id ≡ Floating = get_or_push others Floating Void id.place long in
    let same : type_in types id ≡ type_in (others ++ Floating ∷ []) id =
    h.is types (others ++ Floating ∷ []) ([], sym (append-nil types)) (replicate (id.place - length types) Void ++ Floating ∷ [], append_assoc types (replicate (id.place - length types) Void) (Floating ∷ [])) in
    cc

pub has_row : (types : List CType) (id : TypeId) → Same types (λ ts. type_in ts id) → id.place < length types
has_row types id h = elim (leb_tells (length types) id.place) [ inl le ↦ absurd (past types id h le.1) | inr lt ↦ lt.1 ]

-- ---- lists of ids

pub record Below (types : List CType) (ids : List TypeId) : Type 0 where
  pub each : AllByRecursion (IsBelow (length types)) ids

pub none : {types : List CType} → Below types []
none = record { each = tt }

pub first : {types : List CType} (id : TypeId) {ids : List TypeId} → Same types (λ ts. type_in ts id) → Below types ids → Below types (id ∷ ids)
first {types} id h hs = record { each = (has_row types id h, hs.each) }

pub both : {types : List CType} (ids : List TypeId) {others : List TypeId} → Below types ids → Below types others → Below types (ids ++ others)
both [] h i = i
both (id ∷ ids) h i = record { each = (h.each.0, (both ids (record { each = h.each.1 }) i).each) }

-- ---- lists of what holds ids

abbrev pub head_or : {A : Type 0} → A → List A → A
head_or d [] = d
head_or d (x ∷ xs) = x

abbrev pub tail_of : {A : Type 0} → List A → List A
tail_of [] = []
tail_of (x ∷ xs) = xs

pub in_list : {A B : Type 0} {types : List CType} (view : List CType → A → B) (ids : A → List TypeId) → ((a : A) → Same types (λ ts. view ts a) → Below types (ids a))
    → (xs : List A) → Same types (λ ts. map (view ts) xs) → Below types (flat_map ids xs)
in_list view ids f [] h = none
in_list view ids f (x ∷ xs) h = both (ids x) (f x (part (head_or (view [] x)) h)) (in_list view ids f xs (part tail_of h))

pub in_option : {A B : Type 0} {types : List CType} (view : List CType → A → B) (ids : A → List TypeId) → ((a : A) → Same types (λ ts. view ts a) → Below types (ids a))
    → (x : Option A) → Same types (λ ts. option_map (view ts) x) → Below types (ids_in_option ids x)
in_option view ids f None h = none
in_option view ids f (Some a) h = f a (part (λ o. unwrap_or o (view [] a)) h)
