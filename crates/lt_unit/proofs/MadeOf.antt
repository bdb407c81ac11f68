-- The types of which types are made, and lists in which each stands once.
use Rattle.std.proofs.Common.{◌≡◌, Bool, true, false, ◌||◌, ◌⊎◌, inl, inr, List, [], ◌∷◌, ◌++◌, refl, sym, ap, subst, ◌∙◌, true≢false}
use Rattle.std.specs.Prelude.{if◌then◌else◌}
use Rattle.std.specs.List.{list_any}
use Rattle.lt_tree.specs.Typing.Types.{CType, CTypes, Void, Num, Pointer, Array, Struct, Function, Floating, Qualified, no_types, a_type, bare, all_bare, same}
use Rattle.lt_tree.specs.Typing.Programs.{made_of, all_made_of, with_new}
use Rattle.lt_table.proofs.TableSame.{same_exact, same_self}
use Rattle.lt_unit.specs.MadeOf.{IsIn, IsClosed, parts_of}

-- ---- lists of types

abbrev Among : CType → List CType → Type 0
Among x [] = ⊥
Among x (y ∷ ys) = (x ≡ y) ⊎ Among x ys

one_of : (x y : CType) (ys : List CType) (b c : Bool) → same x y ≡ b → list_any (same x) ys ≡ c → (b || c) ≡ true → (x ≡ y) ⊎ IsIn x ys
one_of x y ys true c e f h = inl (same_exact x y e)
one_of x y ys false c e f h = inr (f ∙ h)

among : (x : CType) (list : List CType) → IsIn x list → Among x list
among x [] h = absurd (true≢false (sym h))
among x (y ∷ ys) h = elim (one_of x y ys (same x y) (list_any (same x) ys) refl refl h) [ inl e ↦ inl e | inr f ↦ inr (among x ys f) ]

either_true : (a b : Bool) → b ≡ true → (a || b) ≡ true
either_true true b h = refl
either_true false b h = h

is_in : (x : CType) (list : List CType) → Among x list → IsIn x list
is_in x [] h = absurd h
is_in x (y ∷ ys) (inl e) = ap (λ b. b || list_any (same x) ys) (ap (same x) (sym e) ∙ same_self x)
is_in x (y ∷ ys) (inr h) = either_true (same x y) (list_any (same x) ys) (is_in x ys h)

left : (x : CType) (xs ys : List CType) → Among x xs → Among x (xs ++ ys)
left x [] ys h = absurd h
left x (y ∷ xs) ys (inl e) = inl e
left x (y ∷ xs) ys (inr h) = inr (left x xs ys h)

right : (x : CType) (xs ys : List CType) → Among x ys → Among x (xs ++ ys)
right x [] ys h = h
right x (y ∷ xs) ys h = inr (right x xs ys h)

parted : (x : CType) (xs ys : List CType) → Among x (xs ++ ys) → Among x xs ⊎ Among x ys
parted x [] ys h = inr h
parted x (y ∷ xs) ys (inl e) = inl (inl e)
parted x (y ∷ xs) ys (inr h) = elim (parted x xs ys h) [ inl f ↦ inl (inr f) | inr f ↦ inr f ]

-- ---- lists with what is new

abbrev one_new : Bool → List CType → CType → List CType
one_new is_there found t = if is_there then found else found ++ t ∷ []

pub with_new-append : (found xs ys : List CType) → with_new found (xs ++ ys) ≡ with_new (with_new found xs) ys
with_new-append found [] ys = refl
with_new-append found (x ∷ xs) ys = with_new-append (one_new (list_any (same x) found) found x) xs ys

one_keeps : (b : Bool) (x y : CType) (found : List CType) → Among x found → Among x (one_new b found y)
one_keeps true x y found h = h
one_keeps false x y found h = left x found (y ∷ []) h

keeps : (x : CType) (found ys : List CType) → Among x found → Among x (with_new found ys)
keeps x found [] h = h
keeps x found (y ∷ ys) h = keeps x (one_new (list_any (same y) found) found y) ys (one_keeps (list_any (same y) found) x y found h)

one_has : (b : Bool) (y : CType) (found : List CType) → list_any (same y) found ≡ b → Among y (one_new b found y)
one_has true y found e = among y found e
one_has false y found e = right y found (y ∷ []) (inl refl)

has : (x : CType) (found ys : List CType) → Among x ys → Among x (with_new found ys)
has x found [] h = absurd h
has x found (y ∷ ys) (inl e) =
    keeps x (one_new (list_any (same y) found) found y) ys (subst (λ z. Among z (one_new (list_any (same y) found) found y)) (sym e) (one_has (list_any (same y) found) y found refl))
has x found (y ∷ ys) (inr h) = has x (one_new (list_any (same y) found) found y) ys h

one_from : (b : Bool) (x y : CType) (found : List CType) → Among x (one_new b found y) → Among x found ⊎ (x ≡ y)
one_from true x y found h = inl h
one_from false x y found h = elim (parted x found (y ∷ []) h) [ inl f ↦ inl f | inr f ↦ elim f [ inl e ↦ inr e | inr none ↦ absurd none ] ]

from : (x : CType) (found ys : List CType) → Among x (with_new found ys) → Among x found ⊎ Among x ys
from x found [] h = inl h
from x found (y ∷ ys) h = elim (from x (one_new (list_any (same y) found) found y) ys h) [
  | inl f ↦ elim (one_from (list_any (same y) found) x y found f) [ inl g ↦ inl g | inr e ↦ inr (inl e) ]
  | inr f ↦ inr (inr f)
]

none_new : (found ys : List CType) → ((x : CType) → Among x ys → Among x found) → with_new found ys ≡ found
none_new found [] h = refl
none_new found (y ∷ ys) h =
    ap (λ b. with_new (one_new b found y) ys) (is_in y found (h y (inl refl))) ∙ none_new found ys (λ x k. h x (inr k))

-- ---- what types are made of

mutual
  bare-bare : (t : CType) → bare (bare t) ≡ bare t
  bare-bare Void = refl
  bare-bare (Num s) = refl
  bare-bare (Pointer t) = ap Pointer (bare-bare t)
  bare-bare (Array t n) = ap (λ u. Array u n) (bare-bare t)
  bare-bare (Struct k) = refl
  bare-bare (Function t ts dots) = ap (λ u. Function u (all_bare (all_bare ts)) dots) (bare-bare t) ∙ ap (λ us. Function (bare t) us dots) (all_bare-bare ts)
  bare-bare Floating = refl
  bare-bare (Qualified q t) = bare-bare t

  all_bare-bare : (ts : CTypes) → all_bare (all_bare ts) ≡ all_bare ts
  all_bare-bare no_types = refl
  all_bare-bare (a_type t ts) = ap (λ u. a_type u (all_bare (all_bare ts))) (bare-bare t) ∙ ap (a_type (bare t)) (all_bare-bare ts)

mutual
  made_of-bare : (t : CType) → made_of (bare t) ≡ made_of t
  made_of-bare Void = refl
  made_of-bare (Num s) = refl
  made_of-bare (Pointer t) = ap (λ l. l ++ Pointer (bare (bare t)) ∷ []) (made_of-bare t) ∙ ap (λ u. made_of t ++ Pointer u ∷ []) (bare-bare t)
  made_of-bare (Array t n) = ap (λ l. l ++ Array (bare (bare t)) n ∷ []) (made_of-bare t) ∙ ap (λ u. made_of t ++ Array u n ∷ []) (bare-bare t)
  made_of-bare (Struct k) = refl
  made_of-bare (Function t ts dots) =
      ap (λ l. l ++ all_made_of (all_bare ts) ++ bare (bare (Function t ts dots)) ∷ []) (made_of-bare t)
      ∙ ap (λ l. made_of t ++ l ++ bare (bare (Function t ts dots)) ∷ []) (all_made_of-bare ts)
      ∙ ap (λ u. made_of t ++ all_made_of ts ++ u ∷ []) (bare-bare (Function t ts dots))
  made_of-bare Floating = refl
  made_of-bare (Qualified q t) = made_of-bare t

  all_made_of-bare : (ts : CTypes) → all_made_of (all_bare ts) ≡ all_made_of ts
  all_made_of-bare no_types = refl
  all_made_of-bare (a_type t ts) = ap (λ l. l ++ all_made_of (all_bare ts)) (made_of-bare t) ∙ ap (λ l. made_of t ++ l) (all_made_of-bare ts)

-- a type is the last of which it is made
itself : (t : CType) → Among (bare t) (made_of t)
itself Void = inl refl
itself (Num s) = inl refl
itself (Pointer t) = right (Pointer (bare t)) (made_of t) (Pointer (bare t) ∷ []) (inl refl)
itself (Array t n) = right (Array (bare t) n) (made_of t) (Array (bare t) n ∷ []) (inl refl)
itself (Struct k) = inl refl
itself (Function t ts dots) =
    right (bare (Function t ts dots)) (made_of t ++ all_made_of ts) (bare (Function t ts dots) ∷ []) (inl refl)
itself Floating = inl refl
itself (Qualified q t) = itself t

-- what stands last is made of what stands before it
behind : (x y t : CType) (all : List CType) → x ≡ bare t → made_of t ≡ all → Among y (made_of x) → Among y all
behind x y t all e f h = subst (Among y) (ap made_of e ∙ made_of-bare t ∙ f) h

mutual
  made_through : (t x y : CType) → Among x (made_of t) → Among y (made_of x) → Among y (made_of t)
  made_through Void x y (inl e) h = subst (λ z. Among y (made_of z)) e h
  made_through Void x y (inr n) h = absurd n
  made_through (Num s) x y (inl e) h = subst (λ z. Among y (made_of z)) e h
  made_through (Num s) x y (inr n) h = absurd n
  made_through (Pointer t) x y i h = elim (parted x (made_of t) (Pointer (bare t) ∷ []) i) [
    | inl j ↦ left y (made_of t) (Pointer (bare t) ∷ []) (made_through t x y j h)
    | inr j ↦ elim j [ inl e ↦ behind x y (Pointer t) (made_of (Pointer t)) e refl h | inr n ↦ absurd n ]
  ]
  made_through (Array t n) x y i h = elim (parted x (made_of t) (Array (bare t) n ∷ []) i) [
    | inl j ↦ left y (made_of t) (Array (bare t) n ∷ []) (made_through t x y j h)
    | inr j ↦ elim j [ inl e ↦ behind x y (Array t n) (made_of (Array t n)) e refl h | inr n ↦ absurd n ]
  ]
  made_through (Struct k) x y (inl e) h = subst (λ z. Among y (made_of z)) e h
  made_through (Struct k) x y (inr n) h = absurd n
  made_through (Function t ts dots) x y i h =
      let last : List CType = bare (Function t ts dots) ∷ [] in
      elim (parted x (made_of t ++ all_made_of ts) last i) [
        | inl j ↦ left y (made_of t ++ all_made_of ts) last (elim (parted x (made_of t) (all_made_of ts) j) [
          | inl k ↦ left y (made_of t) (all_made_of ts) (made_through t x y k h)
          | inr k ↦ right y (made_of t) (all_made_of ts) (all_made_through ts x y k h)
        ])
        | inr j ↦ elim j [ inl e ↦ behind x y (Function t ts dots) (made_of (Function t ts dots)) e refl h | inr n ↦ absurd n ]
      ]
  made_through Floating x y (inl e) h = subst (λ z. Among y (made_of z)) e h
  made_through Floating x y (inr n) h = absurd n
  made_through (Qualified q t) x y i h = made_through t x y i h

  all_made_through : (ts : CTypes) (x y : CType) → Among x (all_made_of ts) → Among y (made_of x) → Among y (all_made_of ts)
  all_made_through no_types x y i h = absurd i
  all_made_through (a_type t ts) x y i h = elim (parted x (made_of t) (all_made_of ts) i) [
    | inl j ↦ left y (made_of t) (all_made_of ts) (made_through t x y j h)
    | inr j ↦ right y (made_of t) (all_made_of ts) (all_made_through ts x y j h)
  ]

-- ---- lists that are closed

pub closed_none : IsClosed []
closed_none t u h k = absurd (true≢false (sym h))

pub closed_on : (found : List CType) (t : CType) → IsClosed found → IsClosed (with_new found (made_of t))
closed_on found t closed x y h k = is_in y (with_new found (made_of t)) (elim (from x found (made_of t) (among x _ h)) [
  | inl f ↦ keeps y found (made_of t) (among y found (closed x y (is_in x found f) k))
  | inr f ↦ has y found (made_of t) (made_through t x y f (among y (made_of x) k))
])

-- a type that is there has all there of which it is made
pub listed_already : (found : List CType) (t : CType) → IsClosed found → IsIn (bare t) found → with_new found (made_of t) ≡ found
listed_already found t closed h = none_new found (made_of t) (λ x k. among x found (closed (bare t) x h (is_in x (made_of (bare t)) (subst (Among x) (sym (made_of-bare t)) k))))

-- ---- the parts of a type

-- a type behind its parts
pub parts_before : (found : List CType) (t : CType) → with_new (with_new found (parts_of t)) (bare t ∷ []) ≡ with_new found (made_of t)
parts_before found Void = refl
parts_before found (Num s) = refl
parts_before found (Pointer t) = sym (with_new-append found (made_of t) (Pointer (bare t) ∷ []))
parts_before found (Array t n) = sym (with_new-append found (made_of t) (Array (bare t) n ∷ []))
parts_before found (Struct k) = refl
parts_before found (Function t ts dots) =
    sym (with_new-append found (made_of t ++ all_made_of ts) (bare (Function t ts dots) ∷ []))
parts_before found Floating = refl
parts_before found (Qualified q t) = none_new (with_new found (made_of t)) (bare t ∷ []) (λ x h. elim h [ inl e ↦ subst (λ z. Among z (with_new found (made_of t))) (sym e) (has (bare t) found (made_of t) (itself t)) | inr n ↦ absurd n ])
