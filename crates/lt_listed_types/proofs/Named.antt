-- Types that are named in a list: by which memory is got at, and those of objects, which arrays and qualifiers may be made around.
use Rattle.std.proofs.Common.{◌≡◌, refl, sym, ap, ◌∙◌, Bool, true, false, List, inl, inr}
use Rattle.std.proofs.lemmas.Bool.{false≢true, and_parts, or_cases}
use Rattle.std.specs.Prelude.{◌&&◌, ◌||◌, if◌then◌else◌}
use Rattle.std.specs.List.{list_any}
use Rattle.lt_tree.specs.Typing.Types.{CType, Num, Pointer, Array, Struct, Qualified, bare, same, unqualified, alike, is_integer, is_pointer, is_struct}
use Rattle.lt_tree.specs.Typing.TypedTree.{Value, type_of}
use Rattle.lt_tree.specs.Typing.Operands.{points_to, are_integers, are_structs_alike, are_pointers_assignable, keeps_qualifiers, is_truth_type, is_assignable}
use Rattle.lt_tree.specs.Typing.Expressions.{cast_to, converted_to}
use Rattle.lt_type_laws.specs.Accesses.{is_named_in}
use Rattle.lt_type_laws.proofs.Equal.{same_exact}

-- a type that is or leads to a pointer or a struct through arrays and qualifiers: that is in the list
abbrev pub IsNamed : List CType → CType → Type 0
IsNamed types (Array t n) = IsNamed types t
IsNamed types (Qualified q t) = IsNamed types t
IsNamed types (Pointer t) = list_any (same (Pointer (bare t))) types ≡ true
IsNamed types (Struct k) = list_any (same (Struct k)) types ≡ true
IsNamed types _ = Unit {0}

-- the type without the arrays and qualifiers around it
abbrev pub inmost : CType → CType
inmost (Array t n) = inmost t
inmost (Qualified q t) = inmost t
inmost t = t

-- ---- what can be stored

target_there : (f : CType → Bool) (t : CType) → points_to f t ≡ true → is_pointer t ≡ true
target_there f (Pointer t) h = refl
target_there f (Qualified q t) h = target_there f t h
target_there f _ h = absurd (false≢true h)

truth_there : (t : CType) → is_truth_type t ≡ true → is_integer t ≡ true
truth_there (Num s) h = refl
truth_there (Qualified q t) h = truth_there t h
truth_there _ h = absurd (false≢true h)

-- a type to which something can be assigned is of one of these kinds
kinds : {P : Type 0} (t u : CType) (null : Bool) → is_assignable t u null ≡ true → (is_integer t ≡ true → P) → (is_pointer t ≡ true → P) → (are_structs_alike t u ≡ true → P) → P
kinds t u null h integer pointer struct = elim (or_cases (((are_integers t u || are_structs_alike t u) || are_pointers_assignable t u) || (is_pointer t && null)) (is_truth_type t && is_pointer u) h) [
  | inl i ↦ elim (or_cases ((are_integers t u || are_structs_alike t u) || are_pointers_assignable t u) (is_pointer t && null) i) [
    | inl j ↦ elim (or_cases (are_integers t u || are_structs_alike t u) (are_pointers_assignable t u) j) [
      | inl k ↦ elim (or_cases (are_integers t u) (are_structs_alike t u) k) [ inl l ↦ integer (and_parts (is_integer t) (is_integer u) l).0 | inr l ↦ struct l ]
      | inr k ↦ pointer (target_there _ t (and_parts (keeps_qualifiers t u) _ k).0)
    ]
    | inr j ↦ pointer (and_parts (is_pointer t) null j).0
  ]
  | inr i ↦ integer (truth_there t (and_parts (is_truth_type t) (is_pointer u) i).0)
]

-- ---- structs

no_integer : {P : Type 0} (t : CType) → is_struct t ≡ true → is_integer t ≡ true → P
no_integer (Qualified q t) h i = no_integer t h i
no_integer (Num s) h i = absurd (false≢true h)
no_integer _ h i = absurd (false≢true i)

no_pointer : {P : Type 0} (t : CType) → is_struct t ≡ true → is_pointer t ≡ true → P
no_pointer (Qualified q t) h i = no_pointer t h i
no_pointer (Pointer t) h i = absurd (false≢true h)
no_pointer _ h i = absurd (false≢true i)

alike_struct : (t u : CType) → are_structs_alike t u ≡ true → unqualified t ≡ unqualified u
alike_struct t u h = same_exact (unqualified t) (unqualified u) (and_parts (is_struct t) (alike t u) h).1

-- what is assigned to a struct is of its type
assigned_alike : (t u : CType) (null : Bool) → is_assignable t u null ≡ true → is_struct t ≡ true → unqualified t ≡ unqualified u
assigned_alike t u null h i = kinds t u null h (no_integer t i) (no_pointer t i) (alike_struct t u)

module _ (types : List CType) where
  pub named_inside : (t : CType) → IsNamed types (inmost t) → IsNamed types t
  named_inside (Array t n) h = named_inside t h
  named_inside (Qualified q t) h = named_inside t h
  named_inside _ h = h

  -- ---- memory is got at by

  pub unqualified_named : (t : CType) → is_named_in types t ≡ true → is_named_in types (unqualified t) ≡ true
  unqualified_named (Qualified q t) h = h
  unqualified_named _ h = h

  pub listed_named : (t : CType) → list_any (same (bare t)) types ≡ true → is_named_in types t ≡ true
  listed_named (Qualified q t) h = listed_named t h
  listed_named (Num s) h = refl
  listed_named _ h = h

  struct_named : (t : CType) → is_struct t ≡ true → IsNamed types t → is_named_in types t ≡ true
  struct_named (Struct k) h i = i
  struct_named (Qualified q t) h i = struct_named t h i
  struct_named _ h i = absurd (false≢true h)

  integer_named : (t : CType) → is_integer t ≡ true → is_named_in types t ≡ true
  integer_named (Num s) h = refl
  integer_named (Qualified q t) h = integer_named t h
  integer_named _ h = absurd (false≢true h)

  pointer_named : (t : CType) → is_pointer t ≡ true → IsNamed types t → is_named_in types t ≡ true
  pointer_named (Pointer t) h i = i
  pointer_named (Qualified q t) h i = pointer_named t h i
  pointer_named _ h i = absurd (false≢true h)

  assigned_named : (t u : CType) (null : Bool) → is_assignable t u null ≡ true → IsNamed types t → is_named_in types t ≡ true
  assigned_named t u null h i =
      kinds t u null h (integer_named t) (λ p. pointer_named t p i) (λ s. struct_named t (and_parts (is_struct t) (alike t u) s).0 i)

  -- qualifiers don't count
  without_qualifiers : (t : CType) → is_named_in types (unqualified t) ≡ is_named_in types t
  without_qualifiers (Qualified q t) = refl
  without_qualifiers _ = refl

  alike_named : (t u : CType) → unqualified t ≡ unqualified u → is_named_in types t ≡ true → is_named_in types u ≡ true
  alike_named t u e h = sym (without_qualifiers u) ∙ ap (is_named_in types) (sym e) ∙ without_qualifiers t ∙ h

  -- ---- a value that is assigned

  -- the type of the value as it is stored is named where the type that it is stored in is
  pub stored_named : (t : CType) (v : Value) (null : Bool) → is_assignable t (type_of v) null ≡ true → IsNamed types t → is_named_in types (type_of (converted_to t v)) ≡ true
  stored_named t v null h i = by (is_struct t) (same t (type_of v)) refl refl
    where
      by : (a b : Bool) → is_struct t ≡ a → same t (type_of v) ≡ b → is_named_in types (type_of (if a || b then v else cast_to t v)) ≡ true
      by true b struct e = alike_named t (type_of v) (assigned_alike t (type_of v) null h struct) (struct_named t struct i)
      by false true struct e = ap (is_named_in types) (sym (same_exact t (type_of v) e)) ∙ assigned_named t (type_of v) null h i
      by false false struct e = assigned_named t (type_of v) null h i
