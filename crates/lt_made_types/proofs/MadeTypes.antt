-- Types as typing makes them: arrays are of no functions, and qualifiers stand at no array and no function.
use Rattle.std.proofs.Common.{◌≡◌, refl, ℕ, Bool, true, false}
use Rattle.std.specs.Prelude.{if◌then◌else◌, unwrap_or, ◌||◌, ◌==◌}
use Rattle.lt_tree.specs.Tree.{Qualifiers}
use Rattle.lt_tree.specs.Typing.Types.{CType, Void, Num, Pointer, Array, Struct, Function, Floating, Qualified, add_qualifiers, qualified, unqualified, target_of, adjusted, is_array, is_function, is_struct, is_pointer_to_function}
use Rattle.lt_tree.specs.Typing.TypedTree as e
use Rattle.lt_tree.specs.Typing.TypedTree.{Value, Place, type_of, type_at}
use Rattle.lt_tree.specs.Typing.Expressions.{has_pointer_to_function, value_at}
use Rattle.lt_tree.specs.Typing.InitialiserTyping.{with_length}
use Rattle.lt_made_types.specs.Laws.{is_of_functions, is_array_of_functions}

abbrev pub IsMade : CType → Type 0
IsMade (Pointer t) = IsMade t
IsMade (Array t n) = (is_of_functions t ≡ false) × IsMade t
IsMade (Function t ts dots) = IsMade t
IsMade (Qualified q t) = (is_array t ≡ false) × (is_of_functions t ≡ false) × IsMade t
IsMade _ = Unit {0}

pub record Made (t : CType) : Type 0 where
  pub so : IsMade t

-- ---- functions and arrays of functions

pub of_none : (t : CType) → Made t → is_function t ≡ false → is_of_functions t ≡ false
of_none (Array t n) h other = h.so.0
of_none (Qualified q t) h other = h.so.1
of_none (Function t ts dots) h other = other
of_none _ h other = refl

pub is_none : (t : CType) → is_of_functions t ≡ false → is_function t ≡ false
is_none (Function t ts dots) h = h
is_none _ h = refl

pub no_array_of_functions : (t : CType) → IsMade t → is_array_of_functions t ≡ false
no_array_of_functions (Array t n) h = h.0
no_array_of_functions (Qualified q t) h = no_array_of_functions t h.2
no_array_of_functions _ h = refl

-- ---- types that are made of others

pub unqualified_made : (t : CType) → Made t → Made (unqualified t)
unqualified_made (Qualified q t) h = record { so = h.so.2 }
unqualified_made _ h = h

added_made : (q : Qualifiers) (t : CType) → is_array t ≡ false → is_of_functions t ≡ false → Made t → Made (add_qualifiers q t)
added_made q t array functions h = elim (q.constant || q.volatile) as (λ v. Made (if v then Qualified q t else t)) [ true ↦ record { so = (array, functions, h.so) } | false ↦ h ]

added_none : (q : Qualifiers) (t : CType) → is_of_functions t ≡ false → is_of_functions (add_qualifiers q t) ≡ false
added_none q t h = elim (q.constant || q.volatile) as (λ v. is_of_functions (if v then Qualified q t else t) ≡ false) [ true ↦ h | false ↦ h ]

qualified_none : (q : Qualifiers) (t : CType) → is_of_functions t ≡ false → is_of_functions (qualified q t) ≡ false
qualified_none q (Array t n) h = qualified_none q t h
qualified_none q (Qualified p t) h = h
qualified_none q (Function t ts dots) h = h
qualified_none q Void h = added_none q Void h
qualified_none q (Num s) h = added_none q (Num s) h
qualified_none q (Pointer t) h = added_none q (Pointer t) h
qualified_none q (Struct k) h = added_none q (Struct k) h
qualified_none q Floating h = added_none q Floating h

pub qualified_made : (q : Qualifiers) (t : CType) → Made t → Made (qualified q t)
qualified_made q (Array t n) h = record { so = (qualified_none q t h.so.0, (qualified_made q t (record { so = h.so.1 })).so) }
qualified_made q (Qualified p t) h = record { so = h.so }
qualified_made q (Function t ts dots) h = h
qualified_made q Void h = added_made q Void refl refl h
qualified_made q (Num s) h = added_made q (Num s) refl refl h
qualified_made q (Pointer t) h = added_made q (Pointer t) refl refl h
qualified_made q (Struct k) h = added_made q (Struct k) refl refl h
qualified_made q Floating h = added_made q Floating refl refl h

pub pointer_made : {t : CType} → Made t → Made (Pointer t)
pointer_made h = record { so = h.so }

pub adjusted_made : (t : CType) → Made t → Made (adjusted t)
adjusted_made (Array t n) h = record { so = h.so.1 }
adjusted_made (Function t ts dots) h = record { so = h.so }
adjusted_made _ h = h

-- what a pointer points to, or another type
pub target_made : (t other : CType) → Made t → Made other → Made (unwrap_or (target_of t) other)
target_made (Pointer t) other h i = record { so = h.so }
target_made (Qualified q t) other h i = target_made t other (record { so = h.so.2 }) i
target_made _ other h i = i

lengthened : (unknown : Bool) (t : CType) (n k : ℕ) → Made (Array t n) → Made (if unknown then Array t k else Array t n)
lengthened true t n k h = record { so = h.so }
lengthened false t n k h = h

pub with_length_made : (t : CType) (k : ℕ) → Made t → Made (with_length t k)
with_length_made (Array t n) k h = lengthened (n == 0) t n k h
with_length_made _ k h = h

-- ---- what is read

read_made : (t : CType) (place : Place) → Made t → Made (type_of (if is_struct t then e.Whole (unqualified t) place else e.Load (unqualified t) place))
read_made t place h =
    elim (is_struct t) as (λ v. Made (type_of (if v then e.Whole (unqualified t) place else e.Load (unqualified t) place))) [ true ↦ unqualified_made t h | false ↦ unqualified_made t h ]

pub value_made : (t : CType) (place : Place) → Made t → Made (type_of (value_at t place))
value_made (Array t n) place h = record { so = h.so.1 }
value_made t place h = read_made t place h

-- what is no array is its own element
itself : (t : CType) → is_array t ≡ false → is_pointer_to_function t ≡ false → has_pointer_to_function t ≡ false
itself (Array t n) other h = absurd cc
itself _ other h = h

unqualified_no_pointer : (t : CType) → IsMade t → has_pointer_to_function t ≡ false → has_pointer_to_function (unqualified t) ≡ false
unqualified_no_pointer (Qualified q t) made h = itself t made.0 h
unqualified_no_pointer _ made h = h

read_no_pointer : (t : CType) (place : Place) → IsMade t → has_pointer_to_function t ≡ false
    → has_pointer_to_function (type_of (if is_struct t then e.Whole (unqualified t) place else e.Load (unqualified t) place)) ≡ false
read_no_pointer t place made h =
    elim (is_struct t) as (λ v. has_pointer_to_function (type_of (if v then e.Whole (unqualified t) place else e.Load (unqualified t) place)) ≡ false)
    [ true ↦ unqualified_no_pointer t made h | false ↦ unqualified_no_pointer t made h ]

-- the value of a place is no pointer to a function, if the place is none
pub value_no_pointer : (t : CType) (place : Place) → IsMade t → has_pointer_to_function t ≡ false → has_pointer_to_function (type_of (value_at t place)) ≡ false
value_no_pointer (Array t n) place made h = is_none t made.0
value_no_pointer t place made h = read_no_pointer t place made h
