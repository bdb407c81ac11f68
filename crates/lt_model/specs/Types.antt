-- Types of C as values, C11 6.2.5 and 6.7.3, without where they lie in memory.
use Rattle.std.specs.Prelude.{ℕ, ◌||◌, Bool, true, false, if◌then◌else◌}
use Rattle.lt_model.specs.declared.scalar.Scalar.{Scalar}

-- the qualifiers of C11 6.7.3
pub record Qualifiers : Type 0 where
  pub constant : Bool
  pub volatile : Bool

-- Qualifiers other than `const` and `volatile` aren't read. Those of an array stand at its elements; a type with qualifiers isn't qualified
-- again.
mutual
  pub data CType : Type 0 where
    Void : CType
    Num : (scalar : Scalar) → CType
    Pointer : (target : CType) → CType
    -- of so many elements; 0 as long as its initialiser is to give the number
    Array : (element : CType) (length : ℕ) → CType
    -- by its place in the list of structs
    Struct : (number : ℕ) → CType
    -- parameters are adjusted and have no qualifiers of their own; dots stand for further arguments
    Function : (result : CType) (parameters : CTypes) (dots : Bool) → CType
    -- `float`, `double` and `long double` are one type
    Floating : CType
    Qualified : (qualifiers : Qualifiers) (type : CType) → CType

  pub data CTypes : Type 0 where
    no_types : CTypes
    a_type : (first : CType) (rest : CTypes) → CTypes

-- ---- qualifiers, C11 6.7.3

abbrev pub both : Qualifiers → Qualifiers → Qualifiers
both p q = record { constant = p.constant || q.constant; volatile = p.volatile || q.volatile }

abbrev pub add_qualifiers : Qualifiers → CType → CType
add_qualifiers q t = if q.constant || q.volatile then Qualified q t else t

-- The type with these qualifiers too. Those of an array are its elements'; a function has none.
abbrev pub qualified : Qualifiers → CType → CType
qualified q (Array t n) = Array (qualified q t) n
qualified q (Qualified p t) = Qualified (both p q) t
qualified q (Function t ts dots) = Function t ts dots
qualified q t = add_qualifiers q t

abbrev pub unqualified : CType → CType
unqualified (Qualified q t) = t
unqualified t = t

-- ---- what layout asks of types, C11 6.2.5

abbrev pub is_floating : CType → Bool
is_floating Floating = true
is_floating (Qualified q t) = is_floating t
is_floating _ = false

-- the type of an array's elements, and of theirs
abbrev pub element : CType → CType
element (Array t n) = element t
element t = t
