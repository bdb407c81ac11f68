-- What conversions make of constants, and what is read of an array.
use Rattle.std.proofs.Common.{◌≡◌, ℕ, true, false, Some, refl, ap}
use Rattle.lt_model.specs.declared.scalar.DataModel.{DataModel}
use Rattle.lt_model.specs.declared.scalar.Scalar.{Scalar}
use Rattle.lt_tree.specs.Tree.{Qualifiers}
use Rattle.lt_tree.specs.Typing.Types.{CType, Void, Num, Pointer, Array, Struct, Function, Floating, Qualified, same, unqualified, scalar_of, is_pointer}
use Rattle.lt_tree.specs.Typing.Constants.{Constancy, varying}
use Rattle.lt_tree.specs.Typing.Expressions.{constancy_to, constancy_as_number, constancy_as_pointer, value_at}
use Rattle.lt_tree.specs.Typing.TypedTree as e
use Rattle.lt_table.proofs.TableSame.{same_self}

-- no type is a part of itself
never_itself : (q : Qualifiers) (t : CType) → t ≡ Qualified q t → ⊥
never_itself q (Qualified p t) is = never_itself p t (cc)
never_itself q Void is = cc
never_itself q (Num s) is = cc
never_itself q (Pointer t) is = cc
never_itself q (Array t n) is = cc
never_itself q (Struct k) is = cc
never_itself q (Function t ts dots) is = cc
never_itself q Floating is = cc

pub to_number : (m : DataModel) (s : Scalar) (t : CType) (c : Constancy) → unqualified t ≡ t → scalar_of t ≡ Some s → constancy_to m t c ≡ constancy_as_number m s c
to_number m s (Num r) c bare is = let same : r ≡ s = cc in ap (λ x. constancy_as_number m x c) same
to_number m s (Qualified q t) c bare is = absurd (never_itself q t bare)
to_number m s Void c bare is = cc
to_number m s (Pointer t) c bare is = cc
to_number m s (Array t n) c bare is = cc
to_number m s (Struct k) c bare is = cc
to_number m s (Function t ts dots) c bare is = cc
to_number m s Floating c bare is = cc

pub to_pointer : (m : DataModel) (t : CType) (c : Constancy) → unqualified t ≡ t → is_pointer t ≡ true → constancy_to m t c ≡ constancy_as_pointer t c
to_pointer m (Pointer t) c bare is = refl
to_pointer m (Qualified q t) c bare is = absurd (never_itself q t bare)
to_pointer m Void c bare is = cc
to_pointer m (Num s) c bare is = cc
to_pointer m (Array t n) c bare is = cc
to_pointer m (Struct k) c bare is = cc
to_pointer m (Function t ts dots) c bare is = cc
to_pointer m Floating c bare is = cc

bare_is_same : (t : CType) → same t t ≡ false → ⊥
bare_is_same t is = let self = same_self t in cc

-- a constant is converted to no type with qualifiers
pub to_qualified : (m : DataModel) (t : CType) (c : Constancy) → same t (unqualified t) ≡ false → varying ≡ constancy_to m t c
to_qualified m (Qualified q t) c is = refl
to_qualified m Void c is = refl
to_qualified m (Num s) c is = absurd (bare_is_same (Num s) is)
to_qualified m (Pointer t) c is = absurd (bare_is_same (Pointer t) is)
to_qualified m (Array t n) c is = refl
to_qualified m (Struct k) c is = refl
to_qualified m (Function t ts dots) c is = refl
to_qualified m Floating c is = refl

-- an array is the address of its first element
pub array_value : (t u pointer : CType) (n : ℕ) (place : e.Place) → t ≡ Array u n → pointer ≡ Pointer u → e.Decay pointer place ≡ value_at t place
array_value t u pointer n place array points = rw (array, points)
