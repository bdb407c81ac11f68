-- What choices and assignments make of their parts.
use Rattle.std.proofs.Common.{◌≡◌, ℕ, Bool, List, sym, ap, ◌∙◌}
use Rattle.lt_model.specs.declared.scalar.DataModel.{DataModel}
use Rattle.lt_model.specs.declared.scalar.Scalar.{Scalar}
use Rattle.lt_model.specs.declared.operator.Op.{Op}
use Rattle.lt_model.specs.Conversions.{usual_of}
use Rattle.lt_tree.specs.Typing.Types.{CType, Num, unqualified}
use Rattle.lt_tree.specs.Typing.Entities.{Known}
use Rattle.lt_tree.specs.Typing.Rules.{Rule}
use Rattle.lt_tree.specs.Typing.Operands.{are_integers}
use Rattle.lt_tree.specs.Typing.Constants.{Constancy, chosen}
use Rattle.lt_tree.specs.Typing.TypedTree as e
use Rattle.lt_tree.specs.Typing.TypedTree.{Value, Place}
use Rattle.lt_tree.specs.Typing.Expressions.{Typed, Judged, judgement, valued, own_type, value_in, place_in, converted_to, constancy_to, varies}
use Rattle.lt_tree.specs.Typing.Operations.{element_size}
use Rattle.lt_tree.specs.Typing.BinaryOperations.{common_pointer, operation_type, right_type}

pub usual_is : (m m' : DataModel) (a b a' b' u : Scalar) (t : CType) → m' ≡ m → a ≡ a' → b ≡ b' → u ≡ usual_of m' a b → t ≡ Num u → t ≡ Num (usual_of m a' b')
usual_is m m' a b a' b' u t e1 e2 e3 e4 e5 = rw (e5, e4, e1, e2, e3)

pub pointer_to : (p target t u target' t' u' : CType) → p ≡ common_pointer target t u → target ≡ target' → t ≡ t' → u ≡ u' → p ≡ common_pointer target' t' u'
pointer_to p target t u target' t' u' e1 e2 e3 e4 = rw (e1, e2, e3, e4)

-- `p ? x : y` of a type
abbrev pub conditional_at : DataModel → CType → Typed → Typed → Typed → Typed
conditional_at m t p x y =
    valued (e.Conditional t (value_in p) (converted_to t (value_in x)) (converted_to t (value_in y)))
    (constancy_to m t (chosen p.constancy x.constancy y.constancy)) (constancy_to m t (chosen p.erased x.erased y.erased))

pub conditional_is : (m m2 : DataModel) (t : CType) (p x y p1 x1 y1 p2 x2 y2 : Typed) (k0 e0 k1 e1 : Constancy) (test left right v : Value) (it : Typed)
    → m2 ≡ m → p1 ≡ p → x1 ≡ x → y1 ≡ y → p2 ≡ p → x2 ≡ x → y2 ≡ y
    → k0 ≡ chosen p1.constancy x1.constancy y1.constancy → e0 ≡ chosen p2.erased x2.erased y2.erased
    → k1 ≡ constancy_to m t k0 → e1 ≡ constancy_to m2 t e0
    → test ≡ value_in p → left ≡ converted_to t (value_in x) → right ≡ converted_to t (value_in y)
    → v ≡ e.Conditional t test left right → it ≡ valued v k1 e1
    → it ≡ conditional_at m t p x y
conditional_is m m2 t p x y p1 x1 y1 p2 x2 y2 k0 e0 k1 e1 test left right v it f1 f2 f3 f4 f5 f6 f7 g1 g2 g3 g4 g5 g6 g7 g8 g9 =
    rw (g9, g8, g7, g6, g5, g3, g4, g1, g2, f1, f2, f3, f4, f5, f6, f7)

pub assigned_is : (x y x1 : Typed) (t o : CType) (place : Place) (value v : Value) (it : Typed)
    → x1 ≡ x → o ≡ own_type x1 → t ≡ unqualified o → place ≡ place_in x → value ≡ converted_to t (value_in y) → v ≡ e.Assign t place value → it ≡ varies v
    → it ≡ varies (e.Assign (unqualified (own_type x)) (place_in x) (converted_to (unqualified (own_type x)) (value_in y)))
assigned_is x y x1 t o place value v it f1 e1 e2 e3 e4 e5 e6 = rw (e6, e5, e4, e3, e2, e1, f1)

pub updated_pointer_is : (known : Known) (op : Op) (x y x1 y1 x2 : Typed) (t o : CType) (size : ℕ) (place : Place) (value v : Value)
    → x1 ≡ x → y1 ≡ y → x2 ≡ x → size ≡ element_size known x1 y1 → o ≡ own_type x2 → t ≡ unqualified o → place ≡ place_in x → value ≡ value_in y
    → v ≡ e.UpdatePointer t op size place value
    → v ≡ e.UpdatePointer (unqualified (own_type x)) op (element_size known x y) (place_in x) (value_in y)
updated_pointer_is known op x y x1 y1 x2 t o size place value v f1 f2 f3 e1 e2 e3 e4 e5 e6 = rw (e6, e5, e4, e3, e2, e1, f1, f2, f3)

pub updated_integer_is : (known : Known) (op : Op) (x y x1 y1 x2 : Typed) (s r : Scalar) (t o : CType) (place : Place) (value v : Value)
    → x1 ≡ x → y1 ≡ y → x2 ≡ x → s ≡ operation_type known op x1 y1 → r ≡ right_type known op x1 y1 → o ≡ own_type x2 → t ≡ unqualified o
    → place ≡ place_in x → value ≡ converted_to (Num r) (value_in y) → v ≡ e.Update t op s place value
    → v ≡ e.Update (unqualified (own_type x)) op (operation_type known op x y) (place_in x) (converted_to (Num (right_type known op x y)) (value_in y))
updated_integer_is known op x y x1 y1 x2 s r t o place value v f1 f2 f3 e1 e2 e3 e4 e5 e6 e7 = rw (e7, e6, e5, e4, e3, e2, e1, f1, f2, f3)

pub judged_is : (faults faults' : List Rule) (it it' : Typed) (j : Judged) → faults ≡ faults' → it ≡ it' → j ≡ judgement faults it → j ≡ judgement faults' it'
judged_is faults faults' it it' j e1 e2 e3 = rw (e3, e1, e2)

pub both_integers : (x y x1 y1 : Typed) (b v : Bool) → x1 ≡ x → y1 ≡ y → b ≡ are_integers (own_type x1) (own_type y1) → b ≡ v → are_integers (own_type x) (own_type y) ≡ v
both_integers x y x1 y1 b v f g e is = sym (e ∙ ap (λ x. are_integers (own_type x) (own_type y1)) f ∙ ap (λ y. are_integers (own_type x) (own_type y)) g) ∙ is

pub judged_of : (f : Typed → Typed → List Rule) (x y x1 y1 : Typed) (faults : List Rule) (it it' : Typed) (j : Judged)
    → x1 ≡ x → y1 ≡ y → faults ≡ f x1 y1 → it ≡ it' → j ≡ judgement faults it → j ≡ judgement (f x y) it'
judged_of f x y x1 y1 faults it it' j e1 e2 e3 e4 e5 = e5 ∙ ap (λ l. judgement l it) (e3 ∙ ap (λ x. f x y1) e1 ∙ ap (f x) e2) ∙ ap (judgement (f x y)) e4
