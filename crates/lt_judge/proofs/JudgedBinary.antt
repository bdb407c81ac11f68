-- What operators on two operands make of their parts.
use Rattle.std.proofs.Common.{◌≡◌, ℕ, Bool, true, false, true≢false, List, sym, ap, subst, ◌∙◌}
use Rattle.std.specs.Prelude.{if◌then◌else◌}
use Rattle.lt_model.specs.declared.scalar.DataModel.{DataModel}
use Rattle.lt_model.specs.declared.scalar.Scalar.{Scalar}
use Rattle.lt_model.specs.declared.scalar.Scalar.TheVariants as S
use Rattle.lt_model.specs.declared.operator.Op.{Op}
use Rattle.lt_tree.specs.declared.typed.types.TypeRow.{TypeRow}
use Rattle.lt_tree.specs.declared.typed.entity.Object.{Object}
use Rattle.lt_tree.specs.Typing.Types.{CType, Num, is_integer}
use Rattle.lt_tree.specs.Typing.EntityView.{structs_of}
use Rattle.lt_tree.specs.Typing.Entities.{Known}
use Rattle.lt_tree.specs.Typing.Constants.{Constancy, operated, moved_by}
use Rattle.lt_tree.specs.Typing.TypedTree as e
use Rattle.lt_tree.specs.Typing.TypedTree.{Value, Side}
use Rattle.lt_tree.specs.Typing.Expressions.{Typed, valued, varies, own_type, value_in, converted_to}
use Rattle.lt_tree.specs.Typing.Operations.{object_size, side_of, pointer_among, other_among, element_size}
use Rattle.lt_tree.specs.Typing.BinaryOperations.{operation_type, right_type, result_type, on_integers, towards, moved, compared}
use Rattle.lt_table.specs.TableRows.{Stays}
use Rattle.lt_table.specs.TypesValue.{TypesValue, Widens}
use Rattle.lt_judge.specs.Knowing.{known_with}

pub at_rows : {a b : List TypeRow} {P : List CType → Type 0} → a ≡ b → Stays a P → Stays b P
at_rows {P = P} same h = subst (λ rows. Stays rows P) same h

pub known_kept : (longer : List CType) (a b : TypesValue) (objects : List Object) → Widens a b → known_with longer b objects ≡ known_with longer a objects
known_kept longer a b objects w =
    ap (λ m. record (known_with longer b objects) { model = m }) w.model
    ∙ ap (λ l. record (known_with longer a objects) { structs = structs_of longer l }) w.structs

pub choose_first : {A : Type 0} (b : Bool) (x y z : A) → b ≡ true → z ≡ x → z ≡ (if b then x else y)
choose_first true x y z is same = same
choose_first false x y z is same = absurd (true≢false (sym is))

pub choose_second : {A : Type 0} (b : Bool) (x y z : A) → b ≡ false → z ≡ y → z ≡ (if b then x else y)
choose_second false x y z is same = same
choose_second true x y z is same = absurd (true≢false is)

pub integers_are : (known : Known) (op : Op) (x y x1 y1 x2 y2 x3 y3 : Typed) (m : DataModel) (s r : Scalar) (ty : CType) (left right v : Value) (a b : Constancy) (it : Typed)
    → x1 ≡ x → y1 ≡ y → x2 ≡ x → y2 ≡ y → x3 ≡ x → y3 ≡ y
    → m ≡ known.model → s ≡ operation_type known op x1 y1 → r ≡ right_type known op x1 y1 → ty ≡ result_type op s
    → left ≡ converted_to (Num s) (value_in x) → right ≡ converted_to (Num r) (value_in y) → v ≡ e.Arithmetic ty op s left right
    → a ≡ operated m op s r x2.constancy y2.constancy → b ≡ operated m op s r x3.erased y3.erased → it ≡ valued v a b
    → it ≡ on_integers known op x y
integers_are known op x y x1 y1 x2 y2 x3 y3 m s r ty left right v a b it f1 f2 f3 f4 f5 f6 e1 e2 e3 e4 e5 e6 e7 e8 e9 e10 =
    rw (e10, e7, e8, e9, e6, e5, e4, e3, e2, e1, f1, f2, f3, f4, f5, f6)

pub moved_is : (known : Known) (op : Op) (x y x1 y1 x2 x3 y3 x4 y4 p o : Typed) (size : ℕ) (side : Side) (ty : CType) (left right v : Value) (at : Constancy) (it : Typed)
    → x1 ≡ x → y1 ≡ y → x2 ≡ x → x3 ≡ x → y3 ≡ y → x4 ≡ x → y4 ≡ y
    → size ≡ element_size known x1 y1 → side ≡ side_of x2 → p ≡ pointer_among x3 y3 → o ≡ other_among x4 y4 → ty ≡ own_type p
    → at ≡ moved_by (object_size known) size p.constancy (towards op o.constancy)
    → left ≡ value_in x → right ≡ value_in y → v ≡ e.Move ty op size side left right → it ≡ valued v at at
    → it ≡ moved known op x y
moved_is known op x y x1 y1 x2 x3 y3 x4 y4 p o size side ty left right v at it f1 f2 f3 f4 f5 f6 f7 e1 e2 e3 e4 e5 e6 e7 e8 e9 e10 =
    rw (e10, e9, e8, e7, e6, e5, e3, e4, e2, e1, f1, f2, f3, f4, f5, f6, f7)

pub compared_is : (op : Op) (x y x1 y1 : Typed) (t u int : CType) (left right v : Value) (it : Typed)
    → x1 ≡ x → y1 ≡ y → t ≡ own_type x1 → u ≡ own_type y1 → int ≡ Num S.Int
    → left ≡ (if is_integer (own_type x) then converted_to u (value_in x) else value_in x)
    → right ≡ (if is_integer (own_type y) then converted_to t (value_in y) else value_in y)
    → v ≡ e.Compare int op left right → it ≡ varies v
    → it ≡ compared op x y
compared_is op x y x1 y1 t u int left right v it f1 f2 e1 e2 e3 e4 e5 e6 e7 = rw (e7, e6, e5, e4, e3, e2, e1, f1, f2)
