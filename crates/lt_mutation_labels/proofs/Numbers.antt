-- The numbers that expressions have: that of an operator is a value of its type, and a conversion to a type that has the number keeps it.
use Rattle.std.proofs.Common.{◌≡◌, ℤ, Option, Some, None, Bool, true, false, refl, sym, ap, ◌∙◌, subst}
use Rattle.std.specs.Prelude.{not, ◌&&◌, ◌||◌, if◌then◌else◌, Result, Ok, Err, IfOk}
use Rattle.std.specs.Ordering.{int_eq}
use Rattle.lt_model.specs.declared.cell.Content.{Content}
use Rattle.lt_model.specs.declared.cell.Content.TheVariants as content
use Rattle.lt_model.specs.declared.cell.CellType.TheVariants as cell
use Rattle.lt_model.specs.declared.operator.Op.{Op}
use Rattle.lt_model.specs.declared.operator.Op.TheVariants as O
use Rattle.lt_model.specs.declared.operator.Ub.{Ub}
use Rattle.lt_model.specs.declared.scalar.DataModel.{DataModel}
use Rattle.lt_model.specs.declared.scalar.Scalar.{Scalar}
use Rattle.lt_model.specs.Scalar.{IsValue, convert_of}
use Rattle.lt_model.specs.Operators.{is_value, value_of}
use Rattle.lt_model.specs.Memory.{Memory, as_type, load, then_result, object_at, held_at, offset_of, usable}
use Rattle.lt_model.specs.State.{Footprint, Valued, Gives, Ends}
use Rattle.lt_model.proofs.Values.{between_from_test, test_from_between}
use Rattle.lt_model.proofs.Results.{value_of_fits}
use Rattle.lt_tree.specs.Typing.Types.{CType, Num, Qualified, scalar_of, is_integer, same}
use Rattle.lt_tree.specs.declared.expression.LogicalOp.{LogicalOp}
use Rattle.lt_tree.specs.Typing.TypedTree as e
use Rattle.lt_tree.specs.Typing.TypedTree.{Value, type_of}
use Rattle.lt_tree.specs.Typing.Operands.{is_relation, is_equality}
use Rattle.lt_tree.specs.Typing.Expressions.{converted_to, cast_to}
use Rattle.lt_ir.specs.Running.{At, Answer, Step, ◌>>=◌, gives, defined, absurdity, asked}
use Rattle.lt_ir.specs.Evaluation.{valued, number_in, truth_in, of_truth, applied, is_right_operand, loaded}
use Rattle.lt_meaning.specs.Expressions.{Around, wanted, tracking, eval, cell_type, converted_here, decides, place_of}
use Rattle.lt_mark_laws.specs.Laws.{number_at, differ}
use Rattle.lt_mark_laws.specs.Mutants.{of_scalar, differ_as_values}
use Rattle.lt_mutation_labels.proofs.Conversions.{truth_value, converted_value, same_self}

-- ---- what an answer gives, if it gives something

abbrev pub Where : {A : Type 0} → (A → At → Type 0) → Answer A → Type 0
Where Q (Gives a at1) = Q a at1
Where Q (Ends end at1) = Unit {0}

-- what a step gives where it is taken
pub record Sure {A : Type 0} (Q : A → At → Type 0) (s : Step A) (at : At) : Type 0 where
  pub sure : Where Q (s at)

then_by : {A B : Type 0} {Q : A → At → Type 0} {R : B → At → Type 0} (m : Answer A) (f : A → Step B) → Where Q m → ((a : A) (at1 : At) → Q a at1 → Sure R (f a) at1)
    → Where R (elim (m) as (λ _. Answer B) [ Gives a at1 ↦ f a at1 | Ends end at1 ↦ Ends end at1 ])
then_by (Gives a at1) f h k = (k a at1 h).sure
then_by (Ends end at1) f h k = tt

pub then_sure : {A B : Type 0} {Q : A → At → Type 0} {R : B → At → Type 0} {at : At} (s : Step A) (f : A → Step B) → Sure Q s at → ((a : A) (at1 : At) → Q a at1 → Sure R (f a) at1) → Sure R (s >>= f) at
then_sure {at = at} s f h k = record { sure = then_by (s at) f h.sure k }

abbrev pub Any : {A : Type 0} → A → At → Type 0
Any a at = Unit {0}

any_by : {A : Type 0} (m : Answer A) → Where Any m
any_by (Gives a at1) = tt
any_by (Ends end at1) = tt

pub any : {A : Type 0} (s : Step A) (at : At) → Sure Any s at
any s at = record { sure = any_by (s at) }

pub given : {A : Type 0} {Q : A → At → Type 0} {at : At} (a : A) → Q a at → Sure Q (gives a) at
given a h = record { sure = h }

if_sure : {A : Type 0} {Q : A → At → Type 0} {at : At} (b : Bool) (s r : Step A) → (b ≡ true → Sure Q s at) → (b ≡ false → Sure Q r at) → Sure Q (if b then s else r) at
if_sure true s r h k = h refl
if_sure false s r h k = k refl

-- a run that is over
over_here : {A : Type 0} {Q : A → At → Type 0} {at : At} → Sure Q (absurdity {A = A}) at
over_here = record { sure = tt }

-- ---- numbers

-- a content that is a number is one of these
abbrev pub IsNumber : (ℤ → Type 0) → Content → Type 0
IsNumber P content.Unset = Unit {0}
IsNumber P (content.Number z) = P z
IsNumber P (content.Address a) = Unit {0}

abbrev pub HasNumber : (ℤ → Type 0) → Valued Content → At → Type 0
HasNumber P x at = IsNumber P x.value

abbrev pub AllIs : (ℤ → Type 0) → Option ℤ → Type 0
AllIs P None = Unit {0}
AllIs P (Some z) = P z

-- the number of an answer
abbrev pub number_of : Answer (Valued Content) → Option ℤ
number_of m = elim (elim (m) as (λ _. Answer ℤ) [ Gives x at1 ↦ number_in x.value at1 | Ends end at1 ↦ Ends end at1 ]) as (λ _. Option ℤ) [ Gives z at1 ↦ Some z | Ends end at1 ↦ None ]

numbers_by : (P : ℤ → Type 0) (c : Content) (f : Footprint) (at1 : At) → IsNumber P c → AllIs P (number_of (Gives (valued c f) at1))
numbers_by P content.Unset f at1 h = tt
numbers_by P (content.Number z) f at1 h = h
numbers_by P (content.Address a) f at1 h = tt

numbers_of : (P : ℤ → Type 0) (m : Answer (Valued Content)) → Where (HasNumber P) m → AllIs P (number_of m)
numbers_of P (Gives x at1) h = numbers_by P x.value x.footprint at1 h
numbers_of P (Ends end at1) h = tt

-- the number that an expression has here
pub of_value : (P : ℤ → Type 0) (here : Around) (v : Value) (at : At) → Sure (HasNumber P) (eval (tracking false here) wanted v) at → AllIs P (number_at here v at)
of_value P here v at h = numbers_of P (eval (tracking false here) wanted v at) h.sure

value_from : (m : DataModel) (s : Scalar) (z : ℤ) → is_value m s z ≡ true → IsValue m s z
value_from m s z h = let it = between_from_test _ _ _ h in record { above = it.0; below = it.1 }

value_is : (m : DataModel) (s : Scalar) (z : ℤ) → IsValue m s z → is_value m s z ≡ true
value_is m s z v = test_from_between _ _ z v.above v.below

-- ---- operators

first_of : (a b : Bool) → (a && b) ≡ true → a ≡ true
first_of true b h = refl
first_of false b h = h

defined_number : (P : ℤ → Type 0) (at : At) (r : Result ℤ Ub) → IfOk r P → Sure (λ (z : ℤ) (at1 : At). P z) (defined r) at
defined_number P at (Ok z) h = record { sure = h }
defined_number P at (Err kind) h = record { sure = tt }

-- what an operator gives is a value of its type
applied_number : (m : DataModel) (op : Op) (s : Scalar) (c d : Content) (at : At) → Sure (λ (z : ℤ) (at1 : At). IsValue m s z) (applied m op s c d) at
applied_number m op s c d at =
    then_sure (number_in c) _ (any (number_in c) at) (λ a at1 _. then_sure (number_in d) _ (any (number_in d) at1) (λ b at2 _.
    if_sure (is_value m s a && is_right_operand m op s b) _ _
    (λ t. defined_number (IsValue m s) at2 (value_of m op s a b) (value_of_fits m op s a b (value_of m op s a b) refl (value_from m s a (first_of (is_value m s a) (is_right_operand m op s b) t))))
    (λ t. over_here)))

-- and of a relation it is a value of any type
related_number : (m : DataModel) (op : Op) (s r : Scalar) (a b : ℤ) → is_relation op || is_equality op ≡ true → IfOk (value_of m op s a b) (IsValue m r)
related_number m O.Lt s r a b h = truth_value m r _
related_number m O.Le s r a b h = truth_value m r _
related_number m O.Gt s r a b h = truth_value m r _
related_number m O.Ge s r a b h = truth_value m r _
related_number m O.Eq s r a b h = truth_value m r _
related_number m O.Ne s r a b h = truth_value m r _
related_number m O.Add s r a b h = absurd cc
related_number m O.Sub s r a b h = absurd cc
related_number m O.Mul s r a b h = absurd cc
related_number m O.Div s r a b h = absurd cc
related_number m O.Rem s r a b h = absurd cc
related_number m O.Shl s r a b h = absurd cc
related_number m O.Shr s r a b h = absurd cc
related_number m O.And s r a b h = absurd cc
related_number m O.Or s r a b h = absurd cc
related_number m O.Xor s r a b h = absurd cc

pub scalar_integer : (t : CType) (s : Scalar) → scalar_of t ≡ Some s → is_integer t ≡ true
scalar_integer (Num r) s h = refl
scalar_integer (Qualified q t) s h = scalar_integer t s h
scalar_integer _ s h = absurd cc

-- what is of the type already isn't converted
pub converted_itself : (s : Scalar) (v : Value) → type_of v ≡ Num s → converted_to (Num s) v ≡ v
converted_itself s v h = ap (λ b. if b then v else cast_to (Num s) v) (ap (same (Num s)) h ∙ same_self s)

module _ (here : Around) where
  abbrev F : Around
  F = tracking false here

  abbrev m : DataModel
  m = here.program.model

  pub arithmetic_has : (t : CType) (op : Op) (s : Scalar) (v w : Value) (at : At) → Sure (HasNumber (IsValue m s)) (eval F wanted (e.Arithmetic t op s v w)) at
  arithmetic_has t op s v w at =
      then_sure (eval F wanted v) _ (any (eval F wanted v) at) (λ x at1 _. then_sure (eval F wanted w) _ (any (eval F wanted w) at1) (λ y at2 _.
      then_sure (applied m op s x.value y.value) _ (applied_number m op s x.value y.value at2) (λ z at3 h. given (valued (content.Number z) x.footprint) h)))

  pub relation_has : (r : Scalar) (t : CType) (op : Op) (s : Scalar) (v w : Value) (at : At) → is_relation op || is_equality op ≡ true
      → Sure (HasNumber (IsValue m r)) (eval F wanted (e.Arithmetic t op s v w)) at
  relation_has r t op s v w at h =
      then_sure (eval F wanted v) _ (any (eval F wanted v) at) (λ x at1 _. then_sure (eval F wanted w) _ (any (eval F wanted w) at1) (λ y at2 _.
      then_sure (applied m op s x.value y.value) _
      (then_sure (number_in x.value) _ (any (number_in x.value) at2) (λ a at3 _. then_sure (number_in y.value) _ (any (number_in y.value) at3) (λ b at4 _.
      if_sure (is_value m s a && is_right_operand m op s b) _ _ (λ t. defined_number (IsValue m r) at4 (value_of m op s a b) (related_number m op s r a b h)) (λ t. over_here))))
      (λ z at3 h. given (valued (content.Number z) x.footprint) h)))

  pub compared_has : (r : Scalar) (t : CType) (op : Op) (v w : Value) (at : At) → Sure (HasNumber (IsValue m r)) (eval F wanted (e.Compare t op v w)) at
  compared_has r t op v w at =
      then_sure (eval F wanted v) _ (any (eval F wanted v) at) (λ x at1 _. then_sure (eval F wanted w) _ (any (eval F wanted w) at1) (λ y at2 _.
      then_sure _ _ (any _ at2) (λ b at3 _. given (valued (of_truth b) x.footprint) (truth_value m r b))))

  pub connected_has : (r : Scalar) (t : CType) (op : LogicalOp) (v w : Value) (at : At) → Sure (HasNumber (IsValue m r)) (eval F wanted (e.Logical t op v w)) at
  connected_has r t op v w at =
      then_sure (eval F wanted v) _ (any (eval F wanted v) at) (λ x at1 _. then_sure (truth_in x.value) _ (any (truth_in x.value) at1) (λ b at2 _.
      if_sure (decides op b) _ _ (λ t. given (valued (of_truth b) x.footprint) (truth_value m r b))
      (λ t. then_sure (eval F wanted w) _ (any (eval F wanted w) at2) (λ y at3 _. then_sure (truth_in y.value) _ (any (truth_in y.value) at3) (λ d at4 _. given (valued (of_truth d) x.footprint) (truth_value m r d))))))

  -- ---- what is read

  as_type_has : (s : Scalar) (c : Content) → IsNumber (IsValue m s) (as_type m (cell.Num s) c)
  as_type_has s content.Unset = tt
  as_type_has s (content.Number z) = converted_value m s z
  as_type_has s (content.Address a) = tt

  then_ok : {A B : Type 0} (P : B → Type 0) (r : Result A Ub) (f : A → Result B Ub) → ((a : A) → IfOk (f a) P) → IfOk (then_result r f) P
  then_ok P (Ok a) f h = h a
  then_ok P (Err kind) f h = tt

  load_has : (memory : Memory) (a : _) (s : Scalar) → IfOk (load m memory a (cell.Num s)) (IsNumber (IsValue m s))
  unfolding load
  load_has memory a s =
      then_ok _ (object_at memory a) _ (λ block. then_ok _ (held_at block.cells (offset_of a) (cell.Num s)) _ (λ held. then_ok _ (usable memory held) _ (λ used. as_type_has s used)))

  asked_has : {P : Content → Type 0} (r : Result Content Ub) (at : At) → IfOk r P → Sure (λ (c : Content) (at1 : At). P c) (defined r) at
  asked_has (Ok c) at h = record { sure = h }
  asked_has (Err kind) at h = record { sure = tt }

  cell_by : (t : CType) (s : Scalar) → scalar_of t ≡ Some s → cell_type here.program t ≡ cell.Num s
  cell_by (Num r) s h = ap cell.Num cc
  cell_by (Qualified q t) s h = cell_by t s h
  cell_by _ s h = absurd cc

  pub read_has : (t : CType) (p : e.Place) (s : Scalar) (at : At) → scalar_of t ≡ Some s → Sure (HasNumber (IsValue m s)) (eval F wanted (e.Load t p)) at
  read_has t p s at h =
      subst (λ c. Sure (HasNumber (IsValue m s)) (place_of F p >>= loaded false m c) at) (sym (cell_by t s h))
      (then_sure (place_of F p) _ (any (place_of F p) at) (λ x at1 _.
      then_sure (asked (λ memory. load m memory x.value (cell.Num s))) _
      (record { sure = (asked_has (load m at1.memory x.value (cell.Num s)) at1 (load_has at1.memory x.value s)).sure })
      (λ c at2 h. given (valued c x.footprint) h)))

  -- ---- conversions

  cast_on : (s : Scalar) (P : ℤ → Type 0) → ((z : ℤ) → P z → convert_of m s z ≡ z) → (c : Content) (f : Footprint) (at1 : At) → AllIs P (number_of (Gives (valued c f) at1))
      → number_of ((converted_here wanted here.program e.to_integer (Num s) c >>= (λ d. gives (valued d f))) at1) ≡ number_of (Gives (valued c f) at1)
  cast_on s P k content.Unset f at1 h = refl
  cast_on s P k (content.Number z) f at1 h = ap Some (k z h)
  cast_on s P k (content.Address a) f at1 h = refl

  cast_by : (s : Scalar) (P : ℤ → Type 0) → ((z : ℤ) → P z → convert_of m s z ≡ z) → (a : Answer (Valued Content)) → AllIs P (number_of a)
      → number_of (elim (a) as (λ _. Answer (Valued Content)) [ Gives x at1 ↦ (converted_here wanted here.program e.to_integer (Num s) x.value >>= (λ d. gives (valued d x.footprint))) at1 | Ends end at1 ↦ Ends end at1 ]) ≡ number_of a
  cast_by s P k (Gives x at1) h = cast_on s P k x.value x.footprint at1 h
  cast_by s P k (Ends end at1) h = refl

  -- an integer keeps its number where the type that it is converted to has it
  pub converted_number : (s : Scalar) (v : Value) (at : At) (P : ℤ → Type 0) → is_integer (type_of v) ≡ true → ((z : ℤ) → P z → convert_of m s z ≡ z) → AllIs P (number_at here v at)
      → number_at here (converted_to (Num s) v) at ≡ number_at here v at
  converted_number s v at P i k h = by (same (Num s) (type_of v)) (is_integer (type_of v)) i
    where
      by : (b j : Bool) → j ≡ true → number_at here (if b then v else e.Convert (if j then e.to_integer else e.to_truth) (Num s) v) at ≡ number_at here v at
      by true j r = refl
      by false true r = cast_by s P k (eval F wanted v at) h
      by false false r = absurd cc

  -- ---- values

  -- a number of a type that another type has too is a value of either
  pub same_number : (s t : Scalar) (n : Option ℤ) → ((z : ℤ) → IsValue m s z → IsValue m t z) → AllIs (IsValue m s) n → of_scalar m (Some t) n ≡ of_scalar m (Some s) n
  same_number s t None k h = refl
  same_number s t (Some z) k h = ap (λ b. if b then Some z else None) (value_is m t z (k z h) ∙ sym (value_is m s z h))

  -- two numbers differ in a type where they are values of it that do
  pub differ_so : (s : Scalar) (n k : Option ℤ) → differ m s n k ≡ differ_as_values (of_scalar m (Some s) n) (of_scalar m (Some s) k)
  differ_so s (Some a) (Some b) = by (is_value m s a) (is_value m s b)
    where
      by : (p q : Bool) → ((p && q) && not (int_eq a b)) ≡ differ_as_values (if p then Some a else None) (if q then Some b else None)
      by true true = refl
      by true false = refl
      by false q = refl
  differ_so s (Some a) None = by (is_value m s a)
    where
      by : (p : Bool) → false ≡ differ_as_values (if p then Some a else None) None
      by true = refl
      by false = refl
  differ_so s None k = refl
