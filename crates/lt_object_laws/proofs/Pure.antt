-- Pure expressions make no objects: they don't end for want of room.
use Rattle.std.proofs.Common.{◌≡◌, ℕ, Option, Some, None, Bool, true, false, refl}
use Rattle.std.proofs.lemmas.Bool.{false≢true}
use Rattle.std.specs.Prelude.{pos, not, ◌&&◌, if◌then◌else◌, Result, Ok, Err}
use Rattle.lt_model.specs.declared.cell.Content.{Content}
use Rattle.lt_model.specs.declared.cell.Content.TheVariants as content
use Rattle.lt_model.specs.declared.operator.Op.{Op}
use Rattle.lt_model.specs.declared.operator.Op.TheVariants as O
use Rattle.lt_model.specs.declared.operator.Ub.{Ub}
use Rattle.lt_model.specs.declared.operator.Ub.TheVariants as U
use Rattle.lt_model.specs.declared.run.End.{End}
use Rattle.lt_model.specs.declared.run.End.TheVariants.{Stopped, Undefined, Cells}
use Rattle.lt_model.specs.declared.scalar.Scalar.{Scalar}
use Rattle.lt_model.specs.declared.scalar.DataModel.{DataModel}
use Rattle.lt_model.specs.Operators.{value_of, is_value}
use Rattle.lt_model.specs.Memory.{Memory}
use Rattle.lt_model.specs.State.{Footprint, Valued, untouched, Gives, Ends}
use Rattle.lt_tree.specs.Typing.Types.{CType}
use Rattle.lt_tree.specs.Typing.TypedTree as e
use Rattle.lt_tree.specs.Typing.TypedTree.{Value, Values, Place, Conversion}
use Rattle.lt_ir.specs.declared.variable.Variable.{Variable}
use Rattle.lt_ir.specs.Running.{At, Answer, Step, ◌>>=◌, gives, over, defined, absurdity, asked, place, living_block}
use Rattle.lt_ir.specs.Evaluation.{valued, number_in, address_in, truth_in, of_truth, is_integer, is_right_operand, moved, applied, counted, compared}
use Rattle.lt_meaning.specs.Expressions.{is_pure, is_pure_place, are_pure, Around, Fate, wanted, unconverted, dropped, dropped_branch, untaken, inside, of_branch, of_last, fate_of_part, tracking, converted, converted_here, in_type, all_ones, scalar_in, pointer_of, count_of, decides, eval, place_of, parts_of}

and_left : (a b : Bool) → (a && b) ≡ true → a ≡ true
and_left true b h = refl
and_left false b h = h

and_right : (a b : Bool) → (a && b) ≡ true → b ≡ true
and_right true b h = h
and_right false true h = refl
and_right false false h = h

-- the parts of a comma expression, behind others
abbrev pub parts_behind : Option (Footprint → Step (Valued Content)) → Footprint → Step (Valued Content)
parts_behind parts before = elim (parts) [ None ↦ gives (valued content.Unset untouched) | Some step ↦ step before ]

abbrev pub is_no_room : End → Bool
is_no_room Cells = true
is_no_room end = false

-- an answer that doesn't end for want of room
abbrev pub HasRoom : {A : Type 0} → Answer A → Type 0
HasRoom (Gives a at) = Unit {0}
HasRoom (Ends end at) = is_no_room end ≡ false

pub record IsRoomy {A : Type 0} (s : Step A) : Type 0 where
  pub fits : (at : At) → HasRoom (s at)

then_by : {A B : Type 0} (m : Answer A) (f : A → Step B) → HasRoom m → ((a : A) → IsRoomy (f a)) → HasRoom (elim (m) [ Gives x at1 ↦ f x at1 | Ends end at1 ↦ Ends end at1 ])
then_by (Gives x at1) f h k = (k x).fits at1
then_by (Ends end at1) f h k = h

pub then_roomy : {A B : Type 0} (s : Step A) (f : A → Step B) → IsRoomy s → ((a : A) → IsRoomy (f a)) → IsRoomy (s >>= f)
then_roomy s f h k = record { fits = λ at. then_by (s at) f (h.fits at) k }

gives_roomy : {A : Type 0} (a : A) → IsRoomy (gives a)
gives_roomy a = record { fits = λ at. tt }

over_roomy : (A : Type 0) (x : End) → is_no_room x ≡ false → IsRoomy {A = A} (over x)
over_roomy A x h = record { fits = λ at. h }

defined_roomy : {A : Type 0} (r : Result A Ub) → IsRoomy (defined r)
defined_roomy (Ok a) = gives_roomy a
defined_roomy {A} (Err kind) = over_roomy A (Undefined kind) refl

asked_roomy : {A : Type 0} (question : Memory → Result A Ub) → IsRoomy (asked question)
asked_roomy question = record { fits = λ at. (defined_roomy (question at.memory)).fits at }

if_roomy : {A : Type 0} (b : Bool) (s r : Step A) → IsRoomy s → IsRoomy r → IsRoomy (if b then s else r)
if_roomy true s r h k = h
if_roomy false s r h k = k

-- where what is needed is there
fitting_roomy : {A : Type 0} (b : Bool) (s : Step A) → IsRoomy s → IsRoomy (if b then s else absurdity)
fitting_roomy {A} b s h = if_roomy b s absurdity h (over_roomy A Stopped refl)

pub number_roomy : (c : Content) → IsRoomy (number_in c)
number_roomy content.Unset = over_roomy _ (Undefined U.NoValue) refl
number_roomy (content.Number z) = gives_roomy z
number_roomy (content.Address a) = over_roomy _ Stopped refl

address_roomy : (c : Content) → IsRoomy (address_in c)
address_roomy content.Unset = over_roomy _ (Undefined U.NoValue) refl
address_roomy (content.Number z) = over_roomy _ Stopped refl
address_roomy (content.Address a) = gives_roomy a

pub truth_roomy : (c : Content) → IsRoomy (truth_in c)
truth_roomy content.Unset = over_roomy _ (Undefined U.NoValue) refl
truth_roomy (content.Number z) = gives_roomy _
truth_roomy (content.Address a) = then_roomy _ _ (asked_roomy _) (λ _. gives_roomy _)

block_by : {A : Type 0} (f : ℕ → Step A) → ((n : ℕ) → IsRoomy (f n)) → (b : Option ℕ) (at : At) → HasRoom (elim (b) as (λ _. Answer A) [ None ↦ absurdity at | Some block ↦ f block at ])
block_by f k None at = refl
block_by f k (Some n) at = (k n).fits at

place_roomy : (v : Variable) → IsRoomy (place v)
place_roomy v = record { fits = λ at. block_by _ (λ n. gives_roomy _) (living_block v at) at }

moved_roomy : (op : Op) (size : ℕ) (c d : Content) → IsRoomy (moved op size c d)
moved_roomy op size c d = then_roomy _ _ (address_roomy c) (λ p. then_roomy _ _ (number_roomy d) (λ n. fitting_roomy (is_integer n) _ (asked_roomy _)))

applied_roomy : (m : DataModel) (op : Op) (s : Scalar) (c d : Content) → IsRoomy (applied m op s c d)
applied_roomy m op s c d = then_roomy _ _ (number_roomy c) (λ a. then_roomy _ _ (number_roomy d) (λ b. fitting_roomy (is_value m s a && is_right_operand m op s b) _ (defined_roomy (value_of m op s a b))))

counted_roomy : (size : ℕ) (c d : Content) → IsRoomy (counted size c d)
counted_roomy size c d = then_roomy _ _ (address_roomy c) (λ a. then_roomy _ _ (address_roomy d) (λ b. asked_roomy _))

compared_roomy : (op : Op) (c d : Content) → IsRoomy (compared op c d)
compared_roomy op c d = then_roomy _ _ (address_roomy c) (λ a. then_roomy _ _ (address_roomy d) (λ b. asked_roomy _))

module _ (here : Around) where
  abbrev F : Around
  F = tracking false here

  converted_roomy : (how : Conversion) (t : CType) (c : Content) → IsRoomy (converted here.program how t c)
  converted_roomy e.to_integer t c = then_roomy _ _ (number_roomy c) (λ z. gives_roomy (in_type here.program t z))
  converted_roomy e.to_truth t c = then_roomy _ _ (truth_roomy c) (λ b. gives_roomy (of_truth b))
  converted_roomy e.to_null t c = gives_roomy (content.Address None)
  converted_roomy e.to_pointer t c = then_roomy _ _ (address_roomy c) (λ p. gives_roomy (content.Address p))
  converted_roomy e.to_void t c = gives_roomy content.Unset

  converted_here_roomy : (fate : Fate) (how : Conversion) (t : CType) (c : Content) → IsRoomy (converted_here fate here.program how t c)
  converted_here_roomy wanted how t c = converted_roomy how t c
  converted_here_roomy unconverted how t c = gives_roomy c
  converted_here_roomy dropped how t c = converted_roomy how t c
  converted_here_roomy dropped_branch how t c = gives_roomy c
  converted_here_roomy untaken how t c = converted_roomy how t c

  part_roomy : (fate : Fate) (v : Value) (vs : Values) → IsRoomy (eval F (fate_of_part fate vs) v) → ((before : Footprint) → IsRoomy (parts_behind (parts_of F fate vs) before)) → (before : Footprint) → IsRoomy (parts_behind (parts_of F fate (e.a_value v vs)) before)
  part_roomy fate v e.no_values h k before = then_roomy _ _ h (λ x. gives_roomy (valued x.value before))
  part_roomy fate v (e.a_value w ws) h k before = then_roomy _ _ h (λ x. k before)

  mutual
    pub value_roomy : (v : Value) (fate : Fate) → is_pure v ≡ true → IsRoomy (eval F fate v)
    value_roomy (e.Constant t z) fate h = gives_roomy (valued (content.Number z) untouched)
    value_roomy (e.Load t p) fate h = then_roomy _ _ (lvalue_roomy p h) (λ x. then_roomy _ _ (asked_roomy _) (λ c. gives_roomy (valued c x.footprint)))
    value_roomy (e.Whole t p) fate h = then_roomy _ _ (lvalue_roomy p h) (λ x. gives_roomy (valued (content.Address x.value) x.footprint))
    value_roomy (e.Decay t p) fate h = then_roomy _ _ (lvalue_roomy p h) (λ x. gives_roomy (valued (content.Address x.value) x.footprint))
    value_roomy (e.AddressOf t p) fate h = then_roomy _ _ (lvalue_roomy p h) (λ x. gives_roomy (valued (content.Address x.value) x.footprint))
    value_roomy (e.Convert e.to_void t v) fate h = then_roomy _ _ (value_roomy v untaken h) (λ x. gives_roomy (valued content.Unset x.footprint))
    value_roomy (e.Convert e.to_integer t v) fate h = then_roomy _ _ (value_roomy v (inside fate) h) (λ x. then_roomy _ _ (converted_here_roomy fate e.to_integer t x.value) (λ c. gives_roomy (valued c x.footprint)))
    value_roomy (e.Convert e.to_truth t v) fate h = then_roomy _ _ (value_roomy v (inside fate) h) (λ x. then_roomy _ _ (converted_here_roomy fate e.to_truth t x.value) (λ c. gives_roomy (valued c x.footprint)))
    value_roomy (e.Convert e.to_null t v) fate h = then_roomy _ _ (value_roomy v (inside fate) h) (λ x. then_roomy _ _ (converted_here_roomy fate e.to_null t x.value) (λ c. gives_roomy (valued c x.footprint)))
    value_roomy (e.Convert e.to_pointer t v) fate h = then_roomy _ _ (value_roomy v (inside fate) h) (λ x. then_roomy _ _ (converted_here_roomy fate e.to_pointer t x.value) (λ c. gives_roomy (valued c x.footprint)))
    value_roomy (e.Minus t v) fate h = then_roomy _ _ (value_roomy v wanted h) (λ x. then_roomy _ _ (applied_roomy here.program.model O.Sub (scalar_in t) (content.Number (pos 0)) x.value) (λ z. gives_roomy (valued (content.Number z) x.footprint)))
    value_roomy (e.Complement t v) fate h = then_roomy _ _ (value_roomy v wanted h) (λ x. then_roomy _ _ (applied_roomy here.program.model O.Xor (scalar_in t) x.value (all_ones here.program t)) (λ z. gives_roomy (valued (content.Number z) x.footprint)))
    value_roomy (e.Not t v) fate h = then_roomy _ _ (value_roomy v wanted h) (λ x. then_roomy _ _ (truth_roomy x.value) (λ b. gives_roomy (valued (of_truth (not b)) x.footprint)))
    value_roomy (e.Arithmetic t op s v w) fate h = then_roomy _ _ (value_roomy v wanted (and_left _ _ h)) (λ x. then_roomy _ _ (value_roomy w wanted (and_right _ _ h)) (λ y. then_roomy _ _ (applied_roomy here.program.model op s x.value y.value) (λ z. gives_roomy (valued (content.Number z) x.footprint))))
    value_roomy (e.Move t op size side v w) fate h = then_roomy _ _ (value_roomy v wanted (and_left _ _ h)) (λ x. then_roomy _ _ (value_roomy w wanted (and_right _ _ h)) (λ y. then_roomy _ _ (moved_roomy op size (pointer_of side x.value y.value) (count_of side x.value y.value)) (λ p. gives_roomy (valued (content.Address p) x.footprint))))
    value_roomy (e.Distance t size v w) fate h = then_roomy _ _ (value_roomy v wanted (and_left _ _ h)) (λ x. then_roomy _ _ (value_roomy w wanted (and_right _ _ h)) (λ y. then_roomy _ _ (counted_roomy size x.value y.value) (λ z. gives_roomy (valued (content.Number z) x.footprint))))
    value_roomy (e.Compare t op v w) fate h = then_roomy _ _ (value_roomy v wanted (and_left _ _ h)) (λ x. then_roomy _ _ (value_roomy w wanted (and_right _ _ h)) (λ y. then_roomy _ _ (compared_roomy op x.value y.value) (λ b. gives_roomy (valued (of_truth b) x.footprint))))
    value_roomy (e.Logical t op v w) fate h = then_roomy _ _ (value_roomy v wanted (and_left _ _ h)) (λ x. then_roomy _ _ (truth_roomy x.value) (λ b. if_roomy (decides op b) _ _ (gives_roomy (valued (of_truth b) x.footprint)) (then_roomy _ _ (value_roomy w wanted (and_right _ _ h)) (λ y. then_roomy _ _ (truth_roomy y.value) (λ c. gives_roomy (valued (of_truth c) x.footprint))))))
    value_roomy (e.Conditional t test v w) fate h = then_roomy _ _ (value_roomy test wanted (and_left _ _ h)) (λ x. then_roomy _ _ (truth_roomy x.value) (λ b. then_roomy _ _ (if_roomy b _ _ (value_roomy v (of_branch fate) (and_left _ _ (and_right _ _ h))) (value_roomy w (of_branch fate) (and_right _ _ (and_right _ _ h)))) (λ y. gives_roomy (valued y.value x.footprint))))
    value_roomy (e.Comma t vs) fate h = parts_roomy vs (of_last fate) h untouched
    value_roomy (e.Assign t p v) fate h = absurd (false≢true h)
    value_roomy (e.Update t op s p v) fate h = absurd (false≢true h)
    value_roomy (e.UpdatePointer t op size p v) fate h = absurd (false≢true h)
    value_roomy (e.Step t when op s p) fate h = absurd (false≢true h)
    value_roomy (e.StepPointer t when op size p) fate h = absurd (false≢true h)
    value_roomy (e.Call t f vs) fate h = absurd (false≢true h)
    value_roomy (e.Marked t ms v) fate h = absurd (false≢true h)
    value_roomy (e.Decide t v p q) fate h = absurd (false≢true h)
    value_roomy (e.After t v id) fate h = absurd (false≢true h)

    lvalue_roomy : (p : Place) → is_pure_place p ≡ true → IsRoomy (place_of F p)
    lvalue_roomy (e.Object t n) h = then_roomy _ _ (place_roomy (here.variable n)) (λ a. gives_roomy (valued a untouched))
    lvalue_roomy (e.Pointed t v) h = then_roomy _ _ (value_roomy v wanted h) (λ x. then_roomy _ _ (address_roomy x.value) (λ a. gives_roomy (valued a x.footprint)))
    lvalue_roomy (e.Element t size side v w) h = then_roomy _ _ (value_roomy v wanted (and_left _ _ h)) (λ x. then_roomy _ _ (value_roomy w wanted (and_right _ _ h)) (λ y. then_roomy _ _ (moved_roomy O.Add size (pointer_of side x.value y.value) (count_of side x.value y.value)) (λ p. gives_roomy (valued p x.footprint))))
    lvalue_roomy (e.Part t offset p) h = then_roomy _ _ (lvalue_roomy p h) (λ x. then_roomy _ _ (asked_roomy _) (λ a. gives_roomy (valued a x.footprint)))
    lvalue_roomy (e.Held t v) h = then_roomy _ _ (value_roomy v wanted h) (λ x. then_roomy _ _ (address_roomy x.value) (λ a. gives_roomy (valued a x.footprint)))

    parts_roomy : (vs : Values) (fate : Fate) → are_pure vs ≡ true → (before : Footprint) → IsRoomy (parts_behind (parts_of F fate vs) before)
    parts_roomy e.no_values fate h before = gives_roomy (valued content.Unset untouched)
    parts_roomy (e.a_value v vs) fate h before = part_roomy fate v vs (value_roomy v (fate_of_part fate vs) (and_left _ _ h)) (parts_roomy vs fate (and_right _ _ h)) before
