-- Pure expressions leave the state as it is.
use Rattle.std.proofs.Common.{◌≡◌, ℕ, Option, Some, None, Bool, true, false, refl, subst}
use Rattle.std.proofs.lemmas.Bool.{false≢true, and_parts}
use Rattle.std.specs.Prelude.{pos, not, ◌&&◌, if◌then◌else◌, Result, Ok, Err}
use Rattle.lt_model.specs.declared.cell.Content.{Content}
use Rattle.lt_model.specs.declared.cell.Content.TheVariants as content
use Rattle.lt_model.specs.declared.operator.Op.{Op}
use Rattle.lt_model.specs.declared.operator.Op.TheVariants as O
use Rattle.lt_model.specs.declared.operator.Ub.{Ub}
use Rattle.lt_model.specs.declared.operator.Ub.TheVariants as U
use Rattle.lt_model.specs.declared.run.End.{End}
use Rattle.lt_model.specs.declared.run.End.TheVariants.{Stopped, Undefined}
use Rattle.lt_model.specs.declared.scalar.Scalar.{Scalar}
use Rattle.lt_model.specs.declared.scalar.DataModel.{DataModel}
use Rattle.lt_model.specs.Operators.{value_of, is_value}
use Rattle.lt_model.specs.Memory.{Memory}
use Rattle.lt_model.specs.State.{Footprint, untouched, Gives, Ends}
use Rattle.lt_tree.specs.Typing.Types.{CType}
use Rattle.lt_tree.specs.Typing.TypedTree as e
use Rattle.lt_tree.specs.Typing.TypedTree.{Value, Values, Place, Conversion}
use Rattle.lt_ir.specs.declared.variable.Variable.{Variable}
use Rattle.lt_ir.specs.Running.{At, Answer, Step, ◌>>=◌, gives, over, defined, absurdity, asked, place, living_block}
use Rattle.lt_ir.specs.Evaluation.{valued, number_in, address_in, truth_in, of_truth, is_integer, is_right_operand, moved, applied, counted, compared}
use Rattle.lt_meaning.specs.Expressions.{is_pure, is_pure_place, are_pure, Around, Fate, wanted, unconverted, dropped, dropped_branch, untaken, inside, of_branch, of_last, fate_of_part, tracking, converted, converted_here, in_type, all_ones, scalar_in, pointer_of, count_of, decides, eval, place_of, parts_of}
use Rattle.lt_mark_laws.proofs.Values.{parts_behind}

-- the answer leaves this state
abbrev pub Leaves : {A : Type 0} → At → Answer A → Type 0
Leaves at (Gives a at1) = at1 ≡ at
Leaves at (Ends end at1) = Unit {0}

pub record Still {A : Type 0} (s : Step A) : Type 0 where
  pub leaves : (at : At) → Leaves at (s at)

then_by : {A B : Type 0} (at : At) (m : Answer A) (f : A → Step B) → Leaves at m → ((a : A) → Still (f a)) → Leaves at (elim (m) [ Gives x at1 ↦ f x at1 | Ends end at1 ↦ Ends end at1 ])
then_by at (Gives x at1) f h k = subst (λ z. Leaves z (f x at1)) h ((k x).leaves at1)
then_by at (Ends end at1) f h k = tt

then_still : {A B : Type 0} (s : Step A) (f : A → Step B) → Still s → ((a : A) → Still (f a)) → Still (s >>= f)
then_still s f h k = record { leaves = λ at. then_by at (s at) f (h.leaves at) k }

gives_still : {A : Type 0} (a : A) → Still (gives a)
gives_still a = record { leaves = λ at. refl }

over_still : (A : Type 0) (x : End) → Still {A = A} (over x)
over_still A x = record { leaves = λ at. tt }

defined_still : {A : Type 0} (r : Result A Ub) → Still (defined r)
defined_still (Ok a) = gives_still a
defined_still {A} (Err kind) = over_still A (Undefined kind)

asked_still : {A : Type 0} (question : Memory → Result A Ub) → Still (asked question)
asked_still question = record { leaves = λ at. (defined_still (question at.memory)).leaves at }

if_still : {A : Type 0} (b : Bool) (s r : Step A) → Still s → Still r → Still (if b then s else r)
if_still true s r h k = h
if_still false s r h k = k

-- where what is needed is there
fitting_still : {A : Type 0} (b : Bool) (s : Step A) → Still s → Still (if b then s else absurdity)
fitting_still {A} b s h = if_still b s absurdity h (over_still A Stopped)

number_still : (c : Content) → Still (number_in c)
number_still content.Unset = over_still _ (Undefined U.NoValue)
number_still (content.Number z) = gives_still z
number_still (content.Address a) = over_still _ Stopped

address_still : (c : Content) → Still (address_in c)
address_still content.Unset = over_still _ (Undefined U.NoValue)
address_still (content.Number z) = over_still _ Stopped
address_still (content.Address a) = gives_still a

truth_still : (c : Content) → Still (truth_in c)
truth_still content.Unset = over_still _ (Undefined U.NoValue)
truth_still (content.Number z) = gives_still _
truth_still (content.Address a) = then_still _ _ (asked_still _) (λ _. gives_still _)

block_by : {A : Type 0} (f : ℕ → Step A) → ((n : ℕ) → Still (f n)) → (b : Option ℕ) (at : At) → Leaves at (elim (b) as (λ _. Answer A) [ None ↦ absurdity at | Some block ↦ f block at ])
block_by f k None at = tt
block_by f k (Some n) at = (k n).leaves at

place_still : (v : Variable) → Still (place v)
place_still v = record { leaves = λ at. block_by _ (λ n. gives_still _) (living_block v at) at }

moved_still : (op : Op) (size : ℕ) (c d : Content) → Still (moved op size c d)
moved_still op size c d = then_still _ _ (address_still c) (λ p. then_still _ _ (number_still d) (λ n. fitting_still (is_integer n) _ (asked_still _)))

applied_still : (m : DataModel) (op : Op) (s : Scalar) (c d : Content) → Still (applied m op s c d)
applied_still m op s c d = then_still _ _ (number_still c) (λ a. then_still _ _ (number_still d) (λ b. fitting_still (is_value m s a && is_right_operand m op s b) _ (defined_still (value_of m op s a b))))

counted_still : (size : ℕ) (c d : Content) → Still (counted size c d)
counted_still size c d = then_still _ _ (address_still c) (λ a. then_still _ _ (address_still d) (λ b. asked_still _))

compared_still : (op : Op) (c d : Content) → Still (compared op c d)
compared_still op c d = then_still _ _ (address_still c) (λ a. then_still _ _ (address_still d) (λ b. asked_still _))

module _ (here : Around) where
  abbrev F : Around
  F = tracking false here

  converted_still : (how : Conversion) (t : CType) (c : Content) → Still (converted here.program how t c)
  converted_still e.to_integer t c = then_still _ _ (number_still c) (λ z. gives_still (in_type here.program t z))
  converted_still e.to_truth t c = then_still _ _ (truth_still c) (λ b. gives_still (of_truth b))
  converted_still e.to_null t c = gives_still (content.Address None)
  converted_still e.to_pointer t c = then_still _ _ (address_still c) (λ p. gives_still (content.Address p))
  converted_still e.to_void t c = gives_still content.Unset

  converted_here_still : (fate : Fate) (how : Conversion) (t : CType) (c : Content) → Still (converted_here fate here.program how t c)
  converted_here_still wanted how t c = converted_still how t c
  converted_here_still unconverted how t c = gives_still c
  converted_here_still dropped how t c = converted_still how t c
  converted_here_still dropped_branch how t c = gives_still c
  converted_here_still untaken how t c = converted_still how t c

  part_still : (fate : Fate) (v : Value) (vs : Values) → Still (eval F (fate_of_part fate vs) v) → ((before : Footprint) → Still (parts_behind (parts_of F fate vs) before)) → (before : Footprint) → Still (parts_behind (parts_of F fate (e.a_value v vs)) before)
  part_still fate v e.no_values h k before = then_still _ _ h (λ x. gives_still (valued x.value before))
  part_still fate v (e.a_value w ws) h k before = then_still _ _ h (λ x. k before)

  mutual
    pub value_still : (v : Value) (fate : Fate) → is_pure v ≡ true → Still (eval F fate v)
    value_still (e.Constant t z) fate h = gives_still (valued (content.Number z) untouched)
    value_still (e.Load t p) fate h = then_still _ _ (lvalue_still p h) (λ x. then_still _ _ (asked_still _) (λ c. gives_still (valued c x.footprint)))
    value_still (e.Whole t p) fate h = then_still _ _ (lvalue_still p h) (λ x. gives_still (valued (content.Address x.value) x.footprint))
    value_still (e.Decay t p) fate h = then_still _ _ (lvalue_still p h) (λ x. gives_still (valued (content.Address x.value) x.footprint))
    value_still (e.AddressOf t p) fate h = then_still _ _ (lvalue_still p h) (λ x. gives_still (valued (content.Address x.value) x.footprint))
    value_still (e.Convert e.to_void t v) fate h = then_still _ _ (value_still v untaken h) (λ x. gives_still (valued content.Unset x.footprint))
    value_still (e.Convert e.to_integer t v) fate h = then_still _ _ (value_still v (inside fate) h) (λ x. then_still _ _ (converted_here_still fate e.to_integer t x.value) (λ c. gives_still (valued c x.footprint)))
    value_still (e.Convert e.to_truth t v) fate h = then_still _ _ (value_still v (inside fate) h) (λ x. then_still _ _ (converted_here_still fate e.to_truth t x.value) (λ c. gives_still (valued c x.footprint)))
    value_still (e.Convert e.to_null t v) fate h = then_still _ _ (value_still v (inside fate) h) (λ x. then_still _ _ (converted_here_still fate e.to_null t x.value) (λ c. gives_still (valued c x.footprint)))
    value_still (e.Convert e.to_pointer t v) fate h = then_still _ _ (value_still v (inside fate) h) (λ x. then_still _ _ (converted_here_still fate e.to_pointer t x.value) (λ c. gives_still (valued c x.footprint)))
    value_still (e.Minus t v) fate h = then_still _ _ (value_still v wanted h) (λ x. then_still _ _ (applied_still here.program.model O.Sub (scalar_in t) (content.Number (pos 0)) x.value) (λ z. gives_still (valued (content.Number z) x.footprint)))
    value_still (e.Complement t v) fate h = then_still _ _ (value_still v wanted h) (λ x. then_still _ _ (applied_still here.program.model O.Xor (scalar_in t) x.value (all_ones here.program t)) (λ z. gives_still (valued (content.Number z) x.footprint)))
    value_still (e.Not t v) fate h = then_still _ _ (value_still v wanted h) (λ x. then_still _ _ (truth_still x.value) (λ b. gives_still (valued (of_truth (not b)) x.footprint)))
    value_still (e.Arithmetic t op s v w) fate h = then_still _ _ (value_still v wanted (and_parts _ _ h).0) (λ x. then_still _ _ (value_still w wanted (and_parts _ _ h).1) (λ y. then_still _ _ (applied_still here.program.model op s x.value y.value) (λ z. gives_still (valued (content.Number z) x.footprint))))
    value_still (e.Move t op size side v w) fate h = then_still _ _ (value_still v wanted (and_parts _ _ h).0) (λ x. then_still _ _ (value_still w wanted (and_parts _ _ h).1) (λ y. then_still _ _ (moved_still op size (pointer_of side x.value y.value) (count_of side x.value y.value)) (λ p. gives_still (valued (content.Address p) x.footprint))))
    value_still (e.Distance t size v w) fate h = then_still _ _ (value_still v wanted (and_parts _ _ h).0) (λ x. then_still _ _ (value_still w wanted (and_parts _ _ h).1) (λ y. then_still _ _ (counted_still size x.value y.value) (λ z. gives_still (valued (content.Number z) x.footprint))))
    value_still (e.Compare t op v w) fate h = then_still _ _ (value_still v wanted (and_parts _ _ h).0) (λ x. then_still _ _ (value_still w wanted (and_parts _ _ h).1) (λ y. then_still _ _ (compared_still op x.value y.value) (λ b. gives_still (valued (of_truth b) x.footprint))))
    value_still (e.Logical t op v w) fate h = then_still _ _ (value_still v wanted (and_parts _ _ h).0) (λ x. then_still _ _ (truth_still x.value) (λ b. if_still (decides op b) _ _ (gives_still (valued (of_truth b) x.footprint)) (then_still _ _ (value_still w wanted (and_parts _ _ h).1) (λ y. then_still _ _ (truth_still y.value) (λ c. gives_still (valued (of_truth c) x.footprint))))))
    value_still (e.Conditional t test v w) fate h = then_still _ _ (value_still test wanted (and_parts _ _ h).0) (λ x. then_still _ _ (truth_still x.value) (λ b. then_still _ _ (if_still b _ _ (value_still v (of_branch fate) (and_parts _ _ (and_parts _ _ h).1).0) (value_still w (of_branch fate) (and_parts _ _ (and_parts _ _ h).1).1)) (λ y. gives_still (valued y.value x.footprint))))
    value_still (e.Comma t vs) fate h = parts_still vs (of_last fate) h untouched
    value_still (e.Assign t p v) fate h = absurd (false≢true h)
    value_still (e.Update t op s p v) fate h = absurd (false≢true h)
    value_still (e.UpdatePointer t op size p v) fate h = absurd (false≢true h)
    value_still (e.Step t when op s p) fate h = absurd (false≢true h)
    value_still (e.StepPointer t when op size p) fate h = absurd (false≢true h)
    value_still (e.Call t f vs) fate h = absurd (false≢true h)
    value_still (e.Marked t ms v) fate h = absurd (false≢true h)
    value_still (e.Decide t v p q) fate h = absurd (false≢true h)
    value_still (e.After t v id) fate h = absurd (false≢true h)

    lvalue_still : (p : Place) → is_pure_place p ≡ true → Still (place_of F p)
    lvalue_still (e.Object t n) h = then_still _ _ (place_still (here.variable n)) (λ a. gives_still (valued a untouched))
    lvalue_still (e.Pointed t v) h = then_still _ _ (value_still v wanted h) (λ x. then_still _ _ (address_still x.value) (λ a. gives_still (valued a x.footprint)))
    lvalue_still (e.Element t size side v w) h = then_still _ _ (value_still v wanted (and_parts _ _ h).0) (λ x. then_still _ _ (value_still w wanted (and_parts _ _ h).1) (λ y. then_still _ _ (moved_still O.Add size (pointer_of side x.value y.value) (count_of side x.value y.value)) (λ p. gives_still (valued p x.footprint))))
    lvalue_still (e.Part t offset p) h = then_still _ _ (lvalue_still p h) (λ x. then_still _ _ (asked_still _) (λ a. gives_still (valued a x.footprint)))
    lvalue_still (e.Held t v) h = then_still _ _ (value_still v wanted h) (λ x. then_still _ _ (address_still x.value) (λ a. gives_still (valued a x.footprint)))

    parts_still : (vs : Values) (fate : Fate) → are_pure vs ≡ true → (before : Footprint) → Still (parts_behind (parts_of F fate vs) before)
    parts_still e.no_values fate h before = gives_still (valued content.Unset untouched)
    parts_still (e.a_value v vs) fate h before = part_still fate v vs (value_still v (fate_of_part fate vs) (and_parts _ _ h).0) (parts_still vs fate (and_parts _ _ h).1) before
