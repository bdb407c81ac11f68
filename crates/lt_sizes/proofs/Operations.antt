-- What operators cost: of each the text pays with one node of its own.
use Rattle.std.proofs.Common.{◌≡◌, refl, ℕ, ℤ, suc, pos, ◌+◌, ◌*◌, ◌≤◌, List, [], ◌∷◌, ◌++◌, Bool, true, false, Option, Some, None, arith}
use Rattle.std.specs.Prelude.{if◌then◌else◌, option_and_then, ◌&&◌}
use Rattle.std.specs.Option.{option_to_list}
use Rattle.lt_model.specs.declared.scalar.DataModel.{DataModel}
use Rattle.lt_model.specs.declared.scalar.Scalar.{Scalar}
use Rattle.lt_model.specs.declared.scalar.Scalar.TheVariants as S
use Rattle.lt_model.specs.declared.operator.Op.{Op}
use Rattle.lt_model.specs.declared.operator.Op.TheVariants as O
use Rattle.lt_model.specs.Conversions.{promoted}
use Rattle.lt_tree.specs.declared.expression.UnaryOp.{UnaryOp}
use Rattle.lt_tree.specs.declared.expression.UnaryOp.TheVariants as unary
use Rattle.lt_tree.specs.declared.expression.LogicalOp.{LogicalOp}
use Rattle.lt_tree.specs.Tree as c
use Rattle.lt_tree.specs.Nodes.{an_expression}
use Rattle.lt_tree.specs.Typing.Types.{CType, CTypes, no_types, a_type, Num, Function as FunctionType, target_of, unqualified, is_integer, is_pointer}
use Rattle.lt_tree.specs.Typing.Extents.{Placed, size_of, is_complete}
use Rattle.lt_tree.specs.Typing.Constants.{TypedConstant}
use Rattle.lt_tree.specs.Typing.Rules.{bad_address, bad_call}
use Rattle.lt_tree.specs.Typing.TypedTree as e
use Rattle.lt_tree.specs.Typing.TypedTree.{Value, Values, Place, Marks, When}
use Rattle.lt_tree.specs.Typing.Entities.{Known, Function, Entity, an_object, a_function, a_typedef, an_enumerator}
use Rattle.lt_tree.specs.Typing.Operands.{points_to, are_integers}
use Rattle.lt_tree.specs.Typing.Expressions.{Form, a_value, a_place, a_designator, Typed, Use, constant, placed, nothing, own_type, value_in, place_in, Judged, judgement, converted_to, scalar_in}
use Rattle.lt_tree.specs.Typing.Operations.{judge_name, judge_constant, promoted_value, judge_plus, judge_minus, judge_complement, judge_not, judge_address_of, target_in, constant_address, judge_dereference, stepped, judge_step, judge_size, judge_part, member_in, judge_member, judge_arrow, judge_index, element_size, passed, promoted_argument, judge_function, judge_call, judge_cast}
use Rattle.lt_tree.specs.Typing.BinaryOperations.{on_integers, on_pointers, moved, distance, beside, compared, judge_binary, judge_logical, chosen_type, judge_conditional, judge_assign, updated, operation_type, right_type, judge_update, judge_assignment, values_of, judge_comma}
use Rattle.lt_tree.specs.Typing.NodeEnds.{judge_unary, text_at}
use Rattle.lt_tree.specs.Typing.MarkRules.{judge_decide, judge_after, judge_marked}
use Rattle.lt_code.specs.Code.{number_among}
use Rattle.lt_code.specs.Sizes.{called_at}
use Rattle.lt_code.specs.Costs.{nodes_of_arguments, nodes_of_parts, behind_arguments, behind_parts, marks_of, calls_in_all}
use Rattle.lt_sizes.proofs.Among as among
use Rattle.lt_sizes.proofs.Among.{IsPartOf}
use Rattle.lt_sizes.proofs.Values.{IsPaid, IsOperand, IsPaidTyped, operand, converted, valued_paid, placed_paid, read_typed}

-- ---- names and constants

pub constant_paid : {functions : List Function} (n : ℕ) (calls : List ℕ) (name : Option (List ℕ)) (s : Scalar) (z : ℤ) → IsPaidTyped functions (suc n) calls name (constant s z)
constant_paid n calls name s z = valued_paid (record { value = omega arith; test = omega arith; registers = omega arith; among = among.nothing calls })

pub nothing_paid : {functions : List Function} (n : ℕ) (calls : List ℕ) (name : Option (List ℕ)) → IsPaidTyped functions (suc n) calls name nothing
nothing_paid n calls name = constant_paid n calls name S.Int (pos 0)

pub name_paid : {functions : List Function} (role : Use) (name : List ℕ) (found : Option Entity) (known : Known) → IsPaidTyped functions 1 [] (Some name) (judge_name role name found known).typed
unfolding judge_name
name_paid role name None known = nothing_paid 0 [] (Some name)
name_paid role name (Some (a_typedef t)) known = nothing_paid 0 [] (Some name)
name_paid role name (Some (an_object n is_register)) known = placed_paid _ _ _ is_register false (omega arith) (omega arith) among.done
name_paid role name (Some a_function) known = record {
  as_value = record { value = omega arith; test = omega arith; registers = omega arith; among = among.done };
  as_place = record { nodes = omega arith; registers = omega arith; among = among.done };
  named = λ w t h. cc;
}
name_paid role name (Some (an_enumerator z)) known = constant_paid 0 [] (Some name) S.Int z

pub constant_typed : {functions : List Function} (k : Option TypedConstant) → IsPaidTyped functions 1 [] None (judge_constant k).typed
unfolding judge_constant
constant_typed None = nothing_paid 0 [] None
constant_typed (Some k) = constant_paid 0 [] None k.type k.value

pub text_paid : {functions : List Function} (known : Known) (bytes : List ℕ) (n : ℕ) → IsPaidTyped functions 1 [] None (text_at known bytes n).typed
unfolding text_at
text_paid known bytes n = placed_paid _ _ _ false false (omega arith) (omega arith) among.done

pub size_paid : {functions : List Function} (n : ℕ) (calls : List ℕ) (t : CType) (known : Known) → IsPaidTyped functions (suc n) calls None (judge_size t known).typed
unfolding judge_size
size_paid n calls t known = constant_paid n calls None _ _

-- ---- operators on one operand

module _ {functions : List Function} {n : ℕ} {calls : List ℕ} {name : Option (List ℕ)} {x : Typed} (p : IsPaidTyped functions n calls name x) where
  promoted_paid : (m : DataModel) → IsOperand functions n calls (promoted_value m x)
  promoted_paid m = converted (Num (promoted m (scalar_in x))) p.as_value

  plus_paid : (known : Known) → IsPaidTyped functions (suc n) calls None (judge_plus x known).typed
  unfolding judge_plus
  plus_paid known =
      let o = p.as_value in
      valued_paid (record { value = omega arith; test = omega arith; registers = omega arith; among = o.among })

  minus_paid : (known : Known) → IsPaidTyped functions (suc n) calls None (judge_minus x known).typed
  unfolding judge_minus
  minus_paid known =
      let o = promoted_paid known.model in
      valued_paid (record { value = omega arith; test = omega arith; registers = omega arith; among = o.among })

  complement_paid : (known : Known) → IsPaidTyped functions (suc n) calls None (judge_complement x known).typed
  unfolding judge_complement
  complement_paid known =
      let o = promoted_paid known.model in
      valued_paid (record { value = omega arith; test = omega arith; registers = omega arith; among = o.among })

  not_paid : IsPaidTyped functions (suc n) calls None (judge_not x).typed
  unfolding judge_not
  not_paid =
      let o = p.as_value in
      valued_paid (record { value = omega arith; test = omega arith; registers = omega arith; among = o.among })

  address_of_paid : IsPaidTyped functions (suc n) calls None (judge_address_of x).typed
  unfolding judge_address_of
  address_of_paid =
      let o = p.as_place in
      valued_paid (record { value = omega arith; test = omega arith; registers = omega arith; among = o.among })

  pointed_paid : IsPaidTyped functions (suc n) calls None (placed (e.Pointed (target_in x) (value_in x)) (constant_address x.constancy))
  pointed_paid = let o = p.as_value in placed_paid _ _ _ false false (omega arith) (omega arith) o.among

  dereference_paid : (known : Known) → IsPaidTyped functions (suc n) calls None (judge_dereference x known).typed
  unfolding judge_dereference
  dereference_paid known =
      elim (points_to (is_complete known.structs) (own_type x)) as (λ v. IsPaidTyped functions (suc n) calls None (if v then judgement [] (placed (e.Pointed (target_in x) (value_in x)) (constant_address x.constancy)) else judgement (bad_address ∷ []) nothing).typed)
      [ true ↦ pointed_paid | false ↦ nothing_paid n calls None ]

  pub unary_paid : (op : UnaryOp) (known : Known) → IsPaidTyped functions (suc n) calls None (judge_unary op x known).typed
  unary_paid unary.AddressOf known = address_of_paid
  unary_paid unary.Dereference known = dereference_paid known
  unary_paid unary.Plus known = plus_paid known
  unary_paid unary.Minus known = minus_paid known
  unary_paid unary.Complement known = complement_paid known
  unary_paid unary.Not known = not_paid

  stepped_paid : (known : Known) (gives : When) (op : Op) → IsPaid functions (suc n) calls (stepped known gives op x)
  stepped_paid known gives op =
      let o = p.as_place in
      elim (is_pointer (own_type x)) as (λ v. IsPaid functions (suc n) calls (if v then e.StepPointer (unqualified (own_type x)) gives op (size_of known.model known.structs (target_in x)) (place_in x) else e.Step (unqualified (own_type x)) gives op (promoted known.model (scalar_in x)) (place_in x))) [
        | true ↦ record { value = omega arith; test = omega arith; registers = omega arith; among = o.among }
        | false ↦ record { value = omega arith; test = omega arith; registers = omega arith; among = o.among }
      ]

  pub step_paid : (gives : When) (op : Op) (known : Known) → IsPaidTyped functions (suc n) calls None (judge_step gives op x known).typed
  unfolding judge_step
  step_paid gives op known = valued_paid (stepped_paid known gives op)

  -- ---- members

  part_paid : (found : Option Placed) → IsPaidTyped functions (suc n) calls None (judge_part x found).typed
  part_paid None = nothing_paid n calls None
  part_paid (Some member) = let o = p.as_place in placed_paid _ _ _ x.is_register x.is_after (omega arith) (omega arith) o.among

  pub member_paid : (w : List ℕ) (known : Known) → IsPaidTyped functions (suc n) calls None (judge_member x w known).typed
  unfolding judge_member
  member_paid w known = part_paid (member_in known (own_type x) w)

  arrow_part_paid : (found : Option Placed) → IsPaidTyped functions (suc n) calls None (judge_part (placed (e.Pointed (target_in x) (value_in x)) (constant_address x.constancy)) found).typed
  arrow_part_paid None = nothing_paid n calls None
  arrow_part_paid (Some member) = let o = p.as_value in placed_paid _ _ _ false false (omega arith) (omega arith) o.among

  pub arrow_paid : (w : List ℕ) (known : Known) → IsPaidTyped functions (suc n) calls None (judge_arrow x w known).typed
  unfolding judge_arrow
  arrow_paid w known = arrow_part_paid (option_and_then (λ t. member_in known t w) (target_of (own_type x)))

  -- ---- casts, whose type names stand in the text too

  pub cast_paid : (k : ℕ) (others : List ℕ) (t : CType) (known : Known) → IsPaidTyped functions (suc (k + n)) (others ++ calls) None (judge_cast t x known).typed
  unfolding judge_cast
  cast_paid k others t known =
      let o = p.as_value in
      valued_paid (record { value = omega arith; test = omega arith; registers = omega arith; among = among.behind others o.among })

  -- ---- marks

  -- each mark is a node of the text
  pub marked_paid : (ms : Marks) (k : ℕ) (others : List ℕ) → marks_of ms ≤ k → IsPaidTyped functions (suc (k + n)) (others ++ calls) None (judge_marked ms x).typed
  unfolding judge_marked
  marked_paid ms k others h =
      let o = p.as_value in
      record {
        as_value = record { value = omega arith; test = omega arith; registers = omega arith; among = among.behind others o.among };
        as_place = record { nodes = omega arith; registers = omega arith; among = among.behind others o.among };
        named = λ w t h. absurd cc;
      }

  pub decide_paid : (role : Use) (when_true when_false tag : List ℕ) (known : Known) → IsPaidTyped functions (suc n) calls None (judge_decide role x when_true when_false tag known).typed
  unfolding judge_decide
  decide_paid role when_true when_false tag known =
      let o = p.as_value in
      valued_paid (record { value = omega arith; test = omega arith; registers = omega arith; among = o.among })

pub after_paid : {functions : List Function} {n : ℕ} {calls : List ℕ} {name : Option (List ℕ)} {x : Typed} (role : Use) (id tag : List ℕ) (known : Known)
    → IsPaidTyped functions n calls name x → IsPaidTyped functions (suc n) calls None (judge_after role x id tag known).typed
unfolding judge_after
after_paid {functions} {n} {calls} {name} {x} role id tag known p =
    let o = (read_typed p).as_value in
    record {
      as_value = record { value = omega arith; test = omega arith; registers = omega arith; among = o.among };
      as_place = record { nodes = omega arith; registers = omega arith; among = o.among };
      named = λ w t h. absurd cc;
    }

-- ---- operators on two operands

module _ {functions : List Function} {n m : ℕ} {calls others : List ℕ} {name other : Option (List ℕ)} {x y : Typed}
    (p : IsPaidTyped functions n calls name x) (q : IsPaidTyped functions m others other y) where
  pub index_paid : (known : Known) → IsPaidTyped functions (suc (n + m)) (calls ++ others) None (judge_index x y known).typed
  unfolding judge_index
  index_paid known =
      let i = p.as_value in
      let j = q.as_value in
      placed_paid _ _ _ _ false (omega arith) (omega arith) (among.beside i.among j.among)

  on_integers_paid : (known : Known) (op : Op) → IsPaidTyped functions (suc (n + m)) (calls ++ others) None (on_integers known op x y)
  on_integers_paid known op =
      let i = converted (Num (operation_type known op x y)) p.as_value in
      let j = converted (Num (right_type known op x y)) q.as_value in
      valued_paid (record { value = omega arith; test = omega arith; registers = omega arith; among = among.beside i.among j.among })

  moved_paid : (known : Known) (op : Op) → IsPaidTyped functions (suc (n + m)) (calls ++ others) None (moved known op x y)
  moved_paid known op =
      let i = p.as_value in
      let j = q.as_value in
      valued_paid (record { value = omega arith; test = omega arith; registers = omega arith; among = among.beside i.among j.among })

  distance_paid : (known : Known) → IsPaidTyped functions (suc (n + m)) (calls ++ others) None (distance known x y)
  distance_paid known =
      let i = p.as_value in
      let j = q.as_value in
      valued_paid (record { value = omega arith; test = omega arith; registers = omega arith; among = among.beside i.among j.among })

  pub logical_paid : (op : LogicalOp) → IsPaidTyped functions (suc (n + m)) (calls ++ others) None (judge_logical op x y).typed
  unfolding judge_logical
  logical_paid op =
      let i = p.as_value in
      let j = q.as_value in
      valued_paid (record { value = omega arith; test = omega arith; registers = omega arith; among = among.beside i.among j.among })

  assign_paid : (known : Known) → IsPaidTyped functions (suc (n + m)) (calls ++ others) None (judge_assign x y known).typed
  unfolding judge_assign
  assign_paid known =
      let i = p.as_place in
      let j = converted (unqualified (own_type x)) q.as_value in
      valued_paid (record { value = omega arith; test = omega arith; registers = omega arith; among = among.beside i.among j.among })

  updated_paid : (known : Known) (op : Op) → IsPaid functions (suc (n + m)) (calls ++ others) (updated known op x y)
  updated_paid known op =
      let i = p.as_place in
      let j = q.as_value in
      let k = converted (Num (right_type known op x y)) q.as_value in
      elim (is_pointer (own_type x)) as (λ v. IsPaid functions (suc (n + m)) (calls ++ others) (if v then e.UpdatePointer (unqualified (own_type x)) op (element_size known x y) (place_in x) (value_in y)
      else e.Update (unqualified (own_type x)) op (operation_type known op x y) (place_in x) (converted_to (Num (right_type known op x y)) (value_in y)))) [
        | true ↦ record { value = omega arith; test = omega arith; registers = omega arith; among = among.beside i.among j.among }
        | false ↦ record { value = omega arith; test = omega arith; registers = omega arith; among = among.beside i.among k.among }
      ]

  update_paid : (op : Op) (known : Known) → IsPaidTyped functions (suc (n + m)) (calls ++ others) None (judge_update op x y known).typed
  unfolding judge_update
  update_paid op known = valued_paid (updated_paid known op)

  pub assignment_paid : (op : Option Op) (known : Known) → IsPaidTyped functions (suc (n + m)) (calls ++ others) None (judge_assignment op x y known).typed
  assignment_paid None known = assign_paid known
  assignment_paid (Some op) known = update_paid op known

beside_paid : {functions : List Function} {n : ℕ} {calls : List ℕ} {name : Option (List ℕ)} {x : Typed} (y : Typed) → IsPaidTyped functions n calls name x → IsOperand functions n calls (beside x y)
beside_paid {functions} {n} {calls} {name} {x} y p =
    elim (is_integer (own_type x)) as (λ v. IsOperand functions n calls (if v then converted_to (own_type y) (value_in x) else value_in x))
    [ true ↦ converted (own_type y) p.as_value | false ↦ operand p.as_value ]

module _ {functions : List Function} {n m : ℕ} {calls others : List ℕ} {name other : Option (List ℕ)} {x y : Typed}
    (p : IsPaidTyped functions n calls name x) (q : IsPaidTyped functions m others other y) where
  compared_paid : (op : Op) → IsPaidTyped functions (suc (n + m)) (calls ++ others) None (compared op x y)
  compared_paid op =
      let i = beside_paid y p in
      let j = beside_paid x q in
      valued_paid (record { value = omega arith; test = omega arith; registers = omega arith; among = among.beside i.among j.among })

  difference_paid : (known : Known) (test : Bool) → IsPaidTyped functions (suc (n + m)) (calls ++ others) None (if test then distance known x y else moved known O.Sub x y)
  difference_paid known true = distance_paid p q known
  difference_paid known false = moved_paid p q known O.Sub

  on_pointers_paid : (known : Known) (op : Op) → IsPaidTyped functions (suc (n + m)) (calls ++ others) None (on_pointers known op x y)
  on_pointers_paid known O.Sub = difference_paid known (is_pointer (own_type x) && is_pointer (own_type y))
  on_pointers_paid known O.Add = moved_paid p q known O.Add
  on_pointers_paid known op = compared_paid op

  pub binary_paid : (op : Op) (known : Known) → IsPaidTyped functions (suc (n + m)) (calls ++ others) None (judge_binary op x y known).typed
  unfolding judge_binary
  binary_paid op known =
      elim (are_integers (own_type x) (own_type y)) as (λ v. IsPaidTyped functions (suc (n + m)) (calls ++ others) None (if v then on_integers known op x y else on_pointers known op x y))
      [ true ↦ on_integers_paid p q known op | false ↦ on_pointers_paid known op ]

-- ---- three operands

pub conditional_paid : {functions : List Function} {l n m : ℕ} {first second third : List ℕ} {a b d : Option (List ℕ)} {test x y : Typed} (known : Known)
    → IsPaidTyped functions l first a test → IsPaidTyped functions n second b x → IsPaidTyped functions m third d y
    → IsPaidTyped functions (suc (l + n + m)) (first ++ second ++ third) None (judge_conditional test x y known).typed
unfolding judge_conditional
conditional_paid {functions} {l} {n} {m} {first} {second} {third} {a} {b} {d} {test} {x} {y} known o p q =
    let h = o.as_value in
    let i = converted (chosen_type known x y) p.as_value in
    let j = converted (chosen_type known x y) q.as_value in
    valued_paid (record { value = omega arith; test = omega arith; registers = omega arith; among = among.beside (among.beside h.among i.among) j.among })

-- ---- lists of expressions

pub data AllPaid (functions : List Function) : ℕ → List ℕ → List Typed → Type 0 where
  none : AllPaid functions 0 [] []
  one : {n m : ℕ} {calls others : List ℕ} {x : Typed} {xs : List Typed} → IsPaid functions n calls (value_in x) → AllPaid functions m others xs → AllPaid functions (n + m) (calls ++ others) (x ∷ xs)

pub record ArgumentsPaid (functions : List Function) (n : ℕ) (calls : List ℕ) (vs : Values) : Type 0 where
  pub nodes : nodes_of_arguments vs ≤ 8 * n
  pub registers : behind_arguments vs ≤ 4 * n
  pub among : IsPartOf (calls_in_all functions vs) calls

argument_before : {functions : List Function} {n m : ℕ} {calls others : List ℕ} {v : Value} {vs : Values} → IsOperand functions n calls v → ArgumentsPaid functions m others vs
    → ArgumentsPaid functions (n + m) (calls ++ others) (e.a_value v vs)
argument_before p q = record { nodes = omega arith; registers = omega arith; among = among.beside p.among q.among }

argument_paid : {functions : List Function} {n : ℕ} {calls : List ℕ} (model : DataModel) (x : Typed) → IsPaid functions n calls (value_in x) → IsOperand functions n calls (promoted_argument model x)
argument_paid {functions} {n} {calls} model x p =
    elim (is_integer (own_type x)) as (λ v. IsOperand functions n calls (if v then promoted_value model x else value_in x))
    [ true ↦ converted (Num (promoted model (scalar_in x))) p | false ↦ operand p ]

pub passed_paid : {functions : List Function} {n : ℕ} {calls : List ℕ} {xs : List Typed} (model : DataModel) (ts : CTypes) → AllPaid functions n calls xs → ArgumentsPaid functions n calls (passed model xs ts)
passed_paid model ts none = record { nodes = omega arith; registers = omega arith; among = among.done }
passed_paid model no_types (one {x = x} p ps) = argument_before (argument_paid model x p) (passed_paid model no_types ps)
passed_paid model (a_type t ts) (one p ps) = argument_before (converted t p) (passed_paid model ts ps)

record PartsPaid (functions : List Function) (n : ℕ) (calls : List ℕ) (vs : Values) : Type 0 where
  nodes : nodes_of_parts vs ≤ 8 * n
  registers : behind_parts vs ≤ 4 * n
  among : IsPartOf (calls_in_all functions vs) calls

part_before : {functions : List Function} {n m : ℕ} {calls others : List ℕ} {v : Value} {vs : Values} → IsPaid functions n calls v → PartsPaid functions m others vs
    → PartsPaid functions (n + m) (calls ++ others) (e.a_value v vs)
part_before p q = record { nodes = omega arith; registers = omega arith; among = among.beside p.among q.among }

parts_paid : {functions : List Function} {n : ℕ} {calls : List ℕ} {xs : List Typed} → AllPaid functions n calls xs → PartsPaid functions n calls (values_of xs)
parts_paid none = record { nodes = omega arith; registers = omega arith; among = among.done }
parts_paid (one p ps) = part_before p (parts_paid ps)

pub comma_paid : {functions : List Function} {n : ℕ} {calls : List ℕ} {xs : List Typed} → AllPaid functions n calls xs → IsPaidTyped functions (suc n) calls None (judge_comma xs).typed
unfolding judge_comma
comma_paid ps =
    let o = parts_paid ps in
    valued_paid (record { value = omega arith; test = omega arith; registers = omega arith; among = o.among })

-- ---- calls

-- the name that an expression is
abbrev pub name_of : c.Expression → Option (List ℕ)
name_of (c.Name w) = Some w
name_of _ = None

is_name : (it : c.Expression) (w : List ℕ) → name_of it ≡ Some w → it ≡ c.Name w
is_name (c.Name v) w h = cc
is_name _ w h = absurd cc

-- a call at its own node
abbrev pub called : List Function → (callee : c.Expression) (arguments : c.Expressions) → List ℕ
called functions callee arguments = called_at functions (an_expression (c.Call callee arguments))

called_by_name : (functions : List Function) (callee : c.Expression) (arguments : c.Expressions) (w : List ℕ) → name_of callee ≡ Some w
    → called functions callee arguments ≡ option_to_list (number_among 0 w functions)
called_by_name functions callee arguments w h = rw (is_name callee w h) refl

abbrev call_of : List Typed → Known → Form → Judged
call_of xs known (a_value v) = judgement (bad_call ∷ []) nothing
call_of xs known (a_place place) = judgement (bad_call ∷ []) nothing
call_of xs known (a_designator w t) = judge_function known w t xs

-- the text of a call: its own node, its callee and its arguments
module _ (functions : List Function) (n m : ℕ) (calls others : List ℕ) (callee : c.Expression) (arguments : c.Expressions) (xs : List Typed) (known : Known) where
  function_paid : (w : List ℕ) (t : CType) → 1 ≤ n → name_of callee ≡ Some w → AllPaid functions m others xs
      → IsPaidTyped functions (suc (n + m)) (called functions callee arguments ++ (calls ++ others)) None (judge_function known w t xs).typed
  unfolding judge_function
  function_paid w (FunctionType result ts dots) h is ps =
      let o = passed_paid known.model ts ps in
      let first : IsPartOf (option_to_list (number_among 0 w functions)) (called functions callee arguments) = rw (called_by_name functions callee arguments w is) (among.whole _) in
      valued_paid (record { value = omega arith; test = omega arith; registers = omega arith; among = among.beside first (among.behind calls o.among) })
  function_paid w _ h is ps = nothing_paid (n + m) (called functions callee arguments ++ (calls ++ others)) None

  form_paid : (form : Form) → 1 ≤ n → ((w : List ℕ) (t : CType) → form ≡ a_designator w t → name_of callee ≡ Some w) → AllPaid functions m others xs
      → IsPaidTyped functions (suc (n + m)) (called functions callee arguments ++ (calls ++ others)) None (call_of xs known form).typed
  form_paid (a_value v) h is ps = nothing_paid (n + m) (called functions callee arguments ++ (calls ++ others)) None
  form_paid (a_place place) h is ps = nothing_paid (n + m) (called functions callee arguments ++ (calls ++ others)) None
  form_paid (a_designator w t) h is ps = function_paid w t h (is w t refl) ps

  pub call_paid : {f : Typed} → IsPaidTyped functions n calls (name_of callee) f → AllPaid functions m others xs
      → IsPaidTyped functions (suc (n + m)) (called functions callee arguments ++ (calls ++ others)) None (judge_call f xs known).typed
  unfolding judge_call
  call_paid {f} p ps = let o = p.as_value in form_paid f.form (omega arith) p.named ps
