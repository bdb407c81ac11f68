-- What operators make in both texts is the same but for the numbers of objects: nodes, facts, labels and bodies don't count.
use Rattle.std.proofs.Common.{◌≡◌, ℕ, List, [], Option, None, Some, map, option_map, Bool, refl, ap, ◌∙◌}
use Rattle.lt_model.specs.declared.operator.Op.{Op}
use Rattle.lt_tree.specs.declared.expression.UnaryOp.{UnaryOp}
use Rattle.lt_tree.specs.declared.expression.UnaryOp.TheVariants as unary
use Rattle.lt_tree.specs.Typing.Types.{CType, Function as FunctionType}
use Rattle.lt_tree.specs.Typing.Constants.{varying, address}
use Rattle.lt_tree.specs.Typing.TypedTree.{When}
use Rattle.lt_tree.specs.Typing.Entities.{Known, Entity, an_object, a_function, a_typedef, an_enumerator}
use Rattle.lt_tree.specs.Typing.Expressions.{Form, a_value, a_place, a_designator, Typed, Use, judgement}
use Rattle.lt_tree.specs.Typing.Operations.{judge_name, judge_plus, judge_minus, judge_complement, judge_dereference, judge_step, judge_size, judge_member, judge_arrow, judge_index, judge_call, judge_function, judge_cast, object_named, lives_from_the_start}
use Rattle.lt_tree.specs.Typing.BinaryOperations.{judge_binary, judge_conditional, judge_assignment, judge_assign, judge_update}
use Rattle.lt_tree.specs.Typing.NodeEnds.{judge_unary}
use Rattle.lt_mark_typing.specs.Renumbered.{entity_with, typed_with}
use Rattle.lt_mark_typing.specs.Further.{Agrees}
use Rattle.lt_mark_typing.specs.Beside.{IsBeside}
use Rattle.lt_mark_typing.proofs.Going.{same_with, same_of}
use Rattle.lt_mark_typing.proofs.Operators.{call_of}
use Rattle.lt_mark_typing.proofs.Renumbering.{judged_with, if_with}
use Rattle.lt_mark_typing.proofs.OneOperand.{unary_with, step_with, member_with, arrow_with, cast_with, call_with}
use Rattle.lt_mark_typing.proofs.TwoOperands.{index_with, binary_with, conditional_with, assignment_with}
use Rattle.lt_mark_typing.proofs.ObjectsThere.{type_same, static_same, size_same}

module _ {new : ℕ → Bool} {used : List ℕ} {further : List Bool} {k j : Known} (b : IsBeside new used further k j) (r : ℕ → ℕ) (a : Agrees r further) where
  object_named_known : (n : ℕ) (is_register : Bool) → object_named j (r n) is_register ≡ typed_with r (object_named k n is_register)
  object_named_known n is_register = same_with r a (λ it. object_named it (r n) is_register) (typed_with r (object_named k n is_register)) b
      (λ m os fs ls facts h. rw (type_same k r a os h n) (rw (static_same k r a os h n) (rw (if_with r (lives_from_the_start k n) (address n 0) varying) refl)))

  pub name_known : (role : Use) (name : List ℕ) (found : Option Entity) → judge_name role name (option_map (entity_with r) found) j ≡ judged_with r (judge_name role name found k)
  unfolding judge_name
  name_known role name None = refl
  name_known role name (Some (a_typedef t)) = refl
  name_known role name (Some (an_object n is_register)) = ap (judgement []) (object_named_known n is_register)
  name_known role name (Some a_function) = same_of (judge_name role name (Some a_function)) b (λ s m os fs ls facts h. refl)
  name_known role name (Some (an_enumerator z)) = refl

  pub index_known : (x y : Typed) → judge_index (typed_with r x) (typed_with r y) j ≡ judged_with r (judge_index x y k)
  index_known x y = same_with r a (judge_index (typed_with r x) (typed_with r y)) (judged_with r (judge_index x y k)) b (λ n os fs ls facts h. index_with r x y k n os fs ls facts (size_same k r a os h))

  pub binary_known : (op : Op) (x y : Typed) → judge_binary op (typed_with r x) (typed_with r y) j ≡ judged_with r (judge_binary op x y k)
  binary_known op x y = same_with r a (judge_binary op (typed_with r x) (typed_with r y)) (judged_with r (judge_binary op x y k)) b (λ n os fs ls facts h. binary_with r x y k n os fs ls facts (size_same k r a os h) op)

  pub conditional_known : (test x y : Typed) → judge_conditional (typed_with r test) (typed_with r x) (typed_with r y) j ≡ judged_with r (judge_conditional test x y k)
  unfolding judge_conditional
  conditional_known test x y = same_of (judge_conditional (typed_with r test) (typed_with r x) (typed_with r y)) b (λ s n os fs ls facts h. refl) ∙ conditional_with r test x y k

  pub assignment_known : (op : Option Op) (x y : Typed) → judge_assignment op (typed_with r x) (typed_with r y) j ≡ judged_with r (judge_assignment op x y k)
  unfolding judge_assign judge_update
  assignment_known None x y = same_of (judge_assignment None (typed_with r x) (typed_with r y)) b (λ s n os fs ls facts h. refl) ∙ assignment_with r x y k None
  assignment_known (Some op) x y = same_of (judge_assignment (Some op) (typed_with r x) (typed_with r y)) b (λ s n os fs ls facts h. refl) ∙ assignment_with r x y k (Some op)

  function_known : (name : List ℕ) (t : CType) (xs : List Typed) → judge_function j name t xs ≡ judge_function k name t xs
  unfolding judge_function
  function_known name (FunctionType result ts dots) xs = same_of (λ it. judge_function it name (FunctionType result ts dots) xs) b (λ s m os fs ls facts h. refl)
  function_known name _ xs = refl

  call_by : (xs : List Typed) (form : Form) → call_of xs j form ≡ call_of xs k form
  call_by xs (a_value v) = refl
  call_by xs (a_place p) = refl
  call_by xs (a_designator name t) = function_known name t xs

  pub call_known : (f : Typed) (xs : List Typed) → judge_call (typed_with r f) (map (typed_with r) xs) j ≡ judged_with r (judge_call f xs k)
  unfolding judge_call
  call_known f xs = call_by (map (typed_with r) xs) (typed_with r f).form ∙ call_with r f xs k

  pub member_known : (x : Typed) (name : List ℕ) → judge_member (typed_with r x) name j ≡ judged_with r (judge_member x name k)
  unfolding judge_member
  member_known x name = same_of (judge_member (typed_with r x) name) b (λ s m os fs ls facts h. refl) ∙ member_with r x name k

  pub arrow_known : (x : Typed) (name : List ℕ) → judge_arrow (typed_with r x) name j ≡ judged_with r (judge_arrow x name k)
  unfolding judge_arrow
  arrow_known x name = same_of (judge_arrow (typed_with r x) name) b (λ s m os fs ls facts h. refl) ∙ arrow_with r x name k

  pub step_known : (when : When) (op : Op) (x : Typed) → judge_step when op (typed_with r x) j ≡ judged_with r (judge_step when op x k)
  unfolding judge_step
  step_known when op x = same_of (judge_step when op (typed_with r x)) b (λ s m os fs ls facts h. refl) ∙ step_with r when op x k

  pub size_known : (t : CType) → judge_size t j ≡ judged_with r (judge_size t k)
  unfolding judge_size
  size_known t = same_of (judge_size t) b (λ s m os fs ls facts h. refl)

  pub cast_known : (t : CType) (x : Typed) → judge_cast t (typed_with r x) j ≡ judged_with r (judge_cast t x k)
  unfolding judge_cast
  cast_known t x = same_of (judge_cast t (typed_with r x)) b (λ s m os fs ls facts h. refl) ∙ cast_with r t x k

  unary_there : (op : UnaryOp) (x : Typed) → judge_unary op x j ≡ judge_unary op x k
  unfolding judge_dereference judge_plus judge_minus judge_complement
  unary_there unary.AddressOf x = refl
  unary_there unary.Dereference x = same_of (judge_unary unary.Dereference x) b (λ s n os fs ls facts h. refl)
  unary_there unary.Plus x = same_of (judge_unary unary.Plus x) b (λ s n os fs ls facts h. refl)
  unary_there unary.Minus x = same_of (judge_unary unary.Minus x) b (λ s n os fs ls facts h. refl)
  unary_there unary.Complement x = same_of (judge_unary unary.Complement x) b (λ s n os fs ls facts h. refl)
  unary_there unary.Not x = refl

  pub unary_known : (op : UnaryOp) (x : Typed) → judge_unary op (typed_with r x) j ≡ judged_with r (judge_unary op x k)
  unary_known op x = unary_there op (typed_with r x) ∙ unary_with r op x k
