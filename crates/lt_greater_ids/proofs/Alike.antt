-- What is judged of nodes doesn't depend on the greatest id.
use Rattle.std.proofs.Common.{◌≡◌, ℕ, List, Option, Some, None, refl}
use Rattle.lt_model.specs.declared.operator.Op.{Op}
use Rattle.lt_tree.specs.declared.expression.UnaryOp.{UnaryOp}
use Rattle.lt_tree.specs.declared.expression.UnaryOp.TheVariants as unary
use Rattle.lt_tree.specs.Typing.Types.{CType}
use Rattle.lt_tree.specs.Typing.TypedTree.{When}
use Rattle.lt_tree.specs.Typing.Entities.{Known, Entity, a_typedef, an_object, a_function, an_enumerator}
use Rattle.lt_tree.specs.Typing.Expressions.{Typed, Use}
use Rattle.lt_tree.specs.Typing.Operations.{judge_name, judge_plus, judge_minus, judge_complement, judge_dereference, judge_step, judge_size, judge_member, judge_arrow, judge_index, judge_function, judge_call, judge_cast}
use Rattle.lt_tree.specs.Typing.BinaryOperations.{judge_binary, judge_conditional, judge_assign, judge_update, judge_assignment}
use Rattle.lt_tree.specs.Typing.NodeEnds.{judge_unary}
use Rattle.lt_greater_ids.proofs.Rising.{raised}

module _ (more : ℕ) (known : Known) where
  pub name_alike : (role : Use) (name : List ℕ) (found : Option Entity) → judge_name role name found (raised more known) ≡ judge_name role name found known
  unfolding judge_name
  name_alike role name None = refl
  name_alike role name (Some (a_typedef t)) = refl
  name_alike role name (Some (an_object n is_register)) = refl
  name_alike role name (Some a_function) = refl
  name_alike role name (Some (an_enumerator z)) = refl

  pub index_alike : (x y : Typed) → judge_index x y (raised more known) ≡ judge_index x y known
  unfolding judge_index
  index_alike x y = refl

  pub call_alike : (f : Typed) (xs : List Typed) → judge_call f xs (raised more known) ≡ judge_call f xs known
  unfolding judge_call judge_function
  call_alike f xs = refl

  pub member_alike : (x : Typed) (name : List ℕ) → judge_member x name (raised more known) ≡ judge_member x name known
  unfolding judge_member
  member_alike x name = refl

  pub arrow_alike : (x : Typed) (name : List ℕ) → judge_arrow x name (raised more known) ≡ judge_arrow x name known
  unfolding judge_arrow
  arrow_alike x name = refl

  pub step_alike : (when : When) (op : Op) (x : Typed) → judge_step when op x (raised more known) ≡ judge_step when op x known
  unfolding judge_step
  step_alike when op x = refl

  pub unary_alike : (op : UnaryOp) (x : Typed) → judge_unary op x (raised more known) ≡ judge_unary op x known
  unfolding judge_dereference judge_plus judge_minus judge_complement
  unary_alike unary.AddressOf x = refl
  unary_alike unary.Dereference x = refl
  unary_alike unary.Plus x = refl
  unary_alike unary.Minus x = refl
  unary_alike unary.Complement x = refl
  unary_alike unary.Not x = refl

  pub size_alike : (t : CType) → judge_size t (raised more known) ≡ judge_size t known
  unfolding judge_size
  size_alike t = refl

  pub cast_alike : (t : CType) (x : Typed) → judge_cast t x (raised more known) ≡ judge_cast t x known
  unfolding judge_cast
  cast_alike t x = refl

  pub binary_alike : (op : Op) (x y : Typed) → judge_binary op x y (raised more known) ≡ judge_binary op x y known
  unfolding judge_binary
  binary_alike op x y = refl

  pub conditional_alike : (test x y : Typed) → judge_conditional test x y (raised more known) ≡ judge_conditional test x y known
  unfolding judge_conditional
  conditional_alike test x y = refl

  pub assignment_alike : (op : Option Op) (x y : Typed) → judge_assignment op x y (raised more known) ≡ judge_assignment op x y known
  unfolding judge_assign judge_update
  assignment_alike None x y = refl
  assignment_alike (Some op) x y = refl
