-- What operators on two and three operands, and marks, make of operands that rest on objects which are there from the start.
use Rattle.std.proofs.Common.{ℕ, List, Bool, true, false, Option, Some, None}
use Rattle.std.specs.Prelude.{if◌then◌else◌, ◌&&◌}
use Rattle.lt_model.specs.declared.scalar.Scalar.{Scalar}
use Rattle.lt_model.specs.declared.operator.Op.{Op}
use Rattle.lt_model.specs.declared.operator.Op.TheVariants as O
use Rattle.lt_tree.specs.declared.expression.LogicalOp.{LogicalOp}
use Rattle.lt_tree.specs.Typing.Types.{CType, is_pointer}
use Rattle.lt_tree.specs.Typing.Constants.{chosen}
use Rattle.lt_tree.specs.Typing.TypedTree as e
use Rattle.lt_tree.specs.Typing.Entities.{Known, Object}
use Rattle.lt_tree.specs.Typing.Expressions.{Typed, Use, own_type}
use Rattle.lt_tree.specs.Typing.Operands.{are_integers}
use Rattle.lt_tree.specs.Typing.Operations.{object_size, pointer_among, other_among, element_size}
use Rattle.lt_tree.specs.Typing.BinaryOperations.{operation_type, right_type, on_integers, towards, moved, distance, on_pointers, judge_binary, settles, judge_logical, chosen_type, judge_conditional, judge_assign, judge_update, judge_assignment, judge_comma}
use Rattle.lt_tree.specs.Typing.MarkRules.{judge_decide, judge_after, judge_marked}
use Rattle.lt_typed_addresses.proofs.Resting.{TypedRests, varying_rests, operated_rests, connected_rests, chosen_rests, moved_by_rests, constancy_to_rests}
use Rattle.lt_typed_addresses.proofs.RestingOperations.{varies_rests, read_rests, pointer_rests}

module _ {objects : List Object} where
  -- ---- two operands

  on_integers_rests : (known : Known) (op : Op) (x y : Typed) → TypedRests objects (on_integers known op x y)
  on_integers_rests known op x y =
      let s : Scalar = operation_type known op x y in
      let r : Scalar = right_type known op x y in
      record { constancy = operated_rests known.model op s r x.constancy y.constancy; erased = operated_rests known.model op s r x.erased y.erased }

  moved_rests : {x y : Typed} (known : Known) (op : Op) → TypedRests objects x → TypedRests objects y → TypedRests objects (moved known op x y)
  moved_rests {x} {y} known op h i =
      let pointer : TypedRests objects (pointer_among x y) = pointer_rests h i in
      let at = moved_by_rests (object_size known) (element_size known x y) (pointer_among x y).constancy (towards op (other_among x y).constancy) pointer.constancy in
      record { constancy = at; erased = at }

  difference_rests : {x y : Typed} (known : Known) (test : Bool) → TypedRests objects x → TypedRests objects y → TypedRests objects (if test then distance known x y else moved known O.Sub x y)
  difference_rests known true h i = varies_rests
  difference_rests known false h i = moved_rests known O.Sub h i

  on_pointers_rests : {x y : Typed} (known : Known) (op : Op) → TypedRests objects x → TypedRests objects y → TypedRests objects (on_pointers known op x y)
  on_pointers_rests {x} {y} known O.Sub h i = difference_rests known (is_pointer (own_type x) && is_pointer (own_type y)) h i
  on_pointers_rests known O.Add h i = moved_rests known O.Add h i
  on_pointers_rests known op h i = varies_rests

  pub binary_rests : {x y : Typed} (op : Op) (known : Known) → TypedRests objects x → TypedRests objects y → TypedRests objects (judge_binary op x y known).typed
  unfolding judge_binary
  binary_rests {x} {y} op known h i =
      elim (are_integers (own_type x) (own_type y)) as (λ v. TypedRests objects (if v then on_integers known op x y else on_pointers known op x y))
      [ true ↦ on_integers_rests known op x y | false ↦ on_pointers_rests known op h i ]

  pub logical_rests : (op : LogicalOp) (x y : Typed) → TypedRests objects (judge_logical op x y).typed
  unfolding judge_logical
  logical_rests op x y = record { constancy = connected_rests (settles op) x.constancy y.constancy; erased = connected_rests (settles op) x.erased y.erased }

  -- ---- three operands

  pub conditional_rests : (test : Typed) {x y : Typed} (known : Known) → TypedRests objects x → TypedRests objects y → TypedRests objects (judge_conditional test x y known).typed
  unfolding judge_conditional
  conditional_rests test {x} {y} known h i =
      let t : CType = chosen_type known x y in
      record {
        constancy = constancy_to_rests known.model t (chosen test.constancy x.constancy y.constancy) (chosen_rests test.constancy x.constancy y.constancy h.constancy i.constancy);
        erased = constancy_to_rests known.model t (chosen test.erased x.erased y.erased) (chosen_rests test.erased x.erased y.erased h.erased i.erased);
      }

  -- ---- assignment and commas

  assign_rests : (x y : Typed) (known : Known) → TypedRests objects (judge_assign x y known).typed
  unfolding judge_assign
  assign_rests x y known = varies_rests

  update_rests : (op : Op) (x y : Typed) (known : Known) → TypedRests objects (judge_update op x y known).typed
  unfolding judge_update
  update_rests op x y known = varies_rests

  pub assignment_rests : (op : Option Op) (x y : Typed) (known : Known) → TypedRests objects (judge_assignment op x y known).typed
  assignment_rests None x y known = assign_rests x y known
  assignment_rests (Some op) x y known = update_rests op x y known

  pub comma_rests : (xs : List Typed) → TypedRests objects (judge_comma xs).typed
  unfolding judge_comma
  comma_rests xs = varies_rests

  -- ---- marks

  pub marked_rests : {x : Typed} (ms : e.Marks) → TypedRests objects x → TypedRests objects (judge_marked ms x).typed
  unfolding judge_marked
  marked_rests ms h = record { constancy = varying_rests; erased = h.erased }

  pub decide_rests : {x : Typed} (role : Use) (when_true when_false tag : List ℕ) (known : Known) → TypedRests objects x → TypedRests objects (judge_decide role x when_true when_false tag known).typed
  unfolding judge_decide
  decide_rests role when_true when_false tag known h = record { constancy = varying_rests; erased = h.erased }

  pub after_rests : {x : Typed} (role : Use) (id tag : List ℕ) (known : Known) → TypedRests objects x → TypedRests objects (judge_after role x id tag known).typed
  unfolding judge_after
  after_rests role id tag known h = record { constancy = varying_rests; erased = (read_rests h).erased }
