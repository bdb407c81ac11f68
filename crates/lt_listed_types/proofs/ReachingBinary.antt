-- What operators on two and three operands, and marks, make of operands that get at memory by types which are named in a list.
use Rattle.std.proofs.Common.{◌≡◌, refl, ℕ, List, [], ◌∷◌, Bool, true, false, Option, Some, None}
use Rattle.std.specs.Prelude.{if◌then◌else◌, ◌&&◌}
use Rattle.std.specs.List.{AllByRecursion}
use Rattle.lt_model.specs.declared.operator.Op.{Op}
use Rattle.lt_model.specs.declared.operator.Op.TheVariants as O
use Rattle.lt_tree.specs.declared.expression.LogicalOp.{LogicalOp}
use Rattle.lt_tree.specs.Typing.Types.{CType, Num, unqualified, is_integer, is_pointer}
use Rattle.lt_tree.specs.Typing.TypedTree as e
use Rattle.lt_tree.specs.Typing.Entities.{Known}
use Rattle.lt_tree.specs.Typing.Expressions.{Typed, Use, as_value, as_truth, as_place, own_type, value_in, place_in, converted_to}
use Rattle.lt_tree.specs.Typing.Operands.{are_integers}
use Rattle.lt_tree.specs.Typing.Operations.{element_size}
use Rattle.lt_tree.specs.Typing.BinaryOperations.{operation_type, right_type, on_integers, moved, distance, beside, compared, on_pointers, judge_binary, judge_logical, chosen_type, judge_conditional, judge_assign, updated, judge_update, judge_assignment, values_of, judge_comma}
use Rattle.lt_tree.specs.Typing.MarkRules.{TypedBinding, bindings_of, inside_mark, inside_after, judge_decide, judge_after, judge_marked}
use Rattle.lt_type_laws.specs.Accesses.{is_named_in, Accesses, AccessesAll, AccessesMarks, AccessesBindings}
use Rattle.lt_listed_types.proofs.Named.{unqualified_named}
use Rattle.lt_listed_types.proofs.Reaching.{Makes, Reaches, converted_accesses, read_accesses}

module _ {types : List CType} where
  -- ---- two operands

  integers_made : {role : Use} {x y : Typed} (known : Known) (op : Op) → Reaches types as_value x → Reaches types as_value y → Makes types role (on_integers known op x y)
  integers_made {role} {x} {y} known op h i = record {
    place = (
      converted_accesses (is_named_in types) (Num (operation_type known op x y)) (value_in x) h.value,
      converted_accesses (is_named_in types) (Num (right_type known op x y)) (value_in y) i.value,
    );
    plain = tt;
  }

  difference_made : {role : Use} {x y : Typed} (known : Known) (test : Bool) → Reaches types as_value x → Reaches types as_value y → Makes types role (if test then distance known x y else moved known O.Sub x y)
  difference_made known true h i = record { place = (h.value, i.value); plain = tt }
  difference_made known false h i = record { place = (h.value, i.value); plain = tt }

  beside_accesses : {x : Typed} (other : Typed) → Reaches types as_value x → Accesses (is_named_in types) (beside x other)
  beside_accesses {x} other h =
      elim (is_integer (own_type x)) as (λ b. Accesses (is_named_in types) (if b then converted_to (own_type other) (value_in x) else value_in x))
      [ true ↦ converted_accesses (is_named_in types) (own_type other) (value_in x) h.value | false ↦ h.value ]

  compared_made : {role : Use} {x y : Typed} (op : Op) → Reaches types as_value x → Reaches types as_value y → Makes types role (compared op x y)
  compared_made {role} {x} {y} op h i = record { place = (beside_accesses y h, beside_accesses x i); plain = tt }

  pointers_made : {role : Use} {x y : Typed} (known : Known) (op : Op) → Reaches types as_value x → Reaches types as_value y → Makes types role (on_pointers known op x y)
  pointers_made {role} {x} {y} known O.Sub h i = difference_made known (is_pointer (own_type x) && is_pointer (own_type y)) h i
  pointers_made known O.Add h i = record { place = (h.value, i.value); plain = tt }
  pointers_made known op h i = compared_made op h i

  pub binary_made : {role : Use} {x y : Typed} (op : Op) (known : Known) → Reaches types as_value x → Reaches types as_value y → Makes types role (judge_binary op x y known).typed
  unfolding judge_binary
  binary_made {role} {x} {y} op known h i =
      elim (are_integers (own_type x) (own_type y)) as (λ v. Makes types role (if v then on_integers known op x y else on_pointers known op x y))
      [ true ↦ integers_made known op h i | false ↦ pointers_made known op h i ]

  pub logical_made : {role : Use} {x y : Typed} (op : LogicalOp) → Reaches types as_truth x → Reaches types as_truth y → Makes types role (judge_logical op x y).typed
  unfolding judge_logical
  logical_made op h i = record { place = (h.value, i.value); plain = tt }

  -- ---- three operands

  pub conditional_made : {role : Use} {test x y : Typed} (known : Known) → Reaches types as_truth test → Reaches types as_value x → Reaches types as_value y → Makes types role (judge_conditional test x y known).typed
  unfolding judge_conditional
  conditional_made {role} {test} {x} {y} known g h i =
      let t : CType = chosen_type known x y in
      record { place = (g.value, converted_accesses (is_named_in types) t (value_in x) h.value, converted_accesses (is_named_in types) t (value_in y) i.value); plain = tt }

  -- ---- assignment and commas

  assign_made : {role : Use} {x y : Typed} (known : Known) → Reaches types as_place x → Reaches types as_value y → Makes types role (judge_assign x y known).typed
  unfolding judge_assign
  assign_made {role} {x} {y} known h i = record {
    place = (unqualified_named types (own_type x) (h.named refl), h.place, converted_accesses (is_named_in types) (unqualified (own_type x)) (value_in y) i.value);
    plain = tt;
  }

  updated_accesses : {x y : Typed} (op : Op) (known : Known) → Reaches types as_place x → Reaches types as_value y → Accesses (is_named_in types) (updated known op x y)
  updated_accesses {x} {y} op known h i = by (is_pointer (own_type x))
    where
      named : is_named_in types (unqualified (own_type x)) ≡ true
      named = unqualified_named types (own_type x) (h.named refl)

      by : (b : Bool) → Accesses (is_named_in types)
          (if b then e.UpdatePointer (unqualified (own_type x)) op (element_size known x y) (place_in x) (value_in y)
          else e.Update (unqualified (own_type x)) op (operation_type known op x y) (place_in x) (converted_to (Num (right_type known op x y)) (value_in y)))
      by true = (named, h.place, i.value)
      by false = (named, h.place, converted_accesses (is_named_in types) (Num (right_type known op x y)) (value_in y) i.value)

  update_made : {role : Use} {x y : Typed} (op : Op) (known : Known) → Reaches types as_place x → Reaches types as_value y → Makes types role (judge_update op x y known).typed
  unfolding judge_update
  update_made op known h i = record { place = updated_accesses op known h i; plain = tt }

  pub assignment_made : {role : Use} {x y : Typed} (op : Option Op) (known : Known) → Reaches types as_place x → Reaches types as_value y → Makes types role (judge_assignment op x y known).typed
  assignment_made None known h i = assign_made known h i
  assignment_made (Some op) known h i = update_made op known h i

  -- ---- marks

  pub marked_made : {role : Use} {x : Typed} (ms : e.Marks) → AccessesMarks (is_named_in types) ms → Reaches types (inside_mark role) x → Makes types role (judge_marked ms x).typed
  unfolding judge_marked
  marked_made ms h i = record { place = (h, i.value); plain = tt }

  pub decide_made : {role : Use} {x : Typed} (when_true when_false tag : List ℕ) (known : Known) → Reaches types (inside_mark role) x → Makes types role (judge_decide role x when_true when_false tag known).typed
  unfolding judge_decide
  decide_made when_true when_false tag known h = record { place = h.value; plain = tt }

  pub after_made : {role : Use} {x : Typed} (id tag : List ℕ) (known : Known) → Reaches types (inside_after role) x → Makes types role (judge_after role x id tag known).typed
  unfolding judge_after
  after_made id tag known h = record { place = read_accesses h; plain = tt }

-- ---- lists

values_access : (types : List CType) (xs : List Typed) → AllByRecursion (Reaches types as_value) xs → AccessesAll (is_named_in types) (values_of xs)
values_access types [] h = tt
values_access types (x ∷ xs) h = (h.0.value, values_access types xs h.1)

pub comma_made : {types : List CType} {role : Use} (xs : List Typed) → AllByRecursion (Reaches types as_value) xs → Makes types role (judge_comma xs).typed
unfolding judge_comma
comma_made {types} xs h = record { place = values_access types xs h; plain = tt }

-- a name that a mark binds
abbrev pub BindingReaches : List CType → TypedBinding → Type 0
BindingReaches types b = Reaches types as_value b.typed

pub bindings_access : (types : List CType) (bs : List TypedBinding) → AllByRecursion (BindingReaches types) bs → AccessesBindings (is_named_in types) (bindings_of bs)
bindings_access types [] h = tt
bindings_access types (b ∷ bs) h = (h.0.value, bindings_access types bs h.1)
