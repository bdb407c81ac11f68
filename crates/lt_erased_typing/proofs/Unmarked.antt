-- What operators make of expressions without marks is as a constant what it is without marks.
use Rattle.std.proofs.Common.{◌≡◌, ℕ, List, [], ◌∷◌, Option, Some, None, Bool, true, false, refl, ap, ◌∙◌}
use Rattle.std.specs.Prelude.{if◌then◌else◌, ◌&&◌, option_and_then}
use Rattle.lt_model.specs.declared.operator.Op.{Op}
use Rattle.lt_model.specs.declared.operator.Op.TheVariants as O
use Rattle.lt_tree.specs.declared.expression.LogicalOp.{LogicalOp}
use Rattle.lt_tree.specs.declared.expression.UnaryOp.{UnaryOp}
use Rattle.lt_tree.specs.declared.expression.UnaryOp.TheVariants as unary
use Rattle.lt_tree.specs.Typing.Types.{CType, is_array, is_pointer, target_of}
use Rattle.lt_tree.specs.Typing.Extents.{Placed, is_complete}
use Rattle.lt_tree.specs.Typing.Constants.{TypedConstant, negated, operated, connected, chosen}
use Rattle.lt_tree.specs.Typing.Rules.{bad_address}
use Rattle.lt_tree.specs.Typing.TypedTree as e
use Rattle.lt_tree.specs.Typing.TypedTree.{type_at}
use Rattle.lt_tree.specs.Typing.Entities.{Known, Entity, an_object, a_function, a_typedef, an_enumerator}
use Rattle.lt_tree.specs.Typing.Operands.{are_integers, points_to}
use Rattle.lt_tree.specs.Typing.Expressions.{Form, a_value, a_place, a_designator, Typed, Use, as_value, as_truth, as_place, as_callee, varies, placed, nothing, own_type, value_in, value_at, as_it_is_read, used, judgement, constancy_to}
use Rattle.lt_tree.specs.Typing.Operations.{judge_name, judge_constant, judge_plus, judge_minus, judge_complement, judge_not, judge_address_of, judge_dereference, judge_member, judge_arrow, judge_part, judge_index, judge_size, judge_cast, target_in, constant_address, member_in}
use Rattle.lt_tree.specs.Typing.BinaryOperations.{judge_binary, judge_logical, judge_conditional, judge_comma, on_integers, on_pointers, operation_type, right_type, moved, distance, chosen_type, settles}
use Rattle.lt_tree.specs.Typing.NodeEnds.{judge_unary, text_at}

abbrev pub IsUnmarked : Typed → Type 0
IsUnmarked x = x.erased ≡ x.constancy

-- ---- what is read

read_by : (b : Bool) (x y : Typed) → IsUnmarked x → IsUnmarked y → IsUnmarked (if b then x else y)
read_by true x y h g = h
read_by false x y h g = g

read_form : (x : Typed) (f : Form) → IsUnmarked x → IsUnmarked (as_it_is_read (record x { form = f }))
read_form x (a_value v) h = h
read_form x (a_place place) h = read_by (is_array (type_at place)) (record x { form = a_value (value_at (type_at place) place) }) (varies (value_at (type_at place) place)) h refl
read_form x (a_designator name type) h = h

pub used_unmarked : (role : Use) (x : Typed) → IsUnmarked x → IsUnmarked (used role x)
used_unmarked as_value x h = read_form x x.form h
used_unmarked as_truth x h = read_form x x.form h
used_unmarked as_place x h = h
used_unmarked as_callee x h = read_form x x.form h

-- ---- operators

pub name_unmarked : (role : Use) (name : List ℕ) (found : Option Entity) (k : Known) → IsUnmarked (judge_name role name found k).typed
unfolding judge_name
name_unmarked role name None k = refl
name_unmarked role name (Some (a_typedef t)) k = refl
name_unmarked role name (Some (an_object n is_register)) k = refl
name_unmarked role name (Some a_function) k = refl
name_unmarked role name (Some (an_enumerator z)) k = refl

pub constant_unmarked : (found : Option TypedConstant) → IsUnmarked (judge_constant found).typed
unfolding judge_constant
constant_unmarked None = refl
constant_unmarked (Some c) = refl

pub text_unmarked : (k : Known) (bytes : List ℕ) (n : ℕ) → IsUnmarked (text_at k bytes n).typed
unfolding text_at
text_unmarked k bytes n = refl

dereferenced : (b : Bool) (x : Typed) → IsUnmarked (if b then judgement [] (placed (e.Pointed (target_in x) (value_in x)) (constant_address x.constancy)) else judgement (bad_address ∷ []) nothing).typed
dereferenced true x = refl
dereferenced false x = refl

pub unary_unmarked : (op : UnaryOp) (x : Typed) (k : Known) → IsUnmarked x → IsUnmarked (judge_unary op x k).typed
unfolding judge_plus judge_minus judge_complement judge_not judge_address_of judge_dereference
unary_unmarked unary.AddressOf x k h = refl
unary_unmarked unary.Dereference x k h = dereferenced (points_to (is_complete k.structs) (own_type x)) x
unary_unmarked unary.Plus x k h = rw h refl
unary_unmarked unary.Minus x k h = rw h refl
unary_unmarked unary.Complement x k h = rw h refl
unary_unmarked unary.Not x k h = ap negated h

part_unmarked : (x : Typed) (found : Option Placed) → IsUnmarked (judge_part x found).typed
part_unmarked x None = refl
part_unmarked x (Some member) = refl

pub member_unmarked : (x : Typed) (name : List ℕ) (k : Known) → IsUnmarked (judge_member x name k).typed
unfolding judge_member
member_unmarked x name k = part_unmarked x (member_in k (own_type x) name)

pub arrow_unmarked : (x : Typed) (name : List ℕ) (k : Known) → IsUnmarked (judge_arrow x name k).typed
unfolding judge_arrow
arrow_unmarked x name k = part_unmarked (placed (e.Pointed (target_in x) (value_in x)) (constant_address x.constancy)) (option_and_then (λ t. member_in k t name) (target_of (own_type x)))

pub index_unmarked : (x y : Typed) (k : Known) → IsUnmarked (judge_index x y k).typed
unfolding judge_index
index_unmarked x y k = refl

pub size_unmarked : (t : CType) (k : Known) → IsUnmarked (judge_size t k).typed
unfolding judge_size
size_unmarked t k = refl

pub cast_unmarked : (t : CType) (x : Typed) (k : Known) → IsUnmarked x → IsUnmarked (judge_cast t x k).typed
unfolding judge_cast
cast_unmarked t x k h = rw h refl

-- ---- operators on two and three operands

integers_unmarked : (k : Known) (op : Op) (x y : Typed) → IsUnmarked x → IsUnmarked y → IsUnmarked (on_integers k op x y)
integers_unmarked k op x y h g =
    ap (λ c. operated k.model op (operation_type k op x y) (right_type k op x y) c y.erased) h ∙ ap (operated k.model op (operation_type k op x y) (right_type k op x y) x.constancy) g

pointers_unmarked : (k : Known) (op : Op) (x y : Typed) → IsUnmarked (on_pointers k op x y)
pointers_unmarked k O.Sub x y = read_by (is_pointer (own_type x) && is_pointer (own_type y)) (distance k x y) (moved k O.Sub x y) refl refl
pointers_unmarked k O.Add x y = refl
pointers_unmarked k _ x y = refl

pub binary_unmarked : (op : Op) (x y : Typed) (k : Known) → IsUnmarked x → IsUnmarked y → IsUnmarked (judge_binary op x y k).typed
unfolding judge_binary
binary_unmarked op x y k h g = read_by (are_integers (own_type x) (own_type y)) (on_integers k op x y) (on_pointers k op x y) (integers_unmarked k op x y h g) (pointers_unmarked k op x y)

pub logical_unmarked : (op : LogicalOp) (x y : Typed) → IsUnmarked x → IsUnmarked y → IsUnmarked (judge_logical op x y).typed
unfolding judge_logical
logical_unmarked op x y h g = ap (λ c. connected (settles op) c y.erased) h ∙ ap (connected (settles op) x.constancy) g

pub conditional_unmarked : (o x y : Typed) (k : Known) → IsUnmarked o → IsUnmarked x → IsUnmarked y → IsUnmarked (judge_conditional o x y k).typed
unfolding judge_conditional
conditional_unmarked o x y k h g f =
    ap (λ c. constancy_to k.model (chosen_type k x y) (chosen c x.erased y.erased)) h ∙ ap (λ c. constancy_to k.model (chosen_type k x y) (chosen o.constancy c y.erased)) g
    ∙ ap (λ c. constancy_to k.model (chosen_type k x y) (chosen o.constancy x.constancy c)) f

pub comma_unmarked : (xs : List Typed) → IsUnmarked (judge_comma xs).typed
unfolding judge_comma
comma_unmarked xs = refl
