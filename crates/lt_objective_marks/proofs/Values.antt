-- What is read where the typing of an expression goes on is a value; that of an operator is an integer.
use Rattle.std.proofs.Common.{◌≡◌, refl, sym, ap, ◌∙◌, subst, ℕ, ◌+◌, List, Bool, true, false, ◌&&◌, ◌||◌, if◌then◌else◌}
use Rattle.std.proofs.lemmas.Bool.{false≢true}
use Rattle.std.specs.Prelude.{length, option_and_then}
use Rattle.lt_model.specs.declared.scalar.Scalar.{Scalar}
use Rattle.lt_model.specs.declared.scalar.Scalar.TheVariants as S
use Rattle.lt_model.specs.declared.operator.Op.{Op}
use Rattle.lt_model.specs.declared.operator.Op.TheVariants as O
use Rattle.lt_tree.specs.declared.expression.LogicalOp.{LogicalOp}
use Rattle.lt_tree.specs.declared.expression.UnaryOp.{UnaryOp}
use Rattle.lt_tree.specs.declared.expression.UnaryOp.TheVariants as unary
use Rattle.lt_tree.specs.Tree as c
use Rattle.lt_tree.specs.Typing.Types.{Num, target_of, is_integer}
use Rattle.lt_tree.specs.Typing.Constants.{constant_of}
use Rattle.lt_tree.specs.Typing.TypedTree as e
use Rattle.lt_tree.specs.Typing.TypedTree.{before, after}
use Rattle.lt_tree.specs.Typing.Entities.{Known, meaning_of}
use Rattle.lt_tree.specs.Typing.Steps.{Goes, marked_again}
use Rattle.lt_tree.specs.Typing.Operands.{are_integers, is_relation, is_equality}
use Rattle.lt_tree.specs.Typing.Expressions.{a_value, Typed, Use, as_value, as_truth, as_place, as_callee, own_type, placed, value_in, is_read, used}
use Rattle.lt_tree.specs.Typing.Operations.{judge_plus, judge_minus, judge_complement, judge_not, judge_address_of, judge_size, judge_member, judge_arrow, judge_index, judge_call, judge_cast, member_in, target_in, text_type, pointer_among, element_size, side_of, constant_address}
use Rattle.lt_tree.specs.Typing.BinaryOperations.{on_integers, on_pointers, compared, result_type, operation_type, judge_binary, judge_logical, judge_conditional, judge_comma}
use Rattle.lt_tree.specs.Typing.MarkRules.{judge_decide, inside_mark, inside_after, judge_after, judge_marked}
use Rattle.lt_tree.specs.Typing.Specifying.{elsewhere}
use Rattle.lt_tree.specs.Typing.Declarators.{type_name_faults, setting_in_sizeof}
use Rattle.lt_tree.specs.Typing.NodeEnds.{text_at, judge_unary, operand_of}
use Rattle.lt_tree.specs.Typing.ExpressionTyping.{expression, expressions, marks, specifiers, declarator}
use Rattle.lt_objectives.specs.Mutants.{is_one_of, relations}
use Rattle.lt_objective_marks.proofs.Made.{EachIs, bound, ends, ends_so, one_found, is_made_plainly, is_valued, IsValue, value_of, place_of, of_name, of_constant, of_part, of_dereference, of_stepped, of_binary, of_assignment, of_call}

-- ---- values

abbrev pub is_named : c.Expression → Bool
is_named (c.Name name) = true
is_named it = false

module _ (role : Use) (valued : is_read role ≡ true) where
  of_unary : (op : UnaryOp) (operand : c.Expression) (x : Typed) (k : Known) → IsValue (is_made_plainly (c.Unary op operand)) (used role (judge_unary op x k).typed)
  unfolding judge_plus judge_minus judge_complement judge_not judge_address_of
  of_unary unary.Plus operand x k = value_of false role _ _ refl (λ p. absurd cc)
  of_unary unary.Minus operand x k = value_of true role _ _ refl (λ p. refl)
  of_unary unary.Complement operand x k = value_of true role _ _ refl (λ p. refl)
  of_unary unary.Not operand x k = value_of true role _ _ refl (λ p. refl)
  of_unary unary.AddressOf operand x k = value_of true role _ _ refl (λ p. refl)
  of_unary unary.Dereference operand x k = of_dereference true role valued x k

  of_text : (k : Known) (bytes : List ℕ) (n : ℕ) → IsValue true (used role (text_at k bytes n).typed)
  unfolding text_at
  of_text k bytes n = place_of true role (text_at k bytes n).typed (e.Object (text_type bytes) n) valued refl

  of_index : (x y : Typed) (k : Known) → IsValue true (used role (judge_index x y k).typed)
  unfolding judge_index
  of_index x y k = place_of true role (judge_index x y k).typed (e.Element (target_in (pointer_among x y)) (element_size k x y) (side_of x) (value_in x) (value_in y)) valued refl

  of_arrow : (x : Typed) (name : List ℕ) (k : Known) → IsValue true (used role (judge_arrow x name k).typed)
  unfolding judge_arrow
  of_arrow x name k = of_part true role valued (placed (e.Pointed (target_in x) (value_in x)) (constant_address x.constancy)) (option_and_then (λ t. member_in k t name) (target_of (own_type x)))

  made : (it : c.Expression) (k : Known) → (is_named it ≡ true → role ≡ as_callee → ⊥) → EachIs (IsValue (is_made_plainly it)) (expression it role k)
  unfolding judge_member judge_size judge_cast judge_logical judge_conditional judge_comma judge_marked judge_decide judge_after judge_call
  made (c.Name name) k other = ends _ role _ _ (λ none. of_name true role valued (other refl) name (meaning_of name k) (record k { next = k.next + 1 }) none)
  made (c.Constant text) k other = ends _ role _ _ (λ none. of_constant true role valued (constant_of k.model text))
  made (c.Text bytes) k other = ends _ role _ _ (λ none. of_text (record k { next = k.next + 1 }) bytes (length k.objects))
  made (c.Index base index) k other = bound (expression base as_value (record k { next = k.next + 1 })) (λ x j. bound (expression index as_value j) (λ y i. ends _ role _ _ (λ none. of_index x y i)))
  made (c.Call callee arguments) k other = bound (expression callee as_callee (record k { next = k.next + 1 })) (λ f j. bound (expressions arguments j) (λ xs i. ends _ role _ _ (λ none. of_call false role valued f.form xs i refl)))
  made (c.Member base name) k other = bound (expression base as_place (record k { next = k.next + 1 })) (λ x j. ends _ role _ _ (λ none. of_part true role valued x (member_in j (own_type x) name)))
  made (c.Arrow pointer name) k other = bound (expression pointer as_value (record k { next = k.next + 1 })) (λ x j. ends _ role _ _ (λ none. of_arrow x name j))
  made (c.PostInc target) k other = bound (expression target as_place (record k { next = k.next + 1 })) (λ x j. ends _ role _ _ (λ none. of_stepped true role valued before O.Add x j))
  made (c.PostDec target) k other = bound (expression target as_place (record k { next = k.next + 1 })) (λ x j. ends _ role _ _ (λ none. of_stepped true role valued before O.Sub x j))
  made (c.PreInc target) k other = bound (expression target as_place (record k { next = k.next + 1 })) (λ x j. ends _ role _ _ (λ none. of_stepped true role valued after O.Add x j))
  made (c.PreDec target) k other = bound (expression target as_place (record k { next = k.next + 1 })) (λ x j. ends _ role _ _ (λ none. of_stepped true role valued after O.Sub x j))
  made (c.Unary op operand) k other = bound (expression operand (operand_of op) (record k { next = k.next + 1 })) (λ x j. ends _ role _ _ (λ none. of_unary op operand x j))
  made (c.SizeofExpr operand) k other =
      bound (marked_again k.is_unmarked (expression operand as_place (record k { next = k.next + 1; is_unmarked = true }))) (λ x j. ends _ role _ _ (λ none. value_of true role _ _ refl (λ p. refl)))
  made (c.SizeofType s d) k other = bound (specifiers s (setting_in_sizeof d) (record k { next = k.next + 1 })) (λ it j. bound (declarator d it false (λ name known b. type_name_faults b) j) (λ t i. ends _ role _ _ (λ none. value_of true role _ _ refl (λ p. refl))))
  made (c.Cast s d operand) k other =
      bound (specifiers s elsewhere (record k { next = k.next + 1 })) (λ it j. bound (declarator d it false (λ name known b. type_name_faults b) j) (λ t i. bound (expression operand as_value i) (λ x l. ends _ role _ _ (λ none. value_of false role _ _ refl (λ p. absurd cc)))))
  made (c.Binary op left right) k other = bound (expression left as_value (record k { next = k.next + 1 })) (λ x j. bound (expression right as_value j) (λ y i. ends _ role _ _ (λ none. of_binary true role valued op x y i)))
  made (c.Logical op left right) k other = bound (expression left as_truth (record k { next = k.next + 1 })) (λ x j. bound (expression right as_truth j) (λ y i. ends _ role _ _ (λ none. value_of true role _ _ refl (λ p. refl))))
  made (c.Conditional test left right) k other =
      bound (expression test as_truth (record k { next = k.next + 1 })) (λ p j. bound (expression left as_value j) (λ x i. bound (expression right as_value i) (λ y l. ends _ role _ _ (λ none. value_of true role _ _ refl (λ p. refl)))))
  made (c.Assign op target value) k other = bound (expression target as_place (record k { next = k.next + 1 })) (λ x j. bound (expression value as_value j) (λ y i. ends _ role _ _ (λ none. of_assignment true role valued op x y i)))
  made (c.Comma list) k other = bound (expressions list (record k { next = k.next + 1 })) (λ xs j. ends _ role _ _ (λ none. value_of true role _ _ refl (λ p. refl)))
  made (c.Marked ms value) k other = bound (marks ms (record k { next = k.next + 1 })) (λ typed j. bound (expression value (inside_mark role) j) (λ x i. ends _ role _ _ (λ none. value_of true role _ _ refl (λ p. refl))))
  made (c.Decide operand when_true when_false tag) k other = bound (expression operand (inside_mark role) (record k { next = k.next + 1 })) (λ x j. ends_so _ (ends _ role _ _ (λ none. value_of true role _ _ refl (λ p. refl))))
  made (c.After operand id tag) k other = bound (expression operand (inside_after role) (record k { next = k.next + 1 })) (λ x j. ends_so _ (ends _ role _ _ (λ none. value_of true role _ _ refl (λ p. refl))))

valued_is_read : (role : Use) → is_valued role ≡ true → (is_read role ≡ true) × (role ≡ as_callee → ⊥)
valued_is_read as_value is = (refl, λ e. absurd cc)
valued_is_read as_truth is = (refl, λ e. absurd cc)
valued_is_read as_place is = absurd cc
valued_is_read as_callee is = absurd cc

-- what is found is a value
pub value_found : (role : Use) → is_valued role ≡ true → (it : c.Expression) (known behind : Known) (x : Typed) → expression it role known ≡ Goes x behind → IsValue (is_made_plainly it) x
value_found role valued it known behind x is = let read = valued_is_read role valued in one_found x behind is (made role read.0 it known (λ n. read.1))

-- so it is where it is called, unless it is a name
pub value_called : (it : c.Expression) (known behind : Known) (x : Typed) → is_named it ≡ false → expression it as_callee known ≡ Goes x behind → IsValue (is_made_plainly it) x
value_called it known behind x other is = one_found x behind is (made as_callee refl it known (λ n. absurd (false≢true (sym other ∙ n))))

-- ---- integers

abbrev IsInteger : Typed → Type 0
IsInteger x = is_integer (own_type x) ≡ true

abbrev is_whole : Use → Bool
is_whole as_place = false
is_whole role = true

-- an operator on integers, used as it is read
pub used_value : (role : Use) (x : Typed) (v : e.Value) → x.form ≡ a_value v → own_type (used role x) ≡ own_type x
used_value as_place x v is = refl
used_value as_value x v is = rw is refl
used_value as_truth x v is = rw is refl
used_value as_callee x v is = rw is refl

result_is_integer : (op : Op) (s : Scalar) → is_integer (result_type op s) ≡ true
result_is_integer op s = by (is_relation op || is_equality op)
  where
    by : (b : Bool) → is_integer (if b then Num S.Int else Num s) ≡ true
    by true = refl
    by false = refl

on_integers_is : (role : Use) (op : Op) (x y : Typed) (k : Known) → IsInteger (used role (on_integers k op x y))
on_integers_is role op x y k = ap is_integer (used_value role (on_integers k op x y) _ refl) ∙ result_is_integer op (operation_type k op x y)

pub both_are : (a b : Bool) → a ≡ true → b ≡ true → (a && b) ≡ true
both_are a b first second = rw (first, second) refl

-- with two integers
pub of_integers : (role : Use) (op : Op) (x y : Typed) (k : Known) → is_integer (own_type x) ≡ true → is_integer (own_type y) ≡ true → IsInteger (used role (judge_binary op x y k).typed)
unfolding judge_binary
of_integers role op x y k first second =
    subst (λ (b : Bool). IsInteger (used role (if b then on_integers k op x y else on_pointers k op x y))) (sym (both_are (is_integer (own_type x)) (is_integer (own_type y)) first second)) (on_integers_is role op x y k)

-- a relation
of_relation : (role : Use) (op : Op) (x y : Typed) (k : Known) → is_one_of op relations ≡ true → IsInteger (used role (judge_binary op x y k).typed)
unfolding judge_binary
of_relation role op x y k related = by (are_integers (own_type x) (own_type y))
  where
    pointers : (op : Op) → is_one_of op relations ≡ true → IsInteger (used role (on_pointers k op x y))
    pointers O.Sub is = absurd cc
    pointers O.Add is = absurd cc
    pointers op is = ap is_integer (used_value role (compared op x y) _ refl)

    by : (b : Bool) → IsInteger (used role (if b then on_integers k op x y else on_pointers k op x y))
    by true = on_integers_is role op x y k
    by false = pointers op related

pub relation_found : (role : Use) (op : Op) (left right : c.Expression) (known behind : Known) (x : Typed) → is_one_of op relations ≡ true → expression (c.Binary op left right) role known ≡ Goes x behind
    → is_integer (own_type x) ≡ true
relation_found role op left right known behind x related is =
    one_found {P = IsInteger} x behind is (bound (expression left as_value (record known { next = known.next + 1 })) (λ x j. bound (expression right as_value j) (λ y i. ends _ role _ _ (λ none. of_relation role op x y i related))))

pub connector_found : (role : Use) (op : LogicalOp) (left right : c.Expression) (known behind : Known) (x : Typed) → expression (c.Logical op left right) role known ≡ Goes x behind → is_integer (own_type x) ≡ true
unfolding judge_logical
connector_found role op left right known behind x is =
    one_found {P = IsInteger} x behind is
    (bound (expression left as_truth (record known { next = known.next + 1 })) (λ x j. bound (expression right as_truth j) (λ y i. ends _ role _ _ (λ none. ap is_integer (used_value role (judge_logical op x y).typed _ refl)))))
