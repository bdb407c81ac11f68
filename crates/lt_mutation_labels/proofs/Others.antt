-- Mutants with other operators of the same kind are told apart from their expressions.
use Rattle.std.proofs.Common.{◌≡◌, List, [], ◌∷◌, Bool, true, false, refl, sym, ap, ◌∙◌, subst}
use Rattle.std.proofs.lemmas.Bool.{false≢true}
use Rattle.std.specs.Prelude.{◌&&◌, ◌||◌, not, if◌then◌else◌, map, filter, unwrap_or}
use Rattle.std.specs.List.{AllByRecursion}
use Rattle.lt_model.specs.declared.operator.Op.{Op}
use Rattle.lt_model.specs.declared.operator.Op.TheVariants as O
use Rattle.lt_model.specs.declared.scalar.Scalar.TheVariants as S
use Rattle.lt_model.specs.Conversions.{usual_of}
use Rattle.lt_tree.specs.declared.expression.LogicalOp.{LogicalOp}
use Rattle.lt_tree.specs.Tree as c
use Rattle.lt_tree.specs.Purity.{is_pure}
use Rattle.lt_tree.specs.Typing.Types.{CType, Num, is_integer}
use Rattle.lt_tree.specs.Typing.TypedTree as e
use Rattle.lt_tree.specs.Typing.Entities.{Known}
use Rattle.lt_tree.specs.Typing.Steps.{Goes, goes_on}
use Rattle.lt_tree.specs.Typing.Operands.{are_integers, is_relation, is_equality}
use Rattle.lt_tree.specs.Typing.Expressions.{Typed, as_value, as_truth, own_type, value_in, scalar_in, converted_to, used, finish}
use Rattle.lt_tree.specs.Typing.BinaryOperations.{judge_binary, judge_logical, on_integers, on_pointers, operation_type, right_type, beside}
use Rattle.lt_tree.specs.Typing.ExpressionTyping.{expression}
use Rattle.lt_mark_laws.specs.Laws.{DifferencesAreExact, LabelsNoteTheirPredicates}
use Rattle.lt_mark_laws.specs.Mutants.{entered, AreToldApart}
use Rattle.lt_objectives.specs.Mutants.{same_op, is_one_of, arithmetic, relations, pointer_relations, with_others, other_connector, connector_mutants, arithmetic_mutants, relational_mutants}
use Rattle.lt_mutation_labels.specs.Laws.{IsLater, StaysInteger, OperandsStayIntegers}
use Rattle.lt_mutation_labels.proofs.Steps.{part, ended}
use Rattle.lt_mutation_labels.proofs.Pure.{both_true}
use Rattle.lt_mutation_labels.proofs.Later.{later_itself, later_entered, later_ended, later_model, typed_later}
use Rattle.lt_mutation_labels.proofs.Numbers.{scalar_integer, arithmetic_has, relation_has, compared_has, connected_has}
use Rattle.lt_mutation_labels.proofs.Inequalities.{IsOfType, of_one_type, told_apart}

-- ---- what operators make

abbrev pub IsRelation : Op → Type 0
IsRelation op = is_relation op || is_equality op ≡ true

-- of relations on pointers
compared_typed : (op : Op) → IsRelation op → (k : Known) (x y : Typed) → IsOfType S.Int (used as_value (on_pointers k op x y))
compared_typed O.Add h k x y = absurd (false≢true h)
compared_typed O.Sub h k x y = absurd (false≢true h)
compared_typed O.Mul h k x y = absurd (false≢true h)
compared_typed O.Div h k x y = absurd (false≢true h)
compared_typed O.Rem h k x y = absurd (false≢true h)
compared_typed O.Shl h k x y = absurd (false≢true h)
compared_typed O.Shr h k x y = absurd (false≢true h)
compared_typed O.And h k x y = absurd (false≢true h)
compared_typed O.Or h k x y = absurd (false≢true h)
compared_typed O.Xor h k x y = absurd (false≢true h)
compared_typed O.Lt h k x y = record { value = e.Compare (Num S.Int) O.Lt (beside x y) (beside y x); form = refl; type = refl; numbers = λ here at. compared_has here S.Int (Num S.Int) O.Lt (beside x y) (beside y x) at }
compared_typed O.Le h k x y = record { value = e.Compare (Num S.Int) O.Le (beside x y) (beside y x); form = refl; type = refl; numbers = λ here at. compared_has here S.Int (Num S.Int) O.Le (beside x y) (beside y x) at }
compared_typed O.Gt h k x y = record { value = e.Compare (Num S.Int) O.Gt (beside x y) (beside y x); form = refl; type = refl; numbers = λ here at. compared_has here S.Int (Num S.Int) O.Gt (beside x y) (beside y x) at }
compared_typed O.Ge h k x y = record { value = e.Compare (Num S.Int) O.Ge (beside x y) (beside y x); form = refl; type = refl; numbers = λ here at. compared_has here S.Int (Num S.Int) O.Ge (beside x y) (beside y x) at }
compared_typed O.Eq h k x y = record { value = e.Compare (Num S.Int) O.Eq (beside x y) (beside y x); form = refl; type = refl; numbers = λ here at. compared_has here S.Int (Num S.Int) O.Eq (beside x y) (beside y x) at }
compared_typed O.Ne h k x y = record { value = e.Compare (Num S.Int) O.Ne (beside x y) (beside y x); form = refl; type = refl; numbers = λ here at. compared_has here S.Int (Num S.Int) O.Ne (beside x y) (beside y x) at }

relation_typed : (op : Op) → IsRelation op → (k : Known) (x y : Typed) → IsOfType S.Int (used as_value (judge_binary op x y k).typed)
unfolding judge_binary
relation_typed op h k x y = by (are_integers (own_type x) (own_type y))
  where
    by : (b : Bool) → IsOfType S.Int (used as_value (if b then on_integers k op x y else on_pointers k op x y))
    by true =
        let s = operation_type k op x y in
        let v = converted_to (Num s) (value_in x) in
        let w = converted_to (Num (right_type k op x y)) (value_in y) in
        record {
          value = e.Arithmetic (if is_relation op || is_equality op then Num S.Int else Num s) op s v w;
          form = refl;
          type = ap (λ b. if b then Num S.Int else Num s) h;
          numbers = λ here at. relation_has here S.Int (if is_relation op || is_equality op then Num S.Int else Num s) op s v w at h;
        }
    by false = compared_typed op h k x y

connected_typed : (op : LogicalOp) (x y : Typed) → IsOfType S.Int (used as_value (judge_logical op x y).typed)
unfolding judge_logical
connected_typed op x y = record { value = e.Logical (Num S.Int) op (value_in x) (value_in y); form = refl; type = refl; numbers = λ here at. connected_has here S.Int (Num S.Int) op (value_in x) (value_in y) at }

-- of arithmetic on integers
abbrev pub IsArithmetic : Op → Type 0
IsArithmetic op = is_one_of op arithmetic ≡ true

pub on_integers_typed : (op : Op) → IsArithmetic op → (k : Known) (x y : Typed) → IsOfType (usual_of k.model (scalar_in x) (scalar_in y)) (used as_value (on_integers k op x y))
on_integers_typed O.Add h k x y =
    let s = usual_of k.model (scalar_in x) (scalar_in y) in
    record { value = e.Arithmetic (Num s) O.Add s (converted_to (Num s) (value_in x)) (converted_to (Num s) (value_in y)); form = refl; type = refl; numbers = λ here at. arithmetic_has here (Num s) O.Add s (converted_to (Num s) (value_in x)) (converted_to (Num s) (value_in y)) at }
on_integers_typed O.Sub h k x y =
    let s = usual_of k.model (scalar_in x) (scalar_in y) in
    record { value = e.Arithmetic (Num s) O.Sub s (converted_to (Num s) (value_in x)) (converted_to (Num s) (value_in y)); form = refl; type = refl; numbers = λ here at. arithmetic_has here (Num s) O.Sub s (converted_to (Num s) (value_in x)) (converted_to (Num s) (value_in y)) at }
on_integers_typed O.Mul h k x y =
    let s = usual_of k.model (scalar_in x) (scalar_in y) in
    record { value = e.Arithmetic (Num s) O.Mul s (converted_to (Num s) (value_in x)) (converted_to (Num s) (value_in y)); form = refl; type = refl; numbers = λ here at. arithmetic_has here (Num s) O.Mul s (converted_to (Num s) (value_in x)) (converted_to (Num s) (value_in y)) at }
on_integers_typed O.Div h k x y =
    let s = usual_of k.model (scalar_in x) (scalar_in y) in
    record { value = e.Arithmetic (Num s) O.Div s (converted_to (Num s) (value_in x)) (converted_to (Num s) (value_in y)); form = refl; type = refl; numbers = λ here at. arithmetic_has here (Num s) O.Div s (converted_to (Num s) (value_in x)) (converted_to (Num s) (value_in y)) at }
on_integers_typed O.Rem h k x y =
    let s = usual_of k.model (scalar_in x) (scalar_in y) in
    record { value = e.Arithmetic (Num s) O.Rem s (converted_to (Num s) (value_in x)) (converted_to (Num s) (value_in y)); form = refl; type = refl; numbers = λ here at. arithmetic_has here (Num s) O.Rem s (converted_to (Num s) (value_in x)) (converted_to (Num s) (value_in y)) at }
on_integers_typed O.Shl h k x y = absurd (false≢true h)
on_integers_typed O.Shr h k x y = absurd (false≢true h)
on_integers_typed O.And h k x y = absurd (false≢true h)
on_integers_typed O.Or h k x y = absurd (false≢true h)
on_integers_typed O.Xor h k x y = absurd (false≢true h)
on_integers_typed O.Lt h k x y = absurd (false≢true h)
on_integers_typed O.Le h k x y = absurd (false≢true h)
on_integers_typed O.Gt h k x y = absurd (false≢true h)
on_integers_typed O.Ge h k x y = absurd (false≢true h)
on_integers_typed O.Eq h k x y = absurd (false≢true h)
on_integers_typed O.Ne h k x y = absurd (false≢true h)

arithmetic_typed : (op : Op) → IsArithmetic op → (k : Known) (x y : Typed) → are_integers (own_type x) (own_type y) ≡ true → IsOfType (usual_of k.model (scalar_in x) (scalar_in y)) (used as_value (judge_binary op x y k).typed)
unfolding judge_binary
arithmetic_typed op h k x y i =
    subst (λ b. IsOfType (usual_of k.model (scalar_in x) (scalar_in y)) (used as_value (if b then on_integers k op x y else on_pointers k op x y))) (sym i) (on_integers_typed op h k x y)

-- ---- nodes

-- an operator on two operands that is typed, with these
pub record IsTypedBinary (op : Op) (left right : c.Expression) (k : Known) (z : Typed) (end : Known) : Type 0 where
  pub x : Typed
  pub y : Typed
  pub between : Known
  pub behind : Known
  pub left_typed : expression left as_value (entered k) ≡ Goes x between
  pub right_typed : expression right as_value between ≡ Goes y behind
  pub over : finish k.next as_value (judge_binary op x y behind) behind ≡ Goes z end
  pub value : used as_value (judge_binary op x y behind).typed ≡ z

pub binary_typed : (op : Op) (left right : c.Expression) (k : Known) {z : Typed} {end : Known} → expression (c.Binary op left right) as_value k ≡ Goes z end → IsTypedBinary op left right k z end
binary_typed op left right k h =
    let one = part (expression left as_value (entered k)) (λ x j. goes_on (expression right as_value j) (λ y j. finish k.next as_value (judge_binary op x y j) j)) h in
    let two = part (expression right as_value one.1) (λ y j. finish k.next as_value (judge_binary op one.0 y j) j) one.3 in
    record {
      x = one.0;
      y = two.0;
      between = one.1;
      behind = two.1;
      left_typed = one.2;
      right_typed = two.2;
      over = two.3;
      value = (ended k.next as_value (judge_binary op one.0 two.0 two.1) two.1 two.3).0;
    }

relation_node : (op : Op) → IsRelation op → (left right : c.Expression) (k : Known) {z : Typed} {end : Known} → expression (c.Binary op left right) as_value k ≡ Goes z end → IsOfType S.Int z
relation_node op h left right k g = let it = binary_typed op left right k g in subst (IsOfType S.Int) it.value (relation_typed op h it.behind it.x it.y)

connected_node : (op : LogicalOp) (left right : c.Expression) (k : Known) {z : Typed} {end : Known} → expression (c.Logical op left right) as_value k ≡ Goes z end → IsOfType S.Int z
connected_node op left right k h =
    let one = part (expression left as_truth (entered k)) (λ x j. goes_on (expression right as_truth j) (λ y j. finish k.next as_value (judge_logical op x y) j)) h in
    let two = part (expression right as_truth one.1) (λ y j. finish k.next as_value (judge_logical op one.0 y) j) one.3 in
    subst (IsOfType S.Int) (ended k.next as_value (judge_logical op one.0 two.0) two.1 two.3).0 (connected_typed op one.0 two.0)

-- ---- lists of operators

filtered : (Q : Op → Type 0) (f : Op → Bool) (ops : List Op) → AllByRecursion Q ops → AllByRecursion Q (filter f ops)
filtered Q f [] h = tt
filtered Q f (op ∷ ops) h =
    let rest = filtered Q f ops h.1 in elim (f op) as (λ b. AllByRecursion Q (if b then op ∷ filter f ops else filter f ops)) [ true ↦ (h.0, rest) | false ↦ rest ]

mapped : (Q : Op → Type 0) (P : c.Expression → Type 0) (f : Op → c.Expression) → ((op : Op) → Q op → P (f op)) → (ops : List Op) → AllByRecursion Q ops → AllByRecursion P (map f ops)
mapped Q P f k [] h = tt
mapped Q P f k (op ∷ ops) h = (k op h.0, mapped Q P f k ops h.1)

-- the other operators of these, where each has a property
others : (Q : Op → Type 0) (P : c.Expression → Type 0) (ops : List Op) (op : Op) (left right : c.Expression) → AllByRecursion Q ops
    → (is_one_of op ops ≡ true → (other : Op) → Q other → P (c.Binary other left right)) → AllByRecursion P (with_others ops op left right)
others Q P ops op left right h k = by (is_one_of op ops) (λ e. e)
  where
    by : (b : Bool) → (b ≡ true → is_one_of op ops ≡ true)
        → AllByRecursion P (if b then map (λ other. c.Binary other left right) (filter (λ other. not (same_op op other)) ops) else [])
    by true e = mapped Q P (λ other. c.Binary other left right) (k (e refl)) (filter (λ other. not (same_op op other)) ops) (filtered Q (λ other. not (same_op op other)) ops h)
    by false e = tt

relation_among : (op : Op) → is_one_of op relations ≡ true → IsRelation op
relation_among O.Add h = h
relation_among _ h = h

equality_among : (op : Op) → is_one_of op pointer_relations ≡ true → IsRelation op
equality_among O.Add h = h
equality_among O.Lt h = absurd (false≢true h)
equality_among O.Le h = absurd (false≢true h)
equality_among O.Gt h = absurd (false≢true h)
equality_among O.Ge h = absurd (false≢true h)
equality_among _ h = h

-- an operator on operands that stay integers, wherever it is typed later
arithmetic_node : (op : Op) → IsArithmetic op → (known : Known) {left right : c.Expression} (lefts : StaysInteger known left) (rights : StaysInteger known right) {k : Known} {z : Typed} {end : Known} → IsLater known k
    → expression (c.Binary op left right) as_value k ≡ Goes z end → IsOfType (usual_of known.model lefts.scalar rights.scalar) z × IsLater known end
arithmetic_node op h known {left} {right} lefts rights {k} {z} later d =
    let it = binary_typed op left right k d in
    let first = typed_later known lefts (later_entered known later) it.left_typed in
    let second = typed_later known rights first.0 it.right_typed in
    let integers = both_true (is_integer (own_type it.x)) (is_integer (own_type it.y)) (scalar_integer (own_type it.x) lefts.scalar first.1) (scalar_integer (own_type it.y) rights.scalar second.1) in (
      subst (λ s. IsOfType s z) (ap (λ model. usual_of model (scalar_in it.x) (scalar_in it.y)) (later_model known second.0) ∙ ap (λ r. usual_of known.model (unwrap_or r S.Int) (scalar_in it.y)) first.1 ∙ ap (λ r. usual_of known.model lefts.scalar (unwrap_or r S.Int)) second.1)
          (subst (IsOfType (usual_of it.behind.model (scalar_in it.x) (scalar_in it.y))) it.value (arithmetic_typed op h it.behind it.x it.y integers)),
      later_ended known k.next as_value (judge_binary op it.x it.y it.behind) second.0 it.over,
    )

module _ (exact : DifferencesAreExact) (notes : LabelsNoteTheirPredicates) (known : Known) where
  -- ---- relations and connectors

  relations_apart : (op other : Op) (left right : c.Expression) → is_pure left && is_pure right ≡ true → IsRelation op → IsRelation other → AreToldApart known (c.Binary op left right) (c.Binary other left right)
  relations_apart op other left right p h g = λ z behind d.
      told_apart exact notes known (c.Binary op left right) (c.Binary other left right) z behind p p d
      (λ x y k j a b. of_one_type known.model S.Int x y (relation_node op h left right (entered known) a) (relation_node other g left right k b))

  relations_by : (b : Bool) (op : Op) (left right : c.Expression) → is_pure left && is_pure right ≡ true
      → AllByRecursion (AreToldApart known (c.Binary op left right)) (with_others (if b then relations else pointer_relations) op left right)
  relations_by true op left right p =
      others IsRelation (AreToldApart known (c.Binary op left right)) relations op left right (refl, (refl, (refl, (refl, (refl, (refl, tt)))))) (λ e other h. relations_apart op other left right p (relation_among op e) h)
  relations_by false op left right p =
      others IsRelation (AreToldApart known (c.Binary op left right)) pointer_relations op left right (refl, (refl, tt)) (λ e other h. relations_apart op other left right p (equality_among op e) h)

  pub of_relations : (t u : CType) (it : c.Expression) → is_pure it ≡ true → AllByRecursion (AreToldApart known it) (relational_mutants t u it)
  of_relations t u (c.Binary op left right) p = relations_by (is_integer t && is_integer u) op left right p
  of_relations t u _ p = tt

  pub of_connectors : (it : c.Expression) → is_pure it ≡ true → AllByRecursion (AreToldApart known it) (connector_mutants it)
  of_connectors (c.Logical op left right) p = (
    λ z behind d.
        told_apart exact notes known (c.Logical op left right) (c.Logical (other_connector op) left right) z behind p p d
        (λ x y k j a b. of_one_type known.model S.Int x y (connected_node op left right (entered known) a) (connected_node (other_connector op) left right k b)),
    tt,
  )
  of_connectors _ p = tt

  -- ---- arithmetic

  arithmetic_apart : (op other : Op) (left right : c.Expression) → is_pure left && is_pure right ≡ true → StaysInteger known left × StaysInteger known right → IsArithmetic op → IsArithmetic other
      → AreToldApart known (c.Binary op left right) (c.Binary other left right)
  arithmetic_apart op other left right p them h g = λ z behind d.
      told_apart exact notes known (c.Binary op left right) (c.Binary other left right) z behind p p d (λ x y k j a b.
      let first = arithmetic_node op h known them.0 them.1 (later_entered known (later_itself known)) a in
      of_one_type known.model (usual_of known.model them.0.scalar them.1.scalar) x y first.0 (arithmetic_node other g known them.0 them.1 first.1 b).0)

  arithmetic_by : (b : Bool) (op : Op) (left right : c.Expression) → is_pure left && is_pure right ≡ true → (b ≡ true → StaysInteger known left × StaysInteger known right)
      → AllByRecursion (AreToldApart known (c.Binary op left right)) (if b then with_others arithmetic op left right else [])
  arithmetic_by true op left right p them =
      others IsArithmetic (AreToldApart known (c.Binary op left right)) arithmetic op left right (refl, (refl, (refl, (refl, (refl, tt))))) (λ e other h. arithmetic_apart op other left right p (them refl) e h)
  arithmetic_by false op left right p them = tt

  pub of_arithmetic : (t u : CType) (it : c.Expression) → is_pure it ≡ true → (is_integer t && is_integer u ≡ true → OperandsStayIntegers known it) → AllByRecursion (AreToldApart known it) (arithmetic_mutants t u it)
  of_arithmetic t u (c.Binary op left right) p them = arithmetic_by (is_integer t && is_integer u) op left right p them
  of_arithmetic t u _ p them = tt
