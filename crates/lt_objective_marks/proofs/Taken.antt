-- What the operators around operands ask of them: tests are scalars.
use Rattle.std.proofs.Common.{◌≡◌, refl, sym, ap, ◌∙◌, ℕ, List, [], ◌∷◌, ◌++◌, Bool, true, false, not, ◌&&◌}
use Rattle.std.specs.Prelude.{◌==◌}
use Rattle.lt_tree.specs.declared.expression.LogicalOp.{LogicalOp}
use Rattle.lt_tree.specs.declared.expression.UnaryOp.TheVariants as unary
use Rattle.lt_tree.specs.Tree as c
use Rattle.lt_tree.specs.Typing.Types.{CType, Void, Num, Pointer, Array, Struct, Function, Floating, Qualified, is_scalar, is_function}
use Rattle.lt_tree.specs.Typing.Rules.{unless, not_scalar, bad_mark, bad_choice, bad_call}
use Rattle.lt_tree.specs.Typing.TypedTree.{Marks}
use Rattle.lt_tree.specs.Typing.Entities.{Known}
use Rattle.lt_tree.specs.Typing.Steps.{Outcome, Goes, Breaks, goes_on}
use Rattle.lt_tree.specs.Typing.Operands.{can_be_chosen_from}
use Rattle.lt_tree.specs.Typing.Expressions.{Form, a_value, a_place, a_designator, Typed, Judged, judgement, nothing, Use, as_value, as_truth, as_callee, own_type, finish}
use Rattle.lt_tree.specs.Typing.Operations.{judge_not, judge_call, judge_function}
use Rattle.lt_tree.specs.Typing.BinaryOperations.{judge_logical, judge_conditional}
use Rattle.lt_tree.specs.Typing.MarkRules.{number_of_id, is_good_id, is_tag, is_truth, is_good_decision, label_of, inside_mark, judge_decide, judge_after, judge_marked}
use Rattle.lt_tree.specs.Typing.ExpressionTyping.{expression, expressions, marks}
use Rattle.lt_typed_nodes.specs.Coming.{entered}
use Rattle.lt_objective_marks.proofs.Ends.{ended, through, part_goes, unless_true, left_empty, and_left, and_right}
use Rattle.lt_objective_marks.proofs.Made.{read_value}
use Rattle.lt_objective_marks.proofs.Values.{used_value, value_found}

pub both_scalars : (op : LogicalOp) (left right : c.Expression) (role : Use) (known k j behind : Known) (x y z : Typed) → expression left as_truth (entered known) ≡ Goes x k → expression right as_truth k ≡ Goes y j
    → expression (c.Logical op left right) role known ≡ Goes z behind → (is_scalar (own_type x) ≡ true) × (is_scalar (own_type y) ≡ true)
unfolding judge_logical
both_scalars op left right role known k j behind x y z first second whole =
    let at = ended j known.next role (judge_logical op x y) z behind
    (through (λ (y : Typed) (j : Known). finish known.next role (judge_logical op x y) j) second
    (through (λ (x : Typed) (k : Known). goes_on (expression right as_truth k) (λ (y : Typed) (j : Known). finish known.next role (judge_logical op x y) j)) first whole)) in
    let both = unless_true (is_scalar (own_type x) && is_scalar (own_type y)) not_scalar at.rules in
    (and_left (is_scalar (own_type x)) (is_scalar (own_type y)) both, and_right (is_scalar (own_type x)) (is_scalar (own_type y)) both)

pub negated_scalar : (operand : c.Expression) (role : Use) (known k behind : Known) (x z : Typed) → expression operand as_truth (entered known) ≡ Goes x k → expression (c.Unary unary.Not operand) role known ≡ Goes z behind
    → is_scalar (own_type x) ≡ true
unfolding judge_not
negated_scalar operand role known k behind x z first whole =
    let at = ended k known.next role (judge_not x) z behind (through (λ (x : Typed) (k : Known). finish known.next role (judge_not x) k) first whole) in
    unless_true (is_scalar (own_type x)) not_scalar at.rules

pub tested_scalar : (test left right : c.Expression) (role : Use) (known k j i behind : Known) (p x y z : Typed) → expression test as_truth (entered known) ≡ Goes p k → expression left as_value k ≡ Goes x j
    → expression right as_value j ≡ Goes y i → expression (c.Conditional test left right) role known ≡ Goes z behind → is_scalar (own_type p) ≡ true
unfolding judge_conditional
tested_scalar test left right role known k j i behind p x y z first second third whole =
    let at = ended i known.next role (judge_conditional p x y i) z behind
    (through (λ (y : Typed) (i : Known). finish known.next role (judge_conditional p x y i) i) third
    (through (λ (x : Typed) (j : Known). goes_on (expression right as_value j) (λ (y : Typed) (i : Known). finish known.next role (judge_conditional p x y i) i)) second
    (through (λ (p : Typed) (k : Known). goes_on (expression left as_value k) (λ (x : Typed) (j : Known). goes_on (expression right as_value j) (λ (y : Typed) (i : Known). finish known.next role (judge_conditional p x y i) i))) first whole))) in
    unless_true (is_scalar (own_type p)) not_scalar
    (left_empty (unless (is_scalar (own_type p)) not_scalar) (unless (can_be_chosen_from (own_type x) x.constancy (own_type y) y.constancy) bad_choice) at.rules)

-- what stands behind marks has the type of the whole
pub behind_marks_type : (ms : c.Marks) (value : c.Expression) (role : Use) (known k j behind : Known) (typed : Marks) (x z : Typed) → marks ms (entered known) ≡ Goes typed k → expression value (inside_mark role) k ≡ Goes x j
    → expression (c.Marked ms value) role known ≡ Goes z behind → (own_type z ≡ own_type x) × (behind.next ≡ j.next)
unfolding judge_marked
behind_marks_type ms value role known k j behind typed x z first second whole =
    let at = ended j known.next role (judge_marked typed x) z behind
    (through (λ (x : Typed) (j : Known). finish known.next role (judge_marked typed x) j) second
    (through (λ (typed : Marks) (k : Known). goes_on (expression value (inside_mark role) k) (λ (x : Typed) (j : Known). finish known.next role (judge_marked typed x) j)) first whole)) in
    (ap own_type at.found ∙ used_value role (judge_marked typed x).typed _ refl, ap (λ (it : Known). it.next) at.next)

pub labels_behind : {z : Typed} {behind : Known} (o : Outcome Typed) (f : Known → Known) → goes_on o (λ x k. Goes x (f k)) ≡ Goes z behind → (k : Known) × (o ≡ Goes z k)
labels_behind {z} (Goes x k) f is = let same : x ≡ z = cc in (k, ap (λ (it : Typed). Goes it k) same)
labels_behind (Breaks rule node) f is = absurd cc

pub after_type : (value : c.Expression) (id tag : List ℕ) (known k behind : Known) (x z : Typed) → expression value as_truth (entered known) ≡ Goes x k → expression (c.After value id tag) as_truth known ≡ Goes z behind
    → own_type x ≡ own_type z
unfolding judge_after
after_type value id tag known k behind x z first whole =
    let rest = through (λ (x : Typed) (k : Known). goes_on (finish known.next as_truth (judge_after as_truth x id tag k) k) (λ (result : Typed) (j : Known). Goes result (record j { labels = j.labels ++ label_of id tag [] ∷ [] }))) first whole in
    let it = labels_behind (finish known.next as_truth (judge_after as_truth x id tag k) k) (λ (j : Known). record j { labels = j.labels ++ label_of id tag [] ∷ [] }) rest in
    let at = ended k known.next as_truth (judge_after as_truth x id tag k) z it.0 it.1 in
    let value_there = value_found as_truth refl value (entered known) k x first in
    sym (ap own_type at.found ∙ used_value as_truth (judge_after as_truth x id tag k).typed _ refl ∙ ap own_type (read_value x value_there.0 value_there.1))

second_of : (a b c d e f : Bool) → (a && b && c && d && e && f) ≡ true → b ≡ true
second_of a true c d e f is = refl
second_of true false c d e f is = absurd cc
second_of false false c d e f is = absurd cc

first_of : (a b c d e f h : Bool) → a ≡ false → (a && b && c && d && e && f && h) ≡ true → ⊥
first_of true b c d e f h is good = cc
first_of false b c d e f h is good = cc

pub decided_scalar : (operand : c.Expression) (when_true when_false tag : List ℕ) (known k behind : Known) (x z : Typed) → expression operand as_truth (entered known) ≡ Goes x k
    → expression (c.Decide operand when_true when_false tag) as_truth known ≡ Goes z behind → is_scalar (own_type x) ≡ true
unfolding judge_decide
decided_scalar operand when_true when_false tag known k behind x z first whole =
    let rest = through (λ (x : Typed) (k : Known). goes_on (finish known.next as_truth (judge_decide as_truth x when_true when_false tag k) k) (λ (result : Typed) (j : Known).
    Goes result (record j { labels = (j.labels ++ label_of when_true tag [] ∷ []) ++ label_of when_false tag [] ∷ [] }))) first whole in
    let it = labels_behind (finish known.next as_truth (judge_decide as_truth x when_true when_false tag k) k) (λ (j : Known). record j { labels = (j.labels ++ label_of when_true tag [] ∷ []) ++ label_of when_false tag [] ∷ [] }) rest in
    let at = ended k known.next as_truth (judge_decide as_truth x when_true when_false tag k) z it.0 it.1 in
    let good = unless_true (is_good_decision as_truth k x when_true when_false tag) bad_mark at.rules in
    second_of (not k.is_unmarked) (is_scalar (own_type x)) (is_good_id k when_true) (is_good_id k when_false) (not (number_of_id when_true == number_of_id when_false)) (is_tag tag) good

-- a value is never decided
pub not_decided : (operand : c.Expression) (when_true when_false tag : List ℕ) (role : Use) (known behind : Known) (z : Typed) → is_truth role ≡ false
    → expression (c.Decide operand when_true when_false tag) role known ≡ Goes z behind → ⊥
unfolding judge_decide
not_decided operand when_true when_false tag role known behind z value whole =
    let first = part_goes (expression operand (inside_mark role) (entered known)) (λ (x : Typed) (k : Known). goes_on (finish known.next role (judge_decide role x when_true when_false tag k) k) (λ (result : Typed) (j : Known).
    Goes result (record j { labels = (j.labels ++ label_of when_true tag [] ∷ []) ++ label_of when_false tag [] ∷ [] }))) whole in
    let rest = through (λ (x : Typed) (k : Known). goes_on (finish known.next role (judge_decide role x when_true when_false tag k) k) (λ (result : Typed) (j : Known).
    Goes result (record j { labels = (j.labels ++ label_of when_true tag [] ∷ []) ++ label_of when_false tag [] ∷ [] }))) first.2 whole in
    let it = labels_behind (finish known.next role (judge_decide role first.0 when_true when_false tag first.1) first.1) (λ (j : Known). record j { labels = (j.labels ++ label_of when_true tag [] ∷ []) ++ label_of when_false tag [] ∷ [] }) rest in
    let at = ended first.1 known.next role (judge_decide role first.0 when_true when_false tag first.1) z it.0 it.1 in
    let good = unless_true (is_good_decision role first.1 first.0 when_true when_false tag) bad_mark at.rules in
    first_of (is_truth role) (not first.1.is_unmarked) (is_scalar (own_type first.0)) (is_good_id first.1 when_true) (is_good_id first.1 when_false)
    (not (number_of_id when_true == number_of_id when_false)) (is_tag tag) value good

-- what is called is the name of a function
pub called : (f : c.Expression) (arguments : c.Expressions) (role : Use) (known k j behind : Known) (x : Typed) (xs : List Typed) (z : Typed) → expression f as_callee (entered known) ≡ Goes x k
    → expressions arguments k ≡ Goes xs j → expression (c.Call f arguments) role known ≡ Goes z behind → (name : List ℕ) × (x.form ≡ a_designator name (own_type x)) × (is_function (own_type x) ≡ true)
unfolding judge_call judge_function
called f arguments role known k j behind x xs z first second whole =
    let at = ended j known.next role (judge_call x xs j) z behind
    (through (λ (xs : List Typed) (j : Known). finish known.next role (judge_call x xs j) j) second
    (through (λ (x : Typed) (k : Known). goes_on (expressions arguments k) (λ (xs : List Typed) (j : Known). finish known.next role (judge_call x xs j) j)) first whole)) in
    by x.form refl at.rules
  where
    function_there : (name : List ℕ) (t : CType) → (judge_function j name t xs).faults ≡ [] → is_function t ≡ true
    function_there name (Function result ts dots) none = refl
    function_there name Void none = absurd cc
    function_there name (Num n) none = absurd cc
    function_there name (Pointer t) none = absurd cc
    function_there name (Array t n) none = absurd cc
    function_there name (Struct n) none = absurd cc
    function_there name Floating none = absurd cc
    function_there name (Qualified q t) none = absurd cc

    by : (form : Form) → x.form ≡ form
        → (elim (form) as (λ _. Judged) [ a_value v ↦ judgement (bad_call ∷ []) nothing | a_place place ↦ judgement (bad_call ∷ []) nothing | a_designator name type ↦ judge_function j name type xs ]).faults ≡ []
        → (name : List ℕ) × (x.form ≡ a_designator name (own_type x)) × (is_function (own_type x) ≡ true)
    by (a_value v) is none = absurd cc
    by (a_place place) is none = absurd cc
    by (a_designator name t) is none =
        let type : own_type x ≡ t = rw is refl in (name, is ∙ ap (a_designator name) (sym type), ap is_function type ∙ function_there name t none)
