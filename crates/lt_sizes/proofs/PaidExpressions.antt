-- Expressions cost no more than their text pays.
use Rattle.std.proofs.Common.{◌≡◌, ℕ, suc, ◌+◌, ◌≤◌, List, [], ◌++◌, false, Option, arith}
use Rattle.lt_model.specs.declared.operator.Op.TheVariants as O
use Rattle.lt_tree.specs.Tree as c
use Rattle.lt_tree.specs.Nodes.{Node, in_expression, in_expressions, in_specifiers, in_declarator, in_marks, in_mark}
use Rattle.lt_tree.specs.Typing.Constants.{constant_of}
use Rattle.lt_tree.specs.Typing.TypedTree.{before, after}
use Rattle.lt_tree.specs.Typing.Entities.{Known, Function, meaning_of}
use Rattle.lt_tree.specs.Typing.Steps.{settle, marked_again}
use Rattle.lt_tree.specs.Typing.Specifying.{elsewhere}
use Rattle.lt_tree.specs.Typing.Declarators.{setting_in_sizeof, type_name_faults}
use Rattle.lt_tree.specs.Typing.Expressions.{Typed, Use, as_value, as_truth, as_place, as_callee, own_type, Judged, faults_of_any, finish}
use Rattle.lt_tree.specs.Typing.Operations.{judge_step, judge_size, judge_member, judge_arrow, judge_index, judge_call, judge_cast}
use Rattle.lt_tree.specs.Typing.BinaryOperations.{judge_binary, judge_logical, judge_conditional, judge_assignment, judge_comma}
use Rattle.lt_tree.specs.Typing.MarkRules.{judge_decide, inside_mark, inside_after, judge_after, judge_marked}
use Rattle.lt_tree.specs.Typing.NodeEnds.{judge_unary, operand_of, also}
use Rattle.lt_tree.specs.Typing.ExpressionTyping.{expression, expressions, marks, mark, specifiers, declarator}
use Rattle.lt_code.specs.Costs.{marks_of}
use Rattle.lt_sizes.proofs.Texts.{count, calls, IsWhole, count_both, calls_both, marked, mark_whole}
use Rattle.lt_sizes.proofs.WholeTexts.{expression_whole, expressions_whole, specifiers_whole, declarator_whole, marks_whole}
use Rattle.lt_sizes.proofs.WholeTexts as whole
use Rattle.lt_sizes.proofs.Walks.{Gives, went, bind, skip}
use Rattle.lt_sizes.proofs.Values.{IsPaidTyped, used_paid}
use Rattle.lt_sizes.proofs.Operations.{AllPaid, none, one, called, name_of, name_paid, constant_typed, text_paid, size_paid, unary_paid, step_paid, member_paid, arrow_paid, cast_paid, marked_paid, decide_paid, after_paid, index_paid, logical_paid, assignment_paid, binary_paid, conditional_paid, comma_paid, call_paid}

finished : {functions : List Function} {n : ℕ} {calls : List ℕ} {name : Option (List ℕ)} (node : ℕ) (role : Use) (it : Judged) (known : Known) → IsPaidTyped functions n calls name it.typed
    → Gives (IsPaidTyped functions n calls name) (finish node role it known)
unfolding finish
finished node role it known p = skip (settle node (it.faults ++ faults_of_any known.structs role it.typed) known) (λ u k. went (used_paid role p))

-- ---- texts that stand side by side

two : {functions : List Function} {name : Option (List ℕ)} {x : Typed} (own : List ℕ) (xs ys : List Node) → IsWhole xs
    → IsPaidTyped functions (suc (count xs + count ys)) (own ++ (calls functions xs ++ calls functions ys)) name x
    → IsPaidTyped functions (suc (count (xs ++ ys))) (own ++ calls functions (xs ++ ys)) name x
two {functions} own xs ys w p = rw (count_both xs ys w, calls_both functions xs ys w) p

three : {functions : List Function} {name : Option (List ℕ)} {x : Typed} (xs ys zs : List Node) → IsWhole xs → IsWhole ys
    → IsPaidTyped functions (suc (count xs + count ys + count zs)) (calls functions xs ++ calls functions ys ++ calls functions zs) name x
    → IsPaidTyped functions (suc (count (xs ++ ys ++ zs))) (calls functions (xs ++ ys ++ zs)) name x
three {functions} xs ys zs v w p =
    rw (count_both (xs ++ ys) zs (whole.two xs ys v w), calls_both functions (xs ++ ys) zs (whole.two xs ys v w), count_both xs ys v, calls_both functions xs ys v) p

all_of_two : {functions : List Function} {them : List Typed} (xs ys : List Node) → IsWhole xs → AllPaid functions (count xs + count ys) (calls functions xs ++ calls functions ys) them
    → AllPaid functions (count (xs ++ ys)) (calls functions (xs ++ ys)) them
all_of_two {functions} xs ys w p = rw (count_both xs ys w, calls_both functions xs ys w) p

-- ---- marks

one_mark : (m : c.Mark) (ms : c.Marks) → count (in_mark m ++ in_marks ms) ≡ suc (count (in_marks ms))
one_mark m ms = rw (count_both (in_mark m) (in_marks ms) (mark_whole m), marked m) (omega arith)

of_marks : (them : c.Marks) (known : Known) → Gives (λ typed. marks_of typed ≤ count (in_marks them)) (marks them known)
of_marks c.no_marks known = went (omega arith)
of_marks (c.a_mark first rest) known =
    skip (mark first known) (λ m k. bind (of_marks rest k) (λ ms k h. went (rw (one_mark first rest) (omega arith))))

-- ---- expressions

module _ (functions : List Function) where
  mutual
    pub of_expression : (it : c.Expression) (role : Use) (known : Known)
        → Gives (IsPaidTyped functions (count (in_expression it)) (calls functions (in_expression it)) (name_of it)) (expression it role known)
    of_expression (c.Name w) role known = finished _ role _ _ (name_paid role w (meaning_of w known) _)
    of_expression (c.Constant w) role known = finished _ role _ _ (constant_typed (constant_of known.model w))
    of_expression (c.Text bytes) role known = finished _ role _ _ (text_paid _ bytes _)
    of_expression (c.Index whole index) role known =
        bind (of_expression whole as_value _) (λ x k p. bind (of_expression index as_value k)
        (λ y k q. finished _ role (judge_index x y k) k (two [] _ _ (expression_whole whole) (index_paid p q k))))
    of_expression (c.Call callee arguments) role known =
        bind (of_expression callee as_callee _) (λ f k p. bind (of_expressions arguments k)
        (λ xs k ps. finished _ role (judge_call f xs k) k (two (called functions callee arguments) _ _ (expression_whole callee) (call_paid functions _ _ _ _ callee arguments xs k p ps))))
    of_expression (c.Member whole w) role known = bind (of_expression whole as_place _) (λ x k p. finished _ role (judge_member x w k) k (member_paid p w k))
    of_expression (c.Arrow pointer w) role known = bind (of_expression pointer as_value _) (λ x k p. finished _ role (judge_arrow x w k) k (arrow_paid p w k))
    of_expression (c.PostInc target) role known = bind (of_expression target as_place _) (λ x k p. finished _ role (judge_step before O.Add x k) k (step_paid p before O.Add k))
    of_expression (c.PostDec target) role known = bind (of_expression target as_place _) (λ x k p. finished _ role (judge_step before O.Sub x k) k (step_paid p before O.Sub k))
    of_expression (c.PreInc target) role known = bind (of_expression target as_place _) (λ x k p. finished _ role (judge_step after O.Add x k) k (step_paid p after O.Add k))
    of_expression (c.PreDec target) role known = bind (of_expression target as_place _) (λ x k p. finished _ role (judge_step after O.Sub x k) k (step_paid p after O.Sub k))
    of_expression (c.Unary op operand) role known = bind (of_expression operand (operand_of op) _) (λ x k p. finished _ role (judge_unary op x k) k (unary_paid p op k))
    of_expression (c.SizeofExpr operand) role known =
        skip (marked_again known.is_unmarked (expression operand as_place _)) (λ x k. finished _ role (judge_size (own_type x) k) k (size_paid _ _ (own_type x) k))
    of_expression (c.SizeofType s d) role known =
        skip (specifiers s (setting_in_sizeof d) _) (λ it k. skip (declarator d it false (λ name known b. type_name_faults b) k)
        (λ t k. finished _ role (also t.faults (judge_size t.type k)) k (size_paid _ _ t.type k)))
    of_expression (c.Cast s d operand) role known =
        skip (specifiers s elsewhere _) (λ it k. skip (declarator d it false (λ name known b. type_name_faults b) k) (λ t k. bind (of_expression operand as_value k)
        (λ x k p. finished _ role (also t.faults (judge_cast t.type x k)) k
        (two [] (in_specifiers s ++ in_declarator d) (in_expression operand) (whole.two _ _ (specifiers_whole s) (declarator_whole d)) (cast_paid p _ _ t.type k)))))
    of_expression (c.Binary op left right) role known =
        bind (of_expression left as_value _) (λ x k p. bind (of_expression right as_value k)
        (λ y k q. finished _ role (judge_binary op x y k) k (two [] _ _ (expression_whole left) (binary_paid p q op k))))
    of_expression (c.Logical op left right) role known =
        bind (of_expression left as_truth _) (λ x k p. bind (of_expression right as_truth k)
        (λ y k q. finished _ role (judge_logical op x y) k (two [] _ _ (expression_whole left) (logical_paid p q op))))
    of_expression (c.Conditional test left right) role known =
        bind (of_expression test as_truth _) (λ x k o. bind (of_expression left as_value k) (λ y k p. bind (of_expression right as_value k)
        (λ z k q. finished _ role (judge_conditional x y z k) k (three _ _ _ (expression_whole test) (expression_whole left) (conditional_paid k o p q)))))
    of_expression (c.Assign op target value) role known =
        bind (of_expression target as_place _) (λ x k p. bind (of_expression value as_value k)
        (λ y k q. finished _ role (judge_assignment op x y k) k (two [] _ _ (expression_whole target) (assignment_paid p q op k))))
    of_expression (c.Comma list) role known = bind (of_expressions list _) (λ xs k ps. finished _ role (judge_comma xs) k (comma_paid ps))
    of_expression (c.Marked ms value) role known =
        bind (of_marks ms _) (λ typed k h. bind (of_expression value (inside_mark role) k)
        (λ x k p. finished _ role (judge_marked typed x) k (two [] _ _ (marks_whole ms) (marked_paid p typed _ _ h))))
    of_expression (c.Decide operand when_true when_false tag) role known =
        bind (of_expression operand (inside_mark role) _) (λ x k p. bind (finished known.next role (judge_decide role x when_true when_false tag k) k (decide_paid p role when_true when_false tag k))
        (λ result k q. went q))
    of_expression (c.After operand id tag) role known =
        bind (of_expression operand (inside_after role) _) (λ x k p. bind (finished known.next role (judge_after role x id tag k) k (after_paid role id tag k p)) (λ result k q. went q))

    pub of_expressions : (them : c.Expressions) (known : Known) → Gives (AllPaid functions (count (in_expressions them)) (calls functions (in_expressions them))) (expressions them known)
    of_expressions c.no_expressions known = went none
    of_expressions (c.an_expression first rest) known =
        bind (of_expression first as_value known) (λ x k p. bind (of_expressions rest k) (λ xs k ps. went (all_of_two _ _ (expression_whole first) (one p.as_value ps))))
