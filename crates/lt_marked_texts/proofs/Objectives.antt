-- The predicates of objectives fit their places: those in front of an expression are made of it.
use Rattle.std.proofs.Common.{◌≡◌, ℕ, ◌+◌, ◌<◌, Bool, true, false, List, [], ◌∷◌, ◌++◌, map, Option, Some, refl, ap, ◌∙◌, subst, arith}
use Rattle.std.specs.Prelude.{if◌then◌else◌, ◌&&◌, not, codes}
use Rattle.std.specs.List.{All}
use Rattle.std.proofs.lemmas.Fmt.{decimal_digit}
use Rattle.std.proofs.lemmas.Bool.{and_parts}
use Rattle.lt_tree.specs.Tree as c
use Rattle.lt_tree.specs.Erasure.{erased}
use Rattle.lt_tree.specs.Purity.{is_pure}
use Rattle.lt_tree.specs.Nodes.{Node, an_external, an_expression}
use Rattle.lt_tree.specs.Scope.{Scope}
use Rattle.lt_tree.specs.Typing.Programs.{Program}
use Rattle.lt_objectives.specs.declared.criteria.Criterion.{Criterion}
use Rattle.lt_objectives.specs.declared.criteria.Criterion.TheVariants as C
use Rattle.lt_objectives.specs.Places.{Site, is_open, is_value_position}
use Rattle.lt_objectives.specs.Decisions.{decisions, clauses, negation, clause_list, conjunctions, active_clauses, has_few_clauses, inequality}
use Rattle.lt_objectives.specs.Copies.{is_core, hides, is_pure_without_marks, all_nodes_fit, can_be_copied}
use Rattle.lt_objectives.specs.Objectives.{at_start, in_front, around, Objective, all_at, decided_at, both_truths, combinations, at_test, mutants, differences, at_expression, at_body, at_node}
use Rattle.lt_objectives.specs.Criteria.{tag_of}
use Rattle.lt_print.proofs.CuttingQuotes.{IsByte}
use Rattle.lt_print.proofs.Clean.{IsConstant}
use Rattle.lt_marked_texts.proofs.Good.{Good}
use Rattle.lt_marked_texts.proofs.Bytes.{small_bytes}
use Rattle.lt_marked_texts.proofs.Fitting.{Made, MadeAtStart}
use Rattle.lt_marked_texts.proofs.Without.{without_marks}
use Rattle.lt_marked_texts.proofs.Quiet.{is_quiet, pure_parts}
use Rattle.lt_marked_texts.proofs.Decimals.{decimal_constant}
use Rattle.lt_marked_texts.proofs.Predicates.{Each, Kept, each_conjunction, each_active, each_difference, both_truths_have}

-- ---- what predicates keep

and_true : {a b : Bool} → a ≡ true → b ≡ true → (a && b) ≡ true
and_true {a} {b} p q = ap (λ x. x && b) p ∙ q

three_true : {a b d : Bool} → a ≡ true → b ≡ true → d ≡ true → (a && b && d) ≡ true
three_true {a} {b} {d} p q r = ap (λ x. x && b && d) p ∙ ap (λ x. x && d) q ∙ r

abbrev IsPure : c.Expression → Type 0
IsPure e = is_pure e ≡ true

pure_kept : Kept IsPure
pure_kept = record {
  unit = refl;
  nil = refl;
  of_one = λ op e p. p;
  of_two = λ op left right a b. and_true a b;
  of_truths = λ op left right a b. and_true a b;
  of_three = λ test left right a b d. three_true a b d;
  operand = λ op e p. p;
  operands = λ op left right p. pure_parts p;
  truths = λ op left right p. pure_parts p;
  behind_marks = λ marks e p. absurd cc;
  decided = λ e yes_id no_id tag p. absurd cc;
  evaluated = λ e id tag p. absurd cc;
}

digit_constant : (n : ℕ) → n < 10 → IsConstant ((48 + n) ∷ [])
digit_constant n h = subst IsConstant (decimal_digit n h) (decimal_constant n (omega arith))

pub one_constant : IsConstant (codes "1")
one_constant = digit_constant 1 (omega arith)

pub zero_constant_good : IsConstant (codes "0")
zero_constant_good = digit_constant 0 (omega arith)

good_kept : (scope : Scope) → Kept (Good scope)
good_kept scope = record {
  unit = one_constant;
  nil = zero_constant_good;
  of_one = λ op e p. p;
  of_two = λ op left right a b. (a, b);
  of_truths = λ op left right a b. (a, b);
  of_three = λ test left right a b d. (a, b, d);
  operand = λ op e p. p;
  operands = λ op left right p. p;
  truths = λ op left right p. p;
  behind_marks = λ marks e p. p.2;
  decided = λ e yes_id no_id tag p. p.0;
  evaluated = λ e id tag p. p.0;
}

-- predicates that are good where this expression is good without its marks, if that is pure
each_made : (e : c.Expression) (ps : List c.Expression) → ((scope : Scope) → Good scope (erased e) → Each (Good scope) ps) → Each IsPure ps → Each (Made e) ps
each_made e [] good pure = tt
each_made e (p ∷ ps) good pure =
    (record { good = λ scope g. (good scope (without_marks scope e g)).0; quiet = is_quiet p pure.0 }, each_made e ps (λ scope g. (good scope g).1) pure.1)

-- ---- tags

tag_bytes : (criterion : Criterion) → All IsByte (tag_of criterion)
tag_bytes C.Function = small_bytes (codes "FC") refl
tag_bytes C.InputDomain = small_bytes (codes "IDC") refl
tag_bytes C.Decision = small_bytes (codes "DC") refl
tag_bytes C.Condition = small_bytes (codes "CC") refl
tag_bytes C.MultipleCondition = small_bytes (codes "MCC") refl
tag_bytes C.GeneralActiveClause = small_bytes (codes "GACC") refl
tag_bytes C.CorrelatedActiveClause = small_bytes (codes "CACC") refl
tag_bytes C.RestrictedActiveClause = small_bytes (codes "RACC") refl
tag_bytes C.AllUses = small_bytes (codes "AU") refl
tag_bytes C.AbsoluteValue = small_bytes (codes "ABS") refl
tag_bytes C.ArithmeticOperator = small_bytes (codes "AOR") refl
tag_bytes C.LogicalConnector = small_bytes (codes "COR") refl
tag_bytes C.RelationalOperator = small_bytes (codes "ROR") refl

-- ---- objectives of one place

-- what an objective of a node with this number is
pub data Fitting (k : ℕ) (node : Node) (it : Objective) : Type 0 where
  surrounds : it.form ≡ around → Fitting k node it
  precedes : (e : c.Expression) → node ≡ an_expression e → it.form ≡ in_front → it.place ≡ k → Made e it.predicate → Fitting k node it
  begins : (s : c.Specifiers) (d : c.Declarator) (body : c.Items) → node ≡ an_external (c.Defines s d body) → it.form ≡ at_start → it.place ≡ k → MadeAtStart s d it.predicate → Fitting k node it

abbrev pub AllFitting : ℕ → Node → List Objective → Type 0
AllFitting k node [] = Unit {0}
AllFitting k node (it ∷ rest) = (Fitting k node it × All IsByte it.tag) × AllFitting k node rest

both_fitting : (k : ℕ) (node : Node) (xs ys : List Objective) → AllFitting k node xs → AllFitting k node ys → AllFitting k node (xs ++ ys)
both_fitting k node [] ys a b = b
both_fitting k node (x ∷ xs) ys a b = (a.0, both_fitting k node xs ys a.1 b)

fitting_if : (k : ℕ) (node : Node) (b : Bool) (xs : List Objective) → (b ≡ true → AllFitting k node xs) → AllFitting k node (if b then xs else [])
fitting_if k node true xs f = f refl
fitting_if k node false xs f = tt

-- what predicates may copy is pure without its marks
copied_pure : (unit : c.Unit) (k : ℕ) (e : c.Expression) → can_be_copied unit k e ≡ true → is_pure (erased e) ≡ true
copied_pure unit k e copied = (and_parts (is_pure (erased e)) (not (hides e)) (and_parts (is_pure_without_marks e) (all_nodes_fit unit k e) copied).0).0

module _ (criterion : Criterion) (k : ℕ) (e : c.Expression) where
  front_fitting : (ps : List c.Expression) → Each (Made e) ps → AllFitting k (an_expression e) (all_at k in_front criterion ps)
  front_fitting [] made = tt
  front_fitting (p ∷ ps) made = ((precedes e refl refl refl made.0, tag_bytes criterion), front_fitting ps made.1)

  truths_fitting : (copied : Bool) (place : ℕ) → (copied ≡ true → IsPure (erased e)) → AllFitting k (an_expression e) (both_truths criterion copied k place e)
  truths_fitting true place pure =
      front_fitting (erased e ∷ negation (erased e) ∷ []) (each_made e (erased e ∷ negation (erased e) ∷ []) (λ scope g. both_truths_have (good_kept scope) (erased e) g) (both_truths_have pure_kept (erased e) (pure refl)))
  truths_fitting false place pure = ((surrounds refl, tag_bytes criterion), tt)

  combinations_fitting : (copied : Bool) (predicates : c.Expression → List c.Expression) → ((scope : Scope) → Good scope (erased e) → Each (Good scope) (predicates (erased e))) → (IsPure (erased e) → Each IsPure (predicates (erased e)))
      → (copied ≡ true → IsPure (erased e)) → AllFitting k (an_expression e) (combinations criterion copied k predicates e)
  combinations_fitting copied predicates good kept pure =
      fitting_if k (an_expression e) (copied && has_few_clauses (erased e)) (all_at k in_front criterion (predicates (erased e)))
      (λ h. front_fitting (predicates (erased e)) (each_made e (predicates (erased e)) good (kept (pure (and_parts copied (has_few_clauses (erased e)) h).0))))

test_fitting : (criterion : Criterion) (copied : Bool) (decision clause : Option ℕ) (k : ℕ) (e : c.Expression) → (copied ≡ true → IsPure (erased e))
    → AllFitting k (an_expression e) (at_test criterion copied decision clause k e)
test_fitting C.Decision copied (Some place) clause k e pure = truths_fitting C.Decision k e copied place pure
test_fitting C.Condition copied decision (Some place) k e pure = truths_fitting C.Condition k e copied place pure
test_fitting C.MultipleCondition copied (Some place) clause k e pure =
    combinations_fitting C.MultipleCondition k e copied (λ d. conjunctions (clause_list d)) (λ scope g. each_conjunction (good_kept scope) (erased e) g) (λ p. each_conjunction pure_kept (erased e) p) pure
test_fitting C.GeneralActiveClause copied (Some place) clause k e pure =
    combinations_fitting C.GeneralActiveClause k e copied active_clauses (λ scope g. each_active (good_kept scope) (erased e) g) (λ p. each_active pure_kept (erased e) p) pure
test_fitting _ copied decision clause k e pure = tt

module _ (unit : c.Unit) (program : Program) where
  differences_fitting : (criterion : Criterion) (k : ℕ) (e : c.Expression) → AllFitting k (an_expression e) (differences unit program criterion k e)
  differences_fitting criterion k e =
      fitting_if k (an_expression e) (can_be_copied unit k e && is_value_position unit k) (all_at k in_front criterion (map (inequality (erased e)) (mutants unit program criterion k e (erased e))))
      (λ h. front_fitting criterion k e (map (inequality (erased e)) (mutants unit program criterion k e (erased e)))
      (each_made e (map (inequality (erased e)) (mutants unit program criterion k e (erased e))) (λ scope g. each_difference (good_kept scope) unit program criterion k e (erased e) g)
      (each_difference pure_kept unit program criterion k e (erased e) (copied_pure unit k e (and_parts (can_be_copied unit k e) (is_value_position unit k) h).0))))

  expression_fitting : (criterion : Criterion) (k : ℕ) (e : c.Expression) → AllFitting k (an_expression e) (at_expression unit program criterion k e)
  expression_fitting criterion k e =
      fitting_if k (an_expression e) (is_core e && is_open unit program k)
      (at_test criterion (can_be_copied unit k e) (decided_at (decisions unit) k) (decided_at (clauses unit) k) k e ++ differences unit program criterion k e)
      (λ h. both_fitting k (an_expression e) (at_test criterion (can_be_copied unit k e) (decided_at (decisions unit) k) (decided_at (clauses unit) k) k e) (differences unit program criterion k e)
      (test_fitting criterion (can_be_copied unit k e) (decided_at (decisions unit) k) (decided_at (clauses unit) k) k e (copied_pure unit k e)) (differences_fitting criterion k e))

  -- what stands at the starts of bodies is good there
  abbrev pub Begin : Criterion → Site → Type 0
  Begin criterion site =
      (s : c.Specifiers) (d : c.Declarator) (body : c.Items) → site.node ≡ an_external (c.Defines s d body) → Each (MadeAtStart s d) (at_body unit program criterion site.number)

  body_fitting : (criterion : Criterion) (k : ℕ) (s : c.Specifiers) (d : c.Declarator) (body : c.Items) (ps : List c.Expression) → Each (MadeAtStart s d) ps
      → AllFitting k (an_external (c.Defines s d body)) (all_at k at_start criterion ps)
  body_fitting criterion k s d body [] made = tt
  body_fitting criterion k s d body (p ∷ ps) made = ((begins s d body refl refl refl made.0, tag_bytes criterion), body_fitting criterion k s d body ps made.1)

  pub at_fitting : (criterion : Criterion) (k : ℕ) (node : Node) → Begin criterion (record { number = k; node = node }) → AllFitting k node (at_node unit program criterion (record { number = k; node = node }))
  at_fitting criterion k (an_external (c.Defines s d body)) begin = body_fitting criterion k s d body (at_body unit program criterion k) (begin s d body refl)
  at_fitting criterion k (an_external (c.Declared d)) begin = tt
  at_fitting criterion k (an_expression e) begin = expression_fitting criterion k e
  at_fitting criterion k _ begin = tt
