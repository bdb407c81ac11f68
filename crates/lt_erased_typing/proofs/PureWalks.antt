-- Pure expressions are typed alike in two places where the same is known but for the numbers of objects.
use Rattle.std.proofs.Common.{◌≡◌, ℕ, List, ◌∷◌, length, Option, Some, Bool, true, false, refl, sym, ◌∙◌}
use Rattle.std.proofs.lemmas.Bool.{false≢true, and_parts}
use Rattle.std.specs.Prelude.{◌&&◌}
use Rattle.lt_tree.specs.Tree as c
use Rattle.lt_tree.specs.Purity.{is_pure, are_pure, is_pure_specifiers, is_pure_declarator, are_pure_parts, is_pure_maybe, are_pure_parameters, is_pure_parameter_list}
use Rattle.lt_tree.specs.Typing.Types.{CType, Void}
use Rattle.lt_tree.specs.Typing.Rules.{Rule}
use Rattle.lt_tree.specs.Typing.Constants.{constant_of}
use Rattle.lt_tree.specs.Typing.Entities.{Known, meaning_of}
use Rattle.lt_tree.specs.Typing.Expressions.{Typed, Use, as_value, as_truth, as_place, own_type}
use Rattle.lt_tree.specs.Typing.Operations.{judge_name, judge_constant, judge_member, judge_arrow, judge_index, judge_size, is_callee}
use Rattle.lt_tree.specs.Typing.BinaryOperations.{judge_binary, judge_logical, judge_conditional, judge_comma}
use Rattle.lt_tree.specs.Typing.NodeEnds.{judge_unary, operand_of, text_object, text_at, with_dots}
use Rattle.lt_tree.specs.Typing.Specifying.{Specified}
use Rattle.lt_tree.specs.Typing.Declarators.{Built, parameter_faults, function_of, pointer_to}
use Rattle.lt_tree.specs.Typing.ExpressionTyping.{expression, expressions, maybe, parts, declarator, parameters, parameter_list}
use Rattle.lt_erased_typing.specs.Literals.{one_more, none_more}
use Rattle.lt_erased_typing.specs.Erasable.{ShowsNull, entered}
use Rattle.lt_erased_typing.proofs.Operators.{name_bare, constant_bare, text_bare, unary_bare, size_bare, member_bare, arrow_bare, index_bare}
use Rattle.lt_erased_typing.proofs.BinaryOperators.{binary_bare, logical_bare, conditional_bare, comma_bare, BareEach, none_bare, one_bare, last_same}
use Rattle.lt_erased_typing.proofs.TypeNames.{length_same, AreSameLengths, AreBuiltAlike, DeclareAlike, AreParametersAlike, pointers_alike, arrays_alike, functions_alike, type_names_judged}
use Rattle.lt_erased_typing.proofs.SizesAndCasts.{name_in, any_type_name}
use Rattle.lt_erased_typing.proofs.Expressions.{operand_no_callee}
use Rattle.lt_erased_typing.proofs.Unmarked.{IsUnmarked, name_unmarked, constant_unmarked, text_unmarked, unary_unmarked, member_unmarked, arrow_unmarked, index_unmarked, size_unmarked, binary_unmarked, logical_unmarked, conditional_unmarked, comma_unmarked}
use Rattle.lt_erased_typing.proofs.Together.{IsLike, Together, on, so, found_here, beside_like, entered_like, unmarked_like, one_more_like, constant_like, scope_like, scope_left_like, PureAs, finished_like}
use Rattle.lt_erased_typing.proofs.PureTypeNames.{AreJudgedLike, parameters_like, declarator_like, listed_like, sized_like, cast_like}

-- an operand without marks hides no null pointer constant
shows_null : (x : Typed) → IsUnmarked x → ShowsNull x
shows_null x h = λ n. sym h ∙ n

names_like : AreJudgedLike any_type_name
names_like name k j s x y e h = type_names_judged name k j (beside_like s) x y e h

mutual
  pub pure_expression : {k j : Known} (it : c.Expression) (role : Use) → is_callee role ≡ false → is_pure it ≡ true → IsLike k j
      → Together k.objects j.objects (PureAs role) (expression it role k) (expression it role j)
  pure_expression {k} {j} (c.Name name) role n p s =
      finished_like k.next j.next role (judge_name role name (meaning_of name k) (entered k)) (judge_name role name (meaning_of name j) (entered j))
      (name_bare role name n s.alike (beside_like (entered_like s)), name_unmarked role name (meaning_of name k) (entered k)) (entered_like s)
  pure_expression {k} {j} (c.Constant text) role n p s =
      finished_like k.next j.next role (judge_constant (constant_of k.model text)) (judge_constant (constant_of j.model text))
      (constant_bare text (beside_like s), constant_unmarked (constant_of k.model text)) (entered_like s)
  pure_expression {k} {j} (c.Text bytes) role n p s =
      one_more_like (text_object k.next (entered k) bytes) (text_object j.next (entered j) bytes) (one_more k.next (entered k) bytes refl none_more) (one_more j.next (entered j) bytes refl none_more) (entered_like s)
      (finished_like k.next j.next role (text_at (entered k) bytes (length k.objects)) (text_at (entered j) bytes (length j.objects))
      (text_bare (entered k) (entered j) bytes (length k.objects) (length j.objects), text_unmarked (entered k) bytes (length k.objects)))
  pure_expression {k} {j} (c.Index whole index) role n p s =
      on (pure_expression whole as_value refl (and_parts (is_pure whole) (is_pure index) p).0 (entered_like s)) (λ x x' l i q s.
      on (pure_expression index as_value refl (and_parts (is_pure whole) (is_pure index) p).1 s) (λ y y' l i r s.
      finished_like k.next j.next role (judge_index x y l) (judge_index x' y' i) (index_bare (beside_like s) q.0 r.0, index_unmarked x y l) s))
  pure_expression (c.Call callee arguments) role n p s = absurd (false≢true p)
  pure_expression {k} {j} (c.Member whole w) role n p s =
      on (pure_expression whole as_place refl p (entered_like s)) (λ x x' l i q s. finished_like k.next j.next role (judge_member x w l) (judge_member x' w i) (member_bare w (beside_like s) q.0, member_unmarked x w l) s)
  pure_expression {k} {j} (c.Arrow pointer w) role n p s =
      on (pure_expression pointer as_value refl p (entered_like s)) (λ x x' l i q s. finished_like k.next j.next role (judge_arrow x w l) (judge_arrow x' w i) (arrow_bare w (beside_like s) q.0, arrow_unmarked x w l) s)
  pure_expression (c.PostInc target) role n p s = absurd (false≢true p)
  pure_expression (c.PostDec target) role n p s = absurd (false≢true p)
  pure_expression (c.PreInc target) role n p s = absurd (false≢true p)
  pure_expression (c.PreDec target) role n p s = absurd (false≢true p)
  pure_expression {k} {j} (c.Unary op operand) role n p s =
      on (pure_expression operand (operand_of op) (operand_no_callee op) p (entered_like s)) (λ x x' l i q s.
      finished_like k.next j.next role (judge_unary op x l) (judge_unary op x' i) (unary_bare op x x' (beside_like s) q.0, unary_unmarked op x l q.1) s)
  pure_expression {k} {j} (c.SizeofExpr operand) role n p s =
      on (constant_like (entered_like s) (pure_expression operand as_place refl p (unmarked_like (entered_like s)))) (λ x x' l i q s.
      finished_like k.next j.next role (judge_size (own_type x) l) (judge_size (own_type x') i) (size_bare (beside_like s) q.0, size_unmarked (own_type x) l) s)
  pure_expression (c.SizeofType sp d) role n p s =
      sized_like sp d role (and_parts (is_pure_specifiers sp) (is_pure_declarator d) p).0 s
      (λ it l i s. pure_declarator any_type_name names_like d it (and_parts (is_pure_specifiers sp) (is_pure_declarator d) p).1 s)
  pure_expression (c.Cast sp d operand) role n p s =
      let front = (and_parts (is_pure_specifiers sp && is_pure_declarator d) (is_pure operand) p).0 in
      cast_like sp d operand role (and_parts (is_pure_specifiers sp) (is_pure_declarator d) front).0 s
      (λ it l i s. pure_declarator any_type_name names_like d it (and_parts (is_pure_specifiers sp) (is_pure_declarator d) front).1 s)
      (λ l i s. pure_expression operand as_value refl (and_parts (is_pure_specifiers sp && is_pure_declarator d) (is_pure operand) p).1 s)
  pure_expression {k} {j} (c.Binary op left right) role n p s =
      on (pure_expression left as_value refl (and_parts (is_pure left) (is_pure right) p).0 (entered_like s)) (λ x x' l i q s.
      on (pure_expression right as_value refl (and_parts (is_pure left) (is_pure right) p).1 s) (λ y y' l i r s.
      finished_like k.next j.next role (judge_binary op x y l) (judge_binary op x' y' i) (binary_bare op (beside_like s) q.0 r.0, binary_unmarked op x y l q.1 r.1) s))
  pure_expression {k} {j} (c.Logical op left right) role n p s =
      on (pure_expression left as_truth refl (and_parts (is_pure left) (is_pure right) p).0 (entered_like s)) (λ x x' l i q s.
      on (pure_expression right as_truth refl (and_parts (is_pure left) (is_pure right) p).1 s) (λ y y' l i r s.
      finished_like k.next j.next role (judge_logical op x y) (judge_logical op x' y') (logical_bare op q.0 r.0, logical_unmarked op x y q.1 r.1) s))
  pure_expression {k} {j} (c.Conditional test left right) role n p s =
      let front = (and_parts (is_pure test && is_pure left) (is_pure right) p).0 in
      on (pure_expression test as_truth refl (and_parts (is_pure test) (is_pure left) front).0 (entered_like s)) (λ o o' l i t s.
      on (pure_expression left as_value refl (and_parts (is_pure test) (is_pure left) front).1 s) (λ x x' l i q s.
      on (pure_expression right as_value refl (and_parts (is_pure test && is_pure left) (is_pure right) p).1 s) (λ y y' l i r s.
      finished_like k.next j.next role (judge_conditional o x y l) (judge_conditional o' x' y' i)
      (conditional_bare (beside_like s) t.0 q.0 (shows_null x q.1) r.0 (shows_null y r.1), conditional_unmarked o x y l t.1 q.1 r.1) s)))
  pure_expression (c.Assign op target value) role n p s = absurd (false≢true p)
  pure_expression {k} {j} (c.Comma list) role n p s =
      on (pure_expressions list p (entered_like s)) (λ xs ys l i q s. finished_like k.next j.next role (judge_comma xs) (judge_comma ys) (comma_bare xs ys (last_same Void q), comma_unmarked xs) s)
  pure_expression (c.Marked ms value) role n p s = absurd (false≢true p)
  pure_expression (c.Decide operand when_true when_false tag) role n p s = absurd (false≢true p)
  pure_expression (c.After operand id tag) role n p s = absurd (false≢true p)

  pure_expressions : {k j : Known} (them : c.Expressions) → are_pure them ≡ true → IsLike k j → Together k.objects j.objects BareEach (expressions them k) (expressions them j)
  pure_expressions c.no_expressions p s = found_here none_bare s
  pure_expressions (c.an_expression first rest) p s =
      on (pure_expression first as_value refl (and_parts (is_pure first) (are_pure rest) p).0 s) (λ x y l i q s.
      so (λ xs. x ∷ xs) (λ ys. y ∷ ys) (λ xs ys qs. one_bare q.0 qs) (pure_expressions rest (and_parts (is_pure first) (are_pure rest) p).1 s))

  pure_maybe : {k j : Known} (it : c.Maybe) → is_pure_maybe it ≡ true → IsLike k j → Together k.objects j.objects AreSameLengths (maybe it k) (maybe it j)
  pure_maybe c.absent p s = found_here (λ o l. refl) s
  pure_maybe (c.present it) p s = so Some Some (λ x y q o l. length_same q.0 l) (constant_like s (pure_expression it as_value refl p (unmarked_like s)))

  pure_parts : {k j : Known} (them : c.Parts) (t : CType) (is_outermost : Bool) → are_pure_parts them ≡ true → IsLike k j
      → Together k.objects j.objects AreBuiltAlike (parts them t false is_outermost k) (parts them t false is_outermost j)
  pure_parts c.no_parts t is_outermost p s = found_here (λ r. (refl, refl)) s
  pure_parts (c.Pointer q rest) t is_outermost p s = so (pointer_to q) (pointer_to q) (λ x y h. pointers_alike q x y h) (pure_parts rest t false p s)
  pure_parts (c.Array length rest) t is_outermost p s =
      on (pure_maybe length (and_parts (is_pure_maybe length) (are_pure_parts rest) p).0 s) (λ n m l i e s.
      on (pure_parts rest t false (and_parts (is_pure_maybe length) (are_pure_parts rest) p).1 s) (λ x y l i h s. found_here (arrays_alike x y (beside_like s) (e is_outermost) h) s))
  pure_parts (c.Function them rest) t is_outermost p s =
      on (scope_left_like s (pure_parameters them (and_parts (are_pure_parameters them) (are_pure_parts rest) p).0 (scope_like s))) (λ x x' l i g s.
      so (function_of x) (function_of x') (λ y y' h. functions_alike x x' y y' g h) (pure_parts rest t false (and_parts (are_pure_parameters them) (are_pure_parts rest) p).1 s))

  pure_declarator : {k j : Known} (judge : Option (List ℕ) → Known → Built → List Rule) → AreJudgedLike judge → (d : c.Declarator) (it : Specified) → is_pure_declarator d ≡ true → IsLike k j
      → Together k.objects j.objects (DeclareAlike (name_in d)) (declarator d it false judge k) (declarator d it false judge j)
  pure_declarator judge judged (c.declarator name ps) it p s = declarator_like judge judged name ps it s (pure_parts ps it.type true p (entered_like s))

  pure_parameters : {k j : Known} (them : c.Parameters) → are_pure_parameters them ≡ true → IsLike k j
      → Together k.objects j.objects AreParametersAlike (parameters them false k) (parameters them false j)
  pure_parameters c.Unstated p s = found_here (λ r. (refl, refl, refl)) s
  pure_parameters c.Void p s = found_here (λ r. (refl, refl, refl)) s
  pure_parameters (c.Listed list) p s = pure_list list p s
  pure_parameters (c.Open list) p s = so with_dots with_dots (λ x y h r. let them = h r in (them.0, them.1, refl)) (pure_list list p s)

  pure_list : {k j : Known} (them : c.ParameterList) → is_pure_parameter_list them ≡ true → IsLike k j
      → Together k.objects j.objects AreParametersAlike (parameter_list them false k) (parameter_list them false j)
  pure_list c.no_parameters p s = found_here (λ r. (refl, refl, refl)) s
  pure_list (c.a_parameter sp d rest) p s =
      let front = (and_parts (is_pure_specifiers sp && is_pure_declarator d) (is_pure_parameter_list rest) p).0 in
      listed_like sp d (λ k. parameter_list rest false k) (and_parts (is_pure_specifiers sp) (is_pure_declarator d) front).0 s
      (λ it l i s. pure_declarator (parameter_faults false) parameters_like d it (and_parts (is_pure_specifiers sp) (is_pure_declarator d) front).1 s)
      (λ l i s. pure_list rest (and_parts (is_pure_specifiers sp && is_pure_declarator d) (is_pure_parameter_list rest) p).1 s)
