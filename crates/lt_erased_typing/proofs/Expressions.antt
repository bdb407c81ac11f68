-- Expressions are typed without their marks.
use Rattle.std.proofs.Common.{◌≡◌, ℕ, List, [], ◌∷◌, Option, Bool, true, false, refl, sym, subst}
use Rattle.std.proofs.lemmas.Bool.{false≢true}
use Rattle.std.specs.Prelude.{◌++◌, length}
use Rattle.lt_tree.specs.declared.expression.UnaryOp.{UnaryOp}
use Rattle.lt_tree.specs.declared.expression.UnaryOp.TheVariants as unary
use Rattle.lt_tree.specs.Tree as c
use Rattle.lt_tree.specs.Comma.{comma_of}
use Rattle.lt_tree.specs.Erasure.{erased, erased_expressions, erased_maybe, erased_parts, erased_parameters, erased_parameter_list, erased_declarator}
use Rattle.lt_tree.specs.Typing.Types.{CType, Void}
use Rattle.lt_tree.specs.Typing.Entities.{Known}
use Rattle.lt_tree.specs.Typing.Rules.{Rule}
use Rattle.lt_tree.specs.Typing.Steps.{goes_on}
use Rattle.lt_tree.specs.Typing.Expressions.{Typed, Use, as_value, as_truth, as_place, as_callee, own_type, finish}
use Rattle.lt_tree.specs.Typing.Operations.{judge_member, judge_arrow, judge_index, judge_size, is_callee}
use Rattle.lt_tree.specs.Typing.BinaryOperations.{judge_binary, judge_logical, judge_conditional, judge_comma, last_of}
use Rattle.lt_tree.specs.Typing.MarkRules.{judge_marked, judge_decide, judge_after, label_of}
use Rattle.lt_tree.specs.Typing.NodeEnds.{judge_unary, operand_of, text_at, with_dots}
use Rattle.lt_tree.specs.Typing.Specifying.{Specified}
use Rattle.lt_tree.specs.Typing.Declarators.{Built}
use Rattle.lt_tree.specs.Typing.ExpressionTyping.{expression, expressions, maybe, marks, parts, parameters, parameter_list, declarator}
use Rattle.lt_erased_typing.specs.Erasable.{CanBeErasedWith, CanEachBeErased, CanLengthsBeErased, CanPartsBeErased, CanLengthBeErased, CanParametersBeErased, CanListBeErased, Behind, entered}
use Rattle.lt_erased_typing.proofs.Scopes.{Own, AreScopesAlike}
use Rattle.lt_erased_typing.proofs.Going.{IsBeside, Follows, goes, bind, last, only, around, came, entered_beside, entered_first, text_beside, found_beside, constant_beside, constant_walk, behind_anything}
use Rattle.lt_erased_typing.proofs.Operands.{BareValue, BareAs}
use Rattle.lt_erased_typing.proofs.Ends.{finished, finished_alone, labelled, label_beside, stops, unfinished}
use Rattle.lt_erased_typing.proofs.Operators.{name_bare, constant_bare, text_bare, unary_bare, size_bare, member_bare, arrow_bare, index_bare}
use Rattle.lt_erased_typing.proofs.BinaryOperators.{binary_bare, logical_bare, conditional_bare, comma_bare, BareEach, none_bare, one_bare}
use Rattle.lt_erased_typing.proofs.TypeNames.{length_same, AreSameLengths, AreBuiltAlike, AreJudgedAlike, DeclareAlike, AreParametersAlike, pointers_alike, arrays_alike, functions_alike, type_names_judged, parameters_judged}
use Rattle.lt_erased_typing.proofs.SizesAndCasts.{name_in, declared_alike, can_parts, sized, cast_alike}
use Rattle.lt_erased_typing.proofs.Parameters.{Leads, lead_here, lead_last, scope_alike, scope_beside, scope_left, listed}
use Rattle.lt_erased_typing.proofs.Marks.{marks_value, marks_truth, after_value, after_truth, decide_truth, decides_a_truth}
use Rattle.lt_erased_typing.proofs.Commas.{IsJoined, two_lists, one_list, joined, both_lists, EndAlike, end_alike, alike_behind}

pub operand_no_callee : (op : UnaryOp) → is_callee (operand_of op) ≡ false
operand_no_callee unary.AddressOf = refl
operand_no_callee unary.Not = refl
operand_no_callee unary.Dereference = refl
operand_no_callee unary.Plus = refl
operand_no_callee unary.Minus = refl
operand_no_callee unary.Complement = refl

-- the last of the parts counts
abbrev AreLastAlike : List Typed → List Typed → Type 0
AreLastAlike xs ys = last_of Void ys ≡ last_of Void xs

module _ {texts : Bool} {known : Known} {own : Own} where
  -- A comma expression and one that is joined, by what is known of the first part, and of those behind it.
  commas : {k j : Known} {P : Typed → Known → Type 0} (role : Use) (first second d e : c.Expression) (rest others : c.Expressions) (whole : c.Expression) → IsBeside texts known own k j
      → Behind (expression first as_value (entered k)) P
      → ((i : Known) → IsBeside texts known own (entered k) i → Follows texts known own BareValue (expression first as_value (entered k)) (expression d as_value i))
      → ((x : Typed) (l i : Known) → IsBeside texts known own l i → P x l → Follows texts known own EndAlike (expressions (c.an_expression second rest) l) (expressions (c.an_expression e others) i))
      → IsJoined d (c.an_expression e others) whole
      → Follows texts known own (BareAs role) (expression (c.Comma (c.an_expression first (c.an_expression second rest))) role k) (expression whole role j)
  commas {k} {j} role first second d e rest others whole b h f g (one_list same) =
      subst (λ it. Follows texts known own (BareAs role) (expression (c.Comma (c.an_expression first (c.an_expression second rest))) role k) (expression it role j)) (sym same)
      (last {R = AreLastAlike} (bind (f (entered j) (entered_beside b)) h (λ x y l i p s claim. last (g x l i s claim) (λ xs ys l i q s. goes (q.ends (own_type x) (own_type y)) s)))
      (λ xs ys l i q s. finished k.next j.next role (judge_comma xs) (judge_comma ys) (comma_bare xs ys q) s))
  commas {k} {j} role first second d e rest others whole b h f g (two_lists parts joins same) =
      subst (λ it. Follows texts known own (BareAs role) (expression (c.Comma (c.an_expression first (c.an_expression second rest))) role k) (expression it role j)) (sym same)
      (subst (λ o. Follows texts known own (BareAs role) (expression (c.Comma (c.an_expression first (c.an_expression second rest))) role k) (goes_on o (λ ys l. finish j.next role (judge_comma ys) l))) (sym (both_lists parts (c.an_expression e others) (entered j)))
      (last {R = AreLastAlike} (bind (unfinished (expression first as_value (entered k)) (expressions parts (entered j)) j.next as_value judge_comma
      (subst (λ it. Follows texts known own BareValue (expression first as_value (entered k)) (expression it as_value j)) joins (f j (entered_first b)))) h
      (λ x ys l i u s claim. last (g x l i s claim) (λ xs zs l i q s. goes (alike_behind x ys Void Void q) s)))
      (λ xs ys l i q s. finished k.next j.next role (judge_comma xs) (judge_comma ys) (comma_bare xs ys q) s)))

mutual
  pub of_expression : {texts : Bool} {known : Known} {own : Own} {k j : Known} → AreScopesAlike texts known own → (it : c.Expression) (role : Use)
      → is_callee role ≡ false → IsBeside texts known own k j → CanBeErasedWith texts role k it
      → Follows texts known own (BareAs role) (expression it role k) (expression (erased it) role j)
  of_expression {k = k} {j = j} alike (c.Name name) role n b h =
      finished k.next j.next role _ _ (name_bare role name n alike (entered_beside b)) (entered_beside b)
  of_expression {k = k} {j = j} alike (c.Constant text) role n b h = finished k.next j.next role _ _ (constant_bare text (entered_beside b)) (entered_beside b)
  of_expression {k = k} {j = j} alike (c.Text bytes) role n b h =
      finished k.next j.next role (text_at (entered k) bytes (length k.objects)) (text_at (entered j) bytes (length j.objects)) (text_bare (entered k) (entered j) bytes (length k.objects) (length j.objects)) (text_beside bytes h b)
  of_expression {k = k} {j = j} alike (c.Index whole index) role n b h =
      bind (of_expression alike whole as_value refl (entered_beside b) h.0) h.1 (λ x x' l i p s g. last (of_expression alike index as_value refl s g) (λ y y' l i q s. finished k.next j.next role (judge_index x y l) (judge_index x' y' i) (index_bare s p q) s))
  of_expression alike (c.Call callee arguments) role n b h = absurd h
  of_expression {k = k} {j = j} alike (c.Member whole w) role n b h =
      last (of_expression alike whole as_place refl (entered_beside b) h) (λ x x' l i p s. finished k.next j.next role (judge_member x w l) (judge_member x' w i) (member_bare w s p) s)
  of_expression {k = k} {j = j} alike (c.Arrow pointer w) role n b h =
      last (of_expression alike pointer as_value refl (entered_beside b) h) (λ x x' l i p s. finished k.next j.next role (judge_arrow x w l) (judge_arrow x' w i) (arrow_bare w s p) s)
  of_expression alike (c.PostInc target) role n b h = absurd h
  of_expression alike (c.PostDec target) role n b h = absurd h
  of_expression alike (c.PreInc target) role n b h = absurd h
  of_expression alike (c.PreDec target) role n b h = absurd h
  of_expression {k = k} {j = j} alike (c.Unary op operand) role n b h =
      last (of_expression alike operand (operand_of op) (operand_no_callee op) (entered_beside b) h) (λ x x' l i p s. finished k.next j.next role (judge_unary op x l) (judge_unary op x' i) (unary_bare op x x' s p) s)
  of_expression {k = k} {j = j} alike (c.SizeofExpr operand) role n b h =
      last (constant_walk (entered_beside b) (of_expression alike operand as_place refl (constant_beside (entered_beside b)) h))
      (λ x x' l i p s. finished k.next j.next role (judge_size (own_type x) l) (judge_size (own_type x') i) (size_bare s p) s)
  of_expression alike (c.SizeofType sp d) role n b h = sized alike sp d role b h.0 h.1 (λ it l i s g. of_declarator alike type_names_judged d it s g)
  of_expression alike (c.Cast sp d operand) role n b h =
      cast_alike alike sp d operand role b h.0 h.1 (λ it l i s g. of_declarator alike type_names_judged d it s g) (λ l i s g. of_expression alike operand as_value refl s g)
  of_expression {k = k} {j = j} alike (c.Binary op left right) role n b h =
      bind (of_expression alike left as_value refl (entered_beside b) h.0) h.1 (λ x x' l i p s g. last (of_expression alike right as_value refl s g) (λ y y' l i q s. finished k.next j.next role (judge_binary op x y l) (judge_binary op x' y' i) (binary_bare op s p q) s))
  of_expression {k = k} {j = j} alike (c.Logical op left right) role n b h =
      bind (of_expression alike left as_truth refl (entered_beside b) h.0) h.1 (λ x x' l i p s g. last (of_expression alike right as_truth refl s g) (λ y y' l i q s. finished k.next j.next role (judge_logical op x y) (judge_logical op x' y') (logical_bare op p q) s))
  of_expression {k = k} {j = j} alike (c.Conditional test left right) role n b h =
      bind (of_expression alike test as_truth refl (entered_beside b) h.0) h.1 (λ o o' l i t s g.
      bind (of_expression alike left as_value refl s g.0) g.1 (λ x x' l i p s f.
      bind (of_expression alike right as_value refl s f.1) f.2 (λ y y' l i q s shows.
      finished k.next j.next role (judge_conditional o x y l) (judge_conditional o' x' y' i) (conditional_bare s t p f.0 q shows) s)))
  of_expression alike (c.Assign op target value) role n b h = absurd h
  of_expression alike (c.Comma c.no_expressions) role n b h = absurd h
  of_expression alike (c.Comma (c.an_expression first c.no_expressions)) role n b h = absurd h
  of_expression alike (c.Comma (c.an_expression first (c.an_expression second rest))) role n b h =
      commas role first second (erased first) (erased second) rest (erased_expressions rest) (comma_of (erased first) (c.an_expression (erased second) (erased_expressions rest))) b h.1
      (λ i s. of_expression alike first as_value refl s h.0)
      (λ x l i s g. bind (of_expression alike second as_value refl s g.0) g.1 (λ x y l i p s f. last (of_expressions alike rest s f) (λ xs ys l i ps s. goes (end_alike p ps) s)))
      (joined (erased first) (erased second) (erased_expressions rest))
  of_expression {k = k} alike (c.Marked ms value) as_value n b h =
      only (marks ms (entered k)) h.1 (λ typed l g. around (of_expression alike value as_value refl (found_beside (entered_first b) g.0) g.1) (behind_anything (expression value as_value l))
      (λ x y l i p s u. finished_alone k.next as_value (judge_marked typed x) y (λ q. marks_value typed p) s))
  of_expression {k = k} alike (c.Marked ms value) as_truth n b h =
      only (marks ms (entered k)) h.1 (λ typed l g. around (of_expression alike value as_truth refl (found_beside (entered_first b) g.0) g.1) (behind_anything (expression value as_truth l))
      (λ x y l i p s u. finished_alone k.next as_truth (judge_marked typed x) y (λ q. marks_truth typed p) s))
  of_expression alike (c.Marked ms value) as_place n b h = absurd h.0
  of_expression alike (c.Marked ms value) as_callee n b h = absurd (false≢true (sym n))
  of_expression {k = k} alike (c.Decide operand when_true when_false tag) as_value n b h =
      only (expression operand as_value (entered k)) (behind_anything (expression operand as_value (entered k)))
      (λ x l u. stops l k.next as_value (judge_decide as_value x when_true when_false tag l) _ (decides_a_truth as_value x when_true when_false tag l refl))
  of_expression {k = k} alike (c.Decide operand when_true when_false tag) as_place n b h =
      only (expression operand as_value (entered k)) (behind_anything (expression operand as_value (entered k)))
      (λ x l u. stops l k.next as_place (judge_decide as_place x when_true when_false tag l) _ (decides_a_truth as_place x when_true when_false tag l refl))
  of_expression {k = k} alike (c.Decide operand when_true when_false tag) as_truth n b h =
      around (of_expression alike operand as_truth refl (entered_first b) h) (behind_anything (expression operand as_truth (entered k)))
      (λ x y l i p s u. labelled (finished_alone k.next as_truth (judge_decide as_truth x when_true when_false tag l) y (decide_truth when_true when_false tag l p) s)
      (λ z a t q. came q (label_beside ((a.labels ++ label_of when_true tag [] ∷ []) ++ label_of when_false tag [] ∷ []) t)))
  of_expression alike (c.Decide operand when_true when_false tag) as_callee n b h = absurd (false≢true (sym n))
  of_expression {k = k} alike (c.After operand id tag) as_value n b h =
      around (of_expression alike operand as_value refl (entered_first b) h.1) (behind_anything (expression operand as_value (entered k)))
      (λ x y l i p s u. labelled (finished_alone k.next as_value (judge_after as_value x id tag l) y (λ q. after_value id tag l p) s)
      (λ z a t q. came q (label_beside (a.labels ++ label_of id tag [] ∷ []) t)))
  of_expression {k = k} alike (c.After operand id tag) as_truth n b h =
      around (of_expression alike operand as_truth refl (entered_first b) h.1) (behind_anything (expression operand as_truth (entered k)))
      (λ x y l i p s u. labelled (finished_alone k.next as_truth (judge_after as_truth x id tag l) y (λ q. after_truth id tag l p) s)
      (λ z a t q. came q (label_beside (a.labels ++ label_of id tag [] ∷ []) t)))
  of_expression alike (c.After operand id tag) as_place n b h = absurd h.0
  of_expression alike (c.After operand id tag) as_callee n b h = absurd (false≢true (sym n))

  of_expressions : {texts : Bool} {known : Known} {own : Own} {k j : Known} → AreScopesAlike texts known own → (them : c.Expressions)
      → IsBeside texts known own k j → CanEachBeErased texts k them
      → Follows texts known own BareEach (expressions them k) (expressions (erased_expressions them) j)
  of_expressions alike c.no_expressions b h = goes none_bare b
  of_expressions alike (c.an_expression first rest) b h =
      bind (of_expression alike first as_value refl b h.0) h.1 (λ x y k j p s g. last (of_expressions alike rest s g) (λ xs ys k j ps s. goes (one_bare p ps) s))

  of_maybe : {texts : Bool} {known : Known} {own : Own} {k j : Known} → AreScopesAlike texts known own → (it : c.Maybe)
      → IsBeside texts known own k j → CanLengthBeErased texts k it → Follows texts known own AreSameLengths (maybe it k) (maybe (erased_maybe it) j)
  of_maybe alike c.absent b h = goes (λ o l. refl) b
  of_maybe alike (c.present it) b h = last (constant_walk b (of_expression alike it as_value refl (constant_beside b) h)) (λ x y k j p s. goes (λ o l. length_same p l) s)

  of_parts : {texts : Bool} {known : Known} {own : Own} {k j : Known} → AreScopesAlike texts known own
      → (them : c.Parts) (t : CType) (is_outermost : Bool) → IsBeside texts known own k j → CanPartsBeErased texts k them
      → Follows texts known own AreBuiltAlike (parts them t false is_outermost k) (parts (erased_parts them) t false is_outermost j)
  of_parts alike c.no_parts t is_outermost b h = goes (λ r. (refl, refl)) b
  of_parts alike (c.Pointer q rest) t is_outermost b h = last (of_parts alike rest t false b h) (λ x y k j p s. goes (pointers_alike q x y p) s)
  of_parts alike (c.Array length rest) t is_outermost b h =
      bind (of_maybe alike length b h.0) h.1 (λ n m k j e s g. last (of_parts alike rest t false s g) (λ x y k j p s. goes (arrays_alike x y s (e is_outermost) p) s))
  of_parts {k = k} {j = j} alike (c.Function them rest) t is_outermost b h =
      bind (scope_left b (of_parameters h.0 (scope_alike alike b) them (scope_beside b) h.1)) h.2 (λ x x' l i g s f. last (of_parts alike rest t false s f) (λ y y' l i p s. goes (functions_alike x x' y y' g p) s))

  pub of_declarator : {texts : Bool} {known : Known} {own : Own} {k j : Known} {judge : Option (List ℕ) → Known → Built → List Rule} → AreScopesAlike texts known own
      → AreJudgedAlike texts known own judge → (d : c.Declarator) (it : Specified) → IsBeside texts known own k j → CanLengthsBeErased texts k d
      → Follows texts known own (DeclareAlike (name_in d)) (declarator d it false judge k) (declarator (erased_declarator d) it false judge j)
  of_declarator {texts} {known} {own} {k} alike judged (c.declarator name ps) it b h = declared_alike judged name ps it b (of_parts alike ps it.type true (entered_beside b) (can_parts texts k name ps h))

  of_parameters : {texts : Bool} {known : Known} {own : Own} {k j : Known} → texts ≡ true → AreScopesAlike texts known own → (them : c.Parameters) → IsBeside texts known own k j
      → CanParametersBeErased texts k them → Leads texts known own AreParametersAlike (parameters them false k) (parameters (erased_parameters them) false j)
  of_parameters is alike c.Unstated b h = lead_here (λ r. (refl, refl, refl)) b
  of_parameters is alike c.Void b h = lead_here (λ r. (refl, refl, refl)) b
  of_parameters is alike (c.Listed list) b h = of_list is alike list b h
  of_parameters is alike (c.Open list) b h = lead_last with_dots with_dots (λ x y p r. let them = p r in (them.0, them.1, refl)) (of_list is alike list b h)

  of_list : {texts : Bool} {known : Known} {own : Own} {k j : Known} → texts ≡ true → AreScopesAlike texts known own → (them : c.ParameterList) → IsBeside texts known own k j
      → CanListBeErased texts k them → Leads texts known own AreParametersAlike (parameter_list them false k) (parameter_list (erased_parameter_list them) false j)
  of_list is alike c.no_parameters b h = lead_here (λ r. (refl, refl, refl)) b
  of_list is alike (c.a_parameter sp d rest) b h =
      listed is alike sp d (λ k. parameter_list rest false k) (λ j. parameter_list (erased_parameter_list rest) false j) b h.0 h.1
      (λ it l i s g. of_declarator alike (parameters_judged alike) d it s g) (λ later apart l i alike s g. of_list is alike rest s g)
