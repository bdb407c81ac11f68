-- What is typed in a text is typed alike where marks are added elsewhere, but for the numbers of objects.
use Rattle.std.proofs.Common.{◌≡◌, ℕ, ℤ, pos, List, [], ◌∷◌, map, Option, Some, None, option_map, Bool, true, false, refl, sym, ap, ◌∙◌, subst}
use Rattle.std.proofs.lemmas.List.{map-append}
use Rattle.std.specs.Prelude.{◌+◌, ◌++◌, ◌&&◌, if◌then◌else◌}
use Rattle.lt_model.specs.declared.operator.Op.TheVariants as O
use Rattle.lt_model.specs.declared.scalar.Scalar.TheVariants as S
use Rattle.lt_tree.specs.Tree as c
use Rattle.lt_tree.specs.Nodes.{in_expression, in_expressions, in_maybe, in_marks, in_mark, in_bindings, in_specifiers, in_types, in_type, in_members, in_member_declarators, in_enumerators, in_declarator, if_written, in_parts, in_parameters, in_parameter_list}
use Rattle.lt_tree.specs.Typing.Types.{CType, adjusted, is_integer, is_floating, is_pointer_to_function}
use Rattle.lt_tree.specs.Typing.Extents.{Member}
use Rattle.lt_tree.specs.Typing.Constants.{Constancy, number, null_constant, null_address, varying, faulty, address, TypedConstant, constant_of}
use Rattle.lt_tree.specs.Typing.Rules.{Rule, broken_if, incomplete_type, declared_twice, floating_type, function_as_value}
use Rattle.lt_tree.specs.Typing.TypedTree as e
use Rattle.lt_tree.specs.Typing.TypedTree.{before, after, letters}
use Rattle.lt_tree.specs.Typing.Entities.{Known, Entity, an_object, a_function, a_typedef, an_enumerator, tag_here, tagged_in, meaning_of, no_names, literal, unmade}
use Rattle.lt_tree.specs.Typing.Steps.{goes_on, Goes}
use Rattle.lt_tree.specs.Typing.Expressions.{Typed, Use, as_value, as_truth, as_place, as_callee, own_type, placed, Judged, judgement, finish}
use Rattle.lt_tree.specs.Typing.Operations.{judge_name, judge_constant, judge_size, judge_step, judge_index, judge_call, judge_member, judge_arrow, judge_cast, text_type}
use Rattle.lt_tree.specs.Typing.BinaryOperations.{judge_binary, judge_logical, judge_conditional, judge_assignment, judge_comma}
use Rattle.lt_tree.specs.Typing.MarkRules.{number_of_id, label_of, judge_decide, inside_mark, inside_after, judge_after, judge_marked}
use Rattle.lt_tree.specs.Typing.Specifying.{Specified, is_register, Setting, elsewhere, is_alone, beside_words, struct_tagged, enum_tagged, typedef_named, value_given}
use Rattle.lt_tree.specs.Typing.Declarators.{Built, array_of, function_of, pointer_to, length_from, length_in, length_or_none, all_faults, setting_in_sizeof, is_written, type_name_faults, is_incomplete, is_declared_here, parameter_faults, binds_parameter, parameter_before, member_faults, with_member, has_width}
use Rattle.lt_tree.specs.Typing.NodeEnds.{text_object, text_at, judge_unary, operand_of, also, is_no_declarator, alone_faults, end_of_enumerator, with_dots}
use Rattle.lt_tree.specs.Typing.ExpressionTyping.{expression, expressions, maybe, marks, mark, bindings, specifiers, type_specifiers, type_specifier, members, struct_member, member_declarators, enumerators, declarator, parts, parameters, parameter_list}
use Rattle.lt_object_laws.specs.Renamed.{renumbered, constancy_with, marks_with, mark_with}
use Rattle.lt_mark_typing.specs.Renumbered.{entity_with, typed_with, parameters_with}
use Rattle.lt_mark_typing.specs.Further.{Agrees}
use Rattle.lt_mark_typing.specs.Beside.{IsBeside, Follows}
use Rattle.lt_mark_typing.specs.Placed.{AreOld}
use Rattle.lt_mark_typing.specs.Laws.{OthersAreTypedAlike}
use Rattle.lt_mark_typing.proofs.Numbers.{extends_with, agrees_before, agrees_so_far}
use Rattle.lt_mark_typing.proofs.Going.{same_of, bind, from_there, goes_here, entered_beside}
use Rattle.lt_mark_typing.proofs.Renumbering.{judged_with, own_type_with}
use Rattle.lt_mark_typing.proofs.OneOperand.{decide_with, after_with, marked_with, typed_binding_with}
use Rattle.lt_mark_typing.proofs.TwoOperands.{logical_with, comma_with}
use Rattle.lt_mark_typing.proofs.Names.{frames_known, meaning_known, tagged_known, tag_here_known}
use Rattle.lt_mark_typing.proofs.Ends.{structs_same, finished_same, finished_alike}
use Rattle.lt_mark_typing.proofs.Knowing.{name_known, unary_known, index_known, binary_known, conditional_known, assignment_known, call_known, member_known, arrow_known, step_known, size_known, cast_known}
use Rattle.lt_mark_typing.proofs.ObjectNumbers.{object_beside, object_number}
use Rattle.lt_mark_typing.proofs.Nodes.{in_struct_member, old_first, old_second, old_member, old_members}
use Rattle.lt_mark_typing.proofs.Labels.{unmarked_same, decide_too, decide_typed, after_too, after_typed}
use Rattle.lt_mark_typing.proofs.Steps.{Same, SameWith, SameDeclares, bind_same, bind_declares, judged_same, unmarked, unmarked_beside, frames_beside, scoped, label_beside}
use Rattle.lt_mark_typing.proofs.Tags.{is_here_same, struct_found, opened_struct, closed_struct, opened_enum, closed_enum, enumerator_ended}
use Rattle.lt_mark_typing.proofs.Declarators.{built_with, may_enter, declarator_ended, parameter_bound, no_more_parameters, mark_ended}

both : {A B C : Type 0} (f : A → B → C) {x y : A} {v w : B} → x ≡ y → v ≡ w → f x v ≡ f y w
both f {x} {y} {v} {w} p q = ap (λ it. f it v) p ∙ ap (f y) q

-- ---- what is asked of expressions that are to be constant, and of names

module _ (r : ℕ → ℕ) where
  constant_with : (found : Option TypedConstant) → judge_constant found ≡ judged_with r (judge_constant found)
  unfolding judge_constant
  constant_with None = refl
  constant_with (Some c) = refl

  length_with : (x : Typed) → length_in (typed_with r x) ≡ length_in x
  length_with x = by x.constancy
    where
      by : (c : Constancy) → length_in (record (typed_with r x) { constancy = constancy_with r c }) ≡ length_in (record x { constancy = c })
      by (number z) = ap (λ t. if is_integer t then Some (length_from z) else None) (own_type_with r x)
      by null_constant = refl
      by null_address = refl
      by varying = refl
      by faulty = refl
      by (address n offset) = refl

  lengths_with : (is_outermost : Bool) (x : Option Typed) → length_or_none is_outermost (option_map (typed_with r) x) ≡ length_or_none is_outermost x
  lengths_with is_outermost None = refl
  lengths_with is_outermost (Some x) = length_with x

  pub given_with : (counted : ℤ) (x : Option Typed) → value_given counted (option_map (typed_with r) x) ≡ value_given counted x
  given_with counted None = refl
  given_with counted (Some x) = by x.constancy
    where
      by : (c : Constancy) → value_given counted (Some (record (typed_with r x) { constancy = constancy_with r c })) ≡ value_given counted (Some (record x { constancy = c }))
      by (number z) = ap (λ t. if is_integer t then Some z else None) (own_type_with r x)
      by null_constant = refl
      by null_address = refl
      by varying = refl
      by faulty = refl
      by (address n offset) = refl

  pub typedef_with : (found : Option Entity) → typedef_named (option_map (entity_with r) found) ≡ typedef_named found
  typedef_with None = refl
  typedef_with (Some (an_object n is_register)) = refl
  typedef_with (Some a_function) = refl
  typedef_with (Some (a_typedef t)) = refl
  typedef_with (Some (an_enumerator z)) = refl

module _ {new : ℕ → Bool} {used : List ℕ} where
  name_finished : (name : List ℕ) (role : Use) {further : List Bool} {k j : Known} → IsBeside new used further k j
      → Follows new used further SameWith (expression (c.Name name) role k) (expression (c.Name name) role j)
  name_finished name role {further} {k} {j} b =
      let there = entered_beside b in
      finished_same k.next j.next role _ _ (λ r a. ap (λ found. judge_name role name found (record j { next = j.next + 1 })) (meaning_known there r a name) ∙ name_known there r a role name (meaning_of name k)) there

  text_finished : (bytes : List ℕ) (role : Use) {further : List Bool} {k j : Known} → IsBeside new used further k j
      → Follows new used further SameWith (expression (c.Text bytes) role k) (expression (c.Text bytes) role j)
  unfolding text_at
  text_finished bytes role {further} {k} {j} b =
      let there = entered_beside b in
      from_there (extends_with further (false ∷ [])) (finished_same k.next j.next role _ _ (λ r a. ap (λ n. judgement [] (placed (e.Object (text_type bytes) n) (address n 0))) (object_number there r a))
      (object_beside (text_object k.next k bytes) (text_object j.next j bytes)
      (λ r a. ap (λ t. record { node = j.next; name = []; type = text_type bytes; life = if t then unmade else literal; start = Some (record { zeroed = true; parts = letters 0 S.Char bytes ∷ [] }) }) (sym (unmarked_same b))) there))

  -- ---- rules that declarators may break

  is_declared_same : (name : Option (List ℕ)) {further : List Bool} {k j : Known} → IsBeside new used further k j → is_declared_here j name ≡ is_declared_here k name
  is_declared_same None b = refl
  is_declared_same (Some w) b = is_here_same w b

  pub parameter_same : (is_definition : Bool) (name : Option (List ℕ)) {further : List Bool} {k j : Known} → IsBeside new used further k j → (it : Built)
      → parameter_faults is_definition name j it ≡ parameter_faults is_definition name k it
  parameter_same is_definition name b it =
      both (λ t structs. broken_if declared_twice t ++ broken_if incomplete_type (is_incomplete structs (adjusted it.type)) ++ broken_if floating_type (is_definition && is_floating (adjusted it.type))
      ++ broken_if function_as_value (is_definition && is_pointer_to_function (adjusted it.type))) (is_declared_same name b) (structs_same b)

  pub member_same : (list : List Member) (has_width : Bool) (name : Option (List ℕ)) {further : List Bool} {k j : Known} → IsBeside new used further k j → (it : Built)
      → member_faults list has_width name j it ≡ member_faults list has_width name k it
  member_same list has_width name b it = same_of (λ (known : Known). member_faults list has_width name known it) b (λ r n os fs ls facts h. refl)

  -- ---- marks, and tags of structs

  decided : (role : Use) (when_true when_false tag : List ℕ) (x y : Typed) (i l : ℕ) {further : List Bool} {k j : Known} → new (number_of_id when_true) ≡ false → new (number_of_id when_false) ≡ false
      → ((r : ℕ → ℕ) → Agrees r further → y ≡ typed_with r x) → IsBeside new used further k j
      → Follows new used further SameWith (finish i role (judge_decide role x when_true when_false tag k) k) (finish l role (judge_decide role y when_true when_false tag j) j)
  decided role when_true when_false tag x y i l {further} {k} {j} h g p b =
      finished_alike i l role _ _ (λ free. decide_too b role y when_true when_false tag h g (ap (λ (it : Judged). it.faults) (so (renumbered further) (agrees_so_far further)) ∙ free))
      (λ r a. decide_typed b role y when_true when_false tag ∙ ap (λ (it : Judged). it.typed) (so r a)) b
    where
      so : (r : ℕ → ℕ) → Agrees r further → judge_decide role y when_true when_false tag k ≡ judged_with r (judge_decide role x when_true when_false tag k)
      so r a = ap (λ y. judge_decide role y when_true when_false tag k) (p r a) ∙ decide_with r role x when_true when_false tag k

  came_after : (role : Use) (id tag : List ℕ) (x y : Typed) (i l : ℕ) {further : List Bool} {k j : Known} → new (number_of_id id) ≡ false
      → ((r : ℕ → ℕ) → Agrees r further → y ≡ typed_with r x) → IsBeside new used further k j
      → Follows new used further SameWith (finish i role (judge_after role x id tag k) k) (finish l role (judge_after role y id tag j) j)
  came_after role id tag x y i l {further} {k} {j} h p b =
      finished_alike i l role _ _ (λ free. after_too b role y id tag h (ap (λ (it : Judged). it.faults) (so (renumbered further) (agrees_so_far further)) ∙ free))
      (λ r a. after_typed b role y id tag ∙ ap (λ (it : Judged). it.typed) (so r a)) b
    where
      so : (r : ℕ → ℕ) → Agrees r further → judge_after role y id tag k ≡ judged_with r (judge_after role x id tag k)
      so r a = ap (λ y. judge_after role y id tag k) (p r a) ∙ after_with r role x id tag k

  tagged_struct : (tag : List ℕ) (alone : Bool) {further : List Bool} {k j : Known} → IsBeside new used further k j
      → Follows new used further Same (struct_tagged tag (if alone then tag_here tag k else tagged_in tag k.frames) k) (struct_tagged tag (if alone then tag_here tag j else tagged_in tag j.frames) j)
  tagged_struct tag true {further} {k} {j} b =
      subst (λ found. Follows new used further Same (struct_tagged tag (tag_here tag k) k) (struct_tagged tag found j)) (sym (tag_here_known b (renumbered further) (agrees_so_far further) tag)) (struct_found tag (tag_here tag k) b)
  tagged_struct tag false {further} {k} {j} b =
      subst (λ found. Follows new used further Same (struct_tagged tag (tagged_in tag k.frames) k) (struct_tagged tag found j)) (sym (tagged_known b (renumbered further) (agrees_so_far further) tag)) (struct_found tag (tagged_in tag k.frames) b)

  -- ---- all that stands in expressions

  mutual
    pub of_expression : (it : c.Expression) (role : Use) {further : List Bool} {k j : Known} → AreOld new (in_expression it) → IsBeside new used further k j
        → Follows new used further SameWith (expression it role k) (expression it role j)
    of_expression (c.Name w) role h b = name_finished w role b
    of_expression (c.Constant w) role {further} {k} {j} h b =
        let there = entered_beside b in
        finished_same k.next j.next role _ _ (λ r a. same_of (λ (it : Known). judge_constant (constant_of it.model w)) there (λ r n os fs ls facts h. refl) ∙ constant_with r (constant_of k.model w)) there
    of_expression (c.Text bytes) role h b = text_finished bytes role b
    of_expression (c.Index whole index) role {further} {k} {j} h b =
        bind (of_expression whole as_value (old_first new (in_expression whole) (in_expression index) h.1) (entered_beside b)) (λ x y m n f e p b.
        bind (of_expression index as_value (old_second new (in_expression whole) (in_expression index) h.1) b) (λ v w m n g e q b.
        finished_same k.next j.next role _ _ (λ r a. both (λ y w. judge_index y w n) (p r (agrees_before e a)) (q r a) ∙ index_known b r a x v) b))
    of_expression (c.Call callee arguments) role {further} {k} {j} h b =
        bind (of_expression callee as_callee (old_first new (in_expression callee) (in_expressions arguments) h.1) (entered_beside b)) (λ x y m n f e p b.
        bind (of_expressions arguments (old_second new (in_expression callee) (in_expressions arguments) h.1) b) (λ vs ws m n g e q b.
        finished_same k.next j.next role _ _ (λ r a. both (λ y ws. judge_call y ws n) (p r (agrees_before e a)) (q r a) ∙ call_known b r a x vs) b))
    of_expression (c.Member whole w) role {further} {k} {j} h b =
        bind (of_expression whole as_place h.1 (entered_beside b)) (λ x y m n f e p b. finished_same k.next j.next role _ _ (λ r a. ap (λ y. judge_member y w n) (p r a) ∙ member_known b r a x w) b)
    of_expression (c.Arrow pointer w) role {further} {k} {j} h b =
        bind (of_expression pointer as_value h.1 (entered_beside b)) (λ x y m n f e p b. finished_same k.next j.next role _ _ (λ r a. ap (λ y. judge_arrow y w n) (p r a) ∙ arrow_known b r a x w) b)
    of_expression (c.PostInc target) role {further} {k} {j} h b =
        bind (of_expression target as_place h.1 (entered_beside b)) (λ x y m n f e p b. finished_same k.next j.next role _ _ (λ r a. ap (λ y. judge_step before O.Add y n) (p r a) ∙ step_known b r a before O.Add x) b)
    of_expression (c.PostDec target) role {further} {k} {j} h b =
        bind (of_expression target as_place h.1 (entered_beside b)) (λ x y m n f e p b. finished_same k.next j.next role _ _ (λ r a. ap (λ y. judge_step before O.Sub y n) (p r a) ∙ step_known b r a before O.Sub x) b)
    of_expression (c.PreInc target) role {further} {k} {j} h b =
        bind (of_expression target as_place h.1 (entered_beside b)) (λ x y m n f e p b. finished_same k.next j.next role _ _ (λ r a. ap (λ y. judge_step after O.Add y n) (p r a) ∙ step_known b r a after O.Add x) b)
    of_expression (c.PreDec target) role {further} {k} {j} h b =
        bind (of_expression target as_place h.1 (entered_beside b)) (λ x y m n f e p b. finished_same k.next j.next role _ _ (λ r a. ap (λ y. judge_step after O.Sub y n) (p r a) ∙ step_known b r a after O.Sub x) b)
    of_expression (c.Unary op operand) role {further} {k} {j} h b =
        bind (of_expression operand (operand_of op) h.1 (entered_beside b)) (λ x y m n f e p b. finished_same k.next j.next role _ _ (λ r a. ap (λ y. judge_unary op y n) (p r a) ∙ unary_known b r a op x) b)
    of_expression (c.SizeofExpr operand) role {further} {k} {j} h b =
        bind (unmarked k.is_unmarked j.is_unmarked (unmarked_same b) (of_expression operand as_place h.1 (unmarked_beside (entered_beside b)))) (λ x y m n f e p b.
        finished_same k.next j.next role _ _ (λ r a. ap (λ t. judge_size t n) (ap own_type (p r a) ∙ own_type_with r x) ∙ size_known b r a (own_type x)) b)
    of_expression (c.SizeofType s d) role {further} {k} {j} h b =
        bind_same (of_specifiers s (setting_in_sizeof d) (old_first new (in_specifiers s) (in_declarator d) h.1) (entered_beside b)) (λ it m n f e b.
        bind_declares (λ t n. finish j.next role (also t.faults (judge_size t.type n)) n)
        (of_declarator d it false (λ name known b. type_name_faults b) (λ name further k j r a b built. refl) (old_second new (in_specifiers s) (in_declarator d) h.1) b)
        (λ t i parameters m n g e q b. finished_same k.next j.next role _ _ (λ r a. ap (also t.faults) (size_known b r a t.type)) b))
    of_expression (c.Cast s d operand) role {further} {k} {j} h b =
        let front = old_first new (in_specifiers s ++ in_declarator d) (in_expression operand) h.1 in
        bind_same (of_specifiers s elsewhere (old_first new (in_specifiers s) (in_declarator d) front) (entered_beside b)) (λ it m n f e b.
        bind_declares (λ t n. goes_on (expression operand as_value n) (λ x n. finish j.next role (also t.faults (judge_cast t.type x n)) n))
        (of_declarator d it false (λ name known b. type_name_faults b) (λ name further k j r a b built. refl) (old_second new (in_specifiers s) (in_declarator d) front) b)
        (λ t i parameters m n g e q b. bind (of_expression operand as_value (old_second new (in_specifiers s ++ in_declarator d) (in_expression operand) h.1) b) (λ x y m n o e p b.
        finished_same k.next j.next role _ _ (λ r a. ap (also t.faults) (ap (λ y. judge_cast t.type y n) (p r a) ∙ cast_known b r a t.type x)) b)))
    of_expression (c.Binary op left right) role {further} {k} {j} h b =
        bind (of_expression left as_value (old_first new (in_expression left) (in_expression right) h.1) (entered_beside b)) (λ x y m n f e p b.
        bind (of_expression right as_value (old_second new (in_expression left) (in_expression right) h.1) b) (λ v w m n g e q b.
        finished_same k.next j.next role _ _ (λ r a. both (λ y w. judge_binary op y w n) (p r (agrees_before e a)) (q r a) ∙ binary_known b r a op x v) b))
    of_expression (c.Logical op left right) role {further} {k} {j} h b =
        bind (of_expression left as_truth (old_first new (in_expression left) (in_expression right) h.1) (entered_beside b)) (λ x y m n f e p b.
        bind (of_expression right as_truth (old_second new (in_expression left) (in_expression right) h.1) b) (λ v w m n g e q b.
        finished_same k.next j.next role _ _ (λ r a. both (judge_logical op) (p r (agrees_before e a)) (q r a) ∙ logical_with r op x v) b))
    of_expression (c.Conditional test left right) role {further} {k} {j} h b =
        let front = old_first new (in_expression test ++ in_expression left) (in_expression right) h.1 in
        bind (of_expression test as_truth (old_first new (in_expression test) (in_expression left) front) (entered_beside b)) (λ s t m n f d o b.
        bind (of_expression left as_value (old_second new (in_expression test) (in_expression left) front) b) (λ x y m n g e p b.
        bind (of_expression right as_value (old_second new (in_expression test ++ in_expression left) (in_expression right) h.1) b) (λ v w m n i l q b.
        finished_same k.next j.next role _ _ (λ r a. ap (λ t. judge_conditional t y w n) (o r (agrees_before e (agrees_before l a)))
        ∙ both (λ y w. judge_conditional (typed_with r s) y w n) (p r (agrees_before l a)) (q r a) ∙ conditional_known b r a s x v) b)))
    of_expression (c.Assign op target value) role {further} {k} {j} h b =
        bind (of_expression target as_place (old_first new (in_expression target) (in_expression value) h.1) (entered_beside b)) (λ x y m n f e p b.
        bind (of_expression value as_value (old_second new (in_expression target) (in_expression value) h.1) b) (λ v w m n g e q b.
        finished_same k.next j.next role _ _ (λ r a. both (λ y w. judge_assignment op y w n) (p r (agrees_before e a)) (q r a) ∙ assignment_known b r a op x v) b))
    of_expression (c.Comma list) role {further} {k} {j} h b =
        bind (of_expressions list h.1 (entered_beside b)) (λ xs ys m n f e p b. finished_same k.next j.next role _ _ (λ r a. ap judge_comma (p r a) ∙ comma_with r xs) b)
    of_expression (c.Marked ms value) role {further} {k} {j} h b =
        bind (of_marks ms (old_first new (in_marks ms) (in_expression value) h.1) (entered_beside b)) (λ typed other m n f e p b.
        bind (of_expression value (inside_mark role) (old_second new (in_marks ms) (in_expression value) h.1) b) (λ x y m n g e q b.
        finished_same k.next j.next role _ _ (λ r a. both judge_marked (p r (agrees_before e a)) (q r a) ∙ marked_with r typed x) b))
    of_expression (c.Decide operand when_true when_false tag) role {further} {k} {j} h b =
        bind (of_expression operand (inside_mark role) h.1 (entered_beside b)) (λ x y m n f e p b.
        bind (decided role when_true when_false tag x y k.next j.next h.0.0 h.0.1 p b)
        (λ v w m n g e q b. goes_here q (label_beside (label_of when_false tag []) h.0.1 (label_beside (label_of when_true tag []) h.0.0 b))))
    of_expression (c.After operand id tag) role {further} {k} {j} h b =
        bind (of_expression operand (inside_after role) h.1 (entered_beside b)) (λ x y m n f e p b.
        bind (came_after role id tag x y k.next j.next h.0 p b) (λ v w m n g e q b. goes_here q (label_beside (label_of id tag []) h.0 b)))

    of_expressions : (them : c.Expressions) {further : List Bool} {k j : Known} → AreOld new (in_expressions them) → IsBeside new used further k j
        → Follows new used further (λ r xs ys. ys ≡ map (typed_with r) xs) (expressions them k) (expressions them j)
    of_expressions c.no_expressions h b = goes_here (λ r a. refl) b
    of_expressions (c.an_expression first rest) h b =
        bind (of_expression first as_value (old_first new (in_expression first) (in_expressions rest) h) b) (λ x y m n f e p b.
        bind (of_expressions rest (old_second new (in_expression first) (in_expressions rest) h) b) (λ xs ys m n g e q b. goes_here (λ r a. both (λ y ys. y ∷ ys) (p r (agrees_before e a)) (q r a)) b))

    pub of_maybe : (it : c.Maybe) {further : List Bool} {k j : Known} → AreOld new (in_maybe it) → IsBeside new used further k j
        → Follows new used further (λ r x y. y ≡ option_map (typed_with r) x) (maybe it k) (maybe it j)
    of_maybe c.absent h b = goes_here (λ r a. refl) b
    of_maybe (c.present it) {further} {k} {j} h b =
        bind (unmarked k.is_unmarked j.is_unmarked (unmarked_same b) (of_expression it as_value h (unmarked_beside b))) (λ x y m n f e p b. goes_here (λ r a. ap Some (p r a)) b)

    pub of_marks : (them : c.Marks) {further : List Bool} {k j : Known} → AreOld new (in_marks them) → IsBeside new used further k j
        → Follows new used further (λ r ms ns. ns ≡ marks_with r ms) (marks them k) (marks them j)
    of_marks c.no_marks h b = goes_here (λ r a. refl) b
    of_marks (c.a_mark first rest) h b =
        bind (of_mark first (old_first new (in_mark first) (in_marks rest) h) b) (λ x y m n f l p b.
        bind (of_marks rest (old_second new (in_mark first) (in_marks rest) h) b) (λ xs ys m n g l q b. goes_here (λ r a. both e.a_mark (p r (agrees_before l a)) (q r a)) b))

    pub of_mark : (it : c.Mark) {further : List Bool} {k j : Known} → AreOld new (in_mark it) → IsBeside new used further k j
        → Follows new used further (λ r m n. n ≡ mark_with r m) (mark it k) (mark it j)
    of_mark (c.mark predicate id tag bound) {further} {k} {j} h b =
        bind (of_expression predicate as_value (old_first new (in_expression predicate) (in_bindings bound) h.1) (entered_beside b)) (λ x y m n f e p b.
        bind (of_bindings bound (old_second new (in_expression predicate) (in_bindings bound) h.1) b) (λ xs ys m n g e q b.
        mark_ended k.next j.next predicate x y id tag xs ys h.0 (λ r a. p r (agrees_before e a)) q b))

    of_bindings : (them : c.Bindings) {further : List Bool} {k j : Known} → AreOld new (in_bindings them) → IsBeside new used further k j
        → Follows new used further (λ r xs ys. ys ≡ map (typed_binding_with r) xs) (bindings them k) (bindings them j)
    of_bindings c.no_bindings h b = goes_here (λ r a. refl) b
    of_bindings (c.a_binding name value rest) h b =
        bind (of_expression value as_value (old_first new (in_expression value) (in_bindings rest) h) b) (λ x y m n f e p b.
        bind (of_bindings rest (old_second new (in_expression value) (in_bindings rest) h) b) (λ xs ys m n g e q b.
        goes_here (λ r a. both (λ y ys. record { name = name; written = value; typed = y } ∷ ys) (p r (agrees_before e a)) (q r a)) b))

    pub of_specifiers : (it : c.Specifiers) (setting : Setting) {further : List Bool} {k j : Known} → AreOld new (in_specifiers it) → IsBeside new used further k j
        → Follows new used further Same (specifiers it setting k) (specifiers it setting j)
    of_specifiers (c.specifiers words types) setting h b = bind_same (of_types types (beside_words words setting) h b) (λ namings m n f e b. goes_here (λ r a. refl) b)

    of_types : (them : c.TypeSpecifiers) (setting : Setting) {further : List Bool} {k j : Known} → AreOld new (in_types them) → IsBeside new used further k j
        → Follows new used further Same (type_specifiers them setting k) (type_specifiers them setting j)
    of_types c.no_types setting h b = goes_here (λ r a. refl) b
    of_types (c.a_type first rest) setting h b =
        bind_same (of_type first setting (old_first new (in_type first) (in_types rest) h) b) (λ it m n f e b.
        bind_same (of_types rest setting (old_second new (in_type first) (in_types rest) h) b) (λ others m n g e b. goes_here (λ r a. refl) b))

    of_type : (it : c.TypeSpecifier) (setting : Setting) {further : List Bool} {k j : Known} → AreOld new (in_type it) → IsBeside new used further k j
        → Follows new used further Same (type_specifier it setting k) (type_specifier it setting j)
    of_type (c.Basic type) setting h b = goes_here (λ r a. refl) b
    of_type (c.Word word) setting h b = goes_here (λ r a. refl) b
    of_type (c.StructTag tag) setting h b = tagged_struct tag (is_alone setting) b
    of_type (c.Struct tag list) setting h b =
        bind_same (opened_struct tag b) (λ opened m n f e b. bind_same (of_members list [] h b) (λ found m n g e b. closed_struct opened found b))
    of_type (c.EnumTag tag) setting h b = goes_here (λ r a. ap (enum_tagged setting) (tagged_known b r a tag)) b
    of_type (c.Enum tag list) setting h b =
        bind_same (opened_enum tag b) (λ faults m n f e b. bind_same (of_enumerators list (pos 0) h b) (λ u m n g e b. closed_enum tag faults b))
    of_type (c.Named name) setting {further} {k} h b = goes_here (λ r a. ap typedef_named (meaning_known b r a name) ∙ typedef_with r (meaning_of name k)) b

    of_members : (them : c.Members) (list : List Member) {further : List Bool} {k j : Known} → AreOld new (in_members them) → IsBeside new used further k j
        → Follows new used further Same (members them list k) (members them list j)
    of_members c.no_members list h b = goes_here (λ r a. refl) b
    of_members (c.a_member first rest) list h b =
        bind_same (of_struct_member first list (old_member new first rest h) b) (λ longer m n f e b. of_members rest longer (old_members new first rest h) b)

    of_struct_member : (it : c.StructMember) (list : List Member) {further : List Bool} {k j : Known} → AreOld new (in_struct_member it) → IsBeside new used further k j
        → Follows new used further Same (struct_member it list k) (struct_member it list j)
    of_struct_member (c.member sp ds) list {further} {k} {j} h b =
        bind_same (of_specifiers sp elsewhere (old_first new (in_specifiers sp) (in_member_declarators ds) h) (entered_beside b)) (λ it m n f e b.
        bind_same (of_member_declarators ds it list (old_second new (in_specifiers sp) (in_member_declarators ds) h) b) (λ found m n g e b.
        bind_same (judged_same k.next j.next (broken_if incomplete_type (is_no_declarator ds) ++ alone_faults (is_no_declarator ds) it ++ found.faults) (broken_if incomplete_type (is_no_declarator ds) ++ alone_faults (is_no_declarator ds) it ++ found.faults) refl b)
        (λ u m n i e b. goes_here (λ r a. refl) b)))

    of_member_declarators : (them : c.MemberDeclarators) (it : Specified) (list : List Member) {further : List Bool} {k j : Known} → AreOld new (in_member_declarators them) → IsBeside new used further k j
        → Follows new used further Same (member_declarators them it list k) (member_declarators them it list j)
    of_member_declarators c.no_declarators it list h b = goes_here (λ r a. refl) b
    of_member_declarators (c.a_declarator d width rest) it list h b =
        let front = old_first new (in_declarator d ++ in_maybe width) (in_member_declarators rest) h in
        bind_declares (λ t n. goes_on (maybe width n) (λ written n. goes_on (member_declarators rest it (with_member list t) n) (λ found n. Goes (record found { faults = t.faults ++ found.faults }) n)))
        (of_declarator d it false (member_faults list (has_width width)) (λ name further k j r a b built. member_same list (has_width width) name b built) (old_first new (in_declarator d) (in_maybe width) front) b)
        (λ declared i parameters m n f e q b. bind (of_maybe width (old_second new (in_declarator d) (in_maybe width) front) b) (λ x y m n g e p b.
        bind_same (of_member_declarators rest it (with_member list declared) (old_second new (in_declarator d ++ in_maybe width) (in_member_declarators rest) h) b) (λ found m n o e b. goes_here (λ r a. refl) b)))

    of_enumerators : (them : c.Enumerators) (counted : ℤ) {further : List Bool} {k j : Known} → AreOld new (in_enumerators them) → IsBeside new used further k j
        → Follows new used further Same (enumerators them counted k) (enumerators them counted j)
    of_enumerators c.no_enumerators counted h b = goes_here (λ r a. refl) b
    of_enumerators (c.an_enumerator name value rest) counted {further} {k} {j} h b =
        bind (of_maybe value (old_first new (in_maybe value) (in_enumerators rest) h.1) (entered_beside b)) (λ x y m n f e p b.
        bind_same (subst (λ z. Follows new used f Same (end_of_enumerator k.next name (value_given counted x) m) (end_of_enumerator j.next name z n))
        (sym (ap (value_given counted) (p (renumbered f) (agrees_so_far f)) ∙ given_with (renumbered f) counted x)) (enumerator_ended k.next j.next name (value_given counted x) b))
        (λ next m n g e b. of_enumerators rest next (old_second new (in_maybe value) (in_enumerators rest) h.1) b))

    pub of_declarator : (it : c.Declarator) (sp : Specified) (is_definition : Bool) (judge : Option (List ℕ) → Known → Built → List Rule)
        (judged : (name : Option (List ℕ)) (further : List Bool) (k j : Known) (r : ℕ → ℕ) → Agrees r further → IsBeside new used further k j → (built : Built) → judge name j (built_with r built) ≡ judge name k built)
        {further : List Bool} {k j : Known} → AreOld new (in_declarator it) → IsBeside new used further k j
        → Follows new used further SameDeclares (declarator it sp is_definition judge k) (declarator it sp is_definition judge j)
    of_declarator (c.declarator name ps) sp is_definition judge judged h b =
        bind (may_enter (is_written name ps) b) (λ x y m n f e t b.
        bind (of_parts ps sp.type is_definition true (old_second new (if_written name ps) (in_parts ps) h) b) (λ it other m n g e q b.
        declarator_ended x y name it other (all_faults sp it (judge name m it)) (all_faults sp other (judge name n other)) (t (renumbered f) (agrees_so_far f)) q
        (ap (λ it. all_faults sp it (judge name n it)) (q (renumbered g) (agrees_so_far g)) ∙ ap (all_faults sp it) (judged name g m n (renumbered g) (agrees_so_far g) b it)) b))

    of_parts : (them : c.Parts) (t : CType) (is_definition is_outermost : Bool) {further : List Bool} {k j : Known} → AreOld new (in_parts them) → IsBeside new used further k j
        → Follows new used further (λ r x y. y ≡ built_with r x) (parts them t is_definition is_outermost k) (parts them t is_definition is_outermost j)
    of_parts c.no_parts t is_definition is_outermost h b = goes_here (λ r a. refl) b
    of_parts (c.Pointer q rest) t is_definition is_outermost h b = bind (of_parts rest t false false h b) (λ x y m n f e p b. goes_here (λ r a. ap (pointer_to q) (p r a)) b)
    of_parts (c.Array length rest) t is_definition is_outermost h b =
        bind (of_maybe length (old_first new (in_maybe length) (in_parts rest) h) b) (λ x y m n f e p b.
        bind (of_parts rest t false false (old_second new (in_maybe length) (in_parts rest) h) b) (λ v w m n g e q b.
        goes_here (λ r a. both (λ i w. array_of n i w) (ap (length_or_none is_outermost) (p r (agrees_before e a)) ∙ lengths_with r is_outermost x) (q r a)
        ∙ same_of (λ (known : Known). array_of known (length_or_none is_outermost x) v) b (λ r n os fs ls facts h. refl)) b))
    of_parts (c.Function them rest) t is_definition is_outermost {further} {k} {j} h b =
        bind (scoped k.frames j.frames (frames_known b) (of_parameters them is_definition (old_first new (in_parameters them) (in_parts rest) h)
        (frames_beside (no_names ∷ k.frames) (no_names ∷ j.frames) (λ r a. ap (λ frames. no_names ∷ frames) (frames_known b r a)) b))) (λ x y m n f e p b.
        bind (of_parts rest t false false (old_second new (in_parameters them) (in_parts rest) h) b) (λ v w m n g e q b. goes_here (λ r a. both function_of (p r (agrees_before e a)) (q r a)) b))

    of_parameters : (them : c.Parameters) (is_definition : Bool) {further : List Bool} {k j : Known} → AreOld new (in_parameters them) → IsBeside new used further k j
        → Follows new used further (λ r x y. y ≡ parameters_with r x) (parameters them is_definition k) (parameters them is_definition j)
    of_parameters c.Unstated is_definition h b = no_more_parameters b
    of_parameters c.Void is_definition h b = no_more_parameters b
    of_parameters (c.Listed list) is_definition h b = of_parameter_list list is_definition h b
    of_parameters (c.Open list) is_definition h b = bind (of_parameter_list list is_definition h b) (λ x y m n f e p b. goes_here (λ r a. ap with_dots (p r a)) b)

    of_parameter_list : (them : c.ParameterList) (is_definition : Bool) {further : List Bool} {k j : Known} → AreOld new (in_parameter_list them) → IsBeside new used further k j
        → Follows new used further (λ r x y. y ≡ parameters_with r x) (parameter_list them is_definition k) (parameter_list them is_definition j)
    of_parameter_list c.no_parameters is_definition h b = no_more_parameters b
    of_parameter_list (c.a_parameter sp d rest) is_definition h b =
        let front = old_first new (in_specifiers sp ++ in_declarator d) (in_parameter_list rest) h in
        bind_same (of_specifiers sp elsewhere (old_first new (in_specifiers sp) (in_declarator d) front) b) (λ it m n f e b.
        bind_declares (λ t n. goes_on (binds_parameter is_definition (is_register it) t.node t.name (adjusted t.type) n) (λ objects n. goes_on (parameter_list rest is_definition n) (λ others n. Goes (parameter_before t objects others) n)))
        (of_declarator d it false (parameter_faults is_definition) (λ name further k j r a b built. parameter_same is_definition name b built) (old_second new (in_specifiers sp) (in_declarator d) front) b)
        (λ declared i parameters m n g e q b. bind (parameter_bound is_definition (is_register it) declared.node i declared.name (adjusted declared.type) b) (λ xs ys m n o e p b.
        bind (of_parameter_list rest is_definition (old_second new (in_specifiers sp ++ in_declarator d) (in_parameter_list rest) h) b) (λ v w m n l e q b.
        goes_here (λ r a. both (parameter_before declared) (p r (agrees_before e a)) (q r a) ∙ ap (λ objects. record (parameters_with r (parameter_before declared xs v)) { objects = objects }) (sym (map-append r xs v.objects))) b))))

pub others_alike : OthersAreTypedAlike
others_alike new role used further known other it h b = of_expression it role h b
