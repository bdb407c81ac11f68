-- Expressions, and what stands inside them, are gone over alike where greater ids are good.
use Rattle.std.proofs.Common.{◌≡◌, ◌≤◌, ℕ, Bool, true, false, List, [], ◌∷◌, ◌++◌, length, Option, Some, None, refl, ap, ◌∙◌}
use Rattle.std.specs.Prelude.{ℤ, pos, not, ◌&&◌, ◌==◌, if◌then◌else◌}
use Rattle.std.specs.List.{list_all}
use Rattle.lt_model.specs.declared.operator.Op.TheVariants as O
use Rattle.lt_tree.specs.Tree as c
use Rattle.lt_tree.specs.Purity.{is_pure}
use Rattle.lt_tree.specs.Typing.Types.{CType, Struct, adjusted, is_scalar}
use Rattle.lt_tree.specs.Typing.Extents.{Member, has_too_many_cells}
use Rattle.lt_tree.specs.Typing.Constants.{constant_of}
use Rattle.lt_tree.specs.Typing.Rules.{Rule, broken_if, unless, incomplete_type, bad_mark, bad_length}
use Rattle.lt_tree.specs.Typing.TypedTree.{before, after as behind}
use Rattle.lt_tree.specs.Typing.Entities.{Known, Tagged, a_struct, an_enum, meaning_of, tag_here, tagged_in, no_names}
use Rattle.lt_tree.specs.Typing.Steps.{Outcome, Goes, settle}
use Rattle.lt_tree.specs.Typing.Expressions.{Typed, Use, as_value, as_truth, as_place, as_callee, own_type, finish}
use Rattle.lt_tree.specs.Typing.Operations.{judge_name, judge_constant, judge_step, judge_size, judge_member, judge_arrow, judge_index, judge_call, judge_cast}
use Rattle.lt_tree.specs.Typing.BinaryOperations.{judge_binary, judge_logical, judge_conditional, judge_assignment, judge_comma}
use Rattle.lt_tree.specs.Typing.MarkRules.{TypedBinding, names_of, is_good_id, is_tag, is_good_binding, are_new_names, is_good_mark, number_of_id, is_truth, is_good_decision, is_lvalue_in_use, judge_decide, inside_mark, inside_after, judge_after, judge_marked}
use Rattle.lt_tree.specs.Typing.Specifying.{Naming, struct_faults, OpenStruct, Specified, is_register, is_complete_struct, struct_tagged, Setting, is_alone, elsewhere, beside_words, open_tagged, open_struct, open_enum, close_enum, with_members, close_struct, value_given, enumerator_faults}
use Rattle.lt_tree.specs.Typing.Declarators.{Built, declares, all_faults, setting_in_sizeof, is_written, type_name_faults, parameter_faults, binds_parameter, member_faults, with_member, has_width}
use Rattle.lt_tree.specs.Typing.NodeEnds.{text_object, text_at, judge_unary, operand_of, also, is_no_declarator, alone_faults, enter_if, end_of_declarator}
use Rattle.lt_tree.specs.Typing.ExpressionTyping.{expression, expressions, maybe, marks, mark, bindings, specifiers, type_specifiers, type_specifier, members, struct_member, member_declarators, enumerators, declarator, parts, parameters, parameter_list}
use Rattle.lt_mark_typing.proofs.GoodIds.{third_more, fourth_more, fourth_and_fifth_more}
use Rattle.lt_mark_typing.proofs.Operators.{unless_more}
use Rattle.lt_greater_ids.proofs.Rising.{raised, Rises, goes, bind, settled, judged, finished_if, finished, unmarked, scoped, good_id, entered, unmarked_here}
use Rattle.lt_greater_ids.proofs.Alike.{name_alike, index_alike, call_alike, member_alike, arrow_alike, step_alike, unary_alike, size_alike, cast_alike, binary_alike, conditional_alike, assignment_alike}

-- a struct that is closed, where it is known whether it was complete before
abbrev closing : ℕ → List Member → Bool → Known → Known
closing n list is_complete known = (if is_complete then (λ (known : Known). known) else with_members n list) known

abbrev closed : OpenStruct → List Member → Bool → Known → Outcome Naming
closed opened list is_complete known =
    let after : Known = closing opened.number list is_complete known in
    Goes (record { type = Some (Struct opened.number); faults = struct_faults known opened list ++ broken_if bad_length (has_too_many_cells after.structs (Struct opened.number)) }) after

module _ {more : ℕ} where
  -- ---- tags

  of_struct_tag : (tag : List ℕ) (found : Option Tagged) (known : Known) → known.greatest_id ≤ more → Rises more (struct_tagged tag found known) (struct_tagged tag found (raised more known))
  of_struct_tag tag None known h = goes refl h
  of_struct_tag tag (Some (a_struct k)) known h = goes refl h
  of_struct_tag tag (Some (an_enum is_complete)) known h = goes refl h

  of_open_tag : (tag : List ℕ) (found : Option Tagged) (known : Known) → known.greatest_id ≤ more → Rises more (open_tagged tag found known) (open_tagged tag found (raised more known))
  of_open_tag tag None known h = goes refl h
  of_open_tag tag (Some (a_struct k)) known h = goes refl h
  of_open_tag tag (Some (an_enum is_complete)) known h = goes refl h

  of_open_struct : (tag : Option (List ℕ)) (known : Known) → known.greatest_id ≤ more → Rises more (open_struct tag known) (open_struct tag (raised more known))
  of_open_struct None known h = goes refl h
  of_open_struct (Some tag) known h = of_open_tag tag (tag_here tag known) known h

  closed_by : (opened : OpenStruct) (list : List Member) (is_complete : Bool) (known : Known) → known.greatest_id ≤ more → Rises more (closed opened list is_complete known) (closed opened list is_complete (raised more known))
  closed_by opened list true known h = goes refl h
  closed_by opened list false known h = goes refl h

  of_close : (opened : OpenStruct) (list : List Member) (known : Known) → known.greatest_id ≤ more → Rises more (close_struct opened list known) (close_struct opened list (raised more known))
  of_close opened list known h = closed_by opened list (is_complete_struct known.structs opened.number) known h

  of_open_enum : (tag : Option (List ℕ)) (known : Known) → known.greatest_id ≤ more → Rises more (open_enum tag known) (open_enum tag (raised more known))
  of_open_enum None known h = goes refl h
  of_open_enum (Some tag) known h = goes refl h

  of_close_enum : (tag : Option (List ℕ)) (faults : List Rule) (known : Known) → known.greatest_id ≤ more → Rises more (close_enum tag faults known) (close_enum tag faults (raised more known))
  of_close_enum None faults known h = goes refl h
  of_close_enum (Some tag) faults known h = goes refl h

  -- ---- declarators

  of_binding_parameter : (is_definition is_register : Bool) (at : ℕ) (name : Option (List ℕ)) (t : CType) (known : Known) → known.greatest_id ≤ more
      → Rises more (binds_parameter is_definition is_register at name t known) (binds_parameter is_definition is_register at name t (raised more known))
  of_binding_parameter is_definition is_register at None t known h = goes refl h
  of_binding_parameter is_definition is_register at (Some name) t known h = goes refl h

  may_enter : (written : Bool) (known : Known) → known.greatest_id ≤ more → Rises more (enter_if written known) (enter_if written (raised more known))
  may_enter true known h = goes refl h
  may_enter false known h = goes refl h

  ended_declarator : (node : Option ℕ) (name : Option (List ℕ)) (b : Built) (xs ys : List Rule) (known : Known) → ys ≡ xs → known.greatest_id ≤ more
      → Rises more (end_of_declarator node name b xs known) (end_of_declarator node name b ys (raised more known))
  ended_declarator None name b xs ys known e h = goes (ap (declares 0 name b) e) h
  ended_declarator (Some node) name b xs ys known e h = bind (settled node xs ys known (λ r. e ∙ r) h) (λ u k h. goes refl h)

  -- ---- marks

  decided : (node : ℕ) (role : Use) (x : Typed) (when_true when_false tag : List ℕ) (known : Known) → known.greatest_id ≤ more
      → Rises more (finish node role (judge_decide role x when_true when_false tag known) known) (finish node role (judge_decide role x when_true when_false tag (raised more known)) (raised more known))
  unfolding judge_decide
  decided node role x when_true when_false tag known h =
      let there = raised more known in
      finished_if node role (judge_decide role x when_true when_false tag known) (unless (is_good_decision role there x when_true when_false tag) bad_mark) known
      (unless_more bad_mark (is_good_decision role known x when_true when_false tag) (is_good_decision role there x when_true when_false tag)
      (fourth_and_fifth_more (is_truth role) (not known.is_unmarked) (is_scalar (own_type x)) (is_good_id known when_true) (is_good_id known when_false) (is_good_id there when_true) (is_good_id there when_false)
      (not (number_of_id when_true == number_of_id when_false)) (is_tag tag) (good_id known when_true h) (good_id known when_false h))) h

  noted : (node : ℕ) (role : Use) (x : Typed) (id tag : List ℕ) (known : Known) → known.greatest_id ≤ more
      → Rises more (finish node role (judge_after role x id tag known) known) (finish node role (judge_after role x id tag (raised more known)) (raised more known))
  unfolding judge_after
  noted node role x id tag known h =
      let there = raised more known in
      finished_if node role (judge_after role x id tag known) (unless (not (is_lvalue_in_use role x) && not known.is_unmarked && is_good_id there id && is_tag tag) bad_mark) known
      (unless_more bad_mark (not (is_lvalue_in_use role x) && not known.is_unmarked && is_good_id known id && is_tag tag) (not (is_lvalue_in_use role x) && not known.is_unmarked && is_good_id there id && is_tag tag)
      (third_more (not (is_lvalue_in_use role x)) (not known.is_unmarked) (is_good_id known id) (is_good_id there id) (is_tag tag) (good_id known id h))) h

  labelled : (node : ℕ) (predicate : c.Expression) (x : Typed) (id tag : List ℕ) (bs : List TypedBinding) (known : Known) → known.greatest_id ≤ more
      → Rises more (settle node (unless (is_good_mark known predicate x id tag bs) bad_mark) known) (settle node (unless (is_good_mark (raised more known) predicate x id tag bs) bad_mark) (raised more known))
  labelled node predicate x id tag bs known h =
      let there = raised more known in
      settled node (unless (is_good_mark known predicate x id tag bs) bad_mark) (unless (is_good_mark there predicate x id tag bs) bad_mark) known
      (unless_more bad_mark (is_good_mark known predicate x id tag bs) (is_good_mark there predicate x id tag bs)
      (fourth_more (not known.is_unmarked) (is_scalar (own_type x)) (is_pure predicate) (is_good_id known id) (is_good_id there id) (is_tag tag) (list_all is_good_binding bs) (are_new_names known (names_of bs)) (good_id known id h))) h

  -- ---- expressions

  of_text : (bytes : List ℕ) (role : Use) (known : Known) → known.greatest_id ≤ more → Rises more (expression (c.Text bytes) role known) (expression (c.Text bytes) role (raised more known))
  unfolding text_at
  of_text bytes role known h =
      finished known.next role (λ k. text_at (entered known) bytes (length known.objects)) (record (entered known) { objects = known.objects ++ text_object known.next (entered known) bytes ∷ [] }) refl h

  mutual
    pub of_expression : (it : c.Expression) (role : Use) (known : Known) → known.greatest_id ≤ more → Rises more (expression it role known) (expression it role (raised more known))
    of_expression (c.Name name) role known h = finished known.next role (judge_name role name (meaning_of name known)) (entered known) (name_alike more (entered known) role name (meaning_of name known)) h
    of_expression (c.Constant text) role known h = finished known.next role (λ k. judge_constant (constant_of k.model text)) (entered known) refl h
    of_expression (c.Text bytes) role known h = of_text bytes role known h
    of_expression (c.Index whole index) role known h =
        bind (of_expression whole as_value (entered known) h) (λ x k h. bind (of_expression index as_value k h) (λ y k h. finished known.next role (judge_index x y) k (index_alike more k x y) h))
    of_expression (c.Call callee arguments) role known h =
        bind (of_expression callee as_callee (entered known) h) (λ f k h. bind (of_expressions arguments k h) (λ xs k h. finished known.next role (judge_call f xs) k (call_alike more k f xs) h))
    of_expression (c.Member whole name) role known h = bind (of_expression whole as_place (entered known) h) (λ x k h. finished known.next role (judge_member x name) k (member_alike more k x name) h)
    of_expression (c.Arrow pointer name) role known h = bind (of_expression pointer as_value (entered known) h) (λ x k h. finished known.next role (judge_arrow x name) k (arrow_alike more k x name) h)
    of_expression (c.PostInc target) role known h = bind (of_expression target as_place (entered known) h) (λ x k h. finished known.next role (judge_step before O.Add x) k (step_alike more k before O.Add x) h)
    of_expression (c.PostDec target) role known h = bind (of_expression target as_place (entered known) h) (λ x k h. finished known.next role (judge_step before O.Sub x) k (step_alike more k before O.Sub x) h)
    of_expression (c.PreInc target) role known h = bind (of_expression target as_place (entered known) h) (λ x k h. finished known.next role (judge_step behind O.Add x) k (step_alike more k behind O.Add x) h)
    of_expression (c.PreDec target) role known h = bind (of_expression target as_place (entered known) h) (λ x k h. finished known.next role (judge_step behind O.Sub x) k (step_alike more k behind O.Sub x) h)
    of_expression (c.Unary op operand) role known h = bind (of_expression operand (operand_of op) (entered known) h) (λ x k h. finished known.next role (judge_unary op x) k (unary_alike more k op x) h)
    of_expression (c.SizeofExpr operand) role known h =
        bind (unmarked known.is_unmarked (of_expression operand as_place (unmarked_here (entered known)) h)) (λ x k h. finished known.next role (judge_size (own_type x)) k (size_alike more k (own_type x)) h)
    of_expression (c.SizeofType s d) role known h =
        bind (of_specifiers s (setting_in_sizeof d) (entered known) h) (λ it k h. bind (of_declarator d it false (λ name known b. type_name_faults b) (λ name k b. refl) k h)
        (λ t k h. finished known.next role (λ k. also t.faults (judge_size t.type k)) k (ap (also t.faults) (size_alike more k t.type)) h))
    of_expression (c.Cast s d operand) role known h =
        bind (of_specifiers s elsewhere (entered known) h) (λ it k h.
        bind (of_declarator d it false (λ name known b. type_name_faults b) (λ name k b. refl) k h) (λ t k h. bind (of_expression operand as_value k h) (λ x k h. finished known.next role (λ k. also t.faults (judge_cast t.type x k)) k (ap (also t.faults) (cast_alike more k t.type x)) h)))
    of_expression (c.Binary op left right) role known h =
        bind (of_expression left as_value (entered known) h) (λ x k h. bind (of_expression right as_value k h) (λ y k h. finished known.next role (judge_binary op x y) k (binary_alike more k op x y) h))
    of_expression (c.Logical op left right) role known h =
        bind (of_expression left as_truth (entered known) h) (λ x k h. bind (of_expression right as_truth k h) (λ y k h. finished known.next role (λ k. judge_logical op x y) k refl h))
    of_expression (c.Conditional test left right) role known h =
        bind (of_expression test as_truth (entered known) h) (λ p k h.
        bind (of_expression left as_value k h) (λ x k h. bind (of_expression right as_value k h) (λ y k h. finished known.next role (judge_conditional p x y) k (conditional_alike more k p x y) h)))
    of_expression (c.Assign op target value) role known h =
        bind (of_expression target as_place (entered known) h) (λ x k h. bind (of_expression value as_value k h) (λ y k h. finished known.next role (judge_assignment op x y) k (assignment_alike more k op x y) h))
    of_expression (c.Comma list) role known h = bind (of_expressions list (entered known) h) (λ xs k h. finished known.next role (λ k. judge_comma xs) k refl h)
    of_expression (c.Marked ms value) role known h =
        bind (of_marks ms (entered known) h) (λ typed k h. bind (of_expression value (inside_mark role) k h) (λ x k h. finished known.next role (λ k. judge_marked typed x) k refl h))
    of_expression (c.Decide operand when_true when_false tag) role known h =
        bind (of_expression operand (inside_mark role) (entered known) h) (λ x k h. bind (decided known.next role x when_true when_false tag k h) (λ result k h. goes refl h))
    of_expression (c.After operand id tag) role known h =
        bind (of_expression operand (inside_after role) (entered known) h) (λ x k h. bind (noted known.next role x id tag k h) (λ result k h. goes refl h))

    of_expressions : (them : c.Expressions) (known : Known) → known.greatest_id ≤ more → Rises more (expressions them known) (expressions them (raised more known))
    of_expressions c.no_expressions known h = goes refl h
    of_expressions (c.an_expression first rest) known h = bind (of_expression first as_value known h) (λ x k h. bind (of_expressions rest k h) (λ xs k h. goes refl h))

    of_maybe : (it : c.Maybe) (known : Known) → known.greatest_id ≤ more → Rises more (maybe it known) (maybe it (raised more known))
    of_maybe c.absent known h = goes refl h
    of_maybe (c.present e) known h = bind (unmarked known.is_unmarked (of_expression e as_value (unmarked_here known) h)) (λ x k h. goes refl h)

    of_marks : (them : c.Marks) (known : Known) → known.greatest_id ≤ more → Rises more (marks them known) (marks them (raised more known))
    of_marks c.no_marks known h = goes refl h
    of_marks (c.a_mark first rest) known h = bind (of_mark first known h) (λ m k h. bind (of_marks rest k h) (λ ms k h. goes refl h))

    pub of_mark : (it : c.Mark) (known : Known) → known.greatest_id ≤ more → Rises more (mark it known) (mark it (raised more known))
    of_mark (c.mark predicate id tag bound) known h =
        bind (of_expression predicate as_value (entered known) h) (λ x k h. bind (of_bindings bound k h) (λ bs k h. bind (labelled known.next predicate x id tag bs k h) (λ u k h. goes refl h)))

    of_bindings : (them : c.Bindings) (known : Known) → known.greatest_id ≤ more → Rises more (bindings them known) (bindings them (raised more known))
    of_bindings c.no_bindings known h = goes refl h
    of_bindings (c.a_binding name value rest) known h = bind (of_expression value as_value known h) (λ x k h. bind (of_bindings rest k h) (λ bs k h. goes refl h))

    pub of_specifiers : (it : c.Specifiers) (setting : Setting) (known : Known) → known.greatest_id ≤ more → Rises more (specifiers it setting known) (specifiers it setting (raised more known))
    of_specifiers (c.specifiers words types) setting known h = bind (of_types types (beside_words words setting) known h) (λ namings k h. goes refl h)

    of_types : (them : c.TypeSpecifiers) (setting : Setting) (known : Known) → known.greatest_id ≤ more → Rises more (type_specifiers them setting known) (type_specifiers them setting (raised more known))
    of_types c.no_types setting known h = goes refl h
    of_types (c.a_type first rest) setting known h = bind (of_type first setting known h) (λ it k h. bind (of_types rest setting k h) (λ others k h. goes refl h))

    of_type : (it : c.TypeSpecifier) (setting : Setting) (known : Known) → known.greatest_id ≤ more → Rises more (type_specifier it setting known) (type_specifier it setting (raised more known))
    of_type (c.Basic type) setting known h = goes refl h
    of_type (c.Word word) setting known h = goes refl h
    of_type (c.StructTag tag) setting known h = of_struct_tag tag (if is_alone setting then tag_here tag known else tagged_in tag known.frames) known h
    of_type (c.Struct tag list) setting known h =
        bind (of_open_struct tag known h) (λ opened k h. bind (of_members list [] k h) (λ found k h. of_close opened found k h))
    of_type (c.EnumTag tag) setting known h = goes refl h
    of_type (c.Enum tag list) setting known h = bind (of_open_enum tag known h) (λ faults k h. bind (of_enumerators list (pos 0) k h) (λ u k h. of_close_enum tag faults k h))
    of_type (c.Named name) setting known h = goes refl h

    of_members : (them : c.Members) (list : List Member) (known : Known) → known.greatest_id ≤ more → Rises more (members them list known) (members them list (raised more known))
    of_members c.no_members list known h = goes refl h
    of_members (c.a_member first rest) list known h = bind (of_member first list known h) (λ longer k h. of_members rest longer k h)

    of_member : (it : c.StructMember) (list : List Member) (known : Known) → known.greatest_id ≤ more → Rises more (struct_member it list known) (struct_member it list (raised more known))
    of_member (c.member s ds) list known h =
        bind (of_specifiers s elsewhere (entered known) h) (λ it k h. bind (of_member_declarators ds it list k h)
        (λ found k h. bind (judged known.next (broken_if incomplete_type (is_no_declarator ds) ++ alone_faults (is_no_declarator ds) it ++ found.faults) k h) (λ u k h. goes refl h)))

    of_member_declarators : (them : c.MemberDeclarators) (it : Specified) (list : List Member) (known : Known) → known.greatest_id ≤ more
        → Rises more (member_declarators them it list known) (member_declarators them it list (raised more known))
    of_member_declarators c.no_declarators it list known h = goes refl h
    of_member_declarators (c.a_declarator d width rest) it list known h =
        bind (of_declarator d it false (member_faults list (has_width width)) (λ name k b. refl) known h) (λ declared k h.
        bind (of_maybe width k h) (λ written k h. bind (of_member_declarators rest it (with_member list declared) k h) (λ found k h. goes refl h)))

    of_enumerators : (them : c.Enumerators) (counted : ℤ) (known : Known) → known.greatest_id ≤ more → Rises more (enumerators them counted known) (enumerators them counted (raised more known))
    of_enumerators c.no_enumerators counted known h = goes refl h
    of_enumerators (c.an_enumerator name value rest) counted known h =
        bind (of_maybe value (entered known) h)
        (λ x k h. bind (bind (judged known.next (enumerator_faults k name (value_given counted x)) k h) (λ u k h. goes refl h)) (λ next k h. of_enumerators rest next k h))

    pub of_declarator : (it : c.Declarator) (s : Specified) (is_definition : Bool) (judge : Option (List ℕ) → Known → Built → List Rule)
        → ((name : Option (List ℕ)) (k : Known) (b : Built) → judge name (raised more k) b ≡ judge name k b) → (known : Known) → known.greatest_id ≤ more
        → Rises more (declarator it s is_definition judge known) (declarator it s is_definition judge (raised more known))
    of_declarator (c.declarator name ps) s is_definition judge alike known h =
        bind (may_enter (is_written name ps) known h) (λ node k h. bind (of_parts ps s.type is_definition true k h)
        (λ b k h. ended_declarator node name b (all_faults s b (judge name k b)) (all_faults s b (judge name (raised more k) b)) k (ap (all_faults s b) (alike name k b)) h))

    of_parts : (them : c.Parts) (t : CType) (is_definition is_outermost : Bool) (known : Known) → known.greatest_id ≤ more
        → Rises more (parts them t is_definition is_outermost known) (parts them t is_definition is_outermost (raised more known))
    of_parts c.no_parts t is_definition is_outermost known h = goes refl h
    of_parts (c.Pointer q rest) t is_definition is_outermost known h = bind (of_parts rest t false false known h) (λ inner k h. goes refl h)
    of_parts (c.Array size rest) t is_definition is_outermost known h =
        bind (of_maybe size known h) (λ count k h. bind (of_parts rest t false false k h) (λ inner k h. goes refl h))
    of_parts (c.Function them rest) t is_definition is_outermost known h =
        bind (scoped known.frames (of_parameters them is_definition (record known { frames = no_names ∷ known.frames }) h)) (λ found k h. bind (of_parts rest t false false k h) (λ inner k h. goes refl h))

    of_parameters : (them : c.Parameters) (is_definition : Bool) (known : Known) → known.greatest_id ≤ more
        → Rises more (parameters them is_definition known) (parameters them is_definition (raised more known))
    of_parameters c.Unstated is_definition known h = goes refl h
    of_parameters c.Void is_definition known h = goes refl h
    of_parameters (c.Listed list) is_definition known h = of_parameter_list list is_definition known h
    of_parameters (c.Open list) is_definition known h = bind (of_parameter_list list is_definition known h) (λ them k h. goes refl h)

    of_parameter_list : (them : c.ParameterList) (is_definition : Bool) (known : Known) → known.greatest_id ≤ more
        → Rises more (parameter_list them is_definition known) (parameter_list them is_definition (raised more known))
    of_parameter_list c.no_parameters is_definition known h = goes refl h
    of_parameter_list (c.a_parameter s d rest) is_definition known h =
        bind (of_specifiers s elsewhere known h) (λ it k h. bind (of_declarator d it false (parameter_faults is_definition) (λ name k b. refl) k h)
        (λ declared k h. bind (of_binding_parameter is_definition (is_register it) declared.node declared.name (adjusted declared.type) k h)
        (λ objects k h. bind (of_parameter_list rest is_definition k h) (λ others k h. goes refl h))))
