-- Typing of expressions, and of what stands inside them, makes no array of functions.
use Rattle.std.proofs.Common.{ℕ, ℤ, pos, Bool, true, false, List, [], ◌++◌, length, Option, Some, None}
use Rattle.std.specs.Prelude.{unwrap_or}
use Rattle.std.specs.List.{AllByRecursion}
use Rattle.lt_model.specs.declared.operator.Op.TheVariants as O
use Rattle.lt_tree.specs.Tree as c
use Rattle.lt_tree.specs.Typing.Types.{CType, adjusted}
use Rattle.lt_tree.specs.Typing.Extents.{Member}
use Rattle.lt_tree.specs.Typing.Constants.{constant_of}
use Rattle.lt_tree.specs.Typing.Rules.{Rule, broken_if, unless, bad_mark, incomplete_type}
use Rattle.lt_tree.specs.Typing.TypedTree.{before, after}
use Rattle.lt_tree.specs.Typing.Entities.{Known, an_enumerator, meaning_of, tagged_in}
use Rattle.lt_tree.specs.Typing.Steps.{Goes}
use Rattle.lt_tree.specs.Typing.Expressions.{Typed, Use, as_value, as_truth, as_place, as_callee, own_type}
use Rattle.lt_tree.specs.Typing.Operations.{judge_name, judge_constant, judge_step, judge_size, judge_member, judge_arrow, judge_index, judge_call, judge_cast}
use Rattle.lt_tree.specs.Typing.BinaryOperations.{judge_binary, judge_logical, judge_conditional, judge_assignment, judge_comma}
use Rattle.lt_tree.specs.Typing.MarkRules.{TypedBinding, is_good_mark, judge_decide, inside_mark, inside_after, judge_after, judge_marked}
use Rattle.lt_tree.specs.Typing.Specifying.{Specified, is_register, Setting, elsewhere, beside_words, value_given, enumerator_faults}
use Rattle.lt_tree.specs.Typing.Declarators.{Built, all_faults, length_or_none, setting_in_sizeof, type_name_faults, parameter_faults, member_faults, with_member, has_width}
use Rattle.lt_tree.specs.Typing.NodeEnds.{text_object, text_at, judge_unary, operand_of, also, end_of_mark, end_of_enumerator, is_no_declarator, alone_faults, end_of_declarator, without_parameters}
use Rattle.lt_tree.specs.Typing.ExpressionTyping.{expression, expressions, maybe, marks, mark, bindings, specifiers, type_specifiers, type_specifier, members, struct_member, member_declarators, enumerators, declarator, parts, parameters, parameter_list}
use Rattle.lt_made_types.proofs.MadeTypes.{Made, adjusted_made}
use Rattle.lt_made_types.proofs.Keeping.{MembersMade, Sound, Good, went, Any, bind, judges, judged, front_empty, back_empty, unmarked, in_innermost, in_new_frame, unmarked_here, entered, new_frame, scoped}
use Rattle.lt_made_types.proofs.Lookups.{bound_made}
use Rattle.lt_made_types.proofs.Growth.{bound, with_object, object_added}
use Rattle.lt_made_types.proofs.MadeOperations.{TypedMade, finished, name_made, constant_made, letters_made, text_made, unary_made, step_made, size_made, member_typed, arrow_made, index_made, call_made, cast_made}
use Rattle.lt_made_types.proofs.MadeBinary.{binary_made, logical_made, conditional_made, assignment_made, comma_made, marked_made, decide_made, after_made}
use Rattle.lt_made_types.proofs.Specified.{NamingMade, SpecifiedMade, basic_made, typedef_made, specified_made, struct_tag_made, enum_tag_made, opened_struct, closed_struct, opened_enum, closed_enum, ParametersMade, BuiltMade, DeclaresMade, array_made, function_made, pointer_built, binds_made, MemberedMade, member_added}

-- ---- ends of nodes

ended_mark : (node : ℕ) (written : c.Expression) (x : Typed) (id tag : List ℕ) (bs : List TypedBinding) (known : Known) → Sound known → Good Any (end_of_mark node written x id tag bs known)
ended_mark node written x id tag bs known s = bind (judged node (unless (is_good_mark known written x id tag bs) bad_mark) known s) (λ u k s h. went s tt)

ended_enumerator : (node : ℕ) (name : List ℕ) (z : Option ℤ) (known : Known) → Sound known → Good Any (end_of_enumerator node name z known)
ended_enumerator node name z known s =
    bind (judged node (enumerator_faults known name z) known s) (λ u k s h. went (bound name (an_enumerator (unwrap_or z (pos 0))) k tt s) tt)

ended_declarator : (node : ℕ) (name : Option (List ℕ)) (it : Specified) (b : Built) (judged : List Rule) (known : Known) → Sound known → BuiltMade b
    → Good DeclaresMade (end_of_declarator (Some node) name b (all_faults it b judged) known)
ended_declarator node name it b judged known s h =
    judges node (all_faults it b judged) known (λ u k. Goes (record { node = node; name = name; type = b.type; parameters = b.parameters; faults = [] }) k)
    (λ clean. went s (record { type = h.type (back_empty it.faults b.faults (front_empty (it.faults ++ b.faults) judged clean)); parameters = h.parameters }))

no_parameters : (known : Known) → Sound known → Good ParametersMade (without_parameters known)
no_parameters known s = went s (in_innermost known.frames s.frames)

-- ---- expressions

mutual
  pub of_expression : (it : c.Expression) (role : Use) (known : Known) → Sound known → Good TypedMade (expression it role known)
  of_expression (c.Name name) role known s =
      finished _ role (judge_name role name (meaning_of name known) (entered known)) (entered known) s (name_made role name (meaning_of name known) (entered known) s)
  of_expression (c.Constant text) role known s = finished _ role (judge_constant (constant_of known.model text)) (entered known) s (constant_made (constant_of known.model text))
  of_expression (c.Text bytes) role known s =
      let object = text_object known.next (entered known) bytes in
      finished _ role (text_at (entered known) bytes (length known.objects)) (with_object object (entered known)) (object_added object (entered known) (letters_made bytes) s)
      (text_made (entered known) bytes (length known.objects))
  of_expression (c.Index whole index) role known s =
      bind (of_expression whole as_value (entered known) s) (λ x k s x_made. bind (of_expression index as_value k s)
      (λ y k s y_made. finished _ role (judge_index x y k) k s (index_made k x_made y_made)))
  of_expression (c.Call callee arguments) role known s =
      bind (of_expression callee as_callee (entered known) s) (λ f k s f_made. bind (of_expressions arguments k s)
      (λ xs k s xs_made. finished _ role (judge_call f xs k) k s (call_made xs k f_made)))
  of_expression (c.Member whole name) role known s = bind (of_expression whole as_place (entered known) s) (λ x k s h. finished _ role (judge_member x name k) k s (member_typed x name k s))
  of_expression (c.Arrow pointer name) role known s = bind (of_expression pointer as_value (entered known) s) (λ x k s h. finished _ role (judge_arrow x name k) k s (arrow_made x name k s))
  of_expression (c.PostInc target) role known s =
      bind (of_expression target as_place (entered known) s) (λ x k s h. finished _ role (judge_step before O.Add x k) k s (step_made before O.Add k h))
  of_expression (c.PostDec target) role known s =
      bind (of_expression target as_place (entered known) s) (λ x k s h. finished _ role (judge_step before O.Sub x k) k s (step_made before O.Sub k h))
  of_expression (c.PreInc target) role known s =
      bind (of_expression target as_place (entered known) s) (λ x k s h. finished _ role (judge_step after O.Add x k) k s (step_made after O.Add k h))
  of_expression (c.PreDec target) role known s =
      bind (of_expression target as_place (entered known) s) (λ x k s h. finished _ role (judge_step after O.Sub x k) k s (step_made after O.Sub k h))
  of_expression (c.Unary op operand) role known s = bind (of_expression operand (operand_of op) (entered known) s) (λ x k s h. finished _ role (judge_unary op x k) k s (unary_made op k h))
  of_expression (c.SizeofExpr operand) role known s =
      bind (unmarked known.is_unmarked (of_expression operand as_place (unmarked_here (entered known)) s))
      (λ x k s h. finished _ role (judge_size (own_type x) k) k s (size_made (own_type x) k))
  of_expression (c.SizeofType sp d) role known s =
      bind (of_specifiers sp (setting_in_sizeof d) (entered known) s) (λ it k s it_made. bind (of_declarator d it false (λ name known b. type_name_faults b) k s it_made)
      (λ t k s t_made. finished _ role (also t.faults (judge_size t.type k)) k s (size_made t.type k)))
  of_expression (c.Cast sp d operand) role known s =
      bind (of_specifiers sp elsewhere (entered known) s) (λ it k s it_made. bind (of_declarator d it false (λ name known b. type_name_faults b) k s it_made)
      (λ t k s t_made. bind (of_expression operand as_value k s)
      (λ x k s x_made. finished _ role (also t.faults (judge_cast t.type x k)) k s (cast_made t.type x k t_made.type))))
  of_expression (c.Binary op left right) role known s =
      bind (of_expression left as_value (entered known) s) (λ x k s x_made. bind (of_expression right as_value k s)
      (λ y k s y_made. finished _ role (judge_binary op x y k) k s (binary_made op k x_made y_made)))
  of_expression (c.Logical op left right) role known s =
      bind (of_expression left as_truth (entered known) s) (λ x k s x_made. bind (of_expression right as_truth k s)
      (λ y k s y_made. finished _ role (judge_logical op x y) k s (logical_made op x y)))
  of_expression (c.Conditional test left right) role known s =
      bind (of_expression test as_truth (entered known) s) (λ p k s p_made. bind (of_expression left as_value k s) (λ x k s x_made. bind (of_expression right as_value k s)
      (λ y k s y_made. finished _ role (judge_conditional p x y k) k s (conditional_made p k x_made y_made))))
  of_expression (c.Assign op target value) role known s =
      bind (of_expression target as_place (entered known) s) (λ x k s x_made. bind (of_expression value as_value k s)
      (λ y k s y_made. finished _ role (judge_assignment op x y k) k s (assignment_made op y k x_made)))
  of_expression (c.Comma list) role known s = bind (of_expressions list (entered known) s) (λ xs k s xs_made. finished _ role (judge_comma xs) k s (comma_made xs xs_made))
  of_expression (c.Marked ms value) role known s =
      bind (of_marks ms (entered known) s) (λ typed k s h. bind (of_expression value (inside_mark role) k s)
      (λ x k s x_made. finished _ role (judge_marked typed x) k s (marked_made typed x_made)))
  of_expression (c.Decide operand when_true when_false tag) role known s =
      bind (of_expression operand (inside_mark role) (entered known) s) (λ x k s x_made. bind
      (finished known.next role (judge_decide role x when_true when_false tag k) k s (decide_made role x when_true when_false tag k)) (λ result k s h. went s h))
  of_expression (c.After operand id tag) role known s =
      bind (of_expression operand (inside_after role) (entered known) s) (λ x k s x_made. bind
      (finished known.next role (judge_after role x id tag k) k s (after_made role id tag k x_made)) (λ result k s h. went s h))

  of_expressions : (them : c.Expressions) (known : Known) → Sound known → Good (AllByRecursion TypedMade) (expressions them known)
  of_expressions c.no_expressions known s = went s tt
  of_expressions (c.an_expression first rest) known s =
      bind (of_expression first as_value known s) (λ x k s x_made. bind (of_expressions rest k s) (λ xs k s xs_made. went s (x_made, xs_made)))

  of_maybe : (it : c.Maybe) (known : Known) → Sound known → Good Any (maybe it known)
  of_maybe c.absent known s = went s tt
  of_maybe (c.present e) known s = bind (unmarked known.is_unmarked (of_expression e as_value (unmarked_here known) s)) (λ x k s h. went s tt)

  of_marks : (them : c.Marks) (known : Known) → Sound known → Good Any (marks them known)
  of_marks c.no_marks known s = went s tt
  of_marks (c.a_mark first rest) known s = bind (of_mark first known s) (λ m k s h. bind (of_marks rest k s) (λ ms k s h. went s tt))

  pub of_mark : (it : c.Mark) (known : Known) → Sound known → Good Any (mark it known)
  of_mark (c.mark predicate id tag names) known s =
      bind (of_expression predicate as_value (entered known) s) (λ x k s h. bind (of_bindings names k s) (λ bs k s h. ended_mark known.next predicate x id tag bs k s))

  of_bindings : (them : c.Bindings) (known : Known) → Sound known → Good Any (bindings them known)
  of_bindings c.no_bindings known s = went s tt
  of_bindings (c.a_binding name value rest) known s = bind (of_expression value as_value known s) (λ x k s h. bind (of_bindings rest k s) (λ bs k s h. went s tt))

  pub of_specifiers : (it : c.Specifiers) (setting : Setting) (known : Known) → Sound known → Good SpecifiedMade (specifiers it setting known)
  of_specifiers (c.specifiers words types) setting known s = bind (of_types types (beside_words words setting) known s) (λ namings k s h. went s (specified_made words namings h))

  of_types : (them : c.TypeSpecifiers) (setting : Setting) (known : Known) → Sound known → Good (AllByRecursion NamingMade) (type_specifiers them setting known)
  of_types c.no_types setting known s = went s tt
  of_types (c.a_type first rest) setting known s = bind (of_type first setting known s) (λ it k s h. bind (of_types rest setting k s) (λ others k s i. went s (h, i)))

  of_type : (it : c.TypeSpecifier) (setting : Setting) (known : Known) → Sound known → Good NamingMade (type_specifier it setting known)
  of_type (c.Basic type) setting known s = went s (basic_made type)
  of_type (c.Word word) setting known s = went s tt
  of_type (c.StructTag tag) setting known s = struct_tag_made setting tag known s
  of_type (c.Struct tag list) setting known s = bind (opened_struct tag known s) (λ opened k s h. bind (of_members list [] k s tt) (λ found k s h. closed_struct opened found k h s))
  of_type (c.EnumTag tag) setting known s = went s (enum_tag_made setting (tagged_in tag known.frames))
  of_type (c.Enum tag list) setting known s = bind (opened_enum tag known s) (λ faults k s h. bind (of_enumerators list (pos 0) k s) (λ u k s h. closed_enum tag faults k s))
  of_type (c.Named name) setting known s = went s (typedef_made (meaning_of name known) (bound_made name known.frames s.frames))

  of_members : (them : c.Members) (list : List Member) (known : Known) → Sound known → MembersMade list → Good MembersMade (members them list known)
  of_members c.no_members list known s h = went s h
  of_members (c.a_member first rest) list known s h = bind (of_struct_member first list known s h) (λ longer k s i. of_members rest longer k s i)

  of_struct_member : (it : c.StructMember) (list : List Member) (known : Known) → Sound known → MembersMade list → Good MembersMade (struct_member it list known)
  of_struct_member (c.member sp ds) list known s h =
      bind (of_specifiers sp elsewhere (entered known) s) (λ it k s it_made. bind (of_member_declarators ds it list k s it_made h)
      (λ found k s i. bind (judged known.next (broken_if incomplete_type (is_no_declarator ds) ++ alone_faults (is_no_declarator ds) it ++ found.faults) k s) (λ u k s r. went s i)))

  of_member_declarators : (them : c.MemberDeclarators) (it : Specified) (list : List Member) (known : Known) → Sound known → SpecifiedMade it → MembersMade list
      → Good MemberedMade (member_declarators them it list known)
  of_member_declarators c.no_declarators it list known s it_made h = went s h
  of_member_declarators (c.a_declarator d width rest) it list known s it_made h =
      bind (of_declarator d it false (member_faults list (has_width width)) known s it_made) (λ declared k s d_made. bind (of_maybe width k s)
      (λ written k s w. bind (of_member_declarators rest it (with_member list declared) k s it_made (member_added list h d_made)) (λ found k s i. went s i)))

  of_enumerators : (them : c.Enumerators) (counted : ℤ) (known : Known) → Sound known → Good Any (enumerators them counted known)
  of_enumerators c.no_enumerators counted known s = went s tt
  of_enumerators (c.an_enumerator name value rest) counted known s =
      bind (of_maybe value (entered known) s) (λ x k s h. bind (ended_enumerator known.next name (value_given counted x) k s) (λ next k s h. of_enumerators rest next k s))

  -- one without a name and parts is no node, and of the type of its specifiers
  pub of_declarator : (it : c.Declarator) (sp : Specified) (is_definition : Bool) (judge : Option (List ℕ) → Known → Built → List Rule) (known : Known) → Sound known → SpecifiedMade sp
      → Good DeclaresMade (declarator it sp is_definition judge known)
  of_declarator (c.declarator (Some name) ps) sp is_definition judge known s h =
      bind (of_parts ps sp.type is_definition true (entered known) s h) (λ b k s b_made. ended_declarator known.next (Some name) sp b (judge (Some name) k b) k s b_made)
  of_declarator (c.declarator None c.no_parts) sp is_definition judge known s h = went s (record { type = h; parameters = tt })
  of_declarator (c.declarator None (c.Pointer q rest)) sp is_definition judge known s h =
      bind (of_parts (c.Pointer q rest) sp.type is_definition true (entered known) s h) (λ b k s b_made. ended_declarator known.next None sp b (judge None k b) k s b_made)
  of_declarator (c.declarator None (c.Array size rest)) sp is_definition judge known s h =
      bind (of_parts (c.Array size rest) sp.type is_definition true (entered known) s h) (λ b k s b_made. ended_declarator known.next None sp b (judge None k b) k s b_made)
  of_declarator (c.declarator None (c.Function them rest)) sp is_definition judge known s h =
      bind (of_parts (c.Function them rest) sp.type is_definition true (entered known) s h) (λ b k s b_made. ended_declarator known.next None sp b (judge None k b) k s b_made)

  of_parts : (them : c.Parts) (t : CType) (is_definition is_outermost : Bool) (known : Known) → Sound known → Made t → Good BuiltMade (parts them t is_definition is_outermost known)
  of_parts c.no_parts t is_definition is_outermost known s h = went s (record { type = λ clean. h; parameters = tt })
  of_parts (c.Pointer q rest) t is_definition is_outermost known s h = bind (of_parts rest t false false known s h) (λ inner k s i. went s (pointer_built q i))
  of_parts (c.Array size rest) t is_definition is_outermost known s h =
      bind (of_maybe size known s) (λ n k s w. bind (of_parts rest t false false k s h) (λ inner k s i. went s (array_made k (length_or_none is_outermost n) i)))
  of_parts (c.Function them rest) t is_definition is_outermost known s h =
      bind (scoped known s (of_parameters them is_definition (in_new_frame known) (new_frame known s))) (λ found k s f. bind (of_parts rest t false false k s h)
      (λ inner k s i. went s (function_made found f i)))

  of_parameters : (them : c.Parameters) (is_definition : Bool) (known : Known) → Sound known → Good ParametersMade (parameters them is_definition known)
  of_parameters c.Unstated is_definition known s = no_parameters known s
  of_parameters c.Void is_definition known s = no_parameters known s
  of_parameters (c.Listed list) is_definition known s = of_parameter_list list is_definition known s
  of_parameters (c.Open list) is_definition known s = bind (of_parameter_list list is_definition known s) (λ them k s h. went s h)

  of_parameter_list : (them : c.ParameterList) (is_definition : Bool) (known : Known) → Sound known → Good ParametersMade (parameter_list them is_definition known)
  of_parameter_list c.no_parameters is_definition known s = no_parameters known s
  of_parameter_list (c.a_parameter sp d rest) is_definition known s =
      bind (of_specifiers sp elsewhere known s) (λ it k s it_made. bind (of_declarator d it false (parameter_faults is_definition) k s it_made)
      (λ declared k s d. bind (binds_made is_definition (is_register it) declared.node declared.name (adjusted declared.type) k (adjusted_made declared.type d.type) s)
      (λ objects k s o. bind (of_parameter_list rest is_definition k s) (λ others k s p. went s p))))
