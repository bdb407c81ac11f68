-- Typing of expressions, and of what stands inside them, keeps the types of what is known, and what it finds gets at memory by types that are named.
use Rattle.std.proofs.Common.{ℕ, ℤ, pos, Bool, true, false, List, [], ◌++◌, length, Option, Some, None}
use Rattle.std.specs.List.{AllByRecursion}
use Rattle.lt_model.specs.declared.operator.Op.TheVariants as O
use Rattle.lt_tree.specs.Tree as c
use Rattle.lt_tree.specs.Typing.Types.{CType, adjusted}
use Rattle.lt_tree.specs.Typing.Extents.{Member}
use Rattle.lt_tree.specs.Typing.Constants.{constant_of}
use Rattle.lt_tree.specs.Typing.Rules.{Rule, broken_if, incomplete_type}
use Rattle.lt_tree.specs.Typing.TypedTree.{before, after}
use Rattle.lt_tree.specs.Typing.Entities.{Known, meaning_of}
use Rattle.lt_tree.specs.Typing.Expressions.{Use, as_value, as_truth, as_place, as_callee, own_type}
use Rattle.lt_tree.specs.Typing.Operations.{judge_constant, judge_step, judge_size, judge_member, judge_arrow, judge_index, judge_call, judge_cast}
use Rattle.lt_tree.specs.Typing.BinaryOperations.{judge_binary, judge_logical, judge_conditional, judge_assignment, judge_comma}
use Rattle.lt_tree.specs.Typing.MarkRules.{judge_decide, inside_mark, inside_after, judge_after, judge_marked}
use Rattle.lt_tree.specs.Typing.Specifying.{Specified, is_register, Setting, elsewhere, beside_words, value_given}
use Rattle.lt_tree.specs.Typing.Declarators.{Built, all_faults, setting_in_sizeof, type_name_faults, parameter_faults, member_faults, with_member, has_width}
use Rattle.lt_tree.specs.Typing.NodeEnds.{text_object, text_at, judge_unary, operand_of, also, is_no_declarator, alone_faults}
use Rattle.lt_tree.specs.Typing.ExpressionTyping.{expression, expressions, maybe, marks, mark, bindings, specifiers, type_specifiers, type_specifier, members, struct_member, member_declarators, enumerators, declarator, parts, parameters, parameter_list}
use Rattle.lt_type_laws.specs.Accesses.{is_named_in, AccessesMarks, AccessesMark}
use Rattle.lt_listed_types.proofs.Keeping.{lists_of, Once, Good, Kept, went, same, behind, bind, judges, unmarked, scoped, in_new_frame, unmarked_here, entered}
use Rattle.lt_listed_types.proofs.Growth.{with_object, object_added}
use Rattle.lt_listed_types.proofs.Reaching.{Reaches, TypedIn, finished}
use Rattle.lt_listed_types.proofs.ReachingOperations.{of_name, constant_made, text_made, unary_made, step_made, size_made, member_made, arrow_made, index_made, call_made, cast_made}
use Rattle.lt_listed_types.proofs.ReachingBinary.{binary_made, logical_made, conditional_made, assignment_made, comma_made, marked_made, decide_made, after_made, BindingReaches}
use Rattle.lt_listed_types.proofs.KeptTags.{struct_tag, opened_struct, closed_struct, opened_enum, closed_enum, ended_mark, ended_enumerator, ended_declarator, bound_parameter}

module _ {types : List CType} where
  mutual
    pub of_expression : (it : c.Expression) (role : Use) (known : Known) → Good types (TypedIn types role) (lists_of known) (expression it role known)
    of_expression (c.Name name) role known = of_name known.next role name (meaning_of name known) (entered known)
    of_expression (c.Constant text) role known = finished _ role (judge_constant (constant_of known.model text)) (entered known) (λ named. constant_made (constant_of known.model text))
    of_expression (c.Text bytes) role known =
        let object = text_object known.next (entered known) bytes in
        behind (object_added object (entered known))
        (finished known.next role (text_at (entered known) bytes (length known.objects)) (with_object object (entered known)) (λ named. text_made (entered known) bytes (length known.objects)))
    of_expression (c.Index whole index) role known =
        bind (of_expression whole as_value (entered known)) (λ x k kept h. bind (of_expression index as_value k)
        (λ y k kept i. finished _ role (judge_index x y k) k (λ named. index_made k (h (kept.names named)) (i named))))
    of_expression (c.Call callee arguments) role known =
        bind (of_expression callee as_callee (entered known)) (λ f k kept h. bind (of_expressions arguments k)
        (λ xs k kept i. finished _ role (judge_call f xs k) k (λ named. call_made f xs k (i named))))
    of_expression (c.Member whole name) role known = bind (of_expression whole as_place (entered known)) (λ x k kept h. finished _ role (judge_member x name k) k (λ named. member_made name k (h named)))
    of_expression (c.Arrow pointer name) role known = bind (of_expression pointer as_value (entered known)) (λ x k kept h. finished _ role (judge_arrow x name k) k (λ named. arrow_made name k (h named)))
    of_expression (c.PostInc target) role known = bind (of_expression target as_place (entered known)) (λ x k kept h. finished _ role (judge_step before O.Add x k) k (λ named. step_made before O.Add k (h named)))
    of_expression (c.PostDec target) role known = bind (of_expression target as_place (entered known)) (λ x k kept h. finished _ role (judge_step before O.Sub x k) k (λ named. step_made before O.Sub k (h named)))
    of_expression (c.PreInc target) role known = bind (of_expression target as_place (entered known)) (λ x k kept h. finished _ role (judge_step after O.Add x k) k (λ named. step_made after O.Add k (h named)))
    of_expression (c.PreDec target) role known = bind (of_expression target as_place (entered known)) (λ x k kept h. finished _ role (judge_step after O.Sub x k) k (λ named. step_made after O.Sub k (h named)))
    of_expression (c.Unary op operand) role known = bind (of_expression operand (operand_of op) (entered known)) (λ x k kept h. finished _ role (judge_unary op x k) k (λ named. unary_made op k (h named)))
    of_expression (c.SizeofExpr operand) role known =
        bind (unmarked known.is_unmarked (of_expression operand as_place (unmarked_here (entered known)))) (λ x k kept h. finished _ role (judge_size (own_type x) k) k (λ named. size_made (own_type x) k))
    of_expression (c.SizeofType sp d) role known =
        bind (of_specifiers sp (setting_in_sizeof d) (entered known)) (λ it k kept h. bind (of_declarator d it false (λ name known b. type_name_faults b) k)
        (λ t k kept i. finished _ role (also t.faults (judge_size t.type k)) k (λ named. size_made t.type k)))
    of_expression (c.Cast sp d operand) role known =
        bind (of_specifiers sp elsewhere (entered known)) (λ it k kept h. bind (of_declarator d it false (λ name known b. type_name_faults b) k)
        (λ t k kept i. bind (of_expression operand as_value k) (λ x k kept j. finished _ role (also t.faults (judge_cast t.type x k)) k (λ named. cast_made t.type k (j named)))))
    of_expression (c.Binary op left right) role known =
        bind (of_expression left as_value (entered known)) (λ x k kept h. bind (of_expression right as_value k)
        (λ y k kept i. finished _ role (judge_binary op x y k) k (λ named. binary_made op k (h (kept.names named)) (i named))))
    of_expression (c.Logical op left right) role known =
        bind (of_expression left as_truth (entered known)) (λ x k kept h. bind (of_expression right as_truth k)
        (λ y k kept i. finished _ role (judge_logical op x y) k (λ named. logical_made op (h (kept.names named)) (i named))))
    of_expression (c.Conditional test left right) role known =
        bind (of_expression test as_truth (entered known)) (λ p k kept g. bind (of_expression left as_value k) (λ x k passed h. bind (of_expression right as_value k)
        (λ y k kept i. finished _ role (judge_conditional p x y k) k (λ named. conditional_made k (g (passed.names (kept.names named))) (h (kept.names named)) (i named)))))
    of_expression (c.Assign op target value) role known =
        bind (of_expression target as_place (entered known)) (λ x k kept h. bind (of_expression value as_value k)
        (λ y k kept i. finished _ role (judge_assignment op x y k) k (λ named. assignment_made op k (h (kept.names named)) (i named))))
    of_expression (c.Comma list) role known = bind (of_expressions list (entered known)) (λ xs k kept h. finished _ role (judge_comma xs) k (λ named. comma_made xs (h named)))
    of_expression (c.Marked ms value) role known =
        bind (of_marks ms (entered known)) (λ typed k kept h. bind (of_expression value (inside_mark role) k)
        (λ x k kept i. finished _ role (judge_marked typed x) k (λ named. marked_made typed (h (kept.names named)) (i named))))
    of_expression (c.Decide operand when_true when_false tag) role known =
        bind (of_expression operand (inside_mark role) (entered known)) (λ x k kept h. bind
        (finished known.next role (judge_decide role x when_true when_false tag k) k (λ named. decide_made when_true when_false tag k (h named))) (λ result k kept i. went same i))
    of_expression (c.After operand id tag) role known =
        bind (of_expression operand (inside_after role) (entered known)) (λ x k kept h. bind
        (finished known.next role (judge_after role x id tag k) k (λ named. after_made id tag k (h named))) (λ result k kept i. went same i))

    of_expressions : (them : c.Expressions) (known : Known) → Good types (Once types (AllByRecursion (Reaches types as_value))) (lists_of known) (expressions them known)
    of_expressions c.no_expressions known = went same (λ named. tt)
    of_expressions (c.an_expression first rest) known =
        bind (of_expression first as_value known) (λ x k kept h. bind (of_expressions rest k) (λ xs k kept i. went same (λ named. (h (kept.names named), i named))))

    of_maybe : (it : c.Maybe) (known : Known) → Kept types known (maybe it known)
    of_maybe c.absent known = went same tt
    of_maybe (c.present e) known = bind (unmarked known.is_unmarked (of_expression e as_value (unmarked_here known))) (λ x k kept h. went same tt)

    of_marks : (them : c.Marks) (known : Known) → Good types (Once types (AccessesMarks (is_named_in types))) (lists_of known) (marks them known)
    of_marks c.no_marks known = went same (λ named. tt)
    of_marks (c.a_mark first rest) known = bind (of_mark first known) (λ m k kept h. bind (of_marks rest k) (λ ms k kept i. went same (λ named. (h (kept.names named), i named))))

    pub of_mark : (it : c.Mark) (known : Known) → Good types (Once types (AccessesMark (is_named_in types))) (lists_of known) (mark it known)
    of_mark (c.mark predicate id tag names) known =
        bind (of_expression predicate as_value (entered known)) (λ x k kept h. bind (of_bindings names k) (λ bs k kept i. ended_mark known.next predicate x id tag bs k (λ named. h (kept.names named)) i))

    of_bindings : (them : c.Bindings) (known : Known) → Good types (Once types (AllByRecursion (BindingReaches types))) (lists_of known) (bindings them known)
    of_bindings c.no_bindings known = went same (λ named. tt)
    of_bindings (c.a_binding name value rest) known =
        bind (of_expression value as_value known) (λ x k kept h. bind (of_bindings rest k) (λ bs k kept i. went same (λ named. (h (kept.names named), i named))))

    pub of_specifiers : (it : c.Specifiers) (setting : Setting) (known : Known) → Kept types known (specifiers it setting known)
    of_specifiers (c.specifiers words types) setting known = bind (of_types types (beside_words words setting) known) (λ namings k kept h. went same tt)

    of_types : (them : c.TypeSpecifiers) (setting : Setting) (known : Known) → Kept types known (type_specifiers them setting known)
    of_types c.no_types setting known = went same tt
    of_types (c.a_type first rest) setting known = bind (of_type first setting known) (λ it k kept h. bind (of_types rest setting k) (λ others k kept i. went same tt))

    of_type : (it : c.TypeSpecifier) (setting : Setting) (known : Known) → Kept types known (type_specifier it setting known)
    of_type (c.Basic type) setting known = went same tt
    of_type (c.Word word) setting known = went same tt
    of_type (c.StructTag tag) setting known = struct_tag setting tag known
    of_type (c.Struct tag list) setting known = bind (opened_struct tag known) (λ opened k kept h. bind (of_members list [] k) (λ found k kept i. closed_struct opened found k))
    of_type (c.EnumTag tag) setting known = went same tt
    of_type (c.Enum tag list) setting known = bind (opened_enum tag known) (λ faults k kept h. bind (of_enumerators list (pos 0) k) (λ u k kept i. closed_enum tag faults k))
    of_type (c.Named name) setting known = went same tt

    of_members : (them : c.Members) (list : List Member) (known : Known) → Kept types known (members them list known)
    of_members c.no_members list known = went same tt
    of_members (c.a_member first rest) list known = bind (of_struct_member first list known) (λ longer k kept h. of_members rest longer k)

    of_struct_member : (it : c.StructMember) (list : List Member) (known : Known) → Kept types known (struct_member it list known)
    of_struct_member (c.member sp ds) list known =
        bind (of_specifiers sp elsewhere (entered known)) (λ it k kept h. bind (of_member_declarators ds it list k)
        (λ found k kept i. judges known.next (broken_if incomplete_type (is_no_declarator ds) ++ alone_faults (is_no_declarator ds) it ++ found.faults) k _ (went same tt)))

    of_member_declarators : (them : c.MemberDeclarators) (it : Specified) (list : List Member) (known : Known) → Kept types known (member_declarators them it list known)
    of_member_declarators c.no_declarators it list known = went same tt
    of_member_declarators (c.a_declarator d width rest) it list known =
        bind (of_declarator d it false (member_faults list (has_width width)) known) (λ declared k kept h. bind (of_maybe width k)
        (λ written k kept i. bind (of_member_declarators rest it (with_member list declared) k) (λ found k kept j. went same tt)))

    of_enumerators : (them : c.Enumerators) (counted : ℤ) (known : Known) → Kept types known (enumerators them counted known)
    of_enumerators c.no_enumerators counted known = went same tt
    of_enumerators (c.an_enumerator name value rest) counted known =
        bind (of_maybe value (entered known)) (λ x k kept h. bind (ended_enumerator known.next name (value_given counted x) k) (λ next k kept i. of_enumerators rest next k))

    -- one without a name and parts is no node
    pub of_declarator : (it : c.Declarator) (sp : Specified) (is_definition : Bool) (judge : Option (List ℕ) → Known → Built → List Rule) (known : Known) → Kept types known (declarator it sp is_definition judge known)
    of_declarator (c.declarator (Some name) ps) sp is_definition judge known =
        bind (of_parts ps sp.type is_definition true (entered known)) (λ b k kept h. ended_declarator (Some known.next) (Some name) b (all_faults sp b (judge (Some name) k b)) k)
    of_declarator (c.declarator None c.no_parts) sp is_definition judge known = went same tt
    of_declarator (c.declarator None (c.Pointer q rest)) sp is_definition judge known =
        bind (of_parts (c.Pointer q rest) sp.type is_definition true (entered known)) (λ b k kept h. ended_declarator (Some known.next) None b (all_faults sp b (judge None k b)) k)
    of_declarator (c.declarator None (c.Array size rest)) sp is_definition judge known =
        bind (of_parts (c.Array size rest) sp.type is_definition true (entered known)) (λ b k kept h. ended_declarator (Some known.next) None b (all_faults sp b (judge None k b)) k)
    of_declarator (c.declarator None (c.Function them rest)) sp is_definition judge known =
        bind (of_parts (c.Function them rest) sp.type is_definition true (entered known)) (λ b k kept h. ended_declarator (Some known.next) None b (all_faults sp b (judge None k b)) k)

    of_parts : (them : c.Parts) (t : CType) (is_definition is_outermost : Bool) (known : Known) → Kept types known (parts them t is_definition is_outermost known)
    of_parts c.no_parts t is_definition is_outermost known = went same tt
    of_parts (c.Pointer q rest) t is_definition is_outermost known = bind (of_parts rest t false false known) (λ inner k kept h. went same tt)
    of_parts (c.Array size rest) t is_definition is_outermost known = bind (of_maybe size known) (λ n k kept h. bind (of_parts rest t false false k) (λ inner k kept i. went same tt))
    of_parts (c.Function them rest) t is_definition is_outermost known =
        bind (scoped known.frames (of_parameters them is_definition (in_new_frame known))) (λ found k kept h. bind (of_parts rest t false false k) (λ inner k kept i. went same tt))

    of_parameters : (them : c.Parameters) (is_definition : Bool) (known : Known) → Kept types known (parameters them is_definition known)
    of_parameters c.Unstated is_definition known = went same tt
    of_parameters c.Void is_definition known = went same tt
    of_parameters (c.Listed list) is_definition known = of_parameter_list list is_definition known
    of_parameters (c.Open list) is_definition known = bind (of_parameter_list list is_definition known) (λ them k kept h. went same tt)

    of_parameter_list : (them : c.ParameterList) (is_definition : Bool) (known : Known) → Kept types known (parameter_list them is_definition known)
    of_parameter_list c.no_parameters is_definition known = went same tt
    of_parameter_list (c.a_parameter sp d rest) is_definition known =
        bind (of_specifiers sp elsewhere known) (λ it k kept h. bind (of_declarator d it false (parameter_faults is_definition) k)
        (λ declared k kept i. bind (bound_parameter is_definition (is_register it) declared.node declared.name (adjusted declared.type) k)
        (λ objects k kept j. bind (of_parameter_list rest is_definition k) (λ others k kept l. went same tt))))
