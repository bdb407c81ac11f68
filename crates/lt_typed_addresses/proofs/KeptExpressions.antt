-- Typing of expressions, and of what stands inside them, keeps the objects that are known, and what it finds rests on those.
use Rattle.std.proofs.Common.{◌≡◌, refl, ℕ, ℤ, pos, Bool, true, false, List, [], ◌∷◌, ◌++◌, length, Option, Some, None}
use Rattle.std.specs.Prelude.{if◌then◌else◌}
use Rattle.lt_model.specs.declared.operator.Op.TheVariants as O
use Rattle.lt_tree.specs.Tree as c
use Rattle.lt_tree.specs.Typing.Types.{CType, adjusted}
use Rattle.lt_tree.specs.Typing.Extents.{Member}
use Rattle.lt_tree.specs.Typing.Constants.{constant_of}
use Rattle.lt_tree.specs.Typing.Rules.{Rule, broken_if, unless, bad_mark, declared_twice, incomplete_type}
use Rattle.lt_tree.specs.Typing.TypedTree.{before, after}
use Rattle.lt_tree.specs.Typing.Entities.{Known, Tagged, a_struct, an_enum, parameter, unmade, literal, is_static, meaning_of, tagged_in, tag_here}
use Rattle.lt_tree.specs.Typing.Expressions.{Typed, Use, as_value, as_truth, as_place, as_callee, own_type}
use Rattle.lt_tree.specs.Typing.Operations.{judge_name, judge_constant, judge_step, judge_size, judge_member, judge_arrow, judge_index, judge_call, judge_cast}
use Rattle.lt_tree.specs.Typing.BinaryOperations.{judge_binary, judge_logical, judge_conditional, judge_assignment, judge_comma}
use Rattle.lt_tree.specs.Typing.MarkRules.{TypedBinding, is_good_mark, judge_decide, inside_mark, inside_after, judge_after, judge_marked}
use Rattle.lt_tree.specs.Typing.Specifying.{Specified, is_register, Setting, is_alone, elsewhere, beside_words, struct_by_tag, struct_tagged, OpenStruct, open_new, open_tagged, open_struct, is_complete_struct, with_members, close_struct, open_enum, close_enum, value_given, enumerator_faults}
use Rattle.lt_tree.specs.Typing.Declarators.{Built, all_faults, setting_in_sizeof, type_name_faults, parameter_faults, binds_parameter, member_faults, with_member, has_width}
use Rattle.lt_tree.specs.Typing.NodeEnds.{text_object, text_at, judge_unary, operand_of, also, end_of_mark, end_of_enumerator, is_no_declarator, alone_faults, end_of_declarator}
use Rattle.lt_tree.specs.Typing.ExpressionTyping.{expression, expressions, maybe, marks, mark, bindings, specifiers, type_specifiers, type_specifier, members, struct_member, member_declarators, enumerators, declarator, parts, parameters, parameter_list}
use Rattle.lt_typed_addresses.proofs.Resting.{LivesFirst}
use Rattle.lt_typed_addresses.proofs.Keeping.{KeepsTo, same, still, Kept, KeptTyped, went, behind, bind, judges, unmarked, scoped, in_new_frame, unmarked_here, entered}
use Rattle.lt_typed_addresses.proofs.Growth.{with_object, last_lives, added}
use Rattle.lt_typed_addresses.proofs.RestingOperations.{finished, name_rests, constant_typed, text_rests, unary_rests, step_rests, size_rests, member_rests, arrow_rests, index_rests, call_rests, cast_rests}
use Rattle.lt_typed_addresses.proofs.RestingBinary.{binary_rests, logical_rests, conditional_rests, assignment_rests, comma_rests, marked_rests, decide_rests, after_rests}

-- ---- string literals

made_where_marks_stand : (is_unmarked : Bool) → is_unmarked ≡ false → is_static (if is_unmarked then unmade else literal) ≡ true
made_where_marks_stand false h = refl
made_where_marks_stand true h = absurd cc

text_lives : (node : ℕ) (known : Known) (bytes : List ℕ) → known.is_unmarked ≡ false → LivesFirst (known.objects ++ text_object node known bytes ∷ []) (length known.objects)
text_lives node known bytes h = last_lives known.objects (text_object node known bytes) (made_where_marks_stand known.is_unmarked h)

-- ---- structs and enums by their tags

tagged_struct : (tag : List ℕ) (found : Option Tagged) (known : Known) → Kept known (struct_tagged tag found known)
tagged_struct tag None known = went same tt
tagged_struct tag (Some (a_struct k)) known = went same tt
tagged_struct tag (Some (an_enum is_complete)) known = went same tt

struct_tag : (setting : Setting) (tag : List ℕ) (known : Known) → Kept known (struct_by_tag setting tag known)
struct_tag setting tag known = tagged_struct tag (if is_alone setting then tag_here tag known else tagged_in tag known.frames) known

opened_new : (tag : Option (List ℕ)) (faults : List Rule) (known : Known) → Kept known (open_new tag faults known)
opened_new None faults known = went same tt
opened_new (Some tag) faults known = went same tt

opened_tagged : (tag : List ℕ) (found : Option Tagged) (known : Known) → Kept known (open_tagged tag found known)
opened_tagged tag None known = opened_new (Some tag) [] known
opened_tagged tag (Some (a_struct k)) known = went same tt
opened_tagged tag (Some (an_enum is_complete)) known = opened_new None (declared_twice ∷ []) known

opened_struct : (tag : Option (List ℕ)) (known : Known) → Kept known (open_struct tag known)
opened_struct None known = opened_new None [] known
opened_struct (Some tag) known = opened_tagged tag (tag_here tag known) known

closed_known : (is_complete : Bool) (k : ℕ) (members : List Member) (known : Known) → KeepsTo known ((if is_complete then (λ it. it) else with_members k members) known)
closed_known true k members known = same
closed_known false k members known = same

closed_struct : (opened : OpenStruct) (members : List Member) (known : Known) → Kept known (close_struct opened members known)
closed_struct opened members known = went (closed_known (is_complete_struct known.structs opened.number) opened.number members known) tt

opened_enum : (tag : Option (List ℕ)) (known : Known) → Kept known (open_enum tag known)
opened_enum None known = went same tt
opened_enum (Some tag) known = went same tt

closed_enum : (tag : Option (List ℕ)) (faults : List Rule) (known : Known) → Kept known (close_enum tag faults known)
closed_enum None faults known = went same tt
closed_enum (Some tag) faults known = went same tt

-- ---- ends of nodes

ended_mark : (node : ℕ) (written : c.Expression) (x : Typed) (id tag : List ℕ) (bs : List TypedBinding) (known : Known) → Kept known (end_of_mark node written x id tag bs known)
ended_mark node written x id tag bs known = judges node (unless (is_good_mark known written x id tag bs) bad_mark) known _ (went same tt)

ended_enumerator : (node : ℕ) (name : List ℕ) (z : Option ℤ) (known : Known) → Kept known (end_of_enumerator node name z known)
ended_enumerator node name z known = judges node (enumerator_faults known name z) known _ (went same tt)

ended_declarator : (node : Option ℕ) (name : Option (List ℕ)) (it : Built) (faults : List Rule) (known : Known) → Kept known (end_of_declarator node name it faults known)
ended_declarator None name it faults known = went same tt
ended_declarator (Some node) name it faults known = judges node faults known _ (went same tt)

bound_parameter : (is_definition is_register : Bool) (node : ℕ) (name : Option (List ℕ)) (t : CType) (known : Known) → Kept known (binds_parameter is_definition is_register node name t known)
bound_parameter is_definition is_register node None t known = went same tt
bound_parameter is_definition is_register node (Some name) t known =
    went (added (record { node = node; name = name; type = t; life = if is_definition then parameter else unmade; start = None }) known tt) tt

-- ---- expressions

mutual
  pub of_expression : (it : c.Expression) (role : Use) (known : Known) → KeptTyped known (expression it role known)
  of_expression (c.Name name) role known =
      finished _ role (judge_name role name (meaning_of name known) (entered known)) (entered known) (λ clean. name_rests role name (meaning_of name known) (entered known))
  of_expression (c.Constant text) role known = finished _ role (judge_constant (constant_of known.model text)) (entered known) (λ clean. constant_typed (constant_of known.model text))
  of_expression (c.Text bytes) role known =
      let object = text_object known.next (entered known) bytes in
      behind (added object (entered known) (tt, tt))
      (finished known.next role (text_at (entered known) bytes (length known.objects)) (with_object object (entered known))
      (λ clean. text_rests (entered known) bytes (length known.objects) (text_lives known.next (entered known) bytes clean)))
  of_expression (c.Index whole index) role known =
      bind (of_expression whole as_value (entered known)) (λ x k kept h. bind (of_expression index as_value k)
      (λ y k kept i. finished _ role (judge_index x y k) k (λ clean. index_rests k (still kept h clean) (i clean))))
  of_expression (c.Call callee arguments) role known =
      bind (of_expression callee as_callee (entered known)) (λ f k kept h. bind (of_expressions arguments k)
      (λ xs k kept i. finished _ role (judge_call f xs k) k (λ clean. call_rests f xs k)))
  of_expression (c.Member whole name) role known = bind (of_expression whole as_place (entered known)) (λ x k kept h. finished _ role (judge_member x name k) k (λ clean. member_rests name k (h clean)))
  of_expression (c.Arrow pointer name) role known = bind (of_expression pointer as_value (entered known)) (λ x k kept h. finished _ role (judge_arrow x name k) k (λ clean. arrow_rests name k (h clean)))
  of_expression (c.PostInc target) role known = bind (of_expression target as_place (entered known)) (λ x k kept h. finished _ role (judge_step before O.Add x k) k (λ clean. step_rests before O.Add x k))
  of_expression (c.PostDec target) role known = bind (of_expression target as_place (entered known)) (λ x k kept h. finished _ role (judge_step before O.Sub x k) k (λ clean. step_rests before O.Sub x k))
  of_expression (c.PreInc target) role known = bind (of_expression target as_place (entered known)) (λ x k kept h. finished _ role (judge_step after O.Add x k) k (λ clean. step_rests after O.Add x k))
  of_expression (c.PreDec target) role known = bind (of_expression target as_place (entered known)) (λ x k kept h. finished _ role (judge_step after O.Sub x k) k (λ clean. step_rests after O.Sub x k))
  of_expression (c.Unary op operand) role known = bind (of_expression operand (operand_of op) (entered known)) (λ x k kept h. finished _ role (judge_unary op x k) k (λ clean. unary_rests op k (h clean)))
  of_expression (c.SizeofExpr operand) role known =
      bind (unmarked known.is_unmarked (of_expression operand as_place (unmarked_here (entered known)))) (λ x k kept h. finished _ role (judge_size (own_type x) k) k (λ clean. size_rests (own_type x) k))
  of_expression (c.SizeofType sp d) role known =
      bind (of_specifiers sp (setting_in_sizeof d) (entered known)) (λ it k kept h. bind (of_declarator d it false (λ name known b. type_name_faults b) k)
      (λ t k kept i. finished _ role (also t.faults (judge_size t.type k)) k (λ clean. size_rests t.type k)))
  of_expression (c.Cast sp d operand) role known =
      bind (of_specifiers sp elsewhere (entered known)) (λ it k kept h. bind (of_declarator d it false (λ name known b. type_name_faults b) k)
      (λ t k kept i. bind (of_expression operand as_value k) (λ x k kept j. finished _ role (also t.faults (judge_cast t.type x k)) k (λ clean. cast_rests t.type k (j clean)))))
  of_expression (c.Binary op left right) role known =
      bind (of_expression left as_value (entered known)) (λ x k kept h. bind (of_expression right as_value k)
      (λ y k kept i. finished _ role (judge_binary op x y k) k (λ clean. binary_rests op k (still kept h clean) (i clean))))
  of_expression (c.Logical op left right) role known =
      bind (of_expression left as_truth (entered known)) (λ x k kept h. bind (of_expression right as_truth k) (λ y k kept i. finished _ role (judge_logical op x y) k (λ clean. logical_rests op x y)))
  of_expression (c.Conditional test left right) role known =
      bind (of_expression test as_truth (entered known)) (λ p k kept g. bind (of_expression left as_value k) (λ x k kept h. bind (of_expression right as_value k)
      (λ y k kept i. finished _ role (judge_conditional p x y k) k (λ clean. conditional_rests p k (still kept h clean) (i clean)))))
  of_expression (c.Assign op target value) role known =
      bind (of_expression target as_place (entered known)) (λ x k kept h. bind (of_expression value as_value k) (λ y k kept i. finished _ role (judge_assignment op x y k) k (λ clean. assignment_rests op x y k)))
  of_expression (c.Comma list) role known = bind (of_expressions list (entered known)) (λ xs k kept h. finished _ role (judge_comma xs) k (λ clean. comma_rests xs))
  of_expression (c.Marked ms value) role known =
      bind (of_marks ms (entered known)) (λ typed k kept h. bind (of_expression value (inside_mark role) k) (λ x k kept i. finished _ role (judge_marked typed x) k (λ clean. marked_rests typed (i clean))))
  of_expression (c.Decide operand when_true when_false tag) role known =
      bind (of_expression operand (inside_mark role) (entered known)) (λ x k kept h. bind
      (finished known.next role (judge_decide role x when_true when_false tag k) k (λ clean. decide_rests role when_true when_false tag k (h clean))) (λ result k kept i. went same i))
  of_expression (c.After operand id tag) role known =
      bind (of_expression operand (inside_after role) (entered known)) (λ x k kept h. bind
      (finished known.next role (judge_after role x id tag k) k (λ clean. after_rests role id tag k (h clean))) (λ result k kept i. went same i))

  of_expressions : (them : c.Expressions) (known : Known) → Kept known (expressions them known)
  of_expressions c.no_expressions known = went same tt
  of_expressions (c.an_expression first rest) known = bind (of_expression first as_value known) (λ x k kept h. bind (of_expressions rest k) (λ xs k kept i. went same tt))

  of_maybe : (it : c.Maybe) (known : Known) → Kept known (maybe it known)
  of_maybe c.absent known = went same tt
  of_maybe (c.present e) known = bind (unmarked known.is_unmarked (of_expression e as_value (unmarked_here known))) (λ x k kept h. went same tt)

  of_marks : (them : c.Marks) (known : Known) → Kept known (marks them known)
  of_marks c.no_marks known = went same tt
  of_marks (c.a_mark first rest) known = bind (of_mark first known) (λ m k kept h. bind (of_marks rest k) (λ ms k kept i. went same tt))

  pub of_mark : (it : c.Mark) (known : Known) → Kept known (mark it known)
  of_mark (c.mark predicate id tag names) known =
      bind (of_expression predicate as_value (entered known)) (λ x k kept h. bind (of_bindings names k) (λ bs k kept i. ended_mark known.next predicate x id tag bs k))

  of_bindings : (them : c.Bindings) (known : Known) → Kept known (bindings them known)
  of_bindings c.no_bindings known = went same tt
  of_bindings (c.a_binding name value rest) known = bind (of_expression value as_value known) (λ x k kept h. bind (of_bindings rest k) (λ bs k kept i. went same tt))

  pub of_specifiers : (it : c.Specifiers) (setting : Setting) (known : Known) → Kept known (specifiers it setting known)
  of_specifiers (c.specifiers words types) setting known = bind (of_types types (beside_words words setting) known) (λ namings k kept h. went same tt)

  of_types : (them : c.TypeSpecifiers) (setting : Setting) (known : Known) → Kept known (type_specifiers them setting known)
  of_types c.no_types setting known = went same tt
  of_types (c.a_type first rest) setting known = bind (of_type first setting known) (λ it k kept h. bind (of_types rest setting k) (λ others k kept i. went same tt))

  of_type : (it : c.TypeSpecifier) (setting : Setting) (known : Known) → Kept known (type_specifier it setting known)
  of_type (c.Basic type) setting known = went same tt
  of_type (c.Word word) setting known = went same tt
  of_type (c.StructTag tag) setting known = struct_tag setting tag known
  of_type (c.Struct tag list) setting known = bind (opened_struct tag known) (λ opened k kept h. bind (of_members list [] k) (λ found k kept i. closed_struct opened found k))
  of_type (c.EnumTag tag) setting known = went same tt
  of_type (c.Enum tag list) setting known = bind (opened_enum tag known) (λ faults k kept h. bind (of_enumerators list (pos 0) k) (λ u k kept i. closed_enum tag faults k))
  of_type (c.Named name) setting known = went same tt

  of_members : (them : c.Members) (list : List Member) (known : Known) → Kept known (members them list known)
  of_members c.no_members list known = went same tt
  of_members (c.a_member first rest) list known = bind (of_struct_member first list known) (λ longer k kept h. of_members rest longer k)

  of_struct_member : (it : c.StructMember) (list : List Member) (known : Known) → Kept known (struct_member it list known)
  of_struct_member (c.member sp ds) list known =
      bind (of_specifiers sp elsewhere (entered known)) (λ it k kept h. bind (of_member_declarators ds it list k)
      (λ found k kept i. judges known.next (broken_if incomplete_type (is_no_declarator ds) ++ alone_faults (is_no_declarator ds) it ++ found.faults) k _ (went same tt)))

  of_member_declarators : (them : c.MemberDeclarators) (it : Specified) (list : List Member) (known : Known) → Kept known (member_declarators them it list known)
  of_member_declarators c.no_declarators it list known = went same tt
  of_member_declarators (c.a_declarator d width rest) it list known =
      bind (of_declarator d it false (member_faults list (has_width width)) known) (λ declared k kept h. bind (of_maybe width k)
      (λ written k kept i. bind (of_member_declarators rest it (with_member list declared) k) (λ found k kept j. went same tt)))

  of_enumerators : (them : c.Enumerators) (counted : ℤ) (known : Known) → Kept known (enumerators them counted known)
  of_enumerators c.no_enumerators counted known = went same tt
  of_enumerators (c.an_enumerator name value rest) counted known =
      bind (of_maybe value (entered known)) (λ x k kept h. bind (ended_enumerator known.next name (value_given counted x) k) (λ next k kept i. of_enumerators rest next k))

  -- one without a name and parts is no node
  pub of_declarator : (it : c.Declarator) (sp : Specified) (is_definition : Bool) (judge : Option (List ℕ) → Known → Built → List Rule) (known : Known) → Kept known (declarator it sp is_definition judge known)
  of_declarator (c.declarator (Some name) ps) sp is_definition judge known =
      bind (of_parts ps sp.type is_definition true (entered known)) (λ b k kept h. ended_declarator (Some known.next) (Some name) b (all_faults sp b (judge (Some name) k b)) k)
  of_declarator (c.declarator None c.no_parts) sp is_definition judge known = went same tt
  of_declarator (c.declarator None (c.Pointer q rest)) sp is_definition judge known =
      bind (of_parts (c.Pointer q rest) sp.type is_definition true (entered known)) (λ b k kept h. ended_declarator (Some known.next) None b (all_faults sp b (judge None k b)) k)
  of_declarator (c.declarator None (c.Array size rest)) sp is_definition judge known =
      bind (of_parts (c.Array size rest) sp.type is_definition true (entered known)) (λ b k kept h. ended_declarator (Some known.next) None b (all_faults sp b (judge None k b)) k)
  of_declarator (c.declarator None (c.Function them rest)) sp is_definition judge known =
      bind (of_parts (c.Function them rest) sp.type is_definition true (entered known)) (λ b k kept h. ended_declarator (Some known.next) None b (all_faults sp b (judge None k b)) k)

  of_parts : (them : c.Parts) (t : CType) (is_definition is_outermost : Bool) (known : Known) → Kept known (parts them t is_definition is_outermost known)
  of_parts c.no_parts t is_definition is_outermost known = went same tt
  of_parts (c.Pointer q rest) t is_definition is_outermost known = bind (of_parts rest t false false known) (λ inner k kept h. went same tt)
  of_parts (c.Array size rest) t is_definition is_outermost known = bind (of_maybe size known) (λ n k kept h. bind (of_parts rest t false false k) (λ inner k kept i. went same tt))
  of_parts (c.Function them rest) t is_definition is_outermost known =
      bind (scoped known.frames (of_parameters them is_definition (in_new_frame known))) (λ found k kept h. bind (of_parts rest t false false k) (λ inner k kept i. went same tt))

  of_parameters : (them : c.Parameters) (is_definition : Bool) (known : Known) → Kept known (parameters them is_definition known)
  of_parameters c.Unstated is_definition known = went same tt
  of_parameters c.Void is_definition known = went same tt
  of_parameters (c.Listed list) is_definition known = of_parameter_list list is_definition known
  of_parameters (c.Open list) is_definition known = bind (of_parameter_list list is_definition known) (λ them k kept h. went same tt)

  of_parameter_list : (them : c.ParameterList) (is_definition : Bool) (known : Known) → Kept known (parameter_list them is_definition known)
  of_parameter_list c.no_parameters is_definition known = went same tt
  of_parameter_list (c.a_parameter sp d rest) is_definition known =
      bind (of_specifiers sp elsewhere known) (λ it k kept h. bind (of_declarator d it false (parameter_faults is_definition) k)
      (λ declared k kept i. bind (bound_parameter is_definition (is_register it) declared.node declared.name (adjusted declared.type) k)
      (λ objects k kept j. bind (of_parameter_list rest is_definition k) (λ others k kept l. went same tt))))
