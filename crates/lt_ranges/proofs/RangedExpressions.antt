-- The typing of expressions, and of what stands inside them, stays in range.
use Rattle.std.proofs.Common.{◌≡◌, sym, ap, ◌∙◌, ℕ, ℤ, pos, Bool, true, false, List, [], ◌∷◌, ◌++◌, length, Option, Some, None}
use Rattle.std.specs.Prelude.{unwrap_or, ◌==◌}
use Rattle.lt_model.specs.declared.operator.Op.TheVariants as O
use Rattle.lt_tree.specs.Tree as c
use Rattle.lt_tree.specs.Typing.Types.{CType, adjusted}
use Rattle.lt_tree.specs.Typing.Extents.{Member}
use Rattle.lt_tree.specs.Typing.Constants.{constant_of}
use Rattle.lt_tree.specs.Typing.Rules.{Rule, broken_if, unless, bad_mark, incomplete_type}
use Rattle.lt_tree.specs.Typing.TypedTree as e
use Rattle.lt_tree.specs.Typing.TypedTree.{before, after, names_bound}
use Rattle.lt_tree.specs.Typing.Entities.{Known, Label, an_enumerator, meaning_of, tagged_in}
use Rattle.lt_tree.specs.Typing.Steps.{Goes}
use Rattle.lt_tree.specs.Typing.Expressions.{Typed, Use, as_value, as_truth, as_place, as_callee, own_type, value_in}
use Rattle.lt_tree.specs.Typing.Operations.{judge_name, judge_constant, judge_step, judge_size, judge_member, judge_arrow, judge_index, judge_call, judge_cast}
use Rattle.lt_tree.specs.Typing.BinaryOperations.{judge_binary, judge_logical, judge_conditional, judge_assignment, judge_comma}
use Rattle.lt_tree.specs.Typing.MarkRules.{TypedBinding, is_good_mark, names_of, bindings_of, number_of_id, label_of, judge_decide, inside_mark, inside_after, judge_after, judge_marked}
use Rattle.lt_tree.specs.Typing.Specifying.{Specified, is_register, Setting, elsewhere, beside_words, value_given, enumerator_faults}
use Rattle.lt_tree.specs.Typing.Declarators.{Built, all_faults, length_or_none, setting_in_sizeof, is_written, type_name_faults, parameter_faults, member_faults, with_member, has_width}
use Rattle.lt_tree.specs.Typing.NodeEnds.{text_object, text_at, judge_unary, operand_of, also, end_of_mark, end_of_enumerator, is_no_declarator, alone_faults, end_of_declarator, enter_if, without_parameters}
use Rattle.lt_tree.specs.Typing.ExpressionTyping.{expression, expressions, maybe, marks, mark, bindings, specifiers, type_specifiers, type_specifier, members, struct_member, member_declarators, enumerators, declarator, parts, parameters, parameter_list}
use Rattle.lt_tree.specs.Typing.Ranges.{Lists, to_label, bound_by, in_marks, in_mark}
use Rattle.lt_ranges.proofs.References.{Has, none, one, cons, both, Kept, same, then_kept, later}
use Rattle.lt_ranges.proofs.Steps.{Sound, lists_of, Good, went, bind, onward, done, Any, judges, judged, unmarked, in_innermost, in_new_frame, unmarked_here, entered, new_frame, scoped}
use Rattle.lt_ranges.proofs.TypesInRange.{T, adjusted_in}
use Rattle.lt_ranges.proofs.TypedInRange.{TypedIn, later_typed, value_in_range, used_in}
use Rattle.lt_ranges.proofs.Lookups.{bound_in_range, Ms}
use Rattle.lt_ranges.proofs.OperationsInRange.{name_in, constant_in_range, text_in_range, unary_in, step_in, size_in, member_typed_in, arrow_in, index_in, AllTyped, call_in, cast_typed_in}
use Rattle.lt_ranges.proofs.BinaryInRange.{binary_in, logical_in, conditional_in, assignment_in, comma_in, marked_in, decide_in, after_in, AllBound, bindings_in, names_are_bound}
use Rattle.lt_ranges.proofs.Growth.{bound, with_object, object_kept, object_there, object_added, with_label, label_kept, label_there, label_added, none_more}
use Rattle.lt_ranges.proofs.NewLabels.{mark_is_new, decision_is_new, after_is_new}
use Rattle.lt_ranges.proofs.Nodes.{finished_as, finished, decide_fact_in, after_fact_in}
use Rattle.lt_ranges.proofs.Specified.{NamingIn, NamingsIn, SpecifiedIn, basic_in, typedef_in, specified_in, struct_tag_in, enum_tag_in, open_struct_in, close_struct_in, open_enum_in, close_enum_in, ParametersIn, BuiltIn, DeclaresIn, later_declares, array_in, function_built_in, pointer_in, dots_in, binds_in, parameter_in, MemberedIn, member_added}

abbrev pub MaybeIn : Lists → Option Typed → Type 0
MaybeIn b None = Unit {0}
MaybeIn b (Some x) = TypedIn b x

abbrev pub MarksIn : Lists → e.Marks → Type 0
MarksIn b ms = Has b (in_marks ms)

abbrev pub MarkIn : Lists → e.Mark → Type 0
MarkIn b m = Has b (in_mark m)

later_all : {b b' : Lists} (xs : List Typed) → Kept b b' → AllTyped b xs → AllTyped b' xs
later_all [] kept h = tt
later_all (x ∷ xs) kept h = (later_typed kept h.0, later_all xs kept h.1)

-- ---- marks

-- no label has its id, and once it is there the expression is in range
abbrev Once : Label → Lists → Typed → Type 0
Once label b x = (bound_by label.id b.labels ≡ None) × ((b' : Lists) → Kept b b' → bound_by label.id b'.labels ≡ Some label.bound → TypedIn b' x)

abbrev Twice : Label → Label → Lists → Typed → Type 0
Twice one two b x =
    (bound_by one.id b.labels ≡ None) × (bound_by two.id b.labels ≡ None) × ((one.id == two.id) ≡ false)
    × ((b' : Lists) → Kept b b' → bound_by one.id b'.labels ≡ Some one.bound → bound_by two.id b'.labels ≡ Some two.bound → TypedIn b' x)

labelled : (label : Label) (result : Typed) (known : Known) → Sound known → Once label (lists_of known) result → Good TypedIn (lists_of known) (Goes result (with_label label known))
labelled label result known s f =
    went (label_kept label known) (label_added label known s) (f.1 (lists_of (with_label label known)) (label_kept label known) (label_there label known f.0))

labelled_twice : (one two : Label) (result : Typed) (known : Known) → Sound known → Twice one two (lists_of known) result
    → Good TypedIn (lists_of known) (Goes result (with_label two (with_label one known)))
labelled_twice one two result known s f =
    let middle = with_label one known in
    let end = with_label two middle in
    let kept = then_kept (label_kept one known) (label_kept two middle) in
    let first : bound_by one.id end.labels ≡ Some one.bound = (label_kept two middle).labels one.id one.bound (label_there one known f.0) in
    let second : bound_by two.id end.labels ≡ Some two.bound = label_there two middle (none_more two.id known.labels one f.2 f.1) in
    went kept (label_added two middle (label_added one known s)) (f.3 (lists_of end) kept first second)

ended_mark : (node : ℕ) (written : c.Expression) (x : Typed) (id tag : List ℕ) (bs : List TypedBinding) (known : Known) → Sound known → TypedIn (lists_of known) x → AllBound (lists_of known) bs
    → Good MarkIn (lists_of known) (end_of_mark node written x id tag bs known)
ended_mark node written x id tag bs known s h i =
    let label = label_of id tag (names_of bs) in
    let kept = label_kept label known in
    judges node (unless (is_good_mark known written x id tag bs) bad_mark) known (λ u k. Goes (e.mark (value_in x) (number_of_id id) (bindings_of bs)) (with_label label k))
    (λ clean. let new : bound_by label.id known.labels ≡ None = mark_is_new known written x id tag bs clean in
    let there : bound_by label.id (with_label label known).labels ≡ Some (names_bound (bindings_of bs)) = label_there label known new ∙ ap Some (sym (names_are_bound bs)) in
    went kept (label_added label known s) (cons {r = to_label (number_of_id id) (names_bound (bindings_of bs))} there (both (later kept (value_in_range h)) (later kept (bindings_in bs i)))))

later_bound : {b b' : Lists} (bs : List TypedBinding) → Kept b b' → AllBound b bs → AllBound b' bs
later_bound [] kept h = tt
later_bound (it ∷ bs) kept h = (later_typed kept h.0, later_bound bs kept h.1)

-- ---- declarators and enumerators

may_enter : (written : Bool) (known : Known) → Sound known → Good Any (lists_of known) (enter_if written known)
may_enter true known s = went same s tt
may_enter false known s = went same s tt

ended_declarator : {is_definition : Bool} (node : Option ℕ) (name : Option (List ℕ)) (it : Built) (faults : List Rule) (known : Known) → Sound known → BuiltIn is_definition (lists_of known) it
    → Good (DeclaresIn is_definition) (lists_of known) (end_of_declarator node name it faults known)
ended_declarator None name it faults known s h = done known s (record { type = h.type; parameters = h.parameters })
ended_declarator (Some node) name it faults known s h = bind (judged node faults known s) (λ u k kept s r. done k s (record { type = later kept h.type; parameters = later kept h.parameters }))

ended_enumerator : (node : ℕ) (name : List ℕ) (z : Option ℤ) (known : Known) → Sound known → Good Any (lists_of known) (end_of_enumerator node name z known)
ended_enumerator node name z known s = bind (judged node (enumerator_faults known name z) known s) (λ u k kept s r. went same (bound name (an_enumerator (unwrap_or z (pos 0))) k none s) tt)

no_parameters : (is_definition : Bool) (known : Known) → Sound known → Good (ParametersIn is_definition) (lists_of known) (without_parameters known)
no_parameters is_definition known s = done known s (in_innermost known.frames s.frames)

-- ---- expressions

mutual
  pub of_expression : (it : c.Expression) (role : Use) (known : Known) → Sound known → Good TypedIn (lists_of known) (expression it role known)
  of_expression (c.Name name) role known s =
      finished _ role (judge_name role name (meaning_of name known) (entered known)) (entered known) s (λ clean. name_in role name (meaning_of name known) (entered known) s (bound_in_range name known.frames s.frames))
  of_expression (c.Constant text) role known s = finished _ role (judge_constant (constant_of known.model text)) (entered known) s (λ clean. constant_in_range (constant_of known.model text))
  of_expression (c.Text bytes) role known s =
      let object = text_object known.next (entered known) bytes in
      let k = with_object object (entered known) in
      onward (object_kept object (entered known)) (finished _ role (text_at (entered known) bytes (length known.objects)) k (object_added object (entered known) none s)
      (λ clean. text_in_range (entered known) bytes (length known.objects) (object_there object (entered known))))
  of_expression (c.Index whole index) role known s =
      bind (of_expression whole as_value (entered known) s) (λ x k kept s x_in. bind (of_expression index as_value k s)
      (λ y k kept s y_in. finished _ role (judge_index x y k) k s (λ clean. index_in k (later_typed kept x_in) y_in)))
  of_expression (c.Call callee arguments) role known s =
      bind (of_expression callee as_callee (entered known) s) (λ f k kept s f_in. bind (of_expressions arguments k s)
      (λ xs k kept s xs_in. finished _ role (judge_call f xs k) k s (λ clean. call_in xs k (later_typed kept f_in) xs_in clean)))
  of_expression (c.Member whole name) role known s =
      bind (of_expression whole as_place (entered known) s) (λ x k kept s x_in. finished _ role (judge_member x name k) k s (λ clean. member_typed_in name k s x_in))
  of_expression (c.Arrow pointer name) role known s =
      bind (of_expression pointer as_value (entered known) s) (λ x k kept s x_in. finished _ role (judge_arrow x name k) k s (λ clean. arrow_in name k s x_in))
  of_expression (c.PostInc target) role known s =
      bind (of_expression target as_place (entered known) s) (λ x k kept s x_in. finished _ role (judge_step before O.Add x k) k s (λ clean. step_in before O.Add k x_in))
  of_expression (c.PostDec target) role known s =
      bind (of_expression target as_place (entered known) s) (λ x k kept s x_in. finished _ role (judge_step before O.Sub x k) k s (λ clean. step_in before O.Sub k x_in))
  of_expression (c.PreInc target) role known s =
      bind (of_expression target as_place (entered known) s) (λ x k kept s x_in. finished _ role (judge_step after O.Add x k) k s (λ clean. step_in after O.Add k x_in))
  of_expression (c.PreDec target) role known s =
      bind (of_expression target as_place (entered known) s) (λ x k kept s x_in. finished _ role (judge_step after O.Sub x k) k s (λ clean. step_in after O.Sub k x_in))
  of_expression (c.Unary op operand) role known s =
      bind (of_expression operand (operand_of op) (entered known) s) (λ x k kept s x_in. finished _ role (judge_unary op x k) k s (λ clean. unary_in op k x_in))
  of_expression (c.SizeofExpr operand) role known s =
      bind (unmarked known.is_unmarked (of_expression operand as_place (unmarked_here (entered known)) s)) (λ x k kept s x_in. finished _ role (judge_size (own_type x) k) k s (λ clean. size_in (own_type x) k))
  of_expression (c.SizeofType sp d) role known s =
      bind (of_specifiers sp (setting_in_sizeof d) (entered known) s) (λ it k kept s it_in. bind (of_declarator d it false (λ name known b. type_name_faults b) k s it_in)
      (λ t k kept s t_in. finished _ role (also t.faults (judge_size t.type k)) k s (λ clean. size_in t.type k)))
  of_expression (c.Cast sp d operand) role known s =
      bind (of_specifiers sp elsewhere (entered known) s) (λ it k kept s it_in. bind (of_declarator d it false (λ name known b. type_name_faults b) k s it_in) (λ t k kept s t_in. bind (of_expression operand as_value k s)
      (λ x k kept s x_in. finished _ role (also t.faults (judge_cast t.type x k)) k s (λ clean. cast_typed_in t.type k (later kept t_in.type) x_in))))
  of_expression (c.Binary op left right) role known s =
      bind (of_expression left as_value (entered known) s) (λ x k kept s x_in. bind (of_expression right as_value k s)
      (λ y k kept s y_in. finished _ role (judge_binary op x y k) k s (λ clean. binary_in op k (later_typed kept x_in) y_in)))
  of_expression (c.Logical op left right) role known s =
      bind (of_expression left as_truth (entered known) s) (λ x k kept s x_in. bind (of_expression right as_truth k s)
      (λ y k kept s y_in. finished _ role (judge_logical op x y) k s (λ clean. logical_in op (later_typed kept x_in) y_in)))
  of_expression (c.Conditional test left right) role known s =
      bind (of_expression test as_truth (entered known) s) (λ p k kept s p_in. bind (of_expression left as_value k s) (λ x k kept_x s x_in. bind (of_expression right as_value k s)
      (λ y k kept_y s y_in. finished _ role (judge_conditional p x y k) k s (λ clean. conditional_in k (later_typed (then_kept kept_x kept_y) p_in) (later_typed kept_y x_in) y_in))))
  of_expression (c.Assign op target value) role known s =
      bind (of_expression target as_place (entered known) s) (λ x k kept s x_in. bind (of_expression value as_value k s)
      (λ y k kept s y_in. finished _ role (judge_assignment op x y k) k s (λ clean. assignment_in op k (later_typed kept x_in) y_in)))
  of_expression (c.Comma list) role known s = bind (of_expressions list (entered known) s) (λ xs k kept s xs_in. finished _ role (judge_comma xs) k s (λ clean. comma_in xs xs_in))
  of_expression (c.Marked ms value) role known s =
      bind (of_marks ms (entered known) s) (λ typed k kept s ms_in. bind (of_expression value (inside_mark role) k s)
      (λ x k kept s x_in. finished _ role (judge_marked typed x) k s (λ clean. marked_in typed (later kept ms_in) x_in)))
  of_expression (c.Decide operand when_true when_false tag) role known s =
      bind (of_expression operand (inside_mark role) (entered known) s) (λ x k kept s x_in. bind
      (finished_as {P = Twice (label_of when_true tag []) (label_of when_false tag [])} known.next role (judge_decide role x when_true when_false tag k) k s
      (λ clean. let new = decision_is_new role x when_true when_false tag k clean in
      (decide_fact_in known.next role when_true when_false tag k x_in, (new.0, new.1, new.2, λ b kept i j. used_in role (decide_in role when_true when_false tag k (later_typed kept x_in) i j)))))
      (λ result k kept s h. labelled_twice (label_of when_true tag []) (label_of when_false tag []) result k s h))
  of_expression (c.After operand id tag) role known s =
      bind (of_expression operand (inside_after role) (entered known) s) (λ x k kept s x_in. bind
      (finished_as {P = Once (label_of id tag [])} known.next role (judge_after role x id tag k) k s
      (λ clean. (after_fact_in known.next role id tag k x_in, (after_is_new role x id tag k clean, λ b kept i. used_in role (after_in role id tag k (later_typed kept x_in) i)))))
      (λ result k kept s h. labelled (label_of id tag []) result k s h))

  of_expressions : (them : c.Expressions) (known : Known) → Sound known → Good AllTyped (lists_of known) (expressions them known)
  of_expressions c.no_expressions known s = done known s tt
  of_expressions (c.an_expression first rest) known s =
      bind (of_expression first as_value known s) (λ x k kept s x_in. bind (of_expressions rest k s) (λ xs k kept s xs_in. done k s (later_typed kept x_in, xs_in)))

  of_maybe : (it : c.Maybe) (known : Known) → Sound known → Good MaybeIn (lists_of known) (maybe it known)
  of_maybe c.absent known s = done known s tt
  of_maybe (c.present e) known s = bind (unmarked known.is_unmarked (of_expression e as_value (unmarked_here known) s)) (λ x k kept s x_in. done k s x_in)

  of_marks : (them : c.Marks) (known : Known) → Sound known → Good MarksIn (lists_of known) (marks them known)
  of_marks c.no_marks known s = done known s none
  of_marks (c.a_mark first rest) known s = bind (of_mark first known s) (λ m k kept s m_in. bind (of_marks rest k s) (λ ms k kept s ms_in. done k s (both (later kept m_in) ms_in)))

  pub of_mark : (it : c.Mark) (known : Known) → Sound known → Good MarkIn (lists_of known) (mark it known)
  of_mark (c.mark predicate id tag bound) known s =
      bind (of_expression predicate as_value (entered known) s) (λ x k kept s x_in. bind (of_bindings bound k s)
      (λ bs k kept s bs_in. ended_mark known.next predicate x id tag bs k s (later_typed kept x_in) bs_in))

  of_bindings : (them : c.Bindings) (known : Known) → Sound known → Good AllBound (lists_of known) (bindings them known)
  of_bindings c.no_bindings known s = done known s tt
  of_bindings (c.a_binding name value rest) known s =
      bind (of_expression value as_value known s) (λ x k kept s x_in. bind (of_bindings rest k s) (λ bs k kept s bs_in. done k s (later_typed kept x_in, bs_in)))

  pub of_specifiers : (it : c.Specifiers) (setting : Setting) (known : Known) → Sound known → Good SpecifiedIn (lists_of known) (specifiers it setting known)
  of_specifiers (c.specifiers words types) setting known s = bind (of_types types (beside_words words setting) known s) (λ namings k kept s h. done k s (specified_in words namings h))

  of_types : (them : c.TypeSpecifiers) (setting : Setting) (known : Known) → Sound known → Good NamingsIn (lists_of known) (type_specifiers them setting known)
  of_types c.no_types setting known s = done known s none
  of_types (c.a_type first rest) setting known s =
      bind (of_type first setting known s) (λ it k kept s it_in. bind (of_types rest setting k s) (λ others k kept s others_in. done k s (both (later kept it_in) others_in)))

  of_type : (it : c.TypeSpecifier) (setting : Setting) (known : Known) → Sound known → Good NamingIn (lists_of known) (type_specifier it setting known)
  of_type (c.Basic type) setting known s = done known s (basic_in type)
  of_type (c.Word word) setting known s = done known s none
  of_type (c.StructTag tag) setting known s = struct_tag_in setting tag known s
  of_type (c.Struct tag list) setting known s =
      bind (open_struct_in tag known s) (λ opened k kept s o_in. bind (of_members list [] k s none) (λ found k kept s ms_in. close_struct_in opened found k (later kept o_in) ms_in s))
  of_type (c.EnumTag tag) setting known s = done known s (enum_tag_in setting (tagged_in tag known.frames))
  of_type (c.Enum tag list) setting known s =
      bind (open_enum_in tag known s) (λ faults k kept s h. bind (of_enumerators list (pos 0) k s) (λ u k kept s h. close_enum_in tag faults k s))
  of_type (c.Named name) setting known s = done known s (typedef_in name (meaning_of name known) (bound_in_range name known.frames s.frames))

  of_members : (them : c.Members) (list : List Member) (known : Known) → Sound known → Ms (lists_of known) list → Good Ms (lists_of known) (members them list known)
  of_members c.no_members list known s h = done known s h
  of_members (c.a_member first rest) list known s h = bind (of_struct_member first list known s h) (λ longer k kept s ms_in. of_members rest longer k s ms_in)

  of_struct_member : (it : c.StructMember) (list : List Member) (known : Known) → Sound known → Ms (lists_of known) list → Good Ms (lists_of known) (struct_member it list known)
  of_struct_member (c.member sp ds) list known s h =
      bind (of_specifiers sp elsewhere (entered known) s) (λ it k kept s it_in. bind (of_member_declarators ds it list k s it_in (later kept h))
      (λ found k kept s found_in. bind (judged known.next (broken_if incomplete_type (is_no_declarator ds) ++ alone_faults (is_no_declarator ds) it ++ found.faults) k s) (λ u k kept s r. done k s (later kept found_in))))

  of_member_declarators : (them : c.MemberDeclarators) (it : Specified) (list : List Member) (known : Known) → Sound known → SpecifiedIn (lists_of known) it → Ms (lists_of known) list
      → Good MemberedIn (lists_of known) (member_declarators them it list known)
  of_member_declarators c.no_declarators it list known s it_in h = done known s h
  of_member_declarators (c.a_declarator d width rest) it list known s it_in h =
      bind (of_declarator d it false (member_faults list (has_width width)) known s it_in) (λ declared k kept s d_in. bind (of_maybe width k s)
      (λ written k kept_w s w_in. bind (of_member_declarators rest it (with_member list declared) k s (later (then_kept kept kept_w) it_in)
      (member_added list (later (then_kept kept kept_w) h) (later_declares kept_w d_in))) (λ found k kept s found_in. done k s found_in)))

  of_enumerators : (them : c.Enumerators) (counted : ℤ) (known : Known) → Sound known → Good Any (lists_of known) (enumerators them counted known)
  of_enumerators c.no_enumerators counted known s = done known s tt
  of_enumerators (c.an_enumerator name value rest) counted known s =
      bind (of_maybe value (entered known) s) (λ x k kept s x_in. bind (ended_enumerator known.next name (value_given counted x) k s) (λ next k kept s h. of_enumerators rest next k s))

  pub of_declarator : (it : c.Declarator) (sp : Specified) (is_definition : Bool) (judge : Option (List ℕ) → Known → Built → List Rule) (known : Known) → Sound known → SpecifiedIn (lists_of known) sp
      → Good (DeclaresIn is_definition) (lists_of known) (declarator it sp is_definition judge known)
  of_declarator (c.declarator name ps) sp is_definition judge known s h =
      bind (may_enter (is_written name ps) known s) (λ node k kept s u. bind (of_parts ps sp.type is_definition true k s (later kept h))
      (λ b k kept s b_in. ended_declarator node name b (all_faults sp b (judge name k b)) k s b_in))

  of_parts : (them : c.Parts) (t : CType) (is_definition is_outermost : Bool) (known : Known) → Sound known → T (lists_of known) t → Good (BuiltIn is_definition) (lists_of known) (parts them t is_definition is_outermost known)
  of_parts c.no_parts t is_definition is_outermost known s h = done known s (record { type = h; parameters = none })
  of_parts (c.Pointer q rest) t is_definition is_outermost known s h = bind (of_parts rest t false false known s h) (λ inner k kept s i_in. done k s (pointer_in q i_in))
  of_parts (c.Array length rest) t is_definition is_outermost known s h =
      bind (of_maybe length known s) (λ n k kept s n_in. bind (of_parts rest t false false k s (later kept h)) (λ inner k kept s i_in. done k s (array_in k (length_or_none is_outermost n) i_in)))
  of_parts (c.Function them rest) t is_definition is_outermost known s h =
      bind (scoped known s (of_parameters them is_definition (in_new_frame known) (new_frame known s))) (λ found k kept s f_in. bind (of_parts rest t false false k s (later kept h))
      (λ inner k kept s i_in. done k s (function_built_in found (later kept f_in) i_in)))

  of_parameters : (them : c.Parameters) (is_definition : Bool) (known : Known) → Sound known → Good (ParametersIn is_definition) (lists_of known) (parameters them is_definition known)
  of_parameters c.Unstated is_definition known s = no_parameters is_definition known s
  of_parameters c.Void is_definition known s = no_parameters is_definition known s
  of_parameters (c.Listed list) is_definition known s = of_parameter_list list is_definition known s
  of_parameters (c.Open list) is_definition known s = bind (of_parameter_list list is_definition known s) (λ them k kept s h. done k s (dots_in is_definition them h))

  of_parameter_list : (them : c.ParameterList) (is_definition : Bool) (known : Known) → Sound known → Good (ParametersIn is_definition) (lists_of known) (parameter_list them is_definition known)
  of_parameter_list c.no_parameters is_definition known s = no_parameters is_definition known s
  of_parameter_list (c.a_parameter sp d rest) is_definition known s =
      bind (of_specifiers sp elsewhere known s) (λ it k kept s it_in. bind (of_declarator d it false (parameter_faults is_definition) k s it_in)
      (λ declared k kept s d_in. bind (binds_in is_definition (is_register it) declared.node declared.name (adjusted declared.type) k (adjusted_in declared.type d_in.type) s)
      (λ objects k kept s o_in. bind (of_parameter_list rest is_definition k s)
      (λ others k kept_o s p_in. done k s (parameter_in is_definition objects others (later_declares (then_kept kept kept_o) d_in) (later kept_o o_in) p_in)))))
