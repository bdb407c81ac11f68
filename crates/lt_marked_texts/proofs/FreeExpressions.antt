-- In a typed unit no mark stands in type names and operands of `sizeof`; and none where none may stand.
use Rattle.std.proofs.Common.{◌≡◌, ℕ, ℤ, pos, Bool, true, false, List, [], length, Option, Some, None, refl, sym, ◌∙◌}
use Rattle.std.specs.Prelude.{not, ◌&&◌, ◌==◌, if◌then◌else◌, ◌++◌}
use Rattle.std.specs.List.{list_all}
use Rattle.lt_model.specs.declared.operator.Op.TheVariants as O
use Rattle.lt_tree.specs.Tree as c
use Rattle.lt_tree.specs.Purity.{is_pure}
use Rattle.lt_tree.specs.Typing.Types.{CType, adjusted, is_scalar}
use Rattle.lt_tree.specs.Typing.Extents.{Member}
use Rattle.lt_tree.specs.Typing.Constants.{constant_of}
use Rattle.lt_tree.specs.Typing.Rules.{Rule, broken_if, unless, bad_mark, incomplete_type}
use Rattle.lt_tree.specs.Typing.TypedTree.{before, after}
use Rattle.lt_tree.specs.Typing.Entities.{Known, Tagged, a_struct, an_enum, meaning_of, tagged_in, tag_here}
use Rattle.lt_tree.specs.Typing.Steps.{Goes}
use Rattle.lt_tree.specs.Typing.Expressions.{Typed, Use, as_value, as_truth, as_place, as_callee, own_type, Judged, finish}
use Rattle.lt_tree.specs.Typing.Operations.{judge_name, judge_constant, judge_step, judge_size, judge_member, judge_arrow, judge_index, judge_call, judge_cast}
use Rattle.lt_tree.specs.Typing.BinaryOperations.{judge_binary, judge_logical, judge_conditional, judge_assignment, judge_comma}
use Rattle.lt_tree.specs.Typing.MarkRules.{TypedBinding, is_good_id, is_tag, is_good_binding, are_new_names, names_of, number_of_id, is_good_mark, is_truth, is_good_decision, is_lvalue_in_use, judge_decide, inside_mark, inside_after, judge_after, judge_marked}
use Rattle.lt_tree.specs.Typing.Specifying.{Specified, is_register, Setting, elsewhere, is_alone, beside_words, struct_tagged, OpenStruct, open_new, open_tagged, open_struct, is_complete_struct, with_members, close_struct, open_enum, close_enum, value_given, enumerator_faults}
use Rattle.lt_tree.specs.Typing.Declarators.{Built, all_faults, setting_in_sizeof, is_written, type_name_faults, parameter_faults, binds_parameter, member_faults, with_member, has_width}
use Rattle.lt_tree.specs.Typing.NodeEnds.{text_at, judge_unary, operand_of, also, end_of_mark, end_of_enumerator, is_no_declarator, alone_faults, end_of_declarator, enter_if}
use Rattle.lt_tree.specs.Typing.ExpressionTyping.{expression, expressions, maybe, marks, mark, bindings, specifiers, type_specifiers, type_specifier, members, struct_member, member_declarators, enumerators, declarator, parts, parameters, parameter_list}
use Rattle.lt_marked_texts.proofs.Free.{Free, FreeAll, FreeMaybe, FreeMarks, FreeMark, FreeBindings, FreeSpecifiers, FreeTypes, FreeType, FreeMembers, FreeMember, FreeMemberDeclarators, FreeEnumerators, FreeDeclarator, FreeParts, FreeParameters, FreeList}
use Rattle.lt_marked_texts.proofs.Walking.{Past, Since, Walks, went, bind, onward, judged, finished, entered, in_frames, scoped, unmarked_here, marked_behind, one_more}

-- ---- what is judged of marks

unless_empty : (test : Bool) (rule : Rule) → unless test rule ≡ [] → test ≡ true
unless_empty true rule h = refl
unless_empty false rule h = absurd cc

first_of_seven : (a b d e f g h : Bool) → (not a && b && d && e && f && g && h) ≡ true → a ≡ false
first_of_seven true b d e f g h is = absurd cc
first_of_seven false b d e f g h is = refl

second_of_seven : (a b d e f g h : Bool) → (a && not b && d && e && f && not g && h) ≡ true → b ≡ false
second_of_seven false b d e f g h is = absurd cc
second_of_seven true true d e f g h is = absurd cc
second_of_seven true false d e f g h is = refl

second_of_four : (a b d e : Bool) → (a && not b && d && e) ≡ true → b ≡ false
second_of_four false b d e is = absurd cc
second_of_four true true d e is = absurd cc
second_of_four true false d e is = refl

mark_allowed : (known : Known) (written : c.Expression) (x : Typed) (id tag : List ℕ) (bs : List TypedBinding) → unless (is_good_mark known written x id tag bs) bad_mark ≡ [] → known.is_unmarked ≡ false
mark_allowed known written x id tag bs h =
    first_of_seven known.is_unmarked (is_scalar (own_type x)) (is_pure written) (is_good_id known id) (is_tag tag) (list_all is_good_binding bs) (are_new_names known (names_of bs))
    (unless_empty (is_good_mark known written x id tag bs) bad_mark h)

decision_allowed : (role : Use) (x : Typed) (when_true when_false tag : List ℕ) (known : Known) → (judge_decide role x when_true when_false tag known).faults ≡ [] → known.is_unmarked ≡ false
unfolding judge_decide
decision_allowed role x when_true when_false tag known h =
    second_of_seven (is_truth role) known.is_unmarked (is_scalar (own_type x)) (is_good_id known when_true) (is_good_id known when_false)
    (number_of_id when_true == number_of_id when_false) (is_tag tag) (unless_empty (is_good_decision role known x when_true when_false tag) bad_mark h)
  where
    first_of_rest : (a b d e f g h : Bool) → (a && not b && d && e && f && not g && h) ≡ true → b ≡ false
    first_of_rest = second_of_seven

after_allowed : (role : Use) (x : Typed) (id tag : List ℕ) (known : Known) → (judge_after role x id tag known).faults ≡ [] → known.is_unmarked ≡ false
unfolding judge_after
after_allowed role x id tag known h =
    second_of_four (not (is_lvalue_in_use role x)) known.is_unmarked (is_good_id known id) (is_tag tag)
    (unless_empty (not (is_lvalue_in_use role x) && not known.is_unmarked && is_good_id known id && is_tag tag) bad_mark h)

-- ---- steps

pub nothing : Unit {0}
nothing = tt

module _ {past : Past} where
  done : {A P : Type 0} {was : Bool} {a : A} (known : Known) → Since was past known → P → Walks P was past (Goes a known)
  done known s p = went s p

  so : {P : Type 0} {was : Bool} (node : ℕ) (role : Use) (it : Judged) (known : Known) → Since was past known → P → Walks P was past (finish node role it known)
  so node role it known s p = finished node role it known s (λ clean. p)

  pub may_enter : {was : Bool} (written : Bool) (known : Known) → Since was past known → Walks (Unit {0}) was past (enter_if written known)
  may_enter true known s = went (entered known s) tt
  may_enter false known s = went s tt

  ended_declarator : {P : Type 0} {was : Bool} (node : Option ℕ) (name : Option (List ℕ)) (it : Built) (faults : List Rule) (known : Known) → Since was past known → P → Walks P was past (end_of_declarator node name it faults known)
  ended_declarator None name it faults known s p = went s p
  ended_declarator (Some node) name it faults known s p = bind (judged node faults known s (λ clean. p)) (λ u k s p. went s p)

  ended_enumerator : {P : Type 0} {was : Bool} (node : ℕ) (name : List ℕ) (z : Option ℤ) (known : Known) → Since was past known → P → Walks P was past (end_of_enumerator node name z known)
  ended_enumerator node name z known s p = bind (judged node (enumerator_faults known name z) known s (λ clean. p)) (λ u k s p. went (in_frames _ k s) p)

  ended_mark : {P : Type 0} {was : Bool} (node : ℕ) (written : c.Expression) (x : Typed) (id tag : List ℕ) (bs : List TypedBinding) (known : Known) → Since was past known → (was ≡ false → P)
      → Walks P was past (end_of_mark node written x id tag bs known)
  ended_mark node written x id tag bs known s p =
      bind (judged node (unless (is_good_mark known written x id tag bs) bad_mark) known s (λ clean. p (sym s.unmarked ∙ mark_allowed known written x id tag bs clean)))
      (λ u k s p. went (record { unmarked = s.unmarked; behind = s.behind; functions = s.functions }) p)

  struct_found : {was : Bool} (tag : List ℕ) (found : Option Tagged) (known : Known) → Since was past known → Walks (Unit {0}) was past (struct_tagged tag found known)
  struct_found tag None known s = went (record { unmarked = s.unmarked; behind = s.behind; functions = s.functions }) tt
  struct_found tag (Some (a_struct k)) known s = went s tt
  struct_found tag (Some (an_enum is_complete)) known s = went s tt

  opened_new : {was : Bool} (tag : Option (List ℕ)) (faults : List Rule) (known : Known) → Since was past known → Walks (Unit {0}) was past (open_new tag faults known)
  opened_new None faults known s = went (record { unmarked = s.unmarked; behind = s.behind; functions = s.functions }) tt
  opened_new (Some tag) faults known s = went (record { unmarked = s.unmarked; behind = s.behind; functions = s.functions }) tt

  opened_tagged : {was : Bool} (tag : List ℕ) (found : Option Tagged) (known : Known) → Since was past known → Walks (Unit {0}) was past (open_tagged tag found known)
  opened_tagged tag None known s = opened_new (Some tag) [] known s
  opened_tagged tag (Some (a_struct k)) known s = went s tt
  opened_tagged tag (Some (an_enum is_complete)) known s = opened_new None _ known s

  opened_struct : {was : Bool} (tag : Option (List ℕ)) (known : Known) → Since was past known → Walks (Unit {0}) was past (open_struct tag known)
  opened_struct None known s = opened_new None [] known s
  opened_struct (Some tag) known s = opened_tagged tag (tag_here tag known) known s

  closed_by : {was : Bool} (complete : Bool) (n : ℕ) (list : List Member) (known : Known) → Since was past known → Since was past ((if complete then (λ known. known) else with_members n list) known)
  closed_by true n list known s = s
  closed_by false n list known s = record { unmarked = s.unmarked; behind = s.behind; functions = s.functions }

  closed_struct : {P : Type 0} {was : Bool} (opened : OpenStruct) (list : List Member) (known : Known) → Since was past known → P → Walks P was past (close_struct opened list known)
  closed_struct opened list known s p = went (closed_by (is_complete_struct known.structs opened.number) opened.number list known s) p

  opened_enum : {was : Bool} (tag : Option (List ℕ)) (known : Known) → Since was past known → Walks (Unit {0}) was past (open_enum tag known)
  opened_enum None known s = went s tt
  opened_enum (Some tag) known s = went (in_frames _ known s) tt

  closed_enum : {P : Type 0} {was : Bool} (tag : Option (List ℕ)) (faults : List Rule) (known : Known) → Since was past known → P → Walks P was past (close_enum tag faults known)
  closed_enum None faults known s p = went s p
  closed_enum (Some tag) faults known s p = went (in_frames _ known s) p

  pub bound : {P : Type 0} {was : Bool} (is_definition is_register : Bool) (node : ℕ) (name : Option (List ℕ)) (t : CType) (known : Known) → Since was past known → P → Walks P was past (binds_parameter is_definition is_register node name t known)
  bound is_definition is_register node None t known s p = went s p
  bound is_definition is_register node (Some name) t known s p = let more = one_more _ known s in went (record { unmarked = more.unmarked; behind = more.behind; functions = more.functions }) p

  -- ---- expressions and what stands in them

  mutual
    pub of_expression : {was : Bool} (it : c.Expression) (role : Use) (known : Known) → Since was past known → Walks (Free was it) was past (expression it role known)
    of_expression (c.Name name) role known s = so _ role (judge_name role name (meaning_of name known) _) _ (entered known s) tt
    of_expression (c.Constant text) role known s = so _ role (judge_constant (constant_of known.model text)) _ (entered known s) tt
    of_expression (c.Text bytes) role known s = so _ role (text_at _ bytes _) _ (one_more _ _ (entered known s)) tt
    of_expression (c.Index whole index) role known s =
        bind (of_expression whole as_value _ (entered known s)) (λ x k s a. bind (of_expression index as_value k s) (λ y k s b. so _ role (judge_index x y k) k s (a, b)))
    of_expression (c.Call callee arguments) role known s =
        bind (of_expression callee as_callee _ (entered known s)) (λ f k s a. bind (of_expressions arguments k s) (λ xs k s b. so _ role (judge_call f xs k) k s (a, b)))
    of_expression (c.Member whole name) role known s = bind (of_expression whole as_place _ (entered known s)) (λ x k s a. so _ role (judge_member x name k) k s a)
    of_expression (c.Arrow pointer name) role known s = bind (of_expression pointer as_value _ (entered known s)) (λ x k s a. so _ role (judge_arrow x name k) k s a)
    of_expression (c.PostInc target) role known s = bind (of_expression target as_place _ (entered known s)) (λ x k s a. so _ role (judge_step before O.Add x k) k s a)
    of_expression (c.PostDec target) role known s = bind (of_expression target as_place _ (entered known s)) (λ x k s a. so _ role (judge_step before O.Sub x k) k s a)
    of_expression (c.PreInc target) role known s = bind (of_expression target as_place _ (entered known s)) (λ x k s a. so _ role (judge_step after O.Add x k) k s a)
    of_expression (c.PreDec target) role known s = bind (of_expression target as_place _ (entered known s)) (λ x k s a. so _ role (judge_step after O.Sub x k) k s a)
    of_expression (c.Unary op operand) role known s = bind (of_expression operand (operand_of op) _ (entered known s)) (λ x k s a. so _ role (judge_unary op x k) k s a)
    of_expression (c.SizeofExpr operand) role known s =
        bind (marked_behind known.is_unmarked s.unmarked (of_expression operand as_place _ (unmarked_here _ (entered known s)))) (λ x k s a. so _ role (judge_size (own_type x) k) k s a)
    of_expression (c.SizeofType sp d) role known s =
        bind (of_specifiers sp (setting_in_sizeof d) _ (entered known s)) (λ it k s a. bind (of_declarator d it false (λ name known b. type_name_faults b) k s)
        (λ t k s b. so _ role (also t.faults (judge_size t.type k)) k s (a, b)))
    of_expression (c.Cast sp d operand) role known s =
        bind (of_specifiers sp elsewhere _ (entered known s)) (λ it k s a. bind (of_declarator d it false (λ name known b. type_name_faults b) k s) (λ t k s b.
        bind (of_expression operand as_value k s) (λ x k s e. so _ role (also t.faults (judge_cast t.type x k)) k s (a, b, e))))
    of_expression (c.Binary op left right) role known s =
        bind (of_expression left as_value _ (entered known s)) (λ x k s a. bind (of_expression right as_value k s) (λ y k s b. so _ role (judge_binary op x y k) k s (a, b)))
    of_expression (c.Logical op left right) role known s =
        bind (of_expression left as_truth _ (entered known s)) (λ x k s a. bind (of_expression right as_truth k s) (λ y k s b. so _ role (judge_logical op x y) k s (a, b)))
    of_expression (c.Conditional test left right) role known s =
        bind (of_expression test as_truth _ (entered known s)) (λ p k s a. bind (of_expression left as_value k s) (λ x k s b. bind (of_expression right as_value k s)
        (λ y k s e. so _ role (judge_conditional p x y k) k s (a, b, e))))
    of_expression (c.Assign op target value) role known s =
        bind (of_expression target as_place _ (entered known s)) (λ x k s a. bind (of_expression value as_value k s) (λ y k s b. so _ role (judge_assignment op x y k) k s (a, b)))
    of_expression (c.Comma list) role known s = bind (of_expressions list _ (entered known s)) (λ xs k s a. so _ role (judge_comma xs) k s a)
    of_expression (c.Marked ms value) role known s =
        bind (of_marks ms _ (entered known s)) (λ typed k s a. bind (of_expression value (inside_mark role) k s) (λ x k s b. so _ role (judge_marked typed x) k s (a, b)))
    of_expression (c.Decide operand when_true when_false tag) role known s =
        bind (of_expression operand (inside_mark role) _ (entered known s)) (λ x k s a.
        bind (finished _ role (judge_decide role x when_true when_false tag k) k s (λ clean. (sym s.unmarked ∙ decision_allowed role x when_true when_false tag k clean, a)))
        (λ result k s p. went (record { unmarked = s.unmarked; behind = s.behind; functions = s.functions }) p))
    of_expression (c.After operand id tag) role known s =
        bind (of_expression operand (inside_after role) _ (entered known s)) (λ x k s a.
        bind (finished _ role (judge_after role x id tag k) k s (λ clean. (sym s.unmarked ∙ after_allowed role x id tag k clean, a)))
        (λ result k s p. went (record { unmarked = s.unmarked; behind = s.behind; functions = s.functions }) p))

    of_expressions : {was : Bool} (them : c.Expressions) (known : Known) → Since was past known → Walks (FreeAll was them) was past (expressions them known)
    of_expressions c.no_expressions known s = done known s tt
    of_expressions (c.an_expression first rest) known s = bind (of_expression first as_value known s) (λ x k s a. bind (of_expressions rest k s) (λ xs k s b. done k s (a, b)))

    pub of_maybe : {was : Bool} (it : c.Maybe) (known : Known) → Since was past known → Walks (FreeMaybe it) was past (maybe it known)
    of_maybe c.absent known s = done known s tt
    of_maybe (c.present e) known s = bind (marked_behind known.is_unmarked s.unmarked (of_expression e as_value _ (unmarked_here known s))) (λ x k s a. done k s a)

    of_marks : {was : Bool} (them : c.Marks) (known : Known) → Since was past known → Walks (FreeMarks was them) was past (marks them known)
    of_marks c.no_marks known s = done known s tt
    of_marks (c.a_mark first rest) known s = bind (of_mark first known s) (λ m k s a. bind (of_marks rest k s) (λ ms k s b. done k s (a, b)))

    pub of_mark : {was : Bool} (it : c.Mark) (known : Known) → Since was past known → Walks (FreeMark was it) was past (mark it known)
    of_mark (c.mark predicate id tag bound) known s =
        bind (of_expression predicate as_value _ (entered known s)) (λ x k s a. bind (of_bindings bound k s)
        (λ bs k s b. ended_mark _ predicate x id tag bs k s (λ allowed. (allowed, a, b))))

    of_bindings : {was : Bool} (them : c.Bindings) (known : Known) → Since was past known → Walks (FreeBindings was them) was past (bindings them known)
    of_bindings c.no_bindings known s = done known s tt
    of_bindings (c.a_binding name value rest) known s = bind (of_expression value as_value known s) (λ x k s a. bind (of_bindings rest k s) (λ bs k s b. done k s (a, b)))

    pub of_specifiers : {was : Bool} (it : c.Specifiers) (setting : Setting) (known : Known) → Since was past known → Walks (FreeSpecifiers it) was past (specifiers it setting known)
    of_specifiers (c.specifiers words types) setting known s = bind (of_types types (beside_words words setting) known s) (λ namings k s a. done k s a)

    of_types : {was : Bool} (them : c.TypeSpecifiers) (setting : Setting) (known : Known) → Since was past known → Walks (FreeTypes them) was past (type_specifiers them setting known)
    of_types c.no_types setting known s = done known s tt
    of_types (c.a_type first rest) setting known s = bind (of_type first setting known s) (λ it k s a. bind (of_types rest setting k s) (λ others k s b. done k s (a, b)))

    of_type : {was : Bool} (it : c.TypeSpecifier) (setting : Setting) (known : Known) → Since was past known → Walks (FreeType it) was past (type_specifier it setting known)
    of_type (c.Basic type) setting known s = done known s tt
    of_type (c.Word word) setting known s = done known s tt
    of_type (c.StructTag tag) setting known s = struct_found tag (if is_alone setting then tag_here tag known else tagged_in tag known.frames) known s
    of_type (c.Struct tag list) setting known s =
        bind (opened_struct tag known s) (λ opened k s u. bind (of_members list [] k s) (λ found k s a. closed_struct opened found k s a))
    of_type (c.EnumTag tag) setting known s = done known s tt
    of_type (c.Enum tag list) setting known s =
        bind (opened_enum tag known s) (λ faults k s u. bind (of_enumerators list (pos 0) k s) (λ u k s a. closed_enum tag faults k s a))
    of_type (c.Named name) setting known s = done known s tt

    of_members : {was : Bool} (them : c.Members) (list : List Member) (known : Known) → Since was past known → Walks (FreeMembers them) was past (members them list known)
    of_members c.no_members list known s = done known s tt
    of_members (c.a_member first rest) list known s = bind (of_struct_member first list known s) (λ longer k s p. onward (of_members rest longer k s) (λ e. (p, e)))

    of_struct_member : {was : Bool} (it : c.StructMember) (list : List Member) (known : Known) → Since was past known → Walks (FreeMember it) was past (struct_member it list known)
    of_struct_member (c.member sp ds) list known s =
        bind (of_specifiers sp elsewhere _ (entered known s)) (λ it k s a. bind (of_member_declarators ds it list k s)
        (λ found k s b. bind (judged _ (broken_if incomplete_type (is_no_declarator ds) ++ alone_faults (is_no_declarator ds) it ++ found.faults) k s (λ clean. nothing)) (λ u k s p. done k s (a, b))))

    of_member_declarators : {was : Bool} (them : c.MemberDeclarators) (it : Specified) (list : List Member) (known : Known) → Since was past known
        → Walks (FreeMemberDeclarators them) was past (member_declarators them it list known)
    of_member_declarators c.no_declarators it list known s = done known s tt
    of_member_declarators (c.a_declarator d width rest) it list known s =
        bind (of_declarator d it false (member_faults list (has_width width)) known s) (λ declared k s a. bind (of_maybe width k s)
        (λ written k s b. bind (of_member_declarators rest it (with_member list declared) k s) (λ found k s e. done k s (a, b, e))))

    of_enumerators : {was : Bool} (them : c.Enumerators) (counted : ℤ) (known : Known) → Since was past known → Walks (FreeEnumerators them) was past (enumerators them counted known)
    of_enumerators c.no_enumerators counted known s = done known s tt
    of_enumerators (c.an_enumerator name value rest) counted known s =
        bind (of_maybe value _ (entered known s)) (λ x k s a. bind (ended_enumerator _ name (value_given counted x) k s a)
        (λ next k s a. onward (of_enumerators rest next k s) (λ b. (a, b))))

    pub of_declarator : {was : Bool} (it : c.Declarator) (sp : Specified) (is_definition : Bool) (judge : Option (List ℕ) → Known → Built → List Rule) (known : Known) → Since was past known
        → Walks (FreeDeclarator it) was past (declarator it sp is_definition judge known)
    of_declarator (c.declarator name ps) sp is_definition judge known s =
        bind (may_enter (is_written name ps) known s) (λ node k s u. bind (of_parts ps sp.type is_definition true k s)
        (λ b k s a. ended_declarator node name b (all_faults sp b (judge name k b)) k s a))

    pub of_parts : {was : Bool} (them : c.Parts) (t : CType) (is_definition is_outermost : Bool) (known : Known) → Since was past known → Walks (FreeParts them) was past (parts them t is_definition is_outermost known)
    of_parts c.no_parts t is_definition is_outermost known s = done known s tt
    of_parts (c.Pointer q rest) t is_definition is_outermost known s = bind (of_parts rest t false false known s) (λ inner k s a. done k s a)
    of_parts (c.Array length rest) t is_definition is_outermost known s =
        bind (of_maybe length known s) (λ n k s a. bind (of_parts rest t false false k s) (λ inner k s b. done k s (a, b)))
    of_parts (c.Function them rest) t is_definition is_outermost known s =
        bind (scoped known.frames (of_parameters them is_definition _ (in_frames _ known s))) (λ found k s a. bind (of_parts rest t false false k s) (λ inner k s b. done k s (a, b)))

    of_parameters : {was : Bool} (them : c.Parameters) (is_definition : Bool) (known : Known) → Since was past known → Walks (FreeParameters them) was past (parameters them is_definition known)
    of_parameters c.Unstated is_definition known s = done known s tt
    of_parameters c.Void is_definition known s = done known s tt
    of_parameters (c.Listed list) is_definition known s = of_parameter_list list is_definition known s
    of_parameters (c.Open list) is_definition known s = bind (of_parameter_list list is_definition known s) (λ them k s a. done k s a)

    of_parameter_list : {was : Bool} (them : c.ParameterList) (is_definition : Bool) (known : Known) → Since was past known → Walks (FreeList them) was past (parameter_list them is_definition known)
    of_parameter_list c.no_parameters is_definition known s = done known s tt
    of_parameter_list (c.a_parameter sp d rest) is_definition known s =
        bind (of_specifiers sp elsewhere known s) (λ it k s a. bind (of_declarator d it false (parameter_faults is_definition) k s)
        (λ declared k s b. bind (bound is_definition (is_register it) declared.node declared.name (adjusted declared.type) k s nothing)
        (λ objects k s u. bind (of_parameter_list rest is_definition k s) (λ others k s e. done k s (a, b, e)))))
