-- Typing of expressions, and of what stands inside them, keeps the functions; ids are in range, and a declarator has no more objects than names of
-- parameters.
use Rattle.std.proofs.Common.{◌≡◌, ◌≤◌, ℕ, ◌+◌, Bool, true, false, List, [], ◌∷◌, ◌++◌, length, Option, Some, None, refl, ap, subst, arith}
use Rattle.std.specs.Prelude.{ℤ, pos, not, ◌&&◌, ◌==◌, if◌then◌else◌}
use Rattle.std.specs.List.{list_all}
use Rattle.std.specs.Cmp.{first_so, second_so}
use Rattle.std.proofs.lemmas.List.{length-append, append-nil}
use Rattle.lt_model.specs.declared.operator.Op.TheVariants as O
use Rattle.lt_tree.specs.Tree as c
use Rattle.lt_tree.specs.Purity.{is_pure}
use Rattle.lt_tree.specs.Ids.{ids_in, ids_in_expressions, ids_in_maybe, ids_in_marks, ids_in_mark, ids_in_bindings, ids_in_specifiers, ids_in_types, ids_in_type, ids_in_members, ids_in_member, ids_in_member_declarators, ids_in_enumerators, ids_in_declarator, ids_in_parts, ids_in_parameters, ids_in_parameter_list}
use Rattle.lt_tree.specs.Typing.Types.{CType, adjusted, is_scalar}
use Rattle.lt_tree.specs.Typing.Extents.{Member}
use Rattle.lt_tree.specs.Typing.Constants.{constant_of}
use Rattle.lt_tree.specs.Typing.Rules.{Rule, broken_if, unless, incomplete_type, bad_mark}
use Rattle.lt_tree.specs.Typing.TypedTree.{before, after as behind}
use Rattle.lt_tree.specs.Typing.Entities.{Known, Function, Tagged, a_struct, an_enum, meaning_of, tag_here, tagged_in}
use Rattle.lt_tree.specs.Typing.Steps.{settle}
use Rattle.lt_tree.specs.Typing.Expressions.{Typed, Use, as_value, as_truth, as_place, as_callee, own_type, finish}
use Rattle.lt_tree.specs.Typing.Operations.{judge_name, judge_constant, judge_step, judge_size, judge_member, judge_arrow, judge_index, judge_call, judge_cast}
use Rattle.lt_tree.specs.Typing.BinaryOperations.{judge_binary, judge_logical, judge_conditional, judge_assignment, judge_comma}
use Rattle.lt_tree.specs.Typing.MarkRules.{TypedBinding, names_of, is_good_id, is_tag, is_good_binding, are_new_names, is_good_mark, number_of_id, is_truth, is_good_decision, is_lvalue_in_use, judge_decide, inside_mark, inside_after, judge_after, judge_marked}
use Rattle.lt_tree.specs.Typing.Specifying.{OpenStruct, Specified, is_register, is_complete_struct, struct_tagged, Setting, is_alone, elsewhere, beside_words, open_tagged, open_struct, open_enum, close_enum, with_members, close_struct, value_given, enumerator_faults}
use Rattle.lt_tree.specs.Typing.Declarators.{Built, Parameters, Declares, all_faults, setting_in_sizeof, is_written, type_name_faults, parameter_faults, binds_parameter, member_faults, with_member, has_width}
use Rattle.lt_tree.specs.Typing.NodeEnds.{text_object, text_at, judge_unary, operand_of, also, is_no_declarator, alone_faults, enter_if, end_of_declarator}
use Rattle.lt_tree.specs.Typing.ExpressionTyping.{expression, expressions, maybe, marks, mark, bindings, specifiers, type_specifiers, type_specifier, members, struct_member, member_declarators, enumerators, declarator, parts, parameters, parameter_list}
use Rattle.lt_tree.specs.Typing.UnitTyping.{objects_of}
use Rattle.lt_label_counts.proofs.Keeping.{low_both, good_id, Has, Keeps, Any, done, joined, after, quiet, with_id, grouped, judges_if, judges, finished_if, finished, unmarked, scoped, holds_unless, entered, unmarked_here, in_new_frame}

-- ---- names of parameters

abbrev pub if_named : Option (List ℕ) → ℕ
if_named None = 0
if_named (Some w) = 1

abbrev pub name_of : c.Declarator → Option (List ℕ)
name_of (c.declarator name ps) = name

abbrev pub named_in_list : c.ParameterList → ℕ
named_in_list c.no_parameters = 0
named_in_list (c.a_parameter s d rest) = if_named (name_of d) + named_in_list rest

abbrev pub named_in : c.Parameters → ℕ
named_in c.Unstated = 0
named_in c.Void = 0
named_in (c.Listed list) = named_in_list list
named_in (c.Open list) = named_in_list list

-- of the part at a declarator's name
abbrev pub named_in_parts : c.Parts → ℕ
named_in_parts (c.Function them rest) = named_in them
named_in_parts ps = 0

abbrev pub named_in_declarator : c.Declarator → ℕ
named_in_declarator (c.declarator name ps) = named_in_parts ps

abbrev HasFew : ℕ → Option Parameters → Type 0
HasFew n them = length (objects_of them) ≤ n

-- what a declarator declares
abbrev pub IsDeclared : c.Declarator → Declares → Type 0
IsDeclared d it = (it.name ≡ name_of d) × HasFew (named_in_declarator d) it.parameters

-- ---- ids that are judged

fourth_and_fifth : (p q r s t u v : Bool) → (p && q && r && s && t && u && v) ≡ true → (s ≡ true) × (t ≡ true)
fourth_and_fifth p q r s t u v h =
    let front = first_so (p && q && r && s && t) u (first_so (p && q && r && s && t && u) v h) in
    (second_so (p && q && r) s (first_so (p && q && r && s) t front), second_so (p && q && r && s) t front)

fourth : (p q r s t u v : Bool) → (p && q && r && s && t && u && v) ≡ true → s ≡ true
fourth p q r s t u v h = (fourth_and_fifth p q r s t u v h).0

third : (p q r s : Bool) → (p && q && r && s) ≡ true → r ≡ true
third p q r s h = second_so (p && q) r (first_so (p && q && r) s h)

closed : {fs : List Function} (is_complete : Bool) (opened : OpenStruct) (list : List Member) (known : Known) → Has fs known
    → Has fs ((if is_complete then (λ it. it) else with_members opened.number list) known)
closed true opened list known h = h
closed false opened list known h = h

as_many : (name : Option (List ℕ)) (n : ℕ) (declared : Declares) (objects : List ℕ) (others : Parameters) → declared.name ≡ name → length objects ≤ if_named declared.name → length others.objects ≤ n
    → length (objects ++ others.objects) ≤ if_named name + n
as_many name n declared objects others is one few =
    let same : if_named declared.name ≡ if_named name = ap if_named is in
    let both : length (objects ++ others.objects) ≡ length objects + length others.objects = length-append objects others.objects in
    omega (arith, same, both, one, few)

module _ {fs : List Function} where
  -- ---- what has no ids

  of_struct_tag : (tag : List ℕ) (found : Option Tagged) (known : Known) → Has fs known → Keeps fs [] Any (struct_tagged tag found known)
  of_struct_tag tag None known h = done h tt
  of_struct_tag tag (Some (a_struct k)) known h = done h tt
  of_struct_tag tag (Some (an_enum is_complete)) known h = done h tt

  of_open_tag : (tag : List ℕ) (found : Option Tagged) (known : Known) → Has fs known → Keeps fs [] Any (open_tagged tag found known)
  of_open_tag tag None known h = done h tt
  of_open_tag tag (Some (a_struct k)) known h = done h tt
  of_open_tag tag (Some (an_enum is_complete)) known h = done h tt

  of_open_struct : (tag : Option (List ℕ)) (known : Known) → Has fs known → Keeps fs [] Any (open_struct tag known)
  of_open_struct None known h = done h tt
  of_open_struct (Some tag) known h = of_open_tag tag (tag_here tag known) known h

  of_close : (opened : OpenStruct) (list : List Member) (known : Known) → Has fs known → Keeps fs [] Any (close_struct opened list known)
  of_close opened list known h = done (closed (is_complete_struct known.structs opened.number) opened list known h) tt

  of_open_enum : (tag : Option (List ℕ)) (known : Known) → Has fs known → Keeps fs [] Any (open_enum tag known)
  of_open_enum None known h = done h tt
  of_open_enum (Some tag) known h = done h tt

  of_close_enum : (tag : Option (List ℕ)) (faults : List Rule) (known : Known) → Has fs known → Keeps fs [] Any (close_enum tag faults known)
  of_close_enum None faults known h = done h tt
  of_close_enum (Some tag) faults known h = done h tt

  of_binding_parameter : (is_definition is_register : Bool) (at : ℕ) (name : Option (List ℕ)) (t : CType) (known : Known) → Has fs known
      → Keeps fs [] (λ (objects : List ℕ). length objects ≤ if_named name) (binds_parameter is_definition is_register at name t known)
  of_binding_parameter is_definition is_register at None t known h = done h (omega arith)
  of_binding_parameter is_definition is_register at (Some name) t known h = done h (omega arith)

  may_enter : (written : Bool) (known : Known) → Has fs known → Keeps fs [] Any (enter_if written known)
  may_enter true known h = done h tt
  may_enter false known h = done h tt

  ended_declarator : (n : ℕ) (node : Option ℕ) (name : Option (List ℕ)) (b : Built) (faults : List Rule) (known : Known) → Has fs known → HasFew n b.parameters
      → Keeps fs [] (λ (it : Declares). (it.name ≡ name) × HasFew n it.parameters) (end_of_declarator node name b faults known)
  ended_declarator n None name b faults known h few = done h (refl, few)
  ended_declarator n (Some node) name b faults known h few = after (judges node faults known h) (λ u k h w. done h (refl, few))

  -- ---- what has ids

  decided : (node : ℕ) (role : Use) (x : Typed) (when_true when_false tag : List ℕ) (k : Known) → Has fs k
      → Keeps fs (when_true ∷ when_false ∷ []) Any (finish node role (judge_decide role x when_true when_false tag k) k)
  unfolding judge_decide
  decided node role x when_true when_false tag k h =
      finished_if node role (judge_decide role x when_true when_false tag k) k h (λ e.
      let good = holds_unless (is_good_decision role k x when_true when_false tag) bad_mark e in
      let both = fourth_and_fifth (is_truth role) (not k.is_unmarked) (is_scalar (own_type x)) (is_good_id k when_true) (is_good_id k when_false) (not (number_of_id when_true == number_of_id when_false)) (is_tag tag) good in
      low_both (when_true ∷ []) (when_false ∷ []) (good_id k when_true h.1 both.0) (good_id k when_false h.1 both.1))

  noted : (node : ℕ) (role : Use) (x : Typed) (id tag : List ℕ) (k : Known) → Has fs k → Keeps fs (id ∷ []) Any (finish node role (judge_after role x id tag k) k)
  unfolding judge_after
  noted node role x id tag k h =
      finished_if node role (judge_after role x id tag k) k h (λ e.
      let good = holds_unless (not (is_lvalue_in_use role x) && not k.is_unmarked && is_good_id k id && is_tag tag) bad_mark e in
      good_id k id h.1 (third (not (is_lvalue_in_use role x)) (not k.is_unmarked) (is_good_id k id) (is_tag tag) good))

  labelled : (node : ℕ) (predicate : c.Expression) (x : Typed) (id tag : List ℕ) (bs : List TypedBinding) (k : Known) → Has fs k
      → Keeps fs (id ∷ []) Any (settle node (unless (is_good_mark k predicate x id tag bs) bad_mark) k)
  labelled node predicate x id tag bs k h =
      subst (λ rules. Keeps fs (id ∷ []) Any (settle node rules k)) (append-nil (unless (is_good_mark k predicate x id tag bs) bad_mark))
      (judges_if node (unless (is_good_mark k predicate x id tag bs) bad_mark) [] k h (λ e.
      let good = holds_unless (is_good_mark k predicate x id tag bs) bad_mark e in
      good_id k id h.1 (fourth (not k.is_unmarked) (is_scalar (own_type x)) (is_pure predicate) (is_good_id k id) (is_tag tag) (list_all is_good_binding bs) (are_new_names k (names_of bs)) good)))

  -- ---- expressions

  mutual
    pub of_expression : (it : c.Expression) (role : Use) (known : Known) → Has fs known → Keeps fs (ids_in it) Any (expression it role known)
    of_expression (c.Name name) role known h = finished _ role (judge_name role name (meaning_of name known) (entered known)) (entered known) h
    of_expression (c.Constant text) role known h = finished _ role (judge_constant (constant_of known.model text)) (entered known) h
    of_expression (c.Text bytes) role known h =
        finished _ role (text_at (entered known) bytes (length known.objects)) (record (entered known) { objects = known.objects ++ text_object known.next (entered known) bytes ∷ [] }) h
    of_expression (c.Index whole index) role known h =
        joined (of_expression whole as_value (entered known) h) (λ x k h w. after (of_expression index as_value k h) (λ y k h w. finished _ role (judge_index x y k) k h))
    of_expression (c.Call callee arguments) role known h =
        joined (of_expression callee as_callee (entered known) h) (λ f k h w. after (of_expressions arguments k h) (λ xs k h w. finished _ role (judge_call f xs k) k h))
    of_expression (c.Member whole name) role known h = after (of_expression whole as_place (entered known) h) (λ x k h w. finished _ role (judge_member x name k) k h)
    of_expression (c.Arrow pointer name) role known h = after (of_expression pointer as_value (entered known) h) (λ x k h w. finished _ role (judge_arrow x name k) k h)
    of_expression (c.PostInc target) role known h = after (of_expression target as_place (entered known) h) (λ x k h w. finished _ role (judge_step before O.Add x k) k h)
    of_expression (c.PostDec target) role known h = after (of_expression target as_place (entered known) h) (λ x k h w. finished _ role (judge_step before O.Sub x k) k h)
    of_expression (c.PreInc target) role known h = after (of_expression target as_place (entered known) h) (λ x k h w. finished _ role (judge_step behind O.Add x k) k h)
    of_expression (c.PreDec target) role known h = after (of_expression target as_place (entered known) h) (λ x k h w. finished _ role (judge_step behind O.Sub x k) k h)
    of_expression (c.Unary op operand) role known h = after (of_expression operand (operand_of op) (entered known) h) (λ x k h w. finished _ role (judge_unary op x k) k h)
    of_expression (c.SizeofExpr operand) role known h =
        after (unmarked known.is_unmarked (of_expression operand as_place (unmarked_here (entered known)) h)) (λ x k h w. finished _ role (judge_size (own_type x) k) k h)
    of_expression (c.SizeofType s d) role known h =
        joined (of_specifiers s (setting_in_sizeof d) (entered known) h) (λ it k h w. after (of_declarator d it false (λ name known b. type_name_faults b) k h)
        (λ t k h w. finished _ role (also t.faults (judge_size t.type k)) k h))
    of_expression (c.Cast s d operand) role known h =
        grouped (ids_in_specifiers s) (ids_in_declarator d) (ids_in operand) (joined (of_specifiers s elsewhere (entered known) h) (λ it k h w. joined
        (of_declarator d it false (λ name known b. type_name_faults b) k h) (λ t k h w. after (of_expression operand as_value k h) (λ x k h w. finished _ role (also t.faults (judge_cast t.type x k)) k h))))
    of_expression (c.Binary op left right) role known h =
        joined (of_expression left as_value (entered known) h) (λ x k h w. after (of_expression right as_value k h) (λ y k h w. finished _ role (judge_binary op x y k) k h))
    of_expression (c.Logical op left right) role known h =
        joined (of_expression left as_truth (entered known) h) (λ x k h w. after (of_expression right as_truth k h) (λ y k h w. finished _ role (judge_logical op x y) k h))
    of_expression (c.Conditional test left right) role known h =
        grouped (ids_in test) (ids_in left) (ids_in right) (joined (of_expression test as_truth (entered known) h) (λ p k h w. joined
        (of_expression left as_value k h) (λ x k h w. after (of_expression right as_value k h) (λ y k h w. finished _ role (judge_conditional p x y k) k h))))
    of_expression (c.Assign op target value) role known h =
        joined (of_expression target as_place (entered known) h) (λ x k h w. after (of_expression value as_value k h) (λ y k h w. finished _ role (judge_assignment op x y k) k h))
    of_expression (c.Comma list) role known h = after (of_expressions list (entered known) h) (λ xs k h w. finished _ role (judge_comma xs) k h)
    of_expression (c.Marked ms value) role known h =
        joined (of_marks ms (entered known) h) (λ typed k h w. after (of_expression value (inside_mark role) k h) (λ x k h w. finished _ role (judge_marked typed x) k h))
    of_expression (c.Decide operand when_true when_false tag) role known h =
        joined (of_expression operand (inside_mark role) (entered known) h) (λ x k h w. after (decided _ role x when_true when_false tag k h) (λ result k h w. done h tt))
    of_expression (c.After operand id tag) role known h =
        joined (of_expression operand (inside_after role) (entered known) h) (λ x k h w. after (noted _ role x id tag k h) (λ result k h w. done h tt))

    of_expressions : (them : c.Expressions) (known : Known) → Has fs known → Keeps fs (ids_in_expressions them) Any (expressions them known)
    of_expressions c.no_expressions known h = done h tt
    of_expressions (c.an_expression first rest) known h = joined (of_expression first as_value known h) (λ x k h w. after (of_expressions rest k h) (λ xs k h w. done h tt))

    of_maybe : (it : c.Maybe) (known : Known) → Has fs known → Keeps fs (ids_in_maybe it) Any (maybe it known)
    of_maybe c.absent known h = done h tt
    of_maybe (c.present e) known h = after (unmarked known.is_unmarked (of_expression e as_value (unmarked_here known) h)) (λ x k h w. done h tt)

    of_marks : (them : c.Marks) (known : Known) → Has fs known → Keeps fs (ids_in_marks them) Any (marks them known)
    of_marks c.no_marks known h = done h tt
    of_marks (c.a_mark first rest) known h = joined (of_mark first known h) (λ m k h w. after (of_marks rest k h) (λ ms k h w. done h tt))

    pub of_mark : (it : c.Mark) (known : Known) → Has fs known → Keeps fs (ids_in_mark it) Any (mark it known)
    of_mark (c.mark predicate id tag bound) known h =
        joined (of_expression predicate as_value (entered known) h) (λ x k h w. with_id (of_bindings bound k h) (λ bs k h w. after (labelled _ predicate x id tag bs k h) (λ u k h w. done h tt)))

    of_bindings : (them : c.Bindings) (known : Known) → Has fs known → Keeps fs (ids_in_bindings them) Any (bindings them known)
    of_bindings c.no_bindings known h = done h tt
    of_bindings (c.a_binding name value rest) known h = joined (of_expression value as_value known h) (λ x k h w. after (of_bindings rest k h) (λ bs k h w. done h tt))

    pub of_specifiers : (it : c.Specifiers) (setting : Setting) (known : Known) → Has fs known → Keeps fs (ids_in_specifiers it) Any (specifiers it setting known)
    of_specifiers (c.specifiers words types) setting known h = after (of_types types (beside_words words setting) known h) (λ namings k h w. done h tt)

    of_types : (them : c.TypeSpecifiers) (setting : Setting) (known : Known) → Has fs known → Keeps fs (ids_in_types them) Any (type_specifiers them setting known)
    of_types c.no_types setting known h = done h tt
    of_types (c.a_type first rest) setting known h = joined (of_type first setting known h) (λ it k h w. after (of_types rest setting k h) (λ others k h w. done h tt))

    of_type : (it : c.TypeSpecifier) (setting : Setting) (known : Known) → Has fs known → Keeps fs (ids_in_type it) Any (type_specifier it setting known)
    of_type (c.Basic type) setting known h = done h tt
    of_type (c.Word word) setting known h = done h tt
    of_type (c.StructTag tag) setting known h = of_struct_tag tag (if is_alone setting then tag_here tag known else tagged_in tag known.frames) known h
    of_type (c.Struct tag list) setting known h =
        quiet (of_open_struct tag known h) (λ opened k h w. after (of_members list [] k h) (λ found k h w. of_close opened found k h))
    of_type (c.EnumTag tag) setting known h = done h tt
    of_type (c.Enum tag list) setting known h = quiet (of_open_enum tag known h) (λ faults k h w. after (of_enumerators list (pos 0) k h) (λ u k h w. of_close_enum tag faults k h))
    of_type (c.Named name) setting known h = done h tt

    of_members : (them : c.Members) (list : List Member) (known : Known) → Has fs known → Keeps fs (ids_in_members them) Any (members them list known)
    of_members c.no_members list known h = done h tt
    of_members (c.a_member first rest) list known h = joined (of_member first list known h) (λ longer k h w. of_members rest longer k h)

    of_member : (it : c.StructMember) (list : List Member) (known : Known) → Has fs known → Keeps fs (ids_in_member it) Any (struct_member it list known)
    of_member (c.member s ds) list known h =
        joined (of_specifiers s elsewhere (entered known) h) (λ it k h w. after (of_member_declarators ds it list k h)
        (λ found k h w. after (judges _ (broken_if incomplete_type (is_no_declarator ds) ++ alone_faults (is_no_declarator ds) it ++ found.faults) k h) (λ u k h w. done h tt)))

    of_member_declarators : (them : c.MemberDeclarators) (it : Specified) (list : List Member) (known : Known) → Has fs known
        → Keeps fs (ids_in_member_declarators them) Any (member_declarators them it list known)
    of_member_declarators c.no_declarators it list known h = done h tt
    of_member_declarators (c.a_declarator d width rest) it list known h =
        grouped (ids_in_declarator d) (ids_in_maybe width) (ids_in_member_declarators rest) (joined (of_declarator d it false (member_faults list (has_width width)) known h) (λ declared k h w. joined
        (of_maybe width k h) (λ written k h w. after (of_member_declarators rest it (with_member list declared) k h) (λ found k h w. done h tt))))

    of_enumerators : (them : c.Enumerators) (counted : ℤ) (known : Known) → Has fs known → Keeps fs (ids_in_enumerators them) Any (enumerators them counted known)
    of_enumerators c.no_enumerators counted known h = done h tt
    of_enumerators (c.an_enumerator name value rest) counted known h =
        joined (of_maybe value (entered known) h)
        (λ x k h w. quiet {Was = Any} (after (judges _ (enumerator_faults k name (value_given counted x)) k h) (λ u k h w. done h tt)) (λ next k h w. of_enumerators rest next k h))

    -- the names of parameters of a declarator
    pub of_declarator : (it : c.Declarator) (s : Specified) (is_definition : Bool) (judge : Option (List ℕ) → Known → Built → List Rule) (known : Known) → Has fs known
        → Keeps fs (ids_in_declarator it) (IsDeclared it) (declarator it s is_definition judge known)
    of_declarator (c.declarator name ps) s is_definition judge known h =
        quiet (may_enter (is_written name ps) known h) (λ node k h w. after (of_parts ps s.type is_definition true k h)
        (λ b k h few. ended_declarator (named_in_parts ps) node name b (all_faults s b (judge name k b)) k h few))

    of_parts : (them : c.Parts) (t : CType) (is_definition is_outermost : Bool) (known : Known) → Has fs known
        → Keeps fs (ids_in_parts them) (λ (b : Built). HasFew (named_in_parts them) b.parameters) (parts them t is_definition is_outermost known)
    of_parts c.no_parts t is_definition is_outermost known h = done h (omega arith)
    of_parts (c.Pointer q rest) t is_definition is_outermost known h = after (of_parts rest t false false known h) (λ inner k h w. done h (omega arith))
    of_parts (c.Array size rest) t is_definition is_outermost known h =
        joined (of_maybe size known h) (λ count k h w. after (of_parts rest t false false k h) (λ inner k h w. done h (omega arith)))
    of_parts (c.Function them rest) t is_definition is_outermost known h =
        joined (scoped known.frames (of_parameters them is_definition (in_new_frame known) h)) (λ found k h few. after (of_parts rest t false false k h) (λ inner k h w. done h few))

    of_parameters : (them : c.Parameters) (is_definition : Bool) (known : Known) → Has fs known
        → Keeps fs (ids_in_parameters them) (λ (it : Parameters). length it.objects ≤ named_in them) (parameters them is_definition known)
    of_parameters c.Unstated is_definition known h = done h (omega arith)
    of_parameters c.Void is_definition known h = done h (omega arith)
    of_parameters (c.Listed list) is_definition known h = of_parameter_list list is_definition known h
    of_parameters (c.Open list) is_definition known h = after (of_parameter_list list is_definition known h) (λ them k h few. done h few)

    of_parameter_list : (them : c.ParameterList) (is_definition : Bool) (known : Known) → Has fs known
        → Keeps fs (ids_in_parameter_list them) (λ (it : Parameters). length it.objects ≤ named_in_list them) (parameter_list them is_definition known)
    of_parameter_list c.no_parameters is_definition known h = done h (omega arith)
    of_parameter_list (c.a_parameter s d rest) is_definition known h =
        grouped (ids_in_specifiers s) (ids_in_declarator d) (ids_in_parameter_list rest) (joined (of_specifiers s elsewhere known h) (λ it k h w. joined (of_declarator d it false (parameter_faults is_definition) k h)
        (λ declared k h is. quiet (of_binding_parameter is_definition (is_register it) declared.node declared.name (adjusted declared.type) k h)
        (λ objects k h one. after (of_parameter_list rest is_definition k h) (λ others k h few. done h (as_many (name_of d) (named_in_list rest) declared objects others is.0 one few))))))
