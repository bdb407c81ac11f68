-- Typing of expressions, and of what stands inside them, keeps the tags that are in scope, and brings those that specifiers name.
use Rattle.std.proofs.Common.{◌≡◌, refl, sym, subst, ℕ, zero, suc, ℤ, pos, Bool, true, false, List, [], ◌∷◌, ◌++◌, length, Option, Some, None, arith}
use Rattle.lt_tree.specs.Tree as c
use Rattle.lt_tree.specs.Typing.Types.{CType, adjusted}
use Rattle.lt_tree.specs.Typing.Extents.{Member}
use Rattle.lt_tree.specs.Typing.Rules.{Rule, broken_if, incomplete_type}
use Rattle.lt_tree.specs.Typing.Entities.{Known, Frame, no_names, innermost}
use Rattle.lt_tree.specs.Typing.Steps.{Goes}
use Rattle.lt_tree.specs.Typing.Expressions.{Use, as_value, as_truth, as_place, as_callee}
use Rattle.lt_tree.specs.Typing.MarkRules.{inside_mark, inside_after}
use Rattle.lt_tree.specs.Typing.Specifying.{Specified, is_register, Setting, elsewhere, beside_words, value_given}
use Rattle.lt_tree.specs.Typing.Declarators.{Parameters, Built, Declares, all_faults, setting_in_sizeof, type_name_faults, parameter_faults, member_faults, with_member, has_width}
use Rattle.lt_tree.specs.Typing.NodeEnds.{operand_of, is_no_declarator, alone_faults}
use Rattle.lt_tree.specs.Typing.ExpressionTyping.{expression, expressions, maybe, marks, mark, bindings, specifiers, type_specifiers, type_specifier, members, member_declarators, enumerators, declarator, parts, parameters, parameter_list}
use Rattle.lt_objectives.specs.Tags.{Tags, tags_in, tags_in_types, tags_in_type, tags_in_members, tags_in_list, tags_in_parameters, tags_of_parameters}
use Rattle.lt_simple_copies.specs.Scopes.{AreInScope}
use Rattle.lt_simple_copies.specs.Laws.{ExpressionsKeepTags}
use Rattle.lt_simple_copies.proofs.KeptScopes.{kept, all_stay, in_inner_scope, Leads, same, Good, Any, Kept, Brings, went, bind, bind_both, bind_first, judges, finished, unmarked, scoped_giving, in_new_frame, unmarked_here, entered}
use Rattle.lt_simple_copies.proofs.KeptTags.{struct_tag, opened_struct, closed_struct, opened_enum, closed_enum, ended_mark, ended_enumerator, InParameters, BuiltWith, ended_declarator, bound_parameter}

-- ---- parameters

-- the frame of parameters is the innermost one where their list ends
abbrev Framed : Parameters → List Frame → Type 0
Framed them frames = them.frame ≡ innermost frames

abbrev tags_of_parts : c.Parts → Tags
tags_of_parts ps = tags_of_parameters (c.declarator None ps)

-- the tags of a list of parameters are in scope where their frame is opened again
in_their_frame : (tags : Tags) (frames : List Frame) (them : Parameters) (next : List Frame) → Leads tags (no_names ∷ frames) next → Framed them next → AreInScope (them.frame ∷ frames) tags
in_their_frame tags frames them [] k e = let none : zero ≡ suc (length frames) = k.depth in absurd cc
in_their_frame tags frames them (frame ∷ outer) k e =
    subst (λ f. AreInScope (f ∷ frames) tags) (sym e) (subst (λ fs. AreInScope (frame ∷ fs) tags) k.outside (k.comes (omega arith)))

-- ---- the walk

mutual
  pub of_expression : (it : c.Expression) (role : Use) (known : Known) → Kept known (expression it role known)
  of_expression (c.Name name) role known = finished _ role _ (entered known)
  of_expression (c.Constant text) role known = finished _ role _ (entered known)
  of_expression (c.Text bytes) role known = finished _ role _ _
  of_expression (c.Index whole index) role known = bind (of_expression whole as_value (entered known)) (λ x k kept h. bind (of_expression index as_value k) (λ y k kept i. finished _ role _ k))
  of_expression (c.Call callee arguments) role known = bind (of_expression callee as_callee (entered known)) (λ f k kept h. bind (of_expressions arguments k) (λ xs k kept i. finished _ role _ k))
  of_expression (c.Member whole name) role known = bind (of_expression whole as_place (entered known)) (λ x k kept h. finished _ role _ k)
  of_expression (c.Arrow pointer name) role known = bind (of_expression pointer as_value (entered known)) (λ x k kept h. finished _ role _ k)
  of_expression (c.PostInc target) role known = bind (of_expression target as_place (entered known)) (λ x k kept h. finished _ role _ k)
  of_expression (c.PostDec target) role known = bind (of_expression target as_place (entered known)) (λ x k kept h. finished _ role _ k)
  of_expression (c.PreInc target) role known = bind (of_expression target as_place (entered known)) (λ x k kept h. finished _ role _ k)
  of_expression (c.PreDec target) role known = bind (of_expression target as_place (entered known)) (λ x k kept h. finished _ role _ k)
  of_expression (c.Unary op operand) role known = bind (of_expression operand (operand_of op) (entered known)) (λ x k kept h. finished _ role _ k)
  of_expression (c.SizeofExpr operand) role known = bind (unmarked known.is_unmarked (of_expression operand as_place (unmarked_here (entered known)))) (λ x k kept h. finished _ role _ k)
  of_expression (c.SizeofType sp d) role known =
      bind (of_specifiers sp (setting_in_sizeof d) (entered known)) (λ it k kept h. bind (of_declarator d it false (λ name known b. type_name_faults b) k) (λ t k kept i. finished _ role _ k))
  of_expression (c.Cast sp d operand) role known =
      bind (of_specifiers sp elsewhere (entered known)) (λ it k kept h. bind (of_declarator d it false (λ name known b. type_name_faults b) k)
      (λ t k kept i. bind (of_expression operand as_value k) (λ x k kept j. finished _ role _ k)))
  of_expression (c.Binary op left right) role known = bind (of_expression left as_value (entered known)) (λ x k kept h. bind (of_expression right as_value k) (λ y k kept i. finished _ role _ k))
  of_expression (c.Logical op left right) role known = bind (of_expression left as_truth (entered known)) (λ x k kept h. bind (of_expression right as_truth k) (λ y k kept i. finished _ role _ k))
  of_expression (c.Conditional test left right) role known =
      bind (of_expression test as_truth (entered known)) (λ p k kept g. bind (of_expression left as_value k) (λ x k passed h. bind (of_expression right as_value k) (λ y k kept i. finished _ role _ k)))
  of_expression (c.Assign op target value) role known = bind (of_expression target as_place (entered known)) (λ x k kept h. bind (of_expression value as_value k) (λ y k kept i. finished _ role _ k))
  of_expression (c.Comma list) role known = bind (of_expressions list (entered known)) (λ xs k kept h. finished _ role _ k)
  of_expression (c.Marked ms value) role known = bind (of_marks ms (entered known)) (λ typed k kept h. bind (of_expression value (inside_mark role) k) (λ x k kept i. finished _ role _ k))
  of_expression (c.Decide operand when_true when_false tag) role known =
      bind (of_expression operand (inside_mark role) (entered known)) (λ x k kept h. bind (finished known.next role _ k) (λ result k kept i. went same tt))
  of_expression (c.After operand id tag) role known =
      bind (of_expression operand (inside_after role) (entered known)) (λ x k kept h. bind (finished known.next role _ k) (λ result k kept i. went same tt))

  pub of_expressions : (them : c.Expressions) (known : Known) → Kept known (expressions them known)
  of_expressions c.no_expressions known = went same tt
  of_expressions (c.an_expression first rest) known = bind (of_expression first as_value known) (λ x k kept h. bind (of_expressions rest k) (λ xs k kept i. went same tt))

  of_maybe : (it : c.Maybe) (known : Known) → Kept known (maybe it known)
  of_maybe c.absent known = went same tt
  of_maybe (c.present e) known = bind (unmarked known.is_unmarked (of_expression e as_value (unmarked_here known))) (λ x k kept h. went same tt)

  pub of_marks : (them : c.Marks) (known : Known) → Kept known (marks them known)
  of_marks c.no_marks known = went same tt
  of_marks (c.a_mark first rest) known = bind (of_mark first known) (λ m k kept h. bind (of_marks rest k) (λ ms k kept i. went same tt))

  pub of_mark : (it : c.Mark) (known : Known) → Kept known (mark it known)
  of_mark (c.mark predicate id tag names) known = bind (of_expression predicate as_value (entered known)) (λ x k kept h. bind (of_bindings names k) (λ bs k kept i. ended_mark known.next predicate x id tag bs k))

  of_bindings : (them : c.Bindings) (known : Known) → Kept known (bindings them known)
  of_bindings c.no_bindings known = went same tt
  of_bindings (c.a_binding name value rest) known = bind (of_expression value as_value known) (λ x k kept h. bind (of_bindings rest k) (λ bs k kept i. went same tt))

  pub of_specifiers : (it : c.Specifiers) (setting : Setting) (known : Known) → Brings (tags_in it) known (specifiers it setting known)
  of_specifiers (c.specifiers words types) setting known = bind_first (of_types types (beside_words words setting) known) (λ namings k h. went same tt)

  of_types : (them : c.TypeSpecifiers) (setting : Setting) (known : Known) → Brings (tags_in_types them) known (type_specifiers them setting known)
  of_types c.no_types setting known = went same tt
  of_types (c.a_type first rest) setting known = bind_both (of_type first setting known) (λ it k h. bind_first (of_types rest setting k) (λ others k i. went same tt))

  of_type : (it : c.TypeSpecifier) (setting : Setting) (known : Known) → Brings (tags_in_type it) known (type_specifier it setting known)
  of_type (c.Basic type) setting known = went same tt
  of_type (c.Word word) setting known = went same tt
  of_type (c.StructTag tag) setting known = struct_tag setting tag known
  of_type (c.Struct tag list) setting known = bind_both (opened_struct tag known) (λ opened k h. bind_first (of_members list [] k) (λ found k i. closed_struct opened found k))
  of_type (c.EnumTag tag) setting known = went same tt
  of_type (c.Enum tag list) setting known = bind (opened_enum tag known) (λ faults k kept h. bind (of_enumerators list (pos 0) k) (λ u k kept i. closed_enum tag faults k))
  of_type (c.Named name) setting known = went same tt

  of_members : (them : c.Members) (list : List Member) (known : Known) → Brings (tags_in_members them) known (members them list known)
  of_members c.no_members list known = went same tt
  of_members (c.a_member (c.member sp ds) rest) list known =
      bind_both {Was = Any} (bind_first (of_specifiers sp elsewhere (entered known)) (λ it k h. bind (of_member_declarators ds it list k)
      (λ found k kept i. judges known.next (broken_if incomplete_type (is_no_declarator ds) ++ alone_faults (is_no_declarator ds) it ++ found.faults) k _ (went same tt))))
      (λ longer k h. of_members rest longer k)

  of_member_declarators : (them : c.MemberDeclarators) (it : Specified) (list : List Member) (known : Known) → Kept known (member_declarators them it list known)
  of_member_declarators c.no_declarators it list known = went same tt
  of_member_declarators (c.a_declarator d width rest) it list known =
      bind (of_declarator d it false (member_faults list (has_width width)) known) (λ declared k kept h. bind (of_maybe width k)
      (λ written k kept i. bind (of_member_declarators rest it (with_member list declared) k) (λ found k kept j. went same tt)))

  of_enumerators : (them : c.Enumerators) (counted : ℤ) (known : Known) → Kept known (enumerators them counted known)
  of_enumerators c.no_enumerators counted known = went same tt
  of_enumerators (c.an_enumerator name value rest) counted known =
      bind (of_maybe value (entered known)) (λ x k kept h. bind (ended_enumerator known.next name (value_given counted x) k) (λ next k kept i. of_enumerators rest next k))

  -- one without a name and parts is no node
  pub of_declarator : (it : c.Declarator) (sp : Specified) (is_definition : Bool) (judge : Option (List ℕ) → Known → Built → List Rule) (known : Known)
      → Good [] (InParameters (tags_of_parameters it)) known.frames (declarator it sp is_definition judge known)
  of_declarator (c.declarator (Some name) ps) sp is_definition judge known =
      bind (of_parts ps sp.type is_definition true (entered known)) (λ b k kept h. ended_declarator (tags_of_parts ps) (Some known.next) (Some name) b (all_faults sp b (judge (Some name) k b)) k h)
  of_declarator (c.declarator None c.no_parts) sp is_definition judge known = went same tt
  of_declarator (c.declarator None (c.Pointer q rest)) sp is_definition judge known =
      bind (of_parts (c.Pointer q rest) sp.type is_definition true (entered known)) (λ b k kept h. ended_declarator [] (Some known.next) None b (all_faults sp b (judge None k b)) k tt)
  of_declarator (c.declarator None (c.Array size rest)) sp is_definition judge known =
      bind (of_parts (c.Array size rest) sp.type is_definition true (entered known)) (λ b k kept h. ended_declarator [] (Some known.next) None b (all_faults sp b (judge None k b)) k tt)
  of_declarator (c.declarator None (c.Function them rest)) sp is_definition judge known =
      bind (of_parts (c.Function them rest) sp.type is_definition true (entered known))
      (λ b k kept h. ended_declarator (tags_in_parameters them) (Some known.next) None b (all_faults sp b (judge None k b)) k h)

  of_parts : (them : c.Parts) (t : CType) (is_definition is_outermost : Bool) (known : Known) → Good [] (BuiltWith (tags_of_parts them)) known.frames (parts them t is_definition is_outermost known)
  of_parts c.no_parts t is_definition is_outermost known = went same tt
  of_parts (c.Pointer q rest) t is_definition is_outermost known = bind (of_parts rest t false false known) (λ inner k kept h. went same tt)
  of_parts (c.Array size rest) t is_definition is_outermost known = bind (of_maybe size known) (λ n k kept h. bind (of_parts rest t false false k) (λ inner k kept i. went same tt))
  of_parts (c.Function them rest) t is_definition is_outermost known =
      bind {Was = λ (ps : Parameters) fs. AreInScope (ps.frame ∷ fs) (tags_in_parameters them)}
      (scoped_giving known.frames (in_their_frame (tags_in_parameters them) known.frames) (of_parameters them is_definition (in_new_frame known)))
      (λ found j there h. bind (of_parts rest t false false j)
      (λ inner k kept i. went same (all_stay (found.frame ∷ j.frames) (found.frame ∷ k.frames) (tags_in_parameters them) (in_inner_scope found.frame j.frames k.frames kept.stays) h)))

  of_parameters : (them : c.Parameters) (is_definition : Bool) (known : Known) → Good (tags_in_parameters them) Framed known.frames (parameters them is_definition known)
  of_parameters c.Unstated is_definition known = went same refl
  of_parameters c.Void is_definition known = went same refl
  of_parameters (c.Listed list) is_definition known = of_parameter_list list is_definition known
  of_parameters (c.Open list) is_definition known = bind_first (of_parameter_list list is_definition known) (λ them k h. went same h)

  of_parameter_list : (them : c.ParameterList) (is_definition : Bool) (known : Known) → Good (tags_in_list them) Framed known.frames (parameter_list them is_definition known)
  of_parameter_list c.no_parameters is_definition known = went same refl
  of_parameter_list (c.a_parameter sp d rest) is_definition known =
      bind_both (of_specifiers sp elsewhere known) (λ it k h. bind (of_declarator d it false (parameter_faults is_definition) k)
      (λ declared k kept i. bind (bound_parameter is_definition (is_register it) declared.node declared.name (adjusted declared.type) k)
      (λ objects k kept j. bind_first (of_parameter_list rest is_definition k) (λ others k l. went same l))))

-- ---- the law

-- where the tags of its parameters are, behind a declarator that is gone over
parameters_behind : (tags : Tags) {frames : List Frame} {declared : Declares} {next : Known} → Good [] (InParameters tags) frames (Goes declared next) → InParameters tags declared next.frames
parameters_behind tags (went k h) = h

pub expressions_keep : ExpressionsKeepTags
expressions_keep = (
  λ it role known. kept known (of_expression it role known),
  λ them known. kept known (of_expressions them known),
  λ them known. kept known (of_marks them known),
  λ it known. kept known (of_mark it known),
  λ it setting known. kept known (of_specifiers it setting known),
  λ it sp is_definition judge known. kept known (of_declarator it sp is_definition judge known),
  λ it sp judge known next declared e one. parameters_behind (tags_of_parameters it) (subst (λ o. Good [] (InParameters (tags_of_parameters it)) known.frames o) e (of_declarator it sp true judge known)),
)
