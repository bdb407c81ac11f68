-- A walk inside a definition leaves the functions that were found before, and parameters, as they are.
use Rattle.std.proofs.Common.{◌≡◌, ℕ, zero, suc, ℤ, pos, Bool, true, false, List, [], ◌∷◌, ◌++◌, length, Option, Some, None}
use Rattle.std.specs.Prelude.{if◌then◌else◌, slice_get}
use Rattle.lt_model.specs.declared.operator.Op.TheVariants as O
use Rattle.lt_tree.specs.Tree as c
use Rattle.lt_tree.specs.Typing.Types.{CType, adjusted}
use Rattle.lt_tree.specs.Typing.Extents.{Member}
use Rattle.lt_tree.specs.Typing.Rules.{Rule, least, broken_if, unless, bad_mark, incomplete_type, declared_twice}
use Rattle.lt_tree.specs.Typing.TypedTree.{before, after}
use Rattle.lt_tree.specs.Typing.Entities.{Known, Object, Function, Frame, Tagged, a_struct, an_enum, tag_here, tagged_in}
use Rattle.lt_tree.specs.Typing.Steps.{Outcome, Goes, Breaks, goes_on, settle, unless_broken, left, marked_again}
use Rattle.lt_tree.specs.Typing.Expressions.{Use, Judged, as_value, as_truth, as_place, as_callee, own_type, faults_of_any, finish}
use Rattle.lt_tree.specs.Typing.Operations.{judge_step, judge_size, judge_member, judge_arrow, judge_index, judge_call, judge_cast}
use Rattle.lt_tree.specs.Typing.BinaryOperations.{judge_binary, judge_logical, judge_conditional, judge_assignment, judge_comma}
use Rattle.lt_tree.specs.Typing.MarkRules.{is_good_mark, judge_decide, inside_mark, inside_after, judge_after, judge_marked}
use Rattle.lt_tree.specs.Typing.Specifying.{Specified, is_register, Setting, elsewhere, is_alone, beside_words, struct_tagged, OpenStruct, open_new, open_tagged, open_struct, is_complete_struct, with_members, close_struct, open_enum, close_enum, value_given, enumerator_faults}
use Rattle.lt_tree.specs.Typing.Declarators.{Built, all_faults, setting_in_sizeof, is_written, type_name_faults, parameter_faults, binds_parameter, member_faults, with_member, has_width}
use Rattle.lt_tree.specs.Typing.NodeEnds.{judge_unary, operand_of, also, is_no_declarator, alone_faults, end_of_declarator, enter_if}
use Rattle.lt_tree.specs.Typing.ExpressionTyping.{expression, expressions, maybe, marks, mark, bindings, specifiers, type_specifiers, type_specifier, members, struct_member, member_declarators, enumerators, declarator, parts, parameters, parameter_list}

-- these objects, by their numbers, are there
abbrev pub AreAt : (ℕ → Object → Type 0) → List Object → Type 0
AreAt Was objects = (n : ℕ) (o : Object) → Was n o → slice_get objects n ≡ Some o

abbrev pub Lasts : List Function → (ℕ → Object → Type 0) → Known → Type 0
Lasts fs Was known = (known.functions ≡ fs) × AreAt Was known.objects

-- what is known behind a walk has these functions, and these objects
pub data Stays {A : Type 0} (fs : List Function) (Was : ℕ → Object → Type 0) : Outcome A → Type 0 where
  went : {a : A} {known : Known} → Lasts fs Was known → Stays fs Was (Goes a known)
  broke : {rule : Rule} {node : ℕ} → Stays fs Was (Breaks rule node)

still_there : (xs ys : List Object) (n : ℕ) (o : Object) → slice_get xs n ≡ Some o → slice_get (xs ++ ys) n ≡ Some o
still_there [] ys n o is = absurd cc
still_there (x ∷ xs) ys zero o is = is
still_there (x ∷ xs) ys (suc n) o is = still_there xs ys n o is

pub one_more : {Was : ℕ → Object → Type 0} (objects : List Object) (o : Object) → AreAt Was objects → AreAt Was (objects ++ o ∷ [])
one_more objects o are = λ n x was. still_there objects (o ∷ []) n x (are n x was)

module _ {fs : List Function} {Was : ℕ → Object → Type 0} where
  pub bind : {A B : Type 0} {o : Outcome A} {rest : A → Known → Outcome B} → Stays fs Was o → ((a : A) (known : Known) → Lasts fs Was known → Stays fs Was (rest a known)) → Stays fs Was (goes_on o rest)
  bind (went {a} {known} h) f = f a known h
  bind broke f = broke

  pub judged : (node : ℕ) (rules : List Rule) (known : Known) → Lasts fs Was known → Stays fs Was (settle node rules known)
  judged node rules known h = elim (least rules) as (λ rule. Stays fs Was (unless_broken rule node known)) [ None ↦ went h | Some rule ↦ broke ]

  pub unmarked : {A : Type 0} {o : Outcome A} (was : Bool) → Stays fs Was o → Stays fs Was (marked_again was o)
  unmarked was (went h) = went h
  unmarked was broke = broke

  pub framed : {A : Type 0} {o : Outcome A} (frames : List Frame) → Stays fs Was o → Stays fs Was (left frames o)
  framed frames (went h) = went h
  framed frames broke = broke

  pub scoped : {A : Type 0} {o : Outcome A} (frames : List Frame) → Stays fs Was o → Stays fs Was (goes_on (left frames o) (λ r known. Goes r.0 known))
  scoped frames (went h) = went h
  scoped frames broke = broke

  pub finished : (node : ℕ) (role : Use) (it : Judged) (known : Known) → Lasts fs Was known → Stays fs Was (finish node role it known)
  unfolding finish
  finished node role it known h = bind (judged node (it.faults ++ faults_of_any known.structs role it.typed) known h) (λ u k h. went h)

  -- ---- structs and enums

  struct_found : (tag : List ℕ) (found : Option Tagged) (known : Known) → Lasts fs Was known → Stays fs Was (struct_tagged tag found known)
  struct_found tag None known h = went h
  struct_found tag (Some (a_struct k)) known h = went h
  struct_found tag (Some (an_enum is_complete)) known h = went h

  opened_new : (tag : Option (List ℕ)) (faults : List Rule) (known : Known) → Lasts fs Was known → Stays fs Was (open_new tag faults known)
  opened_new None faults known h = went h
  opened_new (Some tag) faults known h = went h

  opened_tagged : (tag : List ℕ) (found : Option Tagged) (known : Known) → Lasts fs Was known → Stays fs Was (open_tagged tag found known)
  opened_tagged tag None known h = opened_new (Some tag) [] known h
  opened_tagged tag (Some (a_struct k)) known h = went h
  opened_tagged tag (Some (an_enum is_complete)) known h = opened_new None (declared_twice ∷ []) known h

  opened_struct : (tag : Option (List ℕ)) (known : Known) → Lasts fs Was known → Stays fs Was (open_struct tag known)
  opened_struct None known h = opened_new None [] known h
  opened_struct (Some tag) known h = opened_tagged tag (tag_here tag known) known h

  closed : (is_complete : Bool) (k : ℕ) (list : List Member) (known : Known) → Lasts fs Was known → Lasts fs Was ((if is_complete then (λ it. it) else with_members k list) known)
  closed true k list known h = h
  closed false k list known h = h

  closed_struct : (opened : OpenStruct) (list : List Member) (known : Known) → Lasts fs Was known → Stays fs Was (close_struct opened list known)
  closed_struct opened list known h = went (closed (is_complete_struct known.structs opened.number) opened.number list known h)

  opened_enum : (tag : Option (List ℕ)) (known : Known) → Lasts fs Was known → Stays fs Was (open_enum tag known)
  opened_enum None known h = went h
  opened_enum (Some tag) known h = went h

  closed_enum : (tag : Option (List ℕ)) (faults : List Rule) (known : Known) → Lasts fs Was known → Stays fs Was (close_enum tag faults known)
  closed_enum None faults known h = went h
  closed_enum (Some tag) faults known h = went h

  -- ---- declarators

  may_enter : (written : Bool) (known : Known) → Lasts fs Was known → Stays fs Was (enter_if written known)
  may_enter true known h = went h
  may_enter false known h = went h

  ended_declarator : (node : Option ℕ) (name : Option (List ℕ)) (b : Built) (faults : List Rule) (known : Known) → Lasts fs Was known → Stays fs Was (end_of_declarator node name b faults known)
  ended_declarator None name b faults known h = went h
  ended_declarator (Some node) name b faults known h = bind (judged node faults known h) (λ u k h. went h)

  bound : (is_definition is_register : Bool) (node : ℕ) (name : Option (List ℕ)) (t : CType) (known : Known) → Lasts fs Was known → Stays fs Was (binds_parameter is_definition is_register node name t known)
  bound is_definition is_register node None t known h = went h
  bound is_definition is_register node (Some name) t known h = went (h.0, one_more known.objects _ h.1)

  -- ---- expressions

  mutual
    pub of_expression : (it : c.Expression) (role : Use) (known : Known) → Lasts fs Was known → Stays fs Was (expression it role known)
    of_expression (c.Name w) role known h = finished _ role _ _ h
    of_expression (c.Constant w) role known h = finished _ role _ _ h
    of_expression (c.Text bytes) role known h = finished _ role _ _ (h.0, one_more known.objects _ h.1)
    of_expression (c.Index whole index) role known h =
        bind (of_expression whole as_value _ h) (λ x k h. bind (of_expression index as_value k h) (λ y k h. finished _ role (judge_index x y k) k h))
    of_expression (c.Call callee arguments) role known h =
        bind (of_expression callee as_callee _ h) (λ f k h. bind (of_expressions arguments k h) (λ xs k h. finished _ role (judge_call f xs k) k h))
    of_expression (c.Member whole w) role known h = bind (of_expression whole as_place _ h) (λ x k h. finished _ role (judge_member x w k) k h)
    of_expression (c.Arrow pointer w) role known h = bind (of_expression pointer as_value _ h) (λ x k h. finished _ role (judge_arrow x w k) k h)
    of_expression (c.PostInc target) role known h = bind (of_expression target as_place _ h) (λ x k h. finished _ role (judge_step before O.Add x k) k h)
    of_expression (c.PostDec target) role known h = bind (of_expression target as_place _ h) (λ x k h. finished _ role (judge_step before O.Sub x k) k h)
    of_expression (c.PreInc target) role known h = bind (of_expression target as_place _ h) (λ x k h. finished _ role (judge_step after O.Add x k) k h)
    of_expression (c.PreDec target) role known h = bind (of_expression target as_place _ h) (λ x k h. finished _ role (judge_step after O.Sub x k) k h)
    of_expression (c.Unary op operand) role known h = bind (of_expression operand (operand_of op) _ h) (λ x k h. finished _ role (judge_unary op x k) k h)
    of_expression (c.SizeofExpr operand) role known h =
        bind (unmarked known.is_unmarked (of_expression operand as_place _ h)) (λ x k h. finished _ role (judge_size (own_type x) k) k h)
    of_expression (c.SizeofType s d) role known h =
        bind (of_specifiers s (setting_in_sizeof d) _ h) (λ it k h. bind (of_declarator d it false (λ name known b. type_name_faults b) k h)
        (λ t k h. finished _ role (also t.faults (judge_size t.type k)) k h))
    of_expression (c.Cast s d operand) role known h =
        bind (of_specifiers s elsewhere _ h) (λ it k h. bind (of_declarator d it false (λ name known b. type_name_faults b) k h) (λ t k h. bind (of_expression operand as_value k h)
        (λ x k h. finished _ role (also t.faults (judge_cast t.type x k)) k h)))
    of_expression (c.Binary op left right) role known h =
        bind (of_expression left as_value _ h) (λ x k h. bind (of_expression right as_value k h) (λ y k h. finished _ role (judge_binary op x y k) k h))
    of_expression (c.Logical op left right) role known h =
        bind (of_expression left as_truth _ h) (λ x k h. bind (of_expression right as_truth k h) (λ y k h. finished _ role (judge_logical op x y) k h))
    of_expression (c.Conditional test left right) role known h =
        bind (of_expression test as_truth _ h) (λ x k h. bind (of_expression left as_value k h) (λ y k h. bind (of_expression right as_value k h)
        (λ z k h. finished _ role (judge_conditional x y z k) k h)))
    of_expression (c.Assign op target value) role known h =
        bind (of_expression target as_place _ h) (λ x k h. bind (of_expression value as_value k h) (λ y k h. finished _ role (judge_assignment op x y k) k h))
    of_expression (c.Comma list) role known h = bind (of_expressions list _ h) (λ xs k h. finished _ role (judge_comma xs) k h)
    of_expression (c.Marked ms value) role known h =
        bind (of_marks ms _ h) (λ typed k h. bind (of_expression value (inside_mark role) k h) (λ x k h. finished _ role (judge_marked typed x) k h))
    of_expression (c.Decide operand when_true when_false tag) role known h =
        bind (of_expression operand (inside_mark role) _ h) (λ x k h. bind (finished known.next role (judge_decide role x when_true when_false tag k) k h) (λ result k h. went h))
    of_expression (c.After operand id tag) role known h =
        bind (of_expression operand (inside_after role) _ h) (λ x k h. bind (finished known.next role (judge_after role x id tag k) k h) (λ result k h. went h))

    of_expressions : (them : c.Expressions) (known : Known) → Lasts fs Was known → Stays fs Was (expressions them known)
    of_expressions c.no_expressions known h = went h
    of_expressions (c.an_expression first rest) known h = bind (of_expression first as_value known h) (λ x k h. bind (of_expressions rest k h) (λ xs k h. went h))

    of_maybe : (it : c.Maybe) (known : Known) → Lasts fs Was known → Stays fs Was (maybe it known)
    of_maybe c.absent known h = went h
    of_maybe (c.present it) known h = bind (unmarked known.is_unmarked (of_expression it as_value _ h)) (λ x k h. went h)

    of_marks : (them : c.Marks) (known : Known) → Lasts fs Was known → Stays fs Was (marks them known)
    of_marks c.no_marks known h = went h
    of_marks (c.a_mark first rest) known h = bind (of_mark first known h) (λ m k h. bind (of_marks rest k h) (λ ms k h. went h))

    pub of_mark : (it : c.Mark) (known : Known) → Lasts fs Was known → Stays fs Was (mark it known)
    of_mark (c.mark predicate id tag bound) known h =
        bind (of_expression predicate as_value _ h) (λ x k h. bind (of_bindings bound k h)
        (λ bs k h. bind (judged known.next (unless (is_good_mark k predicate x id tag bs) bad_mark) k h) (λ u k h. went h)))

    of_bindings : (them : c.Bindings) (known : Known) → Lasts fs Was known → Stays fs Was (bindings them known)
    of_bindings c.no_bindings known h = went h
    of_bindings (c.a_binding name value rest) known h = bind (of_expression value as_value known h) (λ x k h. bind (of_bindings rest k h) (λ bs k h. went h))

    pub of_specifiers : (it : c.Specifiers) (setting : Setting) (known : Known) → Lasts fs Was known → Stays fs Was (specifiers it setting known)
    of_specifiers (c.specifiers words types) setting known h = bind (of_types types (beside_words words setting) known h) (λ namings k h. went h)

    of_types : (them : c.TypeSpecifiers) (setting : Setting) (known : Known) → Lasts fs Was known → Stays fs Was (type_specifiers them setting known)
    of_types c.no_types setting known h = went h
    of_types (c.a_type first rest) setting known h = bind (of_type first setting known h) (λ it k h. bind (of_types rest setting k h) (λ others k h. went h))

    of_type : (it : c.TypeSpecifier) (setting : Setting) (known : Known) → Lasts fs Was known → Stays fs Was (type_specifier it setting known)
    of_type (c.Basic type) setting known h = went h
    of_type (c.Word word) setting known h = went h
    of_type (c.StructTag tag) setting known h = struct_found tag (if is_alone setting then tag_here tag known else tagged_in tag known.frames) known h
    of_type (c.Struct tag list) setting known h =
        bind (opened_struct tag known h) (λ opened k h. bind (of_members list [] k h) (λ found k h. closed_struct opened found k h))
    of_type (c.EnumTag tag) setting known h = went h
    of_type (c.Enum tag list) setting known h =
        bind (opened_enum tag known h) (λ faults k h. bind (of_enumerators list (pos 0) k h) (λ u k h. closed_enum tag faults k h))
    of_type (c.Named name) setting known h = went h

    of_members : (them : c.Members) (list : List Member) (known : Known) → Lasts fs Was known → Stays fs Was (members them list known)
    of_members c.no_members list known h = went h
    of_members (c.a_member first rest) list known h = bind (of_struct_member first list known h) (λ longer k h. of_members rest longer k h)

    of_struct_member : (it : c.StructMember) (list : List Member) (known : Known) → Lasts fs Was known → Stays fs Was (struct_member it list known)
    of_struct_member (c.member sp ds) list known h =
        bind (of_specifiers sp elsewhere _ h) (λ it k h. bind (of_member_declarators ds it list k h)
        (λ found k h. bind (judged known.next (broken_if incomplete_type (is_no_declarator ds) ++ alone_faults (is_no_declarator ds) it ++ found.faults) k h) (λ u k h. went h)))

    of_member_declarators : (them : c.MemberDeclarators) (it : Specified) (list : List Member) (known : Known) → Lasts fs Was known → Stays fs Was (member_declarators them it list known)
    of_member_declarators c.no_declarators it list known h = went h
    of_member_declarators (c.a_declarator d width rest) it list known h =
        bind (of_declarator d it false (member_faults list (has_width width)) known h) (λ declared k h. bind (of_maybe width k h)
        (λ written k h. bind (of_member_declarators rest it (with_member list declared) k h) (λ found k h. went h)))

    of_enumerators : (them : c.Enumerators) (counted : ℤ) (known : Known) → Lasts fs Was known → Stays fs Was (enumerators them counted known)
    of_enumerators c.no_enumerators counted known h = went h
    of_enumerators (c.an_enumerator name value rest) counted known h =
        bind (of_maybe value _ h) (λ x k h. bind (bind (judged known.next (enumerator_faults k name (value_given counted x)) k h) (λ u k h. went h)) (λ next k h. of_enumerators rest next k h))

    pub of_declarator : (it : c.Declarator) (sp : Specified) (is_definition : Bool) (judge : Option (List ℕ) → Known → Built → List Rule) (known : Known) → Lasts fs Was known
        → Stays fs Was (declarator it sp is_definition judge known)
    of_declarator (c.declarator name ps) sp is_definition judge known h =
        bind (may_enter (is_written name ps) known h) (λ node k h. bind (of_parts ps sp.type is_definition true k h)
        (λ b k h. ended_declarator node name b (all_faults sp b (judge name k b)) k h))

    pub of_parts : (them : c.Parts) (t : CType) (is_definition is_outermost : Bool) (known : Known) → Lasts fs Was known → Stays fs Was (parts them t is_definition is_outermost known)
    of_parts c.no_parts t is_definition is_outermost known h = went h
    of_parts (c.Pointer q rest) t is_definition is_outermost known h = bind (of_parts rest t false false known h) (λ inner k h. went h)
    of_parts (c.Array length rest) t is_definition is_outermost known h =
        bind (of_maybe length known h) (λ n k h. bind (of_parts rest t false false k h) (λ inner k h. went h))
    of_parts (c.Function them rest) t is_definition is_outermost known h =
        bind (scoped known.frames (of_parameters them is_definition _ h)) (λ found k h. bind (of_parts rest t false false k h) (λ inner k h. went h))

    of_parameters : (them : c.Parameters) (is_definition : Bool) (known : Known) → Lasts fs Was known → Stays fs Was (parameters them is_definition known)
    of_parameters c.Unstated is_definition known h = went h
    of_parameters c.Void is_definition known h = went h
    of_parameters (c.Listed list) is_definition known h = of_parameter_list list is_definition known h
    of_parameters (c.Open list) is_definition known h = bind (of_parameter_list list is_definition known h) (λ them k h. went h)

    pub of_parameter_list : (them : c.ParameterList) (is_definition : Bool) (known : Known) → Lasts fs Was known → Stays fs Was (parameter_list them is_definition known)
    of_parameter_list c.no_parameters is_definition known h = went h
    of_parameter_list (c.a_parameter sp d rest) is_definition known h =
        bind (of_specifiers sp elsewhere known h) (λ it k h. bind (of_declarator d it false (parameter_faults is_definition) k h)
        (λ declared k h. bind (bound is_definition (is_register it) declared.node declared.name (adjusted declared.type) k h)
        (λ objects k h. bind (of_parameter_list rest is_definition k h) (λ others k h. went h))))
