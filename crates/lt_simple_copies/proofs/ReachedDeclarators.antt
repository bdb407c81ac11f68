-- Typing goes over the nodes of marks, specifiers and declarators.
use Rattle.std.proofs.Common.{◌≡◌, refl, ℕ, ℤ, pos, Bool, true, false, if◌then◌else◌, List, [], ◌++◌, Option, Some, None}
use Rattle.lt_tree.specs.Tree as c
use Rattle.lt_tree.specs.Nodes as n
use Rattle.lt_tree.specs.Nodes.{in_expression, in_maybe, in_marks, in_mark, in_specifiers, in_types, in_type, in_members, in_member_declarators, in_enumerators, in_declarator, in_parts, in_parameters, in_parameter_list}
use Rattle.lt_tree.specs.Typing.Types.{CType, adjusted}
use Rattle.lt_tree.specs.Typing.Extents.{Member}
use Rattle.lt_tree.specs.Typing.Rules.{Rule, broken_if, incomplete_type}
use Rattle.lt_tree.specs.Typing.Entities.{Known, Tagged, a_struct, an_enum, tag_here, tagged_in}
use Rattle.lt_tree.specs.Typing.Expressions.{Use, as_value}
use Rattle.lt_tree.specs.Typing.Specifying.{OpenStruct, Specified, is_register, is_complete_struct, struct_tagged, Setting, is_alone, elsewhere, beside_words, open_tagged, open_struct, open_enum, close_enum, with_members, close_struct, value_given, enumerator_faults}
use Rattle.lt_tree.specs.Typing.Declarators.{Built, all_faults, parameter_faults, binds_parameter, member_faults, with_member, has_width}
use Rattle.lt_tree.specs.Typing.NodeEnds.{is_no_declarator, alone_faults}
use Rattle.lt_tree.specs.Typing.ExpressionTyping.{expression, maybe, marks, mark, specifiers, type_specifiers, type_specifier, members, member_declarators, enumerators, declarator, parts, parameters, parameter_list}
use Rattle.lt_tree_laws.specs.Typing.NodeNumbers.{PartsAreNumbered}
use Rattle.lt_simple_copies.proofs.ReachedSteps.{Whole, as_law, entered, unmarked_here, in_new_frame, done, done_at, after, joined, quiet, grouped, node, settled, unmarked, scoped}

-- ---- what has no nodes

of_struct_tag : (tag : List ℕ) (found : Option Tagged) (known : Known) → Whole known [] (struct_tagged tag found known)
of_struct_tag tag None known = done _
of_struct_tag tag (Some (a_struct k)) known = done _
of_struct_tag tag (Some (an_enum is_complete)) known = done _

of_open_tag : (tag : List ℕ) (found : Option Tagged) (known : Known) → Whole known [] (open_tagged tag found known)
of_open_tag tag None known = done _
of_open_tag tag (Some (a_struct k)) known = done _
of_open_tag tag (Some (an_enum is_complete)) known = done _

of_open_struct : (tag : Option (List ℕ)) (known : Known) → Whole known [] (open_struct tag known)
of_open_struct None known = done _
of_open_struct (Some tag) known = of_open_tag tag (tag_here tag known) known

closed : (is_complete : Bool) (opened : OpenStruct) (list : List Member) (known : Known)
    → ((if is_complete then (λ it. it) else with_members opened.number list) known).next ≡ known.next
closed true opened list known = refl
closed false opened list known = refl

of_close : (opened : OpenStruct) (list : List Member) (known : Known) → Whole known [] (close_struct opened list known)
of_close opened list known = done_at known _ (closed (is_complete_struct known.structs opened.number) opened list known)

of_open_enum : (tag : Option (List ℕ)) (known : Known) → Whole known [] (open_enum tag known)
of_open_enum None known = done _
of_open_enum (Some tag) known = done _

of_close_enum : (tag : Option (List ℕ)) (faults : List Rule) (known : Known) → Whole known [] (close_enum tag faults known)
of_close_enum None faults known = done _
of_close_enum (Some tag) faults known = done _

of_binding_parameter : (is_definition is_register : Bool) (at : ℕ) (name : Option (List ℕ)) (t : CType) (known : Known) → Whole known [] (binds_parameter is_definition is_register at name t known)
of_binding_parameter is_definition is_register at None t known = done _
of_binding_parameter is_definition is_register at (Some name) t known = done _

-- A declarator is a node where it has a name or parts.
written_or_not : (name : Option (List ℕ)) (ps : c.Parts) (s : Specified) (is_definition : Bool) (judge : Option (List ℕ) → Known → Built → List Rule) (known : Known)
    → ((k : Known) → Whole k (in_parts ps) (parts ps s.type is_definition true k))
    → Whole known (in_declarator (c.declarator name ps)) (declarator (c.declarator name ps) s is_definition judge known)
written_or_not None c.no_parts s is_definition judge known w = done known
written_or_not None (c.Pointer q rest) s is_definition judge known w =
    node known (after (w (entered known)) (λ b k. after (settled known.next (all_faults s b (judge None k b)) k) (λ u k. done k)))
written_or_not None (c.Array size rest) s is_definition judge known w =
    node known (after (w (entered known)) (λ b k. after (settled known.next (all_faults s b (judge None k b)) k) (λ u k. done k)))
written_or_not None (c.Function them rest) s is_definition judge known w =
    node known (after (w (entered known)) (λ b k. after (settled known.next (all_faults s b (judge None k b)) k) (λ u k. done k)))
written_or_not (Some name) ps s is_definition judge known w =
    node known (after (w (entered known)) (λ b k. after (settled known.next (all_faults s b (judge (Some name) k b)) k) (λ u k. done k)))

-- ---- marks

pub of_expression : PartsAreNumbered → (it : c.Expression) (role : Use) (known : Known) → Whole known (in_expression it) (expression it role known)
of_expression law it role known = as_law known (in_expression it) (expression it role known) (law.0 it role known)

pub of_mark : PartsAreNumbered → (it : c.Mark) (known : Known) → Whole known (in_mark it) (mark it known)
of_mark law it known = as_law known (in_mark it) (mark it known) (law.1 it known)

pub of_marks : PartsAreNumbered → (them : c.Marks) (known : Known) → Whole known (in_marks them) (marks them known)
of_marks law c.no_marks known = done known
of_marks law (c.a_mark first rest) known = joined (of_mark law first known) (λ m k. after (of_marks law rest k) (λ ms k. done k))

-- ---- specifiers and declarators

of_maybe : PartsAreNumbered → (it : c.Maybe) (known : Known) → Whole known (in_maybe it) (maybe it known)
of_maybe law c.absent known = done known
of_maybe law (c.present e) known = after (unmarked known.is_unmarked (of_expression law e as_value (unmarked_here known))) (λ x k. done k)

of_enumerators : PartsAreNumbered → (them : c.Enumerators) (counted : ℤ) (known : Known) → Whole known (in_enumerators them) (enumerators them counted known)
of_enumerators law c.no_enumerators counted known = done known
of_enumerators law (c.an_enumerator name value rest) counted known =
    node known (joined (of_maybe law value (entered known))
    (λ x k. quiet (after (settled known.next (enumerator_faults k name (value_given counted x)) k) (λ u k. done _)) (λ next k. of_enumerators law rest next k)))

mutual
  pub of_specifiers : PartsAreNumbered → (it : c.Specifiers) (setting : Setting) (known : Known) → Whole known (in_specifiers it) (specifiers it setting known)
  of_specifiers law (c.specifiers words types) setting known = after (of_types law types (beside_words words setting) known) (λ namings k. done k)

  of_types : PartsAreNumbered → (them : c.TypeSpecifiers) (setting : Setting) (known : Known) → Whole known (in_types them) (type_specifiers them setting known)
  of_types law c.no_types setting known = done known
  of_types law (c.a_type first rest) setting known = joined (of_type law first setting known) (λ it k. after (of_types law rest setting k) (λ others k. done k))

  of_type : PartsAreNumbered → (it : c.TypeSpecifier) (setting : Setting) (known : Known) → Whole known (in_type it) (type_specifier it setting known)
  of_type law (c.Basic type) setting known = done known
  of_type law (c.Word word) setting known = done known
  of_type law (c.StructTag tag) setting known = of_struct_tag tag (if is_alone setting then tag_here tag known else tagged_in tag known.frames) known
  of_type law (c.Struct tag list) setting known = quiet (of_open_struct tag known) (λ opened k. after (of_members law list [] k) (λ found k. of_close opened found k))
  of_type law (c.EnumTag tag) setting known = done known
  of_type law (c.Enum tag list) setting known = quiet (of_open_enum tag known) (λ faults k. after (of_enumerators law list (pos 0) k) (λ u k. of_close_enum tag faults k))
  of_type law (c.Named name) setting known = done known

  of_members : PartsAreNumbered → (them : c.Members) (list : List Member) (known : Known) → Whole known (in_members them) (members them list known)
  of_members law c.no_members list known = done known
  of_members law (c.a_member (c.member s ds) rest) list known =
      joined (node known {x = n.a_member (c.member s ds)} (joined (of_specifiers law s elsewhere (entered known)) (λ it k. after (of_member_declarators law ds it list k)
      (λ found k. after (settled known.next (broken_if incomplete_type (is_no_declarator ds) ++ alone_faults (is_no_declarator ds) it ++ found.faults) k) (λ u k. done k)))))
      (λ longer k. of_members law rest longer k)

  of_member_declarators : PartsAreNumbered → (them : c.MemberDeclarators) (it : Specified) (list : List Member) (known : Known)
      → Whole known (in_member_declarators them) (member_declarators them it list known)
  of_member_declarators law c.no_declarators it list known = done known
  of_member_declarators law (c.a_declarator d width rest) it list known =
      grouped (in_declarator d) (in_maybe width) (in_member_declarators rest) (joined (of_declarator law d it false (member_faults list (has_width width)) known) (λ declared k. joined
      (of_maybe law width k) (λ written k. after (of_member_declarators law rest it (with_member list declared) k) (λ found k. done k))))

  pub of_declarator : PartsAreNumbered → (it : c.Declarator) (s : Specified) (is_definition : Bool) (judge : Option (List ℕ) → Known → Built → List Rule) (known : Known)
      → Whole known (in_declarator it) (declarator it s is_definition judge known)
  of_declarator law (c.declarator name ps) s is_definition judge known = written_or_not name ps s is_definition judge known (λ k. of_parts law ps s.type is_definition true k)

  of_parts : PartsAreNumbered → (them : c.Parts) (t : CType) (is_definition is_outermost : Bool) (known : Known) → Whole known (in_parts them) (parts them t is_definition is_outermost known)
  of_parts law c.no_parts t is_definition is_outermost known = done known
  of_parts law (c.Pointer q rest) t is_definition is_outermost known = after (of_parts law rest t false false known) (λ inner k. done k)
  of_parts law (c.Array length rest) t is_definition is_outermost known = joined (of_maybe law length known) (λ count k. after (of_parts law rest t false false k) (λ inner k. done k))
  of_parts law (c.Function them rest) t is_definition is_outermost known =
      joined (scoped known (of_parameters law them is_definition (in_new_frame known))) (λ found k. after (of_parts law rest t false false k) (λ inner k. done k))

  of_parameters : PartsAreNumbered → (them : c.Parameters) (is_definition : Bool) (known : Known) → Whole known (in_parameters them) (parameters them is_definition known)
  of_parameters law c.Unstated is_definition known = done known
  of_parameters law c.Void is_definition known = done known
  of_parameters law (c.Listed list) is_definition known = of_parameter_list law list is_definition known
  of_parameters law (c.Open list) is_definition known = after (of_parameter_list law list is_definition known) (λ them k. done k)

  of_parameter_list : PartsAreNumbered → (them : c.ParameterList) (is_definition : Bool) (known : Known) → Whole known (in_parameter_list them) (parameter_list them is_definition known)
  of_parameter_list law c.no_parameters is_definition known = done known
  of_parameter_list law (c.a_parameter s d rest) is_definition known =
      grouped (in_specifiers s) (in_declarator d) (in_parameter_list rest) (joined (of_specifiers law s elsewhere known) (λ it k. joined (of_declarator law d it false (parameter_faults is_definition) k)
      (λ declared k. quiet (of_binding_parameter is_definition (is_register it) declared.node declared.name (adjusted declared.type) k)
      (λ objects k. after (of_parameter_list law rest is_definition k) (λ others k. done k)))))
