-- Expressions, and what stands inside them, note facts of their nodes.
use Rattle.std.proofs.Common.{◌≡◌, refl, ℕ, ℤ, pos, Bool, true, false, if◌then◌else◌, List, [], ◌∷◌, ◌++◌, length, Option, Some, None}
use Rattle.lt_model.specs.declared.operator.Op.TheVariants as O
use Rattle.lt_tree.specs.Tree as c
use Rattle.lt_tree.specs.Typing.Types.{CType, adjusted}
use Rattle.lt_tree.specs.Typing.Extents.{Member}
use Rattle.lt_tree.specs.Typing.Constants.{constant_of}
use Rattle.lt_tree.specs.Typing.Rules.{Rule, broken_if, unless, incomplete_type, bad_mark}
use Rattle.lt_tree.specs.Typing.TypedTree.{before, after as behind}
use Rattle.lt_tree.specs.Typing.Entities.{Known, Tagged, a_struct, an_enum, meaning_of, tag_here, tagged_in}
use Rattle.lt_tree.specs.Typing.Steps.{Walk, ◌>>=◌, here}
use Rattle.lt_tree.specs.Typing.Expressions.{Use, as_value, as_truth, as_place, as_callee, own_type}
use Rattle.lt_tree.specs.Typing.Operations.{judge_name, judge_constant, judge_step, judge_size, judge_member, judge_arrow, judge_index, judge_call, judge_cast}
use Rattle.lt_tree.specs.Typing.BinaryOperations.{judge_binary, judge_logical, judge_conditional, judge_assignment, judge_comma}
use Rattle.lt_tree.specs.Typing.MarkRules.{is_good_mark, label_of, judge_decide, inside_mark, inside_after, judge_after, judge_marked}
use Rattle.lt_tree.specs.Typing.Specifying.{OpenStruct, Specified, is_register, is_complete_struct, struct_tagged, Setting, is_alone, elsewhere, beside_words, open_tagged, open_struct, open_enum, close_enum, with_members, close_struct, value_given, enumerator_faults}
use Rattle.lt_tree.specs.Typing.Declarators.{Built, Declares, all_faults, is_written, setting_in_sizeof, type_name_faults, parameter_faults, binds_parameter, member_faults, with_member, has_width}
use Rattle.lt_tree.specs.Typing.NodeEnds.{text_object, text_at, judge_unary, operand_of, also, end_of_declarator, enter_if, is_no_declarator, alone_faults}
use Rattle.lt_tree.specs.Typing.ExpressionTyping.{expression, expressions, maybe, marks, mark, bindings, specifiers, type_specifiers, type_specifier, members, member_declarators, enumerators, declarator, parts, parameters, parameter_list}
use Rattle.lt_typed_nodes.specs.Coming.{entered, unmarked_here, in_new_block}
use Rattle.lt_typed_nodes.proofs.FactSteps.{Notes, Whole, EndsAt, done, done_at, after, joined, node, part, rest_of, judges, at_node, whole, piece, operand, finished, with_labels, unmarked, scoped}

-- ---- what notes nothing

of_struct_tag : (tag : List ℕ) (found : Option Tagged) (known : Known) → Whole known (struct_tagged tag found known)
of_struct_tag tag None known = done _
of_struct_tag tag (Some (a_struct k)) known = done _
of_struct_tag tag (Some (an_enum is_complete)) known = done _

of_open_tag : (tag : List ℕ) (found : Option Tagged) (known : Known) → Whole known (open_tagged tag found known)
of_open_tag tag None known = done _
of_open_tag tag (Some (a_struct k)) known = done _
of_open_tag tag (Some (an_enum is_complete)) known = done _

of_open_struct : (tag : Option (List ℕ)) (known : Known) → Whole known (open_struct tag known)
of_open_struct None known = done _
of_open_struct (Some tag) known = of_open_tag tag (tag_here tag known) known

abbrev closed : Bool → OpenStruct → List Member → Known → Known
closed is_complete opened list known = (if is_complete then (λ it. it) else with_members opened.number list) known

closed_next : (is_complete : Bool) (opened : OpenStruct) (list : List Member) (known : Known) → (closed is_complete opened list known).next ≡ known.next
closed_next true opened list known = refl
closed_next false opened list known = refl

closed_facts : (is_complete : Bool) (opened : OpenStruct) (list : List Member) (known : Known) → (closed is_complete opened list known).facts ≡ known.facts
closed_facts true opened list known = refl
closed_facts false opened list known = refl

of_close : {low : ℕ} (opened : OpenStruct) (list : List Member) (known : Known) → Notes low known.next known.facts (close_struct opened list known)
of_close opened list known =
    let is_complete : Bool = is_complete_struct known.structs opened.number in
    done_at known _ (closed_next is_complete opened list known) (closed_facts is_complete opened list known)

of_open_enum : (tag : Option (List ℕ)) (known : Known) → Whole known (open_enum tag known)
of_open_enum None known = done _
of_open_enum (Some tag) known = done _

of_close_enum : {low : ℕ} (tag : Option (List ℕ)) (faults : List Rule) (known : Known) → Notes low known.next known.facts (close_enum tag faults known)
of_close_enum None faults known = done _
of_close_enum (Some tag) faults known = done _

of_binding_parameter : (is_definition is_register : Bool) (at : ℕ) (name : Option (List ℕ)) (t : CType) (known : Known) → Whole known (binds_parameter is_definition is_register at name t known)
of_binding_parameter is_definition is_register at None t known = done _
of_binding_parameter is_definition is_register at (Some name) t known = done _

-- ---- declarators

-- a declarator, where it is known whether it is a node
abbrev declared : Bool → Option (List ℕ) → c.Parts → Specified → Bool → (Option (List ℕ) → Known → Built → List Rule) → Walk Declares
declared is_node name ps s is_definition judge = do
  at ← enter_if is_node
  b ← parts ps s.type is_definition true
  known ← here
  end_of_declarator at name b (all_faults s b (judge name known b))

of_declared : (is_node : Bool) (name : Option (List ℕ)) (ps : c.Parts) (s : Specified) (is_definition : Bool) (judge : Option (List ℕ) → Known → Built → List Rule) (known : Known)
    → ((k : Known) → Whole k (parts ps s.type is_definition true k)) → Whole known (declared is_node name ps s is_definition judge known)
of_declared true name ps s is_definition judge known w =
    node known (λ i. part (entered known) i (w (entered known)) (λ b k i. after (judges (all_faults s b (judge name k b)) k) (λ u k le. done k)))
of_declared false name ps s is_definition judge known w = after (w known) (λ b k le. done k)

-- ---- expressions

mutual
  pub of_expression : (it : c.Expression) (role : Use) (known : Known) → EndsAt role known (expression it role known)
  of_expression (c.Name name) role known = at_node known (λ i. finished role (judge_name role name (meaning_of name known) (entered known)) (entered known) i)
  of_expression (c.Constant text) role known = at_node known (λ i. finished role (judge_constant (constant_of known.model text)) (entered known) i)
  of_expression (c.Text bytes) role known =
      at_node known (λ i. finished role (text_at (entered known) bytes (length known.objects)) (record (entered known) { objects = known.objects ++ text_object known.next (entered known) bytes ∷ [] }) i)
  of_expression (c.Index whole index) role known =
      at_node known (λ i. operand (entered known) i (of_expression whole as_value (entered known)) (λ x k i. operand k i (of_expression index as_value k) (λ y k i. finished role (judge_index x y k) k i)))
  of_expression (c.Call callee arguments) role known =
      at_node known (λ i. operand (entered known) i (of_expression callee as_callee (entered known)) (λ f k i. piece k i (of_expressions arguments k) (λ xs k i. finished role (judge_call f xs k) k i)))
  of_expression (c.Member whole name) role known =
      at_node known (λ i. operand (entered known) i (of_expression whole as_place (entered known)) (λ x k i. finished role (judge_member x name k) k i))
  of_expression (c.Arrow pointer name) role known =
      at_node known (λ i. operand (entered known) i (of_expression pointer as_value (entered known)) (λ x k i. finished role (judge_arrow x name k) k i))
  of_expression (c.PostInc target) role known =
      at_node known (λ i. operand (entered known) i (of_expression target as_place (entered known)) (λ x k i. finished role (judge_step before O.Add x k) k i))
  of_expression (c.PostDec target) role known =
      at_node known (λ i. operand (entered known) i (of_expression target as_place (entered known)) (λ x k i. finished role (judge_step before O.Sub x k) k i))
  of_expression (c.PreInc target) role known =
      at_node known (λ i. operand (entered known) i (of_expression target as_place (entered known)) (λ x k i. finished role (judge_step behind O.Add x k) k i))
  of_expression (c.PreDec target) role known =
      at_node known (λ i. operand (entered known) i (of_expression target as_place (entered known)) (λ x k i. finished role (judge_step behind O.Sub x k) k i))
  of_expression (c.Unary op target) role known =
      at_node known (λ i. operand (entered known) i (of_expression target (operand_of op) (entered known)) (λ x k i. finished role (judge_unary op x k) k i))
  of_expression (c.SizeofExpr target) role known =
      at_node known (λ i. piece (entered known) i (unmarked known.is_unmarked (whole (unmarked_here (entered known)) (of_expression target as_place (unmarked_here (entered known)))))
      (λ x k i. finished role (judge_size (own_type x) k) k i))
  of_expression (c.SizeofType s d) role known =
      at_node known (λ i. piece (entered known) i (of_specifiers s (setting_in_sizeof d) (entered known)) (λ it k i. piece k i (of_declarator d it false (λ name known b. type_name_faults b) k)
      (λ t k i. finished role (also t.faults (judge_size t.type k)) k i)))
  of_expression (c.Cast s d target) role known =
      at_node known (λ i. piece (entered known) i (of_specifiers s elsewhere (entered known)) (λ it k i. piece k i (of_declarator d it false (λ name known b. type_name_faults b) k)
      (λ t k i. operand k i (of_expression target as_value k) (λ x k i. finished role (also t.faults (judge_cast t.type x k)) k i))))
  of_expression (c.Binary op left right) role known =
      at_node known (λ i. operand (entered known) i (of_expression left as_value (entered known)) (λ x k i. operand k i (of_expression right as_value k) (λ y k i. finished role (judge_binary op x y k) k i)))
  of_expression (c.Logical op left right) role known =
      at_node known (λ i. operand (entered known) i (of_expression left as_truth (entered known)) (λ x k i. operand k i (of_expression right as_truth k) (λ y k i. finished role (judge_logical op x y) k i)))
  of_expression (c.Conditional test left right) role known =
      at_node known (λ i. operand (entered known) i (of_expression test as_truth (entered known)) (λ p k i. operand k i (of_expression left as_value k)
      (λ x k i. operand k i (of_expression right as_value k) (λ y k i. finished role (judge_conditional p x y k) k i))))
  of_expression (c.Assign op target value) role known =
      at_node known (λ i. operand (entered known) i (of_expression target as_place (entered known)) (λ x k i. operand k i (of_expression value as_value k) (λ y k i. finished role (judge_assignment op x y k) k i)))
  of_expression (c.Comma list) role known = at_node known (λ i. piece (entered known) i (of_expressions list (entered known)) (λ xs k i. finished role (judge_comma xs) k i))
  of_expression (c.Marked ms value) role known =
      at_node known (λ i. piece (entered known) i (of_marks ms (entered known)) (λ typed k i. operand k i (of_expression value (inside_mark role) k) (λ x k i. finished role (judge_marked typed x) k i)))
  of_expression (c.Decide target when_true when_false tag) role known =
      at_node known (λ i. operand (entered known) i (of_expression target (inside_mark role) (entered known))
      (λ x k i. with_labels (λ it. it.labels ++ label_of when_true tag [] ∷ [] ++ label_of when_false tag [] ∷ []) (finished role (judge_decide role x when_true when_false tag k) k i)))
  of_expression (c.After target id tag) role known =
      at_node known (λ i. operand (entered known) i (of_expression target (inside_after role) (entered known))
      (λ x k i. with_labels (λ it. it.labels ++ label_of id tag [] ∷ []) (finished role (judge_after role x id tag k) k i)))

  pub of_expressions : (them : c.Expressions) (known : Known) → Whole known (expressions them known)
  of_expressions c.no_expressions known = done known
  of_expressions (c.an_expression first rest) known = joined known (whole known (of_expression first as_value known)) (λ x k. after (of_expressions rest k) (λ xs k le. done k))

  of_maybe : (it : c.Maybe) (known : Known) → Whole known (maybe it known)
  of_maybe c.absent known = done known
  of_maybe (c.present e) known = after (unmarked known.is_unmarked (whole (unmarked_here known) (of_expression e as_value (unmarked_here known)))) (λ x k le. done k)

  pub of_marks : (them : c.Marks) (known : Known) → Whole known (marks them known)
  of_marks c.no_marks known = done known
  of_marks (c.a_mark first rest) known = joined known (of_mark first known) (λ m k. after (of_marks rest k) (λ ms k le. done k))

  pub of_mark : (it : c.Mark) (known : Known) → Whole known (mark it known)
  of_mark (c.mark predicate id tag bound) known =
      node known (λ i. part (entered known) i (whole (entered known) (of_expression predicate as_value (entered known))) (λ x k i. part k i (of_bindings bound k)
      (λ bs k i. after (judges (unless (is_good_mark k predicate x id tag bs) bad_mark) k) (λ u k le. done _))))

  of_bindings : (them : c.Bindings) (known : Known) → Whole known (bindings them known)
  of_bindings c.no_bindings known = done known
  of_bindings (c.a_binding name value rest) known = joined known (whole known (of_expression value as_value known)) (λ x k. after (of_bindings rest k) (λ bs k le. done k))

  pub of_specifiers : (it : c.Specifiers) (setting : Setting) (known : Known) → Whole known (specifiers it setting known)
  of_specifiers (c.specifiers words types) setting known = after (of_types types (beside_words words setting) known) (λ namings k le. done k)

  of_types : (them : c.TypeSpecifiers) (setting : Setting) (known : Known) → Whole known (type_specifiers them setting known)
  of_types c.no_types setting known = done known
  of_types (c.a_type first rest) setting known = joined known (of_type first setting known) (λ it k. after (of_types rest setting k) (λ others k le. done k))

  of_type : (it : c.TypeSpecifier) (setting : Setting) (known : Known) → Whole known (type_specifier it setting known)
  of_type (c.Basic type) setting known = done known
  of_type (c.Word word) setting known = done known
  of_type (c.StructTag tag) setting known = of_struct_tag tag (if is_alone setting then tag_here tag known else tagged_in tag known.frames) known
  of_type (c.Struct tag list) setting known = joined known (of_open_struct tag known) (λ opened k. after (of_members list [] k) (λ found k le. of_close opened found k))
  of_type (c.EnumTag tag) setting known = done known
  of_type (c.Enum tag list) setting known = joined known (of_open_enum tag known) (λ faults k. after (of_enumerators list (pos 0) k) (λ u k le. of_close_enum tag faults k))
  of_type (c.Named name) setting known = done known

  of_members : (them : c.Members) (list : List Member) (known : Known) → Whole known (members them list known)
  of_members c.no_members list known = done known
  of_members (c.a_member (c.member s ds) rest) list known =
      joined known (node known (λ i. part (entered known) i (of_specifiers s elsewhere (entered known)) (λ it k i. part k i (of_member_declarators ds it list k)
      (λ found k i. after (judges (broken_if incomplete_type (is_no_declarator ds) ++ alone_faults (is_no_declarator ds) it ++ found.faults) k) (λ u k le. done k)))))
      (λ longer k. of_members rest longer k)

  of_member_declarators : (them : c.MemberDeclarators) (it : Specified) (list : List Member) (known : Known) → Whole known (member_declarators them it list known)
  of_member_declarators c.no_declarators it list known = done known
  of_member_declarators (c.a_declarator d width rest) it list known =
      joined known (of_declarator d it false (member_faults list (has_width width)) known) (λ declared k. joined k (of_maybe width k)
      (λ written k. after (of_member_declarators rest it (with_member list declared) k) (λ found k le. done k)))

  of_enumerators : (them : c.Enumerators) (counted : ℤ) (known : Known) → Whole known (enumerators them counted known)
  of_enumerators c.no_enumerators counted known = done known
  of_enumerators (c.an_enumerator name value rest) counted known =
      node known (λ i. part (entered known) i (of_maybe value (entered known))
      (λ x k i. rest_of k i (after (judges (enumerator_faults k name (value_given counted x)) k) (λ u k le. done _)) (λ next k. of_enumerators rest next k)))

  pub of_declarator : (it : c.Declarator) (s : Specified) (is_definition : Bool) (judge : Option (List ℕ) → Known → Built → List Rule) (known : Known)
      → Whole known (declarator it s is_definition judge known)
  of_declarator (c.declarator name ps) s is_definition judge known = of_declared (is_written name ps) name ps s is_definition judge known (λ k. of_parts ps s.type is_definition true k)

  of_parts : (them : c.Parts) (t : CType) (is_definition is_outermost : Bool) (known : Known) → Whole known (parts them t is_definition is_outermost known)
  of_parts c.no_parts t is_definition is_outermost known = done known
  of_parts (c.Pointer q rest) t is_definition is_outermost known = after (of_parts rest t false false known) (λ inner k le. done k)
  of_parts (c.Array length rest) t is_definition is_outermost known =
      joined known (of_maybe length known) (λ count k. after (of_parts rest t false false k) (λ inner k le. done k))
  of_parts (c.Function them rest) t is_definition is_outermost known =
      joined known (scoped known (of_parameters them is_definition (in_new_block known))) (λ found k. after (of_parts rest t false false k) (λ inner k le. done k))

  of_parameters : (them : c.Parameters) (is_definition : Bool) (known : Known) → Whole known (parameters them is_definition known)
  of_parameters c.Unstated is_definition known = done known
  of_parameters c.Void is_definition known = done known
  of_parameters (c.Listed list) is_definition known = of_parameter_list list is_definition known
  of_parameters (c.Open list) is_definition known = after (of_parameter_list list is_definition known) (λ them k le. done k)

  of_parameter_list : (them : c.ParameterList) (is_definition : Bool) (known : Known) → Whole known (parameter_list them is_definition known)
  of_parameter_list c.no_parameters is_definition known = done known
  of_parameter_list (c.a_parameter s d rest) is_definition known =
      joined known (of_specifiers s elsewhere known) (λ it k. joined k (of_declarator d it false (parameter_faults is_definition) k)
      (λ declared k. joined k (of_binding_parameter is_definition (is_register it) declared.node declared.name (adjusted declared.type) k)
      (λ objects k. after (of_parameter_list rest is_definition k) (λ others k le. done k))))
