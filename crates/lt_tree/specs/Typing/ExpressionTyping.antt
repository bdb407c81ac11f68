-- The typing of expressions, C11 6.5, and of all that stands inside them: specifiers, declarators, structs and enums, C11 6.7. Each clause goes over
-- a node's parts in the order of the text and then judges the node itself.
use Rattle.std.specs.Prelude.{ℕ, ℤ, pos, Bool, true, false, List, [], ◌∷◌, ◌++◌, Option, Some, None}
use Rattle.lt_model.specs.declared.operator.Op.TheVariants as O
use Rattle.lt_tree.specs.Tree as c
use Rattle.lt_tree.specs.Typing.Types.{CType, adjusted}
use Rattle.lt_tree.specs.Typing.Extents.{Member}
use Rattle.lt_tree.specs.Typing.Constants.{constant_of}
use Rattle.lt_tree.specs.Typing.Rules.{Rule, broken_if, incomplete_type}
use Rattle.lt_tree.specs.Typing.TypedTree as e
use Rattle.lt_tree.specs.Typing.TypedTree.{before, after}
use Rattle.lt_tree.specs.Typing.Entities.{Known, meaning_of, tagged_in}
use Rattle.lt_tree.specs.Typing.Steps.{Walk, ◌>>=◌, ◌>>◌, gives, here, enter, settle, in_block, without_marks, add_object, adds_label}
use Rattle.lt_tree.specs.Typing.Expressions.{Typed, Use, as_value, as_truth, as_place, as_callee, own_type, finish}
use Rattle.lt_tree.specs.Typing.Operations.{judge_name, judge_constant, judge_step, judge_size, judge_member, judge_arrow, judge_index, judge_call, judge_cast}
use Rattle.lt_tree.specs.Typing.BinaryOperations.{judge_binary, judge_logical, judge_conditional, judge_assignment, judge_comma}
use Rattle.lt_tree.specs.Typing.MarkRules.{TypedBinding, label_of, judge_decide, inside_mark, inside_after, judge_after, judge_marked}
use Rattle.lt_tree.specs.Typing.Specifying.{Naming, names, no_naming, basic_type, typedef_named, Specified, specified, is_register, Setting, elsewhere, beside_words, struct_by_tag, enum_tagged, open_struct, close_struct, open_enum, close_enum, value_given}
use Rattle.lt_tree.specs.Typing.Declarators.{Parameters, Built, built, length_or_none, array_of, function_of, pointer_to, Declares, all_faults, is_written, setting_in_sizeof, type_name_faults, parameter_faults, binds_parameter, parameter_before, member_faults, with_member, Membered, has_width}
use Rattle.lt_tree.specs.Typing.NodeEnds.{text_object, text_at, judge_unary, operand_of, also, decision_labels, end_of_mark, end_of_enumerator, end_of_declarator, enter_if, is_no_declarator, alone_faults, without_parameters, with_dots}

abbrev mutual
  pub expression : c.Expression → Use → Walk Typed
  expression (c.Name name) role = do
    node ← enter
    known ← here
    finish node role (judge_name role name (meaning_of name known) known)
  expression (c.Constant text) role = do
    node ← enter
    known ← here
    finish node role (judge_constant (constant_of known.model text))
  expression (c.Text bytes) role = do
    node ← enter
    known ← here
    object ← add_object (text_object node known bytes)
    finish node role (text_at known bytes object)
  expression (c.Index whole index) role = do
    node ← enter
    x ← expression whole as_value
    y ← expression index as_value
    known ← here
    finish node role (judge_index x y known)
  expression (c.Call callee arguments) role = do
    node ← enter
    f ← expression callee as_callee
    xs ← expressions arguments
    known ← here
    finish node role (judge_call f xs known)
  expression (c.Member whole name) role = do
    node ← enter
    x ← expression whole as_place
    known ← here
    finish node role (judge_member x name known)
  expression (c.Arrow pointer name) role = do
    node ← enter
    x ← expression pointer as_value
    known ← here
    finish node role (judge_arrow x name known)
  expression (c.PostInc target) role = do
    node ← enter
    x ← expression target as_place
    known ← here
    finish node role (judge_step before O.Add x known)
  expression (c.PostDec target) role = do
    node ← enter
    x ← expression target as_place
    known ← here
    finish node role (judge_step before O.Sub x known)
  expression (c.PreInc target) role = do
    node ← enter
    x ← expression target as_place
    known ← here
    finish node role (judge_step after O.Add x known)
  expression (c.PreDec target) role = do
    node ← enter
    x ← expression target as_place
    known ← here
    finish node role (judge_step after O.Sub x known)
  expression (c.Unary op operand) role = do
    node ← enter
    x ← expression operand (operand_of op)
    known ← here
    finish node role (judge_unary op x known)
  expression (c.SizeofExpr operand) role = do
    node ← enter
    x ← without_marks (expression operand as_place)
    known ← here
    finish node role (judge_size (own_type x) known)
  expression (c.SizeofType s d) role = do
    node ← enter
    it ← specifiers s (setting_in_sizeof d)
    t ← declarator d it false (λ name known b. type_name_faults b)
    known ← here
    finish node role (also t.faults (judge_size t.type known))
  expression (c.Cast s d operand) role = do
    node ← enter
    it ← specifiers s elsewhere
    t ← declarator d it false (λ name known b. type_name_faults b)
    x ← expression operand as_value
    known ← here
    finish node role (also t.faults (judge_cast t.type x known))
  expression (c.Binary op left right) role = do
    node ← enter
    x ← expression left as_value
    y ← expression right as_value
    known ← here
    finish node role (judge_binary op x y known)
  expression (c.Logical op left right) role = do
    node ← enter
    x ← expression left as_truth
    y ← expression right as_truth
    finish node role (judge_logical op x y)
  expression (c.Conditional test left right) role = do
    node ← enter
    p ← expression test as_truth
    x ← expression left as_value
    y ← expression right as_value
    known ← here
    finish node role (judge_conditional p x y known)
  expression (c.Assign op target value) role = do
    node ← enter
    x ← expression target as_place
    y ← expression value as_value
    known ← here
    finish node role (judge_assignment op x y known)
  expression (c.Comma list) role = do
    node ← enter
    xs ← expressions list
    finish node role (judge_comma xs)
  expression (c.Marked ms value) role = do
    node ← enter
    typed_marks ← marks ms
    x ← expression value (inside_mark role)
    finish node role (judge_marked typed_marks x)
  expression (c.Decide operand when_true when_false tag) role = do
    node ← enter
    x ← expression operand (inside_mark role)
    known ← here
    result ← finish node role (judge_decide role x when_true when_false tag known)
    decision_labels when_true when_false tag
    gives result
  expression (c.After operand id tag) role = do
    node ← enter
    x ← expression operand (inside_after role)
    known ← here
    result ← finish node role (judge_after role x id tag known)
    adds_label (label_of id tag [])
    gives result

  -- the parts of a comma expression, and arguments
  pub expressions : c.Expressions → Walk (List Typed)
  expressions c.no_expressions = gives []
  expressions (c.an_expression first rest) = do
    x ← expression first as_value
    xs ← expressions rest
    gives (x ∷ xs)

  -- a constant expression that may be left out
  pub maybe : c.Maybe → Walk (Option Typed)
  maybe c.absent = gives None
  maybe (c.present e) = without_marks (expression e as_value) >>= (λ x. gives (Some x))

  pub marks : c.Marks → Walk e.Marks
  marks c.no_marks = gives e.no_marks
  marks (c.a_mark first rest) = do
    m ← mark first
    ms ← marks rest
    gives (e.a_mark m ms)

  pub mark : c.Mark → Walk e.Mark
  mark (c.mark predicate id tag bound) = do
    node ← enter
    x ← expression predicate as_value
    bs ← bindings bound
    end_of_mark node predicate x id tag bs

  pub bindings : c.Bindings → Walk (List TypedBinding)
  bindings c.no_bindings = gives []
  bindings (c.a_binding name value rest) = do
    x ← expression value as_value
    bs ← bindings rest
    gives (record { name = name; written = value; typed = x } ∷ bs)

  -- C11 6.7.2
  pub specifiers : c.Specifiers → Setting → Walk Specified
  specifiers (c.specifiers words types) setting = type_specifiers types (beside_words words setting) >>= (λ namings. gives (specified words namings))

  pub type_specifiers : c.TypeSpecifiers → Setting → Walk (List Naming)
  type_specifiers c.no_types setting = gives []
  type_specifiers (c.a_type first rest) setting = do
    it ← type_specifier first setting
    others ← type_specifiers rest setting
    gives (it ∷ others)

  pub type_specifier : c.TypeSpecifier → Setting → Walk Naming
  type_specifier (c.Basic type) setting = gives (names (basic_type type))
  type_specifier (c.Word word) setting = gives no_naming
  type_specifier (c.StructTag tag) setting = struct_by_tag setting tag
  type_specifier (c.Struct tag ms) setting = do
    opened ← open_struct tag
    list ← members ms []
    close_struct opened list
  type_specifier (c.EnumTag tag) setting = here >>= (λ known. gives (enum_tagged setting (tagged_in tag known.frames)))
  type_specifier (c.Enum tag es) setting = do
    faults ← open_enum tag
    enumerators es (pos 0)
    close_enum tag faults
  type_specifier (c.Named name) setting = here >>= (λ known. gives (typedef_named (meaning_of name known)))

  -- C11 6.7.2.1; with the members before
  pub members : c.Members → List Member → Walk (List Member)
  members c.no_members list = gives list
  members (c.a_member first rest) list = struct_member first list >>= (λ longer. members rest longer)

  pub struct_member : c.StructMember → List Member → Walk (List Member)
  struct_member (c.member s ds) list = do
    node ← enter
    it ← specifiers s elsewhere
    found ← member_declarators ds it list
    settle node (broken_if incomplete_type (is_no_declarator ds) ++ alone_faults (is_no_declarator ds) it ++ found.faults)
    gives found.members

  pub member_declarators : c.MemberDeclarators → Specified → List Member → Walk Membered
  member_declarators c.no_declarators it list = gives (record { members = list; faults = [] })
  member_declarators (c.a_declarator d width rest) it list = do
    declared ← declarator d it false (member_faults list (has_width width))
    written ← maybe width
    found ← member_declarators rest it (with_member list declared)
    gives (record found { faults = declared.faults ++ found.faults })

  -- C11 6.7.2.2; with the value that the next one counts on
  pub enumerators : c.Enumerators → ℤ → Walk (Unit {0})
  enumerators c.no_enumerators counted = gives tt
  enumerators (c.an_enumerator name value rest) counted = do
    node ← enter
    x ← maybe value
    next ← end_of_enumerator node name (value_given counted x)
    enumerators rest next

  -- C11 6.7.6; whether it is that of a function with a body, and what is to be judged of what it declares
  pub declarator : c.Declarator → Specified → (is_definition : Bool) → (Option (List ℕ) → Known → Built → List Rule) → Walk Declares
  declarator (c.declarator name ps) it is_definition judge = do
    node ← enter_if (is_written name ps)
    b ← parts ps it.type is_definition true
    known ← here
    end_of_declarator node name b (all_faults it b (judge name known b))

  -- from the name outwards; whether these are all parts
  pub parts : c.Parts → CType → (is_definition is_outermost : Bool) → Walk Built
  parts c.no_parts t is_definition is_outermost = gives (built t [])
  parts (c.Pointer qualifiers rest) t is_definition is_outermost = parts rest t false false >>= (λ inner. gives (pointer_to qualifiers inner))
  parts (c.Array length rest) t is_definition is_outermost = do
    n ← maybe length
    inner ← parts rest t false false
    known ← here
    gives (array_of known (length_or_none is_outermost n) inner)
  parts (c.Function ps rest) t is_definition is_outermost = do
    them ← in_block (parameters ps is_definition)
    inner ← parts rest t false false
    gives (function_of them inner)

  -- C11 6.7.6.3, in a scope of their own
  pub parameters : c.Parameters → (is_definition : Bool) → Walk Parameters
  parameters c.Unstated is_definition = without_parameters
  parameters c.Void is_definition = without_parameters
  parameters (c.Listed list) is_definition = parameter_list list is_definition
  parameters (c.Open list) is_definition = parameter_list list is_definition >>= (λ them. gives (with_dots them))

  pub parameter_list : c.ParameterList → (is_definition : Bool) → Walk Parameters
  parameter_list c.no_parameters is_definition = without_parameters
  parameter_list (c.a_parameter s d rest) is_definition = do
    it ← specifiers s elsewhere
    declared ← declarator d it false (parameter_faults is_definition)
    objects ← binds_parameter is_definition (is_register it) declared.node declared.name (adjusted declared.type)
    others ← parameter_list rest is_definition
    gives (parameter_before declared objects others)
