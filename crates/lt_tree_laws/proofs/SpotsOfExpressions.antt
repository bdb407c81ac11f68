-- The spots of expressions, types and declarators, one for each node, by the rules of the grammar.
use Rattle.std.proofs.Common.{ℕ, Bool, List, [], ◌++◌, Option, refl}
use Rattle.lt_tree.specs.declared.terminal.Terminal.{Terminal}
use Rattle.lt_tree.specs.Tree as c
use Rattle.lt_tree.specs.Symbols.{Symbol}
use Rattle.lt_tree.specs.Scope.{Scope}
use Rattle.lt_tree.specs.Ahead.{Naming}
use Rattle.lt_tree.specs.Grammar as g
use Rattle.lt_tree.specs.Nodes.{in_expression, in_expressions, in_maybe, in_marks, in_mark, in_bindings, in_specifiers, in_types, in_type, in_members, in_member_declarators, in_enumerators, in_declarator, in_parameters, in_parameter_list}
use Rattle.lt_tree_laws.proofs.Spots.{Spans, nothing, node, joined, in_operation, in_longer, in_specifiers_gathered, Adds, adds_nothing, adds_suffix, adds_nested, adds_pointer, in_written}

mutual
  pub of_expression : {scope : Scope} {level : g.Level} {ts : List Symbol} {e : c.Expression} {rest : List Symbol} {spots more : List ℕ}
      → g.IsExpression scope level ts e rest spots more → Spans (in_expression e) spots more
  of_expression (g.name h) = node nothing
  of_expression g.constant = node nothing
  of_expression (g.text t) = node nothing
  of_expression (g.parentheses d) = of_expression d
  of_expression (g.decide d l) = node (of_expression d)
  of_expression (g.after d l) = node (of_expression d)
  of_expression (g.of_primary d) = of_expression d
  of_expression (g.index a b) = node (joined (of_expression a) (of_expression b))
  of_expression (g.call a b) = node (joined (of_expression a) (of_arguments b))
  of_expression (g.member d) = node (of_expression d)
  of_expression (g.arrow d) = node (of_expression d)
  of_expression (g.increment_behind d) = node (of_expression d)
  of_expression (g.decrement_behind d) = node (of_expression d)
  of_expression (g.of_postfix d) = of_expression d
  of_expression (g.increment_before d) = node (of_expression d)
  of_expression (g.decrement_before d) = node (of_expression d)
  of_expression (g.prefixed p d) = node (of_expression d)
  of_expression (g.sizeof_expression d) = node (of_expression d)
  of_expression (g.sizeof_type t) = node (of_type_name t)
  of_expression (g.of_unary d) = of_expression d
  of_expression (g.cast_to t d) = node (joined (of_type_name t) (of_expression d))
  of_expression (g.of_cast d) = of_expression d
  of_expression (g.of_tighter d) = of_expression d
  of_expression (g.operates {op} {left} {right} a i b) = in_operation op left right (joined (of_expression a) (of_expression b))
  of_expression (g.of_binary d) = of_expression d
  of_expression (g.choice a b d) = node (joined (joined (of_expression a) (of_expression b)) (of_expression d))
  of_expression (g.of_conditional d) = of_expression d
  of_expression (g.assigns a i b) = node (joined (of_expression a) (of_expression b))
  of_expression (g.of_assignment d) = of_expression d
  of_expression (g.behind_marks m d) = node (joined (of_marks m) (of_expression d))
  of_expression (g.of_marked d) = of_expression d
  of_expression (g.sequence a n ps) = node (joined (of_expression a) (of_parts ps))
  of_expression (g.longer_sequence {front} {parts} a ps) = in_longer front parts (of_expression a) (of_parts ps)

  pub of_parts : {scope : Scope} {ts : List Symbol} {es : c.Expressions} {rest : List Symbol} {spots more : List ℕ}
      → g.AreParts scope ts es rest spots more → Spans (in_expressions es) spots more
  of_parts (g.last_part d) = joined (of_expression d) nothing
  of_parts (g.more_parts d ps) = joined (of_expression d) (of_parts ps)

  pub of_arguments : {scope : Scope} {ts : List Symbol} {es : c.Expressions} {rest : List Symbol} {spots more : List ℕ}
      → g.AreArguments scope ts es rest spots more → Spans (in_expressions es) spots more
  of_arguments g.no_arguments = nothing
  of_arguments (g.last_argument d) = joined (of_expression d) nothing
  of_arguments (g.more_arguments d es) = joined (of_expression d) (of_arguments es)

  pub of_mark : {scope : Scope} {ts : List Symbol} {m : c.Mark} {rest : List Symbol} {spots more : List ℕ}
      → g.IsMark scope ts m rest spots more → Spans (in_mark m) spots more
  of_mark (g.label d l) = node (joined (of_expression d) nothing)
  of_mark (g.binding_label d l bs) = node (joined (of_expression d) (of_bindings bs))

  pub of_bindings : {scope : Scope} {ts : List Symbol} {bs : c.Bindings} {rest : List Symbol} {spots more : List ℕ}
      → g.AreBindings scope ts bs rest spots more → Spans (in_bindings bs) spots more
  of_bindings (g.last_binding d) = joined (of_expression d) nothing
  of_bindings (g.more_bindings d bs) = joined (of_expression d) (of_bindings bs)

  pub of_marks : {scope : Scope} {ts : List Symbol} {ms : c.Marks} {rest : List Symbol} {spots more : List ℕ}
      → g.AreMarks scope ts ms rest spots more → Spans (in_marks ms) spots more
  of_marks (g.last_mark m) = joined (of_mark m) nothing
  of_marks (g.more_marks m ms) = joined (of_mark m) (of_marks ms)

  pub of_type_name : {scope : Scope} {ts : List Symbol} {ss : c.Specifiers} {d : c.Declarator} {rest : List Symbol} {spots more : List ℕ}
      → g.IsTypeName scope ts ss d rest spots more → Spans (in_specifiers ss ++ in_declarator d) spots more
  of_type_name (g.type_name s d) = joined (of_specifiers s) (of_declarator d)

  pub of_specifiers : {scope : Scope} {ts : List Symbol} {ss : c.Specifiers} {rest : List Symbol} {spots more : List ℕ}
      → g.AreSpecifiers scope ts ss rest spots more → Spans (in_specifiers ss) spots more
  of_specifiers (g.some_specifiers {types} b f) = in_specifiers_gathered types (of_further f)

  pub of_further : {scope : Scope} {typed : Bool} {ts : List Symbol} {words : c.Words} {types : c.TypeSpecifiers} {rest : List Symbol} {spots more : List ℕ}
      → g.AreFurther scope typed ts words types rest spots more → Spans (in_types types) spots more
  of_further (g.no_further n) = nothing
  of_further (g.storage s f) = of_further f
  of_further (g.inline_word f) = of_further f
  of_further (g.noreturn_word f) = of_further f
  of_further (g.const_word f) = of_further f
  of_further (g.volatile_word f) = of_further f
  of_further (g.type_word w f) = of_further f
  of_further (g.typedef_name t f) = of_further f
  of_further (g.struct_or_enum t f) = joined (of_tagged t) (of_further f)

  pub of_tagged : {scope : Scope} {ts : List Symbol} {type : c.TypeSpecifier} {rest : List Symbol} {spots more : List ℕ}
      → g.IsTagged scope ts type rest spots more → Spans (in_type type) spots more
  of_tagged (g.struct_tag n) = nothing
  of_tagged (g.struct_with_tag ms) = of_members ms
  of_tagged (g.struct_without_tag ms) = of_members ms
  of_tagged (g.enum_tag n) = nothing
  of_tagged (g.enum_with_tag es) = of_enumerators es
  of_tagged (g.enum_without_tag es) = of_enumerators es

  pub of_members : {scope : Scope} {ts : List Symbol} {ms : c.Members} {rest : List Symbol} {spots more : List ℕ}
      → g.AreMembers scope ts ms rest spots more → Spans (in_members ms) spots more
  of_members g.no_more_members = nothing
  of_members (g.one_more_member s ds ms) = node (joined (joined (of_specifiers s) (of_member_declarators ds)) (of_members ms))

  pub of_member_declarators : {scope : Scope} {naming : Naming} {ts : List Symbol} {ds : c.MemberDeclarators} {rest : List Symbol} {spots more : List ℕ}
      → g.AreMemberDeclarators scope naming ts ds rest spots more → Spans (in_member_declarators ds) spots more
  of_member_declarators g.no_member_declarators = nothing
  of_member_declarators (g.last_member_declarator d w) = joined (joined (of_declarator d) (of_after_sign w)) nothing
  of_member_declarators (g.more_member_declarators d w ds) = joined (joined (of_declarator d) (of_after_sign w)) (of_member_declarators ds)

  pub of_after_sign : {scope : Scope} {k : Terminal} {ts : List Symbol} {e : c.Maybe} {rest : List Symbol} {spots more : List ℕ}
      → g.IsAfterSign scope k ts e rest spots more → Spans (in_maybe e) spots more
  of_after_sign (g.left_out n) = nothing
  of_after_sign (g.given d) = of_expression d

  pub of_enumerators : {scope : Scope} {ts : List Symbol} {es : c.Enumerators} {rest : List Symbol} {spots more : List ℕ}
      → g.AreEnumerators scope ts es rest spots more → Spans (in_enumerators es) spots more
  of_enumerators (g.last_enumerator v) = node (joined (of_after_sign v) nothing)
  of_enumerators (g.last_enumerator_and_comma v) = node (joined (of_after_sign v) nothing)
  of_enumerators (g.more_enumerators v es) = node (joined (of_after_sign v) (of_enumerators es))

  pub of_declarator : {scope : Scope} {naming : Naming} {ts : List Symbol} {d : c.Declarator} {rest : List Symbol} {spots more : List ℕ}
      → g.IsDeclarator scope naming ts d rest spots more → Spans (in_declarator d) spots more
  of_declarator (g.written {name} {parts} p m) = in_written name parts m (of_pointers p)
  of_declarator (g.missing n b) = nothing

  pub of_pointers : {scope : Scope} {naming : Naming} {ts : List Symbol} {outer : c.Parts} {name : Option (List ℕ)} {parts : c.Parts} {rest : List Symbol} {spots more : List ℕ}
      → g.ArePointers scope naming ts outer name parts rest spots more → Adds outer parts spots more
  of_pointers (g.pointer q p) = adds_pointer (of_pointers p)
  of_pointers (g.no_pointer n d) = of_direct d

  pub of_direct : {scope : Scope} {naming : Naming} {ts : List Symbol} {outer : c.Parts} {name : Option (List ℕ)} {parts : c.Parts} {rest : List Symbol} {spots more : List ℕ}
      → g.IsDirect scope naming ts outer name parts rest spots more → Adds outer parts spots more
  of_direct (g.by_name t s) = of_suffixes s
  of_direct (g.by_nothing t b s) = of_suffixes s
  of_direct (g.nested inner o p i s) = adds_nested (of_pointers p) (of_suffixes s)

  pub of_suffixes : {scope : Scope} {ts : List Symbol} {outer parts : c.Parts} {rest : List Symbol} {spots more : List ℕ}
      → g.AreSuffixes scope ts outer parts rest spots more → Adds outer parts spots more
  of_suffixes (g.no_suffix n) = adds_nothing
  of_suffixes (g.unsized_array s) = adds_suffix [] refl nothing (of_suffixes s)
  of_suffixes (g.array {e} d s) = adds_suffix (in_expression e) refl (of_expression d) (of_suffixes s)
  of_suffixes (g.function {inside} ps s) = adds_suffix (in_parameters inside) refl (of_parameters ps) (of_suffixes s)

  pub of_parameters : {scope : Scope} {ts : List Symbol} {ps : c.Parameters} {rest : List Symbol} {spots more : List ℕ}
      → g.AreParameters scope ts ps rest spots more → Spans (in_parameters ps) spots more
  of_parameters g.unstated = nothing
  of_parameters g.void_alone = nothing
  of_parameters (g.listed v ps) = of_parameter_list ps
  of_parameters (g.open_list ps) = of_parameter_list ps

  pub of_parameter_list : {scope : Scope} {ts : List Symbol} {ps : c.ParameterList} {rest : List Symbol} {spots more : List ℕ}
      → g.IsParameterList scope ts ps rest spots more → Spans (in_parameter_list ps) spots more
  of_parameter_list (g.last_parameter s d) = joined (joined (of_specifiers s) (of_declarator d)) nothing
  of_parameter_list (g.more_parameters s d ps) = joined (joined (of_specifiers s) (of_declarator d)) (of_parameter_list ps)
