-- Few nodes in expressions, types and declarators, by the rules of the grammar.
use Rattle.std.proofs.Common.{ℕ, Bool, List, [], ◌++◌, Option, None, refl}
use Rattle.lt_tree.specs.declared.terminal.Terminal.{Terminal}
use Rattle.lt_tree.specs.Tree as c
use Rattle.lt_tree.specs.Symbols.{Symbol}
use Rattle.lt_tree.specs.Scope.{Scope}
use Rattle.lt_tree.specs.Ahead.{Naming}
use Rattle.lt_tree.specs.Grammar as g
use Rattle.lt_tree.specs.Nodes.{in_expression, in_expressions, in_maybe, in_marks, in_mark, in_bindings, in_specifiers, in_types, in_type, in_members, in_member_declarators, in_enumerators, in_declarator, in_parameters, in_parameter_list}
use Rattle.lt_label_counts.proofs.Fits.{Fits, nothing, front, back, past, upto, both, both_spare, light, one, two, marked, in_operation, in_longer, in_specifiers_gathered, Adds, adds_nothing, adds_suffix, adds_name, adds_nested, adds_upto, adds_pointer, in_written}

of_text : {ts rest : List Symbol} {bytes : List ℕ} → g.IsText ts bytes rest → Fits 1 [] ts rest
of_text (g.one_literal l) = front nothing
of_text (g.more_literals l t) = past (of_text t)

of_qualifiers : {ts rest : List Symbol} {q : c.Qualifiers} → g.AreQualifiers ts q rest → Fits 0 [] ts rest
of_qualifiers (g.no_qualifiers a b) = nothing
of_qualifiers (g.constant q) = past (of_qualifiers q)
of_qualifiers (g.volatile q) = past (of_qualifiers q)

mutual
  pub of_expression : {scope : Scope} {level : g.Level} {ts : List Symbol} {e : c.Expression} {rest : List Symbol} {spots more : List ℕ}
      → g.IsExpression scope level ts e rest spots more → Fits 0 (in_expression e) ts rest
  of_expression (g.name h) = one refl refl (front nothing)
  of_expression g.constant = one refl refl (front nothing)
  of_expression (g.text t) = one refl refl (of_text t)
  of_expression (g.parentheses d) = past (upto (of_expression d))
  of_expression (g.decide d l) = light refl refl (past (past (upto (upto (upto (upto (upto (upto (upto (of_expression d))))))))))
  of_expression (g.after d l) = light refl refl (past (past (upto (upto (upto (upto (upto (of_expression d))))))))
  of_expression (g.of_primary d) = of_expression d
  of_expression (g.index a b) = one refl refl (both (back (of_expression a)) (upto (of_expression b)))
  of_expression (g.call a b) = one refl refl (both (back (of_expression a)) (upto (of_arguments b)))
  of_expression (g.member d) = one refl refl (back (upto (of_expression d)))
  of_expression (g.arrow d) = one refl refl (back (upto (of_expression d)))
  of_expression (g.increment_behind d) = one refl refl (back (of_expression d))
  of_expression (g.decrement_behind d) = one refl refl (back (of_expression d))
  of_expression (g.of_postfix d) = of_expression d
  of_expression (g.increment_before d) = one refl refl (front (of_expression d))
  of_expression (g.decrement_before d) = one refl refl (front (of_expression d))
  of_expression (g.prefixed p d) = one refl refl (front (of_expression d))
  of_expression (g.sizeof_expression d) = one refl refl (front (of_expression d))
  of_expression (g.sizeof_type t) = one refl refl (front (past (upto (of_type_name t))))
  of_expression (g.of_unary d) = of_expression d
  of_expression (g.cast_to t d) = one refl refl (front (both (upto (of_type_name t)) (of_expression d)))
  of_expression (g.of_cast d) = of_expression d
  of_expression (g.of_tighter d) = of_expression d
  of_expression (g.operates {op} {left} {right} a i b) = in_operation op left right (both (back (of_expression a)) (of_expression b))
  of_expression (g.of_binary d) = of_expression d
  of_expression (g.choice a b d) = two refl refl (both (both_spare (back (of_expression a)) (back (of_expression b))) (of_expression d))
  of_expression (g.of_conditional d) = of_expression d
  of_expression (g.assigns a i b) = one refl refl (both (back (of_expression a)) (of_expression b))
  of_expression (g.of_assignment d) = of_expression d
  of_expression (g.behind_marks m d) = light refl refl (both (of_marks m) (of_expression d))
  of_expression (g.of_marked d) = of_expression d
  of_expression (g.sequence a n ps) = one refl refl (both (back (of_expression a)) (of_parts ps))
  of_expression (g.longer_sequence {front} {parts} a ps) = in_longer front parts (upto (of_expression a)) (of_parts ps)

  pub of_parts : {scope : Scope} {ts : List Symbol} {es : c.Expressions} {rest : List Symbol} {spots more : List ℕ}
      → g.AreParts scope ts es rest spots more → Fits 0 (in_expressions es) ts rest
  of_parts (g.last_part d) = both (of_expression d) nothing
  of_parts (g.more_parts d ps) = both (upto (of_expression d)) (of_parts ps)

  pub of_arguments : {scope : Scope} {ts : List Symbol} {es : c.Expressions} {rest : List Symbol} {spots more : List ℕ}
      → g.AreArguments scope ts es rest spots more → Fits 0 (in_expressions es) ts rest
  of_arguments g.no_arguments = nothing
  of_arguments (g.last_argument d) = both (of_expression d) nothing
  of_arguments (g.more_arguments d es) = both (upto (of_expression d)) (of_arguments es)

  pub of_mark : {scope : Scope} {ts : List Symbol} {m : c.Mark} {rest : List Symbol} {spots more : List ℕ}
      → g.IsMark scope ts m rest spots more → Fits 0 (in_mark m) ts rest
  of_mark (g.label d l) = marked (past (past (both (upto (upto (upto (upto (upto (of_expression d)))))) nothing)))
  of_mark (g.binding_label d l bs) = marked (past (past (both (upto (upto (upto (upto (of_expression d))))) (upto (of_bindings bs)))))

  pub of_bindings : {scope : Scope} {ts : List Symbol} {bs : c.Bindings} {rest : List Symbol} {spots more : List ℕ}
      → g.AreBindings scope ts bs rest spots more → Fits 0 (in_bindings bs) ts rest
  of_bindings (g.last_binding d) = past (past (past (both (of_expression d) nothing)))
  of_bindings (g.more_bindings d bs) = past (past (past (both (of_expression d) (of_bindings bs))))

  pub of_marks : {scope : Scope} {ts : List Symbol} {ms : c.Marks} {rest : List Symbol} {spots more : List ℕ}
      → g.AreMarks scope ts ms rest spots more → Fits 0 (in_marks ms) ts rest
  of_marks (g.last_mark m) = both (upto (of_mark m)) nothing
  of_marks (g.more_marks m ms) = both (upto (of_mark m)) (of_marks ms)

  pub of_type_name : {scope : Scope} {ts : List Symbol} {ss : c.Specifiers} {d : c.Declarator} {rest : List Symbol} {spots more : List ℕ}
      → g.IsTypeName scope ts ss d rest spots more → Fits 0 (in_specifiers ss ++ in_declarator d) ts rest
  of_type_name (g.type_name s d) = both (of_specifiers s) (of_declarator d)

  pub of_specifiers : {scope : Scope} {ts : List Symbol} {ss : c.Specifiers} {rest : List Symbol} {spots more : List ℕ}
      → g.AreSpecifiers scope ts ss rest spots more → Fits 0 (in_specifiers ss) ts rest
  of_specifiers (g.some_specifiers {types} b f) = in_specifiers_gathered types (of_further f)

  pub of_further : {scope : Scope} {typed : Bool} {ts : List Symbol} {words : c.Words} {types : c.TypeSpecifiers} {rest : List Symbol} {spots more : List ℕ}
      → g.AreFurther scope typed ts words types rest spots more → Fits 0 (in_types types) ts rest
  of_further (g.no_further n) = nothing
  of_further (g.storage s f) = past (of_further f)
  of_further (g.inline_word f) = past (of_further f)
  of_further (g.noreturn_word f) = past (of_further f)
  of_further (g.const_word f) = past (of_further f)
  of_further (g.volatile_word f) = past (of_further f)
  of_further (g.type_word w f) = past (of_further f)
  of_further (g.typedef_name t f) = past (of_further f)
  of_further (g.struct_or_enum t f) = both (of_tagged t) (of_further f)

  pub of_tagged : {scope : Scope} {ts : List Symbol} {type : c.TypeSpecifier} {rest : List Symbol} {spots more : List ℕ}
      → g.IsTagged scope ts type rest spots more → Fits 0 (in_type type) ts rest
  of_tagged (g.struct_tag n) = past (past nothing)
  of_tagged (g.struct_with_tag ms) = past (past (past (of_members ms)))
  of_tagged (g.struct_without_tag ms) = past (past (of_members ms))
  of_tagged (g.enum_tag n) = past (past nothing)
  of_tagged (g.enum_with_tag es) = past (past (past (of_enumerators es)))
  of_tagged (g.enum_without_tag es) = past (past (of_enumerators es))

  pub of_members : {scope : Scope} {ts : List Symbol} {ms : c.Members} {rest : List Symbol} {spots more : List ℕ}
      → g.AreMembers scope ts ms rest spots more → Fits 0 (in_members ms) ts rest
  of_members g.no_more_members = past nothing
  of_members (g.one_more_member s ds ms) = light refl refl (both (both (of_specifiers s) (of_member_declarators ds)) (of_members ms))

  pub of_member_declarators : {scope : Scope} {naming : Naming} {ts : List Symbol} {ds : c.MemberDeclarators} {rest : List Symbol} {spots more : List ℕ}
      → g.AreMemberDeclarators scope naming ts ds rest spots more → Fits 0 (in_member_declarators ds) ts rest
  of_member_declarators g.no_member_declarators = past nothing
  of_member_declarators (g.last_member_declarator d w) = both (both (of_declarator d) (upto (of_after_sign w))) nothing
  of_member_declarators (g.more_member_declarators d w ds) = both (both (of_declarator d) (upto (of_after_sign w))) (of_member_declarators ds)

  pub of_after_sign : {scope : Scope} {k : Terminal} {ts : List Symbol} {e : c.Maybe} {rest : List Symbol} {spots more : List ℕ}
      → g.IsAfterSign scope k ts e rest spots more → Fits 0 (in_maybe e) ts rest
  of_after_sign (g.left_out n) = nothing
  of_after_sign (g.given d) = past (of_expression d)

  pub of_enumerators : {scope : Scope} {ts : List Symbol} {es : c.Enumerators} {rest : List Symbol} {spots more : List ℕ}
      → g.AreEnumerators scope ts es rest spots more → Fits 0 (in_enumerators es) ts rest
  of_enumerators (g.last_enumerator v) = light refl refl (past (both (upto (of_after_sign v)) nothing))
  of_enumerators (g.last_enumerator_and_comma v) = light refl refl (past (both (upto (upto (of_after_sign v))) nothing))
  of_enumerators (g.more_enumerators v es) = light refl refl (past (both (upto (of_after_sign v)) (of_enumerators es)))

  pub of_declarator : {scope : Scope} {naming : Naming} {ts : List Symbol} {d : c.Declarator} {rest : List Symbol} {spots more : List ℕ}
      → g.IsDeclarator scope naming ts d rest spots more → Fits 0 (in_declarator d) ts rest
  of_declarator (g.written {name} {parts} p m) = in_written name parts m (of_pointers p)
  of_declarator (g.missing n b) = nothing

  pub of_pointers : {scope : Scope} {naming : Naming} {ts : List Symbol} {outer : c.Parts} {name : Option (List ℕ)} {parts : c.Parts} {rest : List Symbol} {spots more : List ℕ}
      → g.ArePointers scope naming ts outer name parts rest spots more → Adds name outer parts ts rest
  of_pointers (g.pointer q p) = adds_pointer (of_qualifiers q) (of_pointers p)
  of_pointers (g.no_pointer n d) = of_direct d

  pub of_direct : {scope : Scope} {naming : Naming} {ts : List Symbol} {outer : c.Parts} {name : Option (List ℕ)} {parts : c.Parts} {rest : List Symbol} {spots more : List ℕ}
      → g.IsDirect scope naming ts outer name parts rest spots more → Adds name outer parts ts rest
  of_direct (g.by_name t s) = adds_name (of_suffixes s)
  of_direct (g.by_nothing t b s) = of_suffixes s
  of_direct (g.nested inner o p i s) = adds_nested (adds_upto (of_pointers p)) (of_suffixes s)

  pub of_suffixes : {scope : Scope} {ts : List Symbol} {outer parts : c.Parts} {rest : List Symbol} {spots more : List ℕ}
      → g.AreSuffixes scope ts outer parts rest spots more → Adds None outer parts ts rest
  of_suffixes (g.no_suffix n) = adds_nothing
  of_suffixes (g.unsized_array s) = adds_suffix [] refl (front (past nothing)) (of_suffixes s)
  of_suffixes (g.array {e} d s) = adds_suffix (in_expression e) refl (front (upto (of_expression d))) (of_suffixes s)
  of_suffixes (g.function {inside} ps s) = adds_suffix (in_parameters inside) refl (front (of_parameters ps)) (of_suffixes s)

  pub of_parameters : {scope : Scope} {ts : List Symbol} {ps : c.Parameters} {rest : List Symbol} {spots more : List ℕ}
      → g.AreParameters scope ts ps rest spots more → Fits 0 (in_parameters ps) ts rest
  of_parameters g.unstated = past nothing
  of_parameters g.void_alone = past (past nothing)
  of_parameters (g.listed v ps) = upto (of_parameter_list ps)
  of_parameters (g.open_list ps) = upto (upto (upto (of_parameter_list ps)))

  pub of_parameter_list : {scope : Scope} {ts : List Symbol} {ps : c.ParameterList} {rest : List Symbol} {spots more : List ℕ}
      → g.IsParameterList scope ts ps rest spots more → Fits 0 (in_parameter_list ps) ts rest
  of_parameter_list (g.last_parameter s d) = both (both (of_specifiers s) (of_declarator d)) nothing
  of_parameter_list (g.more_parameters s d ps) = both (both (of_specifiers s) (upto (of_declarator d))) (of_parameter_list ps)
