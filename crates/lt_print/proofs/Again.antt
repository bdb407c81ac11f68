-- Of each tree of the knot that symbols derive: the words of its canonical text derive it again, rule by rule of the grammar.
use Rattle.std.proofs.Common.{◌≡◌, ℕ, Bool, true, false, List, Option, Some, None, refl, ap}
use Rattle.lt_tree.specs.declared.terminal.Terminal.{Terminal}
use Rattle.lt_tree.specs.Tree as c
use Rattle.lt_tree.specs.Symbols.{Symbol}
use Rattle.lt_tree.specs.Scope.{Scope}
use Rattle.lt_tree.specs.Ahead.{Naming, is_void_alone}
use Rattle.lt_tree.specs.Grammar as g
use Rattle.lt_tree.specs.Grammar.{Level}
use Rattle.lt_print.proofs.Claims.{AllStand, Again, AreFilled, MaybeStands, BoundStand, AreBound, MarkAgain, MarksAgain, TypeNameAgain, SpecifiersAgain, TypeFits, TypesFit, MemberDeclaratorsFit, MembersFit, EnumeratorsFit, AreEnumerated, ParametersAgain, PartsFit, NameFits, has_pointer, starred, DeclaratorFits, ParametersFit, AreListed}
use Rattle.lt_print.proofs.OuterParts.{OuterFits, pointer_fits, nested_fits, behind_fits, array_fits, starred_once, still_takes, still_none}
use Rattle.lt_print.proofs.ExpressionsAgain as e
use Rattle.lt_print.proofs.MarksAgain as m
use Rattle.lt_print.proofs.TypesAgain.{specifiers_again, are_some}
use Rattle.lt_print.proofs.StructsAgain as structs
use Rattle.lt_print.proofs.DeclaratorFronts.{pointers_keep, type_name_again, either_clear, specifiers_end}
use Rattle.lt_print.proofs.ParametersAgain as p
use Rattle.lt_print.proofs.Void.{void_only}
use Rattle.lt_print.proofs.VoidAlone.{void_is_alone}

not_void : (ts : List Symbol) {ps : c.ParameterList} → is_void_alone ts ≡ false → (ps ≡ void_only → is_void_alone ts ≡ true) → ps ≡ void_only → ⊥
not_void ts a b x = let y = b x in cc

mutual
  pub of_expression : {scope : Scope} {level : Level} {ts : List Symbol} {e : c.Expression} {rest : List Symbol} {spots more : List ℕ} → g.IsExpression scope level ts e rest spots more → Again scope e
  of_expression (g.name h) = e.name_again h
  of_expression g.constant = e.constant_again
  of_expression (g.text t) = e.text_again
  of_expression (g.parentheses d) = of_expression d
  of_expression (g.decide d l) = e.decide_again (of_expression d)
  of_expression (g.after d l) = e.after_again (of_expression d)
  of_expression (g.of_primary d) = of_expression d
  of_expression (g.index a b) = e.index_again (of_expression a) (of_expression b)
  of_expression (g.call a b) = e.call_again (of_expression a) (of_arguments b)
  of_expression (g.member d) = e.member_again (of_expression d)
  of_expression (g.arrow d) = e.arrow_again (of_expression d)
  of_expression (g.increment_behind d) = e.increment_behind_again (of_expression d)
  of_expression (g.decrement_behind d) = e.decrement_behind_again (of_expression d)
  of_expression (g.of_postfix d) = of_expression d
  of_expression (g.increment_before d) = e.increment_again (of_expression d)
  of_expression (g.decrement_before d) = e.decrement_again (of_expression d)
  of_expression (g.prefixed h d) = e.prefixed_again (of_expression d)
  of_expression (g.sizeof_expression d) = e.sizeof_again (of_expression d)
  of_expression (g.sizeof_type t) = e.sizeof_type_again (of_type_name t)
  of_expression (g.of_unary d) = of_expression d
  of_expression (g.cast_to t d) = e.cast_again (of_type_name t) (of_expression d)
  of_expression (g.of_cast d) = of_expression d
  of_expression (g.of_tighter d) = of_expression d
  of_expression (g.operates {op} a i b) = e.operation_again op (of_expression a) (of_expression b)
  of_expression (g.of_binary d) = of_expression d
  of_expression (g.choice a b d) = e.choice_again (of_expression a) (of_expression b) (of_expression d)
  of_expression (g.of_conditional d) = of_expression d
  of_expression (g.assigns {k} a i b) = e.assigns_again k i (of_expression a) (of_expression b)
  of_expression (g.of_assignment d) = of_expression d
  of_expression (g.behind_marks ms d) = e.marked_again (of_marks ms) (of_expression d)
  of_expression (g.of_marked d) = of_expression d
  of_expression (g.sequence a n ps) = let others = of_parts ps in e.sequence_again (of_expression a) n others.0 others.1
  of_expression (g.longer_sequence {parts} a ps) = e.longer_again parts (of_expression a) (of_parts ps).1

  of_parts : {scope : Scope} {ts : List Symbol} {es : c.Expressions} {rest : List Symbol} {spots more : List ℕ} → g.AreParts scope ts es rest spots more → AreFilled es × AllStand scope es
  of_parts (g.last_part d) = (tt, ((of_expression d).stands, tt))
  of_parts (g.more_parts d ps) = (tt, ((of_expression d).stands, (of_parts ps).1))

  of_arguments : {scope : Scope} {ts : List Symbol} {es : c.Expressions} {rest : List Symbol} {spots more : List ℕ} → g.AreArguments scope ts es rest spots more → AllStand scope es
  of_arguments g.no_arguments = tt
  of_arguments (g.last_argument d) = ((of_expression d).stands, tt)
  of_arguments (g.more_arguments d es) = ((of_expression d).stands, of_arguments es)

  pub of_mark : {scope : Scope} {ts : List Symbol} {m : c.Mark} {rest : List Symbol} {spots more : List ℕ} → g.IsMark scope ts m rest spots more → MarkAgain scope m
  of_mark (g.label d l) = m.label_again (of_expression d)
  of_mark (g.binding_label d l bs) = let others = of_bindings bs in m.binding_label_again (of_expression d) others.0 others.1

  of_bindings : {scope : Scope} {ts : List Symbol} {bs : c.Bindings} {rest : List Symbol} {spots more : List ℕ} → g.AreBindings scope ts bs rest spots more → AreBound bs × BoundStand scope bs
  of_bindings (g.last_binding d) = (tt, ((of_expression d).stands, tt))
  of_bindings (g.more_bindings d bs) = (tt, ((of_expression d).stands, (of_bindings bs).1))

  of_marks : {scope : Scope} {ts : List Symbol} {ms : c.Marks} {rest : List Symbol} {spots more : List ℕ} → g.AreMarks scope ts ms rest spots more → MarksAgain scope ms
  of_marks (g.last_mark x) = m.last_mark_again (of_mark x)
  of_marks (g.more_marks x ms) = m.more_marks_again (of_mark x) (of_marks ms)

  of_type_name : {scope : Scope} {ts : List Symbol} {ss : c.Specifiers} {d : c.Declarator} {rest : List Symbol} {spots more : List ℕ} → g.IsTypeName scope ts ss d rest spots more → TypeNameAgain scope ss d
  of_type_name (g.type_name s d) = type_name_again (of_specifiers s) (of_declarator d)

  pub of_specifiers : {scope : Scope} {ts : List Symbol} {ss : c.Specifiers} {rest : List Symbol} {spots more : List ℕ} → g.AreSpecifiers scope ts ss rest spots more → SpecifiersAgain scope ss
  of_specifiers {scope} (g.some_specifiers {words} {types} b f) = specifiers_again scope words types (of_further f) (are_some f b)

  of_further : {scope : Scope} {typed : Bool} {ts : List Symbol} {words : c.Words} {types : c.TypeSpecifiers} {rest : List Symbol} {spots more : List ℕ}
      → g.AreFurther scope typed ts words types rest spots more → TypesFit scope typed types
  of_further (g.no_further n) = tt
  of_further (g.storage s f) = of_further f
  of_further (g.inline_word f) = of_further f
  of_further (g.noreturn_word f) = of_further f
  of_further (g.const_word f) = of_further f
  of_further (g.volatile_word f) = of_further f
  of_further (g.type_word w f) = (tt, of_further f)
  of_further (g.typedef_name t f) = ((refl, t), of_further f)
  of_further {typed} (g.struct_or_enum t f) = (of_tagged typed t, of_further f)

  of_tagged : {scope : Scope} (typed : Bool) {ts : List Symbol} {type : c.TypeSpecifier} {rest : List Symbol} {spots more : List ℕ} → g.IsTagged scope ts type rest spots more → TypeFits scope typed type
  of_tagged {scope} typed (g.struct_tag {w} n) = structs.struct_tag_again scope w
  of_tagged {scope} typed (g.struct_with_tag {w} {members = ms} x) = structs.struct_again scope (Some w) ms (of_members x)
  of_tagged {scope} typed (g.struct_without_tag {members = ms} x) = structs.struct_again scope None ms (of_members x)
  of_tagged {scope} typed (g.enum_tag {w} n) = structs.enum_tag_again scope w
  of_tagged {scope} typed (g.enum_with_tag {w} {enumerators = es} x) = let all = of_enumerators x in structs.enum_again scope (Some w) es all.1 all.0
  of_tagged {scope} typed (g.enum_without_tag {enumerators = es} x) = let all = of_enumerators x in structs.enum_again scope None es all.1 all.0

  of_members : {scope : Scope} {ts : List Symbol} {ms : c.Members} {rest : List Symbol} {spots more : List ℕ} → g.AreMembers scope ts ms rest spots more → MembersFit scope ms
  of_members g.no_more_members = tt
  of_members (g.one_more_member s ds ms) = (of_specifiers s, of_member_declarators ds, of_members ms)

  of_member_declarators : {scope : Scope} {naming : Naming} {ts : List Symbol} {ds : c.MemberDeclarators} {rest : List Symbol} {spots more : List ℕ}
      → g.AreMemberDeclarators scope naming ts ds rest spots more → MemberDeclaratorsFit naming scope ds
  of_member_declarators g.no_member_declarators = tt
  of_member_declarators (g.last_member_declarator d w) = (of_declarator d, of_after_sign w, tt)
  of_member_declarators (g.more_member_declarators d w ds) = (of_declarator d, of_after_sign w, of_member_declarators ds)

  of_after_sign : {scope : Scope} {k : Terminal} {ts : List Symbol} {e : c.Maybe} {rest : List Symbol} {spots more : List ℕ} → g.IsAfterSign scope k ts e rest spots more → MaybeStands scope e
  of_after_sign (g.left_out n) = tt
  of_after_sign (g.given d) = (of_expression d).stands

  of_enumerators : {scope : Scope} {ts : List Symbol} {es : c.Enumerators} {rest : List Symbol} {spots more : List ℕ} → g.AreEnumerators scope ts es rest spots more → AreEnumerated es × EnumeratorsFit scope es
  of_enumerators (g.last_enumerator v) = (tt, (of_after_sign v, tt))
  of_enumerators (g.last_enumerator_and_comma v) = (tt, (of_after_sign v, tt))
  of_enumerators (g.more_enumerators v es) = (tt, (of_after_sign v, (of_enumerators es).1))

  pub of_declarator : {scope : Scope} {naming : Naming} {ts : List Symbol} {d : c.Declarator} {rest : List Symbol} {spots more : List ℕ} → g.IsDeclarator scope naming ts d rest spots more → DeclaratorFits naming scope d
  of_declarator (g.written x n) = of_pointers x (λ own e. tt)
  of_declarator {naming} (g.missing n b) = (n, tt)

  of_pointers : {scope : Scope} {naming : Naming} {ts : List Symbol} {outer : c.Parts} {name : Option (List ℕ)} {parts : c.Parts} {rest : List Symbol} {spots more : List ℕ}
      → g.ArePointers scope naming ts outer name parts rest spots more → OuterFits scope outer parts → NameFits (starred (has_pointer parts) naming) scope name × PartsFit scope parts
  of_pointers {scope} {naming} {outer = outer} {name = name} {parts = parts} (g.pointer {q = quals} q x) fit =
      let got = of_pointers x (pointer_fits scope quals outer parts fit) in (starred_once (has_pointer parts) naming scope name (pointers_keep x refl) got.0, got.1)
  of_pointers (g.no_pointer n d) fit = of_direct d fit

  of_direct : {scope : Scope} {naming : Naming} {ts : List Symbol} {outer : c.Parts} {name : Option (List ℕ)} {parts : c.Parts} {rest : List Symbol} {spots more : List ℕ}
      → g.IsDirect scope naming ts outer name parts rest spots more → OuterFits scope outer parts → NameFits (starred (has_pointer parts) naming) scope name × PartsFit scope parts
  of_direct {scope} {naming} {parts = parts} (g.by_name {w} t s) fit = (still_takes (has_pointer parts) naming scope w t, of_suffixes s fit)
  of_direct {naming} {parts = parts} (g.by_nothing t b s) fit = (still_none (has_pointer parts) naming t, of_suffixes s fit)
  of_direct {scope} {outer = outer} {parts = parts} (g.nested {suffixed = suffixed} inner o x i s) fit =
      of_pointers x (λ own e. nested_fits scope inner own suffixed parts i e (of_suffixes s (behind_fits scope inner outer suffixed parts i fit)))

  of_suffixes : {scope : Scope} {ts : List Symbol} {outer parts : c.Parts} {rest : List Symbol} {spots more : List ℕ} → g.AreSuffixes scope ts outer parts rest spots more → OuterFits scope outer parts → PartsFit scope parts
  of_suffixes (g.no_suffix n) fit = fit c.no_parts refl
  of_suffixes (g.unsized_array s) fit = (tt, of_suffixes s (λ own e. fit (c.Array c.absent own) (ap (c.Array c.absent) e)))
  of_suffixes {scope} {outer = outer} (g.array {parts = parts} {e = length} d s) fit = ((of_expression d).stands, of_suffixes s (array_fits scope length outer parts fit))
  of_suffixes (g.function {inside = inside} ps s) fit = (of_parameters ps, of_suffixes s (λ own e. fit (c.Function inside own) (ap (c.Function inside) e)))

  of_parameters : {scope : Scope} {ts : List Symbol} {ps : c.Parameters} {rest : List Symbol} {spots more : List ℕ} → g.AreParameters scope ts ps rest spots more → ParametersAgain scope ps
  of_parameters {scope} g.unstated = p.unstated_again scope
  of_parameters {scope} g.void_alone = p.void_again scope
  of_parameters {scope} {ts} (g.listed {ps} v x) = let all = of_parameter_list x in p.listed_again scope ps all.1 all.0 (not_void ts v (void_is_alone x))
  of_parameters {scope} (g.open_list {ps} x) = let all = of_parameter_list x in p.open_again scope ps all.1 all.0

  of_parameter_list : {scope : Scope} {ts : List Symbol} {ps : c.ParameterList} {rest : List Symbol} {spots more : List ℕ} → g.IsParameterList scope ts ps rest spots more → AreListed ps × ParametersFit scope ps
  of_parameter_list {scope} (g.last_parameter {ss} s d) = (tt, (of_specifiers s, of_declarator d, either_clear scope ss (specifiers_end s) d, tt))
  of_parameter_list {scope} (g.more_parameters {ss} s d ps) = (tt, (of_specifiers s, of_declarator d, either_clear scope ss (specifiers_end s) d, (of_parameter_list ps).1))
