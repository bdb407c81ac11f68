-- What symbols derive is spelt as they are, rule by rule of the grammar; so is what is behind it.
use Rattle.std.proofs.Common.{◌≡◌, ℕ, Bool, false, List, Option, Some, None, refl, ap, ◌∙◌}
use Rattle.std.specs.Prelude.{option_and_then}
use Rattle.std.specs.List.{All}
use Rattle.std.proofs.lemmas.List.Elements.{All-append}
use Rattle.lt_model.specs.declared.operator.Op.{Op}
use Rattle.lt_tree.specs.declared.specifier.BasicType.{BasicType}
use Rattle.lt_tree.specs.declared.terminal.Terminal.{Terminal}
use Rattle.lt_tree.specs.declared.terminal.Terminal.TheVariants as k
use Rattle.lt_tree.specs.Tree as c
use Rattle.lt_tree.specs.Comma.{followed_by}
use Rattle.lt_tree.specs.Symbols.{Symbol}
use Rattle.lt_tree.specs.TypeWords.{basic_of, words_alone, or_as_they_stand, gathered}
use Rattle.lt_tree.specs.Scope.{Scope}
use Rattle.lt_tree.specs.Operators.{Infix, arithmetic, connective, operation, assignment_of}
use Rattle.lt_tree.specs.Ahead.{Naming}
use Rattle.lt_tree.specs.Grammar as g
use Rattle.lt_tree.specs.Grammar.{Level}
use Rattle.lt_tree.specs.Canon.{sign_of_assignment}
use Rattle.lt_tree_laws.proofs.SignsBack.{read_back}
use Rattle.lt_tree_laws.proofs.SpelledBytes.{are_bytes}
use Rattle.lt_print.proofs.CuttingQuotes.{IsByte}
use Rattle.lt_print.proofs.Written.{is_other}
use Rattle.lt_print.proofs.Spelt.{AreSpelt, NameIf, Spelt, SpeltAll, SpeltMaybe, SpeltMarks, SpeltMark, SpeltBindings, SpeltSpecifiers, SpeltTypes, SpeltType, SpeltMembers, SpeltMemberDeclarators, SpeltEnumerators, SpeltDeclarator, SpeltParts, SpeltParameters, SpeltList}

of_text : {ts rest : List Symbol} {bytes : List ℕ} → g.IsText ts bytes rest → AreSpelt ts → All IsByte bytes × AreSpelt rest
of_text (g.one_literal {w} {bytes} l) all = (are_bytes w bytes all.0 l, all.1)
of_text (g.more_literals {w} {front} {bytes} l t) all = let others = of_text t all.1 in (All-append IsByte front bytes (are_bytes w front all.0 l) others.0, others.1)

literal_bytes : {w bytes : List ℕ} → g.IsLiteral w bytes → All IsByte w → All IsByte bytes
literal_bytes {w} {bytes} l all = are_bytes w bytes all l

qualifiers_behind : {ts rest : List Symbol} {q : c.Qualifiers} → g.AreQualifiers ts q rest → AreSpelt ts → AreSpelt rest
qualifiers_behind (g.no_qualifiers a b) all = all
qualifiers_behind (g.constant x) all = qualifiers_behind x all.1
qualifiers_behind (g.volatile x) all = qualifiers_behind x all.1

operation_spelt : (op : Infix) (left right : c.Expression) → Spelt left → Spelt right → Spelt (operation op left right)
operation_spelt (arithmetic o) left right a b = (a, b)
operation_spelt (connective o) left right a b = (a, b)

-- the sign of an assignment is one
assignment_written : (x : Terminal) (o : Option Op) → assignment_of x ≡ Some o → is_other (sign_of_assignment o) ≡ false
assignment_written x o e = ap is_other (read_back.3 x o e) ∙ other x e
  where
    other : (x : Terminal) → assignment_of x ≡ Some o → is_other x ≡ false
    other k.Other e = absurd cc
    other x e = refl

joined : (front parts : c.Expressions) → SpeltAll front → SpeltAll parts → SpeltAll (followed_by front parts)
joined c.no_expressions parts a b = b
joined (c.an_expression e es) parts a b = (a.0, joined es parts a.1 b)

gathered_spelt : (types : c.TypeSpecifiers) → SpeltTypes types → SpeltTypes (gathered types)
gathered_spelt types spelt = step (option_and_then basic_of (words_alone types))
  where
    step : (o : Option BasicType) → SpeltTypes (or_as_they_stand types o)
    step None = spelt
    step (Some type) = (tt, tt)

mutual
  pub of_expression : {scope : Scope} {level : Level} {ts : List Symbol} {e : c.Expression} {rest : List Symbol} {spots more : List ℕ}
      → g.IsExpression scope level ts e rest spots more → AreSpelt ts → Spelt e × AreSpelt rest
  of_expression (g.name h) all = (all.0, all.1)
  of_expression g.constant all = (all.0, all.1)
  of_expression (g.text t) all = of_text t all
  of_expression (g.parentheses d) all = let x = of_expression d all.1 in (x.0, x.1.1)
  of_expression (g.decide d l) all = let x = of_expression d all.1.1 in ((x.0, x.1.1.0, x.1.1.1.1.0, literal_bytes l x.1.1.1.1.1.1.0), x.1.1.1.1.1.1.1.1)
  of_expression (g.after d l) all = let x = of_expression d all.1.1 in ((x.0, x.1.1.0, literal_bytes l x.1.1.1.1.0), x.1.1.1.1.1.1)
  of_expression (g.of_primary d) all = of_expression d all
  of_expression (g.index a b) all = let x = of_expression a all in let y = of_expression b x.1.1 in ((x.0, y.0), y.1.1)
  of_expression (g.call a b) all = let x = of_expression a all in let y = of_arguments b x.1.1 in ((x.0, y.0), y.1.1)
  of_expression (g.member d) all = let x = of_expression d all in ((x.0, x.1.1.0), x.1.1.1)
  of_expression (g.arrow d) all = let x = of_expression d all in ((x.0, x.1.1.0), x.1.1.1)
  of_expression (g.increment_behind d) all = let x = of_expression d all in (x.0, x.1.1)
  of_expression (g.decrement_behind d) all = let x = of_expression d all in (x.0, x.1.1)
  of_expression (g.of_postfix d) all = of_expression d all
  of_expression (g.increment_before d) all = of_expression d all.1
  of_expression (g.decrement_before d) all = of_expression d all.1
  of_expression (g.prefixed h d) all = of_expression d all.1
  of_expression (g.sizeof_expression d) all = of_expression d all.1
  of_expression (g.sizeof_type t) all = let x = of_type_name t all.1.1 in ((x.0, x.1), x.2.1)
  of_expression (g.of_unary d) all = of_expression d all
  of_expression (g.cast_to t d) all = let x = of_type_name t all.1 in let y = of_expression d x.2.1 in ((x.0, x.1, y.0), y.1)
  of_expression (g.of_cast d) all = of_expression d all
  of_expression (g.of_tighter d) all = of_expression d all
  of_expression (g.operates {op} {left} {right} a i b) all = let x = of_expression a all in let y = of_expression b x.1.1 in (operation_spelt op left right x.0 y.0, y.1)
  of_expression (g.of_binary d) all = of_expression d all
  of_expression (g.choice a b d) all = let x = of_expression a all in let y = of_expression b x.1.1 in let z = of_expression d y.1.1 in ((x.0, y.0, z.0), z.1)
  of_expression (g.of_conditional d) all = of_expression d all
  of_expression (g.assigns {k = x} {op} a i b) all = let y = of_expression a all in let z = of_expression b y.1.1 in ((assignment_written x op i, y.0, z.0), z.1)
  of_expression (g.of_assignment d) all = of_expression d all
  of_expression (g.behind_marks ms d) all = let x = of_marks ms all in let y = of_expression d x.1 in ((x.0, y.0), y.1)
  of_expression (g.of_marked d) all = of_expression d all
  of_expression (g.sequence a n ps) all = let x = of_expression a all in let y = of_parts ps x.1.1 in ((x.0, y.0), y.1)
  of_expression (g.longer_sequence {front} {parts} a ps) all = let x = of_expression a all in let y = of_parts ps x.1.1 in (joined front parts x.0 y.0, y.1)

  of_parts : {scope : Scope} {ts : List Symbol} {es : c.Expressions} {rest : List Symbol} {spots more : List ℕ} → g.AreParts scope ts es rest spots more → AreSpelt ts → SpeltAll es × AreSpelt rest
  of_parts (g.last_part d) all = let x = of_expression d all in ((x.0, tt), x.1)
  of_parts (g.more_parts d ps) all = let x = of_expression d all in let y = of_parts ps x.1.1 in ((x.0, y.0), y.1)

  of_arguments : {scope : Scope} {ts : List Symbol} {es : c.Expressions} {rest : List Symbol} {spots more : List ℕ} → g.AreArguments scope ts es rest spots more → AreSpelt ts → SpeltAll es × AreSpelt rest
  of_arguments g.no_arguments all = (tt, all)
  of_arguments (g.last_argument d) all = let x = of_expression d all in ((x.0, tt), x.1)
  of_arguments (g.more_arguments d es) all = let x = of_expression d all in let y = of_arguments es x.1.1 in ((x.0, y.0), y.1)

  pub of_mark : {scope : Scope} {ts : List Symbol} {m : c.Mark} {rest : List Symbol} {spots more : List ℕ} → g.IsMark scope ts m rest spots more → AreSpelt ts → SpeltMark m × AreSpelt rest
  of_mark (g.label d l) all = let x = of_expression d all.1.1 in ((x.0, x.1.1.0, literal_bytes l x.1.1.1.1.0, tt), x.1.1.1.1.1.1)
  of_mark (g.binding_label d l bs) all = let x = of_expression d all.1.1 in let y = of_bindings bs x.1.1.1.1.1 in ((x.0, x.1.1.0, literal_bytes l x.1.1.1.1.0, y.0), y.1.1)

  of_bindings : {scope : Scope} {ts : List Symbol} {bs : c.Bindings} {rest : List Symbol} {spots more : List ℕ} → g.AreBindings scope ts bs rest spots more → AreSpelt ts → SpeltBindings bs × AreSpelt rest
  of_bindings (g.last_binding d) all = let x = of_expression d all.1.1.1 in ((all.1.0, x.0, tt), x.1)
  of_bindings (g.more_bindings d bs) all = let x = of_expression d all.1.1.1 in let y = of_bindings bs x.1 in ((all.1.0, x.0, y.0), y.1)

  of_marks : {scope : Scope} {ts : List Symbol} {ms : c.Marks} {rest : List Symbol} {spots more : List ℕ} → g.AreMarks scope ts ms rest spots more → AreSpelt ts → SpeltMarks ms × AreSpelt rest
  of_marks (g.last_mark m) all = let x = of_mark m all in ((x.0, tt), x.1.1)
  of_marks (g.more_marks m ms) all = let x = of_mark m all in let y = of_marks ms x.1.1 in ((x.0, y.0), y.1)

  of_type_name : {scope : Scope} {ts : List Symbol} {ss : c.Specifiers} {d : c.Declarator} {rest : List Symbol} {spots more : List ℕ}
      → g.IsTypeName scope ts ss d rest spots more → AreSpelt ts → SpeltSpecifiers ss × SpeltDeclarator d × AreSpelt rest
  of_type_name (g.type_name s d) all = let x = of_specifiers s all in let y = of_declarator d x.1 in (x.0, y.0, y.1)

  pub of_specifiers : {scope : Scope} {ts : List Symbol} {ss : c.Specifiers} {rest : List Symbol} {spots more : List ℕ} → g.AreSpecifiers scope ts ss rest spots more → AreSpelt ts → SpeltSpecifiers ss × AreSpelt rest
  of_specifiers (g.some_specifiers {types} b f) all = let x = of_further f all in (gathered_spelt types x.0, x.1)

  of_further : {scope : Scope} {typed : Bool} {ts : List Symbol} {words : c.Words} {types : c.TypeSpecifiers} {rest : List Symbol} {spots more : List ℕ}
      → g.AreFurther scope typed ts words types rest spots more → AreSpelt ts → SpeltTypes types × AreSpelt rest
  of_further (g.no_further n) all = (tt, all)
  of_further (g.storage s f) all = of_further f all.1
  of_further (g.inline_word f) all = of_further f all.1
  of_further (g.noreturn_word f) all = of_further f all.1
  of_further (g.const_word f) all = of_further f all.1
  of_further (g.volatile_word f) all = of_further f all.1
  of_further (g.type_word w f) all = let x = of_further f all.1 in ((tt, x.0), x.1)
  of_further (g.typedef_name t f) all = let x = of_further f all.1 in ((all.0, x.0), x.1)
  of_further (g.struct_or_enum t f) all = let x = of_tagged t all in let y = of_further f x.1 in ((x.0, y.0), y.1)

  of_tagged : {scope : Scope} {ts : List Symbol} {type : c.TypeSpecifier} {rest : List Symbol} {spots more : List ℕ} → g.IsTagged scope ts type rest spots more → AreSpelt ts → SpeltType type × AreSpelt rest
  of_tagged (g.struct_tag n) all = (all.1.0, all.1.1)
  of_tagged (g.struct_with_tag ms) all = let x = of_members ms all.1.1.1 in ((all.1.0, x.0), x.1)
  of_tagged (g.struct_without_tag ms) all = let x = of_members ms all.1.1 in ((tt, x.0), x.1)
  of_tagged (g.enum_tag n) all = (all.1.0, all.1.1)
  of_tagged (g.enum_with_tag es) all = let x = of_enumerators es all.1.1.1 in ((all.1.0, x.0), x.1)
  of_tagged (g.enum_without_tag es) all = let x = of_enumerators es all.1.1 in ((tt, x.0), x.1)

  of_members : {scope : Scope} {ts : List Symbol} {ms : c.Members} {rest : List Symbol} {spots more : List ℕ} → g.AreMembers scope ts ms rest spots more → AreSpelt ts → SpeltMembers ms × AreSpelt rest
  of_members g.no_more_members all = (tt, all.1)
  of_members (g.one_more_member s ds ms) all = let x = of_specifiers s all in let y = of_member_declarators ds x.1 in let z = of_members ms y.1 in ((x.0, y.0, z.0), z.1)

  of_member_declarators : {scope : Scope} {naming : Naming} {ts : List Symbol} {ds : c.MemberDeclarators} {rest : List Symbol} {spots more : List ℕ}
      → g.AreMemberDeclarators scope naming ts ds rest spots more → AreSpelt ts → SpeltMemberDeclarators ds × AreSpelt rest
  of_member_declarators g.no_member_declarators all = (tt, all.1)
  of_member_declarators (g.last_member_declarator d w) all = let x = of_declarator d all in let y = of_after_sign w x.1 in ((x.0, y.0, tt), y.1.1)
  of_member_declarators (g.more_member_declarators d w ds) all = let x = of_declarator d all in let y = of_after_sign w x.1 in let z = of_member_declarators ds y.1.1 in ((x.0, y.0, z.0), z.1)

  of_after_sign : {scope : Scope} {k : Terminal} {ts : List Symbol} {e : c.Maybe} {rest : List Symbol} {spots more : List ℕ} → g.IsAfterSign scope k ts e rest spots more → AreSpelt ts → SpeltMaybe e × AreSpelt rest
  of_after_sign (g.left_out n) all = (tt, all)
  of_after_sign (g.given d) all = of_expression d all.1

  of_enumerators : {scope : Scope} {ts : List Symbol} {es : c.Enumerators} {rest : List Symbol} {spots more : List ℕ} → g.AreEnumerators scope ts es rest spots more → AreSpelt ts → SpeltEnumerators es × AreSpelt rest
  of_enumerators (g.last_enumerator v) all = let x = of_after_sign v all.1 in ((all.0, x.0, tt), x.1.1)
  of_enumerators (g.last_enumerator_and_comma v) all = let x = of_after_sign v all.1 in ((all.0, x.0, tt), x.1.1.1)
  of_enumerators (g.more_enumerators v es) all = let x = of_after_sign v all.1 in let y = of_enumerators es x.1.1 in ((all.0, x.0, y.0), y.1)

  pub of_declarator : {scope : Scope} {naming : Naming} {ts : List Symbol} {d : c.Declarator} {rest : List Symbol} {spots more : List ℕ} → g.IsDeclarator scope naming ts d rest spots more → AreSpelt ts → SpeltDeclarator d × AreSpelt rest
  of_declarator (g.written p m) all = let x = of_pointers p all in ((x.0, x.1 tt), x.2)
  of_declarator (g.missing n b) all = ((tt, tt), all)

  of_pointers : {scope : Scope} {naming : Naming} {ts : List Symbol} {outer : c.Parts} {name : Option (List ℕ)} {parts : c.Parts} {rest : List Symbol} {spots more : List ℕ}
      → g.ArePointers scope naming ts outer name parts rest spots more → AreSpelt ts → NameIf name × (SpeltParts outer → SpeltParts parts) × AreSpelt rest
  of_pointers (g.pointer q p) all = of_pointers p (qualifiers_behind q all.1)
  of_pointers (g.no_pointer n d) all = of_direct d all

  of_direct : {scope : Scope} {naming : Naming} {ts : List Symbol} {outer : c.Parts} {name : Option (List ℕ)} {parts : c.Parts} {rest : List Symbol} {spots more : List ℕ}
      → g.IsDirect scope naming ts outer name parts rest spots more → AreSpelt ts → NameIf name × (SpeltParts outer → SpeltParts parts) × AreSpelt rest
  of_direct (g.by_name t s) all = let x = of_suffixes s all.1 in (all.0, x.0, x.1)
  of_direct (g.by_nothing t b s) all = let x = of_suffixes s all in (tt, x.0, x.1)
  of_direct (g.nested inner o p i s) all = let x = of_pointers p all.1 in let y = of_suffixes s x.2.1 in (x.0, λ outer. x.1 (y.0 outer), y.1)

  of_suffixes : {scope : Scope} {ts : List Symbol} {outer parts : c.Parts} {rest : List Symbol} {spots more : List ℕ}
      → g.AreSuffixes scope ts outer parts rest spots more → AreSpelt ts → (SpeltParts outer → SpeltParts parts) × AreSpelt rest
  of_suffixes (g.no_suffix n) all = (λ outer. outer, all)
  of_suffixes (g.unsized_array s) all = let x = of_suffixes s all.1.1 in (λ outer. (tt, x.0 outer), x.1)
  of_suffixes (g.array d s) all = let x = of_expression d all.1 in let y = of_suffixes s x.1.1 in (λ outer. (x.0, y.0 outer), y.1)
  of_suffixes (g.function ps s) all = let x = of_parameters ps all.1 in let y = of_suffixes s x.1 in (λ outer. (x.0, y.0 outer), y.1)

  of_parameters : {scope : Scope} {ts : List Symbol} {ps : c.Parameters} {rest : List Symbol} {spots more : List ℕ} → g.AreParameters scope ts ps rest spots more → AreSpelt ts → SpeltParameters ps × AreSpelt rest
  of_parameters g.unstated all = (tt, all.1)
  of_parameters g.void_alone all = (tt, all.1.1)
  of_parameters (g.listed v ps) all = let x = of_parameter_list ps all in (x.0, x.1.1)
  of_parameters (g.open_list ps) all = let x = of_parameter_list ps all in (x.0, x.1.1.1.1)

  of_parameter_list : {scope : Scope} {ts : List Symbol} {ps : c.ParameterList} {rest : List Symbol} {spots more : List ℕ} → g.IsParameterList scope ts ps rest spots more → AreSpelt ts → SpeltList ps × AreSpelt rest
  of_parameter_list (g.last_parameter s d) all = let x = of_specifiers s all in let y = of_declarator d x.1 in ((x.0, y.0, tt), y.1)
  of_parameter_list (g.more_parameters s d ps) all = let x = of_specifiers s all in let y = of_declarator d x.1 in let z = of_parameter_list ps y.1.1 in ((x.0, y.0, z.0), z.1)
