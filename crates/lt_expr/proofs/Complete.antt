-- What is derived is read: its tree, what is behind it, and its spots.
use Rattle.std.proofs.Common.{◌≡◌, ℕ, Bool, true, false, List, Option, None, refl, subst, arith}
use Rattle.lt_tree.specs.declared.terminal.Terminal.{Terminal}
use Rattle.lt_tree.specs.declared.terminal.Terminal.TheVariants as t
use Rattle.lt_tree.specs.Tree as c
use Rattle.lt_tree.specs.Symbols.{Symbol}
use Rattle.lt_tree.specs.Scope.{Scope}
use Rattle.lt_tree.specs.Ahead.{Naming, naming_behind, same_terminal, sees, takes_none, begins_specifier, begins_declarator}
use Rattle.lt_tree.specs.Grammar as g
use Rattle.lt_tree.specs.Grammar.{Level, IsExpression, AreParts, AreArguments, IsMark, AreBindings, AreMarks, IsTypeName, AreSpecifiers, AreFurther, IsTagged, AreMembers, AreMemberDeclarators, IsAfterSign, AreEnumerators, IsDeclarator, ArePointers, IsDirect, AreSuffixes, AreParameters, IsParameterList, is_missing}
use Rattle.lt_expr.specs.Front.{begins_mark}
use Rattle.lt_expr.specs.Specifier.{inline_word, noreturn_word, const_word, volatile_word}
use Rattle.lt_expr.specs.Reading as r
use Rattle.lt_expr.proofs.CompleteFronts.{follows, is_same, IsWord, storage_is, type_word_is}
use Rattle.lt_expr.proofs.CompleteStarts.{shorter, marks_shorter, type_name_shorter, specifiers_shorter, tagged_shorter, member_declarators_shorter, after_sign_short, declarator_short, qualifiers_short, parameters_shorter, pointers_short, arguments_short, mark_shorter, starts, at_level}
use Rattle.lt_expr.proofs.CompleteForms.{Suffixes, Read, Complete, Parts, Arguments}
use Rattle.lt_expr.proofs.CompleteExpressions as expressions
use Rattle.lt_expr.proofs.CompleteExpressions.{walk_name}
use Rattle.lt_expr.proofs.CompleteOperators as operators
use Rattle.lt_expr.proofs.CompleteOperators.{is_filled}
use Rattle.lt_expr.proofs.CompleteMarks as marks
use Rattle.lt_expr.proofs.CompleteTypes as specifiers
use Rattle.lt_expr.proofs.CompleteStructs as structs
use Rattle.lt_expr.proofs.CompleteDeclarators as declarators
use Rattle.lt_expr.proofs.CompleteParameters as parameters
use Rattle.lt_expr.proofs.CompleteParameters.{specifier_front}

-- ---- what derivations begin with

parts_filled : {scope : Scope} {ts rest : List Symbol} {es : c.Expressions} {spots more : List ℕ} → AreParts scope ts es rest spots more → is_filled es ≡ true
parts_filled (g.last_part x) = refl
parts_filled (g.more_parts x xs) = refl

pub mark_begins : {scope : Scope} {ts rest : List Symbol} {m : c.Mark} {spots more : List ℕ} → IsMark scope ts m rest spots more → begins_mark ts ≡ true
unfolding same_terminal
mark_begins (g.label x l) = refl
mark_begins (g.binding_label x l b) = refl

pub marks_begin : {scope : Scope} {ts rest : List Symbol} {ms : c.Marks} {spots more : List ℕ} → AreMarks scope ts ms rest spots more → begins_mark ts ≡ true
marks_begin (g.last_mark x) = mark_begins x
marks_begin (g.more_marks x xs) = mark_begins x

bindings_begin : {scope : Scope} {ts rest : List Symbol} {b : c.Bindings} {spots more : List ℕ} → AreBindings scope ts b rest spots more → (sees t.Comma ts ≡ true) × (follows ts ≡ 1)
unfolding same_terminal
bindings_begin (g.last_binding x) = (refl, refl)
bindings_begin (g.more_bindings x xs) = (refl, refl)

pub specifiers_begin : {scope : Scope} {ts rest : List Symbol} {ss : c.Specifiers} {spots more : List ℕ} → AreSpecifiers scope ts ss rest spots more → begins_specifier scope false ts ≡ true
specifiers_begin (g.some_specifiers b x) = b

type_name_begins : {scope : Scope} {ts rest : List Symbol} {ss : c.Specifiers} {d : c.Declarator} {spots more : List ℕ} → IsTypeName scope ts ss d rest spots more → begins_specifier scope false ts ≡ true
type_name_begins (g.type_name x y) = specifiers_begin x

list_begins : {scope : Scope} {ts rest : List Symbol} {ps : c.ParameterList} {spots more : List ℕ} → IsParameterList scope ts ps rest spots more → begins_specifier scope false ts ≡ true
list_begins (g.last_parameter x y) = specifiers_begin x
list_begins (g.more_parameters x y z) = specifiers_begin x

tagged_begins : {scope : Scope} (typed : Bool) {ts rest : List Symbol} {type : c.TypeSpecifier} {spots more : List ℕ} → IsTagged scope ts type rest spots more → begins_specifier scope typed ts ≡ true
tagged_begins typed (g.struct_tag x) = refl
tagged_begins typed (g.struct_with_tag x) = refl
tagged_begins typed (g.struct_without_tag x) = refl
tagged_begins typed (g.enum_tag x) = refl
tagged_begins typed (g.enum_with_tag x) = refl
tagged_begins typed (g.enum_without_tag x) = refl

enumerators_begin : {scope : Scope} {ts rest : List Symbol} {es : c.Enumerators} {spots more : List ℕ} → AreEnumerators scope ts es rest spots more → sees t.CloseBrace ts ≡ false
unfolding same_terminal
enumerators_begin (g.last_enumerator x) = refl
enumerators_begin (g.last_enumerator_and_comma x) = refl
enumerators_begin (g.more_enumerators x xs) = refl

-- a declarator that isn't missing begins with what begins one
suffixes_begin : {scope : Scope} {ts rest : List Symbol} {outer parts : c.Parts} {spots more : List ℕ} → AreSuffixes scope ts outer parts rest spots more → outer ≡ c.no_parts → is_missing None parts ≡ false → begins_declarator ts ≡ true
unfolding same_terminal
suffixes_begin (g.no_suffix x) is e = let f : is_missing None c.no_parts ≡ false = subst (λ (q : c.Parts). is_missing None q ≡ false) is e in absurd cc
suffixes_begin (g.unsized_array x) is e = refl
suffixes_begin (g.array x xs) is e = refl
suffixes_begin (g.function x xs) is e = refl

direct_begins : {scope : Scope} {naming : Naming} {ts rest : List Symbol} {outer parts : c.Parts} {w : Option (List ℕ)} {spots more : List ℕ}
    → IsDirect scope naming ts outer w parts rest spots more → outer ≡ c.no_parts → is_missing w parts ≡ false → begins_declarator ts ≡ true
unfolding same_terminal
direct_begins (g.by_name x xs) is e = refl
direct_begins (g.by_nothing a b xs) is e = suffixes_begin xs is e
direct_begins (g.nested inner a x i xs) is e = refl

pointers_begin : {scope : Scope} {naming : Naming} {ts rest : List Symbol} {outer parts : c.Parts} {w : Option (List ℕ)} {spots more : List ℕ}
    → ArePointers scope naming ts outer w parts rest spots more → outer ≡ c.no_parts → is_missing w parts ≡ false → begins_declarator ts ≡ true
unfolding same_terminal
pointers_begin (g.pointer q x) is e = refl
pointers_begin (g.no_pointer a x) is e = direct_begins x is e

-- no declarator that has to have a name begins with a semicolon
named_direct : {scope : Scope} {naming : Naming} {ts rest : List Symbol} {outer parts : c.Parts} {w : Option (List ℕ)} {spots more : List ℕ}
    → takes_none naming ≡ false → IsDirect scope naming ts outer w parts rest spots more → sees t.Semicolon ts ≡ false
unfolding same_terminal
named_direct takes (g.by_name x xs) = refl
named_direct takes (g.by_nothing a b xs) = absurd cc
named_direct takes (g.nested inner a x i xs) = refl

named_pointers : {scope : Scope} {naming : Naming} {ts rest : List Symbol} {outer parts : c.Parts} {w : Option (List ℕ)} {spots more : List ℕ}
    → takes_none naming ≡ false → ArePointers scope naming ts outer w parts rest spots more → sees t.Semicolon ts ≡ false
unfolding same_terminal
named_pointers takes (g.pointer q x) = refl
named_pointers takes (g.no_pointer a x) = named_direct takes x

pub named_declarator : {scope : Scope} {naming : Naming} {ts rest : List Symbol} {d : c.Declarator} {spots more : List ℕ}
    → takes_none naming ≡ false → IsDeclarator scope naming ts d rest spots more → sees t.Semicolon ts ≡ false
named_declarator takes (g.written x e) = named_pointers takes x
named_declarator takes (g.missing a b) = absurd cc

pub behind_takes_a_name : (ss : c.Specifiers) → takes_none (naming_behind ss) ≡ false
behind_takes_a_name (c.specifiers words c.no_types) = refl
behind_takes_a_name (c.specifiers words (c.a_type first rest)) = refl

-- where a specifier begins, none of these stands
specifiers_no_brace : {scope : Scope} {ts rest : List Symbol} {ss : c.Specifiers} {spots more : List ℕ} → AreSpecifiers scope ts ss rest spots more → sees t.CloseBrace ts ≡ false
unfolding same_terminal
specifiers_no_brace {scope} {ts} x = specifier_front t.CloseBrace scope false ts refl refl (specifiers_begin x)

list_no_paren : {scope : Scope} {ts rest : List Symbol} {ps : c.ParameterList} {spots more : List ℕ} → IsParameterList scope ts ps rest spots more → sees t.CloseParen ts ≡ false
unfolding same_terminal
list_no_paren {scope} {ts} x = specifier_front t.CloseParen scope false ts refl refl (list_begins x)

list_no_ellipsis : {scope : Scope} {ts rest : List Symbol} {ps : c.ParameterList} {spots more : List ℕ} → IsParameterList scope ts ps rest spots more → sees t.Ellipsis ts ≡ false
unfolding same_terminal
list_no_ellipsis {scope} {ts} x = specifier_front t.Ellipsis scope false ts refl refl (list_begins x)

inline_is : IsWord t.Inline inline_word
unfolding same_terminal
inline_is = record { no_struct = refl; no_enum = refl; begins = refl; reads = refl }

noreturn_is : IsWord t.Noreturn noreturn_word
unfolding same_terminal
noreturn_is = record { no_struct = refl; no_enum = refl; begins = refl; reads = refl }

const_is : IsWord t.Const const_word
unfolding same_terminal
const_is = record { no_struct = refl; no_enum = refl; begins = refl; reads = refl }

volatile_is : IsWord t.Volatile volatile_word
unfolding same_terminal
volatile_is = record { no_struct = refl; no_enum = refl; begins = refl; reads = refl }

-- ---- all of them

mutual
  pub complete : {scope : Scope} {l : Level} {ts rest : List Symbol} {e : c.Expression} {spots more : List ℕ} → IsExpression scope l ts e rest spots more → (ends : List ℕ) → Complete l scope ts e rest spots more ends
  complete (g.name x) ends = expressions.name_complete _ _ _ _ _ ends x
  complete g.constant ends = expressions.constant_complete _ _ _ _ _ ends
  complete (g.text x) ends = expressions.text_complete _ _ ends x
  complete (g.parentheses x) ends = expressions.parentheses_complete _ _ _ _ _ _ _ _ ends (complete x ends)
  complete (g.decide x l) ends = expressions.decide_complete _ _ _ _ _ _ _ _ _ _ _ _ _ _ _ _ _ _ _ ends l (complete x ends)
  complete (g.after x l) ends = expressions.after_complete _ _ _ _ _ _ _ _ _ _ _ _ _ _ _ _ ends l (complete x ends)
  complete (g.of_primary x) ends = expressions.primary_complete _ _ _ _ _ _ ends (shorter x) (complete x ends)
  complete (g.index x z) ends = expressions.index_complete _ _ _ _ _ _ _ _ _ _ _ ends (omega (arith, shorter z)) (complete x ends) (complete z)
  complete (g.call x z) ends = expressions.call_complete _ _ _ _ _ _ _ _ _ _ _ ends (omega (arith, arguments_short z)) (complete x ends) (complete_arguments z)
  complete (g.member x) ends = expressions.member_complete _ _ _ _ _ _ _ _ _ ends (complete x ends)
  complete (g.arrow x) ends = expressions.arrow_complete _ _ _ _ _ _ _ _ _ ends (complete x ends)
  complete (g.increment_behind x) ends = expressions.increment_complete _ _ _ _ _ _ _ ends (complete x ends)
  complete (g.decrement_behind x) ends = expressions.decrement_complete _ _ _ _ _ _ _ ends (complete x ends)
  complete (g.of_postfix x) ends = expressions.postfix_complete _ _ _ _ _ _ ends (at_level x) (complete x ends)
  complete (g.increment_before x) ends = expressions.increment_before_complete _ _ _ _ _ _ _ ends (complete x ends)
  complete (g.decrement_before x) ends = expressions.decrement_before_complete _ _ _ _ _ _ _ ends (complete x ends)
  complete (g.prefixed i x) ends = expressions.prefixed_complete _ _ _ _ _ _ _ _ _ ends i (complete x ends)
  complete (g.sizeof_expression x) ends = expressions.size_complete _ _ _ _ _ _ _ ends (at_level x).0 (complete x ends)
  complete (g.sizeof_type x) ends = expressions.size_of_type_complete _ _ _ _ _ _ _ _ _ _ ends (type_name_begins x) (complete_type_name x ends)
  complete (g.of_unary x) ends = expressions.unary_complete _ _ _ _ _ _ ends (at_level x).0 (complete x ends)
  complete (g.cast_to x z) ends = expressions.cast_complete _ _ _ _ _ _ _ _ _ _ _ _ ends (type_name_begins x) (omega (arith, type_name_shorter x)) (complete_type_name x ends) (complete z)
  complete (g.of_cast {n = n} x) ends = operators.binary_of_cast_complete _ n _ _ _ _ _ ends (shorter x) (complete x ends)
  complete (g.of_tighter {n = n} x) ends = operators.tighter_complete _ n _ _ _ _ _ ends (complete x ends)
  complete (g.operates x i z) ends = operators.operates_complete _ _ _ _ _ _ _ _ _ _ _ _ _ ends i (shorter z) (complete x ends) (complete z)
  complete (g.of_binary x) ends = operators.binary_complete _ _ _ _ _ _ ends (complete x ends)
  complete (g.choice x z w) ends = operators.choice_complete _ _ _ _ _ _ _ _ _ _ _ _ _ _ ends (omega (arith, shorter z)) (complete x ends) (complete z) (complete w)
  complete (g.of_conditional x) ends = operators.conditional_complete _ _ _ _ _ _ ends (complete x ends)
  complete (g.assigns x i z) ends = operators.assigns_complete _ _ _ _ _ _ _ _ _ _ _ _ ends (at_level x).0 i (omega (arith, shorter x)) (complete x ends) (complete z)
  complete (g.of_assignment x) ends = operators.assignment_complete _ _ _ _ _ _ ends (at_level x) (complete x ends)
  complete (g.behind_marks x z) ends = operators.behind_marks_complete _ _ _ _ _ _ _ _ _ ends (marks_begin x) (marks_shorter x) (complete_marks x ends (at_level z)) (complete z)
  complete (g.of_marked x) ends = operators.marked_complete _ _ _ _ _ _ ends (complete x ends)
  complete (g.sequence x i z) ends = operators.sequence_complete _ _ _ _ _ _ _ _ _ _ ends i (parts_filled z) (omega (arith, shorter x)) (complete x ends) (complete_parts z)
  complete (g.longer_sequence x z) ends = operators.longer_sequence_complete _ _ _ _ _ _ _ _ _ _ _ ends (parts_filled z) (omega (arith, shorter x)) (complete x ends) (complete_parts z)

  pub complete_parts : {scope : Scope} {ts rest : List Symbol} {es : c.Expressions} {spots more : List ℕ} → AreParts scope ts es rest spots more → (ends : List ℕ) → Parts scope ts es rest spots more ends
  complete_parts (g.last_part x) ends = operators.last_part_complete _ _ _ _ _ _ ends (complete x ends)
  complete_parts (g.more_parts x z) ends = operators.more_parts_complete _ _ _ _ _ _ _ _ _ _ ends (omega (arith, shorter x)) (complete x ends) (complete_parts z)

  complete_arguments : {scope : Scope} {ts rest : List Symbol} {es : c.Expressions} {spots more : List ℕ} → AreArguments scope ts es rest spots more → (ends : List ℕ) → Arguments scope ts es rest spots more ends
  complete_arguments g.no_arguments ends = (refl, refl)
  complete_arguments (g.last_argument x) ends = expressions.last_argument_complete _ _ _ _ _ _ ends (starts x).no_end (complete x ends)
  complete_arguments (g.more_arguments x z) ends = expressions.more_arguments_complete _ _ _ _ _ _ _ _ _ _ _ ends (starts x).no_end (omega (arith, shorter x)) (complete x ends) (complete_arguments z)

  pub complete_mark : {scope : Scope} {ts rest : List Symbol} {m : c.Mark} {spots more : List ℕ} → IsMark scope ts m rest spots more → (ends : List ℕ) → marks.OneMark scope ts m rest spots more ends
  complete_mark (g.label x l) ends = marks.label_complete _ _ _ _ _ _ _ _ _ _ _ _ _ _ _ _ ends l (complete x ends)
  complete_mark (g.binding_label x l z) ends = marks.binding_label_complete _ _ _ _ _ _ _ _ _ _ _ _ _ _ _ _ _ _ _ ends l (omega (arith, shorter x)) (complete x ends) (complete_bindings z)

  complete_bindings : {scope : Scope} {ts rest : List Symbol} {b : c.Bindings} {spots more : List ℕ} → AreBindings scope ts b rest spots more → (ends : List ℕ) → marks.Bindings scope ts b rest spots more ends
  complete_bindings (g.last_binding x) ends = marks.last_binding_complete _ _ _ _ _ _ _ _ _ _ ends (complete x ends)
  complete_bindings (g.more_bindings x z) ends = marks.more_bindings_complete _ _ _ _ _ _ _ _ _ _ _ _ _ ends (bindings_begin z).0 (bindings_begin z).1 (shorter x) (complete x ends) (complete_bindings z)

  pub complete_marks : {scope : Scope} {ts rest : List Symbol} {ms : c.Marks} {spots more : List ℕ} → AreMarks scope ts ms rest spots more → (ends : List ℕ) → marks.Marks scope ts ms rest spots more ends
  complete_marks (g.last_mark x) ends = marks.last_mark_complete _ _ _ _ _ _ _ ends (complete_mark x ends)
  complete_marks (g.more_marks x z) ends = marks.more_marks_complete _ _ _ _ _ _ _ _ _ _ ends (marks_begin z) (omega (arith, mark_shorter x)) (complete_mark x ends) (complete_marks z)

  pub complete_type_name : {scope : Scope} {ts rest : List Symbol} {ss : c.Specifiers} {d : c.Declarator} {spots more : List ℕ} → IsTypeName scope ts ss d rest spots more
      → (ends : List ℕ) → Read (λ n. r.type_name n scope) walk_name 4 ts (ss, d) rest spots more ends
  complete_type_name (g.type_name x z) ends = parameters.type_name_complete _ _ _ _ _ _ _ _ _ ends (specifiers_shorter x) (complete_specifiers x ends) (complete_declarator z)

  pub complete_specifiers : {scope : Scope} {ts rest : List Symbol} {ss : c.Specifiers} {spots more : List ℕ} → AreSpecifiers scope ts ss rest spots more → (ends : List ℕ) → specifiers.Specifiers scope ts ss rest spots more ends
  complete_specifiers (g.some_specifiers b x) ends = specifiers.specifiers_complete _ _ _ _ _ _ _ ends b (complete_further x ends)

  complete_further : {scope : Scope} {typed : Bool} {ts rest : List Symbol} {words : c.Words} {types : c.TypeSpecifiers} {spots more : List ℕ}
      → AreFurther scope typed ts words types rest spots more → (ends : List ℕ) → specifiers.Further scope typed ts words types rest spots more ends
  complete_further (g.no_further i) ends = specifiers.no_further_complete _ _ _ _ ends i
  complete_further (g.storage {k = k} {class = class} i x) ends = specifiers.word_complete _ _ _ _ _ _ _ _ _ _ _ _ ends (storage_is k class i) refl refl (complete_further x ends)
  complete_further (g.inline_word x) ends = specifiers.word_complete _ _ _ _ _ _ _ _ _ _ _ _ ends inline_is refl refl (complete_further x ends)
  complete_further (g.noreturn_word x) ends = specifiers.word_complete _ _ _ _ _ _ _ _ _ _ _ _ ends noreturn_is refl refl (complete_further x ends)
  complete_further (g.const_word x) ends = specifiers.word_complete _ _ _ _ _ _ _ _ _ _ _ _ ends const_is refl refl (complete_further x ends)
  complete_further (g.volatile_word x) ends = specifiers.word_complete _ _ _ _ _ _ _ _ _ _ _ _ ends volatile_is refl refl (complete_further x ends)
  complete_further (g.type_word {k = k} {word = word} i x) ends = specifiers.type_word_complete _ _ _ _ _ _ _ _ _ _ _ ends (type_word_is k word i) (complete_further x)
  complete_further (g.typedef_name i x) ends = specifiers.typedef_name_complete _ _ _ _ _ _ _ _ _ ends i (complete_further x)
  complete_further (g.struct_or_enum {typed = typed} x z) ends = specifiers.type_complete _ _ _ _ _ _ _ _ _ _ _ ends (tagged_begins typed x) (tagged_shorter x) (complete_tagged x ends) (complete_further z)

  complete_tagged : {scope : Scope} {ts rest : List Symbol} {type : c.TypeSpecifier} {spots more : List ℕ} → IsTagged scope ts type rest spots more → (ends : List ℕ) → structs.Tagged scope ts type rest spots more ends
  complete_tagged (g.struct_tag i) ends = structs.struct_tag_complete _ _ _ _ _ _ ends i
  complete_tagged (g.struct_with_tag x) ends = structs.struct_with_tag_complete _ _ _ _ _ _ _ _ _ _ ends (complete_members x ends)
  complete_tagged (g.struct_without_tag x) ends = structs.struct_without_tag_complete _ _ _ _ _ _ _ _ ends (complete_members x ends)
  complete_tagged (g.enum_tag i) ends = structs.enum_tag_complete _ _ _ _ _ _ ends i
  complete_tagged (g.enum_with_tag x) ends = structs.enum_with_tag_complete _ _ _ _ _ _ _ _ _ _ ends (complete_enumerators x ends)
  complete_tagged (g.enum_without_tag x) ends = structs.enum_without_tag_complete _ _ _ _ _ _ _ _ ends (complete_enumerators x ends)

  complete_members : {scope : Scope} {ts rest : List Symbol} {ms : c.Members} {spots more : List ℕ} → AreMembers scope ts ms rest spots more → (ends : List ℕ) → structs.Members scope ts ms rest spots more ends
  complete_members g.no_more_members ends = structs.no_more_members_complete _ _ _ _ ends
  complete_members (g.one_more_member {ss = ss} x z w) ends =
      structs.one_more_member_complete _ _ _ _ _ _ _ _ _ _ _ _ ends (specifiers_no_brace x) (specifiers_shorter x) (member_declarators_shorter z)
      (complete_specifiers x ends) (complete_member_declarators z (behind_takes_a_name ss)) (complete_members w)

  complete_member_declarators : {scope : Scope} {naming : Naming} {ts rest : List Symbol} {ds : c.MemberDeclarators} {spots more : List ℕ}
      → AreMemberDeclarators scope naming ts ds rest spots more → takes_none naming ≡ false → (ends : List ℕ) → structs.Declarators scope naming ts ds rest spots more ends
  complete_member_declarators (g.no_member_declarators {at = at}) takes ends = (at, refl, refl)
  complete_member_declarators (g.last_member_declarator x z) takes ends = parameters.last_declarator_complete _ _ _ _ _ _ _ _ _ _ _ ends (named_declarator takes x) (declarator_short x) (complete_declarator x ends) (complete_after_sign z)
  complete_member_declarators (g.more_member_declarators x z w) takes ends =
      parameters.more_declarators_complete _ _ _ _ _ _ _ _ _ _ _ _ _ _ _ _ ends (named_declarator takes x) (declarator_short x) (omega (arith, after_sign_short z))
      (complete_declarator x ends) (complete_after_sign z) (complete_member_declarators w refl)

  complete_after_sign : {scope : Scope} {k : Terminal} {ts rest : List Symbol} {e : c.Maybe} {spots more : List ℕ} → IsAfterSign scope k ts e rest spots more → (ends : List ℕ) → structs.AfterSign scope k ts e rest spots more ends
  complete_after_sign (g.left_out i) ends = structs.left_out_complete _ _ _ _ ends i
  complete_after_sign (g.given {k = k} x) ends = structs.given_complete _ _ _ _ _ _ _ _ ends (is_same k) (complete x ends)

  complete_enumerators : {scope : Scope} {ts rest : List Symbol} {es : c.Enumerators} {spots more : List ℕ} → AreEnumerators scope ts es rest spots more → (ends : List ℕ) → structs.Enumerators scope ts es rest spots more ends
  complete_enumerators (g.last_enumerator x) ends = structs.last_enumerator_complete _ _ _ _ _ _ _ _ _ ends (complete_after_sign x ends)
  complete_enumerators (g.last_enumerator_and_comma x) ends = structs.last_enumerator_and_comma_complete _ _ _ _ _ _ _ _ _ _ ends (complete_after_sign x ends)
  complete_enumerators (g.more_enumerators x z) ends =
      structs.more_enumerators_complete _ _ _ _ _ _ _ _ _ _ _ _ ends (enumerators_begin z) (omega (arith, after_sign_short x)) (complete_after_sign x ends) (complete_enumerators z)

  pub complete_declarator : {scope : Scope} {naming : Naming} {ts rest : List Symbol} {d : c.Declarator} {spots more : List ℕ} → IsDeclarator scope naming ts d rest spots more
      → (ends : List ℕ) → declarators.Declared scope naming ts d rest spots more ends
  complete_declarator (g.written x i) ends = declarators.written_complete _ _ _ _ _ _ _ _ ends (pointers_begin x refl i) i (complete_pointers x ends)
  complete_declarator (g.missing i j) ends = declarators.missing_complete _ _ _ _ ends i j

  complete_pointers : {scope : Scope} {naming : Naming} {ts rest : List Symbol} {outer parts : c.Parts} {w : Option (List ℕ)} {spots more : List ℕ}
      → ArePointers scope naming ts outer w parts rest spots more → (ends : List ℕ) → declarators.Pointers scope naming ts outer w parts rest spots more ends
  complete_pointers (g.pointer q x) ends = declarators.pointer_complete _ _ _ _ _ _ _ _ _ _ _ _ ends q (qualifiers_short q) (complete_pointers x ends)
  complete_pointers (g.no_pointer i x) ends = declarators.no_pointer_complete _ _ _ _ _ _ _ _ _ ends i (complete_direct x ends)

  complete_direct : {scope : Scope} {naming : Naming} {ts rest : List Symbol} {outer parts : c.Parts} {w : Option (List ℕ)} {spots more : List ℕ}
      → IsDirect scope naming ts outer w parts rest spots more → (ends : List ℕ) → declarators.Direct scope naming ts outer w parts rest spots more ends
  complete_direct (g.by_name i x) ends = declarators.by_name_complete _ _ _ _ _ _ _ _ _ _ ends i (complete_suffixes x ends)
  complete_direct (g.by_nothing i j x) ends = declarators.by_nothing_complete _ _ _ _ _ _ _ _ ends i j (complete_suffixes x ends)
  complete_direct (g.nested inner i x is z) ends = declarators.nested_complete _ _ _ _ _ _ _ _ _ inner _ _ _ _ _ ends i is (omega (arith, pointers_short x)) (complete_pointers x ends) (complete_suffixes z)

  complete_suffixes : {scope : Scope} {ts rest : List Symbol} {outer parts : c.Parts} {spots more : List ℕ} → AreSuffixes scope ts outer parts rest spots more → (ends : List ℕ) → Suffixes scope ts outer parts rest spots more ends
  complete_suffixes (g.no_suffix i) ends = declarators.no_suffix_complete _ _ _ _ ends i
  complete_suffixes (g.unsized_array x) ends = declarators.unsized_complete _ _ _ _ _ _ _ _ _ ends (complete_suffixes x ends)
  complete_suffixes (g.array x z) ends = declarators.array_complete _ _ _ _ _ _ _ _ _ _ _ _ ends (starts x).no_close (omega (arith, shorter x)) (complete x ends) (complete_suffixes z)
  complete_suffixes (g.function x z) ends = declarators.function_complete _ _ _ _ _ _ _ _ _ _ _ ends (parameters_shorter x) (complete_parameters x ends) (complete_suffixes z)

  complete_parameters : {scope : Scope} {ts rest : List Symbol} {ps : c.Parameters} {spots more : List ℕ} → AreParameters scope ts ps rest spots more → (ends : List ℕ) → declarators.Parameters scope ts ps rest spots more ends
  complete_parameters g.unstated ends = parameters.unstated_complete _ _ _ _ ends
  complete_parameters g.void_alone ends = parameters.void_alone_complete _ _ _ _ _ ends
  complete_parameters (g.listed i x) ends = parameters.listed_complete _ _ _ _ _ _ _ ends (list_no_paren x) i (complete_list x ends)
  complete_parameters (g.open_list x) ends = parameters.open_list_complete _ _ _ _ _ _ _ _ _ ends (list_no_paren x) (complete_list x ends)

  complete_list : {scope : Scope} {ts rest : List Symbol} {ps : c.ParameterList} {spots more : List ℕ} → IsParameterList scope ts ps rest spots more → (ends : List ℕ) → parameters.ParameterList scope ts ps rest spots more ends
  complete_list (g.last_parameter x z) ends = parameters.last_parameter_complete _ _ _ _ _ _ _ _ _ ends (specifiers_shorter x) (complete_specifiers x ends) (complete_declarator z)
  complete_list (g.more_parameters x z w) ends =
      parameters.more_parameters_complete _ _ _ _ _ _ _ _ _ _ _ _ _ ends (list_no_ellipsis w) (specifiers_shorter x) (omega (arith, declarator_short z))
      (complete_specifiers x ends) (complete_declarator z) (complete_list w)
