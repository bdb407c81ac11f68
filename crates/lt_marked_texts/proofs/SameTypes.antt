-- What symbols derive and has no mark is what it is without its marks, rule by rule of the grammar.
use Rattle.std.proofs.Common.{◌≡◌, ℕ, Bool, true, false, List, Option, Some, None, refl, ap, ◌∙◌}
use Rattle.std.specs.Prelude.{option_and_then}
use Rattle.lt_tree.specs.declared.specifier.BasicType.{BasicType}
use Rattle.lt_tree.specs.declared.terminal.Terminal.{Terminal}
use Rattle.lt_tree.specs.Tree as c
use Rattle.lt_tree.specs.Comma.{followed_by, comma_of, is_comma}
use Rattle.lt_tree.specs.Symbols.{Symbol}
use Rattle.lt_tree.specs.TypeWords.{basic_of, words_alone, or_as_they_stand, gathered}
use Rattle.lt_tree.specs.Scope.{Scope}
use Rattle.lt_tree.specs.Operators.{Infix, arithmetic, connective, operation}
use Rattle.lt_tree.specs.Ahead.{Naming}
use Rattle.lt_tree.specs.Erasure.{erased, erased_comma, erased_expressions, erased_maybe, erased_specifiers, erased_types, erased_type, erased_members, erased_member_declarators, erased_enumerators, erased_declarator, erased_parts, erased_parameters, erased_parameter_list}
use Rattle.lt_tree.specs.Grammar as g
use Rattle.lt_tree.specs.Grammar.{Level}
use Rattle.lt_print.proofs.Claims.{IsSequence}
use Rattle.lt_marked_texts.proofs.Free.{Free, FreeAll, FreeMaybe, FreeMarks, FreeMark, FreeSpecifiers, FreeTypes, FreeType, FreeMembers, FreeMemberDeclarators, FreeEnumerators, FreeDeclarator, FreeParts, FreeParameters, FreeList}
use Rattle.lt_marked_texts.proofs.Good.{longer}
use Rattle.lt_marked_texts.proofs.Arguments.{both, three}

-- ---- comma expressions

comma_kept : (first second : c.Expression) (rest : c.Expressions) → is_comma first ≡ false
    → comma_of first (c.an_expression second rest) ≡ c.Comma (c.an_expression first (c.an_expression second rest))
comma_kept (c.Comma parts) second rest h = absurd cc
comma_kept first second rest h = refl

-- two or more parts, the first of which is no comma expression, none with a mark
comma_same : (parts : c.Expressions) → IsSequence parts → erased_expressions parts ≡ parts → erased_comma parts ≡ c.Comma parts
comma_same c.no_expressions is same = absurd is
comma_same (c.an_expression first c.no_expressions) is same = absurd is
comma_same (c.an_expression first (c.an_expression second rest)) is same =
    let front : erased first ≡ first = cc in
    let back : c.an_expression (erased second) (erased_expressions rest) ≡ c.an_expression second rest = cc in
    ap (λ e. comma_of e (c.an_expression (erased second) (erased_expressions rest))) front ∙ ap (comma_of first) back ∙ comma_kept first second rest is

erased_behind : (front parts : c.Expressions) → erased_expressions front ≡ front → erased_expressions parts ≡ parts → erased_expressions (followed_by front parts) ≡ followed_by front parts
erased_behind c.no_expressions parts a b = b
erased_behind (c.an_expression e es) parts a b =
    let first : erased e ≡ e = cc in let others : erased_expressions es ≡ es = cc in both c.an_expression first (erased_behind es parts others b)

free_front : (front parts : c.Expressions) → FreeAll true (followed_by front parts) → FreeAll true front
free_front c.no_expressions parts free = tt
free_front (c.an_expression e es) parts free = (free.0, free_front es parts free.1)

free_back : (front parts : c.Expressions) → FreeAll true (followed_by front parts) → FreeAll true parts
free_back c.no_expressions parts free = free
free_back (c.an_expression e es) parts free = free_back es parts free.1

abbrev PartsSame : c.Expression → Type 0
PartsSame (c.Comma parts) = IsSequence parts × (erased_expressions parts ≡ parts)
PartsSame e = Unit {0}

record Same (e : c.Expression) : Type 0 where
  whole : erased e ≡ e
  parts : PartsSame e

of_comma : (parts : c.Expressions) → IsSequence parts → erased_expressions parts ≡ parts → Same (c.Comma parts)
of_comma parts is same = record { whole = comma_same parts is same; parts = (is, same) }

are_longer : (front parts : c.Expressions) → Same (c.Comma front) → erased_expressions parts ≡ parts → Same (c.Comma (followed_by front parts))
are_longer front parts a b = of_comma (followed_by front parts) (longer front parts a.parts.0) (erased_behind front parts a.parts.1 b)

abbrev IsFilled : c.Expressions → Type 0
IsFilled c.no_expressions = ⊥
IsFilled (c.an_expression e es) = Unit {0}

of_sequence : (first : c.Expression) (parts : c.Expressions) → is_comma first ≡ false → IsFilled parts → erased first ≡ first → erased_expressions parts ≡ parts → Same (c.Comma (c.an_expression first parts))
of_sequence first c.no_expressions h filled a b = absurd filled
of_sequence first (c.an_expression second rest) h filled a b = of_comma (c.an_expression first (c.an_expression second rest)) h (both c.an_expression a b)

plain : (e : c.Expression) → is_comma e ≡ false → erased e ≡ e → Same e
plain (c.Comma parts) h same = absurd cc
plain e h same = record { whole = same; parts = tt }

operation_same : (op : Infix) (left right : c.Expression) → Free true (operation op left right)
    → (Free true left → erased left ≡ left) → (Free true right → erased right ≡ right) → Same (operation op left right)
operation_same (arithmetic o) left right free a b = plain (c.Binary o left right) refl (both (c.Binary o) (a free.0) (b free.1))
operation_same (connective o) left right free a b = plain (c.Logical o left right) refl (both (c.Logical o) (a free.0) (b free.1))

is_marked : {scope : Scope} {ts : List Symbol} {m : c.Mark} {rest : List Symbol} {spots more : List ℕ} → g.IsMark scope ts m rest spots more → FreeMark true m → true ≡ false
is_marked (g.label d l) free = free.0
is_marked (g.binding_label d l bs) free = free.0

of_marks : {scope : Scope} {ts : List Symbol} {ms : c.Marks} {rest : List Symbol} {spots more : List ℕ} → g.AreMarks scope ts ms rest spots more → FreeMarks true ms → true ≡ false
of_marks (g.last_mark m) free = is_marked m free.0
of_marks (g.more_marks m ms) free = is_marked m free.0

no_mark : {A : Type 0} → true ≡ false → A
no_mark h = absurd cc

-- ---- types

gathered_same : (types : c.TypeSpecifiers) → FreeTypes (gathered types) → (FreeTypes types → erased_types types ≡ types) → erased_types (gathered types) ≡ gathered types
gathered_same types free h = step (option_and_then basic_of (words_alone types)) free
  where
    step : (o : Option BasicType) → FreeTypes (or_as_they_stand types o) → erased_types (or_as_they_stand types o) ≡ or_as_they_stand types o
    step None free = h free
    step (Some type) free = refl

-- parts with those around them
record Around (outer parts : c.Parts) : Type 0 where
  outer_free : FreeParts outer
  same : erased_parts outer ≡ outer → erased_parts parts ≡ parts

through : {a b d : c.Parts} → Around a b → Around b d → Around a d
through x y = record { outer_free = x.outer_free; same = λ h. y.same (x.same h) }

mutual
  of_expression : {scope : Scope} {level : Level} {ts : List Symbol} {e : c.Expression} {rest : List Symbol} {spots more : List ℕ}
      → g.IsExpression scope level ts e rest spots more → Free true e → Same e
  of_expression (g.name {w} h) free = plain (c.Name w) refl refl
  of_expression (g.constant {w}) free = plain (c.Constant w) refl refl
  of_expression (g.text {bytes} t) free = plain (c.Text bytes) refl refl
  of_expression (g.parentheses d) free = of_expression d free
  of_expression (g.decide d l) free = no_mark free.0
  of_expression (g.after d l) free = no_mark free.0
  of_expression (g.of_primary d) free = of_expression d free
  of_expression (g.index {whole} {place} a b) free = plain (c.Index whole place) refl (both c.Index (of_expression a free.0).whole (of_expression b free.1).whole)
  of_expression (g.call {callee} {arguments} a b) free = plain (c.Call callee arguments) refl (both c.Call (of_expression a free.0).whole (of_arguments b free.1))
  of_expression (g.member {w} {e} d) free = plain (c.Member e w) refl (ap (λ x. c.Member x w) (of_expression d free).whole)
  of_expression (g.arrow {w} {e} d) free = plain (c.Arrow e w) refl (ap (λ x. c.Arrow x w) (of_expression d free).whole)
  of_expression (g.increment_behind {e} d) free = plain (c.PostInc e) refl (ap c.PostInc (of_expression d free).whole)
  of_expression (g.decrement_behind {e} d) free = plain (c.PostDec e) refl (ap c.PostDec (of_expression d free).whole)
  of_expression (g.of_postfix d) free = of_expression d free
  of_expression (g.increment_before {e} d) free = plain (c.PreInc e) refl (ap c.PreInc (of_expression d free).whole)
  of_expression (g.decrement_before {e} d) free = plain (c.PreDec e) refl (ap c.PreDec (of_expression d free).whole)
  of_expression (g.prefixed {op} {e} h d) free = plain (c.Unary op e) refl (ap (c.Unary op) (of_expression d free).whole)
  of_expression (g.sizeof_expression {e} d) free = plain (c.SizeofExpr e) refl (ap c.SizeofExpr (of_expression d free).whole)
  of_expression (g.sizeof_type {ss} {d} t) free = let same = of_type_name t free.0 free.1 in plain (c.SizeofType ss d) refl (both c.SizeofType same.0 same.1)
  of_expression (g.of_unary d) free = of_expression d free
  of_expression (g.cast_to {ss} {d = declared} {e} t d) free =
      let same = of_type_name t free.0 free.1 in plain (c.Cast ss declared e) refl (three (λ x y z. c.Cast x y z) same.0 same.1 (of_expression d free.2).whole)
  of_expression (g.of_cast d) free = of_expression d free
  of_expression (g.of_tighter d) free = of_expression d free
  of_expression (g.operates {op} {left} {right} a i b) free = operation_same op left right free (λ f. (of_expression a f).whole) (λ f. (of_expression b f).whole)
  of_expression (g.of_binary d) free = of_expression d free
  of_expression (g.choice {test} {left} {right} a b d) free =
      plain (c.Conditional test left right) refl (three (λ x y z. c.Conditional x y z) (of_expression a free.0).whole (of_expression b free.1).whole (of_expression d free.2).whole)
  of_expression (g.of_conditional d) free = of_expression d free
  of_expression (g.assigns {op} {target} {value} a i b) free = plain (c.Assign op target value) refl (both (c.Assign op) (of_expression a free.0).whole (of_expression b free.1).whole)
  of_expression (g.of_assignment d) free = of_expression d free
  of_expression (g.behind_marks ms d) free = no_mark (of_marks ms free.0)
  of_expression (g.of_marked d) free = of_expression d free
  of_expression (g.sequence {first} {parts} a n ps) free = let others = of_parts ps free.1 in of_sequence first parts n others.0 (of_expression a free.0).whole others.1
  of_expression (g.longer_sequence {front} {parts} a ps) free =
      are_longer front parts (of_expression a (free_front front parts free)) (of_parts ps (free_back front parts free)).1

  of_parts : {scope : Scope} {ts : List Symbol} {es : c.Expressions} {rest : List Symbol} {spots more : List ℕ} → g.AreParts scope ts es rest spots more → FreeAll true es
      → IsFilled es × (erased_expressions es ≡ es)
  of_parts (g.last_part {e} d) free = (tt, ap (λ x. c.an_expression x c.no_expressions) (of_expression d free.0).whole)
  of_parts (g.more_parts d ps) free = (tt, both c.an_expression (of_expression d free.0).whole (of_parts ps free.1).1)

  of_arguments : {scope : Scope} {ts : List Symbol} {es : c.Expressions} {rest : List Symbol} {spots more : List ℕ} → g.AreArguments scope ts es rest spots more → FreeAll true es
      → erased_expressions es ≡ es
  of_arguments g.no_arguments free = refl
  of_arguments (g.last_argument d) free = ap (λ x. c.an_expression x c.no_expressions) (of_expression d free.0).whole
  of_arguments (g.more_arguments d es) free = both c.an_expression (of_expression d free.0).whole (of_arguments es free.1)

  of_type_name : {scope : Scope} {ts : List Symbol} {ss : c.Specifiers} {d : c.Declarator} {rest : List Symbol} {spots more : List ℕ}
      → g.IsTypeName scope ts ss d rest spots more → FreeSpecifiers ss → FreeDeclarator d → (erased_specifiers ss ≡ ss) × (erased_declarator d ≡ d)
  of_type_name (g.type_name s d) a b = (of_specifiers s a, of_declarator d b)

  of_specifiers : {scope : Scope} {ts : List Symbol} {ss : c.Specifiers} {rest : List Symbol} {spots more : List ℕ} → g.AreSpecifiers scope ts ss rest spots more → FreeSpecifiers ss
      → erased_specifiers ss ≡ ss
  of_specifiers (g.some_specifiers {words} {types} b f) free = ap (c.specifiers words) (gathered_same types free (of_further f))

  of_further : {scope : Scope} {typed : Bool} {ts : List Symbol} {words : c.Words} {types : c.TypeSpecifiers} {rest : List Symbol} {spots more : List ℕ}
      → g.AreFurther scope typed ts words types rest spots more → FreeTypes types → erased_types types ≡ types
  of_further (g.no_further n) free = refl
  of_further (g.storage s f) free = of_further f free
  of_further (g.inline_word f) free = of_further f free
  of_further (g.noreturn_word f) free = of_further f free
  of_further (g.const_word f) free = of_further f free
  of_further (g.volatile_word f) free = of_further f free
  of_further (g.type_word {word} w f) free = ap (c.a_type (c.Word word)) (of_further f free.1)
  of_further (g.typedef_name {w} t f) free = ap (c.a_type (c.Named w)) (of_further f free.1)
  of_further (g.struct_or_enum t f) free = both c.a_type (of_tagged t free.0) (of_further f free.1)

  of_tagged : {scope : Scope} {ts : List Symbol} {type : c.TypeSpecifier} {rest : List Symbol} {spots more : List ℕ} → g.IsTagged scope ts type rest spots more → FreeType type
      → erased_type type ≡ type
  of_tagged (g.struct_tag n) free = refl
  of_tagged (g.struct_with_tag {w} ms) free = ap (c.Struct (Some w)) (of_members ms free)
  of_tagged (g.struct_without_tag ms) free = ap (c.Struct None) (of_members ms free)
  of_tagged (g.enum_tag n) free = refl
  of_tagged (g.enum_with_tag {w} es) free = ap (c.Enum (Some w)) (of_enumerators es free)
  of_tagged (g.enum_without_tag es) free = ap (c.Enum None) (of_enumerators es free)

  of_members : {scope : Scope} {ts : List Symbol} {ms : c.Members} {rest : List Symbol} {spots more : List ℕ} → g.AreMembers scope ts ms rest spots more → FreeMembers ms
      → erased_members ms ≡ ms
  of_members g.no_more_members free = refl
  of_members (g.one_more_member s ds ms) free =
      three (λ x y z. c.a_member (c.member x y) z) (of_specifiers s free.0.0) (of_member_declarators ds free.0.1) (of_members ms free.1)

  of_member_declarators : {scope : Scope} {naming : Naming} {ts : List Symbol} {ds : c.MemberDeclarators} {rest : List Symbol} {spots more : List ℕ}
      → g.AreMemberDeclarators scope naming ts ds rest spots more → FreeMemberDeclarators ds → erased_member_declarators ds ≡ ds
  of_member_declarators g.no_member_declarators free = refl
  of_member_declarators (g.last_member_declarator d w) free = both (λ x y. c.a_declarator x y c.no_declarators) (of_declarator d free.0) (of_after_sign w free.1)
  of_member_declarators (g.more_member_declarators d w ds) free =
      three (λ x y z. c.a_declarator x y z) (of_declarator d free.0) (of_after_sign w free.1) (of_member_declarators ds free.2)

  of_after_sign : {scope : Scope} {k : Terminal} {ts : List Symbol} {e : c.Maybe} {rest : List Symbol} {spots more : List ℕ} → g.IsAfterSign scope k ts e rest spots more → FreeMaybe e
      → erased_maybe e ≡ e
  of_after_sign (g.left_out n) free = refl
  of_after_sign (g.given d) free = ap c.present (of_expression d free).whole

  of_enumerators : {scope : Scope} {ts : List Symbol} {es : c.Enumerators} {rest : List Symbol} {spots more : List ℕ} → g.AreEnumerators scope ts es rest spots more → FreeEnumerators es
      → erased_enumerators es ≡ es
  of_enumerators (g.last_enumerator {w} v) free = ap (λ x. c.an_enumerator w x c.no_enumerators) (of_after_sign v free.0)
  of_enumerators (g.last_enumerator_and_comma {w} v) free = ap (λ x. c.an_enumerator w x c.no_enumerators) (of_after_sign v free.0)
  of_enumerators (g.more_enumerators {w} v es) free = both (c.an_enumerator w) (of_after_sign v free.0) (of_enumerators es free.1)

  of_declarator : {scope : Scope} {naming : Naming} {ts : List Symbol} {d : c.Declarator} {rest : List Symbol} {spots more : List ℕ}
      → g.IsDeclarator scope naming ts d rest spots more → FreeDeclarator d → erased_declarator d ≡ d
  of_declarator (g.written {name} p m) free = ap (c.declarator name) ((of_pointers p free).same refl)
  of_declarator (g.missing n b) free = refl

  of_pointers : {scope : Scope} {naming : Naming} {ts : List Symbol} {outer : c.Parts} {name : Option (List ℕ)} {parts : c.Parts} {rest : List Symbol} {spots more : List ℕ}
      → g.ArePointers scope naming ts outer name parts rest spots more → FreeParts parts → Around outer parts
  of_pointers (g.pointer {q} x p) free = let inner = of_pointers p free in record { outer_free = inner.outer_free; same = λ h. inner.same (ap (c.Pointer q) h) }
  of_pointers (g.no_pointer n d) free = of_direct d free

  of_direct : {scope : Scope} {naming : Naming} {ts : List Symbol} {outer : c.Parts} {name : Option (List ℕ)} {parts : c.Parts} {rest : List Symbol} {spots more : List ℕ}
      → g.IsDirect scope naming ts outer name parts rest spots more → FreeParts parts → Around outer parts
  of_direct (g.by_name t s) free = of_suffixes s free
  of_direct (g.by_nothing t b s) free = of_suffixes s free
  of_direct (g.nested inner o p i s) free = let front = of_pointers p free in through (of_suffixes s front.outer_free) front

  of_suffixes : {scope : Scope} {ts : List Symbol} {outer parts : c.Parts} {rest : List Symbol} {spots more : List ℕ}
      → g.AreSuffixes scope ts outer parts rest spots more → FreeParts parts → Around outer parts
  of_suffixes (g.no_suffix n) free = record { outer_free = free; same = λ h. h }
  of_suffixes (g.unsized_array s) free = let others = of_suffixes s free.1 in record { outer_free = others.outer_free; same = λ h. ap (c.Array c.absent) (others.same h) }
  of_suffixes (g.array {e} d s) free =
      let others = of_suffixes s free.1 in
      let length = (of_expression d free.0).whole in
      record { outer_free = others.outer_free; same = λ h. both (λ x y. c.Array (c.present x) y) length (others.same h) }
  of_suffixes (g.function ps s) free =
      let others = of_suffixes s free.1 in
      let inside = of_parameters ps free.0 in
      record { outer_free = others.outer_free; same = λ h. both c.Function inside (others.same h) }

  of_parameters : {scope : Scope} {ts : List Symbol} {ps : c.Parameters} {rest : List Symbol} {spots more : List ℕ} → g.AreParameters scope ts ps rest spots more → FreeParameters ps
      → erased_parameters ps ≡ ps
  of_parameters g.unstated free = refl
  of_parameters g.void_alone free = refl
  of_parameters (g.listed v x) free = ap c.Listed (of_parameter_list x free)
  of_parameters (g.open_list x) free = ap c.Open (of_parameter_list x free)

  of_parameter_list : {scope : Scope} {ts : List Symbol} {ps : c.ParameterList} {rest : List Symbol} {spots more : List ℕ} → g.IsParameterList scope ts ps rest spots more → FreeList ps
      → erased_parameter_list ps ≡ ps
  of_parameter_list (g.last_parameter s d) free = both (λ x y. c.a_parameter x y c.no_parameters) (of_specifiers s free.0) (of_declarator d free.1)
  of_parameter_list (g.more_parameters s d ps) free = three (λ x y z. c.a_parameter x y z) (of_specifiers s free.0) (of_declarator d free.1) (of_parameter_list ps free.2)

-- An operand of `sizeof`, and a type name.
pub operand_same : {scope : Scope} {level : Level} {ts : List Symbol} {e : c.Expression} {rest : List Symbol} {spots more : List ℕ}
    → g.IsExpression scope level ts e rest spots more → Free true e → erased e ≡ e
operand_same d free = (of_expression d free).whole

pub type_name_same : {scope : Scope} {ts : List Symbol} {ss : c.Specifiers} {d : c.Declarator} {rest : List Symbol} {spots more : List ℕ}
    → g.IsTypeName scope ts ss d rest spots more → FreeSpecifiers ss → FreeDeclarator d → (erased_specifiers ss ≡ ss) × (erased_declarator d ≡ d)
type_name_same = of_type_name
