-- How many symbols a derivation takes, and what it begins with.
use Rattle.std.proofs.Common.{◌≡◌, ℕ, ◌<◌, ◌≤◌, Bool, true, false, List, ◌∷◌, length, Option, None, refl, arith}
use Rattle.lt_tree.specs.declared.terminal.Terminal.{Terminal}
use Rattle.lt_tree.specs.declared.terminal.Terminal.TheVariants as t
use Rattle.lt_tree.specs.Tree as c
use Rattle.lt_tree.specs.Symbols.{Symbol, sign}
use Rattle.lt_tree.specs.Scope.{Scope}
use Rattle.lt_tree.specs.Operators.{prefix_of}
use Rattle.lt_tree.specs.Ahead.{Naming, same_terminal, terminal_at, sees, begins_specifier}
use Rattle.lt_tree.specs.Grammar as g
use Rattle.lt_tree.specs.Grammar.{Level, IsText, AreQualifiers, IsExpression, AreParts, AreArguments, IsMark, AreBindings, AreMarks, IsTypeName, AreSpecifiers, AreFurther, IsTagged, AreMembers, AreMemberDeclarators, IsAfterSign, AreEnumerators, IsDeclarator, ArePointers, IsDirect, AreSuffixes, AreParameters, IsParameterList}
use Rattle.lt_expr.specs.Front.{begins_mark, begins_cast}
use Rattle.lt_expr.proofs.CompleteFronts.{IsPrefix, prefix_is}

-- ---- a derivation takes symbols

text_shorter : {ts rest : List Symbol} {bytes : List ℕ} → IsText ts bytes rest → length rest < length ts
text_shorter (g.one_literal l) = omega arith
text_shorter (g.more_literals l d) = omega (arith, text_shorter d)

pub qualifiers_short : {ts rest : List Symbol} {q : c.Qualifiers} → AreQualifiers ts q rest → length rest ≤ length ts
qualifiers_short (g.no_qualifiers a b) = omega arith
qualifiers_short (g.constant d) = omega (arith, qualifiers_short d)
qualifiers_short (g.volatile d) = omega (arith, qualifiers_short d)

mutual
  pub shorter : {scope : Scope} {l : Level} {ts rest : List Symbol} {e : c.Expression} {spots more : List ℕ} → IsExpression scope l ts e rest spots more → length rest < length ts
  shorter (g.name e) = omega arith
  shorter g.constant = omega arith
  shorter (g.text d) = text_shorter d
  shorter (g.parentheses d) = omega (arith, shorter d)
  shorter (g.decide d l) = omega (arith, shorter d)
  shorter (g.after d l) = omega (arith, shorter d)
  shorter (g.of_primary d) = shorter d
  shorter (g.index a b) = omega (arith, shorter a, shorter b)
  shorter (g.call a b) = omega (arith, shorter a, arguments_short b)
  shorter (g.member d) = omega (arith, shorter d)
  shorter (g.arrow d) = omega (arith, shorter d)
  shorter (g.increment_behind d) = omega (arith, shorter d)
  shorter (g.decrement_behind d) = omega (arith, shorter d)
  shorter (g.of_postfix d) = shorter d
  shorter (g.increment_before d) = omega (arith, shorter d)
  shorter (g.decrement_before d) = omega (arith, shorter d)
  shorter (g.prefixed p d) = omega (arith, shorter d)
  shorter (g.sizeof_expression d) = omega (arith, shorter d)
  shorter (g.sizeof_type d) = omega (arith, type_name_shorter d)
  shorter (g.of_unary d) = shorter d
  shorter (g.cast_to a b) = omega (arith, type_name_shorter a, shorter b)
  shorter (g.of_cast d) = shorter d
  shorter (g.of_tighter d) = shorter d
  shorter (g.operates a i b) = omega (arith, shorter a, shorter b)
  shorter (g.of_binary d) = shorter d
  shorter (g.choice a b d) = omega (arith, shorter a, shorter b, shorter d)
  shorter (g.of_conditional d) = shorter d
  shorter (g.assigns a i b) = omega (arith, shorter a, shorter b)
  shorter (g.of_assignment d) = shorter d
  shorter (g.behind_marks a b) = omega (arith, marks_shorter a, shorter b)
  shorter (g.of_marked d) = shorter d
  shorter (g.sequence a i b) = omega (arith, shorter a, parts_shorter b)
  shorter (g.longer_sequence a b) = omega (arith, shorter a, parts_shorter b)

  pub parts_shorter : {scope : Scope} {ts rest : List Symbol} {es : c.Expressions} {spots more : List ℕ} → AreParts scope ts es rest spots more → length rest < length ts
  parts_shorter (g.last_part d) = shorter d
  parts_shorter (g.more_parts a b) = omega (arith, shorter a, parts_shorter b)

  pub arguments_short : {scope : Scope} {ts rest : List Symbol} {es : c.Expressions} {spots more : List ℕ} → AreArguments scope ts es rest spots more → length rest ≤ length ts
  arguments_short g.no_arguments = omega arith
  arguments_short (g.last_argument d) = omega (arith, shorter d)
  arguments_short (g.more_arguments a b) = omega (arith, shorter a, arguments_short b)

  pub mark_shorter : {scope : Scope} {ts rest : List Symbol} {m : c.Mark} {spots more : List ℕ} → IsMark scope ts m rest spots more → length rest < length ts
  mark_shorter (g.label d l) = omega (arith, shorter d)
  mark_shorter (g.binding_label d l b) = omega (arith, shorter d, bindings_shorter b)

  pub bindings_shorter : {scope : Scope} {ts rest : List Symbol} {b : c.Bindings} {spots more : List ℕ} → AreBindings scope ts b rest spots more → length rest < length ts
  bindings_shorter (g.last_binding d) = omega (arith, shorter d)
  bindings_shorter (g.more_bindings a b) = omega (arith, shorter a, bindings_shorter b)

  pub marks_shorter : {scope : Scope} {ts rest : List Symbol} {ms : c.Marks} {spots more : List ℕ} → AreMarks scope ts ms rest spots more → length rest < length ts
  marks_shorter (g.last_mark d) = omega (arith, mark_shorter d)
  marks_shorter (g.more_marks a b) = omega (arith, mark_shorter a, marks_shorter b)

  pub type_name_shorter : {scope : Scope} {ts rest : List Symbol} {ss : c.Specifiers} {d : c.Declarator} {spots more : List ℕ} → IsTypeName scope ts ss d rest spots more → length rest < length ts
  type_name_shorter (g.type_name a b) = omega (arith, specifiers_shorter a, declarator_short b)

  pub specifiers_shorter : {scope : Scope} {ts rest : List Symbol} {ss : c.Specifiers} {spots more : List ℕ} → AreSpecifiers scope ts ss rest spots more → length rest < length ts
  specifiers_shorter (g.some_specifiers b d) = further_shorter b d

  further_shorter : {scope : Scope} {typed : Bool} {ts rest : List Symbol} {words : c.Words} {types : c.TypeSpecifiers} {spots more : List ℕ}
      → begins_specifier scope typed ts ≡ true → AreFurther scope typed ts words types rest spots more → length rest < length ts
  further_shorter b (g.no_further e) = absurd cc
  further_shorter b (g.storage e d) = omega (arith, further_short d)
  further_shorter b (g.inline_word d) = omega (arith, further_short d)
  further_shorter b (g.noreturn_word d) = omega (arith, further_short d)
  further_shorter b (g.const_word d) = omega (arith, further_short d)
  further_shorter b (g.volatile_word d) = omega (arith, further_short d)
  further_shorter b (g.type_word e d) = omega (arith, further_short d)
  further_shorter b (g.typedef_name e d) = omega (arith, further_short d)
  further_shorter b (g.struct_or_enum a d) = omega (arith, tagged_shorter a, further_short d)

  pub further_short : {scope : Scope} {typed : Bool} {ts rest : List Symbol} {words : c.Words} {types : c.TypeSpecifiers} {spots more : List ℕ}
      → AreFurther scope typed ts words types rest spots more → length rest ≤ length ts
  further_short (g.no_further e) = omega arith
  further_short (g.storage e d) = omega (arith, further_short d)
  further_short (g.inline_word d) = omega (arith, further_short d)
  further_short (g.noreturn_word d) = omega (arith, further_short d)
  further_short (g.const_word d) = omega (arith, further_short d)
  further_short (g.volatile_word d) = omega (arith, further_short d)
  further_short (g.type_word e d) = omega (arith, further_short d)
  further_short (g.typedef_name e d) = omega (arith, further_short d)
  further_short (g.struct_or_enum a d) = omega (arith, tagged_shorter a, further_short d)

  pub tagged_shorter : {scope : Scope} {ts rest : List Symbol} {type : c.TypeSpecifier} {spots more : List ℕ} → IsTagged scope ts type rest spots more → length rest < length ts
  tagged_shorter (g.struct_tag e) = omega arith
  tagged_shorter (g.struct_with_tag d) = omega (arith, members_shorter d)
  tagged_shorter (g.struct_without_tag d) = omega (arith, members_shorter d)
  tagged_shorter (g.enum_tag e) = omega arith
  tagged_shorter (g.enum_with_tag d) = omega (arith, enumerators_shorter d)
  tagged_shorter (g.enum_without_tag d) = omega (arith, enumerators_shorter d)

  pub members_shorter : {scope : Scope} {ts rest : List Symbol} {ms : c.Members} {spots more : List ℕ} → AreMembers scope ts ms rest spots more → length rest < length ts
  members_shorter g.no_more_members = omega arith
  members_shorter (g.one_more_member a b d) = omega (arith, specifiers_shorter a, member_declarators_shorter b, members_shorter d)

  pub member_declarators_shorter : {scope : Scope} {naming : Naming} {ts rest : List Symbol} {ds : c.MemberDeclarators} {spots more : List ℕ}
      → AreMemberDeclarators scope naming ts ds rest spots more → length rest < length ts
  member_declarators_shorter g.no_member_declarators = omega arith
  member_declarators_shorter (g.last_member_declarator a b) = omega (arith, declarator_short a, after_sign_short b)
  member_declarators_shorter (g.more_member_declarators a b d) = omega (arith, declarator_short a, after_sign_short b, member_declarators_shorter d)

  pub after_sign_short : {scope : Scope} {k : Terminal} {ts rest : List Symbol} {e : c.Maybe} {spots more : List ℕ} → IsAfterSign scope k ts e rest spots more → length rest ≤ length ts
  after_sign_short (g.left_out e) = omega arith
  after_sign_short (g.given d) = omega (arith, shorter d)

  pub enumerators_shorter : {scope : Scope} {ts rest : List Symbol} {es : c.Enumerators} {spots more : List ℕ} → AreEnumerators scope ts es rest spots more → length rest < length ts
  enumerators_shorter (g.last_enumerator d) = omega (arith, after_sign_short d)
  enumerators_shorter (g.last_enumerator_and_comma d) = omega (arith, after_sign_short d)
  enumerators_shorter (g.more_enumerators a b) = omega (arith, after_sign_short a, enumerators_shorter b)

  pub declarator_short : {scope : Scope} {naming : Naming} {ts rest : List Symbol} {d : c.Declarator} {spots more : List ℕ}
      → IsDeclarator scope naming ts d rest spots more → length rest ≤ length ts
  declarator_short (g.written d e) = pointers_short d
  declarator_short (g.missing a b) = omega arith

  pub pointers_short : {scope : Scope} {naming : Naming} {ts rest : List Symbol} {outer parts : c.Parts} {name : Option (List ℕ)} {spots more : List ℕ}
      → ArePointers scope naming ts outer name parts rest spots more → length rest ≤ length ts
  pointers_short (g.pointer q d) = omega (arith, qualifiers_short q, pointers_short d)
  pointers_short (g.no_pointer e d) = direct_short d

  pub direct_short : {scope : Scope} {naming : Naming} {ts rest : List Symbol} {outer parts : c.Parts} {name : Option (List ℕ)} {spots more : List ℕ}
      → IsDirect scope naming ts outer name parts rest spots more → length rest ≤ length ts
  direct_short (g.by_name e d) = omega (arith, suffixes_short d)
  direct_short (g.by_nothing a b d) = suffixes_short d
  direct_short (g.nested inner e a i b) = omega (arith, pointers_short a, suffixes_short b)

  pub suffixes_short : {scope : Scope} {ts rest : List Symbol} {outer parts : c.Parts} {spots more : List ℕ} → AreSuffixes scope ts outer parts rest spots more → length rest ≤ length ts
  suffixes_short (g.no_suffix e) = omega arith
  suffixes_short (g.unsized_array d) = omega (arith, suffixes_short d)
  suffixes_short (g.array a b) = omega (arith, shorter a, suffixes_short b)
  suffixes_short (g.function a b) = omega (arith, parameters_shorter a, suffixes_short b)

  pub parameters_shorter : {scope : Scope} {ts rest : List Symbol} {ps : c.Parameters} {spots more : List ℕ} → AreParameters scope ts ps rest spots more → length rest < length ts
  parameters_shorter g.unstated = omega arith
  parameters_shorter g.void_alone = omega arith
  parameters_shorter (g.listed e d) = omega (arith, list_shorter d)
  parameters_shorter (g.open_list d) = omega (arith, list_shorter d)

  pub list_shorter : {scope : Scope} {ts rest : List Symbol} {ps : c.ParameterList} {spots more : List ℕ} → IsParameterList scope ts ps rest spots more → length rest < length ts
  list_shorter (g.last_parameter a b) = omega (arith, specifiers_shorter a, declarator_short b)
  list_shorter (g.more_parameters a b d) = omega (arith, specifiers_shorter a, declarator_short b, list_shorter d)

-- ---- what an expression begins with: neither a type nor what closes

pub record Starts (scope : Scope) (ts : List Symbol) : Type 0 where
  pub no_type : begins_specifier scope false ts ≡ false
  pub no_end : sees t.CloseParen ts ≡ false
  pub no_close : sees t.CloseIndex ts ≡ false

text_starts : {scope : Scope} {ts rest : List Symbol} {bytes : List ℕ} → IsText ts bytes rest → Starts scope ts
unfolding same_terminal
text_starts (g.one_literal l) = record { no_type = refl; no_end = refl; no_close = refl }
text_starts (g.more_literals l d) = record { no_type = refl; no_end = refl; no_close = refl }

mark_starts : {scope : Scope} {ts rest : List Symbol} {m : c.Mark} {spots more : List ℕ} → IsMark scope ts m rest spots more → Starts scope ts
unfolding same_terminal
mark_starts (g.label d l) = record { no_type = refl; no_end = refl; no_close = refl }
mark_starts (g.binding_label d l b) = record { no_type = refl; no_end = refl; no_close = refl }

marks_start : {scope : Scope} {ts rest : List Symbol} {ms : c.Marks} {spots more : List ℕ} → AreMarks scope ts ms rest spots more → Starts scope ts
marks_start (g.last_mark d) = mark_starts d
marks_start (g.more_marks a b) = mark_starts a

prefix_starts : {scope : Scope} {k : Terminal} {at : ℕ} {ts : List Symbol} → IsPrefix k → Starts scope (sign k at ∷ ts)
prefix_starts p = record { no_type = p.no_type; no_end = p.no_end; no_close = p.no_close }

pub starts : {scope : Scope} {l : Level} {ts rest : List Symbol} {e : c.Expression} {spots more : List ℕ} → IsExpression scope l ts e rest spots more → Starts scope ts
unfolding same_terminal
starts (g.name e) = record { no_type = e; no_end = refl; no_close = refl }
starts g.constant = record { no_type = refl; no_end = refl; no_close = refl }
starts (g.text d) = text_starts d
starts (g.parentheses d) = record { no_type = refl; no_end = refl; no_close = refl }
starts (g.decide d l) = record { no_type = refl; no_end = refl; no_close = refl }
starts (g.after d l) = record { no_type = refl; no_end = refl; no_close = refl }
starts (g.of_primary d) = starts d
starts (g.index a b) = starts a
starts (g.call a b) = starts a
starts (g.member d) = starts d
starts (g.arrow d) = starts d
starts (g.increment_behind d) = starts d
starts (g.decrement_behind d) = starts d
starts (g.of_postfix d) = starts d
starts (g.increment_before d) = record { no_type = refl; no_end = refl; no_close = refl }
starts (g.decrement_before d) = record { no_type = refl; no_end = refl; no_close = refl }
starts (g.prefixed p d) = prefix_starts (prefix_is _ _ p)
starts (g.sizeof_expression d) = record { no_type = refl; no_end = refl; no_close = refl }
starts (g.sizeof_type d) = record { no_type = refl; no_end = refl; no_close = refl }
starts (g.of_unary d) = starts d
starts (g.cast_to a b) = record { no_type = refl; no_end = refl; no_close = refl }
starts (g.of_cast d) = starts d
starts (g.of_tighter d) = starts d
starts (g.operates a i b) = starts a
starts (g.of_binary d) = starts d
starts (g.choice a b d) = starts a
starts (g.of_conditional d) = starts d
starts (g.assigns a i b) = starts a
starts (g.of_assignment d) = starts d
starts (g.behind_marks a b) = marks_start a
starts (g.of_marked d) = starts d
starts (g.sequence a i b) = starts a
starts (g.longer_sequence a b) = starts a

-- ---- what an expression of a level begins with

-- no operator, cast or mark stands at the front
pub record IsPlain (scope : Scope) (ts : List Symbol) : Type 0 where
  pub no_increment : sees t.Increment ts ≡ false
  pub no_decrement : sees t.Decrement ts ≡ false
  pub no_sizeof : sees t.Sizeof ts ≡ false
  pub no_prefix : prefix_of (terminal_at ts) ≡ None
  pub no_cast : begins_cast scope ts ≡ false
  pub no_mark : begins_mark ts ≡ false

-- what doesn't stand at the front of an expression of the level
abbrev pub AtLevel : Level → Scope → List Symbol → Type 0
AtLevel g.primary scope ts = IsPlain scope ts
AtLevel g.postfix scope ts = IsPlain scope ts
AtLevel g.unary scope ts = (begins_cast scope ts ≡ false) × (begins_mark ts ≡ false)
AtLevel g.cast scope ts = begins_mark ts ≡ false
AtLevel (g.binary n) scope ts = begins_mark ts ≡ false
AtLevel g.conditional scope ts = begins_mark ts ≡ false
AtLevel g.assignment scope ts = begins_mark ts ≡ false
AtLevel g.marked scope ts = Unit {0}
AtLevel g.comma scope ts = Unit {0}

text_plain : {scope : Scope} {ts rest : List Symbol} {bytes : List ℕ} → IsText ts bytes rest → IsPlain scope ts
unfolding same_terminal
text_plain (g.one_literal l) = record { no_increment = refl; no_decrement = refl; no_sizeof = refl; no_prefix = refl; no_cast = refl; no_mark = refl }
text_plain (g.more_literals l d) = record { no_increment = refl; no_decrement = refl; no_sizeof = refl; no_prefix = refl; no_cast = refl; no_mark = refl }

prefix_level : (scope : Scope) (k : Terminal) (at : ℕ) (ts : List Symbol) → IsPrefix k → AtLevel g.unary scope (sign k at ∷ ts)
prefix_level scope k at ts p = (rw p.no_paren refl, rw (p.no_label, p.no_binding) refl)

pub at_level : {scope : Scope} {l : Level} {ts rest : List Symbol} {e : c.Expression} {spots more : List ℕ} → IsExpression scope l ts e rest spots more → AtLevel l scope ts
unfolding same_terminal
at_level (g.name e) = record { no_increment = refl; no_decrement = refl; no_sizeof = refl; no_prefix = refl; no_cast = refl; no_mark = refl }
at_level g.constant = record { no_increment = refl; no_decrement = refl; no_sizeof = refl; no_prefix = refl; no_cast = refl; no_mark = refl }
at_level (g.text d) = text_plain d
at_level (g.parentheses d) = record { no_increment = refl; no_decrement = refl; no_sizeof = refl; no_prefix = refl; no_cast = (starts d).no_type; no_mark = refl }
at_level (g.decide d l) = record { no_increment = refl; no_decrement = refl; no_sizeof = refl; no_prefix = refl; no_cast = refl; no_mark = refl }
at_level (g.after d l) = record { no_increment = refl; no_decrement = refl; no_sizeof = refl; no_prefix = refl; no_cast = refl; no_mark = refl }
at_level (g.of_primary d) = at_level d
at_level (g.index a b) = at_level a
at_level (g.call a b) = at_level a
at_level (g.member d) = at_level d
at_level (g.arrow d) = at_level d
at_level (g.increment_behind d) = at_level d
at_level (g.decrement_behind d) = at_level d
at_level (g.of_postfix d) = let p = at_level d in (p.no_cast, p.no_mark)
at_level (g.increment_before d) = (refl, refl)
at_level (g.decrement_before d) = (refl, refl)
at_level (g.prefixed {scope} {k} {at} {op} {ts} p d) = prefix_level scope k at ts (prefix_is k op p)
at_level (g.sizeof_expression d) = (refl, refl)
at_level (g.sizeof_type d) = (refl, refl)
at_level (g.of_unary d) = (at_level d).1
at_level (g.cast_to a b) = refl
at_level (g.of_cast d) = at_level d
at_level (g.of_tighter d) = at_level d
at_level (g.operates a i b) = at_level a
at_level (g.of_binary d) = at_level d
at_level (g.choice a b d) = at_level a
at_level (g.of_conditional d) = at_level d
at_level (g.assigns a i b) = (at_level a).1
at_level (g.of_assignment d) = tt
at_level (g.behind_marks a b) = tt
at_level (g.of_marked d) = tt
at_level (g.sequence a i b) = tt
at_level (g.longer_sequence a b) = tt
