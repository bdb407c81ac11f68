-- One more part of each list, as its definition goes on.
use Rattle.std.proofs.Common.{◌≡◌, ◌≤◌, ◌<◌, ◌-◌, Bool, true, false, ◌||◌, ltb, length, drop, List, [], ◌∷◌, ◌++◌, ℕ, suc, refl, ap, sym, ◌∙◌, append_assoc, length-drop, arith}
use Rattle.std.proofs.lemmas.Bool.{lt-ltb, le-ltb, ltb-true, ltb-false}
use Rattle.lt_tree.specs.declared.terminal.Terminal.TheVariants as k
use Rattle.lt_tree.specs.declared.specifier.BasicType.TheVariants as basic
use Rattle.lt_tree.specs.declared.mark.Mark.{Mark}
use Rattle.lt_tree.specs.declared.mark.Binding.{Binding}
use Rattle.lt_tree.specs.declared.specifier.TypeSpecifier.{TypeSpecifier}
use Rattle.lt_tree.specs.declared.specifier.Enumerator.{Enumerator}
use Rattle.lt_tree.specs.declared.specifier.Member.{Member}
use Rattle.lt_tree.specs.declared.declarator.DeclaratorPart.{DeclaratorPart}
use Rattle.lt_tree.specs.declared.declarator.DeclaratorPart.TheBlock as at
use Rattle.lt_tree.specs.Tree as t
use Rattle.lt_tree.specs.Grammar.{assignment}
use Rattle.lt_tree.specs.Pieces.{indent, line_end}
use Rattle.lt_tree.specs.View.{expression_of, mark_of, type_of, member_of, part_before}
use Rattle.lt_tree.specs.Records.{marks_in, bindings_in, types_in, members_in, enumerators_in, parts_in, maybe_in}
use Rattle.lt_tree.specs.Canon.{Pieces, name, gap_if, word_if, comma_gap, operand, mark, marks_pieces, bindings, type_specifier, type_specifiers, member_lines, after_sign, enumerator_lines}
use Rattle.lt_print.specs.Lists.{stands, behind}
use Rattle.lt_print.specs.Declarators.{back, is_pointer}
use Rattle.lt_print.proofs.Lists.{behind_apart, behind_something}

pub marks_step : (n : ℕ) (x : Mark) (rest : List Mark) → marks_pieces n (marks_in (x ∷ rest)) ≡ (mark n (mark_of x) ++ comma_gap) ++ marks_pieces n (marks_in rest)
unfolding operand
marks_step n x rest = refl

pub bindings_step : (n : ℕ) (x : Binding) (rest : List Binding)
    → bindings n (bindings_in (x ∷ rest)) ≡ (((comma_gap ++ name x.name ∷ []) ++ comma_gap) ++ operand n assignment (expression_of x.value)) ++ bindings n (bindings_in rest)
unfolding operand
bindings_step n x rest = simp append_assoc

member_line : (n : ℕ) (m : t.StructMember) (rest : t.Members) → member_lines n (t.a_member m rest) ≡ member_lines n (t.a_member m t.no_members) ++ member_lines n rest
unfolding operand
member_line n (t.member s ds) rest = simp append_assoc

pub members_step : (n : ℕ) (x : Member) (rest : List Member) → member_lines n (members_in (x ∷ rest)) ≡ member_lines n (t.a_member (member_of x) t.no_members) ++ member_lines n (members_in rest)
members_step n x rest = member_line n (member_of x) (members_in rest)

-- whether there is one more
abbrev pub is_more : {X : Type 0} → List X → Bool
is_more [] = false
is_more (x ∷ xs) = true

more_length : {X : Type 0} (xs : List X) → is_more xs ≡ ltb 0 (length xs)
more_length [] = refl
more_length (x ∷ xs) = sym (lt-ltb 0 (suc (length xs)) (omega arith))

still : (a b c : ℕ) → c ≡ b - a → ltb 0 c ≡ ltb a b
still a b c e = step (ltb a b) refl
  where
    step : (t : Bool) → ltb a b ≡ t → ltb 0 c ≡ t
    step true is = let lt : a < b = ltb-true a b is in lt-ltb 0 c (omega arith)
    step false is = let le : b ≤ a = ltb-false a b is in le-ltb 0 c (omega arith)

-- an element is left exactly below the length
pub more_left : {X : Type 0} (xs : List X) (i : ℕ) → is_more (drop i xs) ≡ ltb i (length xs)
more_left xs i = more_length (drop i xs) ∙ still i (length xs) (length (drop i xs)) (length-drop i xs)

pub enumerators_step : (n : ℕ) (x : Enumerator) (rest : List Enumerator)
    → enumerator_lines n (enumerators_in (x ∷ rest)) ≡ (((indent n ∷ name x.name ∷ []) ++ after_sign n k.Equal (maybe_in x.value)) ++ word_if (is_more rest) k.Comma ++ line_end ∷ []) ++ enumerator_lines n (enumerators_in rest)
unfolding operand
enumerators_step n x [] = simp append_assoc
enumerators_step n x (y ∷ rest) = simp append_assoc

pub type_stands : (n : ℕ) (type : t.TypeSpecifier) → stands (type_specifier n type) ≡ true
unfolding operand
type_stands n (t.Basic basic.Void) = refl
type_stands n (t.Basic basic.Char) = refl
type_stands n (t.Basic basic.SignedChar) = refl
type_stands n (t.Basic basic.UnsignedChar) = refl
type_stands n (t.Basic basic.Short) = refl
type_stands n (t.Basic basic.UnsignedShort) = refl
type_stands n (t.Basic basic.Int) = refl
type_stands n (t.Basic basic.Unsigned) = refl
type_stands n (t.Basic basic.Long) = refl
type_stands n (t.Basic basic.UnsignedLong) = refl
type_stands n (t.Basic basic.LongLong) = refl
type_stands n (t.Basic basic.UnsignedLongLong) = refl
type_stands n (t.Basic basic.Bool) = refl
type_stands n (t.Basic basic.Float) = refl
type_stands n (t.Basic basic.Double) = refl
type_stands n (t.Basic basic.LongDouble) = refl
type_stands n (t.Word w) = refl
type_stands n (t.StructTag w) = refl
type_stands n (t.Struct tag _) = refl
type_stands n (t.EnumTag w) = refl
type_stands n (t.Enum tag es) = refl
type_stands n (t.Named w) = refl

behind_there : (before : Bool) (ps : Pieces) → stands ps ≡ true → behind before ps ≡ gap_if before ++ ps
behind_there before [] e = absurd cc
behind_there before (p ∷ ps) e = behind_something p ps before

pub types_step : (n : ℕ) (before later : Bool) (x : TypeSpecifier) (rest : List TypeSpecifier) → later ≡ true
    → behind before (type_specifiers n (types_in (x ∷ rest))) ≡ (gap_if before ++ type_specifier n (type_of x)) ++ behind later (type_specifiers n (types_in rest))
unfolding operand
types_step n before later x rest is =
    behind_apart before (type_specifier n (type_of x)) (type_specifiers n (types_in rest))
    ∙ ap (λ (y : Pieces). y ++ behind (before || stands (type_specifier n (type_of x))) (type_specifiers n (types_in rest))) (behind_there before (type_specifier n (type_of x)) (type_stands n (type_of x)))
    ∙ ap (λ (b : Bool). (gap_if before ++ type_specifier n (type_of x)) ++ behind b (type_specifiers n (types_in rest))) (ap (λ (b : Bool). before || b) (type_stands n (type_of x)) ∙ or_true before ∙ sym is)
  where
    or_true : (b : Bool) → (b || true) ≡ true
    or_true true = refl
    or_true false = refl

pub parts_step : (n : ℕ) (pointer : Bool) (x : DeclaratorPart) (rest : List DeclaratorPart)
    → back n pointer (parts_in (x ∷ rest)) ≡ back n pointer (part_before x t.no_parts) ++ back n (is_pointer (part_before x t.no_parts)) (parts_in rest)
parts_step n pointer (at.Pointer q) rest = refl
parts_step n pointer (at.Array' length) rest = simp append_assoc
parts_step n pointer (at.Function parameters) rest = simp append_assoc

pub or_later : (before : Bool) (i : ℕ) → 0 < i → (before || ltb 0 i) ≡ true
or_later true i lt = refl
or_later false i lt = lt-ltb 0 i lt
