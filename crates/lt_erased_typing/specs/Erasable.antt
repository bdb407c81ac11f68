-- Where marks can be taken off an expression: it only reads, declares nothing, and its marks hide nothing from an operator.
use Rattle.std.specs.Prelude.{◌≡◌, ℕ, ◌+◌, Bool, true, false, List, ◌∷◌, is_some}
use Rattle.lt_tree.specs.Tree as c
use Rattle.lt_tree.specs.Typing.Constants.{null_constant}
use Rattle.lt_tree.specs.Typing.Types.{adjusted}
use Rattle.lt_tree.specs.Typing.Entities.{Known, Object, Label, Fact, Frame, no_names, tagged_in}
use Rattle.lt_tree.specs.Typing.Steps.{Outcome, Goes, Breaks, in_block}
use Rattle.lt_tree.specs.Typing.Expressions.{Typed, Use, as_value, as_truth, as_place, as_callee}
use Rattle.lt_tree.specs.Typing.MarkRules.{inside_mark, inside_after}
use Rattle.lt_tree.specs.Typing.Specifying.{is_register, elsewhere}
use Rattle.lt_tree.specs.Typing.Declarators.{type_name_faults, setting_in_sizeof, parameter_faults, binds_parameter}
use Rattle.lt_tree.specs.Typing.NodeEnds.{operand_of}
use Rattle.lt_tree.specs.Typing.ExpressionTyping.{expression, maybe, marks, specifiers, declarator, parameters}
use Rattle.lt_erased_typing.specs.Literals.{HasMoreTexts}

-- what is known there, with these numbers, labels and facts
abbrev pub at : Known → ℕ → List Label → List Fact → Known
at known n labels facts = record known { next = n; labels = labels; facts = facts }

-- so, and with these objects
abbrev pub with_found : Known → ℕ → List Object → List Label → List Fact → Known
with_found known n objects labels facts = record known { next = n; objects = objects; labels = labels; facts = facts }

-- what holds behind a walk that goes on
abbrev pub Behind : {A : Type 0} → Outcome A → (A → Known → Type 0) → Type 0
Behind (Goes a known) claim = claim a known
Behind (Breaks rule node) claim = Unit {0}

abbrev pub entered : Known → Known
entered known = record known { next = known.next + 1 }

-- in a constant expression, or in the operand of `sizeof`
abbrev pub unmarked : Known → Known
unmarked known = record known { is_unmarked = true }

-- in a scope of its own
abbrev pub in_scope : Known → Known
in_scope known = record known { frames = no_names ∷ known.frames }

-- nothing is found but labels and facts, and string literals and parameters of type names, where these are allowed
abbrev pub FindsLabels : (texts : Bool) → Known → Known → Type 0
FindsLabels texts known next = HasMoreTexts texts known.objects next.objects × (next ≡ with_found known next.next next.objects next.labels next.facts)

-- What is used so may stand behind a mark: no member is taken of it, nor its address or its size.
abbrev pub MayBeMarked : Use → Type 0
MayBeMarked as_value = Unit {0}
MayBeMarked as_truth = Unit {0}
MayBeMarked as_place = ⊥
MayBeMarked as_callee = ⊥

-- an operand of `?:` that is `(void *)0` without its marks is so with them
abbrev pub ShowsNull : Typed → Type 0
ShowsNull x = x.erased ≡ null_constant → x.constancy ≡ null_constant

-- ---- type names

-- no struct and no enum is declared, not even by its tag alone
abbrev pub IsKnownType : List Frame → c.TypeSpecifier → Type 0
IsKnownType frames (c.Struct _ _) = ⊥
IsKnownType frames (c.Enum _ _) = ⊥
IsKnownType frames (c.StructTag tag) = is_some (tagged_in tag frames) ≡ true
IsKnownType frames _ = Unit {0}

abbrev pub AreKnownTypes : List Frame → c.TypeSpecifiers → Type 0
AreKnownTypes frames c.no_types = Unit {0}
AreKnownTypes frames (c.a_type first rest) = IsKnownType frames first × AreKnownTypes frames rest

abbrev pub AreKnown : List Frame → c.Specifiers → Type 0
AreKnown frames (c.specifiers words types) = AreKnownTypes frames types

-- ---- expressions

abbrev mutual
  -- That marks can be taken off an expression that is used so, where this is known, and with string literals and parameters of type names in it, where they
  -- are allowed: each part is judged with what is known there, behind those before it.
  pub CanBeErasedWith : (texts : Bool) → Use → Known → c.Expression → Type 0
  CanBeErasedWith texts role known (c.Name name) = Unit {0}
  CanBeErasedWith texts role known (c.Constant text) = Unit {0}
  CanBeErasedWith texts role known (c.Text bytes) = texts ≡ true
  CanBeErasedWith texts role known (c.Index whole index) =
      CanBeErasedWith texts as_value (entered known) whole
      × Behind (expression whole as_value (entered known)) (λ x next. CanBeErasedWith texts as_value next index)
  CanBeErasedWith texts role known (c.Member whole name) = CanBeErasedWith texts as_place (entered known) whole
  CanBeErasedWith texts role known (c.Arrow pointer name) = CanBeErasedWith texts as_value (entered known) pointer
  CanBeErasedWith texts role known (c.Unary op operand) = CanBeErasedWith texts (operand_of op) (entered known) operand
  CanBeErasedWith texts role known (c.SizeofExpr operand) = CanBeErasedWith texts as_place (unmarked (entered known)) operand
  CanBeErasedWith texts role known (c.SizeofType s d) =
      AreKnown known.frames s × Behind (specifiers s (setting_in_sizeof d) (entered known)) (λ it next. CanLengthsBeErased texts next d)
  CanBeErasedWith texts role known (c.Cast s d operand) =
      AreKnown known.frames s
      × Behind (specifiers s elsewhere (entered known)) (λ it next. CanLengthsBeErased texts next d
      × Behind (declarator d it false (λ name known b. type_name_faults b) next) (λ type last. CanBeErasedWith texts as_value last operand))
  CanBeErasedWith texts role known (c.Binary op left right) =
      CanBeErasedWith texts as_value (entered known) left
      × Behind (expression left as_value (entered known)) (λ x next. CanBeErasedWith texts as_value next right)
  CanBeErasedWith texts role known (c.Logical op left right) =
      CanBeErasedWith texts as_truth (entered known) left
      × Behind (expression left as_truth (entered known)) (λ x next. CanBeErasedWith texts as_truth next right)
  CanBeErasedWith texts role known (c.Conditional test left right) =
      CanBeErasedWith texts as_truth (entered known) test
      × Behind (expression test as_truth (entered known)) (λ p next. CanBeErasedWith texts as_value next left
      × Behind (expression left as_value next) (λ x last. ShowsNull x × CanBeErasedWith texts as_value last right
      × Behind (expression right as_value last) (λ y end. ShowsNull y)))
  -- of two parts or more
  CanBeErasedWith texts role known (c.Comma c.no_expressions) = ⊥
  CanBeErasedWith texts role known (c.Comma (c.an_expression first c.no_expressions)) = ⊥
  CanBeErasedWith texts role known (c.Comma (c.an_expression first (c.an_expression second rest))) =
      CanEachBeErased texts (entered known) (c.an_expression first (c.an_expression second rest))
  CanBeErasedWith texts role known (c.Marked ms value) =
      MayBeMarked role × Behind (marks ms (entered known)) (λ typed next. FindsLabels texts (entered known) next × CanBeErasedWith texts (inside_mark role) next value)
  CanBeErasedWith texts role known (c.Decide operand when_true when_false tag) = CanBeErasedWith texts (inside_mark role) (entered known) operand
  CanBeErasedWith texts role known (c.After operand id tag) = MayBeMarked role × CanBeErasedWith texts (inside_after role) (entered known) operand
  CanBeErasedWith texts role known _ = ⊥

  -- one after the other
  pub CanEachBeErased : (texts : Bool) → Known → c.Expressions → Type 0
  CanEachBeErased texts known c.no_expressions = Unit {0}
  CanEachBeErased texts known (c.an_expression first rest) =
      CanBeErasedWith texts as_value known first
      × Behind (expression first as_value known) (λ x next. CanEachBeErased texts next rest)

  -- the lengths of arrays in a type name, and its parameters
  pub CanLengthsBeErased : (texts : Bool) → Known → c.Declarator → Type 0
  CanLengthsBeErased texts known (c.declarator name c.no_parts) = Unit {0}
  CanLengthsBeErased texts known (c.declarator name (c.Pointer qualifiers rest)) = CanPartsBeErased texts (entered known) (c.Pointer qualifiers rest)
  CanLengthsBeErased texts known (c.declarator name (c.Array length rest)) = CanPartsBeErased texts (entered known) (c.Array length rest)
  CanLengthsBeErased texts known (c.declarator name (c.Function them rest)) = CanPartsBeErased texts (entered known) (c.Function them rest)

  pub CanPartsBeErased : (texts : Bool) → Known → c.Parts → Type 0
  CanPartsBeErased texts known c.no_parts = Unit {0}
  CanPartsBeErased texts known (c.Pointer qualifiers rest) = CanPartsBeErased texts known rest
  CanPartsBeErased texts known (c.Array length rest) =
      CanLengthBeErased texts known length
      × Behind (maybe length known) (λ n next. CanPartsBeErased texts next rest)
  CanPartsBeErased texts known (c.Function them rest) =
      (texts ≡ true) × CanParametersBeErased texts (in_scope known) them
      × Behind (in_block (parameters them false) known) (λ found next. CanPartsBeErased texts next rest)

  pub CanLengthBeErased : (texts : Bool) → Known → c.Maybe → Type 0
  CanLengthBeErased texts known c.absent = Unit {0}
  CanLengthBeErased texts known (c.present e) = CanBeErasedWith texts as_value (unmarked known) e

  -- parameters, in their scope
  pub CanParametersBeErased : (texts : Bool) → Known → c.Parameters → Type 0
  CanParametersBeErased texts known c.Unstated = Unit {0}
  CanParametersBeErased texts known c.Void = Unit {0}
  CanParametersBeErased texts known (c.Listed list) = CanListBeErased texts known list
  CanParametersBeErased texts known (c.Open list) = CanListBeErased texts known list

  pub CanListBeErased : (texts : Bool) → Known → c.ParameterList → Type 0
  CanListBeErased texts known c.no_parameters = Unit {0}
  CanListBeErased texts known (c.a_parameter s d rest) =
      AreKnown known.frames s
      × Behind (specifiers s elsewhere known) (λ it next. CanLengthsBeErased texts next d
      × Behind (declarator d it false (parameter_faults false) next) (λ declared behind.
      Behind (binds_parameter false (is_register it) declared.node declared.name (adjusted declared.type) behind) (λ objects last. CanListBeErased texts last rest)))
