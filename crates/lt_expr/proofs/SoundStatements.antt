-- What is proved of each reading function at a number: a tree that it gives is derived, with the spots of its walk.
use Rattle.std.proofs.Common.{◌≡◌, ℕ, suc, ◌≤◌, ◌||◌, Bool, true, false, List, ◌∷◌, Option, Some, None}
use Rattle.lt_tree.specs.declared.terminal.Terminal.{Terminal}
use Rattle.lt_tree.specs.declared.terminal.Terminal.TheVariants as t
use Rattle.lt_tree.specs.Tree as c
use Rattle.lt_tree.specs.Symbols.{Symbol, name, sign, constant, literal, start_of}
use Rattle.lt_tree.specs.Scope.{Scope, after_member, after_parts}
use Rattle.lt_tree.specs.Grammar as g
use Rattle.lt_tree.specs.Ahead.{Naming, begins_specifier, begins_suffix}
use Rattle.lt_expr.specs.Front.{Rest, ended, begins_cast, begins_postfix, operator_at}
use Rattle.lt_expr.specs.Specifier.{Specifier, of_type, Found, with_specifier, names_type, after_specifier}
use Rattle.lt_expr.specs.Walk.{Walked, walk, walk_all, walk_maybe, walk_marks, walk_mark, walk_bindings, walk_specifiers, walk_types, walk_type, walk_members, walk_member, walk_member_declarators, walk_enumerators, walk_declarator, walk_parts, walk_parameters, walk_parameter_list}
use Rattle.lt_expr.specs.Reading as read
use Rattle.lt_tree.specs.Grammar.{joined}
use Rattle.lt_expr.specs.Reading.{Labelled, NameAndParts}
use Rattle.lt_expr.proofs.SoundSteps.{Yields}
use Rattle.lt_expr.proofs.SoundSpots.{Spotted}

-- from there on stands this expression
abbrev pub Reads : Scope → g.Level → Rest → c.Expression × Rest → Type 0
Reads scope level from x = Spotted (walk x.0) x.1.1 from.1 (g.IsExpression scope level from.0 x.0 x.1.0)

abbrev pub ReadsSound : g.Level → (Scope → Rest → Option (c.Expression × Rest)) → Type 0
ReadsSound level f = (scope : Scope) (r : Rest) → Yields (f scope r) (Reads scope level r)

abbrev pub PartsSound : ℕ → Type 0
PartsSound n = (scope : Scope) (r : Rest) → Yields (read.parts n scope r) (λ x. Spotted (walk_all x.0) x.1.1 r.1 (g.AreParts scope r.0 x.0 x.1.0))

abbrev pub ChoiceSound : ℕ → Type 0
ChoiceSound n = (scope : Scope) (from : Rest) (first : c.Expression) (r : Rest) → Reads scope g.cast from (first, r)
    → Yields (read.choice n scope (start_of from.0) first r) (Reads scope g.conditional from)

-- no operator that binds so tightly follows
abbrev pub ClimbSound : ℕ → Type 0
ClimbSound n = (scope : Scope) (k least : ℕ) (from : Rest) (left : c.Expression) (r : Rest) → least ≤ k → Reads scope (g.binary k) from (left, r)
    → operator_at (suc k) r.0 ≡ None
    → Yields (read.climb n scope (start_of from.0) least left r) (λ x. Reads scope (g.binary least) from x × (operator_at least x.1.0 ≡ None))

abbrev pub OperandSound : ℕ → Type 0
OperandSound n = (scope : Scope) (r : Rest)
    → Yields (read.operand n scope r) (λ x. Reads scope g.cast r x × (begins_cast scope r.0 ≡ false → Reads scope g.unary r x))

-- an expression that begins with this terminal, which was read
abbrev pub Behind : Scope → g.Level → Terminal → ℕ → Rest → c.Expression × Rest → Type 0
Behind scope level k at r x = Spotted (walk x.0) x.1.1 r.1 (g.IsExpression scope level (sign k at ∷ r.0) x.0 x.1.0)

abbrev pub BehindSound : g.Level → Terminal → (Scope → ℕ → Rest → Option (c.Expression × Rest)) → Type 0
BehindSound level k f = (scope : Scope) (at : ℕ) (r : Rest) → Yields (f scope at r) (Behind scope level k at r)

abbrev pub PostfixSound : ℕ → Type 0
PostfixSound n = (scope : Scope) (from : Rest) (left : c.Expression) (r : Rest) → Reads scope g.postfix from (left, r)
    → Yields (read.postfix n scope (start_of from.0) left r) (Reads scope g.postfix from)

abbrev pub OnePostfixSound : ℕ → Type 0
OnePostfixSound n = (scope : Scope) (from : Rest) (left : c.Expression) (r : Rest) → begins_postfix r.0 ≡ true → Reads scope g.postfix from (left, r)
    → Yields (read.one_postfix n scope left r) (λ x. Reads scope g.postfix from (x.0, ended (start_of from.0) x.1))

abbrev pub HasArgument : c.Expressions → Type 0
HasArgument c.no_expressions = ⊥
HasArgument (c.an_expression e es) = Unit {0}

abbrev pub ArgumentsSound : ℕ → Type 0
ArgumentsSound n = (scope : Scope) (r : Rest)
    → Yields (read.arguments n scope r) (λ x. HasArgument x.0 × Spotted (walk_all x.0) x.1.1 r.1 (g.AreArguments scope r.0 x.0 x.1.0))

-- '(' assign ',' CONSTANT ',' STRING
pub data IsLabelled : (scope : Scope) → (ts : List Symbol) → (l : Labelled) → (rest : List Symbol) → (spots more : List ℕ) → Type 0 where
  labelled : {scope : Scope} {a b c' d f : ℕ} {ts rest : List Symbol} {e : c.Expression} {id raw tag spots more : List ℕ}
      → g.IsExpression scope g.assignment ts e (sign t.Comma b ∷ constant id c' ∷ sign t.Comma d ∷ literal raw f ∷ rest) spots more
      → g.IsLiteral raw tag
      → IsLabelled scope (sign t.OpenParen a ∷ ts) (record { predicate = e; id = id; tag = tag }) rest spots more

abbrev pub LabelledSound : ℕ → Type 0
LabelledSound n = (scope : Scope) (r : Rest) → Yields (read.labelled n scope r) (λ x. Spotted (walk x.0.predicate) x.1.1 r.1 (IsLabelled scope r.0 x.0 x.1.0))

abbrev pub MarkSound : ℕ → Type 0
MarkSound n = (scope : Scope) (r : Rest) → Yields (read.mark n scope r) (λ x. Spotted (walk_mark x.0) x.1.1 r.1 (g.IsMark scope r.0 x.0 x.1.0))

abbrev pub BindingsSound : ℕ → Type 0
BindingsSound n = (scope : Scope) (r : Rest) → Yields (read.bindings n scope r) (λ x. Spotted (walk_bindings x.0) x.1.1 r.1 (g.AreBindings scope r.0 x.0 x.1.0))

abbrev pub MarksSound : ℕ → Type 0
MarksSound n = (scope : Scope) (r : Rest) → Yields (read.marks n scope r) (λ x. Spotted (walk_marks x.0) x.1.1 r.1 (g.AreMarks scope r.0 x.0 x.1.0))

-- ---- types

abbrev pub TypeNameSound : ℕ → Type 0
TypeNameSound n = (scope : Scope) (r : Rest)
    → Yields (read.type_name n scope r)
    (λ x. Spotted (λ w. walk_specifiers x.0.0 (walk_declarator x.0.1 w)) x.1.1 r.1 (g.IsTypeName scope r.0 x.0.0 x.0.1 x.1.0))

abbrev pub SpecifiersSound : ℕ → Type 0
SpecifiersSound n = (scope : Scope) (r : Rest)
    → Yields (read.specifiers n scope r) (λ x. Spotted (walk_specifiers x.0) x.1.1 r.1 (g.AreSpecifiers scope r.0 x.0 x.1.0))

abbrev pub FurtherSound : ℕ → Type 0
FurtherSound n = (scope : Scope) (typed : Bool) (r : Rest)
    → Yields (read.further n scope typed r) (λ x. Spotted (walk_types x.0.types) x.1.1 r.1 (g.AreFurther scope typed r.0 x.0.words x.0.types x.1.0))

abbrev pub walk_one : Specifier → Walked → Walked
walk_one (of_type type) w = walk_type type w
walk_one _ w = w

-- the symbols ts begin with this specifier: with further ones behind it they are further specifiers
pub record IsSpecifier (scope : Scope) (typed : Bool) (ts : List Symbol) (s : Specifier) (rest : List Symbol) (spots middle : List ℕ) : Type 0 where
  pub further : (found : Found) (end : List Symbol) (more : List ℕ) → g.AreFurther (after_specifier s scope) (typed || names_type s) rest found.words found.types end middle more
      → g.AreFurther scope typed ts (with_specifier s found).words (with_specifier s found).types end spots more

abbrev pub SpecifierSound : ℕ → Type 0
SpecifierSound n = (scope : Scope) (typed : Bool) (r : Rest) → begins_specifier scope typed r.0 ≡ true
    → Yields (read.specifier n scope r) (λ x. Spotted (walk_one x.0) x.1.1 r.1 (IsSpecifier scope typed r.0 x.0 x.1.0))

-- the word of a struct or enum, and its tag, if it has one
pub data IsTagFront : (k : Terminal) → (tag : Option (List ℕ)) → (ts rest : List Symbol) → Type 0 where
  with_tag : {k : Terminal} {w : List ℕ} {a b : ℕ} {rest : List Symbol} → IsTagFront k (Some w) (sign k a ∷ name w b ∷ rest) rest
  without_tag : {k : Terminal} {a : ℕ} {rest : List Symbol} → IsTagFront k None (sign k a ∷ rest) rest

abbrev pub IsTaggedBy : Scope → List Symbol → Specifier → List Symbol → List ℕ → List ℕ → Type 0
IsTaggedBy scope ts (of_type type) rest spots more = g.IsTagged scope ts type rest spots more
IsTaggedBy scope ts _ rest spots more = ⊥

abbrev pub TaggedSound : Terminal → (Scope → Option (List ℕ) → Rest → Option (Specifier × Rest)) → Type 0
TaggedSound k f = (scope : Scope) (tag : Option (List ℕ)) (ts : List Symbol) (r : Rest) → IsTagFront k tag ts r.0
    → Yields (f scope tag r) (λ x. Spotted (walk_one x.0) x.1.1 r.1 (IsTaggedBy scope ts x.0 x.1.0))

abbrev pub MembersSound : ℕ → Type 0
MembersSound n = (scope : Scope) (r : Rest) → Yields (read.members n scope r) (λ x. Spotted (walk_members x.0) x.1.1 r.1 (g.AreMembers scope r.0 x.0 x.1.0))

-- the symbols ts begin with this member: with members behind it they are members
pub record IsMember (scope : Scope) (ts : List Symbol) (m : c.StructMember) (rest : List Symbol) (spots middle : List ℕ) : Type 0 where
  pub before : (members : c.Members) (end : List Symbol) (more : List ℕ) → g.AreMembers (after_member m scope) rest members end middle more
      → g.AreMembers scope ts (c.a_member m members) end spots more

abbrev pub MemberSound : ℕ → Type 0
MemberSound n = (scope : Scope) (r : Rest) → Yields (read.member n scope r) (λ x. Spotted (walk_member x.0) x.1.1 r.1 (IsMember scope r.0 x.0 x.1.0))

abbrev pub HasDeclarator : c.MemberDeclarators → Type 0
HasDeclarator c.no_declarators = ⊥
HasDeclarator (c.a_declarator d width ds) = Unit {0}

abbrev pub MemberDeclaratorsSound : ℕ → Type 0
MemberDeclaratorsSound n = (scope : Scope) (naming : Naming) (r : Rest)
    → Yields (read.member_declarators n scope naming r)
    (λ x. HasDeclarator x.0 × Spotted (walk_member_declarators x.0) x.1.1 r.1 (g.AreMemberDeclarators scope naming r.0 x.0 x.1.0))

abbrev pub AfterSignSound : ℕ → Type 0
AfterSignSound n = (scope : Scope) (k : Terminal) (r : Rest) → (k ≡ t.Other → ⊥)
    → Yields (read.after_sign n scope k r) (λ x. Spotted (walk_maybe x.0) x.1.1 r.1 (g.IsAfterSign scope k r.0 x.0 x.1.0))

abbrev pub EnumeratorsSound : ℕ → Type 0
EnumeratorsSound n = (scope : Scope) (r : Rest)
    → Yields (read.enumerators n scope r) (λ x. Spotted (walk_enumerators x.0) x.1.1 r.1 (g.AreEnumerators scope r.0 x.0 x.1.0))

-- ---- declarators

abbrev pub DeclaratorSound : ℕ → Type 0
DeclaratorSound n = (scope : Scope) (naming : Naming) (r : Rest)
    → Yields (read.declarator n scope naming r) (λ x. Spotted (walk_declarator x.0) x.1.1 r.1 (g.IsDeclarator scope naming r.0 x.0 x.1.0))

-- these parts, whatever the outer ones are
pub record HasPointers (scope : Scope) (naming : Naming) (ts : List Symbol) (x : NameAndParts) (rest : List Symbol) (spots more : List ℕ) : Type 0 where
  pub before : (outer : c.Parts) → g.ArePointers scope naming ts outer x.0 (joined x.1 outer) rest spots more

abbrev pub PointersSound : ℕ → Type 0
PointersSound n = (scope : Scope) (naming : Naming) (r : Rest)
    → Yields (read.pointers n scope naming r) (λ x. Spotted (walk_parts x.0.1) x.1.1 r.1 (HasPointers scope naming r.0 x.0 x.1.0))

pub record HasDirect (scope : Scope) (naming : Naming) (ts : List Symbol) (x : NameAndParts) (rest : List Symbol) (spots more : List ℕ) : Type 0 where
  pub before : (outer : c.Parts) → g.IsDirect scope naming ts outer x.0 (joined x.1 outer) rest spots more

abbrev pub DirectSound : ℕ → Type 0
DirectSound n = (scope : Scope) (naming : Naming) (r : Rest)
    → Yields (read.direct n scope naming r) (λ x. Spotted (walk_parts x.0.1) x.1.1 r.1 (HasDirect scope naming r.0 x.0 x.1.0))

pub record HasSuffixes (scope : Scope) (ts : List Symbol) (parts : c.Parts) (rest : List Symbol) (spots more : List ℕ) : Type 0 where
  pub before : (outer : c.Parts) → g.AreSuffixes scope ts outer (joined parts outer) rest spots more

abbrev pub SuffixesSound : ℕ → Type 0
SuffixesSound n = (scope : Scope) (r : Rest)
    → Yields (read.suffixes n scope r) (λ x. Spotted (walk_parts x.0) x.1.1 r.1 (HasSuffixes scope r.0 x.0 x.1.0))

-- the symbols ts begin with this suffix: with suffixes behind it they are suffixes
pub record HasSuffix (scope : Scope) (ts : List Symbol) (parts : c.Parts) (rest : List Symbol) (spots middle : List ℕ) : Type 0 where
  pub before : (outer others : c.Parts) (end : List Symbol) (more : List ℕ) → g.AreSuffixes (after_parts parts scope) rest outer others end middle more
      → g.AreSuffixes scope ts outer (joined parts others) end spots more

abbrev pub SuffixSound : ℕ → Type 0
SuffixSound n = (scope : Scope) (r : Rest) → begins_suffix r.0 ≡ true
    → Yields (read.suffix n scope r) (λ x. Spotted (walk_parts x.0) x.1.1 r.1 (HasSuffix scope r.0 x.0 x.1.0))

abbrev pub ParametersSound : ℕ → Type 0
ParametersSound n = (scope : Scope) (r : Rest)
    → Yields (read.parameters n scope r) (λ x. Spotted (walk_parameters x.0) x.1.1 r.1 (g.AreParameters scope r.0 x.0 x.1.0))

abbrev pub ParameterListSound : ℕ → Type 0
ParameterListSound n = (scope : Scope) (r : Rest)
    → Yields (read.parameter_list n scope r) (λ x. Spotted (walk_parameter_list x.0) x.1.1 r.1 (g.IsParameterList scope r.0 x.0 x.1.0))
