-- What is shown of each tree that symbols derive: wherever the words of its canonical text stand, they derive it, at whatever places.
use Rattle.std.specs.Prelude.{◌≡◌, ℕ, Bool, true, false, List, ◌∷◌, Option, Some, None}
use Rattle.lt_tree.specs.declared.terminal.Terminal.TheVariants as k
use Rattle.lt_tree.specs.Tree as c
use Rattle.lt_tree.specs.Comma.{is_comma}
use Rattle.lt_tree.specs.Symbols as s
use Rattle.lt_tree.specs.Symbols.{Symbol}
use Rattle.lt_tree.specs.Scope.{Scope, is_type, after_maybe, after_type, after_specifiers, after_inside, after_member_declarator, after_member, after_enumerator, after_parameter}
use Rattle.lt_tree.specs.Ahead.{Naming, named, either, naming_behind, behind_star, sees, begins_specifier, takes_name, takes_none}
use Rattle.lt_tree.specs.Grammar.{Level, IsMark, AreMarks, IsTypeName, AreSpecifiers, IsTagged, IsDeclarator, AreParameters}
use Rattle.lt_tree.specs.Canon.{apart, operand, mark, marks_pieces, specifiers, type_specifier, declarator, parameters}
use Rattle.lt_print.proofs.ReadPieces.{Reads, Ends}
use Rattle.lt_print.proofs.LooserLevels.{DerivesAt}

-- ---- expressions

-- an expression, wherever a level is asked
abbrev pub Stands : Scope → c.Expression → Type 0
Stands scope e = (n : ℕ) (level : Level) → DerivesAt scope level (operand n level e) e

abbrev pub AllStand : Scope → c.Expressions → Type 0
AllStand scope c.no_expressions = Unit {0}
AllStand scope (c.an_expression e es) = Stands scope e × AllStand scope es

-- two or more parts, of which the first is no comma expression
abbrev pub IsSequence : c.Expressions → Type 0
IsSequence c.no_expressions = ⊥
IsSequence (c.an_expression e c.no_expressions) = ⊥
IsSequence (c.an_expression e (c.an_expression f es)) = is_comma e ≡ false

-- the parts of a comma expression, which may begin a longer one
abbrev pub PartsStand : Scope → c.Expression → Type 0
PartsStand scope (c.Comma parts) = IsSequence parts × AllStand scope parts
PartsStand scope _ = Unit {0}

pub record Again (scope : Scope) (e : c.Expression) : Type 0 where
  pub stands : Stands scope e
  pub parts : PartsStand scope e

abbrev pub AreFilled : c.Expressions → Type 0
AreFilled c.no_expressions = ⊥
AreFilled (c.an_expression e es) = Unit {0}

abbrev pub MaybeStands : Scope → c.Maybe → Type 0
MaybeStands scope c.absent = Unit {0}
MaybeStands scope (c.present e) = Stands scope e

-- ---- marks

abbrev pub BoundStand : Scope → c.Bindings → Type 0
BoundStand scope c.no_bindings = Unit {0}
BoundStand scope (c.a_binding w e bound) = Stands scope e × BoundStand scope bound

abbrev pub AreBound : c.Bindings → Type 0
AreBound c.no_bindings = ⊥
AreBound (c.a_binding w e bound) = Unit {0}

abbrev pub MarkAgain : Scope → c.Mark → Type 0
MarkAgain scope m = (n : ℕ) (ts rest : List Symbol) (more : List ℕ) → Reads (mark n m) ts rest → (spots : List ℕ) × IsMark scope ts m rest spots more

abbrev pub MarksAgain : Scope → c.Marks → Type 0
MarksAgain scope ms = (n : ℕ) (ts rest : List Symbol) (more : List ℕ) → Reads (marks_pieces n ms) ts rest → (spots : List ℕ) × AreMarks scope ts ms rest spots more

-- ---- types

-- before a closing parenthesis
abbrev pub TypeNameAgain : Scope → c.Specifiers → c.Declarator → Type 0
TypeNameAgain scope ss d =
    (n at : ℕ) (ts rest : List Symbol) (more : List ℕ) → Reads (apart (specifiers n ss) (declarator n d)) ts (s.sign k.CloseParen at ∷ rest)
    → (spots : List ℕ) × IsTypeName scope ts ss d (s.sign k.CloseParen at ∷ rest) spots more

-- whether a type is named
abbrev pub is_typed : c.TypeSpecifiers → Bool
is_typed c.no_types = false
is_typed (c.a_type first rest) = true

abbrev pub names_type : c.Specifiers → Bool
names_type (c.specifiers words types) = is_typed types

-- before what is no further specifier and no brace
abbrev pub SpecifiersAgain : Scope → c.Specifiers → Type 0
SpecifiersAgain scope ss =
    (n : ℕ) (ts rest : List Symbol) (more : List ℕ) → begins_specifier scope (names_type ss) rest ≡ false → sees k.OpenBrace rest ≡ false
    → Reads (specifiers n ss) ts rest → (spots : List ℕ) × AreSpecifiers scope ts ss rest spots more

-- a struct or enum, before what is no brace
abbrev pub TaggedAgain : Scope → c.TypeSpecifier → Type 0
TaggedAgain scope type =
    (n : ℕ) (ts rest : List Symbol) (more : List ℕ) → sees k.OpenBrace rest ≡ false → Reads (type_specifier n type) ts rest
    → (spots : List ℕ) × IsTagged scope ts type rest spots more

-- a specifier as it stands in the source; a typedef name is one only where no type was named before it
abbrev pub TypeFits : Scope → Bool → c.TypeSpecifier → Type 0
TypeFits scope typed (c.Basic type) = ⊥
TypeFits scope typed (c.Word word) = Unit {0}
TypeFits scope typed (c.Named w) = (typed ≡ false) × (is_type scope w ≡ true)
TypeFits scope typed (c.StructTag w) = TaggedAgain scope (c.StructTag w)
TypeFits scope typed (c.Struct tag members) = TaggedAgain scope (c.Struct tag members)
TypeFits scope typed (c.EnumTag w) = TaggedAgain scope (c.EnumTag w)
TypeFits scope typed (c.Enum tag enumerators) = TaggedAgain scope (c.Enum tag enumerators)

abbrev pub TypesFit : Scope → Bool → c.TypeSpecifiers → Type 0
TypesFit scope typed c.no_types = Unit {0}
TypesFit scope typed (c.a_type first rest) = TypeFits scope typed first × TypesFit (after_type first scope) true rest

-- ---- declarators

-- before the closing parenthesis
abbrev pub ParametersAgain : Scope → c.Parameters → Type 0
ParametersAgain scope ps =
    (n at : ℕ) (ts rest : List Symbol) (more : List ℕ) → Reads (parameters n ps) ts (s.sign k.CloseParen at ∷ rest)
    → (spots : List ℕ) × AreParameters scope ts ps rest spots more

abbrev pub PartsFit : Scope → c.Parts → Type 0
PartsFit scope c.no_parts = Unit {0}
PartsFit scope (c.Pointer q rest) = PartsFit scope rest
PartsFit scope (c.Array length rest) = MaybeStands scope length × PartsFit (after_maybe length scope) rest
PartsFit scope (c.Function ps rest) = ParametersAgain scope ps × PartsFit scope rest

-- a name where the naming asks for one
abbrev pub NameFits : Naming → Scope → Option (List ℕ) → Type 0
NameFits naming scope None = takes_none naming ≡ true
NameFits naming scope (Some w) = takes_name naming scope w ≡ true

abbrev pub has_pointer : c.Parts → Bool
has_pointer c.no_parts = false
has_pointer (c.Pointer q rest) = true
has_pointer (c.Array length rest) = has_pointer rest
has_pointer (c.Function ps rest) = has_pointer rest

-- the naming of a name before which a `*` stands or none
abbrev pub starred : Bool → Naming → Naming
starred true naming = behind_star naming
starred false naming = naming

abbrev pub DeclaratorFits : Naming → Scope → c.Declarator → Type 0
DeclaratorFits naming scope (c.declarator name parts) = NameFits (starred (has_pointer parts) naming) scope name × PartsFit scope parts

abbrev pub DeclaratorAgain : Naming → Scope → c.Declarator → Type 0
DeclaratorAgain naming scope d =
    (n : ℕ) (ts rest : List Symbol) (more : List ℕ) → Ends rest → Reads (declarator n d) ts rest
    → (spots : List ℕ) × IsDeclarator scope naming ts d rest spots more

-- Where no type was named, a name that begins a declarator is no typedef name.
abbrev pub IsClear : Scope → Bool → c.Declarator → Type 0
IsClear scope true d = Unit {0}
IsClear scope false (c.declarator None parts) = Unit {0}
IsClear scope false (c.declarator (Some w) parts) = has_pointer parts ≡ false → is_type scope w ≡ false

abbrev pub ParametersFit : Scope → c.ParameterList → Type 0
ParametersFit scope c.no_parameters = Unit {0}
ParametersFit scope (c.a_parameter ss d rest) =
    SpecifiersAgain scope ss × DeclaratorFits either (after_specifiers ss scope) d × IsClear scope (names_type ss) d × ParametersFit (after_parameter ss d scope) rest

abbrev pub AreListed : c.ParameterList → Type 0
AreListed c.no_parameters = ⊥
AreListed (c.a_parameter ss d rest) = Unit {0}

-- ---- structs and enums

abbrev pub MemberDeclaratorsFit : Naming → Scope → c.MemberDeclarators → Type 0
MemberDeclaratorsFit naming scope c.no_declarators = Unit {0}
MemberDeclaratorsFit naming scope (c.a_declarator d width rest) =
    DeclaratorFits naming scope d × MaybeStands (after_inside d scope) width × MemberDeclaratorsFit named (after_member_declarator d width scope) rest

abbrev pub MembersFit : Scope → c.Members → Type 0
MembersFit scope c.no_members = Unit {0}
MembersFit scope (c.a_member (c.member ss ds) rest) =
    SpecifiersAgain scope ss × MemberDeclaratorsFit (naming_behind ss) (after_specifiers ss scope) ds × MembersFit (after_member (c.member ss ds) scope) rest

abbrev pub EnumeratorsFit : Scope → c.Enumerators → Type 0
EnumeratorsFit scope c.no_enumerators = Unit {0}
EnumeratorsFit scope (c.an_enumerator w value rest) = MaybeStands scope value × EnumeratorsFit (after_enumerator w value scope) rest

abbrev pub AreEnumerated : c.Enumerators → Type 0
AreEnumerated c.no_enumerators = ⊥
AreEnumerated (c.an_enumerator w value rest) = Unit {0}
