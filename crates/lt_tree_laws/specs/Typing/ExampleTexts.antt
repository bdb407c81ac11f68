-- Small texts for the examples of typing, and what the examples say of them.
use Rattle.std.specs.Prelude.{◌≡◌, ℕ, Bool, List, [], ◌∷◌, slice_get, codes, Option, Some, None}
use Rattle.lt_model.specs.declared.scalar.DataModel.{DataModel}
use Rattle.lt_tree.specs.declared.specifier.BasicType.{BasicType}
use Rattle.lt_tree.specs.declared.specifier.BasicType.TheVariants as basic
use Rattle.lt_tree.specs.declared.specifier.Storage.{Storage}
use Rattle.lt_tree.specs.Tree as c
use Rattle.lt_tree.specs.Nodes.{Node, in_expression, nodes}
use Rattle.lt_tree.specs.Grammar.{no_words, with_storage}
use Rattle.lt_tree_laws.specs.Examples.{of_type, int, declares, one_parameter}
use Rattle.lt_tree.specs.Typing.Types.{CType}
use Rattle.lt_tree.specs.Typing.Rules.{Rule}
use Rattle.lt_tree.specs.Typing.Entities.{Known, at_start}
use Rattle.lt_tree.specs.Typing.Steps.{Outcome, Goes, Breaks}
use Rattle.lt_tree.specs.Typing.Expressions.{Typed, own_type}
use Rattle.lt_tree.specs.Typing.Programs.{Typing, typed, broken}
use Rattle.lt_tree.specs.Typing.UnitTyping.{typing, typing_of, externals}

-- ---- what is said of texts

-- the type of an expression, with the qualifiers of a place, or the rule that is broken and its node
pub data Answer : Type 0 where
  has_type : CType → Answer
  breaks : Rule → Option Node → Answer
  -- a unit that breaks no rule
  has_program : Answer

abbrev pub answer_for : c.Expression → Outcome Typed → Answer
answer_for e (Goes x known) = has_type (own_type x)
answer_for e (Breaks rule node) = breaks rule (slice_get (in_expression e) node)

-- what is known behind these declarations
abbrev pub behind : DataModel → c.Unit → Known
behind model unit = elim (externals unit (at_start model [])) [ Goes it known ↦ known | Breaks rule node ↦ at_start model [] ]

-- an expression behind declarations
abbrev pub IsTypedBehind : DataModel → c.Unit → c.Expression → Answer → Type 0
IsTypedBehind model unit e answer = answer_for e (typing_of (behind model unit) e) ≡ answer

abbrev pub unit_answer : c.Unit → Typing → Answer
unit_answer unit (typed program) = has_program
unit_answer unit (broken rule node) = breaks rule (slice_get (nodes unit) node)

-- a unit
abbrev pub IsTyped : DataModel → c.Unit → Answer → Type 0
IsTyped model unit answer = unit_answer unit (typing model unit) ≡ answer

-- ---- texts

abbrev pub name : List ℕ → c.Expression
name w = c.Name w

abbrev pub number : List ℕ → c.Expression
number text = c.Constant text

abbrev pub basic_specifiers : BasicType → c.Specifiers
basic_specifiers type = of_type (c.Basic type)

abbrev pub long : c.Specifiers
long = basic_specifiers basic.Long

abbrev pub floating : c.Specifiers
floating = basic_specifiers basic.Float

abbrev pub qualified_int : (constant volatile : Bool) → c.Specifiers
qualified_int constant volatile =
    c.specifiers (record no_words { qualifiers = record { constant = constant; volatile = volatile } }) (c.a_type (c.Basic basic.Int) c.no_types)

abbrev pub stored_int : Storage → c.Specifiers
stored_int class = c.specifiers (with_storage class no_words) (c.a_type (c.Basic basic.Int) c.no_types)

abbrev pub declaration_of : c.Specifiers → List ℕ → c.Parts → Option c.Initialiser → c.Declaration
declaration_of s w parts start = record { specifiers = s; declarators = record { declarator = declares w parts; initialiser = start } ∷ [] }

-- an object at file scope, without and with an initialiser
abbrev pub object : c.Specifiers → List ℕ → c.Parts → c.External
object s w parts = c.Declared (declaration_of s w parts None)

abbrev pub object_from : c.Specifiers → List ℕ → c.Parts → c.Initialiser → c.External
object_from s w parts start = c.Declared (declaration_of s w parts (Some start))

abbrev pub value : c.Expression → c.Initialiser
value e = c.Value e

abbrev pub braces_of_two : c.Initialiser → c.Initialiser → c.Initialiser
braces_of_two first second = c.Braces (c.an_initialiser first (c.an_initialiser second c.no_initialisers))

-- `[N]`
abbrev pub array_of_length : List ℕ → c.Parts
array_of_length n = c.Array (c.present (number n)) c.no_parts

-- a declaration of a function of one parameter, and its parameter
abbrev pub takes_int : c.Parts
takes_int = c.Function (c.Listed (one_parameter int (declares (codes "x") c.no_parts))) c.no_parts

abbrev pub takes_nothing : c.Parts → c.Parts
takes_nothing rest = c.Function c.Void rest

-- `int f(int x) { .. }`
abbrev pub function : c.Items → c.External
function body = c.Defines int (declares (codes "f") takes_int) body

abbrev pub lone : c.Statement → c.Items
lone s = c.a_statement s c.no_items

-- `int f(int x) { e; }` and `int f(int x) { return e; }`
abbrev pub evaluates : c.Expression → c.External
evaluates e = function (lone (c.Evaluates e))

abbrev pub gives : c.Expression → c.External
gives e = function (lone (c.Return (Some e)))

-- `struct s { int m; int n[2]; }`
abbrev pub struct_specifiers : c.Specifiers
struct_specifiers = of_type (c.Struct (Some (codes "s")) (member (codes "m") c.no_parts (member (codes "n") (array_of_length (codes "2")) c.no_members)))
  where
    member : List ℕ → c.Parts → c.Members → c.Members
    member w parts rest = c.a_member (c.member int (c.a_declarator (declares w parts) c.absent c.no_declarators)) rest

abbrev pub struct_tag : c.Specifiers
struct_tag = of_type (c.StructTag (codes "s"))
