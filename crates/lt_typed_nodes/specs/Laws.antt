-- What typing notes of expressions is of their nodes, and is found by their numbers.
use Rattle.std.specs.Prelude.{◌≡◌, ◌⊎◌, ℕ, suc, ◌+◌, ◌<◌, ◌≤◌, Bool, true, List, [], ◌∷◌, ◌++◌, Some}
use Rattle.std.specs.List.{AllByRecursion}
use Rattle.lt_model.specs.declared.scalar.DataModel.{DataModel}
use Rattle.lt_tree.specs.Tree as c
use Rattle.lt_tree.specs.Typing.Types.{CType, is_integer, is_pointer, is_array}
use Rattle.lt_tree.specs.Typing.Constants.{Constancy, varying}
use Rattle.lt_tree.specs.Typing.Entities.{Known, Fact, starting}
use Rattle.lt_tree.specs.Typing.Steps.{Outcome, Goes, Breaks}
use Rattle.lt_tree.specs.Typing.Expressions.{Typed, Use, as_value, own_type, as_it_is_read, used, fact_of}
use Rattle.lt_tree.specs.Typing.ExpressionTyping.{expression, mark}
use Rattle.lt_tree.specs.Typing.InitialiserTyping.{Judges, object_initialiser}
use Rattle.lt_tree.specs.Typing.DeclarationTyping.{declaration}
use Rattle.lt_tree.specs.Typing.StatementTyping.{Around, statement, items}
use Rattle.lt_tree.specs.Typing.UnitTyping.{external}
use Rattle.lt_objectives.specs.Places.{value_part, fact_among}
use Rattle.lt_objectives.specs.Mutants.{is_signed_integer}

-- ---- what is noted

-- facts of nodes from this number on, before that one
abbrev pub AreOfNodes : (first behind : ℕ) → List Fact → Type 0
AreOfNodes first behind facts = AllByRecursion (λ (fact : Fact). (first ≤ fact.node) × (fact.node < behind)) facts

-- Between two places of a walk facts are noted of the nodes that begin between them, behind those that were there.
abbrev pub NotesBetween : (known behind : Known) → Type 0
NotesBetween known behind = (more : List Fact) × (behind.facts ≡ known.facts ++ more) × AreOfNodes known.next behind.next more

-- Going over a part notes facts of its nodes alone.
abbrev pub NotesItsNodes : {A : Type 0} → Known → Outcome A → Type 0
NotesItsNodes known (Goes a behind) = NotesBetween known behind
NotesItsNodes known (Breaks rule node) = Unit {0}

-- Each part does so, wherever it stands.
abbrev pub PartsNoteTheirNodes : Type 0
PartsNoteTheirNodes =
    ((it : c.Expression) (role : Use) (known : Known) → NotesItsNodes known (expression it role known))
    × ((it : c.Mark) (known : Known) → NotesItsNodes known (mark it known))
    × ((it : c.Initialiser) (is_static : Bool) (t : CType) (judge : Judges) (known : Known) → NotesItsNodes known (object_initialiser is_static t judge it known))
    × ((it : c.Declaration) (known : Known) → NotesItsNodes known (declaration it known))
    × ((it : c.Statement) (around : Around) (known : Known) → NotesItsNodes known (statement it around known))
    × ((them : c.Items) (around : Around) (known : Known) → NotesItsNodes known (items them around known))
    × ((it : c.External) (known : Known) → NotesItsNodes known (external it known))

-- An expression that is gone over is what it is used as, of something of which a fact is noted behind those of its parts, by its own number.
abbrev pub ExpressionsAreNoted : Type 0
ExpressionsAreNoted =
    (it : c.Expression) (role : Use) (known behind : Known) (x : Typed) → expression it role known ≡ Goes x behind
    → (y : Typed) × (more : List Fact) × (x ≡ used role y) × (behind.facts ≡ known.facts ++ more ++ fact_of known.next y ∷ [])
    × AreOfNodes (suc known.next) behind.next more

-- ---- what is found

-- A fact is found by its number behind those of lower numbers and those of greater ones, whatever is noted later.
abbrev pub FactsAreFound : Type 0
FactsAreFound =
    (before more later : List Fact) (fact : Fact)
    → AllByRecursion (λ (it : Fact). it.node < fact.node) before → AllByRecursion (λ (it : Fact). fact.node < it.node) more
    → fact_among (before ++ more ++ fact ∷ later) fact.node ≡ Some fact

-- all that is noted is of nodes that have begun
abbrev pub NotesBegunNodes : Known → Type 0
NotesBegunNodes known = AllByRecursion (λ (fact : Fact). fact.node < known.next) known.facts

-- It is so at the start of a unit, and where it is so at a place, also inside the node that begins there, and behind each part.
abbrev pub BegunNodesAreNoted : Type 0
BegunNodesAreNoted =
    ((greatest : ℕ) (model : DataModel) (defined : List (List ℕ)) → NotesBegunNodes (starting greatest model defined))
    × ((known : Known) → NotesBegunNodes known → NotesBegunNodes (record known { next = known.next + 1 }))
    × ((known behind : Known) → known.next ≤ behind.next → NotesBetween known behind → NotesBegunNodes known → NotesBegunNodes behind)

-- So the program of a unit knows of each expression, by the number of its node, what typing found there: what is noted later changes nothing of it.
abbrev pub ExpressionsAreKnown : Type 0
ExpressionsAreKnown =
    (it : c.Expression) (role : Use) (known behind : Known) (x : Typed) (later : List Fact)
    → NotesBegunNodes known → expression it role known ≡ Goes x behind
    → (y : Typed) × (x ≡ used role y) × (fact_among (behind.facts ++ later) known.next ≡ Some (fact_of known.next y))

-- ---- constants

-- If the first is a constant, so is the second, with the same value.
abbrev pub StaysConstant : Constancy → Constancy → Type 0
StaysConstant c d = (c ≡ varying) ⊎ (c ≡ d)

-- An expression that is a constant with its marks is so without them.
abbrev pub ConstantsStay : Type 0
ConstantsStay = (it : c.Expression) (role : Use) (known behind : Known) (x : Typed) → expression it role known ≡ Goes x behind → StaysConstant x.constancy x.erased

-- ---- types of operands

-- What is of the first type has a value of the second, C11 6.3.2.1: both are integers of the same sign, or none is; and the value of a pointer is a
-- pointer, as is that of an array.
pub record IsReadAs (t u : CType) : Type 0 where
  pub integer : is_integer u ≡ is_integer t
  pub sign : (m : DataModel) → is_signed_integer m u ≡ is_signed_integer m t
  pub pointer : is_pointer t ≡ true → is_pointer u ≡ true
  pub pointed : is_pointer u ≡ true → (is_pointer t ≡ true) ⊎ (is_array t ≡ true)

-- The type that is noted of an expression is read as that of its value.
abbrev pub ValuesHaveTheirTypes : Type 0
ValuesHaveTheirTypes = (x : Typed) → IsReadAs (own_type x) (own_type (as_it_is_read x))

-- The value of an operand, with marks around it or as the last part of a comma expression, has the type that is noted of its value part.
abbrev pub OperandsHaveTheirTypes : Type 0
OperandsHaveTheirTypes =
    (it : c.Expression) (known behind : Known) (x : Typed) (later : List Fact) → NotesBegunNodes known → expression it as_value known ≡ Goes x behind
    → (fact : Fact) × (fact_among (behind.facts ++ later) (value_part known.next it).number ≡ Some fact) × IsReadAs fact.type (own_type x)
