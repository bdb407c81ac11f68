-- How a part of a unit with marks added stands, to which the typing of that comes: beside a part of the unit, to which the typing of the unit comes.
use Rattle.std.proofs.Common.{◌≡◌, ℕ, Bool, true, false, List}
use Rattle.lt_model.specs.declared.scalar.DataModel.{DataModel}
use Rattle.lt_model.specs.declared.scalar.Scalar.{Scalar}
use Rattle.lt_tree.specs.declared.specifier.Storage.{Storage}
use Rattle.std.specs.Prelude.{Option}
use Rattle.lt_tree.specs.Tree as c
use Rattle.lt_tree.specs.Nodes.{in_initialiser, in_initialisers}
use Rattle.lt_tree.specs.Typing.Types.{CType}
use Rattle.lt_tree.specs.Typing.Entities.{Known}
use Rattle.lt_tree.specs.Typing.Expressions.{Use}
use Rattle.lt_tree.specs.Typing.Specifying.{Specified}
use Rattle.lt_tree.specs.Typing.Filling.{Filling}
use Rattle.lt_tree.specs.Typing.StatementTyping.{Around, Seen}
use Rattle.lt_typed_nodes.specs.Reaching as place
use Rattle.lt_typed_nodes.specs.Reaching.{Piece, IsPart, IsReached}
use Rattle.lt_mark_typing.specs.Further.{Agrees}
use Rattle.lt_mark_typing.specs.Beside.{IsBeside, Position, use_of}
use Rattle.lt_mark_typing.specs.Placed.{AreOld, AreNewLabels, takes_labels, AddsTo, AddsToAll}
use Rattle.lt_mark_typing.specs.PlacedInitialisers.{AddsToInitialiser, AddsToInitialisers, AddsToObject, AddsToDeclarators, AddsToDeclaration}
use Rattle.lt_mark_typing.specs.PlacedItems.{AddsToStatement, AddsToItems, AddsToCases}
use Rattle.lt_mark_typing.specs.PlacedUnits.{AddsToExternal, AddsToUnit}
use Rattle.lt_mark_typing.proofs.Filled.{Fills}
use Rattle.lt_mark_typing.proofs.Initialisers.{AddsFilled}

-- The same is left to be filled; what is filled may have marks added.
abbrev pub FillsAlike : (new : ℕ → Bool) (further : List Bool) → Filling → Filling → Type 0
FillsAlike new further filling other = (r : ℕ → ℕ) → Agrees r further → Fills (AddsFilled new) r filling other

pub data Stands (new : ℕ → Bool) (greatest : ℕ) (model : DataModel) (unit : c.Unit) : Piece → Known → Type 0 where
  an_expression : {role : Use} {position : Position} {used after : List ℕ} {further : List Bool} {known there : Known} {it marked : c.Expression}
      → IsReached greatest model unit (place.an_expression role it) known → use_of position ≡ role → AddsTo new position used after known it marked → IsBeside new used further known there
      → Stands new greatest model unit (place.an_expression role marked) there
  -- labels in front of it, and it may be a call or a conversion
  labels_before : {role : Use} {position : Position} {used between after : List ℕ} {further : List Bool} {known there : Known} {labels : c.Marks} {it marked : c.Expression}
      → IsReached greatest model unit (place.an_expression role it) known → use_of position ≡ role → known.is_unmarked ≡ false → takes_labels position ≡ true
      → AreNewLabels new used between known labels → AddsTo new position between after known it marked → IsBeside new used further known there
      → Stands new greatest model unit (place.an_expression role (c.Marked labels marked)) there
  expressions : {used after : List ℕ} {further : List Bool} {known there : Known} {them marked : c.Expressions}
      → IsReached greatest model unit (place.expressions them) known → AddsToAll new used after known them marked → IsBeside new used further known there
      → Stands new greatest model unit (place.expressions marked) there
  -- initialisers: of objects that are there from the start, or others in which no mark is added
  an_old_start : {is_static : Bool} {t : CType} {used : List ℕ} {further : List Bool} {known there : Known} {i : c.Initialiser}
      → IsReached greatest model unit (place.a_start is_static t i) known → AreOld new (in_initialiser i) → IsBeside new used further known there
      → Stands new greatest model unit (place.a_start is_static t i) there
  an_old_initialiser : {is_static : Bool} {filling other : Filling} {used : List ℕ} {further : List Bool} {known there : Known} {i : c.Initialiser}
      → IsReached greatest model unit (place.an_initialiser is_static filling i) known → FillsAlike new further filling other → AreOld new (in_initialiser i) → IsBeside new used further known there
      → Stands new greatest model unit (place.an_initialiser is_static other i) there
  old_initialisers : {is_static : Bool} {filling other : Filling} {used : List ℕ} {further : List Bool} {known there : Known} {list : c.Initialisers}
      → IsReached greatest model unit (place.initialisers is_static filling list) known → FillsAlike new further filling other → AreOld new (in_initialisers list) → IsBeside new used further known there
      → Stands new greatest model unit (place.initialisers is_static other list) there
  a_start : {t : CType} {used after : List ℕ} {further : List Bool} {known there : Known} {i marked : c.Initialiser}
      → IsReached greatest model unit (place.a_start false t i) known → AddsToObject new used after known t i marked → IsBeside new used further known there
      → Stands new greatest model unit (place.a_start false t marked) there
  an_initialiser : {filling other : Filling} {used after : List ℕ} {further : List Bool} {known there : Known} {i marked : c.Initialiser}
      → IsReached greatest model unit (place.an_initialiser false filling i) known → FillsAlike new further filling other → AddsToInitialiser new used after known filling i marked → IsBeside new used further known there
      → Stands new greatest model unit (place.an_initialiser false other marked) there
  initialisers : {filling other : Filling} {used after : List ℕ} {further : List Bool} {known there : Known} {list marked : c.Initialisers}
      → IsReached greatest model unit (place.initialisers false filling list) known → FillsAlike new further filling other → AddsToInitialisers new used after known filling list marked → IsBeside new used further known there
      → Stands new greatest model unit (place.initialisers false other marked) there
  declarators : {it : Specified} {used after : List ℕ} {further : List Bool} {known there : Known} {ds marked : List c.InitDeclarator}
      → IsReached greatest model unit (place.declarators it ds) known → AddsToDeclarators new used after it known ds marked → IsBeside new used further known there
      → Stands new greatest model unit (place.declarators it marked) there
  a_declaration : {effective : Option Storage → Option Storage} {used after : List ℕ} {further : List Bool} {known there : Known} {d marked : c.Declaration}
      → IsReached greatest model unit (place.a_declaration effective d) known → AddsToDeclaration new effective used after known d marked → IsBeside new used further known there
      → Stands new greatest model unit (place.a_declaration effective marked) there
  a_statement : {around : Around} {used after : List ℕ} {further : List Bool} {known there : Known} {it marked : c.Statement}
      → IsReached greatest model unit (place.a_statement around it) known → AddsToStatement new used after around known it marked → IsBeside new used further known there
      → Stands new greatest model unit (place.a_statement around marked) there
  items : {around : Around} {used after : List ℕ} {further : List Bool} {known there : Known} {them marked : c.Items}
      → IsReached greatest model unit (place.items around them) known → AddsToItems new used after around known them marked → IsBeside new used further known there
      → Stands new greatest model unit (place.items around marked) there
  cases : {type : Option Scalar} {seen : Seen} {around : Around} {used after : List ℕ} {further : List Bool} {known there : Known} {them marked : c.Cases}
      → IsReached greatest model unit (place.cases type seen around them) known → AddsToCases new used after type seen around known them marked → IsBeside new used further known there
      → Stands new greatest model unit (place.cases type seen around marked) there
  an_external : {used after : List ℕ} {further : List Bool} {known there : Known} {it marked : c.External}
      → IsReached greatest model unit (place.an_external it) known → AddsToExternal new used after known it marked → IsBeside new used further known there
      → Stands new greatest model unit (place.an_external marked) there
  externals : {used after : List ℕ} {further : List Bool} {known there : Known} {them marked : List c.External}
      → IsReached greatest model unit (place.externals them) known → AddsToUnit new used after known them marked → IsBeside new used further known there
      → Stands new greatest model unit (place.externals marked) there

-- From a part that stands so to its parts.
abbrev pub StandsOn : (new : ℕ → Bool) (greatest : ℕ) (model : DataModel) (unit : c.Unit) → (whole : Piece) (known : Known) → Type 0
StandsOn new greatest model unit whole known =
    (part : Piece) (k : Known) → Stands new greatest model unit whole known → IsPart whole known part k → Stands new greatest model unit part k
