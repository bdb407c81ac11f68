-- What the typing of units holds on the way.
use Rattle.std.specs.Prelude.{List, [], ◌∷◌, ◌++◌, map, Option, Some, None, option_map}
use Rattle.std.specs.Global.{Box}
use Rattle.lt_tree.specs.declared.typed.statement.Statement.{Statement}
use Rattle.lt_tree.specs.declared.typed.statement.Item.{Item}
use Rattle.lt_tree.specs.declared.typed.statement.Case.{Case}
use Rattle.lt_tree.specs.declared.typed.statement.Local.{Local}
use Rattle.lt_tree.specs.declared.typed.tree.Value.{Value}
use Rattle.lt_tree.specs.Typing.Types.{CType}
use Rattle.lt_tree.specs.Typing.TypeRows.{type_in}
use Rattle.lt_tree.specs.Tree as c
use Rattle.lt_tree.specs.Typing.TypedTree as e
use Rattle.lt_tree.specs.Typing.Steps.{Walk, ◌>>=◌, gives, changes}
use Rattle.lt_tree.specs.Typing.Entities as k
use Rattle.lt_tree.specs.Typing.Specifying as s
use Rattle.lt_tree.specs.declared.specifier.Storage.{Storage}
use Rattle.lt_tree.specs.Typing.Expressions.{Typed, Use}
use Rattle.lt_tree.specs.Typing.ExpressionTyping.{expression}
use Rattle.lt_tree.specs.Typing.StatementView as view
use Rattle.lt_tree.specs.Typing.StatementTyping as typing
use Rattle.lt_tree.specs.Typing.DeclarationTyping as declaring
use Rattle.lt_unit.specs.declared.around.Around.{Around}
use Rattle.lt_unit.specs.declared.declaration.DeclaredLocals.{DeclaredLocals}
use Rattle.lt_unit.specs.declared.declaration.TypedStart.{TypedStart}
use Rattle.lt_unit.specs.declared.initialiser.Started.{Started}
use Rattle.lt_tree.specs.Typing.InitialiserTyping as initialising

abbrev pub around_of : List CType → Around → typing.Around
around_of types it = record { result = type_in types it.returned; in_loop = it.in_loop; in_switch = it.in_switch }

abbrev pub statement_in : List CType → Box Statement → e.Statement
statement_in types s = view.statement_of types s.value

abbrev pub locals_of : List CType → List Local → List e.Local
locals_of types locals = map (view.local_of types) locals

abbrev pub declared_locals_of : List CType → DeclaredLocals → declaring.DeclaredLocals
declared_locals_of types it = record { locals = locals_of types it.locals.items; faults = it.faults }

-- an expression that may be left out
abbrev pub optional_walk : Option c.Expression → Use → Walk (Option Typed)
optional_walk None role = gives None
optional_walk (Some it) role = expression it role >>= (λ x. gives (Some x))

abbrev pub for_start_in : List CType → TypedStart → typing.TypedStart
for_start_in types it = record { start = view.for_start_of types it.start; faults = it.faults }

abbrev pub labelled_of : List e.Label → typing.Seen → typing.Labelled
labelled_of labels seen = record { labels = labels; seen = seen }

-- specifiers of which this storage class has an effect
abbrev pub with_storage : Option Storage → s.Specified → s.Specified
with_storage class it = record it { storage = class }

-- at most one local object
abbrev pub local_in : List CType → Option Local → List e.Local
local_in types None = []
local_in types (Some local) = view.local_of types local ∷ []

abbrev pub adds_function : k.Function → Walk (Unit {0})
adds_function function = changes (λ known. record known { functions = known.functions ++ function ∷ [] })

abbrev pub started_of : List CType → Started → initialising.Started
started_of types it = record { start = view.start_of types it.start; type = type_in types it.ty }
