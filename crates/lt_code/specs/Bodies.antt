-- Where the code of objects, statements, functions and programs stands in a graph.
use Rattle.std.specs.Prelude.{◌≡◌, ℕ, suc, ℤ, pos, ◌+◌, ◌<◌, List, [], ◌∷◌, map, Bool, true, false, Option, Some, None}
use Rattle.std.specs.Prelude.{slice_get}
use Rattle.lt_model.specs.declared.cell.Content.TheVariants as content
use Rattle.lt_model.specs.declared.input.BlockIn.{BlockIn}
use Rattle.lt_model.specs.declared.scalar.Scalar.{Scalar}
use Rattle.lt_tree.specs.Typing.Types.{Num}
use Rattle.lt_tree.specs.Typing.Entities.{Function, Label as TypedLabel}
use Rattle.lt_tree.specs.Typing.TypedTree as e
use Rattle.lt_tree.specs.Typing.TypedTree.{Value, Statement, Items, Cases, Label, Local, StartPart, type_of}
use Rattle.lt_tree.specs.Typing.Programs.{Program}
use Rattle.lt_ir.specs.declared.variable.Variable.{Variable}
use Rattle.lt_ir.specs.declared.variable.Variable.TheVariants as variable
use Rattle.lt_ir.specs.declared.code.Code.{Code}
use Rattle.lt_ir.specs.declared.code.LabelInfo.{LabelInfo}
use Rattle.lt_ir.specs.declared.graph.Graph.{Graph}
use Rattle.lt_ir.specs.declared.node.Movement.TheVariants.{Member}
use Rattle.lt_ir.specs.declared.node.Given.TheVariants as given
use Rattle.lt_ir.specs.declared.node.Arm.{Arm}
use Rattle.lt_ir.specs.declared.node.Node.{Node}
use Rattle.lt_ir.specs.declared.node.Node.TheVariants as node
use Rattle.lt_ir.specs.declared.pure.How.TheVariants as how
use Rattle.lt_ir.specs.Graph.{shape_at}
use Rattle.lt_meaning.specs.Expressions.{wanted, dropped, untaken, cell_type, shape}
use Rattle.lt_meaning.specs.Statements.{type_of_object, is_sealed_object, is_zeroed, parts_in}
use Rattle.lt_meaning.specs.Runs.{variable_of, initials, name_of_object, value_at_end}
use Rattle.lt_code.specs.Pieces.{Stands, Piece, one, nothing, ◌▸◌, when, Test}
use Rattle.lt_code.specs.Code.{Site, program_in, constant, assigned, mark, tracking_at, full_value, full_test, up_to}

-- ---- objects

-- the address of a part of a variable
abbrev pub part_address : Site → Variable → (offset : ℕ) → Piece
part_address s v offset = one s.stands (node.Address 0 v) ▸ one s.stands (node.Move 0 0 (Member offset))

-- bytes go to the characters of a variable, from an offset on
abbrev pub letters : Site → Variable → Scalar → ℕ → List ℕ → Piece
letters s v t offset [] = nothing
letters s v t offset (b ∷ bytes) =
    up_to s 1 (part_address s v offset ▸ constant s 1 (content.Number (pos b))
    ▸ one s.stands (node.Store 0 1 1 (cell_type (program_in s) (Num t)) false) ▸ letters s v t (offset + 1) bytes)

abbrev pub part : Site → Variable → StartPart → Piece
part s v (e.stored offset value) =
    up_to s 1 (part_address s v offset ▸ full_value s wanted value 1
    ▸ assigned (tracking_at false s) (type_of value) 0 1)
part s v (e.fixed offset t c) = λ from to. s.stands from node.Stop
part s v (e.letters offset t bytes) = letters s v t offset bytes

abbrev pub parts : Site → Variable → List StartPart → Piece
parts s v [] = nothing
parts s v (first ∷ rest) = part s v first ▸ parts s v rest

abbrev pub sealed_if : Stands → Bool → Variable → Piece
sealed_if P is_sealed v = when is_sealed (one P (node.Seal v))

-- a local object begins, whose shape stands in the function's table
abbrev pub created : Site → Local → Piece
created s it from to =
    (k : ℕ) × (s.names.variable it.object ≡ variable.Local k)
    × (shape_at s.locals k ≡ shape (program_in s) (type_of_object (program_in s) it.object))
    × s.stands from (node.Create k (is_zeroed it.start) to)

-- and it gets its first value
abbrev pub opening : Site → Local → Piece
opening s it =
    created s it ▸ parts s (s.names.variable it.object) (parts_in it.start)
    ▸ sealed_if s.stands (is_sealed_object (program_in s) it.object) (s.names.variable it.object)

-- ---- statements

-- Where a statement leads: behind it, to the return of the value in register 0, to the return of none, and where
-- `break` and `continue` lead.
pub record Exits : Type 0 where
  pub next : ℕ
  pub back : ℕ
  pub leaves : ℕ
  pub breaks : ℕ
  pub continues : ℕ

-- the code of a statement, from a program point on
abbrev pub Flows : Type 1
Flows = (from : ℕ) → Exits → Type 0

-- a piece, then something that flows
infixr 10 ◌▹◌
abbrev pub ◌▹◌ : Piece → Flows → Flows
(first ▹ rest) from x = (m : ℕ) × first from m × rest m x

-- a piece that leads behind the statement
abbrev pub only : Piece → Flows
only piece from x = piece from x.next

abbrev pub tick : Site → Piece
tick s = one s.stands node.Tick

-- a tick, and one of the exits
abbrev pub jump : Site → (Exits → ℕ) → Flows
jump s exit from x = s.stands from (node.Tick (exit x))

-- one statement, then others
abbrev pub then_flows : Flows → Flows → Flows
then_flows first rest from x = (m : ℕ) × first from (record x { next = m }) × rest m x

-- a test, and where it leads
abbrev pub if_flows : Test → Flows → Flows → Flows
if_flows test on off from x = (m1 : ℕ) × (m2 : ℕ) × test from m1 m2 × on m1 x × off m2 x

-- the exits of what follows a declaration, at each of which the variable ends
abbrev pub HasEnds : Stands → Variable → Exits → Exits → Type 0
HasEnds P v inner outer =
    P inner.next (node.End v outer.next) × P inner.back (node.End v outer.back)
    × P inner.leaves (node.End v outer.leaves) × P inner.breaks (node.End v outer.breaks)
    × P inner.continues (node.End v outer.continues)

-- a declaration, and what follows it
abbrev pub local : Site → Local → Flows → Flows
local s it rest from x =
    (m : ℕ) × (y : Exits) × opening s it from m × rest m y × HasEnds s.stands (s.names.variable it.object) y x

abbrev pub locals : Site → List Local → Flows → Flows
locals s [] rest = rest
locals s (it ∷ its) rest = local s it (locals s its rest)

-- a missing test holds
abbrev pub optional_test : Site → Option Value → Test
optional_test s None from on off = from ≡ on
optional_test s (Some v) from on off = full_test s v 0 from on off

abbrev pub optional_value : Site → Option Value → Piece
optional_value s None = nothing
optional_value s (Some v) = full_value s dropped v 0

-- the turns of a `while` or a `for`
abbrev pub loop : Site → (test step : Option Value) → (body : Flows) → Flows
loop s test step body head x =
    (m1 : ℕ) × (m2 : ℕ) × (m3 : ℕ) × tick s head m1 × optional_test s test m1 m2 x.next
    × body m2 (record { next = m3; back = x.back; leaves = x.leaves; breaks = x.next; continues = m3 })
    × optional_value s step m3 head

abbrev pub do_loop : Site → Value → (body : Flows) → Flows
do_loop s test body head x =
    (m1 : ℕ) × (m2 : ℕ)
    × body head (record { next = m1; back = x.back; leaves = x.leaves; breaks = x.next; continues = m1 })
    × tick s m1 m2 × full_test s test 0 m2 head x.next

-- where the labels of a `switch` lead
pub data Entry : Type 0 where
  at_case : (value : ℤ) (point : ℕ) → Entry
  at_default : (point : ℕ) → Entry

abbrev pub arms_of : List Entry → List Arm
arms_of [] = []
arms_of (at_case z point ∷ entries) = record { value = z; next = point } ∷ arms_of entries
arms_of (at_default point ∷ entries) = arms_of entries

abbrev pub default_of : List Entry → ℕ → ℕ
default_of [] to = to
default_of (at_case z point ∷ entries) to = default_of entries to
default_of (at_default point ∷ entries) to = point

-- labels that lead to a point, and those behind
abbrev pub labels_at : List Label → ℕ → List Entry → List Entry
labels_at [] point entries = entries
labels_at (e.Case z ∷ labels) point entries = at_case z point ∷ labels_at labels point entries
labels_at (e.Default ∷ labels) point entries = at_default point ∷ labels_at labels point entries

-- the exits of the body of a `switch`
abbrev pub inside_switch : Exits → Exits
inside_switch x = record { next = x.next; back = x.back; leaves = x.leaves; breaks = x.next; continues = x.continues }

-- the choice of a `switch`, over the code of its statements
abbrev pub switch : Site → (List Entry → Flows) → Flows
switch s body from x =
    (first : ℕ) × (entries : List Entry) × (table : List Arm)
    × s.stands from (node.Switch 0 (arms_of entries) table (default_of entries x.next))
    × body entries first (inside_switch x)

abbrev mutual
  pub flows : Site → Statement → Flows
  flows s (e.Compound its) = items s its
  flows s (e.Evaluates v) = only (tick s ▸ full_value s untaken v 0)
  flows s e.Null = only (tick s)
  flows s (e.If v body) = tick s ▹ if_flows (full_test s v 0) (flows s body) (only nothing)
  flows s (e.IfElse v body other) = tick s ▹ if_flows (full_test s v 0) (flows s body) (flows s other)
  flows s (e.While v body) = tick s ▹ loop s (Some v) None (flows s body)
  flows s (e.Do body v) = tick s ▹ do_loop s v (flows s body)
  flows s (e.For e.Nothing test step body) = tick s ▹ loop s test step (flows s body)
  flows s (e.For (e.First v) test step body) = tick s ▹ full_value s dropped v 0 ▹ loop s test step (flows s body)
  flows s (e.For (e.Locals its) test step body) = tick s ▹ locals s its (loop s test step (flows s body))
  flows s (e.Switch v its) = tick s ▹ full_value s wanted v 0 ▹ switch s (cases s its)
  flows s e.Break = jump s (λ x. x.breaks)
  flows s e.Continue = jump s (λ x. x.continues)
  flows s (e.Return None) = jump s (λ x. x.leaves)
  flows s (e.Return (Some v)) =
      λ from x. up_to s 0 (tick s ▸ full_value s wanted v 0 ▸ one s.stands (node.Convert 0 0 how.ToValue)) from x.back

  pub items : Site → Items → Flows
  items s e.no_items = only nothing
  items s (e.a_local it rest) = local s it (items s rest)
  items s (e.a_statement first rest) = then_flows (flows s first) (items s rest)
  items s (e.a_label label rest) = mark s label ▹ items s rest

  -- the statements of a `switch`, with the points of their labels
  pub cases : Site → Cases → List Entry → Flows
  cases s e.no_cases entries from x = (entries ≡ []) × (from ≡ x.next)
  cases s (e.a_case labels first rest) entries from x =
      (m : ℕ) × (more : List Entry) × (entries ≡ labels_at labels from more)
      × flows s first from (record x { next = m }) × cases s rest more m x

-- ---- functions and programs

-- the parameters end, the last first
abbrev pub parameters_end : Stands → ℕ → List ℕ → Piece
parameters_end P k [] = nothing
parameters_end P k (it ∷ its) = parameters_end P (suc k) its ▸ one P (node.End (variable.Parameter k))

-- the parameters are sealed that are declared `const`
abbrev pub parameters_sealed : Stands → Program → ℕ → List ℕ → Piece
parameters_sealed P program k [] = nothing
parameters_sealed P program k (n ∷ ns) =
    sealed_if P (is_sealed_object program n) (variable.Parameter k) ▸ parameters_sealed P program (suc k) ns

-- the parameters, by their names and shapes
abbrev pub parameters_of : Program → List ℕ → List BlockIn
parameters_of program ns =
    map (λ n. record { name = name_of_object program n; shape = shape program (type_of_object program n) }) ns

abbrev pub stands_in : List Node → Stands
stands_in nodes i n = slice_get nodes i ≡ Some n

abbrev pub site_of : Program → List LabelInfo → (stubs : List (List ℕ)) → Function → Code → Stands → Site
site_of program labels stubs f code P = record {
  names = record { program = program; variable = variable_of program f };
  locals = code.locals;
  structs = code.structs;
  labels = labels;
  stubs = stubs;
  registers = code.registers;
  stands = P;
  tracks = true;
}

-- the exits of a function's body
abbrev pub of_body : (back leaves : ℕ) → Exits
of_body back leaves = record { next = leaves; back = back; leaves = leaves; breaks = leaves; continues = leaves }

-- the code of a function
pub record HasCode (program : Program) (labels : List LabelInfo) (stubs : List (List ℕ)) (f : Function) (code : Code)
    : Type 0 where
  pub name : code.name ≡ f.name
  pub params : code.params ≡ parameters_of program f.parameters
  pub first : ℕ
  pub back : ℕ
  pub leaves : ℕ
  pub last : ℕ
  pub end : ℕ
  pub seals : parameters_sealed (stands_in code.nodes) program 0 f.parameters code.start first
  pub body : items (site_of program labels stubs f code (stands_in code.nodes)) f.body first (of_body back leaves)
  -- with the value in register 0, if there are registers, and with that of the body's end
  pub ends_with : parameters_end (stands_in code.nodes) 0 f.parameters back last
  pub gives_it : 0 < code.registers → stands_in code.nodes last (node.Return (given.Held 0))
  pub ends_without : parameters_end (stands_in code.nodes) 0 f.parameters leaves end
  pub gives_none : stands_in code.nodes end (node.Return (given.Fixed (value_at_end f)))

abbrev pub Lowered : Program → List LabelInfo → (stubs : List (List ℕ)) → Option Function → Option Code → Type 0
Lowered program labels stubs None None = Unit {0}
Lowered program labels stubs (Some f) (Some code) = HasCode program labels stubs f code
Lowered program labels stubs None (Some code) = ⊥
Lowered program labels stubs (Some f) None = ⊥

abbrev pub label_of : TypedLabel → LabelInfo
label_of label = record { id = label.id; tag = label.tag; bound = label.bound }

-- the graph has the code of each function with a body, by its place among them
pub record HasProgram (program : Program) (graph : Graph) : Type 0 where
  pub model : graph.model ≡ program.model
  pub statics : graph.statics ≡ initials program program.objects
  pub labels : graph.labels ≡ map label_of program.labels
  pub each : (f : ℕ) →
      Lowered program graph.labels graph.stubs (slice_get program.functions f) (slice_get graph.codes f)
