-- Examples: the sizes of functions, and a function's code, worked out.
use Rattle.std.specs.Prelude.{◌≡◌, ℕ, pos, List, [], ◌∷◌, codes, true, false, Some, None}
use Rattle.lt_model.specs.declared.cell.CellType.{CellType}
use Rattle.lt_model.specs.declared.cell.CellType.TheVariants as cell
use Rattle.lt_model.specs.declared.cell.Content.TheVariants as content
use Rattle.lt_model.specs.declared.operator.Op.TheVariants as op
use Rattle.lt_model.specs.declared.scalar.DataModel.TheVariants.{Lp64}
use Rattle.lt_model.specs.declared.scalar.Scalar.TheVariants as scalar
use Rattle.lt_tree.specs.declared.specifier.BasicType.TheVariants as basic
use Rattle.lt_tree.specs.Tree as c
use Rattle.lt_tree.specs.Grammar.{no_words}
use Rattle.lt_tree.specs.Typing.Types as t
use Rattle.lt_tree.specs.Typing.Types.{CType}
use Rattle.lt_tree.specs.Typing.Entities.{Function, parameter, no_names}
use Rattle.lt_tree.specs.Typing.TypedTree as e
use Rattle.lt_tree.specs.Typing.TypedTree.{Value, Place, Items, no_values, a_value}
use Rattle.lt_tree.specs.Typing.Programs.{Program}
use Rattle.lt_ir.specs.declared.variable.Variable.{Variable}
use Rattle.lt_ir.specs.declared.variable.Variable.TheVariants as variable
use Rattle.lt_ir.specs.declared.code.Code.{Code}
use Rattle.lt_ir.specs.declared.node.Given.TheVariants as given
use Rattle.lt_ir.specs.declared.node.Node.{Node}
use Rattle.lt_ir.specs.declared.node.Node.TheVariants as node
use Rattle.lt_ir.specs.declared.pure.How.TheVariants as how
use Rattle.lt_ir.specs.Edges.{TurnByTicks}
use Rattle.lt_ir.specs.Ranges.{is_code, counts_in}
use Rattle.lt_code.specs.Sizes.{size_of}
use Rattle.lt_code.specs.Bodies.{HasCode, parameters_of}
use Rattle.lt_code.specs.Bounds.{IsBounded}

-- ---- definitions of functions

abbrev int_specifiers : c.Specifiers
int_specifiers = c.specifiers no_words (c.a_type (c.Basic basic.Int) c.no_types)

abbrev named_x : c.Expression
named_x = c.Name (codes "x")

-- `int NAME(int x) { .. }`
abbrev definition : List ℕ → c.Items → c.External
definition name body = c.Defines int_specifiers (c.declarator (Some name) (c.Function (c.Listed parameters) c.no_parts)) body
  where
    parameters : c.ParameterList
    parameters = c.a_parameter int_specifiers (c.declarator (Some (codes "x")) c.no_parts) c.no_parameters

-- `return e;` at the end of a block
abbrev return_at_end : c.Expression → c.Items
return_at_end e = c.a_statement (c.Return (Some e)) c.no_items

-- `int g(int x) { }`
abbrev pub empty_definition : c.External
empty_definition = definition (codes "g") c.no_items

-- `int h(int x) { char a[2] = "ab"; return pc_label(x < 1, 1, "c"), g(x) + g(1); }`
abbrev pub calling_definition : c.External
calling_definition = definition (codes "h") (c.a_declaration array (return_at_end (c.Marked marks sum)))
  where
    one : c.Expression
    one = c.Constant (codes "1")

    array : c.Declaration
    array = record {
      specifiers = c.specifiers no_words (c.a_type (c.Basic basic.Char) c.no_types);
      declarators = record {
        declarator = c.declarator (Some (codes "a")) (c.Array (c.present (c.Constant (codes "2"))) c.no_parts);
        initialiser = Some (c.Value (c.Text (codes "ab")));
      } ∷ [];
    }

    marks : c.Marks
    marks = c.a_mark (c.mark (c.Binary op.Lt named_x one) (codes "1") (codes "c") c.no_bindings) c.no_marks

    call : c.Expression → c.Expression
    call e = c.Call (c.Name (codes "g")) (c.an_expression e c.no_expressions)

    sum : c.Expression
    sum = c.Binary op.Add (call named_x) (call one)

-- `int f(int x) { while (x) x--; return x; }`
abbrev pub counting_definition : c.External
counting_definition =
    definition (codes "f") (c.a_statement (c.While named_x (c.Evaluates (c.PostDec named_x))) (return_at_end named_x))

-- ---- the same functions typed

abbrev int : CType
int = t.Num scalar.Int

-- `int NAME(int x) { .. }`
abbrev function : List ℕ → Items → Function
function name body = record {
  node = 0;
  name = name;
  type = t.Function int (t.a_type int t.no_types) false;
  parameters = 0 ∷ [];
  body = body;
}

abbrev x : Place
x = e.Object int 0

abbrev value_of_x : Value
value_of_x = e.Load int x

-- `return v;` at the end of a block
abbrev returned : Value → Items
returned v = e.a_statement (e.Return (Some v)) e.no_items

abbrev pub empty : Function
empty = function (codes "g") e.no_items

abbrev pub calling : Function
calling = function (codes "h") (e.a_local (record { object = 1; start = Some text }) (returned (e.Marked int marks sum)))
  where
    text : e.Start
    text = record { zeroed = true; parts = e.letters 0 scalar.Char (codes "ab") ∷ [] }

    one : Value
    one = e.Constant int (pos 1)

    marks : e.Marks
    marks = e.a_mark (e.mark (e.Arithmetic int op.Lt scalar.Int value_of_x one) 1 e.no_bindings) e.no_marks

    call : Value → Value
    call v = e.Call int (codes "g") (a_value v no_values)

    sum : Value
    sum = e.Arithmetic int op.Add scalar.Int (call value_of_x) (call one)

abbrev pub counting : Function
counting =
    function (codes "f") (e.a_statement (e.While value_of_x (e.Evaluates decrement)) (returned value_of_x))
  where
    decrement : Value
    decrement = e.Step int e.before op.Sub scalar.Int x

-- ---- their sizes; the predicate of the mark in `h` has three nodes, none of which counts

abbrev pub SizesAreWorkedOut : Type 0
SizesAreWorkedOut =
    (size_of (empty ∷ []) empty_definition empty
    ≡ record { nodes = 3; letters = 0; largest = 0; loops = 0; calls = [] })
    × (size_of (empty ∷ calling ∷ []) calling_definition calling
    ≡ record { nodes = 19; letters = 2; largest = 9; loops = 0; calls = 0 ∷ 0 ∷ [] })
    × (size_of (counting ∷ []) counting_definition counting
    ≡ record { nodes = 12; letters = 0; largest = 2; loops = 1; calls = [] })

-- ---- a code

abbrev pub program : Program
program = record {
  unit = counting_definition ∷ [];
  model = Lp64;
  structs = [];
  objects = record { node = 0; name = codes "x"; type = int; life = parameter; start = None } ∷ [];
  declared = [];
  functions = counting ∷ [];
  file = no_names;
  types = int ∷ [];
  labels = [];
  facts = [];
}

abbrev at_x : Variable
at_x = variable.Parameter 0

abbrev in_int : CellType
in_int = cell.Num scalar.Int

abbrev pub nodes : List Node
nodes =
    node.Tick 1
    -- the test
    ∷ node.Tick 2 ∷ node.Address 0 at_x 3 ∷ node.Load 0 0 in_int false 4 ∷ node.Branch 0 5 13
    -- the body
    ∷ node.Tick 6 ∷ node.Address 0 at_x 7 ∷ node.Load 1 0 in_int false 8
    ∷ node.Constant 2 (content.Number (pos 1)) false 9 ∷ node.Convert 3 1 (how.ToInteger scalar.Int) 10
    ∷ node.Apply 3 3 2 op.Sub scalar.Int 11 ∷ node.Convert 3 3 (how.ToInteger scalar.Int) 12
    ∷ node.Store 0 3 1 in_int false 1
    -- the value
    ∷ node.Tick 14 ∷ node.Address 0 at_x 15 ∷ node.Load 0 0 in_int false 16 ∷ node.Convert 0 0 how.ToValue 17
    -- the two ends
    ∷ node.End at_x 18 ∷ node.Return (given.Held 0) ∷ node.End at_x 20 ∷ node.Return (given.Fixed content.Unset) ∷ []

abbrev pub code : Code
code = record {
  name = codes "f";
  params = parameters_of program (0 ∷ []);
  locals = [];
  structs = [];
  registers = 4;
  nodes = nodes;
  start = 0;
}

-- the code of `empty`, which has no full expression
abbrev pub short_nodes : List Node
short_nodes = node.End at_x 1 ∷ node.Return (given.Fixed content.Unset) ∷ []

abbrev pub short : Code
short = record {
  name = codes "g";
  params = parameters_of program (0 ∷ []);
  locals = [];
  structs = [];
  registers = 0;
  nodes = short_nodes;
  start = 0;
}

-- a code of a function is within its bounds, its numbers are in range, and each turn of a loop spends a tick
pub record IsWorkedOut (definition : c.External) (f : Function) (it : Code) : Type 0 where
  pub stands : HasCode program [] [] f it
  pub bounded : IsBounded (size_of program.functions definition f) it
  pub in_range : is_code (counts_in 1 0 0 0 it) it ≡ true
  pub turns : TurnByTicks (it ∷ [])

abbrev pub CodesAreWorkedOut : Type 0
CodesAreWorkedOut = IsWorkedOut counting_definition counting code × IsWorkedOut empty_definition empty short
