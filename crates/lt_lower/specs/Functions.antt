-- What is promised of the code of a function.
use Rattle.std.specs.Prelude.{◌≡◌, ℕ, zero, suc, ◌+◌, ◌*◌, ◌≤◌, true, ◌||◌, List, map, length, Some, slice_get, slice_set, Result, IfOk}
use Rattle.std.specs.declared.alloc.AllocError.{AllocError}
use Rattle.lt_tree.specs.Typing.Programs.{Program}
use Rattle.lt_ir.specs.declared.variable.Variable.TheVariants as variable
use Rattle.lt_ir.specs.declared.code.Code.{Code}
use Rattle.lt_ir.specs.declared.node.Given.TheVariants as given
use Rattle.lt_ir.specs.declared.node.Arm.{Arm}
use Rattle.lt_ir.specs.declared.node.Node.{Node}
use Rattle.lt_ir.specs.declared.node.Node.TheVariants as node
use Rattle.lt_ir.specs.Edges.{HasEdge, is_tick_at}
use Rattle.lt_ir.specs.Tables.{IsTableOf}
use Rattle.lt_ir.specs.Ranges.{counts_in, is_code}
use Rattle.lt_meaning.specs.Statements.{is_sealed_object}
use Rattle.lt_meaning.specs.Runs.{initials, value_at_end}
use Rattle.lt_code.specs.Costs.{Cost, alone, ◌⊕◌, of_items, of_function}
use Rattle.lt_sizes.specs.Laws.{CostsAtMost}
use Rattle.lt_code.specs.Bodies as code
use Rattle.lt_code.specs.Bodies.{of_body, HasCode, label_of, stands_in, sealed_if}
use Rattle.lt_tables.specs.declared.site.Site.{Site}
use Rattle.lt_tables.specs.Views.{program_at, types_at, function_at}
use Rattle.lt_emit.specs.declared.builder.Builder.{Builder}
use Rattle.lt_emit.specs.Turned.{point_of, turned_round}
use Rattle.lt_emit.specs.Emission.{IsSound, IsEntrance, Here, here_of, Finished, site_in, local_shapes}
use Rattle.lt_lower.specs.Known.{AreKnownItems}

-- ---- parameters

-- code begins with a node to which no edge leads, if what stands behind it does
abbrev pub Continues : (before after : Builder) → (to : ℕ) → Result ℕ AllocError → Type 0
Continues before after to result = IsSound before → IsEntrance before to → IfOk result (IsEntrance after)

-- a node for each
abbrev pub parameters_cost : Here → Cost
parameters_cost here = alone (length here.function.parameters)

abbrev pub ParametersEnd : (to from : ℕ) → Here → Finished → Type 0
ParametersEnd to from here it =
    code.parameters_end (stands_in it.nodes) 0 here.function.parameters (it.point from) (it.point to)

abbrev pub ParametersSealed : (to from : ℕ) → Here → Finished → Type 0
ParametersSealed to from here it =
    code.parameters_sealed (stands_in it.nodes) here.program 0 here.function.parameters (it.point from) (it.point to)

abbrev pub ParameterSealed : (at number : ℕ) → (to from : ℕ) → Here → Finished → Type 0
ParameterSealed at number to from here it =
    sealed_if (stands_in it.nodes) (is_sealed_object here.program number) (variable.Parameter at) (it.point from) (it.point to)

-- ---- bodies

-- The code of a body, between the seals of parameters and the returns. The return of the value in register 0 stands at the
-- point of the first node.
pub record HasBody (from : ℕ) (here : Here) (it : Finished) : Type 0 where
  pub first : ℕ
  pub back : ℕ
  pub leaves : ℕ
  pub end : ℕ
  pub seals : code.parameters_sealed (stands_in it.nodes) here.program 0 here.function.parameters (it.point from) first
  pub body : code.items (site_in here it) here.function.body first (of_body back leaves)
  pub ends_with : code.parameters_end (stands_in it.nodes) 0 here.function.parameters back (it.point 0)
  pub ends_without : code.parameters_end (stands_in it.nodes) 0 here.function.parameters leaves end
  pub gives_none : stands_in it.nodes end (node.Return (given.Fixed (value_at_end here.function)))

-- without the node that gives a value back
abbrev pub body_cost : Here → Cost
body_cost here = alone (3 * length here.function.parameters + 1) ⊕ of_items here.program.functions here.function.body

abbrev pub BodyStands : (from : ℕ) → Here → Finished → Type 0
BodyStands from here it = AreKnownItems here here.function.body → HasBody from here it

-- ---- codes

-- the first node gives the value in register 0 back, if there are registers
abbrev pub gives_back : (registers : ℕ) → List Node → List Node
gives_back zero nodes = nodes
gives_back (suc n) nodes = slice_set nodes 0 (node.Return (given.Held 0))

-- what is emitted becomes a function's code
pub record IsFinished (b : Builder) (begin : ℕ) (it : Code) : Type 0 where
  pub name : it.name ≡ (here_of b).function.name
  pub params : it.params ≡ code.parameters_of (here_of b).program (here_of b).function.parameters
  pub locals : it.locals ≡ local_shapes (here_of b).program (here_of b).function
  pub structs : it.structs ≡ b.structs.items
  pub registers : it.registers ≡ b.registers
  pub last : ℕ
  pub count : length b.nodes.items ≡ suc last
  pub nodes : it.nodes ≡ turned_round last (gives_back b.registers b.nodes.items)
  pub start : it.start ≡ point_of last begin

-- what is known of a function where its code is made
abbrev pub here_at : Site → Here
here_at site = record {
  program = program_at site.tables.now;
  types = types_at site.tables.now;
  function = function_at site;
  stubs = site.tables.now.stubs.items;
  tracks = true;
}

-- Each number in a code is that of something that is there, each switch has the table of its arms, and turns of loops spend ticks.
pub record IsSoundCode (program : Program) (stubs : List (List ℕ)) (it : Code) : Type 0 where
  pub in_range :
      is_code (counts_in (length program.functions) (length (initials program program.objects)) (length program.labels) (length stubs) it) it
      ≡ true
  pub tables : (i value default : ℕ) (arms table : List Arm) → slice_get it.nodes i ≡ Some (node.Switch value arms table default)
      → IsTableOf table arms
  pub turns : (from to : ℕ) → HasEdge it from to → to ≤ from → (is_tick_at it from || is_tick_at it to) ≡ true

-- The code of a function, where what it names is known.
pub record CodeStands (here : Here) (it : Code) : Type 0 where
  pub code : AreKnownItems here here.function.body
      → HasCode here.program (map label_of here.program.labels) here.stubs here.function it
  pub sound : IsSoundCode here.program here.stubs it
  pub frugal : AreKnownItems here here.function.body → CostsAtMost (of_function here.program.functions here.function) it
