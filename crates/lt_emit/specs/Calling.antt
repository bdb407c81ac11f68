-- What is promised of the code of calls.
use Rattle.std.specs.Prelude.{◌≡◌, ℕ, ◌+◌, ◌*◌, max, List, length, Bool, Some, None}
use Rattle.std.specs.Option.{option_to_list}
use Rattle.lt_model.specs.declared.cell.Content.TheVariants as content
use Rattle.lt_tree.specs.declared.typed.tree.Value.{Value}
use Rattle.lt_tree.specs.declared.typed.types.TypeId.{TypeId}
use Rattle.lt_tree.specs.Typing.TypeRows.{type_in}
use Rattle.lt_tree.specs.Typing.ValueView.{value_of, values_in}
use Rattle.lt_tree.specs.Typing.TypedTree as e
use Rattle.lt_tree.specs.Typing.TypedTree.{type_of}
use Rattle.lt_ir.specs.declared.node.Parts.TheVariants.{Unsequenced}
use Rattle.lt_meaning.specs.Expressions.{unconverted}
use Rattle.lt_code.specs.Pieces.{Piece, nothing, ◌▸◌}
use Rattle.lt_code.specs.Code.{Site, value_code, clash, up_to, constant, reads, passed, call, call_by_number, next_for, number_among}
use Rattle.lt_code.specs.Costs.{Cost, nodes_of, behind_arguments, calls_in_all}
use Rattle.lt_tables.specs.Lookups.{function_number, name_among}
use Rattle.lt_emit.specs.Spending.{piece}
use Rattle.lt_emit.specs.Emission.{Here, Finished, site_in}
use Rattle.lt_emit.specs.Known.{AreKnown, IsCallable}

-- ---- arguments

-- their values
abbrev pub argument_values : Site → e.Values → (r : ℕ) → Piece
argument_values s e.no_values r = nothing
argument_values s (e.a_value v vs) r = value_code s unconverted v r ▸ argument_values s vs (r + 1)

-- what they cost, without what joins and passes them
abbrev pub nodes_of_values : e.Values → ℕ
nodes_of_values e.no_values = 0
nodes_of_values (e.a_value v vs) = (nodes_of v).value + nodes_of_values vs

abbrev pub arguments_cost : List Value → (r : ℕ) → Here → Cost
arguments_cost arguments r here = record {
  nodes = nodes_of_values (values_in here.types arguments);
  registers = behind_arguments (values_in here.types arguments) + 1 + r;
  loops = 0;
  calls = calls_in_all here.program.functions (values_in here.types arguments);
}

abbrev pub ArgumentsStand : List Value → (r to from : ℕ) → Here → Finished → Type 0
ArgumentsStand arguments r to from here it =
    AreKnown here (values_in here.types arguments)
    → argument_values (site_in here it) (values_in here.types arguments) r (it.point from) (it.point to)

-- an argument is read, where it is a struct, and joined with those behind it
abbrev pub join : Site → e.Value → (r : ℕ) → Piece
join s v r = reads s (type_of v) r ▸ clash s (Unsequenced r (r + 1))

abbrev pub joins : Site → e.Values → (r : ℕ) → Piece
joins s e.no_values r = nothing
joins s (e.a_value v vs) r = joins s vs (r + 1) ▸ join s v r

abbrev pub JoinStands : Value → (r to from : ℕ) → Here → Finished → Type 0
JoinStands v r to from here it = join (site_in here it) (value_of here.types v) r (it.point from) (it.point to)

-- behind the last of them stands a register with nothing
abbrev pub ends_at : Site → (r : ℕ) → Piece
ends_at s r = up_to s r (constant s r content.Unset)

abbrev pub joins_cost : (count r : ℕ) → Here → Cost
joins_cost count r here = piece (2 * count + 1) (r + count + 1)

abbrev pub JoinsStand : List Value → (r to from : ℕ) → Here → Finished → Type 0
JoinsStand arguments r to from here it =
    (ends_at (site_in here it) (r + length arguments) ▸ joins (site_in here it) (values_in here.types arguments) r)
    (it.point from) (it.point to)

-- each is converted, and there
abbrev pub passed_cost : List Value → (r : ℕ) → Here → Cost
passed_cost arguments r here = piece (2 * length arguments) (r + length arguments)

abbrev pub PassedStand : List Value → (r to from : ℕ) → Here → Finished → Type 0
PassedStand arguments r to from here it =
    passed (site_in here it) (values_in here.types arguments) r (it.point from) (it.point to)

-- ---- the call itself

abbrev pub call_cost : List ℕ → (first count : ℕ) → Here → Cost
call_cost name first count here = record {
  nodes = 1;
  registers = max (first + 1) (first + count);
  loops = 0;
  calls = option_to_list (number_among 0 name here.program.functions);
}

abbrev pub CallStands : (is_taken : Bool) → List ℕ → TypeId → (r n to from : ℕ) → Here → Finished → Type 0
CallStands is_taken name ty r n to from here it =
    IsCallable here name (type_in here.types ty)
    → call (site_in here it).stands here.stubs here.program.functions is_taken name (type_in here.types ty) r n (it.point from)
    (it.point to)

-- that of a function without a body
abbrev pub OutsideStands : (is_taken : Bool) → List ℕ → TypeId → (r to from : ℕ) → Here → Finished → Type 0
OutsideStands is_taken name ty r to from here it =
    function_number here.program name ≡ None → IsCallable here name (type_in here.types ty)
    → call_by_number (site_in here it).stands here.stubs is_taken name (type_in here.types ty) r 0 None (it.point from)
    (it.point to)

-- the next value for it
abbrev pub NextStands : List ℕ → (r to from : ℕ) → Here → Finished → Type 0
NextStands name r to from here it =
    (k : ℕ) → name_among 0 name here.stubs ≡ Some k
    → next_for (site_in here it).stands here.stubs name r (it.point from) (it.point to)
