-- What is promised of each piece of an expression's code: the relation's piece stands between the points, and costs no more than the expression may.
use Rattle.std.specs.Prelude.{ℕ, ◌+◌, ◌≡◌, Bool, true, false, List, Some, slice_get, Result}
use Rattle.std.specs.declared.alloc.AllocError.{AllocError}
use Rattle.lt_tree.specs.declared.typed.tree.Value.{Value}
use Rattle.lt_tree.specs.declared.typed.tree.Mark.{Mark}
use Rattle.lt_tree.specs.Typing.Types.{CType}
use Rattle.lt_tree.specs.Typing.ValueView.{value_of, mark_of}
use Rattle.lt_ir.specs.declared.variable.Variable.TheVariants as variable
use Rattle.lt_ir.specs.declared.node.Node.TheVariants as node
use Rattle.lt_ir.specs.Graph.{shape_at}
use Rattle.lt_meaning.specs.Statements.{type_of_object}
use Rattle.lt_meaning.specs.Runs.{variable_of}
use Rattle.lt_meaning.specs.Expressions.{Fate, shape}
use Rattle.lt_code.specs.Code.{value_code, test_code, place_of as place_code, operands, codes_of, full_value, full_test, mark}
use Rattle.lt_code.specs.Costs.{Cost, ◌⊕◌, nodes_of, nodes_at, behind, behind_place, calls_in, calls_at}
use Rattle.lt_code.specs.Costs.{full_value as cost_of_value}
use Rattle.lt_tree.specs.Typing.TypedTree as e
use Rattle.lt_emit.specs.declared.builder.Builder.{Builder}
use Rattle.lt_emit.specs.Spending.{piece}
use Rattle.lt_emit.specs.Emission.{Here, Finished, GivesWithin, site_in, local_shapes}
use Rattle.lt_emit.specs.Known.{IsKnown, IsKnownPlace, IsMarked, IsOwn}
use Rattle.lt_emit.specs.declared.fate.Fate.{Fate as HeldFate}
use Rattle.lt_emit.specs.Fate.{fate_of}

-- ---- what expressions cost whose values go to a register

abbrev pub value_cost : (List CType → e.Value) → (r : ℕ) → Here → Cost
value_cost v r here = cost_of_value here.program.functions r (v here.types)

abbrev pub test_cost : (List CType → e.Value) → (r : ℕ) → Here → Cost
test_cost v r here = record {
  nodes = (nodes_of (v here.types)).test;
  registers = behind (v here.types) + 1 + r;
  loops = 0;
  calls = calls_in here.program.functions (v here.types);
}

abbrev pub place_cost : (List CType → e.Place) → (r : ℕ) → Here → Cost
place_cost p r here = record {
  nodes = nodes_at (p here.types);
  registers = behind_place (p here.types) + 1 + r;
  loops = 0;
  calls = calls_at here.program.functions (p here.types);
}

-- ---- their code

-- the code of an expression as a value
abbrev pub HasValue : (List CType → e.Value) → HeldFate → (r to from : ℕ) → Here → Finished → Type 0
HasValue v fate r to from here it =
    IsKnown here (v here.types)
    → value_code (site_in here it) (fate_of fate) (v here.types) r (it.point from) (it.point to)

abbrev pub GivesValue :
    (before after : Builder) → Result ℕ AllocError → HeldFate → (List CType → e.Value) → (r to : ℕ) → Type 0
GivesValue before after result fate v r to = GivesWithin before after result (value_cost v r) (HasValue v fate r to)

-- whatever becomes of its value
abbrev pub HasPlain : (List CType → e.Value) → (r to from : ℕ) → Here → Finished → Type 0
HasPlain v r to from here it =
    IsKnown here (v here.types)
    → (fate : Fate) → value_code (site_in here it) fate (v here.types) r (it.point from) (it.point to)

abbrev pub GivesPlain : (before after : Builder) → Result ℕ AllocError → (List CType → e.Value) → (r to : ℕ) → Type 0
GivesPlain before after result v r to = GivesWithin before after result (value_cost v r) (HasPlain v r to)

-- the code of an expression as a test
abbrev pub HasTest : (List CType → e.Value) → (r on off from : ℕ) → Here → Finished → Type 0
HasTest v r on off from here it =
    IsKnown here (v here.types)
    → test_code (site_in here it) (v here.types) r (it.point from) (it.point on) (it.point off)

abbrev pub GivesTest :
    (before after : Builder) → Result ℕ AllocError → (List CType → e.Value) → (r on off : ℕ) → Type 0
GivesTest before after result v r on off = GivesWithin before after result (test_cost v r) (HasTest v r on off)

-- the code of an lvalue
abbrev pub HasPlace : (List CType → e.Place) → (r to from : ℕ) → Here → Finished → Type 0
HasPlace p r to from here it =
    IsKnownPlace here (p here.types)
    → place_code (site_in here it) (p here.types) r (it.point from) (it.point to)

abbrev pub GivesPlace : (before after : Builder) → Result ℕ AllocError → (List CType → e.Place) → (r to : ℕ) → Type 0
GivesPlace before after result p r to = GivesWithin before after result (place_cost p r) (HasPlace p r to)

-- the code of two operands
abbrev pub HasOperands : (left right : Value) → (r to from : ℕ) → Here → Finished → Type 0
HasOperands left right r to from here it =
    IsKnown here (value_of here.types left) → IsKnown here (value_of here.types right)
    → operands (site_in here it) r (codes_of (site_in here it) (value_of here.types left))
    (codes_of (site_in here it) (value_of here.types right)) (it.point from) (it.point to)

-- of which the left one's value stays in a register
abbrev pub operands_cost : (left right : Value) → (r : ℕ) → Here → Cost
operands_cost left right r here =
    piece 1 (r + 2) ⊕ value_cost (λ types. value_of types right) (r + 1) here ⊕ value_cost (λ types. value_of types left) r here

-- whether the code of an expression as a test is that of its value, and a branch
abbrev pub is_plain : e.Value → Bool
is_plain (e.Not t v) = false
is_plain (e.Logical t op a b) = false
is_plain (e.Marked t ms v) = false
is_plain (e.Decide t v when_true when_false) = false
is_plain v = true

-- the code of a full expression, as a value and as a test
abbrev pub FullValueStands : HeldFate → Value → (r to from : ℕ) → Here → Finished → Type 0
FullValueStands fate v r to from here it =
    IsKnown here (value_of here.types v)
    → full_value (site_in here it) (fate_of fate) (value_of here.types v) r (it.point from) (it.point to)

abbrev pub FullTestStands : Value → (r on off from : ℕ) → Here → Finished → Type 0
FullTestStands v r on off from here it =
    IsKnown here (value_of here.types v)
    → full_test (site_in here it) (value_of here.types v) r (it.point from) (it.point on) (it.point off)

-- the code of a mark
abbrev pub MarkStands : Mark → (to from : ℕ) → Here → Finished → Type 0
MarkStands m to from here it =
    IsMarked here (mark_of here.types m) → mark (site_in here it) (mark_of here.types m) (it.point from) (it.point to)

-- the lifetime of an object begins
abbrev pub CreateStands : (number : ℕ) → (is_zeroed : Bool) → (to from : ℕ) → Here → Finished → Type 0
CreateStands n is_zeroed to from here it =
    IsOwn here n
    → (k : ℕ) × (variable_of here.program here.function n ≡ variable.Local k)
    × (shape_at (local_shapes here.program here.function) k ≡ shape here.program (type_of_object here.program n))
    × (slice_get it.nodes (it.point from) ≡ Some (node.Create k is_zeroed (it.point to)))
