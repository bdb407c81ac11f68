-- What the code of typed trees costs at most, form by form: how many nodes and registers a lowering takes that keeps to the relation of code, which
-- calls it makes, and how many points there are that loops lead back to. Footprints count as tracked, arguments and values that are assigned as
-- structs that are read and as converted late: that is the most. Nodes aren't shared.
use Rattle.std.specs.Prelude.{ℕ, ◌==◌, ◌+◌, ◌*◌, max, List, [], ◌∷◌, ◌++◌, length, Option, Some, None}
use Rattle.std.specs.List.{flat_map, count_by}
use Rattle.std.specs.Option.{option_to_list}
use Rattle.lt_tree.specs.Typing.Entities.{Function}
use Rattle.lt_tree.specs.Typing.TypedTree as e
use Rattle.lt_tree.specs.Typing.TypedTree.{Value, Values, Place, Marks, StartPart, Local, ForStart, Statement, Items, Cases}
use Rattle.lt_ir.specs.declared.node.Node.{Node}
use Rattle.lt_meaning.specs.Statements.{parts_in}
use Rattle.lt_code.specs.Bounds.{callee}
use Rattle.lt_code.specs.Code.{number_among}

-- ---- the nodes of expressions

-- of an expression's code as a value, and as a test
pub record Nodes : Type 0 where
  pub value : ℕ
  pub test : ℕ

-- as a test: its value, and a branch
abbrev pub plain : ℕ → Nodes
plain n = record { value = n; test = n + 1 }

-- one for each mark, whatever its predicate
abbrev pub marks_of : Marks → ℕ
marks_of e.no_marks = 0
marks_of (e.a_mark first rest) = marks_of rest + 1

abbrev mutual
  pub nodes_of : Value → Nodes
  nodes_of (e.Constant t z) = plain 1
  nodes_of (e.Load t p) = plain (nodes_at p + 1)
  nodes_of (e.Whole t p) = plain (nodes_at p)
  nodes_of (e.Decay t p) = plain (nodes_at p)
  nodes_of (e.AddressOf t p) = plain (nodes_at p)
  nodes_of (e.Convert how t v) = plain ((nodes_of v).value + 1)
  -- a constant, and the operation
  nodes_of (e.Minus t v) = plain ((nodes_of v).value + 2)
  nodes_of (e.Complement t v) = plain ((nodes_of v).value + 2)
  -- the two truths
  nodes_of (e.Not t v) = record { value = (nodes_of v).test + 2; test = (nodes_of v).test }
  -- a clash, and the operation
  nodes_of (e.Arithmetic t op k a b) = plain ((nodes_of a).value + (nodes_of b).value + 2)
  nodes_of (e.Move t op size side a b) = plain ((nodes_of a).value + (nodes_of b).value + 2)
  nodes_of (e.Distance t size a b) = plain ((nodes_of a).value + (nodes_of b).value + 2)
  nodes_of (e.Compare t op a b) = plain ((nodes_of a).value + (nodes_of b).value + 2)
  -- the sequence point on either way, and two more clashes behind the right operand
  nodes_of (e.Logical t op a b) =
      record { value = (nodes_of a).test + (nodes_of b).test + 6; test = (nodes_of a).test + (nodes_of b).test + 4 }
  -- the sequence point on either way, a clash where they meet, and the content that is moved
  nodes_of (e.Conditional t test a b) = plain ((nodes_of test).test + (nodes_of a).value + (nodes_of b).value + 4)
  -- two clashes, a read, a conversion, and the store
  nodes_of (e.Assign t p v) = plain (nodes_at p + (nodes_of v).value + 5)
  -- the load, two clashes, the operation between its conversions, and the store
  nodes_of (e.Update t op k p v) = plain (nodes_at p + (nodes_of v).value + 7)
  nodes_of (e.UpdatePointer t op size p v) = plain (nodes_at p + (nodes_of v).value + 5)
  -- the load, the number one, a clash, the operation between its conversions, and the store
  nodes_of (e.Step t when op k p) = plain (nodes_at p + 7)
  nodes_of (e.StepPointer t when op size p) = plain (nodes_at p + 5)
  -- what begins the arguments' footprints, their sequence point, the tick, and the call
  nodes_of (e.Call t name vs) = plain (nodes_of_arguments vs + 4)
  nodes_of (e.Comma t vs) = plain (nodes_of_parts vs + 1)
  nodes_of (e.Marked t ms v) =
      record { value = marks_of ms + (nodes_of v).value; test = marks_of ms + (nodes_of v).test }
  -- two marks on either way
  nodes_of (e.Decide t v when_true when_false) =
      record { value = (nodes_of v).test + 6; test = (nodes_of v).test + 4 }
  nodes_of (e.After t v id) = plain ((nodes_of v).value + 1)

  -- of an lvalue
  pub nodes_at : Place → ℕ
  nodes_at (e.Object t n) = 1
  nodes_at (e.Pointed t v) = (nodes_of v).value + 1
  nodes_at (e.Element t size side a b) = (nodes_of a).value + (nodes_of b).value + 2
  nodes_at (e.Part t offset p) = nodes_at p + 1
  nodes_at (e.Held t v) = (nodes_of v).value + 1

  -- each argument with a read, a clash, a conversion, and what settles it to a value
  pub nodes_of_arguments : Values → ℕ
  nodes_of_arguments e.no_values = 0
  nodes_of_arguments (e.a_value v vs) = (nodes_of v).value + 4 + nodes_of_arguments vs

  -- each part of a comma expression with two more: clashes, or a clash and what moves the last
  pub nodes_of_parts : Values → ℕ
  nodes_of_parts e.no_values = 0
  nodes_of_parts (e.a_value v vs) = (nodes_of v).value + 2 + nodes_of_parts vs

-- ---- the registers of expressions

-- how many registers the code of an expression uses behind that in which it leaves its value
abbrev mutual
  pub behind : Value → ℕ
  behind (e.Constant t z) = 0
  behind (e.Load t p) = behind_place p
  behind (e.Whole t p) = behind_place p
  behind (e.Decay t p) = behind_place p
  behind (e.AddressOf t p) = behind_place p
  behind (e.Convert how t v) = behind v
  behind (e.Minus t v) = max 1 (behind v)
  behind (e.Complement t v) = max 1 (behind v)
  behind (e.Not t v) = behind v
  behind (e.Arithmetic t op k a b) = max (behind a) (behind b + 1)
  behind (e.Move t op size side a b) = max (behind a) (behind b + 1)
  behind (e.Distance t size a b) = max (behind a) (behind b + 1)
  behind (e.Compare t op a b) = max (behind a) (behind b + 1)
  behind (e.Logical t op a b) = max (behind a) (behind b + 1)
  behind (e.Conditional t test a b) = max (behind test) (max (behind a) (behind b) + 1)
  behind (e.Assign t p v) = max (behind_place p) (behind v + 1)
  -- what lay there, the right operand, and what is made of both
  behind (e.Update t op k p v) = max (behind_place p) (max 3 (behind v + 2))
  behind (e.UpdatePointer t op size p v) = max (behind_place p) (max 3 (behind v + 2))
  behind (e.Step t when op k p) = max (behind_place p) 3
  behind (e.StepPointer t when op size p) = max (behind_place p) 3
  behind (e.Call t name vs) = behind_arguments vs
  behind (e.Comma t vs) = behind_parts vs
  behind (e.Marked t ms v) = behind v
  behind (e.Decide t v when_true when_false) = behind v
  behind (e.After t v id) = behind v

  pub behind_place : Place → ℕ
  behind_place (e.Object t n) = 0
  behind_place (e.Pointed t v) = behind v
  behind_place (e.Element t size side a b) = max (behind a) (behind b + 1)
  behind_place (e.Part t offset p) = behind_place p
  behind_place (e.Held t v) = behind v

  -- each argument stays in a register, and one more begins their footprints
  pub behind_arguments : Values → ℕ
  behind_arguments e.no_values = 0
  behind_arguments (e.a_value v vs) = max (behind v) (behind_arguments vs + 1)

  pub behind_parts : Values → ℕ
  behind_parts e.no_values = 0
  behind_parts (e.a_value v vs) = max (behind v + 1) (behind_parts vs)

-- ---- the calls of expressions, in the order of the text, of functions with bodies

module _ (functions : List Function) where
  abbrev mutual
    pub calls_in : Value → List ℕ
    calls_in (e.Constant t z) = []
    calls_in (e.Load t p) = calls_at p
    calls_in (e.Whole t p) = calls_at p
    calls_in (e.Decay t p) = calls_at p
    calls_in (e.AddressOf t p) = calls_at p
    calls_in (e.Convert how t v) = calls_in v
    calls_in (e.Minus t v) = calls_in v
    calls_in (e.Complement t v) = calls_in v
    calls_in (e.Not t v) = calls_in v
    calls_in (e.Arithmetic t op k a b) = calls_in a ++ calls_in b
    calls_in (e.Move t op size side a b) = calls_in a ++ calls_in b
    calls_in (e.Distance t size a b) = calls_in a ++ calls_in b
    calls_in (e.Compare t op a b) = calls_in a ++ calls_in b
    calls_in (e.Logical t op a b) = calls_in a ++ calls_in b
    calls_in (e.Conditional t test a b) = calls_in test ++ calls_in a ++ calls_in b
    calls_in (e.Assign t p v) = calls_at p ++ calls_in v
    calls_in (e.Update t op k p v) = calls_at p ++ calls_in v
    calls_in (e.UpdatePointer t op size p v) = calls_at p ++ calls_in v
    calls_in (e.Step t when op k p) = calls_at p
    calls_in (e.StepPointer t when op size p) = calls_at p
    calls_in (e.Call t name vs) = option_to_list (number_among 0 name functions) ++ calls_in_all vs
    calls_in (e.Comma t vs) = calls_in_all vs
    calls_in (e.Marked t ms v) = calls_in v
    calls_in (e.Decide t v when_true when_false) = calls_in v
    calls_in (e.After t v id) = calls_in v

    pub calls_at : Place → List ℕ
    calls_at (e.Object t n) = []
    calls_at (e.Pointed t v) = calls_in v
    calls_at (e.Element t size side a b) = calls_in a ++ calls_in b
    calls_at (e.Part t offset p) = calls_at p
    calls_at (e.Held t v) = calls_in v

    pub calls_in_all : Values → List ℕ
    calls_in_all e.no_values = []
    calls_in_all (e.a_value v vs) = calls_in v ++ calls_in_all vs

-- ---- the calls of nodes

-- the functions that are called in a list of nodes, one for each call
abbrev pub callees : List Node → List ℕ
callees nodes = flat_map (λ n. option_to_list (callee n)) nodes

abbrev pub times : ℕ → List ℕ → ℕ
times f calls = count_by (λ g. g == f) calls

-- ---- costs

pub record Cost : Type 0 where
  pub nodes : ℕ
  pub registers : ℕ
  -- the points that loops lead back to
  pub loops : ℕ
  -- of functions with bodies, one for each call
  pub calls : List ℕ

-- so many nodes
abbrev pub alone : ℕ → Cost
alone n = record { nodes = n; registers = 0; loops = 0; calls = [] }

-- One piece of code beside another: what the first leaves in registers isn't wanted any more.
infixr 10 ◌⊕◌
abbrev pub ◌⊕◌ : Cost → Cost → Cost
a ⊕ b = record {
  nodes = a.nodes + b.nodes;
  registers = max a.registers b.registers;
  loops = a.loops + b.loops;
  calls = a.calls ++ b.calls;
}

abbrev pub tick : Cost
tick = alone 1

-- the tick of a turn, to which the loop leads back
abbrev pub turn : Cost
turn = record { nodes = 1; registers = 0; loops = 1; calls = [] }

-- a full expression, from this register on
abbrev pub full_value : List Function → (r : ℕ) → Value → Cost
full_value functions r v =
    record { nodes = (nodes_of v).value; registers = behind v + 1 + r; loops = 0; calls = calls_in functions v }

abbrev pub full_test : List Function → Value → Cost
full_test functions v =
    record { nodes = (nodes_of v).test; registers = behind v + 1; loops = 0; calls = calls_in functions v }

abbrev pub optional_test : List Function → Option Value → Cost
optional_test functions None = alone 0
optional_test functions (Some v) = full_test functions v

abbrev pub optional_value : List Function → Option Value → Cost
optional_value functions None = alone 0
optional_value functions (Some v) = full_value functions 0 v

-- ---- objects

abbrev pub of_part : List Function → StartPart → Cost
-- the address of the part, and the store
of_part functions (e.stored offset v) = alone 3 ⊕ full_value functions 1 v
of_part functions (e.fixed offset t c) = alone 1
-- for each byte an address, the byte, and the store
of_part functions (e.letters offset t bytes) = record { nodes = 4 * length bytes; registers = 2; loops = 0; calls = [] }

abbrev pub of_parts : List Function → List StartPart → Cost
of_parts functions [] = alone 0
of_parts functions (part ∷ parts) = of_part functions part ⊕ of_parts functions parts

-- It is created and sealed, and it ends at each of the five exits of what follows.
abbrev pub of_local : List Function → Local → Cost
of_local functions it = alone 7 ⊕ of_parts functions (parts_in it.start)

abbrev pub of_locals : List Function → List Local → Cost
of_locals functions [] = alone 0
of_locals functions (it ∷ its) = of_local functions it ⊕ of_locals functions its

-- ---- statements

abbrev pub of_start : List Function → ForStart → Cost
of_start functions e.Nothing = alone 0
of_start functions (e.First v) = full_value functions 0 v
of_start functions (e.Locals its) = of_locals functions its

abbrev mutual
  pub of_statement : List Function → Statement → Cost
  of_statement functions (e.Compound its) = of_items functions its
  of_statement functions (e.Evaluates v) = tick ⊕ full_value functions 0 v
  of_statement functions e.Null = tick
  of_statement functions (e.If v body) = tick ⊕ full_test functions v ⊕ of_statement functions body
  of_statement functions (e.IfElse v body other) =
      tick ⊕ full_test functions v ⊕ of_statement functions body ⊕ of_statement functions other
  of_statement functions (e.While v body) = tick ⊕ turn ⊕ full_test functions v ⊕ of_statement functions body
  of_statement functions (e.Do body v) = tick ⊕ turn ⊕ of_statement functions body ⊕ full_test functions v
  of_statement functions (e.For start test step body) =
      tick ⊕ turn ⊕ of_start functions start ⊕ optional_test functions test ⊕ optional_value functions step
      ⊕ of_statement functions body
  -- the choice, which has all labels
  of_statement functions (e.Switch v its) = tick ⊕ alone 1 ⊕ full_value functions 0 v ⊕ of_cases functions its
  of_statement functions e.Break = tick
  of_statement functions e.Continue = tick
  of_statement functions (e.Return None) = tick
  -- what settles it to a value
  of_statement functions (e.Return (Some v)) = tick ⊕ alone 1 ⊕ full_value functions 0 v

  pub of_items : List Function → Items → Cost
  of_items functions e.no_items = alone 0
  of_items functions (e.a_local it rest) = of_local functions it ⊕ of_items functions rest
  of_items functions (e.a_statement first rest) = of_statement functions first ⊕ of_items functions rest
  of_items functions (e.a_label first rest) = alone 1 ⊕ of_items functions rest

  pub of_cases : List Function → Cases → Cost
  of_cases functions e.no_cases = alone 0
  of_cases functions (e.a_case labels first rest) = of_statement functions first ⊕ of_cases functions rest

-- ---- functions

-- Each parameter is sealed, and ends in front of either return.
abbrev pub of_function : List Function → Function → Cost
of_function functions f = alone (3 * length f.parameters + 2) ⊕ of_items functions f.body
