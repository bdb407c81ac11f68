-- Worked examples: programs, the files of their entries, and what these say.
use Rattle.std.specs.Prelude.{◌≡◌, ℕ, ℤ, pos, negsuc, Bool, true, false, List, [], ◌∷◌, ◌++◌, map, codes, replicate, Option, Some, None}
use Rattle.std.specs.List.{list_all}
use Rattle.lt_model.specs.declared.input.Spec.{Spec}
use Rattle.lt_model.specs.declared.cell.CellType.TheVariants as cell
use Rattle.lt_model.specs.declared.cell.Shape.{Shape}
use Rattle.lt_model.specs.declared.input.CellSet.{CellSet}
use Rattle.lt_model.specs.declared.input.CellSet.TheVariants as cellset
use Rattle.lt_model.specs.declared.input.FreeCell.{FreeCell}
use Rattle.lt_model.specs.declared.input.Input.{Input}
use Rattle.lt_model.specs.declared.input.Place.{Place}
use Rattle.lt_model.specs.declared.input.StartValue.TheVariants as start
use Rattle.lt_model.specs.declared.input.StubSet.{StubSet}
use Rattle.lt_model.specs.declared.input.Want.{Want}
use Rattle.lt_model.specs.declared.input.Want.TheVariants as want
use Rattle.lt_model.specs.declared.scalar.DataModel.TheVariants.{Lp64}
use Rattle.lt_model.specs.declared.scalar.Scalar.TheVariants as S
use Rattle.lt_tree.specs.Typing.Types.{CType, CTypes, no_types, a_type, Void, Num, Pointer, Array, Struct, Function as FunctionType}
use Rattle.lt_tree.specs.Typing.Constants.{number, address}
use Rattle.lt_tree.specs.Typing.TypedTree.{no_items, fixed}
use Rattle.lt_tree.specs.Typing.Entities.{Object, linked, parameter, Function, a_struct, a_typedef}
use Rattle.lt_tree.specs.Typing.Programs.{Program}
use Rattle.lt_entry.specs.declared.test.Suite.{Suite}
use Rattle.lt_entry.specs.Lines.{Row, rows_of, count_of_lines}
use Rattle.lt_entry.specs.Written.{Numeral, Step, at_index, at_each, at_member, PlaceWord, to_null, to_place}
use Rattle.lt_entry.specs.TypeNames.{type_named}
use Rattle.lt_entry.specs.SpecificationLines.{Line, line_words, entry_line, block_line, range_line, points_line, stub_line, require_line, at_most, equal_to, Term}
use Rattle.lt_entry.specs.Conditions.{scope_behind, fits, needs_free}
use Rattle.lt_entry.specs.Specifications.{Specification, specification_in, IsSpecification, faulty_lines}
use Rattle.lt_entry.specs.Suites.{SuiteLine, test_line, set_line, point_line, values_line, suite_scope, fits_suite, IsSuite}
use Rattle.lt_entry.specs.Inputs.{built}
use Rattle.lt_entry.specs.Meeting.{Meets, sets_free_cell, is_wanted, held, keeps_range, needs_hold}

-- ---- how lines are written short

abbrev pub some : ℕ → Numeral
some n = record { is_negative = false; size = n }

abbrev pub minus : ℕ → Numeral
minus n = record { is_negative = true; size = n }

abbrev pub named : List ℕ → List Step → PlaceWord
named name steps = record { name = name; steps = steps }

abbrev pub alone : List ℕ → PlaceWord
alone name = named name []

abbrev pub element : List ℕ → ℕ → PlaceWord
element name i = named name (at_index (some i) ∷ [])

abbrev pub every : List ℕ → PlaceWord
every name = named name (at_each ∷ [])

abbrev pub member_of : List ℕ → Step → List ℕ → PlaceWord
member_of name step member = named name (step ∷ at_member member ∷ [])

abbrev pub once : PlaceWord → Term
once place = record { factor = None; place = place }

abbrev pub times : Numeral → PlaceWord → Term
times factor place = record { factor = Some factor; place = place }

-- a line behind others, if it is in its place there
abbrev pub joined : {A : Type 0} → Bool → List A → A → List A
joined true before line = before ++ line ∷ []
joined false before line = before

-- whether each line may stand behind those before it that may, in the file of all of them
abbrev pub verdicts_from : Program → List Row → (before lines : List Line) → List Bool
verdicts_from program rows before [] = []
verdicts_from program rows before (line ∷ lines) =
    fits program rows before line ∷ verdicts_from program rows (joined (fits program rows before line) before line) lines

abbrev pub rows_said : List Line → List Row
rows_said lines = map (λ it. record { number = 0; words = line_words it }) lines

abbrev pub verdicts : Program → List Line → List Bool
verdicts program lines = verdicts_from program (rows_said lines) [] lines

-- ---- a linked list

abbrev pub an_int : CType
an_int = Num S.Int

abbrev pub to_node : CType
to_node = Pointer (Struct 0)

abbrev pub object : List ℕ → CType → Object
object name t = record { node = 0; name = name; type = t; life = parameter; start = None }

abbrev pub function : List ℕ → CTypes → List ℕ → Function
function name types parameters = record { node = 0; name = name; type = FunctionType an_int types false; parameters = parameters; body = no_items }

-- `struct node { int val; struct node *next; }; static int limit = 10; int sum(struct node *n) ..`
abbrev pub list_program : Program
list_program = record {
  unit = [];
  model = Lp64;
  structs = record { members = Some (record { name = codes "val"; type = an_int } ∷ record { name = codes "next"; type = to_node } ∷ []) } ∷ [];
  objects = record { node = 0; name = codes "limit"; type = an_int; life = linked; start = Some (record { zeroed = true; parts = fixed 0 an_int (number (pos 10)) ∷ [] }) } ∷ object (codes "n") to_node ∷ [];
  declared = record { name = codes "sum"; type = FunctionType an_int (a_type to_node no_types) false } ∷ [];
  functions = function (codes "sum") (a_type to_node no_types) (1 ∷ []) ∷ [];
  file = record { names = []; tags = record { name = codes "node"; tagged = a_struct 0 } ∷ [] };
  types = an_int ∷ Struct 0 ∷ to_node ∷ [];
  labels = [];
  facts = [];
}

abbrev pub list_text : List ℕ
list_text = codes "entry sum\nblock N struct node 2\n# values\nrange N[*].val -100 100\r\n\npoints n null N[0]\npoints N[0].next null  N[1]\n"

abbrev pub list_lines : List Line
list_lines =
    entry_line (codes "sum")
    ∷ block_line (codes "N") (codes "struct" ∷ codes "node" ∷ []) (some 2)
    ∷ range_line (member_of (codes "N") at_each (codes "val")) (minus 100) (some 100)
    ∷ points_line (alone (codes "n")) (to_null ∷ to_place (element (codes "N") 0) ∷ [])
    ∷ points_line (member_of (codes "N") (at_index (some 0)) (codes "next")) (to_null ∷ to_place (element (codes "N") 1) ∷ [])
    ∷ []

abbrev pub at : List ℕ → ℕ → Place
at name offset = record { root = name; offset = offset }

abbrev pub a_cell : Place → Want → FreeCell
a_cell place it = record { at = place; ty = cell.Num S.Int; want = it; start = start.Number (pos 0) }

-- the type of the pointer is the third of the program's types
abbrev pub a_link : Place → List (Option Place) → FreeCell
a_link place targets = record { at = place; ty = cell.Pointer 2; want = want.OneOf targets; start = start.Point None }

abbrev pub small : Want
small = want.Between (negsuc 99) (pos 100)

abbrev pub two_nodes : Shape
two_nodes = record {
  cells =
      record { offset = 0; ty = cell.Num S.Int } ∷ record { offset = 8; ty = cell.Pointer 2 }
      ∷ record { offset = 16; ty = cell.Num S.Int } ∷ record { offset = 24; ty = cell.Pointer 2 } ∷ [];
  size = 32;
}

abbrev pub list_specification : Specification
list_specification = record {
  spec = record {
    entry = 0;
    blocks = record { name = codes "N"; shape = two_nodes } ∷ [];
    cells =
        a_link (at (codes "n") 0) (None ∷ Some (at (codes "N") 0) ∷ [])
        ∷ a_cell (at (codes "N") 0) small ∷ a_link (at (codes "N") 8) (None ∷ Some (at (codes "N") 16) ∷ [])
        ∷ a_cell (at (codes "N") 16) small ∷ a_link (at (codes "N") 24) (None ∷ []) ∷ [];
    stubs = [];
    needs = [];
  };
  blocks = record { name = codes "N"; element = Struct 0; count = 2 } ∷ [];
}

abbrev pub LinkedListsAreSpecified : Type 0
LinkedListsAreSpecified = IsSpecification list_program list_text list_specification

abbrev pub list_suite_text : List ℕ
list_suite_text = codes "test a\npoint n N[0]\npoint N[0].next N[1]\nset N[0].val 4\nset N[1].val 20"

abbrev pub list_suite_lines : List SuiteLine
list_suite_lines =
    test_line (codes "a")
    ∷ point_line (alone (codes "n")) (to_place (element (codes "N") 0))
    ∷ point_line (member_of (codes "N") (at_index (some 0)) (codes "next")) (to_place (element (codes "N") 1))
    ∷ set_line (member_of (codes "N") (at_index (some 0)) (codes "val")) (some 4)
    ∷ set_line (member_of (codes "N") (at_index (some 1)) (codes "val")) (some 20)
    ∷ []

abbrev pub list_suite : Suite
list_suite = record {
  tests = record {
    name = codes "a";
    cells =
        cellset.Point (at (codes "n") 0) (Some (at (codes "N") 0)) ∷ cellset.Point (at (codes "N") 8) (Some (at (codes "N") 16))
        ∷ cellset.Number (at (codes "N") 0) (pos 4) ∷ cellset.Number (at (codes "N") 16) (pos 20) ∷ [];
    stubs = [];
  } ∷ [];
}

abbrev pub LinkedListsAreTested : Type 0
LinkedListsAreTested = IsSuite list_program list_specification list_suite_text list_suite

abbrev pub list_input : Input
list_input = record { blocks = list_specification.spec.blocks; cells = (elim (list_suite.tests) [ [] ↦ [] | test ∷ tests ↦ test.cells ]); stubs = [] }

abbrev pub LinkedListsMeet : Type 0
LinkedListsMeet = Meets list_specification.spec list_input

-- The input of the test sets things in the order in which the specification has their cells.
abbrev pub ordered_cells : List CellSet
ordered_cells =
    cellset.Point (at (codes "n") 0) (Some (at (codes "N") 0)) ∷ cellset.Number (at (codes "N") 0) (pos 4)
    ∷ cellset.Point (at (codes "N") 8) (Some (at (codes "N") 16)) ∷ cellset.Number (at (codes "N") 16) (pos 20) ∷ []

abbrev pub LinkedListsAreBuilt : Type 0
LinkedListsAreBuilt = map (λ test. (built test list_specification.spec).cells) list_suite.tests ≡ ordered_cells ∷ []

-- ---- a program with more names

-- `typedef unsigned long word; static int a[3]; static int *p; int g(int); void h(void); int f(int x, int *q) ..`, where `p` points to `a[1]` first
abbrev pub small_program : Program
small_program = record {
  unit = [];
  model = Lp64;
  structs = [];
  objects =
      record { node = 0; name = codes "a"; type = Array an_int 3; life = linked; start = None }
      ∷ record { node = 0; name = codes "p"; type = Pointer an_int; life = linked; start = Some (record { zeroed = true; parts = fixed 0 (Pointer an_int) (address 0 4) ∷ [] }) }
      ∷ object (codes "x") an_int ∷ object (codes "q") (Pointer an_int) ∷ [];
  declared =
      record { name = codes "g"; type = FunctionType an_int (a_type an_int no_types) false }
      ∷ record { name = codes "h"; type = FunctionType Void no_types false }
      ∷ record { name = codes "f"; type = FunctionType an_int (a_type an_int (a_type (Pointer an_int) no_types)) false } ∷ [];
  functions = function (codes "f") (a_type an_int (a_type (Pointer an_int) no_types)) (2 ∷ 3 ∷ []) ∷ [];
  file = record { names = record { name = codes "word"; entity = a_typedef (Num S.ULong) } ∷ []; tags = [] };
  types = an_int ∷ Pointer an_int ∷ [];
  labels = [];
  facts = [];
}

abbrev pub begin : Line
begin = entry_line (codes "f")

-- the lines behind the entry's, and whether each is in its place
abbrev pub AreJudged : List Line → List Bool → Type 0
AreJudged lines are = verdicts small_program (begin ∷ lines) ≡ true ∷ are

abbrev pub RangesAreJudged : Type 0
RangesAreJudged =
    AreJudged (range_line (alone (codes "x")) (some 3) (some 2) ∷ []) (false ∷ [])
    × AreJudged (range_line (alone (codes "x")) (minus 0) (some 2147483648) ∷ []) (false ∷ [])
    × AreJudged (range_line (alone (codes "x")) (minus 0) (some 0) ∷ range_line (alone (codes "x")) (some 0) (some 1) ∷ []) (true ∷ false ∷ [])
    × AreJudged (range_line (every (codes "a")) (some 0) (some 9) ∷ range_line (element (codes "a") 1) (some 0) (some 9) ∷ []) (true ∷ false ∷ [])
    × AreJudged (range_line (element (codes "a") 3) (some 0) (some 9) ∷ range_line (alone (codes "a")) (some 0) (some 9) ∷ range_line (alone (codes "q")) (some 0) (some 9) ∷ []) (false ∷ false ∷ false ∷ [])
    × AreJudged (begin ∷ []) (false ∷ [])

abbrev pub default_block : List ℕ
default_block = codes "@q"

abbrev pub DefaultBlocksAreNamed : Type 0
DefaultBlocksAreNamed =
    AreJudged (range_line (element default_block 0) (some 1) (some 5) ∷ range_line (element default_block 1) (some 1) (some 5) ∷ range_line (alone default_block) (some 1) (some 5) ∷ []) (true ∷ false ∷ false ∷ [])
    × AreJudged (points_line (alone (codes "p")) (to_null ∷ to_place (element default_block 0) ∷ to_place (element default_block 1) ∷ to_place (element (codes "a") 2) ∷ []) ∷ []) (true ∷ [])
    × AreJudged (points_line (alone (codes "p")) (to_place (alone default_block) ∷ []) ∷ points_line (alone (codes "p")) (to_place (element (codes "a") 3) ∷ []) ∷ []) (false ∷ false ∷ [])
    × AreJudged (range_line (element default_block 0) (some 1) (some 5) ∷ points_line (alone (codes "q")) (to_null ∷ []) ∷ []) (false ∷ true ∷ [])

-- `q` keeps its default block where what stands behind `points q` isn't of the form of a target.
abbrev pub FormsOfTargetsCount : Type 0
FormsOfTargetsCount = (ranged (codes "a[") ≡ true) × (ranged (codes "null") ≡ false) × (ranged (codes "nothing[*].here") ≡ false)
  where
    ranged : List ℕ → Bool
    ranged word =
        fits small_program (record { number = 2; words = codes "points" ∷ codes "q" ∷ word ∷ [] } ∷ []) (begin ∷ []) (range_line (element default_block 0) (some 1) (some 5))

abbrev pub BlocksAreJudged : Type 0
BlocksAreJudged =
    AreJudged (block_line (codes "B") (codes "int" ∷ codes "*" ∷ []) (some 2) ∷ points_line (every (codes "B")) (to_place (every (codes "a")) ∷ []) ∷ []) (true ∷ true ∷ [])
    × AreJudged (block_line (codes "B") (codes "const" ∷ codes "word" ∷ []) (some 1) ∷ block_line (codes "B") (codes "int" ∷ []) (some 1) ∷ []) (true ∷ false ∷ [])
    × AreJudged (block_line (codes "a") (codes "int" ∷ []) (some 1) ∷ block_line (codes "C") (codes "void" ∷ []) (some 1) ∷ block_line (codes "C") (codes "int" ∷ []) (some 0) ∷ []) (false ∷ false ∷ false ∷ [])
    × AreJudged (block_line (codes "C") (codes "int" ∷ []) (some 1048577) ∷ block_line (codes "C") (codes "int" ∷ []) (some 1048576) ∷ []) (false ∷ true ∷ [])
    × AreJudged (block_line (codes "while") (codes "int" ∷ []) (some 1) ∷ block_line (codes "pc_label") (codes "int" ∷ []) (some 1) ∷ block_line (codes "D") (codes "double" ∷ []) (some 1) ∷ []) (false ∷ false ∷ false ∷ [])
    × AreJudged (points_line (alone (codes "q")) (to_place (element (codes "B") 0) ∷ []) ∷ block_line (codes "B") (codes "int" ∷ []) (some 2) ∷ points_line (alone (codes "p")) (to_place (element (codes "B") 2) ∷ []) ∷ []) (false ∷ true ∷ true ∷ [])

abbrev pub StubsAreJudged : Type 0
StubsAreJudged = AreJudged (stub_line (codes "g") (minus 1) (some 1) ∷ stub_line (codes "g") (some 0) (some 1) ∷ stub_line (codes "h") (some 0) (some 0) ∷ stub_line (codes "f") (some 0) (some 0) ∷ []) (true ∷ false ∷ false ∷ false ∷ [])

abbrev pub sum_of : ℕ → Line
sum_of others = require_line (record { first = once (alone (codes "x")); others = replicate others (record { is_minus = true; term = times (some 2) (element (codes "a") 0) }) }) at_most (some 7)

abbrev pub RequirementsAreJudged : Type 0
RequirementsAreJudged =
    AreJudged (sum_of 15 ∷ sum_of 16 ∷ []) (true ∷ false ∷ [])
    × AreJudged (require_line (record { first = once (every (codes "a")); others = [] }) equal_to (some 0) ∷ require_line (record { first = once (alone (codes "q")); others = [] }) equal_to (some 0) ∷ []) (false ∷ false ∷ [])
    × (frees (sum_of 1 ∷ []) ≡ true ∷ false ∷ [])
    × (frees (sum_of 1 ∷ range_line (every (codes "a")) (some 0) (some 9) ∷ []) ≡ true ∷ true ∷ true ∷ [])
  where
    -- whether the cells of each line's requirement are free
    frees : List Line → List Bool
    frees lines = map (needs_free (scope_behind small_program [] 0 (begin ∷ lines)) (rows_said lines)) (begin ∷ lines)

-- A requirement may stand before the line that frees its cell, and isn't at fault where that line is.
abbrev pub FaultsAreFound : Type 0
FaultsAreFound =
    (faults (codes "range a[0] 3 2") ≡ 4 ∷ [])
    × (faults (codes "bogus" ++ 10 ∷ codes "range a[0] 0 1") ≡ 4 ∷ 5 ∷ [])
    × (faults (codes "range a[1] 3 2") ≡ 3 ∷ 4 ∷ [])
  where
    faults : List ℕ → List ℕ
    faults more =
        faulty_lines small_program (codes "entry f" ++ 10 ∷ 10 ∷ codes "require a[0] <= 1" ++ 10 ∷ more)
        (begin ∷ require_line (record { first = once (element (codes "a") 0); others = [] }) at_most (some 1) ∷ [])

-- `range` and `points` lines free the cells of objects, which start as the program says; `p` starts at `a[1]`
abbrev pub an_int_at : Place → Want → FreeCell
an_int_at place it = record { at = place; ty = cell.Num S.Int; want = it; start = start.Number (pos 0) }

abbrev pub any_int : Want
any_int = want.Between (negsuc 2147483647) (pos 2147483647)

abbrev pub freed_cells : List FreeCell
freed_cells =
    an_int_at (at (codes "x") 0) any_int
    ∷ record { at = at (codes "q") 0; ty = cell.Pointer 1; want = want.OneOf (None ∷ Some (at default_block 0) ∷ []); start = start.Point None }
    ∷ an_int_at (at default_block 0) any_int
    ∷ an_int_at (at (codes "a") 4) (want.Between (pos 1) (pos 5))
    ∷ record { at = at (codes "p") 0; ty = cell.Pointer 1; want = want.OneOf (Some (at (codes "a") 0) ∷ Some (at (codes "a") 4) ∷ Some (at (codes "a") 8) ∷ Some (at default_block 4) ∷ []); start = start.Point (Some (at (codes "a") 4)) }
    ∷ []

abbrev pub ObjectsAreFreed : Type 0
ObjectsAreFreed = cells_of (begin ∷ range_line (element (codes "a") 1) (some 1) (some 5) ∷ points_line (alone (codes "p")) (to_place (every (codes "a")) ∷ to_place (element default_block 1) ∷ []) ∷ []) ≡ freed_cells
  where
    cells_of : List Line → List FreeCell
    cells_of lines = (specification_in (scope_behind small_program [] 0 lines) 0 lines).spec.cells

-- ---- suites

abbrev pub plain : Specification
plain = specification_in (scope_behind small_program [] 0 []) 0 []

-- each line behind those before it that are in their places
abbrev pub suite_verdicts : List SuiteLine → List SuiteLine → List Bool
suite_verdicts before [] = []
suite_verdicts before (line ∷ lines) = fits_suite (suite_scope small_program plain) before line ∷ suite_verdicts (joined (fits_suite (suite_scope small_program plain) before line) before line) lines

abbrev pub SuitesAreJudged : Type 0
SuitesAreJudged =
    (suite_verdicts [] (test_line (codes "a") ∷ test_line (codes "a") ∷ []) ≡ true ∷ false ∷ [])
    × (suite_verdicts [] (set_line (alone (codes "x")) (some 1) ∷ []) ≡ false ∷ [])
    × (suite_verdicts (test_line (codes "a") ∷ []) (set_line (alone (codes "x")) (some 2147483648) ∷ set_line (alone (codes "x")) (minus 2147483648) ∷ set_line (alone (codes "x")) (some 1) ∷ []) ≡ false ∷ true ∷ false ∷ [])
    × (suite_verdicts (test_line (codes "a") ∷ []) (set_line (every (codes "a")) (some 1) ∷ set_line (element (codes "a") 2) (some 1) ∷ point_line (alone (codes "p")) (to_place (element default_block 1)) ∷ point_line (alone (codes "q")) (to_place (element (codes "a") 3)) ∷ []) ≡ false ∷ true ∷ true ∷ false ∷ [])
    × (suite_verdicts (test_line (codes "a") ∷ values_line (codes "g") [] ∷ test_line (codes "b") ∷ []) (values_line (codes "g") (some 1 ∷ minus 1 ∷ []) ∷ values_line (codes "g") [] ∷ values_line (codes "h") [] ∷ []) ≡ true ∷ false ∷ false ∷ [])

-- ---- inputs

-- `range x 1 5`, `points q null`, `stub g 0 1`, `require 2*x <= 10`
abbrev pub narrow_lines : List Line
narrow_lines =
    begin ∷ range_line (alone (codes "x")) (some 1) (some 5) ∷ points_line (alone (codes "q")) (to_null ∷ []) ∷ stub_line (codes "g") (some 0) (some 1)
    ∷ require_line (record { first = times (some 2) (alone (codes "x")); others = [] }) at_most (some 10) ∷ []

abbrev pub narrow : Spec
narrow = (specification_in (scope_behind small_program (rows_said narrow_lines) 0 narrow_lines) 0 narrow_lines).spec

abbrev pub input_of : List CellSet → List StubSet → Input
input_of cells stubs = record { blocks = narrow.blocks; cells = cells; stubs = stubs }

abbrev pub x_is : ℤ → CellSet
x_is z = cellset.Number (at (codes "x") 0) z

abbrev pub q_is : Option Place → CellSet
q_is target = cellset.Point (at (codes "q") 0) target

abbrev pub values_of_g : List ℤ → StubSet
values_of_g values = record { name = codes "g"; values = values }

-- whether it sets free cells alone, each cell holds what it may, values are in their ranges, and the requirements hold
abbrev pub AreMet : Input → List Bool → Type 0
AreMet input are =
    list_all (sets_free_cell narrow) input.cells
    ∷ list_all (λ it. is_wanted it.want (held input it)) narrow.cells
    ∷ list_all (λ range. list_all (keeps_range range) input.stubs) narrow.stubs
    ∷ list_all (needs_hold narrow input) narrow.needs
    ∷ []
    ≡ are

abbrev pub InputsAreJudged : Type 0
InputsAreJudged =
    AreMet (input_of (x_is (pos 5) ∷ []) (values_of_g (pos 0 ∷ pos 1 ∷ []) ∷ [])) (true ∷ true ∷ true ∷ true ∷ [])
    × AreMet (input_of [] []) (true ∷ false ∷ true ∷ true ∷ [])
    × AreMet (input_of (x_is (pos 6) ∷ []) (values_of_g (pos 2 ∷ []) ∷ [])) (true ∷ false ∷ false ∷ false ∷ [])
    × AreMet (input_of (x_is (pos 6) ∷ x_is (pos 1) ∷ q_is (Some (at (codes "a") 4)) ∷ []) []) (true ∷ false ∷ true ∷ true ∷ [])
    × AreMet (input_of (x_is (pos 1) ∷ q_is None ∷ cellset.Number (at (codes "a") 0) (pos 0) ∷ []) []) (false ∷ true ∷ true ∷ true ∷ [])

-- ---- lines and words

abbrev pub LinesAreCounted : Type 0
LinesAreCounted =
    (count_of_lines [] ≡ 0) × (count_of_lines (codes "\n") ≡ 1) × (count_of_lines (codes "# a\n# b") ≡ 2)
    × (rows_of (codes "#a\n\r\n  a\t  b \r\n \n\r\r") ≡ row 3 (codes "a\t" ∷ codes "b" ∷ []) ∷ row 4 [] ∷ row 5 (codes "\r" ∷ []) ∷ [])
  where
    row : ℕ → List (List ℕ) → Row
    row n words = record { number = n; words = words }

abbrev pub TypesAreNamed : Type 0
TypesAreNamed =
    (of (codes "unsigned" ∷ codes "const" ∷ codes "long" ∷ []) ≡ Some (Num S.ULong))
    × (of (codes "struct" ∷ codes "node**" ∷ []) ≡ Some (Pointer to_node))
    × (of (codes "const" ∷ codes "struct" ∷ codes "node" ∷ codes "volatile" ∷ codes "*" ∷ codes "const" ∷ []) ≡ Some to_node)
    × (of (codes "struct" ∷ codes "const" ∷ codes "node" ∷ []) ≡ None)
    × (of (codes "long" ∷ codes "node" ∷ []) ≡ None) × (of (codes "*" ∷ []) ≡ None) × (of (codes "node" ∷ []) ≡ None)
    × (of (codes "int" ∷ codes "*" ∷ codes "int" ∷ []) ≡ None)
  where
    of : List (List ℕ) → Option CType
    of = type_named list_program.file
