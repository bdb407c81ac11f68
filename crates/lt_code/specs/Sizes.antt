-- What bounds the code of a function: the nodes of its definition in the unit. What is below marks, as their predicates
-- and bound expressions, is left out.
use Rattle.std.specs.Prelude.{ℕ, zero, suc, ◌+◌, max, List, [], ◌∷◌, ◌++◌, length, map, Bool, true, false}
use Rattle.std.specs.List.{flat_map, filter, fold, sum_by}
use Rattle.std.specs.Option.{option_to_list}
use Rattle.lt_tree.specs.Tree as c
use Rattle.lt_tree.specs.Nodes.{Node, an_initialiser, a_statement, an_expression, a_mark}
use Rattle.lt_tree.specs.Nodes.{in_expression, in_bindings, in_external}
use Rattle.lt_tree.specs.Typing.Entities.{Function}
use Rattle.lt_tree.specs.Typing.TypedTree as e
use Rattle.lt_tree.specs.Typing.TypedTree.{StartPart, Local, ForStart, Statement, Items, Cases}
use Rattle.lt_meaning.specs.Statements.{parts_in}
use Rattle.lt_code.specs.Code.{number_among}

-- ---- definitions of functions

abbrev pub is_definition : c.External → Bool
is_definition (c.Defines s d body) = true
is_definition (c.Declared d) = false

-- in the order of the unit, which is that of the functions of its program
abbrev pub definitions : c.Unit → List c.External
definitions unit = filter is_definition unit

-- ---- the nodes that count

-- how many nodes are below a mark; they stand behind it
abbrev pub below_mark : Node → ℕ
below_mark (a_mark (c.mark predicate id tag bound)) = length (in_expression predicate ++ in_bindings bound)
below_mark n = 0

-- of the nodes of a walk those that aren't below marks, as so many at its start are
abbrev pub outside_marks : (below : ℕ) → List Node → List Node
outside_marks below [] = []
outside_marks zero (n ∷ ns) = n ∷ outside_marks (below_mark n) ns
outside_marks (suc below) (n ∷ ns) = outside_marks below ns

-- ---- full expressions, C11 6.8

abbrev pub full_in_start : c.ForStart → List c.Expression
full_in_start (c.First e) = e ∷ []
full_in_start start = []

-- those of a statement or an initialiser
abbrev pub full_at : Node → List c.Expression
full_at (a_statement (c.Evaluates e)) = e ∷ []
full_at (a_statement (c.If test x)) = test ∷ []
full_at (a_statement (c.IfElse test x y)) = test ∷ []
full_at (a_statement (c.While test x)) = test ∷ []
full_at (a_statement (c.Do x test)) = test ∷ []
full_at (a_statement (c.For start test step x)) = full_in_start start ++ option_to_list test ++ option_to_list step
full_at (a_statement (c.Switch e cases)) = e ∷ []
full_at (a_statement (c.Return e)) = option_to_list e
full_at (an_initialiser (c.Value e)) = e ∷ []
full_at n = []

abbrev pub nodes_of_full : c.Expression → ℕ
nodes_of_full e = length (outside_marks 0 (in_expression e))

-- ---- loops and calls

abbrev pub is_loop : Node → Bool
is_loop (a_statement (c.While test x)) = true
is_loop (a_statement (c.Do x test)) = true
is_loop (a_statement (c.For start test step x)) = true
is_loop n = false

-- the function that a call is of, among those with a body
abbrev pub called_at : List Function → Node → List ℕ
called_at functions (an_expression (c.Call (c.Name name) arguments)) = option_to_list (number_among 0 name functions)
called_at functions n = []

-- ---- the characters that string literals initialise

-- The declared type says whether a string literal initialises an array of characters or a pointer to them, and a typedef
-- may have named it: so these are counted in the typed body. Each is a cell of such an array, and no cell gets two.
abbrev pub letters_in_part : StartPart → ℕ
letters_in_part (e.letters offset t bytes) = length bytes
letters_in_part part = 0

abbrev pub letters_in_local : Local → ℕ
letters_in_local it = sum_by letters_in_part (parts_in it.start)

abbrev pub letters_in_start : ForStart → ℕ
letters_in_start (e.Locals its) = sum_by letters_in_local its
letters_in_start start = 0

abbrev mutual
  pub letters_in : Statement → ℕ
  letters_in (e.Compound its) = letters_in_items its
  letters_in (e.If v body) = letters_in body
  letters_in (e.IfElse v body other) = letters_in body + letters_in other
  letters_in (e.While v body) = letters_in body
  letters_in (e.Do body v) = letters_in body
  letters_in (e.For start test step body) = letters_in_start start + letters_in body
  letters_in (e.Switch v its) = letters_in_cases its
  letters_in s = 0

  pub letters_in_items : Items → ℕ
  letters_in_items e.no_items = 0
  letters_in_items (e.a_local it rest) = letters_in_local it + letters_in_items rest
  letters_in_items (e.a_statement first rest) = letters_in first + letters_in_items rest
  letters_in_items (e.a_label first rest) = letters_in_items rest

  pub letters_in_cases : Cases → ℕ
  letters_in_cases e.no_cases = 0
  letters_in_cases (e.a_case labels first rest) = letters_in first + letters_in_cases rest

-- ---- sizes

-- What goes into the bounds of a function's code.
pub record Size : Type 0 where
  -- those of its definition
  pub nodes : ℕ
  -- the characters of its local arrays that string literals initialise
  pub letters : ℕ
  -- the nodes of its largest full expression; 0, if it has none
  pub largest : ℕ
  pub loops : ℕ
  -- the functions with bodies that are called, one for each call
  pub calls : List ℕ

abbrev pub size_by : List Function → (letters : ℕ) → List Node → Size
size_by functions letters nodes = record {
  nodes = length nodes;
  letters = letters;
  largest = fold max 0 (map nodes_of_full (flat_map full_at nodes));
  loops = length (filter is_loop nodes);
  calls = flat_map (called_at functions) nodes;
}

-- of a function, among those with a body, by its definition
abbrev pub size_of : List Function → c.External → Function → Size
size_of functions definition f =
    size_by functions (letters_in_items f.body) (outside_marks 0 (in_external definition))
