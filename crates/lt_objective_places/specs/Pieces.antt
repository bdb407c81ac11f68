-- What stands where in a unit, from parent to child: each expression with its role.
use Rattle.std.specs.Prelude.{ℕ, ◌+◌, List, [], ◌∷◌, ◌++◌, length, Option, Some, None}
use Rattle.std.specs.List.{flat_map}
use Rattle.lt_tree.specs.declared.expression.UnaryOp.{UnaryOp}
use Rattle.lt_tree.specs.declared.expression.UnaryOp.TheVariants as unary
use Rattle.lt_tree.specs.Tree as c
use Rattle.lt_tree.specs.Nodes.{in_expression, in_expressions, in_marks, in_mark, in_specifiers, in_declarator, in_initialiser, in_initialisers, in_init_declarator, in_declaration, in_optional, in_start, in_label, in_statement, in_items, in_cases, in_external}
use Rattle.lt_objective_places.specs.Stands.{IsAmong, AreUntested, Role, in_test, as_value, as_place, Stands, behind_after}

-- a part of a unit in which labels may stand
pub data Piece : Type 0 where
  an_expression : (role : Role) (e : c.Expression) → Piece
  -- the arguments of a call, and the parts of a comma expression
  expressions : (es : c.Expressions) → Piece
  an_initialiser : (i : c.Initialiser) → Piece
  initialisers : (list : c.Initialisers) → Piece
  a_declaration : (d : c.Declaration) → Piece
  declarators : (ds : List c.InitDeclarator) → Piece
  a_statement : (x : c.Statement) → Piece
  items : (list : c.Items) → Piece
  cases : (list : c.Cases) → Piece
  an_external : (x : c.External) → Piece
  externals : (unit : c.Unit) → Piece

-- with the number of its first node
pub record Placed : Type 0 where
  pub number : ℕ
  pub piece : Piece

abbrev pub at : ℕ → Piece → Placed
at k piece = record { number = k; piece = piece }

abbrev pub value : ℕ → c.Expression → Placed
value k e = at k (an_expression as_value e)

abbrev pub test : ℕ → c.Expression → Placed
test k e = at k (an_expression in_test e)

abbrev pub place : ℕ → c.Expression → Placed
place k e = at k (an_expression as_place e)

-- ---- expressions

-- what an operator takes of its operand
abbrev pub role_of : UnaryOp → Role
role_of unary.AddressOf = as_place
role_of unary.Not = in_test
role_of op = as_value

-- the operands of an expression that has a role and begins at this number; none where no label stands
abbrev pub operands : Role → ℕ → c.Expression → List Placed
operands role k (c.Index array index) = value (k + 1) array ∷ value (k + 1 + length (in_expression array)) index ∷ []
operands role k (c.Call callee arguments) = value (k + 1) callee ∷ at (k + 1 + length (in_expression callee)) (expressions arguments) ∷ []
operands role k (c.Member e name) = place (k + 1) e ∷ []
operands role k (c.Arrow e name) = value (k + 1) e ∷ []
operands role k (c.PostInc e) = place (k + 1) e ∷ []
operands role k (c.PostDec e) = place (k + 1) e ∷ []
operands role k (c.PreInc e) = place (k + 1) e ∷ []
operands role k (c.PreDec e) = place (k + 1) e ∷ []
operands role k (c.Unary op e) = at (k + 1) (an_expression (role_of op) e) ∷ []
operands role k (c.Cast s d e) = value (k + 1 + length (in_specifiers s) + length (in_declarator d)) e ∷ []
operands role k (c.Binary op left right) = value (k + 1) left ∷ value (k + 1 + length (in_expression left)) right ∷ []
operands role k (c.Logical op left right) = test (k + 1) left ∷ test (k + 1 + length (in_expression left)) right ∷ []
operands role k (c.Conditional tested left right) =
    test (k + 1) tested ∷ value (k + 1 + length (in_expression tested)) left ∷ value (k + 1 + length (in_expression tested) + length (in_expression left)) right ∷ []
operands role k (c.Assign op target e) = place (k + 1) target ∷ value (k + 1 + length (in_expression target)) e ∷ []
operands role k (c.Comma parts) = at (k + 1) (expressions parts) ∷ []
operands role k (c.Marked marks e) = at (k + 1 + length (in_marks marks)) (an_expression role e) ∷ []
operands role k (c.Decide e when_true when_false tag) = test (k + 1) e ∷ []
operands role k (c.After e id tag) = at (k + 1) (an_expression (behind_after role) e) ∷ []
operands role k e = []

-- ---- declarations and statements

abbrev pub optional_initialiser : ℕ → Option c.Initialiser → List Placed
optional_initialiser k None = []
optional_initialiser k (Some i) = at k (an_initialiser i) ∷ []

abbrev pub optional_value : ℕ → Option c.Expression → List Placed
optional_value k None = []
optional_value k (Some e) = value k e ∷ []

abbrev pub optional_test : ℕ → Option c.Expression → List Placed
optional_test k None = []
optional_test k (Some e) = test k e ∷ []

abbrev pub start : ℕ → c.ForStart → List Placed
start k c.Nothing = []
start k (c.First e) = value k e ∷ []
start k (c.Declares d) = at k (a_declaration d) ∷ []

abbrev pub in_it : ℕ → c.Statement → List Placed
in_it k (c.Compound list) = at (k + 1) (items list) ∷ []
in_it k (c.Evaluates e) = value (k + 1) e ∷ []
in_it k (c.If tested x) = test (k + 1) tested ∷ at (k + 1 + length (in_expression tested)) (a_statement x) ∷ []
in_it k (c.IfElse tested x y) =
    test (k + 1) tested ∷ at (k + 1 + length (in_expression tested)) (a_statement x)
    ∷ at (k + 1 + length (in_expression tested) + length (in_statement x)) (a_statement y) ∷ []
in_it k (c.While tested x) = test (k + 1) tested ∷ at (k + 1 + length (in_expression tested)) (a_statement x) ∷ []
in_it k (c.Do x tested) = at (k + 1) (a_statement x) ∷ test (k + 1 + length (in_statement x)) tested ∷ []
in_it k (c.For first tested step x) =
    let i = k + 1 + length (in_start first) in
    let j = i + length (in_optional tested) in
    start (k + 1) first ++ optional_test i tested ++ optional_value j step ++ at (j + length (in_optional step)) (a_statement x) ∷ []
in_it k (c.Switch e list) = value (k + 1) e ∷ at (k + 1 + length (in_expression e)) (cases list) ∷ []
in_it k (c.Return e) = optional_value (k + 1) e
in_it k x = []

-- ---- all pieces

-- the pieces of a piece that begins at this number
abbrev pub pieces : ℕ → Piece → List Placed
pieces k (an_expression role e) = operands role k e
pieces k (expressions c.no_expressions) = []
pieces k (expressions (c.an_expression e es)) = value k e ∷ at (k + length (in_expression e)) (expressions es) ∷ []
pieces k (an_initialiser (c.Value e)) = value (k + 1) e ∷ []
pieces k (an_initialiser (c.Braces list)) = at (k + 1) (initialisers list) ∷ []
pieces k (initialisers c.no_initialisers) = []
pieces k (initialisers (c.an_initialiser i list)) = at k (an_initialiser i) ∷ at (k + length (in_initialiser i)) (initialisers list) ∷ []
pieces k (a_declaration d) = at (k + length (in_specifiers d.specifiers)) (declarators d.declarators) ∷ []
pieces k (declarators []) = []
pieces k (declarators (d ∷ ds)) = optional_initialiser (k + length (in_declarator d.declarator)) d.initialiser ++ at (k + length (in_init_declarator d)) (declarators ds) ∷ []
pieces k (a_statement x) = in_it k x
pieces k (items c.no_items) = []
pieces k (items (c.a_declaration d list)) = at (k + 1) (a_declaration d) ∷ at (k + 1 + length (in_declaration d)) (items list) ∷ []
pieces k (items (c.a_statement x list)) = at (k + 1) (a_statement x) ∷ at (k + 1 + length (in_statement x)) (items list) ∷ []
pieces k (items (c.a_label m list)) = at (k + 1 + length (in_mark m)) (items list) ∷ []
pieces k (cases c.no_cases) = []
pieces k (cases (c.a_case labels x list)) =
    let i = k + length (flat_map in_label labels) in at i (a_statement x) ∷ at (i + length (in_statement x)) (cases list) ∷ []
pieces k (an_external (c.Defines s d body)) = at (k + 1 + length (in_specifiers s) + length (in_declarator d)) (items body) ∷ []
pieces k (an_external (c.Declared d)) = at (k + 1) (a_declaration d) ∷ []
pieces k (externals []) = []
pieces k (externals (x ∷ xs)) = at k (an_external x) ∷ at (k + length (in_external x)) (externals xs) ∷ []

-- the pieces of a unit, each where it stands
pub data IsIn (unit : c.Unit) : ℕ → Piece → Type 0 where
  the_unit : IsIn unit 0 (externals unit)
  a_piece : {k j : ℕ} {whole piece : Piece} → IsIn unit k whole → IsAmong (at j piece) (pieces k whole) → IsIn unit j piece

-- A piece stands in the unit at this number: what is known there of tests.
abbrev pub PieceStands : c.Unit → ℕ → Piece → Type 0
PieceStands unit k (an_expression role e) = Stands unit role k e
PieceStands unit k (expressions es) = AreUntested unit k (in_expressions es)
PieceStands unit k (an_initialiser i) = AreUntested unit k (in_initialiser i)
PieceStands unit k (initialisers list) = AreUntested unit k (in_initialisers list)
PieceStands unit k (a_declaration d) = AreUntested unit k (in_declaration d)
PieceStands unit k (declarators ds) = AreUntested unit k (flat_map in_init_declarator ds)
PieceStands unit k (a_statement x) = AreUntested unit k (in_statement x)
PieceStands unit k (items list) = AreUntested unit k (in_items list)
PieceStands unit k (cases list) = AreUntested unit k (in_cases list)
PieceStands unit k (an_external x) = AreUntested unit k (in_external x)
PieceStands unit k (externals xs) = AreUntested unit k (flat_map in_external xs)
