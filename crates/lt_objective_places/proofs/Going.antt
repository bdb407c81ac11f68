-- From a piece of a unit to its own pieces.
use Rattle.std.proofs.Common.{inl, inr, subst, ℕ, ◌+◌, List, [], ◌∷◌, ◌++◌, length, Option, Some, None}
use Rattle.lt_tree.specs.Tree as c
use Rattle.lt_tree.specs.Nodes.{in_declarator, in_optional_initialiser, in_optional, in_start, in_statement}
use Rattle.lt_objective_places.specs.Stands.{IsAmong, AreUntested, Role, Stands}
use Rattle.lt_objective_places.specs.Pieces.{Piece, an_expression, expressions, an_initialiser, initialisers, a_declaration, declarators, a_statement, items, cases, an_external, externals, Placed, at, operands, optional_initialiser, optional_value, optional_test, start, in_it, pieces, IsIn, the_unit, a_piece, PieceStands}
use Rattle.lt_objective_places.proofs.Runs.{top}
use Rattle.lt_objective_places.proofs.Roles as roles
use Rattle.lt_objective_places.proofs.Expressions as expression
use Rattle.lt_objective_places.proofs.Statements as statement

-- a piece of a unit stands where it is placed
abbrev pub StandsAt : c.Unit → Placed → Type 0
StandsAt unit it = PieceStands unit it.number it.piece

-- each of these does
pub data AllStand (unit : c.Unit) : List Placed → Type 0 where
  none_stands : AllStand unit []
  one_stands : {it : Placed} {rest : List Placed} → StandsAt unit it → AllStand unit rest → AllStand unit (it ∷ rest)

only : {unit : c.Unit} {it : Placed} → StandsAt unit it → AllStand unit (it ∷ [])
only s = one_stands s none_stands

pair : {unit : c.Unit} {a b : Placed} → StandsAt unit a → StandsAt unit b → AllStand unit (a ∷ b ∷ [])
pair s t = one_stands s (only t)

each_of_both : {unit : c.Unit} {a b : List Placed} → AllStand unit a → AllStand unit b → AllStand unit (a ++ b)
each_of_both none_stands t = t
each_of_both (one_stands s rest) t = one_stands s (each_of_both rest t)

operands_stand : (unit : c.Unit) (role : Role) (k : ℕ) (e : c.Expression) → Stands unit role k e → AllStand unit (operands role k e)
operands_stand unit role k (c.Index array index) s = let it = expression.index s in pair it.0 it.1
operands_stand unit role k (c.Call callee arguments) s = let it = expression.call s in pair it.0 it.1
operands_stand unit role k (c.Member e name) s = only (expression.member s)
operands_stand unit role k (c.Arrow e name) s = only (expression.arrow s)
operands_stand unit role k (c.PostInc e) s = only (expression.post_increment s)
operands_stand unit role k (c.PostDec e) s = only (expression.post_decrement s)
operands_stand unit role k (c.PreInc e) s = only (expression.pre_increment s)
operands_stand unit role k (c.PreDec e) s = only (expression.pre_decrement s)
operands_stand unit role k (c.Unary op e) s = only (expression.unary_operator op s)
operands_stand unit role k (c.Cast type d e) s = only (expression.cast s)
operands_stand unit role k (c.Binary op left right) s = let it = expression.binary s in pair it.0 it.1
operands_stand unit role k (c.Logical op left right) s = let it = expression.connective s in pair it.0 it.1
operands_stand unit role k (c.Conditional tested left right) s = let it = expression.conditional s in one_stands it.0 (pair it.1 it.2)
operands_stand unit role k (c.Assign op target e) s = let it = expression.assignment s in pair it.0 it.1
operands_stand unit role k (c.Comma parts) s = only (expression.comma s)
operands_stand unit role k (c.Marked marks e) s = only (expression.marked s)
operands_stand unit role k (c.Decide e when_true when_false tag) s = only (expression.decide s)
operands_stand unit role k (c.After e id tag) s = only (expression.after s)
operands_stand unit role k e s = none_stands

-- ---- declarations and statements

initialiser_stands : (unit : c.Unit) (k : ℕ) (i : Option c.Initialiser) → AreUntested unit k (in_optional_initialiser i) → AllStand unit (optional_initialiser k i)
initialiser_stands unit k None s = none_stands
initialiser_stands unit k (Some i) s = only s

value_stands : (unit : c.Unit) (k : ℕ) (e : Option c.Expression) → AreUntested unit k (in_optional e) → AllStand unit (optional_value k e)
value_stands unit k None s = none_stands
value_stands unit k (Some e) s = only (roles.value e s)

test_stands : (unit : c.Unit) (k : ℕ) (e : Option c.Expression) → statement.OptionalTest unit k e → AllStand unit (optional_test k e)
test_stands unit k None s = none_stands
test_stands unit k (Some e) s = only s

start_stands : (unit : c.Unit) (k : ℕ) (it : c.ForStart) → AreUntested unit k (in_start it) → AllStand unit (start k it)
start_stands unit k c.Nothing s = none_stands
start_stands unit k (c.First e) s = only (roles.value e s)
start_stands unit k (c.Declares d) s = only s

in_statement_stands : (unit : c.Unit) (k : ℕ) (x : c.Statement) → AreUntested unit k (in_statement x) → AllStand unit (in_it k x)
in_statement_stands unit k (c.Compound list) s = only (statement.compound list s)
in_statement_stands unit k (c.Evaluates e) s = only (statement.evaluates e s)
in_statement_stands unit k (c.If tested x) s = let it = statement.if_alone tested x s in pair it.0 it.1
in_statement_stands unit k (c.IfElse tested x y) s = let it = statement.if_else tested x y s in one_stands it.0 (pair it.1 it.2)
in_statement_stands unit k (c.While tested x) s = let it = statement.while_loop tested x s in pair it.0 it.1
in_statement_stands unit k (c.Do x tested) s = let it = statement.do_loop x tested s in pair it.0 it.1
in_statement_stands unit k (c.For first tested step x) s =
    let i = k + 1 + length (in_start first) in
    let it = statement.for_loop first tested step x s in
    each_of_both (each_of_both (each_of_both (start_stands unit (k + 1) first it.0) (test_stands unit i tested it.1)) (value_stands unit (i + length (in_optional tested)) step it.2)) (only it.3)
in_statement_stands unit k (c.Switch e list) s = let it = statement.switch e list s in pair it.0 it.1
in_statement_stands unit k (c.Return e) s = value_stands unit (k + 1) e (statement.return e s)
in_statement_stands unit k x s = none_stands

-- ---- all pieces

pub pieces_stand : (unit : c.Unit) (k : ℕ) (piece : Piece) → PieceStands unit k piece → AllStand unit (pieces k piece)
pieces_stand unit k (an_expression role e) s = operands_stand unit role k e s
pieces_stand unit k (expressions c.no_expressions) s = none_stands
pieces_stand unit k (expressions (c.an_expression e es)) s = let it = expression.next_part e es s in pair it.0 it.1
pieces_stand unit k (an_initialiser (c.Value e)) s = only (statement.initial_value e s)
pieces_stand unit k (an_initialiser (c.Braces list)) s = only (statement.braces list s)
pieces_stand unit k (initialisers c.no_initialisers) s = none_stands
pieces_stand unit k (initialisers (c.an_initialiser i list)) s = let it = statement.next_initialiser i list s in pair it.0 it.1
pieces_stand unit k (a_declaration d) s = only (statement.declared d s)
pieces_stand unit k (declarators []) s = none_stands
pieces_stand unit k (declarators (d ∷ ds)) s =
    let it = statement.next_declarator d ds s in each_of_both (initialiser_stands unit (k + length (in_declarator d.declarator)) d.initialiser it.0) (only it.1)
pieces_stand unit k (a_statement x) s = in_statement_stands unit k x s
pieces_stand unit k (items c.no_items) s = none_stands
pieces_stand unit k (items (c.a_declaration d list)) s = let it = statement.declared_item d list s in pair it.0 it.1
pieces_stand unit k (items (c.a_statement x list)) s = let it = statement.stated_item x list s in pair it.0 it.1
pieces_stand unit k (items (c.a_label m list)) s = only (statement.marked_item m list s)
pieces_stand unit k (cases c.no_cases) s = none_stands
pieces_stand unit k (cases (c.a_case labels x list)) s = let it = statement.next_case labels x list s in pair it.0 it.1
pieces_stand unit k (an_external (c.Defines type d body)) s = only (statement.defines type d body s)
pieces_stand unit k (an_external (c.Declared d)) s = only (statement.declared_external d s)
pieces_stand unit k (externals []) s = none_stands
pieces_stand unit k (externals (x ∷ xs)) s = let it = statement.next_external x xs s in pair it.0 it.1

stands_among : {unit : c.Unit} (it : Placed) {list : List Placed} → AllStand unit list → IsAmong it list → StandsAt unit it
stands_among it none_stands h = absurd h
stands_among {unit} it (one_stands s rest) (inl is) = subst (StandsAt unit) is s
stands_among it (one_stands s rest) (inr h) = stands_among it rest h

pub piece_stands : (unit : c.Unit) (k j : ℕ) (whole piece : Piece) → PieceStands unit k whole → IsAmong (at j piece) (pieces k whole) → PieceStands unit j piece
piece_stands unit k j whole piece s h = stands_among (at j piece) (pieces_stand unit k whole s) h

pub all_stand : (unit : c.Unit) (k : ℕ) (piece : Piece) → IsIn unit k piece → PieceStands unit k piece
all_stand unit k piece the_unit = top unit
all_stand unit j piece (a_piece {k} {whole} h among) = piece_stands unit k j whole piece (all_stand unit k whole h) among
