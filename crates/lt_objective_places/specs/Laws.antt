-- What is known of tests and objectives where the pieces of a unit stand.
use Rattle.std.specs.Prelude.{◌≡◌, ℕ, ◌+◌, true, List, ◌++◌, length, Option, Some}
use Rattle.std.specs.List.{list_any}
use Rattle.lt_tree.specs.Tree as c
use Rattle.lt_tree.specs.Nodes.{an_expression as expression_node, in_expression, in_mark, in_declaration}
use Rattle.lt_tree.specs.Typing.Constants.{is_number}
use Rattle.lt_tree.specs.Typing.Entities.{Fact}
use Rattle.lt_tree.specs.Typing.Programs.{Program}
use Rattle.lt_objectives.specs.declared.criteria.Criterion.{Criterion}
use Rattle.lt_objectives.specs.Places.{core, stays_without_marks, fact_among, is_constant, storage_of, makes_static, makes_static_in_for}
use Rattle.lt_objectives.specs.Objectives.{Form, at_start, in_front, Objective, all_at, at_body, at_expression, objectives}
use Rattle.lt_objectives.specs.Marked.{numbered, next_id, labels, decided, with_marks, declaration_with_marks}
use Rattle.lt_objective_places.specs.Stands.{IsAmong, IsWithin, GoOn, Role, AreClosed, MayStand}
use Rattle.lt_objective_places.specs.Pieces.{Piece, an_expression, a_declaration, a_statement, items, an_external, externals, at, pieces, IsIn, PieceStands}

-- The unit stands, and where a piece stands, so do its own pieces: so all pieces of a unit do.
abbrev pub PiecesStand : Type 0
PiecesStand =
    ((unit : c.Unit) → PieceStands unit 0 (externals unit))
    × ((unit : c.Unit) (k j : ℕ) (whole piece : Piece) → PieceStands unit k whole → IsAmong (at j piece) (pieces k whole) → PieceStands unit j piece)
    × ((unit : c.Unit) (k : ℕ) (piece : Piece) → IsIn unit k piece → PieceStands unit k piece)

-- An objective at the number of an expression of the unit stands there as the expression's role allows; one at the number of a function's definition stands
-- at the start of its body.
abbrev pub ObjectivesStandWhereTheyMay : Type 0
ObjectivesStandWhereTheyMay =
    (unit : c.Unit) (program : Program) (criterion : Criterion) (k : ℕ) (it : Objective) → IsAmong it (objectives unit program criterion) → it.place ≡ k
    → ((role : Role) (e : c.Expression) → IsIn unit k (an_expression role e) → MayStand unit program criterion role k e it it.form)
    × ((s : c.Specifiers) (d : c.Declarator) (body : c.Items) → IsIn unit k (an_external (c.Defines s d body))
    → (it.form ≡ at_start) × IsAmong it (all_at k at_start criterion (at_body unit program criterion k)))

-- No label stands in declarations at the outermost level and of objects that are there from the start, in integer constant expressions, in operands of
-- `sizeof`, and in marks.
abbrev pub SomeAreClosed : Type 0
SomeAreClosed =
    (unit : c.Unit) (program : Program) (k : ℕ)
    → ((d : c.Declaration) → PieceStands unit k (an_external (c.Declared d)) → AreClosed unit program (k + 1) (length (in_declaration d)))
    × ((d : c.Declaration) (list : c.Items) → list_any makes_static (storage_of d.specifiers) ≡ true → PieceStands unit k (items (c.a_declaration d list))
    → AreClosed unit program (k + 1) (length (in_declaration d)))
    × ((d : c.Declaration) (test step : Option c.Expression) (x : c.Statement) → list_any makes_static_in_for (storage_of d.specifiers) ≡ true
    → PieceStands unit k (a_statement (c.For (c.Declares d) test step x)) → AreClosed unit program (k + 1) (length (in_declaration d)))
    × ((role : Role) (e : c.Expression) → is_constant unit program k ≡ true → PieceStands unit k (an_expression role e) → AreClosed unit program k (length (in_expression e)))
    × ((role : Role) (e : c.Expression) → PieceStands unit k (an_expression role (c.SizeofExpr e)) → AreClosed unit program (k + 1) (length (in_expression e)))
    × ((m : c.Mark) → GoOn unit k (in_mark m) → AreClosed unit program k (length (in_mark m)))

-- No label stands in an expression of which the unit's program knows that it is an integer constant; in marks no label stands anyway.
abbrev pub ConstantsAreClosed : Type 0
ConstantsAreClosed =
    (unit : c.Unit) (program : Program) (role : Role) (k : ℕ) (e : c.Expression) (fact : Fact) → program.unit ≡ unit → stays_without_marks (expression_node e) ≡ true → PieceStands unit k (an_expression role e)
    → fact_among program.facts k ≡ Some fact → is_number fact.constancy ≡ true → AreClosed unit program k (length (in_expression e))

-- No objective stands in expressions and declarations where no label does.
abbrev pub NoneStandsWhereNoLabelDoes : Type 0
NoneStandsWhereNoLabelDoes =
    (unit : c.Unit) (program : Program) (criterion : Criterion) (k : ℕ) (it : Objective) → IsAmong it (objectives unit program criterion)
    → ((role : Role) (e : c.Expression) → PieceStands unit k (an_expression role e) → AreClosed unit program k (length (in_expression e)) → IsWithin k (length (in_expression e)) it.place
    → it.form ≡ at_start)
    × ((d : c.Declaration) → PieceStands unit k (a_declaration d) → AreClosed unit program k (length (in_declaration d)) → IsWithin k (length (in_declaration d)) it.place → it.form ≡ at_start)

-- So such an expression or declaration gets no mark.
abbrev pub NothingIsMarkedThere : Type 0
NothingIsMarkedThere =
    (unit : c.Unit) (program : Program) (criterion : Criterion) (k id : ℕ)
    → ((role : Role) (e : c.Expression) → PieceStands unit k (an_expression role e) → AreClosed unit program k (length (in_expression e))
    → with_marks (numbered id (objectives unit program criterion)) k e ≡ e)
    × ((d : c.Declaration) → PieceStands unit k (a_declaration d) → AreClosed unit program k (length (in_declaration d))
    → declaration_with_marks (numbered id (objectives unit program criterion)) k d ≡ d)

-- These are some of all objectives, one behind the other.
pub record AreTogether (unit : c.Unit) (program : Program) (criterion : Criterion) (these : List Objective) : Type 0 where
  pub before : List Objective
  pub behind : List Objective
  pub all : objectives unit program criterion ≡ before ++ (these ++ behind)

-- The new labels of a form at a number are of these objectives alone; numbers go on from an id.
pub record LabelsAreOf (unit : c.Unit) (program : Program) (criterion : Criterion) (form : Form) (k : ℕ) (id : ℕ) (these : List Objective) : Type 0 where
  pub together : AreTogether unit program criterion these
  pub labels_are : labels form (numbered id (objectives unit program criterion)) k ≡ labels form (numbered (next_id id together.before) these) k

-- So are the new `pc_decide`s.
pub record DecidedAreOf (unit : c.Unit) (program : Program) (criterion : Criterion) (k : ℕ) (id : ℕ) (these : List Objective) : Type 0 where
  pub together : AreTogether unit program criterion these
  pub decided_are : (x : c.Expression) → decided (numbered id (objectives unit program criterion)) k x ≡ decided (numbered (next_id id together.before) these) k x

-- The new labels in front of an expression are of its own objectives, the new `pc_decide`s around it of those of its core, and the labels at the start of a
-- function of those of its body.
abbrev pub MarksAreOfOneNode : Type 0
MarksAreOfOneNode =
    (unit : c.Unit) (program : Program) (criterion : Criterion) (k id : ℕ)
    → ((role : Role) (e : c.Expression) → PieceStands unit k (an_expression role e)
    → LabelsAreOf unit program criterion in_front k id (at_expression unit program criterion k e)
    × DecidedAreOf unit program criterion k id (at_expression unit program criterion (core k e).number (core k e).expression))
    × ((s : c.Specifiers) (d : c.Declarator) (body : c.Items) → PieceStands unit k (an_external (c.Defines s d body))
    → LabelsAreOf unit program criterion at_start k id (all_at k at_start criterion (at_body unit program criterion k)))
