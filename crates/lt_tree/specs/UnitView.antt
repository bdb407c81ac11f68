-- The values of declarations, statements and units.
use Rattle.std.specs.Prelude.{List, [], ◌∷◌, option_map, map}
use Rattle.lt_tree.specs.declared.declaration.Declaration.{Declaration}
use Rattle.lt_tree.specs.declared.declaration.InitDeclarator.{InitDeclarator}
use Rattle.lt_tree.specs.declared.declaration.Initialiser.{Initialiser}
use Rattle.lt_tree.specs.declared.declaration.Initialiser.TheBlock as init
use Rattle.lt_tree.specs.declared.statement.ForStart.{ForStart}
use Rattle.lt_tree.specs.declared.statement.ForStart.TheVariants as start
use Rattle.lt_tree.specs.declared.statement.Label.{Label}
use Rattle.lt_tree.specs.declared.statement.Label.TheVariants as label
use Rattle.lt_tree.specs.declared.statement.Stmt.{Stmt}
use Rattle.lt_tree.specs.declared.statement.SwitchCase.{SwitchCase}
use Rattle.lt_tree.specs.declared.statement.Item.{Item}
use Rattle.lt_tree.specs.declared.statement.Item.TheBlock as at
use Rattle.lt_tree.specs.declared.unit.External.{External}
use Rattle.lt_tree.specs.declared.unit.External.TheVariants as external
use Rattle.lt_tree.specs.declared.unit.Unit.{Unit as UnitHeld}
use Rattle.lt_tree.specs.Tree as t
use Rattle.lt_tree.specs.View.{expression_of, mark_of}
use Rattle.lt_tree.specs.Records.{specifiers_of, declarator_of}

abbrev mutual
  pub initialiser_of : Initialiser → t.Initialiser
  initialiser_of (init.Expression value) = t.Value (expression_of value)
  initialiser_of (init.List' shape parts) = t.Braces (initialisers_of parts)

  pub initialisers_of : {m : _} → init.Row_of-Initialiser m → t.Initialisers
  initialisers_of init.end_of-Initialiser = t.no_initialisers
  initialisers_of (init.more_of-Initialiser first rest) = t.an_initialiser (initialiser_of first) (initialisers_of rest)

abbrev pub initialisers_in : List Initialiser → t.Initialisers
initialisers_in [] = t.no_initialisers
initialisers_in (first ∷ rest) = t.an_initialiser (initialiser_of first) (initialisers_in rest)

abbrev pub init_declarator_of : InitDeclarator → t.InitDeclarator
init_declarator_of d = record { declarator = declarator_of d.declarator; initialiser = option_map initialiser_of d.initialiser }

abbrev pub declaration_of : Declaration → t.Declaration
declaration_of d = record { specifiers = specifiers_of d.specifiers; declarators = map init_declarator_of d.declarators.items }

abbrev pub start_of : ForStart → t.ForStart
start_of start.Nothing = t.Nothing
start_of (start.Expression e) = t.First (expression_of e)
start_of (start.Declaration declaration) = t.Declares (declaration_of declaration)

abbrev pub label_of : Label → t.Label
label_of (label.Case value) = t.Case (expression_of value)
label_of label.Default = t.Default

abbrev mutual
  pub statement_of : Stmt → t.Statement
  statement_of (at.Compound' shape items) = t.Compound (items_of items)
  statement_of (at.Expression e) = t.Evaluates (expression_of e)
  statement_of at.Null = t.Null
  statement_of (at.If' test p body other) = if_of (expression_of test) (statement_of body) other
  statement_of (at.While' test p body) = t.While (expression_of test) (statement_of body)
  statement_of (at.Do' p body test) = t.Do (statement_of body) (expression_of test)
  statement_of (at.For' start test step p body) = t.For (start_of start) (option_map expression_of test) (option_map expression_of step) (statement_of body)
  statement_of (at.Switch' operand shape cases) = t.Switch (expression_of operand) (cases_of cases)
  statement_of at.Break = t.Break
  statement_of at.Continue = t.Continue
  statement_of (at.Return value) = t.Return (option_map expression_of value)

  pub if_of : t.Expression → t.Statement → at.Held-Stmt-If-2 → t.Statement
  if_of test body at.None' = t.If test body
  if_of test body (at.Some' p other) = t.IfElse test body (statement_of other)

  pub items_of : {m : _} → at.Row_of-Item m → t.Items
  items_of at.end_of-Item = t.no_items
  items_of (at.more_of-Item first rest) = item_before first (items_of rest)

  pub item_before : Item → t.Items → t.Items
  item_before (at.Declaration declaration) rest = t.a_declaration (declaration_of declaration) rest
  item_before (at.Statement statement) rest = t.a_statement (statement_of statement) rest
  item_before (at.Mark mark) rest = t.a_label (mark_of mark) rest

  pub cases_of : {m : _} → at.Row_of-SwitchCase m → t.Cases
  cases_of at.end_of-SwitchCase = t.no_cases
  cases_of (at.more_of-SwitchCase labels statement rest) = t.a_case (map label_of labels.items) (statement_of statement) (cases_of rest)

abbrev pub items_in : List Item → t.Items
items_in [] = t.no_items
items_in (first ∷ rest) = item_before first (items_in rest)

abbrev pub cases_in : List SwitchCase → t.Cases
cases_in [] = t.no_cases
cases_in (first ∷ rest) = t.a_case (map label_of first.labels.items) (statement_of first.statement) (cases_in rest)

abbrev pub external_of : External → t.External
external_of (external.Function f) = t.Defines (specifiers_of f.specifiers) (declarator_of f.declarator) (items_in f.body.items)
external_of (external.Declaration declaration) = t.Declared (declaration_of declaration)

abbrev pub unit_of : UnitHeld → t.Unit
unit_of u = map external_of u.externals.items
