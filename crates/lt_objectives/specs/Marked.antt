-- A unit with the marks of objectives at their places, numbered from an id.
use Rattle.std.specs.Prelude.{ℕ, suc, ◌+◌, ◌==◌, ◌&&◌, Bool, true, false, if◌then◌else◌, List, [], ◌∷◌, length, Option, Some, None}
use Rattle.std.specs.Fmt.{decimal}
use Rattle.lt_tree.specs.Tree as c
use Rattle.lt_tree.specs.Nodes.{in_expression, in_marks, in_mark, in_specifiers, in_declarator, in_initialiser, in_init_declarator, in_declaration, in_optional, in_start, in_label, in_statement, in_external}
use Rattle.std.specs.List.{flat_map}
use Rattle.lt_tree.specs.Typing.Programs.{Program}
use Rattle.lt_objectives.specs.declared.criteria.Criterion.{Criterion}
use Rattle.lt_objectives.specs.Criteria.{criteria_in}
use Rattle.lt_objectives.specs.Objectives.{Form, at_start, in_front, around, Objective, objectives}

-- ---- numbers of marks

-- an objective with the id of its label; a `pc_decide` has the next one too
pub record NewMark : Type 0 where
  pub objective : Objective
  pub id : ℕ

abbrev pub ids_of : Form → ℕ
ids_of at_start = 1
ids_of in_front = 1
ids_of around = 2

abbrev pub numbered : ℕ → List Objective → List NewMark
numbered id [] = []
numbered id (it ∷ rest) = record { objective = it; id = id } ∷ numbered (id + ids_of it.form) rest

-- the id that follows those of these objectives
abbrev pub next_id : ℕ → List Objective → ℕ
next_id id [] = id
next_id id (it ∷ rest) = next_id (id + ids_of it.form) rest

-- ---- marks at a place

abbrev pub label : NewMark → c.Mark
label new = c.mark new.objective.predicate (decimal new.id) new.objective.tag c.no_bindings

abbrev pub same_form : Form → Form → Bool
same_form at_start at_start = true
same_form in_front in_front = true
same_form around around = true
same_form _ _ = false

-- whether a mark has this form and this place
abbrev pub is_there : Form → ℕ → NewMark → Bool
is_there form k new = same_form form new.objective.form && (new.objective.place == k)

-- the labels of this form at this place among new marks
abbrev pub labels : Form → List NewMark → ℕ → c.Marks
labels form [] k = c.no_marks
labels form (new ∷ rest) k = if is_there form k new then c.a_mark (label new) (labels form rest k) else labels form rest k

-- the expression at this number with the new `pc_decide` around it
abbrev pub decided : List NewMark → ℕ → c.Expression → c.Expression
decided [] k e = e
decided (new ∷ rest) k e =
    if is_there around k new then c.Decide (decided rest k e) (decimal new.id) (decimal (suc new.id)) new.objective.tag else decided rest k e

abbrev pub joined : c.Marks → c.Marks → c.Marks
joined c.no_marks others = others
joined (c.a_mark first rest) others = c.a_mark first (joined rest others)

-- an expression with these marks in front of it
abbrev pub preceded_by : c.Marks → c.Expression → c.Expression
preceded_by c.no_marks e = e
preceded_by (c.a_mark first rest) e = c.Marked (c.a_mark first rest) e

-- an expression at this number whose parts have their marks already
abbrev pub placed : List NewMark → ℕ → c.Expression → c.Expression
placed new k e = preceded_by (labels in_front new k) (decided new k e)

-- ---- trees with new marks

-- An expression that begins at this number, with the marks of its parts but not its own. Marks that stand directly around an expression come first,
-- and the new ones after them. No mark stands in type names, in operands of `sizeof` and in predicates.
abbrev mutual
  pub within : List NewMark → ℕ → c.Expression → c.Expression
  within new k (c.Name w) = c.Name w
  within new k (c.Constant w) = c.Constant w
  within new k (c.Text bytes) = c.Text bytes
  within new k (c.Index whole place) =
      let j = k + 1 + length (in_expression whole) in c.Index (placed new (k + 1) (within new (k + 1) whole)) (placed new j (within new j place))
  within new k (c.Call callee arguments) =
      c.Call (placed new (k + 1) (within new (k + 1) callee)) (within_all new (k + 1 + length (in_expression callee)) arguments)
  within new k (c.Member e w) = c.Member (placed new (k + 1) (within new (k + 1) e)) w
  within new k (c.Arrow e w) = c.Arrow (placed new (k + 1) (within new (k + 1) e)) w
  within new k (c.PostInc e) = c.PostInc (placed new (k + 1) (within new (k + 1) e))
  within new k (c.PostDec e) = c.PostDec (placed new (k + 1) (within new (k + 1) e))
  within new k (c.PreInc e) = c.PreInc (placed new (k + 1) (within new (k + 1) e))
  within new k (c.PreDec e) = c.PreDec (placed new (k + 1) (within new (k + 1) e))
  within new k (c.Unary op e) = c.Unary op (placed new (k + 1) (within new (k + 1) e))
  within new k (c.SizeofExpr e) = c.SizeofExpr e
  within new k (c.SizeofType s d) = c.SizeofType s d
  within new k (c.Cast s d e) =
      let j = k + 1 + length (in_specifiers s) + length (in_declarator d) in c.Cast s d (placed new j (within new j e))
  within new k (c.Binary op left right) =
      let j = k + 1 + length (in_expression left) in c.Binary op (placed new (k + 1) (within new (k + 1) left)) (placed new j (within new j right))
  within new k (c.Logical op left right) =
      let j = k + 1 + length (in_expression left) in c.Logical op (placed new (k + 1) (within new (k + 1) left)) (placed new j (within new j right))
  within new k (c.Conditional test left right) =
      let i = k + 1 + length (in_expression test) in
      let j = i + length (in_expression left) in
      c.Conditional (placed new (k + 1) (within new (k + 1) test)) (placed new i (within new i left)) (placed new j (within new j right))
  within new k (c.Assign op target value) =
      let j = k + 1 + length (in_expression target) in c.Assign op (placed new (k + 1) (within new (k + 1) target)) (placed new j (within new j value))
  within new k (c.Comma parts) = c.Comma (within_all new (k + 1) parts)
  within new k (c.Marked marks e) =
      let j = k + 1 + length (in_marks marks) in c.Marked (joined marks (labels in_front new j)) (decided new j (within new j e))
  within new k (c.Decide e when_true when_false tag) = c.Decide (placed new (k + 1) (within new (k + 1) e)) when_true when_false tag
  within new k (c.After e id tag) = c.After (placed new (k + 1) (within new (k + 1) e)) id tag

  -- expressions that follow each other, the first of which begins at this number, with all their marks
  pub within_all : List NewMark → ℕ → c.Expressions → c.Expressions
  within_all new k c.no_expressions = c.no_expressions
  within_all new k (c.an_expression e es) =
      c.an_expression (placed new k (within new k e)) (within_all new (k + length (in_expression e)) es)

-- an expression that begins at this number, with all its marks
abbrev pub with_marks : List NewMark → ℕ → c.Expression → c.Expression
with_marks new k e = placed new k (within new k e)

abbrev pub optional_with_marks : List NewMark → ℕ → Option c.Expression → Option c.Expression
optional_with_marks new k None = None
optional_with_marks new k (Some e) = Some (with_marks new k e)

abbrev mutual
  pub initialiser_with_marks : List NewMark → ℕ → c.Initialiser → c.Initialiser
  initialiser_with_marks new k (c.Value e) = c.Value (with_marks new (k + 1) e)
  initialiser_with_marks new k (c.Braces is) = c.Braces (initialisers_with_marks new (k + 1) is)

  pub initialisers_with_marks : List NewMark → ℕ → c.Initialisers → c.Initialisers
  initialisers_with_marks new k c.no_initialisers = c.no_initialisers
  initialisers_with_marks new k (c.an_initialiser i is) =
      c.an_initialiser (initialiser_with_marks new k i) (initialisers_with_marks new (k + length (in_initialiser i)) is)

abbrev pub start_with_marks : List NewMark → ℕ → Option c.Initialiser → Option c.Initialiser
start_with_marks new k None = None
start_with_marks new k (Some i) = Some (initialiser_with_marks new k i)

abbrev pub declarators_with_marks : List NewMark → ℕ → List c.InitDeclarator → List c.InitDeclarator
declarators_with_marks new k [] = []
declarators_with_marks new k (d ∷ ds) =
    record { declarator = d.declarator; initialiser = start_with_marks new (k + length (in_declarator d.declarator)) d.initialiser }
    ∷ declarators_with_marks new (k + length (in_init_declarator d)) ds

abbrev pub declaration_with_marks : List NewMark → ℕ → c.Declaration → c.Declaration
declaration_with_marks new k d =
    record { specifiers = d.specifiers; declarators = declarators_with_marks new (k + length (in_specifiers d.specifiers)) d.declarators }

abbrev pub for_start_with_marks : List NewMark → ℕ → c.ForStart → c.ForStart
for_start_with_marks new k c.Nothing = c.Nothing
for_start_with_marks new k (c.First e) = c.First (with_marks new k e)
for_start_with_marks new k (c.Declares d) = c.Declares (declaration_with_marks new k d)

-- a statement, items or cases that begin at this number
abbrev mutual
  pub statement_with_marks : List NewMark → ℕ → c.Statement → c.Statement
  statement_with_marks new k (c.Compound items) = c.Compound (items_with_marks new (k + 1) items)
  statement_with_marks new k (c.Evaluates e) = c.Evaluates (with_marks new (k + 1) e)
  statement_with_marks new k c.Null = c.Null
  statement_with_marks new k (c.If test x) =
      c.If (with_marks new (k + 1) test) (statement_with_marks new (k + 1 + length (in_expression test)) x)
  statement_with_marks new k (c.IfElse test x y) =
      let i = k + 1 + length (in_expression test) in
      c.IfElse (with_marks new (k + 1) test) (statement_with_marks new i x) (statement_with_marks new (i + length (in_statement x)) y)
  statement_with_marks new k (c.While test x) =
      c.While (with_marks new (k + 1) test) (statement_with_marks new (k + 1 + length (in_expression test)) x)
  statement_with_marks new k (c.Do x test) =
      c.Do (statement_with_marks new (k + 1) x) (with_marks new (k + 1 + length (in_statement x)) test)
  statement_with_marks new k (c.For start test step x) =
      let i = k + 1 + length (in_start start) in
      let j = i + length (in_optional test) in
      c.For (for_start_with_marks new (k + 1) start) (optional_with_marks new i test) (optional_with_marks new j step)
      (statement_with_marks new (j + length (in_optional step)) x)
  statement_with_marks new k (c.Switch e cases) =
      c.Switch (with_marks new (k + 1) e) (cases_with_marks new (k + 1 + length (in_expression e)) cases)
  statement_with_marks new k c.Break = c.Break
  statement_with_marks new k c.Continue = c.Continue
  statement_with_marks new k (c.Return e) = c.Return (optional_with_marks new (k + 1) e)

  pub items_with_marks : List NewMark → ℕ → c.Items → c.Items
  items_with_marks new k c.no_items = c.no_items
  items_with_marks new k (c.a_declaration d items) =
      c.a_declaration (declaration_with_marks new (k + 1) d) (items_with_marks new (k + 1 + length (in_declaration d)) items)
  items_with_marks new k (c.a_statement x items) =
      c.a_statement (statement_with_marks new (k + 1) x) (items_with_marks new (k + 1 + length (in_statement x)) items)
  items_with_marks new k (c.a_label m items) = c.a_label m (items_with_marks new (k + 1 + length (in_mark m)) items)

  pub cases_with_marks : List NewMark → ℕ → c.Cases → c.Cases
  cases_with_marks new k c.no_cases = c.no_cases
  cases_with_marks new k (c.a_case labels x cases) =
      let i = k + length (flat_map in_label labels) in
      c.a_case labels (statement_with_marks new i x) (cases_with_marks new (i + length (in_statement x)) cases)

abbrev pub labels_before : c.Marks → c.Items → c.Items
labels_before c.no_marks items = items
labels_before (c.a_mark first rest) items = c.a_label first (labels_before rest items)

-- labels after the marks with which a body begins
abbrev pub after_leading : c.Marks → c.Items → c.Items
after_leading marks (c.a_label m items) = c.a_label m (after_leading marks items)
after_leading marks items = labels_before marks items

abbrev pub external_with_marks : List NewMark → ℕ → c.External → c.External
external_with_marks new k (c.Defines s d body) =
    c.Defines s d (after_leading (labels at_start new k) (items_with_marks new (k + 1 + length (in_specifiers s) + length (in_declarator d)) body))
external_with_marks new k (c.Declared d) = c.Declared (declaration_with_marks new (k + 1) d)

abbrev pub externals_with_marks : List NewMark → ℕ → c.Unit → c.Unit
externals_with_marks new k [] = []
externals_with_marks new k (x ∷ xs) = external_with_marks new k x ∷ externals_with_marks new (k + length (in_external x)) xs

abbrev pub unit_with_marks : List NewMark → c.Unit → c.Unit
unit_with_marks new unit = externals_with_marks new 0 unit

-- ---- the marks of criteria

-- the unit with the marks of these criteria, each applied to what the one before gave; ids go on from this one
abbrev pub marked_by : List Criterion → c.Unit → Program → ℕ → c.Unit
marked_by [] unit program id = unit
marked_by (criterion ∷ rest) unit program id =
    let them = objectives unit program criterion in marked_by rest (unit_with_marks (numbered id them) unit) program (next_id id them)

-- the unit with the marks of a set of criteria
abbrev pub marked : c.Unit → Program → (set : ℕ) → ℕ → c.Unit
marked unit program set id = marked_by (criteria_in set) unit program id
