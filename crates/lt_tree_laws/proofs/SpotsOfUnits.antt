-- The spots of declarations, statements and units, one for each node, by the rules of the grammar.
use Rattle.std.proofs.Common.{ℕ, Bool, List, Option}
use Rattle.std.specs.List.{flat_map}
use Rattle.lt_tree.specs.Tree as c
use Rattle.lt_tree.specs.Symbols.{Symbol}
use Rattle.lt_tree.specs.Scope.{Scope}
use Rattle.lt_tree.specs.Ahead.{Naming}
use Rattle.lt_tree.specs.Declarations as d
use Rattle.lt_tree.specs.Statements as s
use Rattle.lt_tree.specs.Units as u
use Rattle.lt_tree.specs.Nodes.{in_initialiser, in_initialisers, in_optional_initialiser, in_init_declarator, in_declaration, in_optional, in_start, in_label, in_statement, in_items, in_cases, nodes}
use Rattle.lt_tree_laws.specs.Laws.{NodesHaveSpots}
use Rattle.lt_tree_laws.proofs.Spots.{Spans, nothing, node, joined}
use Rattle.lt_tree_laws.proofs.SpotsOfExpressions.{of_expression, of_mark, of_specifiers, of_declarator}

-- ---- declarations

mutual
  of_initialiser : {scope : Scope} {ts : List Symbol} {i : c.Initialiser} {rest : List Symbol} {spots more : List ℕ}
      → d.IsInitialiser scope ts i rest spots more → Spans (in_initialiser i) spots more
  of_initialiser (d.value e) = node (of_expression e)
  of_initialiser (d.braces is) = node (of_initialisers is)

  of_initialisers : {scope : Scope} {ts : List Symbol} {is : c.Initialisers} {rest : List Symbol} {spots more : List ℕ}
      → d.AreInitialisers scope ts is rest spots more → Spans (in_initialisers is) spots more
  of_initialisers (d.last_initialiser i) = joined (of_initialiser i) nothing
  of_initialisers (d.last_initialiser_and_comma i) = joined (of_initialiser i) nothing
  of_initialisers (d.more_initialisers i is) = joined (of_initialiser i) (of_initialisers is)

of_optional_initialiser : {scope : Scope} {ts : List Symbol} {i : Option c.Initialiser} {rest : List Symbol} {spots more : List ℕ}
    → d.IsOptionalInitialiser scope ts i rest spots more → Spans (in_optional_initialiser i) spots more
of_optional_initialiser (d.left_out n) = nothing
of_optional_initialiser (d.given i) = of_initialiser i

of_declarators : {scope : Scope} {naming : Naming} {type : Bool} {ts : List Symbol} {ds : List c.InitDeclarator} {rest : List Symbol} {spots more : List ℕ}
    → d.AreDeclarators scope naming type ts ds rest spots more → Spans (flat_map in_init_declarator ds) spots more
of_declarators (d.last_declarator d i) = joined (joined (of_declarator d) (of_optional_initialiser i)) nothing
of_declarators (d.more_declarators d i ds) = joined (joined (of_declarator d) (of_optional_initialiser i)) (of_declarators ds)

of_declaration : {scope : Scope} {ts : List Symbol} {whole : c.Declaration} {rest : List Symbol} {spots more : List ℕ}
    → d.IsDeclaration scope ts whole rest spots more → Spans (in_declaration whole) spots more
of_declaration (d.specifiers_alone ss) = joined (of_specifiers ss) nothing
of_declaration (d.with_declarators ss ds) = joined (of_specifiers ss) (of_declarators ds)

-- ---- statements

of_optional : {scope : Scope} {ts : List Symbol} {e : Option c.Expression} {rest : List Symbol} {spots more : List ℕ}
    → s.IsOptional scope ts e rest spots more → Spans (in_optional e) spots more
of_optional s.left_out = nothing
of_optional (s.given e) = of_expression e

of_start : {scope : Scope} {ts : List Symbol} {start : c.ForStart} {rest : List Symbol} {spots more : List ℕ}
    → s.IsForStart scope ts start rest spots more → Spans (in_start start) spots more
of_start s.nothing = nothing
of_start (s.expression e) = of_expression e
of_start (s.declaration d) = of_declaration d

of_labels : {scope : Scope} {ts : List Symbol} {labels : List c.Label} {rest : List Symbol} {spots more : List ℕ}
    → s.AreLabels scope ts labels rest spots more → Spans (flat_map in_label labels) spots more
of_labels (s.no_labels a b) = nothing
of_labels (s.case_label e labels) = joined (node (of_expression e)) (of_labels labels)
of_labels (s.default_label labels) = joined (node nothing) (of_labels labels)

mutual
  of_statement : {scope : Scope} {ts : List Symbol} {x : c.Statement} {rest : List Symbol} {spots more : List ℕ}
      → s.IsStatement scope ts x rest spots more → Spans (in_statement x) spots more
  of_statement (s.compound items) = node (of_items items)
  of_statement s.null = node nothing
  of_statement (s.expression e) = node (of_expression e)
  of_statement (s.if_alone e x n) = node (joined (of_expression e) (of_statement x))
  of_statement (s.if_else e x y) = node (joined (joined (of_expression e) (of_statement x)) (of_statement y))
  of_statement (s.while_loop e x) = node (joined (of_expression e) (of_statement x))
  of_statement (s.do_loop x e) = node (joined (of_statement x) (of_expression e))
  of_statement (s.for_loop start i test j step x) = node (joined (joined (joined (of_start start) (of_optional test)) (of_optional step)) (of_statement x))
  of_statement (s.switch e cases) = node (joined (of_expression e) (of_cases cases))
  of_statement s.break = node nothing
  of_statement s.continue = node nothing
  of_statement (s.returns e) = node (of_optional e)

  of_items : {scope : Scope} {ts : List Symbol} {items : c.Items} {rest : List Symbol} {spots more : List ℕ}
      → s.AreItems scope ts items rest spots more → Spans (in_items items) spots more
  of_items s.no_more_items = nothing
  of_items (s.declaration d items) = node (joined (of_declaration d) (of_items items))
  of_items (s.statement x items) = node (joined (of_statement x) (of_items items))
  of_items (s.label m items) = node (joined (of_mark m) (of_items items))

  of_cases : {scope : Scope} {ts : List Symbol} {cases : c.Cases} {rest : List Symbol} {spots more : List ℕ}
      → s.AreCases scope ts cases rest spots more → Spans (in_cases cases) spots more
  of_cases s.no_more_cases = nothing
  of_cases (s.one_more_case labels x cases) = joined (joined (of_labels labels) (of_statement x)) (of_cases cases)

-- ---- units

pub of_unit : {scope : Scope} {ts : List Symbol} {unit : c.Unit} {spots more : List ℕ}
    → u.AreExternals scope ts unit spots more → Spans (nodes unit) spots more
of_unit u.no_more_externals = nothing
of_unit (u.definition ss d items unit) = joined (node (joined (joined (of_specifiers ss) (of_declarator d)) (of_items items))) (of_unit unit)
of_unit (u.declaration d unit) = joined (node (of_declaration d)) (of_unit unit)
of_unit (u.semicolon unit) = of_unit unit

pub one_for_each : NodesHaveSpots
one_for_each scope ts unit spots more d = let s : Spans (nodes unit) spots more = of_unit d in (s.places, s.before, s.each)
