-- From ends to spots, as for expressions: of initialisers, declarations, statements and units.
use Rattle.std.specs.Prelude.{List, [], ◌∷◌, Option, Some, None}
use Rattle.lt_tree.specs.Tree as c
use Rattle.lt_expr.specs.Walk.{Walked, node, walk, walk_mark, walk_specifiers, walk_declarator}
use Rattle.lt_decl.specs.Items.{Item, declared, stated, marked}

abbrev mutual
  pub walk_initialiser : c.Initialiser → Walked → Walked
  walk_initialiser (c.Value e) w = node (walk e) w
  walk_initialiser (c.Braces parts) w = node (walk_initialisers parts) w

  pub walk_initialisers : c.Initialisers → Walked → Walked
  walk_initialisers c.no_initialisers w = w
  walk_initialisers (c.an_initialiser first rest) w = walk_initialiser first (walk_initialisers rest w)

abbrev pub walk_optional_initialiser : Option c.Initialiser → Walked → Walked
walk_optional_initialiser None w = w
walk_optional_initialiser (Some i) w = walk_initialiser i w

abbrev pub walk_declarators : List c.InitDeclarator → Walked → Walked
walk_declarators [] w = w
walk_declarators (d ∷ ds) w = walk_declarator d.declarator (walk_optional_initialiser d.initialiser (walk_declarators ds w))

abbrev pub walk_declaration : c.Declaration → Walked → Walked
walk_declaration d w = walk_specifiers d.specifiers (walk_declarators d.declarators w)

abbrev pub walk_optional : Option c.Expression → Walked → Walked
walk_optional None w = w
walk_optional (Some e) w = walk e w

abbrev pub walk_start : c.ForStart → Walked → Walked
walk_start c.Nothing w = w
walk_start (c.First e) w = walk e w
walk_start (c.Declares d) w = walk_declaration d w

abbrev pub walk_labels : List c.Label → Walked → Walked
walk_labels [] w = w
walk_labels (c.Case e ∷ labels) w = node (walk e) (walk_labels labels w)
walk_labels (c.Default ∷ labels) w = node (λ v. v) (walk_labels labels w)

abbrev mutual
  pub walk_statement : c.Statement → Walked → Walked
  walk_statement (c.Compound items) w = node (walk_items items) w
  walk_statement (c.Evaluates e) w = node (walk e) w
  walk_statement c.Null w = node (λ v. v) w
  walk_statement (c.If test body) w = node (λ v. walk test (walk_statement body v)) w
  walk_statement (c.IfElse test body other) w = node (λ v. walk test (walk_statement body (walk_statement other v))) w
  walk_statement (c.While test body) w = node (λ v. walk test (walk_statement body v)) w
  walk_statement (c.Do body test) w = node (λ v. walk_statement body (walk test v)) w
  walk_statement (c.For start test step body) w = node (λ v. walk_start start (walk_optional test (walk_optional step (walk_statement body v)))) w
  walk_statement (c.Switch operand cases) w = node (λ v. walk operand (walk_cases cases v)) w
  walk_statement c.Break w = node (λ v. v) w
  walk_statement c.Continue w = node (λ v. v) w
  walk_statement (c.Return value) w = node (walk_optional value) w

  pub walk_items : c.Items → Walked → Walked
  walk_items c.no_items w = w
  walk_items (c.a_declaration first rest) w = node (walk_declaration first) (walk_items rest w)
  walk_items (c.a_statement first rest) w = node (walk_statement first) (walk_items rest w)
  walk_items (c.a_label first rest) w = node (walk_mark first) (walk_items rest w)

  pub walk_cases : c.Cases → Walked → Walked
  walk_cases c.no_cases w = w
  walk_cases (c.a_case labels first rest) w = walk_labels labels (walk_statement first (walk_cases rest w))

abbrev pub walk_item : Item → Walked → Walked
walk_item (declared d) w = node (walk_declaration d) w
walk_item (stated x) w = node (walk_statement x) w
walk_item (marked m) w = node (walk_mark m) w

abbrev pub walk_external : c.External → Walked → Walked
walk_external (c.Defines s d body) w = node (λ v. walk_specifiers s (walk_declarator d (walk_items body v))) w
walk_external (c.Declared d) w = node (walk_declaration d) w

abbrev pub walk_unit : c.Unit → Walked → Walked
walk_unit [] w = w
walk_unit (x ∷ unit) w = walk_external x (walk_unit unit w)
