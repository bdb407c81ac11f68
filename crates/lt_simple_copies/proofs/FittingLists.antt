-- Whether predicates may copy the nodes of a piece of a unit, node by node.
use Rattle.std.proofs.Common.{◌≡◌, refl, ap, suc, ◌+◌, Bool, List, ◌++◌, length, arith}
use Rattle.std.specs.List.{flat_map}
use Rattle.std.proofs.lemmas.List.{length-append, length-map}
use Rattle.lt_tree.specs.Tree as c
use Rattle.lt_tree.specs.Nodes.{Node, in_expression, in_expressions, in_mark, in_specifiers, in_declarator, in_initialiser, in_initialisers, in_init_declarator, in_declaration, in_optional, in_start, in_label, in_statement, in_items, in_cases, in_external}
use Rattle.lt_objectives.specs.Tags.{Tags, tags_in, tags_in_start, tags_of_parameters, fits, fitting, fitting_in_statement, fitting_in_items, fitting_in_cases, fitting_in_external, fitting_in_externals}
use Rattle.lt_typed_nodes.specs.Reaching.{Piece, externals, an_external, items, a_statement, cases, a_declaration, declarators, a_start, an_initialiser, initialisers, an_expression, expressions}

-- where these tags are in scope at the piece
abbrev pub fitting_in_piece : Tags → Piece → List Bool
fitting_in_piece tags (externals unit) = fitting_in_externals tags unit
fitting_in_piece tags (an_external it) = fitting_in_external tags it
fitting_in_piece tags (items around them) = fitting_in_items tags them
fitting_in_piece tags (a_statement around it) = fitting_in_statement tags it
fitting_in_piece tags (cases type seen around them) = fitting_in_cases tags them
fitting_in_piece tags (a_declaration effective it) = fitting (tags_in it.specifiers ++ tags) (in_declaration it)
fitting_in_piece tags (declarators it ds) = fitting tags (flat_map in_init_declarator ds)
fitting_in_piece tags (a_start is_static t i) = fitting tags (in_initialiser i)
fitting_in_piece tags (an_initialiser is_static filling i) = fitting tags (in_initialiser i)
fitting_in_piece tags (initialisers is_static filling list) = fitting tags (in_initialisers list)
fitting_in_piece tags (an_expression role e) = fitting tags (in_expression e)
fitting_in_piece tags (expressions es) = fitting tags (in_expressions es)

-- ---- one for each node

-- as many as the nodes
pub as_many_as : (tags : Tags) (nodes : List Node) → length (fitting tags nodes) ≡ length nodes
as_many_as tags nodes = length-map nodes (fits tags)

-- of two lists, one behind the other
together : (these those : List Bool) (xs ys : List Node) → length these ≡ length xs → length those ≡ length ys → length (these ++ those) ≡ length (xs ++ ys)
together these those xs ys first rest =
    let left : length (these ++ those) ≡ length these + length those = length-append these those in
    let right : length (xs ++ ys) ≡ length xs + length ys = length-append xs ys in
    omega arith

mutual
  pub as_many_in_statement : (tags : Tags) (it : c.Statement) → length (fitting_in_statement tags it) ≡ length (in_statement it)
  as_many_in_statement tags (c.Compound list) = ap suc (as_many_in_items tags list)
  as_many_in_statement tags (c.If test x) = ap suc (together _ _ (in_expression test) (in_statement x) (as_many_as tags (in_expression test)) (as_many_in_statement tags x))
  as_many_in_statement tags (c.IfElse test x y) =
      ap suc (together _ _ (in_expression test ++ in_statement x) (in_statement y)
      (together _ _ (in_expression test) (in_statement x) (as_many_as tags (in_expression test)) (as_many_in_statement tags x)) (as_many_in_statement tags y))
  as_many_in_statement tags (c.While test x) = ap suc (together _ _ (in_expression test) (in_statement x) (as_many_as tags (in_expression test)) (as_many_in_statement tags x))
  as_many_in_statement tags (c.Do x test) = ap suc (together _ _ (in_statement x) (in_expression test) (as_many_in_statement tags x) (as_many_as tags (in_expression test)))
  as_many_in_statement tags (c.For start test step x) =
      let inner : Tags = tags_in_start start ++ tags in
      ap suc (together _ _ (in_start start ++ in_optional test ++ in_optional step) (in_statement x)
      (together _ _ (in_start start ++ in_optional test) (in_optional step)
      (together _ _ (in_start start) (in_optional test) (as_many_as inner (in_start start)) (as_many_as inner (in_optional test))) (as_many_as inner (in_optional step)))
      (as_many_in_statement inner x))
  as_many_in_statement tags (c.Switch e list) = ap suc (together _ _ (in_expression e) (in_cases list) (as_many_as tags (in_expression e)) (as_many_in_cases tags list))
  as_many_in_statement tags it = as_many_as tags (in_statement it)

  pub as_many_in_items : (tags : Tags) (them : c.Items) → length (fitting_in_items tags them) ≡ length (in_items them)
  as_many_in_items tags c.no_items = refl
  as_many_in_items tags (c.a_declaration d rest) =
      let inner : Tags = tags_in d.specifiers ++ tags in
      ap suc (together _ _ (in_declaration d) (in_items rest) (as_many_as inner (in_declaration d)) (as_many_in_items inner rest))
  as_many_in_items tags (c.a_statement x rest) = ap suc (together _ _ (in_statement x) (in_items rest) (as_many_in_statement tags x) (as_many_in_items tags rest))
  as_many_in_items tags (c.a_label m rest) = ap suc (together _ _ (in_mark m) (in_items rest) (as_many_as tags (in_mark m)) (as_many_in_items tags rest))

  as_many_in_cases : (tags : Tags) (them : c.Cases) → length (fitting_in_cases tags them) ≡ length (in_cases them)
  as_many_in_cases tags c.no_cases = refl
  as_many_in_cases tags (c.a_case labels x rest) =
      together _ _ (flat_map in_label labels ++ in_statement x) (in_cases rest)
      (together _ _ (flat_map in_label labels) (in_statement x) (as_many_as tags (flat_map in_label labels)) (as_many_in_statement tags x)) (as_many_in_cases tags rest)

pub as_many_in_external : (tags : Tags) (it : c.External) → length (fitting_in_external tags it) ≡ length (in_external it)
as_many_in_external tags (c.Defines s d body) =
    let inner : Tags = tags_of_parameters d ++ tags_in s ++ tags in
    ap suc (together _ _ (in_specifiers s ++ in_declarator d) (in_items body) (as_many_as inner (in_specifiers s ++ in_declarator d)) (as_many_in_items inner body))
as_many_in_external tags (c.Declared d) = ap suc (as_many_as (tags_in d.specifiers ++ tags) (in_declaration d))
