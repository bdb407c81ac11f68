-- Which nodes predicates may copy: those whose type names declare no struct and no enum, since each tag of a struct in them is named by a declaration before, in
-- a scope around them, C11 6.2.1 and 6.7.2.3. So a copy declares nothing, wherever it stands in front of an expression.
use Rattle.std.specs.Prelude.{Bool, true, false, ◌&&◌, ℕ, List, [], ◌∷◌, ◌++◌, map, option_to_list}
use Rattle.std.specs.List.{flat_map, list_any}
use Rattle.std.specs.Str.{bytes_eq}
use Rattle.lt_tree.specs.Tree as c
use Rattle.lt_tree.specs.Nodes.{Node, an_expression, in_expression, in_mark, in_specifiers, in_declarator, in_declaration, in_optional, in_start, in_label, in_statement}

-- tags in scope
abbrev pub Tags : Type 0
Tags = List (List ℕ)

-- ---- tags that declarations name

abbrev mutual
  -- the tags of structs in specifiers, those in the members of structs among them: behind the specifiers all are in scope
  pub tags_in : c.Specifiers → Tags
  tags_in (c.specifiers words types) = tags_in_types types

  pub tags_in_types : c.TypeSpecifiers → Tags
  tags_in_types c.no_types = []
  tags_in_types (c.a_type first rest) = tags_in_type first ++ tags_in_types rest

  pub tags_in_type : c.TypeSpecifier → Tags
  tags_in_type (c.StructTag tag) = tag ∷ []
  tags_in_type (c.Struct tag members) = option_to_list tag ++ tags_in_members members
  tags_in_type _ = []

  pub tags_in_members : c.Members → Tags
  tags_in_members c.no_members = []
  tags_in_members (c.a_member (c.member s ds) rest) = tags_in s ++ tags_in_members rest

-- the tags in the specifiers of parameters
abbrev pub tags_in_list : c.ParameterList → Tags
tags_in_list c.no_parameters = []
tags_in_list (c.a_parameter s d rest) = tags_in s ++ tags_in_list rest

abbrev pub tags_in_parameters : c.Parameters → Tags
tags_in_parameters (c.Listed list) = tags_in_list list
tags_in_parameters (c.Open list) = tags_in_list list
tags_in_parameters _ = []

-- those of the parameters of a function that is defined, which are in scope in its body, C11 6.2.1p4
abbrev pub tags_of_parameters : c.Declarator → Tags
tags_of_parameters (c.declarator name (c.Function parameters parts)) = tags_in_parameters parameters
tags_of_parameters _ = []

abbrev pub tags_in_start : c.ForStart → Tags
tags_in_start (c.Declares d) = tags_in d.specifiers
tags_in_start _ = []

-- ---- type names that declare nothing

abbrev pub is_known_type : Tags → c.TypeSpecifier → Bool
is_known_type tags (c.StructTag tag) = list_any (bytes_eq tag) tags
is_known_type tags (c.Struct _ _) = false
is_known_type tags (c.Enum _ _) = false
is_known_type tags _ = true

abbrev pub are_known_types : Tags → c.TypeSpecifiers → Bool
are_known_types tags c.no_types = true
are_known_types tags (c.a_type first rest) = is_known_type tags first && are_known_types tags rest

abbrev pub are_known : Tags → c.Specifiers → Bool
are_known tags (c.specifiers words types) = are_known_types tags types

-- whether the parameters in a declarator declare nothing; the lengths of arrays are nodes of their own
abbrev mutual
  pub is_known_declarator : Tags → c.Declarator → Bool
  is_known_declarator tags (c.declarator name parts) = are_known_parts tags parts

  pub are_known_parts : Tags → c.Parts → Bool
  are_known_parts tags c.no_parts = true
  are_known_parts tags (c.Pointer qualifiers rest) = are_known_parts tags rest
  are_known_parts tags (c.Array length rest) = are_known_parts tags rest
  are_known_parts tags (c.Function parameters rest) = are_known_parameters tags parameters && are_known_parts tags rest

  pub are_known_parameters : Tags → c.Parameters → Bool
  are_known_parameters tags c.Unstated = true
  are_known_parameters tags c.Void = true
  are_known_parameters tags (c.Listed list) = is_known_list tags list
  are_known_parameters tags (c.Open list) = is_known_list tags list

  pub is_known_list : Tags → c.ParameterList → Bool
  is_known_list tags c.no_parameters = true
  is_known_list tags (c.a_parameter s d rest) = are_known tags s && is_known_declarator tags d && is_known_list tags rest

-- whether the type name of a cast or `sizeof` declares nothing
abbrev pub names_known : Tags → Node → Bool
names_known tags (an_expression (c.Cast s d operand)) = are_known tags s && is_known_declarator tags d
names_known tags (an_expression (c.SizeofType s d)) = are_known tags s && is_known_declarator tags d
names_known tags node = true

-- no comma expression of fewer than two parts, and no expression behind no mark: no text has these
abbrev pub is_of_text : Node → Bool
is_of_text (an_expression (c.Comma c.no_expressions)) = false
is_of_text (an_expression (c.Comma (c.an_expression first c.no_expressions))) = false
is_of_text (an_expression (c.Marked c.no_marks value)) = false
is_of_text node = true

-- whether predicates may copy a node where these tags are in scope
abbrev pub fits : Tags → Node → Bool
fits tags node = is_of_text node && names_known tags node

-- ---- the nodes of a unit

-- whether predicates may copy each of these nodes
abbrev pub fitting : Tags → List Node → List Bool
fitting tags nodes = map (fits tags) nodes

-- Whether predicates may copy each node of a statement, and of items and cases, where these tags are in scope. A declaration's tags are in scope to the end of its
-- block; in its own specifiers, where no label stands, nothing depends on them.
abbrev mutual
  pub fitting_in_statement : Tags → c.Statement → List Bool
  fitting_in_statement tags (c.Compound items) = true ∷ fitting_in_items tags items
  fitting_in_statement tags (c.If test x) = true ∷ fitting tags (in_expression test) ++ fitting_in_statement tags x
  fitting_in_statement tags (c.IfElse test x y) = true ∷ fitting tags (in_expression test) ++ fitting_in_statement tags x ++ fitting_in_statement tags y
  fitting_in_statement tags (c.While test x) = true ∷ fitting tags (in_expression test) ++ fitting_in_statement tags x
  fitting_in_statement tags (c.Do x test) = true ∷ fitting_in_statement tags x ++ fitting tags (in_expression test)
  fitting_in_statement tags (c.For start test step x) =
      let inner = tags_in_start start ++ tags in
      true ∷ fitting inner (in_start start) ++ fitting inner (in_optional test) ++ fitting inner (in_optional step) ++ fitting_in_statement inner x
  fitting_in_statement tags (c.Switch e cases) = true ∷ fitting tags (in_expression e) ++ fitting_in_cases tags cases
  fitting_in_statement tags x = fitting tags (in_statement x)

  pub fitting_in_items : Tags → c.Items → List Bool
  fitting_in_items tags c.no_items = []
  fitting_in_items tags (c.a_declaration d rest) =
      let inner = tags_in d.specifiers ++ tags in true ∷ fitting inner (in_declaration d) ++ fitting_in_items inner rest
  fitting_in_items tags (c.a_statement x rest) = true ∷ fitting_in_statement tags x ++ fitting_in_items tags rest
  fitting_in_items tags (c.a_label m rest) = true ∷ fitting tags (in_mark m) ++ fitting_in_items tags rest

  pub fitting_in_cases : Tags → c.Cases → List Bool
  fitting_in_cases tags c.no_cases = []
  fitting_in_cases tags (c.a_case labels x rest) = fitting tags (flat_map in_label labels) ++ fitting_in_statement tags x ++ fitting_in_cases tags rest

-- the tags of file scope that are declared by the end of an external
abbrev pub tags_behind : Tags → c.External → Tags
tags_behind tags (c.Defines s d body) = tags_in s ++ tags
tags_behind tags (c.Declared d) = tags_in d.specifiers ++ tags

abbrev pub fitting_in_external : Tags → c.External → List Bool
fitting_in_external tags (c.Defines s d body) =
    let inner = tags_of_parameters d ++ tags_in s ++ tags in true ∷ fitting inner (in_specifiers s ++ in_declarator d) ++ fitting_in_items inner body
fitting_in_external tags (c.Declared d) = true ∷ fitting (tags_in d.specifiers ++ tags) (in_declaration d)

abbrev pub fitting_in_externals : Tags → List c.External → List Bool
fitting_in_externals tags [] = []
fitting_in_externals tags (x ∷ xs) = fitting_in_external tags x ++ fitting_in_externals (tags_behind tags x) xs

-- of each node of a unit, by its number, whether predicates may copy it
abbrev pub fitting_nodes : c.Unit → List Bool
fitting_nodes unit = fitting_in_externals [] unit
