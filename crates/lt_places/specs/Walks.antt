-- How the numbers of inner expressions are found: by the sizes of the parts before them.
use Rattle.std.specs.Prelude.{ℕ, zero, suc, List, [], ◌∷◌, drop, Option, Some, None, option_map}
use Rattle.lt_tree.specs.Tree as c
use Rattle.lt_tree.specs.Nodes.{Node, an_expression}
use Rattle.lt_sites.specs.declared.site.Site.{Site}
use Rattle.lt_objectives.specs.Places.{Part, core, value_part}
use Rattle.lt_sites.specs.Sites.{node_of}
use Rattle.lt_places.specs.declared.walk.Wrapping.{Wrapping}
use Rattle.lt_places.specs.declared.walk.Wrapping.TheVariants as wrapping

-- the sites behind so many parts, the first of which begins the list
abbrev pub behind_parts : ℕ → List Site → List Site
behind_parts zero sites = sites
behind_parts (suc n) [] = []
behind_parts (suc n) (site ∷ sites) = behind_parts n (drop site.size (site ∷ sites))

abbrev pub count_marks : c.Marks → ℕ
count_marks c.no_marks = 0
count_marks (c.a_mark m ms) = suc (count_marks ms)

abbrev pub count_parts : c.Expressions → ℕ
count_parts c.no_expressions = 0
count_parts (c.an_expression e es) = suc (count_parts es)

-- how many of the parts are not the last
abbrev pub before_last : c.Expressions → Option ℕ
before_last c.no_expressions = None
before_last (c.an_expression e es) = Some (count_parts es)

-- how many parts stand in a node before the expression that it stands around, if it is such a wrapping
abbrev pub before : Wrapping → Node → Option ℕ
before what (an_expression (c.Marked marks e)) = Some (count_marks marks)
before what (an_expression (c.Decide e when_true when_false tag)) = Some 0
before what (an_expression (c.After e id tag)) = Some 0
before wrapping.MarksAndCommas (an_expression (c.Comma parts)) = before_last parts
before what node = None

-- the sites from the inner expression on
abbrev pub inner : Wrapping → List Site → Option (List Site)
inner what [] = None
inner what (site ∷ sites) = option_map (λ n. behind_parts n sites) (before what (node_of site.node))

-- the expression that is looked for
abbrev pub reached : Wrapping → ℕ → c.Expression → Part
reached wrapping.Marks = core
reached wrapping.MarksAndCommas = value_part
