-- Walks to the tests of controlling expressions, along the list of the nodes.
use Rattle.std.specs.Prelude.{◌≡◌, ℕ, ◌+◌, List, [], ◌∷◌, ◌++◌, length, map, drop, slice_index_or, slice_set, Option, Some, None, unwrap_or}
use Rattle.std.specs.List.{flat_map}
use Rattle.lt_tree.specs.Tree as c
use Rattle.lt_tree.specs.Nodes.{Node, in_expression, in_marks}
use Rattle.lt_objectives.specs.Places.{Site as Numbered, part}
use Rattle.lt_objectives.specs.Decisions.{Test, controlling, decision_of, clauses_of, decisions, clauses}
use Rattle.lt_sites.specs.declared.site.Site.{Site}
use Rattle.lt_sites.specs.Sites.{Sized, part_of, entry_of}
use Rattle.lt_decisions.specs.declared.turn.Tests.{Tests}
use Rattle.lt_decisions.specs.declared.turn.Tests.TheVariants as tests
use Rattle.lt_decisions.specs.declared.walk.Cursor.{Cursor}

-- ---- what is looked for

-- the tests of an expression that begins at this number
abbrev pub tests_of : Tests → Option ℕ → ℕ → c.Expression → List Test
tests_of tests.Decisions after k e = decision_of after k e ∷ []
tests_of tests.Clauses after k e = clauses_of after k e

-- those of expressions that stand one behind the other, the first of them in a `pc_after`, if there is one
abbrev pub tests_from : Tests → Option ℕ → ℕ → List c.Expression → List Test
tests_from what after k [] = []
tests_from what after k (e ∷ es) = tests_of what after k e ++ tests_from what None (k + length (in_expression e)) es

-- those of the controlling expression of a node
abbrev pub tests_at : Tests → Numbered → List Test
tests_at tests.Decisions site = map (λ it. decision_of None it.number it.expression) (controlling site.number site.node)
tests_at tests.Clauses site = flat_map (λ it. clauses_of None it.number it.expression) (controlling site.number site.node)

abbrev pub tests_in : Tests → c.Unit → List Test
tests_in tests.Decisions unit = decisions unit
tests_in tests.Clauses unit = clauses unit

-- ---- what was found, by number

-- with a test at this number; what was found there first stays
abbrev pub noted : List (Option ℕ) → ℕ → ℕ → List (Option ℕ)
noted found k decided = slice_set found k (Some (unwrap_or (slice_index_or found k None) decided))

abbrev pub noted_all : List (Option ℕ) → List Test → List (Option ℕ)
noted_all found [] = found
noted_all found (it ∷ rest) = noted_all (noted found it.core.number it.decided) rest

-- ---- where nodes stand

-- these nodes stand in the list, one behind the other, from this number on
pub record Stand (list : List Site) (k : ℕ) (part : List Node) : Type 0 where
  pub behind : List Sized
  pub is_there : drop k (map entry_of list) ≡ map part_of part ++ behind

-- the controlling expression of a node begins at this number
pub record IsTest (list : List Site) (k : ℕ) (node : Node) (first : ℕ) : Type 0 where
  pub test : c.Expression
  pub controls : controlling k node ≡ part first test ∷ []
  pub stands : Stand list first (in_expression test)

-- marks, and expressions behind them
abbrev pub ahead : c.Marks → List c.Expression → List Node
ahead marks expressions = in_marks marks ++ flat_map in_expression expressions

-- Between a place and the last number are marks and expressions, and with their tests all that is to be found is found.
pub record Leads (list : List Site) (what : Tests) (at : Cursor) (last : ℕ) (found whole : List (Option ℕ)) : Type 0 where
  pub marks : c.Marks
  pub expressions : List c.Expression
  pub stand : Stand list at.number (ahead marks expressions)
  pub ends : at.number + length (ahead marks expressions) ≡ last
  pub leads : noted_all found (tests_from what at.after (at.number + length (in_marks marks)) expressions) ≡ whole
