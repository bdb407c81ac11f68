-- How marks end, once their parts were gone over.
use Rattle.std.specs.Prelude.{ℕ, List}
use Rattle.lt_tree.specs.Tree as c
use Rattle.lt_tree.specs.Typing.Rules.{unless, bad_mark}
use Rattle.lt_tree.specs.Typing.Steps.{Walk, ◌>>=◌, here, settle}
use Rattle.lt_tree.specs.Typing.Expressions.{Typed}
use Rattle.lt_tree.specs.Typing.MarkRules.{TypedBinding, is_good_mark}

-- a mark is judged at its node
abbrev pub mark_settles : ℕ → c.Expression → Typed → List ℕ → List ℕ → List TypedBinding → Walk (Unit {0})
mark_settles node written predicate id tag bound = here >>= (λ known. settle node (unless (is_good_mark known written predicate id tag bound) bad_mark))
