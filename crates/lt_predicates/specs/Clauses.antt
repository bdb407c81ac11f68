-- What stands directly in an expression and has its clauses.
use Rattle.std.specs.Prelude.{List, [], ◌∷◌}
use Rattle.lt_tree.specs.declared.expression.UnaryOp.TheVariants as unary
use Rattle.lt_tree.specs.Tree as t
use Rattle.lt_tree.specs.View.{expression_of}
use Rattle.lt_predicates.specs.declared.clauses.Inner.{Inner}
use Rattle.lt_predicates.specs.declared.clauses.Inner.TheVariants as it

abbrev pub insides : t.Expression → List t.Expression
insides (t.Logical op left right) = left ∷ right ∷ []
insides (t.Unary unary.Not e) = e ∷ []
insides (t.Marked marks e) = e ∷ []
insides (t.Decide e when_true when_false tag) = e ∷ []
insides (t.After e id tag) = e ∷ []
insides e = []

abbrev pub insides_of : Inner → List t.Expression
insides_of (it.Both left right) = expression_of left.now ∷ expression_of right.now ∷ []
insides_of (it.One e) = expression_of e.now ∷ []
insides_of it.Nothing = []
