-- Nodes before what is inside of them.
use Rattle.std.proofs.Common.{◌≡◌, refl, ◌∷◌}
use Rattle.lt_tree.specs.Tree as c
use Rattle.lt_tree.specs.Nodes.{an_initialiser, a_statement, an_expression, in_expression, in_initialiser, in_statement}
use Rattle.lt_sites.specs.Listed.{inside}

pub expression_node : (e : c.Expression) → in_expression e ≡ an_expression e ∷ inside (an_expression e)
expression_node (c.Name w) = refl
expression_node (c.Constant w) = refl
expression_node (c.Text bytes) = refl
expression_node (c.Index whole place) = refl
expression_node (c.Call callee arguments) = refl
expression_node (c.Member e w) = refl
expression_node (c.Arrow e w) = refl
expression_node (c.PostInc e) = refl
expression_node (c.PostDec e) = refl
expression_node (c.PreInc e) = refl
expression_node (c.PreDec e) = refl
expression_node (c.Unary op e) = refl
expression_node (c.SizeofExpr e) = refl
expression_node (c.SizeofType s d) = refl
expression_node (c.Cast s d e) = refl
expression_node (c.Binary op left right) = refl
expression_node (c.Logical op left right) = refl
expression_node (c.Conditional test left right) = refl
expression_node (c.Assign op target value) = refl
expression_node (c.Comma parts) = refl
expression_node (c.Marked marks e) = refl
expression_node (c.Decide e when_true when_false tag) = refl
expression_node (c.After e id tag) = refl

pub initialiser_node : (i : c.Initialiser) → in_initialiser i ≡ an_initialiser i ∷ inside (an_initialiser i)
initialiser_node (c.Value e) = refl
initialiser_node (c.Braces is) = refl

pub statement_node : (x : c.Statement) → in_statement x ≡ a_statement x ∷ inside (a_statement x)
statement_node (c.Compound items) = refl
statement_node (c.Evaluates e) = refl
statement_node c.Null = refl
statement_node (c.If test x) = refl
statement_node (c.IfElse test x y) = refl
statement_node (c.While test x) = refl
statement_node (c.Do x test) = refl
statement_node (c.For start test step x) = refl
statement_node (c.Switch e cases) = refl
statement_node c.Break = refl
statement_node c.Continue = refl
statement_node (c.Return e) = refl
