use Rattle.std.proofs.Common.{◌≡◌, ℕ, List, refl}
use Rattle.lt_tree.specs.Tree as c
use Rattle.lt_tree.specs.Typing.Steps.{◌>>=◌, enter}
use Rattle.lt_tree.specs.Typing.Expressions.{Use}
use Rattle.lt_tree.specs.Typing.Entities.{Known}
use Rattle.lt_tree.specs.Typing.NodeEnds.{text_at}
use Rattle.lt_tree.specs.Typing.ExpressionTyping.{expression}
use Rattle.lt_type.specs.Ends.{text_number, text_end}
use Rattle.lt_env.specs.Views.{use_of}
use Rattle.lt_type.proofs.Sequences.{gives_then, gives_entered, gives_so}
use Rattle.lt_type.proofs.walk.names.text.Goals as goal

-- The judgement of a string literal is the same wherever it is made.
text_is : (bytes : List ℕ) (role : Use) (k : Known) → (enter >>= (λ node. text_number node bytes >>= (λ n. text_end node role bytes n))) k ≡ expression (c.Text bytes) role k
unfolding text_at
text_is bytes role k = refl

pub returns : goal.returns
returns c =
    gives_so (λ types k. text_is c.args.bytes.now (use_of c.args.role) k)
    (gives_entered (λ types node. text_number node c.args.bytes.now >>= (λ n. text_end node (use_of c.args.role) c.args.bytes.now n))
    c.in_ok-node.ensures.entered c.in_ok-node.ensures.node
    (gives_then (λ types n. text_end c.in_ok-node.node (use_of c.args.role) c.args.bytes.now n) c.in_ok-number.ensures c.end_text.ensures))
