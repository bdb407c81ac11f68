use Rattle.lt_tree.specs.Typing.Constants.{constant_of}
use Rattle.lt_tree.specs.Typing.Steps.{◌>>=◌, here}
use Rattle.lt_tree.specs.Typing.Expressions.{finish}
use Rattle.lt_tree.specs.Typing.Operations.{judge_constant}
use Rattle.lt_env.specs.Views.{use_of}
use Rattle.lt_type.proofs.Sequences.{gives_then, gives_entered}
use Rattle.lt_type.proofs.walk.names.constant.Goals as goal

pub returns : goal.returns
returns c =
    gives_entered (λ types node. here >>= (λ known. finish node (use_of c.args.role) (judge_constant (constant_of known.model c.args.text.now))))
    c.in_ok-node.ensures.entered c.in_ok-node.ensures.node
    (gives_then (λ types judged. finish c.in_ok-node.node (use_of c.args.role) judged) c.in_ok-judged.ensures c.finish.ensures.gives)
