use Rattle.std.proofs.Common.{ap, ◌∙◌}
use Rattle.lt_tree.specs.Typing.Expressions.{own_type, finish}
use Rattle.lt_tree.specs.Typing.Operations.{judge_size}
use Rattle.lt_env.specs.Views.{typed_of, use_of}
use Rattle.lt_type.proofs.Sequences.{gives_then, gives_so}
use Rattle.lt_type.proofs.walk.ends.end_size.Goals as goal

pub returns : goal.returns
returns c =
    gives_so (λ types k. ap (λ t. finish c.args.node (use_of c.args.role) (judge_size t k) k) (c.own_type.ensures types ∙ ap (λ x. own_type (typed_of types x)) c.deref.ensures))
    (gives_then (λ types judged. finish c.args.node (use_of c.args.role) judged) c.in_ok-judged.ensures c.finish.ensures.gives)
