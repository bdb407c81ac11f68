use Rattle.std.proofs.Common.{ap, ◌∙◌}
use Rattle.lt_tree.specs.Typing.Operations.{text_type}
use Rattle.lt_tree.specs.Typing.EntityView.{life_of}
use Rattle.lt_tree.specs.Typing.NodeEnds.{text_object}
use Rattle.lt_type.specs.Ends.{letters_of}
use Rattle.lt_type.proofs.Sequences.{gives_made}
use Rattle.lt_type.proofs.walk.names.object_of_text.Goals as goal

pub returns : goal.returns
returns c =
    gives_made (λ types known. text_object c.args.node known c.args.bytes.now) c.in_ok-ty.ensures.widens
    (λ types h.
    c.in_ok-object.ensures types
    ∙ ap (λ t. letters_of c.args.node t (life_of c.life_of_text-life.result) c.args.bytes.now) (c.in_ok-ty.ensures.made types h)
    ∙ ap (λ l. letters_of c.args.node (text_type c.args.bytes.now) l c.args.bytes.now) c.life_of_text-life.ensures)
