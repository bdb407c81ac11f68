use Rattle.std.proofs.Common.{ap}
use Rattle.lt_tree.specs.View.{expression_of}
use Rattle.lt_tree.specs.Typing.Filling.{text_in}
use Rattle.lt_tree.specs.Typing.InitialiserTyping.{initialiser_without_braces}
use Rattle.lt_type.proofs.Sequences.{gives_entered, gives_so}
use Rattle.lt_unit.specs.Fillings.{filling_in}
use Rattle.lt_unit.proofs.initialiser.lists.without_braces.Goals as goal

pub returns-in-None : goal.returns-in-None
returns-in-None c =
    gives_entered (λ types node. initialiser_without_braces node c.args.is_static (filling_in types c.args.filling) (expression_of c.args.e.now) (text_in (expression_of c.args.e.now))) c.in_ok-node.ensures.entered c.in_ok-node.ensures.node
    (gives_so (λ types k. ap (λ text. initialiser_without_braces c.in_ok-node.node c.args.is_static (filling_in types c.args.filling) (expression_of c.args.e.now) text k) c.in-None.ensures) c.value.ensures)

pub returns-in-Some : goal.returns-in-Some
returns-in-Some c =
    gives_entered (λ types node. initialiser_without_braces node c.args.is_static (filling_in types c.args.filling) (expression_of c.args.e.now) (text_in (expression_of c.args.e.now))) c.in_ok-node.ensures.entered c.in_ok-node.ensures.node
    (gives_so (λ types k. ap (λ text. initialiser_without_braces c.in_ok-node.node c.args.is_static (filling_in types c.args.filling) (expression_of c.args.e.now) text k) c.in-Some.ensures) c.text_or_value.ensures)
