use Rattle.std.proofs.Common.{if◌then◌else◌, sym, ap, ◌∙◌}
use Rattle.lt_tree.specs.View.{expression_of}
use Rattle.lt_tree.specs.Typing.TypeRows.{type_in}
use Rattle.lt_tree.specs.Typing.Declaring.{length_faults}
use Rattle.lt_tree.specs.Typing.InitialiserTyping.{whole_text, whole_value}
use Rattle.lt_env.specs.Going.{known_of}
use Rattle.lt_env.proofs.Goings.{as_long}
use Rattle.lt_type.proofs.Sequences.{stopped}
use Rattle.lt_type.proofs.Turns.{lacks_memory}
use Rattle.lt_unit.proofs.Lasting.{gives_here}
use Rattle.lt_unit.proofs.initialiser.whole.text_or_value.Goals as goal

pub returns-in_err-is_text : goal.returns-in_err-is_text
returns-in_err-is_text c = lacks_memory (as_long _) (stopped c.from_residual.ensures)

pub returns-then-is_text : goal.returns-then-is_text
returns-then-is_text c = gives_here (λ types h. ap (λ b. (if b then whole_text c.args.node (type_in types c.args.t) length_faults c.args.bytes.now else whole_value c.args.node c.args.is_static (type_in types c.args.t) length_faults (expression_of c.args.e.now)) (known_of types c.args.walker.now)) (sym c.if-is_text.true ∙ c.in_ok-is_text.ensures types h)) c.text.ensures

pub returns-else-is_text : goal.returns-else-is_text
returns-else-is_text c = gives_here (λ types h. ap (λ b. (if b then whole_text c.args.node (type_in types c.args.t) length_faults c.args.bytes.now else whole_value c.args.node c.args.is_static (type_in types c.args.t) length_faults (expression_of c.args.e.now)) (known_of types c.args.walker.now)) (sym c.if-is_text.false ∙ c.in_ok-is_text.ensures types h)) c.value.ensures
