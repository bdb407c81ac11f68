use Rattle.std.proofs.Common.{◌≡◌, true, false, sym, ap, ◌∙◌, rules}
use Rattle.std.specs.Prelude.{is_some, is_none}
use Rattle.lt_tree.specs.Typing.Types.{is_integer}
use Rattle.lt_entry.specs.Naming.{Named}
use Rattle.lt_input_names.specs.Views.{type_at, named_at}
use Rattle.lt_spec_reader.proofs.Bools.{none_is, some_there}
use Rattle.lt_spec_reader.proofs.Loops.{all_more, each_stops}
use Rattle.lt_spec_reader.proofs.TypeLaws.{integer_is}
use Rattle.lt_spec_reader.proofs.requirements.are_integers.Goals as goal

pub returns-then-is_none : goal.returns-then-is_none
returns-then-is_none c =
    let none : is_none c.scalar.result ≡ true = search rules in
    sym (each_stops (λ (it : Named). is_integer it.type) (named_at c.args.names.now) c.args.parts.now c.loop-part.part-index c.part-item.result c.loop-part-test.true c.part-item.is
    (integer_is (type_at c.args.names.now c.part-item.result.ty) ∙ ap is_some (sym c.scalar.ensures) ∙ none_is c.scalar.result none))

pub loop-part-preserved : goal.loop-part-preserved
loop-part-preserved c =
    let some : is_none c.scalar.result ≡ false = search rules in
    all_more (λ (it : Named). is_integer it.type) (named_at c.args.names.now) c.args.parts.now c.loop-part.part-index c.part-item.result c.loop-part-test.true c.part-item.is c.loop-part.invariant
    (integer_is (type_at c.args.names.now c.part-item.result.ty) ∙ ap is_some (sym c.scalar.ensures) ∙ some_there c.scalar.result some)
