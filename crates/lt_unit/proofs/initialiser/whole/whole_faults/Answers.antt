use Rattle.std.proofs.Common.{[], ◌∷◌, ◌++◌, if◌then◌else◌, ap, ◌∙◌}
use Rattle.lt_tree.specs.Typing.TypeRows.{type_in}
use Rattle.lt_tree.specs.Typing.Rules.{bad_initialiser}
use Rattle.lt_tree.specs.Typing.Declaring.{length_faults}
use Rattle.lt_tree.specs.Typing.Filling.{value_faults}
use Rattle.lt_env.specs.Views.{typed_of}
use Rattle.lt_env.proofs.Judgements.{stays_on}
use Rattle.lt_unit.proofs.initialiser.whole.whole_faults.Goals as goal

pub returns-clause-made : goal.returns-clause-made
returns-clause-made c = λ longer h known k.
    c.in_ok-append.ensures
    ∙ ap (λ l. l ++ c.in_ok-too_large.too_large) (c.in_ok-faults.ensures.made longer h known k)
    ∙ ap (λ l. (if c.in_ok-is_array.is_array then bad_initialiser ∷ [] else value_faults known c.args.is_static (type_in longer c.args.t) (typed_of longer c.args.x.now)) ++ l) (stays_on c.shape_faults.ensures.widens c.in_ok-too_large.ensures longer h known k)
    ∙ ap (λ b. (if b then bad_initialiser ∷ [] else value_faults known c.args.is_static (type_in longer c.args.t) (typed_of longer c.args.x.now)) ++ length_faults known (type_in longer c.args.t)) (stays_on c.shape_faults.ensures.widens c.in_ok-is_array.ensures longer h)
