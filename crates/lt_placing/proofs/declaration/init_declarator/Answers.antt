use Rattle.std.proofs.Common.{refl, length-append}
use Rattle.std.specs.Prelude.{option_map}
use Rattle.lt_tree.specs.Records.{declarator_of}
use Rattle.lt_tree.specs.UnitView.{initialiser_of}
use Rattle.lt_tree.specs.Nodes.{in_init_declarator}
use Rattle.lt_objectives.specs.Marked.{start_with_marks}
use Rattle.lt_placing.specs.Parts.{init_declarator_with_marks}
use Rattle.lt_placing.proofs.Sequences.{pair_of_parts}
use Rattle.lt_placing.proofs.declaration.init_declarator.Goals as goal

pub returns : goal.returns
returns c =
    let d = c.args.d.now in
    pair_of_parts init_declarator_with_marks in_init_declarator (λ x y. record { declarator = x; initialiser = y }) _ _ (declarator_of d.declarator) _ (option_map initialiser_of d.initialiser) _
    (λ new k. declarator_of d.declarator) (λ new k. start_with_marks new k (option_map initialiser_of d.initialiser)) _ _ refl refl (λ new k. refl) (length-append _ _)
    c.in_ok-declarator.ensures c.in_ok-initialiser.ensures
