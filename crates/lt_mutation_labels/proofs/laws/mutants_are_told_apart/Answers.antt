use Rattle.lt_mutation_labels.proofs.Absolutes.{all_told_apart}
use Rattle.lt_mutation_labels.proofs.laws.mutants_are_told_apart.Goals as goal

pub returns : goal.returns
returns c = all_told_apart c.differences_are_exact.ensures c.labels_note_their_predicates.ensures
