use Rattle.lt_code.proofs.AgreePure.{truth_of_pure, number_of_pure}
use Rattle.lt_code.proofs.laws.predicates_agree.Goals as goal

pub returns : goal.returns
returns c = λ n. (truth_of_pure n, number_of_pure n)
