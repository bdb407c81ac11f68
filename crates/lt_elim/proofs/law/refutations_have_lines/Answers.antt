use Rattle.lt_elim.proofs.Laws.{refutations_have_lines}
use Rattle.lt_elim.proofs.law.refutations_have_lines.Goals as goal

pub returns : goal.returns
returns c = refutations_have_lines
