use Rattle.std.proofs.Common.{ap}
use Rattle.std.proofs.Common.{◌==◌}
use Rattle.lt_declare.proofs.kinds.is_file_scope.Goals as goal

pub returns : goal.returns
returns c = λ types. ap (λ n. n == 1) (c.depth.ensures types)
