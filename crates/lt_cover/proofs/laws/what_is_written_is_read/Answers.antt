use Rattle.lt_cover.proofs.Written.{written}
use Rattle.lt_cover.proofs.laws.what_is_written_is_read.Goals as goal

pub returns : goal.returns
returns c = written
