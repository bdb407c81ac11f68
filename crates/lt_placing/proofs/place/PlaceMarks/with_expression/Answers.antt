use Rattle.std.proofs.Common.{◌<◌, length, arith}
use Rattle.std.proofs.lemmas.Bool.Decides.{nat_tests}
use Rattle.lt_placing.proofs.Taking.{with_labels}
use Rattle.lt_placing.proofs.place.PlaceMarks.with_expression.Goals as goal

pub returns : goal.returns
returns c =
    let some : 0 < length c.args.self.labels.items = grind (arith, nat_tests, c.if-is_empty.ensures, c.args.self.labels.ok.0) in
    with_labels c.marked.result c.args.self.labels.items _ _ some c.in_ok-e.ensures c.marked.ensures
