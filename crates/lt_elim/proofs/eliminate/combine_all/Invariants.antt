use Rattle.std.proofs.Common.{◌≡◌, drop, ◌++◌, None}
use Rattle.lt_elim.specs.Elimination.{combine_all}
use Rattle.lt_elim.specs.Summing.{CombineAll}
use Rattle.lt_elim.specs.Tracing.{bare, TracedOn}
use Rattle.lt_elim.proofs.eliminate.combine_all.Given as goal

abbrev pub invariant-raising : goal.invariant-raising
invariant-raising l = record {
  done : combine_all l.limited l.variable l.initial.kept.rows (bare l.fn.raising) (bare l.lowering) ≡ combine_all l.limited l.variable l.kept.rows (bare (drop l.row-index l.fn.raising)) (bare l.lowering);
  rest : CombineAll l.limited l.variable (bare (drop l.row-index l.fn.raising)) (bare l.lowering);
  traced : TracedOn l.initial.log l.initial.kept.numbered (l.fn.raising ++ l.lowering) None l.log l.kept.numbered;
}
