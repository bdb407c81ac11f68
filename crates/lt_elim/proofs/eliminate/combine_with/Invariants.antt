use Rattle.std.proofs.Common.{◌≡◌, drop, ◌∷◌, None}
use Rattle.lt_elim.specs.Elimination.{combine_with}
use Rattle.lt_elim.specs.Summing.{CombineWith}
use Rattle.lt_elim.specs.Tracing.{bare, TracedOn}
use Rattle.lt_elim.proofs.eliminate.combine_with.Given as goal

abbrev pub invariant-lowering : goal.invariant-lowering
invariant-lowering l = record {
  done : combine_with l.limited l.variable l.raising.row l.initial.kept.rows (bare l.fn.lowering) ≡ combine_with l.limited l.variable l.raising.row l.kept.rows (bare (drop l.row-index l.fn.lowering));
  rest : CombineWith l.limited l.variable l.raising.row (bare (drop l.row-index l.fn.lowering));
  traced : TracedOn l.initial.log l.initial.kept.numbered (l.raising ∷ l.fn.lowering) None l.log l.kept.numbered;
}
