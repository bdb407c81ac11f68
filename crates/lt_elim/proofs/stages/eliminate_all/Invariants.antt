use Rattle.std.proofs.Common.{◌≡◌, length, ◌+◌, List, [], ◌++◌, None}
use Rattle.lt_elim.specs.declared.stage.Stage.{Stage}
use Rattle.lt_elim.specs.Decision.{decided}
use Rattle.lt_elim.specs.Stages.{CanEliminate, AreStages, under}
use Rattle.lt_elim.specs.Tracing.{TracedOn}
use Rattle.lt_elim.proofs.stages.eliminate_all.Given as goal

abbrev pub invariant-variables : goal.invariant-variables
invariant-variables l = record {
  decided : decided l.limited l.variables l.fn.kept.rows ≡ under l.limited l.variables l.stages.items (decided l.limited l.variable l.kept.rows);
  left : length l.stages.items + l.variable ≡ l.variables;
  can : CanEliminate l.limited l.variable l.kept.rows;
  stages : (rest : List Stage) → AreStages l.limited l.variable l.kept.rows rest → AreStages l.limited l.variables l.fn.kept.rows (l.stages.items ++ rest);
  traced : TracedOn l.fn.log l.fn.kept.numbered [] None l.log l.kept.numbered;
}
