use Rattle.std.proofs.Common.{◌≡◌, ◌≤◌, List, ◌++◌, drop, length}
use Rattle.lt_lin.specs.declared.row.Row.{Row}
use Rattle.lt_elim.specs.Tracing.{Traces}
use Rattle.lt_elim.specs.Elimination.{keep_all}
use Rattle.lt_elim.specs.Progress.{HaveContents}
use Rattle.lt_elim.proofs.system.keep_rows.Given as goal

abbrev pub invariant-rows : goal.invariant-rows
invariant-rows l = record {
  done : keep_all l.limited l.variable l.initial.kept.rows l.rows ≡ keep_all l.limited l.variable l.kept.rows (drop l.number l.rows);
  rest : HaveContents (drop l.number l.rows);
  traced : Traces l.rows l.rows l.initial.log l.initial.kept.numbered → (more : List Row) × Traces l.rows (l.rows ++ more) l.log l.kept.numbered;
  within : l.number ≤ length l.rows;
}
