use Rattle.std.proofs.Common.{◌≡◌, drop, ◌++◌, List}
use Rattle.lt_lin.specs.declared.row.Row.{Row}
use Rattle.lt_elim.specs.Tracing.{bare, AreKnown}
use Rattle.lt_elim.specs.Elimination.{raising, lowering}
use Rattle.lt_elim.proofs.stage.stage_of.Given as goal

abbrev pub invariant-rows : goal.invariant-rows
invariant-rows l = record {
  raising : bare l.stage.raising.items ++ raising l.variable (drop l.place l.kept.rows) ≡ raising l.variable l.kept.rows;
  lowering : bare l.stage.lowering.items ++ lowering l.variable (drop l.place l.kept.rows) ≡ lowering l.variable l.kept.rows;
  known : (known : List Row) → AreKnown known l.kept.numbered → AreKnown known l.stage.raising.items × AreKnown known l.stage.lowering.items;
}
