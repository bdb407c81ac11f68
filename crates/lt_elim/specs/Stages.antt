-- Variables that are eliminated in turn, and what a verdict on the rows that are left says of all rows.
use Rattle.std.specs.Prelude.{◌≡◌, ℕ, zero, suc, ◌-◌, Bool, List, [], ◌∷◌, length}
use Rattle.lt_lin.specs.declared.row.Row.{Row}
use Rattle.lt_elim.specs.declared.stage.Stage.{Stage}
use Rattle.lt_elim.specs.Elimination.{keeps, keep_all, eliminated, raising, lowering}
use Rattle.lt_elim.specs.Decision.{Verdict, stops, point, least_allowed, with_value, variables}
use Rattle.lt_elim.specs.Progress.{AllInOrder}
use Rattle.lt_elim.specs.Summing.{CombineAll}
use Rattle.lt_elim.specs.Tracing.{bare}

-- The variables below n can be eliminated: rows are in order, and where there is no limit no combination is too great.
abbrev pub CanEliminate : Bool → ℕ → List Row → Type 0
CanEliminate limited zero rows = Unit {0}
CanEliminate limited (suc v) rows =
    AllInOrder rows × CombineAll limited v (raising v rows) (lowering v rows)
    × ((next : List Row) → eliminated limited v rows ≡ keeps next → CanEliminate limited v next)

-- the verdict with a value for v, by the bounds that the stage's rows set
abbrev pub staged : Bool → ℕ → Stage → Verdict → Verdict
staged limited v stage (stops event) = stops event
staged limited v stage (point values) = with_value v values (least_allowed limited v values (bare stage.raising.items) (bare stage.lowering.items))

-- the verdict with values for the variables of the stages, the first of which is that of the last variable below n
abbrev pub under : Bool → ℕ → List Stage → Verdict → Verdict
under limited n [] verdict = verdict
under limited zero (s ∷ ss) verdict = verdict
under limited (suc v) (s ∷ ss) verdict = staged limited v s (under limited v ss verdict)

-- They are stages of the variables below n, from the last on, and no event came.
abbrev pub AreStages : Bool → ℕ → List Row → List Stage → Type 0
AreStages limited n rows [] = Unit {0}
AreStages limited zero rows (s ∷ ss) = ⊥
AreStages limited (suc v) rows (s ∷ ss) =
    ((bare s.raising.items) ≡ raising v rows) × ((bare s.lowering.items) ≡ lowering v rows)
    × ((next : List Row) × (eliminated limited v rows ≡ keeps next) × AreStages limited v next ss)

-- the stages of all variables of a system
pub record AreStagesOf (limited : Bool) (rows : List Row) (ss : List Stage) : Type 0 where
  pub kept : List Row
  pub first : keep_all limited (variables rows - 1) [] rows ≡ keeps kept
  pub count : length ss ≡ variables rows
  pub stages : AreStages limited (variables rows) kept ss
