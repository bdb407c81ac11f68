use Rattle.std.proofs.Common.{◌≡◌, take, true}
use Rattle.std.specs.Prelude.{map}
use Rattle.std.specs.List.{list_all}
use Rattle.lt_entry.specs.Written.{is_one}
use Rattle.lt_entry.specs.Views.{step_view}
use Rattle.lt_entry.proofs.place.is_single.Given as goal

abbrev pub invariant-loop-step : goal.invariant-loop-step
invariant-loop-step l = list_all is_one (map step_view (take l.step-index l.step-items)) ≡ true
