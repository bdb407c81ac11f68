-- How a run is over that comes to a fault.
use Rattle.lt_model.specs.declared.run.End.{End}
use Rattle.lt_model.specs.declared.run.End.TheVariants as end
use Rattle.lt_mem.specs.declared.stop.MemStop.{MemStop}
use Rattle.lt_mem.specs.declared.stop.MemStop.TheVariants as mem
use Rattle.lt_acts.specs.declared.flow.Fault.{Fault}
use Rattle.lt_acts.specs.declared.flow.Fault.TheVariants.{Absurd, Undefined, Cells}
use Rattle.lt_acts.specs.declared.flow.Stop.{Stop}
use Rattle.lt_acts.specs.declared.flow.Stop.TheVariants.{Over, NoMemory}

abbrev pub end_of : Fault → End
end_of Absurd = end.Stopped
end_of (Undefined kind) = end.Undefined kind
end_of Cells = end.Cells

-- where an object can't be made
abbrev pub stop_of : MemStop → Stop
stop_of mem.Cells = Over Cells
stop_of mem.NoMemory = NoMemory
