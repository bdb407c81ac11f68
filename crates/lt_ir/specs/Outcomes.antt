-- A run as its callers see it: the marks with what they bound, the end, and the ticks that it spent; and how far its
-- input went.
use Rattle.std.specs.Prelude.{ℕ, ◌-◌, List, map}
use Rattle.lt_model.specs.declared.run.Binding.{Binding as BindingOf}
use Rattle.lt_model.specs.declared.run.Mark.{Mark}
use Rattle.lt_model.specs.declared.run.Run.{Run}
use Rattle.lt_model.specs.declared.input.StubSet.{StubSet}
use Rattle.lt_model.specs.State.{Binding, Made}
use Rattle.lt_ir.specs.Running.{Over}

abbrev pub binding_of : Binding → BindingOf
binding_of it = record { name = it.name; value = it.value }

abbrev pub mark_of : Made → Mark
mark_of it = record { id = it.id; truth = it.truth; bound = map binding_of it.bound }

-- the run of so many ticks that is over so
abbrev pub run_of : (ticks : ℕ) → Over → Run
run_of ticks over = record { marks = map mark_of over.at.marks; end = over.end; ticks = ticks - over.at.ticks }

-- what is left of the values that the input has for functions without a body
abbrev pub stubs_left : Over → List StubSet
stubs_left over = map (λ left. record { name = left.stub; values = left.values }) over.at.stubs
