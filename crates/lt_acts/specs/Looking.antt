-- Pure expressions in a list, and marks as values.
use Rattle.std.specs.Prelude.{◌≡◌, ℕ, ℤ, List, [], ◌∷◌, ◌++◌, map, Bool, Option, Some, None}
use Rattle.std.specs.Global.{Vec}
use Rattle.lt_model.specs.declared.run.Binding.{Binding as HeldBinding}
use Rattle.lt_model.specs.declared.run.Mark.{Mark}
use Rattle.lt_model.specs.declared.scalar.DataModel.{DataModel}
use Rattle.lt_model.specs.Memory.{Memory}
use Rattle.lt_model.specs.State.{Binding, Made}
use Rattle.lt_ir.specs.declared.code.LabelInfo.{LabelInfo}
use Rattle.lt_ir.specs.declared.pure.Pure.{Pure as Held}
use Rattle.lt_ir.specs.Pure.{Pure, Pures, no_pures, a_pure, look, looked_at}
use Rattle.lt_ir.specs.PureView.{pure_of}
use Rattle.lt_ir.specs.Running.{At, Bound, Step, quietly, ◌>>=◌}
use Rattle.lt_ir.specs.Evaluation.{number_in, truth_in}
use Rattle.lt_ir.specs.Graph.{marks_label}
use Rattle.lt_acts.specs.Placing.{standing}

-- one after the other
abbrev pub pures_in : List Held → Pures
pures_in [] = no_pures
pures_in (it ∷ its) = a_pure (pure_of it) (pures_in its)

abbrev pub binding_in : HeldBinding → Binding
binding_in it = record { name = it.name; value = it.value }

abbrev pub made_of : Mark → Made
made_of mark = record { id = mark.id; truth = mark.truth; bound = map binding_in mark.bound }

abbrev pub if_all : Option (List HeldBinding) → Option (List Binding)
if_all None = None
if_all (Some bound) = Some (map binding_in bound)

abbrev pub vec_in : Option (Vec HeldBinding) → Option (List HeldBinding)
vec_in None = None
vec_in (Some bound) = Some bound.items

-- A step on this scope and this memory gives this, if it gives something.
abbrev pub Quietly : {A : Type 0} → Step A → List Bound → Memory → Option A → Type 0
Quietly step scope memory result = (at : At) → quietly step (standing scope memory at) ≡ result

abbrev pub truth_looked : DataModel → Pure → Step Bool
truth_looked model p = look model p >>= truth_in

abbrev pub number_looked : DataModel → Pure → Step ℤ
number_looked model p = look model p >>= number_in

-- What a mark binds on this scope and this memory.
abbrev pub Binds : DataModel → List (List ℕ) → List Pure → List Bound → Memory → Option (List HeldBinding) → Type 0
Binds model names ps scope memory bound =
    (at : At) → looked_at model names ps (standing scope memory at) ≡ if_all bound

-- A label makes this mark on this scope and this memory.
abbrev pub Marks : DataModel → LabelInfo → Pure → List Pure → List Bound → Memory → Mark → Type 0
Marks model label p ps scope memory mark =
    (at : At) → marks_label model (Some label) p ps (standing scope memory at)
    ≡ record (standing scope memory at) { marks = at.marks ++ made_of mark ∷ [] }
