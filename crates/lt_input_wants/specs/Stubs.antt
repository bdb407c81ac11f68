-- The ranges of functions without a body.
use Rattle.lt_model.specs.declared.input.StubRange.{StubRange}
use Rattle.lt_model.specs.declared.scalar.DataModel.{DataModel}
use Rattle.lt_model.specs.Scalar.{least_of, greatest_of}
use Rattle.lt_entry.specs.Conditions.{Stub}

-- the range of a function of which no line says anything
abbrev pub whole_range : DataModel → Stub → StubRange
whole_range model stub = record { name = stub.name; lo = least_of model stub.type; hi = greatest_of model stub.type }
