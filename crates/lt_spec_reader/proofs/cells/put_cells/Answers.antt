use Rattle.std.proofs.Common.{◌≤◌, length, arith}
use Rattle.std.specs.Prelude.{option_map}
use Rattle.lt_input_specs.specs.Defaults.{want_to}
use Rattle.lt_spec_reader.proofs.CellLaws.{all_free}
use Rattle.lt_spec_reader.proofs.cells.put_cells.Goals as goal

pub returns : goal.returns
returns c = λ scope lines root model name said.
    let all : length c.args.shape.now ≤ c.loop-it.it-index = omega arith in
    all_free scope lines (want_to (option_map (λ b. b.now) c.args.block)) root c.args.wants.now c.args.model c.args.name.now c.args.shape.now c.loop-it.it-index c.args.cells.now.items c.loop-it.cells.items
    model name said all c.loop-it.invariant
