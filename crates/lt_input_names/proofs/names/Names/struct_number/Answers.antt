use Rattle.std.proofs.Common.{◌<◌, arith}
use Rattle.lt_input_names.specs.Blocks.{base_of}
use Rattle.lt_input_names.specs.Views.{types_at}
use Rattle.lt_input_names.proofs.PartLaws.{no_struct}
use Rattle.lt_input_names.proofs.names.Names.struct_number.Goals as goal

pub returns-then-ty-gt0 : goal.returns-then-ty-gt0
returns-then-ty-gt0 c =
    let more : 0 < c.args.ty.element.pointers = omega (arith, c.if-ty-gt0.true) in
    no_struct (base_of (types_at c.args.self.now) c.args.ty.element.base) c.args.ty.element.pointers c.args.ty.count more
