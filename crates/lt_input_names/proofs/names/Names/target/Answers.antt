use Rattle.std.proofs.Common.{◌<◌, sym, ◌∙◌, arith}
use Rattle.lt_input_names.specs.Views.{types_at}
use Rattle.lt_input_names.proofs.PartLaws.{pointed_type}
use Rattle.lt_input_names.proofs.names.Names.target.Goals as goal

pub returns-then-ty-gt0 : goal.returns-then-ty-gt0
returns-then-ty-gt0 c =
    let more : 0 < c.args.ty.element.pointers = omega (arith, c.if-ty-gt0.true) in
    pointed_type (types_at c.args.self.now) c.args.ty c.pointed_to.result (sym c.is_some.ensures ∙ c.if-is_some.false) more c.pointed_to.ensures
