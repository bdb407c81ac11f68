use Rattle.std.proofs.Common.{sym, ◌∙◌, arith}
use Rattle.lt_input_names.specs.Blocks.{base_of, element_of}
use Rattle.lt_input_names.specs.Views.{types_at}
use Rattle.lt_input_names.proofs.TypeLaws.{stripped, swapped}
use Rattle.lt_input_names.proofs.names.Names.are_same.Goals as goal

pub returns-then-a-b : goal.returns-then-a-b
returns-then-a-b c =
    let types = types_at c.args.self.now in
    let a = c.args.a in
    let b = c.args.b in
    c.is_behind.ensures ∙ sym (stripped a.pointers b.pointers (base_of types a.base) (base_of types b.base) (omega arith))

pub returns : goal.returns
returns c =
    let types = types_at c.args.self.now in
    let a = c.args.a in
    let b = c.args.b in
    c.is_behind-2.ensures ∙ sym (stripped b.pointers a.pointers (base_of types b.base) (base_of types a.base) (omega arith)) ∙ swapped (element_of types b) (element_of types a)
