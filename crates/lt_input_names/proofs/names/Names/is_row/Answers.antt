use Rattle.std.proofs.Common.{sym, ap, ◌∙◌}
use Rattle.lt_tree.specs.Typing.TypeRows.{type_in}
use Rattle.lt_entry.specs.Naming.{is_pointed}
use Rattle.lt_input_names.specs.Blocks.{base_of}
use Rattle.lt_input_names.specs.Parts.{has_scalar, has_number}
use Rattle.lt_input_names.specs.Views.{types_at}
use Rattle.lt_input_names.proofs.TypeLaws.{scalar_law, struct_law, void_law, floating_law}
use Rattle.lt_input_names.proofs.names.Names.is_row.Goals as goal

pub returns-in-Num : goal.returns-in-Num
returns-in-Num c =
    let types = types_at c.args.self.now in
    let t = type_in types c.args.t in
    c.has_scalar.ensures ∙ ap (has_scalar c.in-Num.scalar) c.scalar.ensures ∙ sym (scalar_law t c.in-Num.scalar) ∙ ap (λ base. is_pointed t (base_of types base)) (sym c.in-Num.is)

pub returns-in-Void : goal.returns-in-Void
returns-in-Void c =
    let types = types_at c.args.self.now in
    let t = type_in types c.args.t in
    c.is_void.ensures ∙ sym (void_law t) ∙ ap (λ base. is_pointed t (base_of types base)) (sym c.in-Void.is)

pub returns-in-Floating : goal.returns-in-Floating
returns-in-Floating c =
    let types = types_at c.args.self.now in
    let t = type_in types c.args.t in
    c.is_floating.ensures ∙ sym (floating_law t) ∙ ap (λ base. is_pointed t (base_of types base)) (sym c.in-Floating.is)

pub returns-in-Struct : goal.returns-in-Struct
returns-in-Struct c =
    let types = types_at c.args.self.now in
    let t = type_in types c.args.t in
    c.has_number.ensures ∙ ap (has_number c.in-Struct.number) c.struct_number.ensures ∙ sym (struct_law t c.in-Struct.number) ∙ ap (λ base. is_pointed t (base_of types base)) (sym c.in-Struct.is)
