use Rattle.std.proofs.Common.{sym, ap, ◌∙◌}
use Rattle.lt_tree.specs.Typing.Types.{Void, Num, Struct, Floating, scalar_of, struct_of}
use Rattle.lt_entry.specs.Naming.{is_pointed}
use Rattle.lt_input_names.specs.Blocks.{base_of}
use Rattle.lt_input_names.specs.Parts.{has_scalar, has_number}
use Rattle.lt_input_names.specs.Views.{types_at, type_at}
use Rattle.lt_input_names.proofs.TypeLaws.{swapped, scalar_law, struct_law, void_law, floating_law}
use Rattle.lt_input_names.proofs.names.Names.is_base.Goals as goal

pub returns-in-Num : goal.returns-in-Num
returns-in-Num c =
    let base = base_of (types_at c.args.self.now) c.args.base in
    c.has_scalar.ensures ∙ ap (has_scalar c.in-Num.scalar) (c.scalar.ensures ∙ ap (λ t. scalar_of (type_at c.args.self.now t)) c.base_part.ensures) ∙ sym (scalar_law base c.in-Num.scalar) ∙ swapped base (Num c.in-Num.scalar)
    ∙ ap (λ it. is_pointed (base_of (types_at c.args.self.now) it) base) (sym c.in-Num.is)

pub returns-in-Void : goal.returns-in-Void
returns-in-Void c =
    let base = base_of (types_at c.args.self.now) c.args.base in
    c.is_void.ensures ∙ sym (void_law base) ∙ swapped base Void ∙ ap (λ it. is_pointed (base_of (types_at c.args.self.now) it) base) (sym c.in-Void.is)

pub returns-in-Floating : goal.returns-in-Floating
returns-in-Floating c =
    let base = base_of (types_at c.args.self.now) c.args.base in
    c.is_floating.ensures ∙ sym (floating_law base) ∙ swapped base Floating ∙ ap (λ it. is_pointed (base_of (types_at c.args.self.now) it) base) (sym c.in-Floating.is)

pub returns-in-Struct : goal.returns-in-Struct
returns-in-Struct c =
    let base = base_of (types_at c.args.self.now) c.args.base in
    c.has_number.ensures ∙ ap (has_number c.in-Struct.number) (c.struct_number.ensures ∙ ap (λ t. struct_of (type_at c.args.self.now t)) c.base_part-in-Struct.ensures) ∙ sym (struct_law base c.in-Struct.number) ∙ swapped base (Struct c.in-Struct.number)
    ∙ ap (λ it. is_pointed (base_of (types_at c.args.self.now) it) base) (sym c.in-Struct.is)
