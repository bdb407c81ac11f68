use Rattle.std.proofs.Common.{◌≡◌, ◌==◌, false, true, sym, ap, ◌∙◌}
use Rattle.std.specs.Prelude.{◌&&◌}
use Rattle.std.proofs.lemmas.Bool.{eq-eqb, ne_eqb}
use Rattle.lt_tree.specs.Typing.TypeRows.{type_in}
use Rattle.lt_entry.specs.Naming.{is_pointed}
use Rattle.lt_input_names.specs.Blocks.{element_of}
use Rattle.lt_input_names.specs.Views.{types_at}
use Rattle.lt_input_names.proofs.TypeLaws.{array_law, is_array_of}
use Rattle.lt_input_names.proofs.names.Names.is_array.Goals as goal

pub returns-in-None : goal.returns-in-None
returns-in-None c =
    let types = types_at c.args.self.now in
    let e = element_of types c.args.element in
    ap (λ o. is_array_of o e c.args.count) c.in-None.ensures ∙ sym (array_law (element_of types c.args.ty) e c.args.count)

pub returns-then-array-count : goal.returns-then-array-count
returns-then-array-count c =
    let types = types_at c.args.self.now in
    let e = element_of types c.args.element in
    let array = c.in-Some.array in
    let same : (array.count == c.args.count) ≡ true = eq-eqb array.count c.args.count c.if-array-count.true in
    c.are_same.ensures ∙ ap (λ r. is_pointed (element_of types r) e) c.row_element.ensures ∙ ap (λ b. b && is_pointed (type_in types array.ty) e) (sym same) ∙ ap (λ o. is_array_of o e c.args.count) c.in-Some.ensures
    ∙ sym (array_law (element_of types c.args.ty) e c.args.count)

pub returns-else-array-count : goal.returns-else-array-count
returns-else-array-count c =
    let types = types_at c.args.self.now in
    let e = element_of types c.args.element in
    let array = c.in-Some.array in
    let other : (array.count == c.args.count) ≡ false = ne_eqb array.count c.args.count c.if-array-count.false in
    other ∙ ap (λ b. b && is_pointed (type_in types array.ty) e) (sym other) ∙ ap (λ o. is_array_of o e c.args.count) c.in-Some.ensures ∙ sym (array_law (element_of types c.args.ty) e c.args.count)
