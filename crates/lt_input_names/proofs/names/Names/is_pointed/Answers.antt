use Rattle.std.proofs.Common.{sym, ap, ◌∙◌}
use Rattle.lt_tree.specs.Typing.Types.{Array}
use Rattle.lt_entry.specs.Naming.{is_pointed}
use Rattle.lt_input_names.specs.Blocks.{element_of}
use Rattle.lt_input_names.specs.Roots.{counted}
use Rattle.lt_input_names.specs.Views.{types_at}
use Rattle.lt_input_names.proofs.TypeLaws.{swapped}
use Rattle.lt_input_names.proofs.names.Names.is_pointed.Goals as goal

pub returns-in-None-count-2 : goal.returns-in-None-count-2
returns-in-None-count-2 c =
    let types = types_at c.args.self.now in
    let a = element_of types c.args.pointed.element in
    let b = element_of types c.args.ty.element in
    c.is_array-in-None-count-2.ensures ∙ swapped b (Array a c.in-Some.count) ∙ ap (λ o. is_pointed (counted a o) b) (sym c.in-Some.is) ∙ ap (λ o. is_pointed (counted a c.args.pointed.count) (counted b o)) (sym c.in-None-count-2.is)
