use Rattle.std.proofs.Common.{◌∙◌, ap, subst}
use Rattle.std.specs.Prelude.{IfSome}
use Rattle.lt_input_values.specs.Finding.{AreMaps, is_within}
use Rattle.lt_input_values.proofs.finder.Finder.bounds.Goals as goal

pub returns-in-Some : goal.returns-in-Some
returns-in-Some c = λ z.
    let it = c.args.self.now in
    let maps : AreMaps it.spec.now it.input.now c.in-Some.maps = subst (λ o. IfSome o (AreMaps it.spec.now it.input.now)) c.in-Some.is c.requires in
    ap (λ o. is_within o z) (c.copied.ensures ∙ c.get.ensures.value) ∙ maps.bounds c.args.name.now z
