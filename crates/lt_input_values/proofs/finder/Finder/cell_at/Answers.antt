use Rattle.std.proofs.Common.{◌==◌, ◌∙◌, ap, subst}
use Rattle.std.specs.Prelude.{◌&&◌, IfSome, option_map}
use Rattle.std.specs.Borrow.{Bor}
use Rattle.std.specs.HashMap.{get_by}
use Rattle.std.specs.Str.{bytes_eq}
use Rattle.lt_model.specs.declared.input.FreeCell.{FreeCell}
use Rattle.lt_input_values.specs.Maps.{Key}
use Rattle.lt_input_values.specs.Finding.{AreMaps}
use Rattle.lt_input_values.proofs.finder.Finder.cell_at.Goals as goal

pub returns-in-Some : goal.returns-in-Some
returns-in-Some c =
    let it = c.args.self.now in
    let maps : AreMaps it.spec.now it.input.now c.in-Some.maps = subst (λ o. IfSome o (AreMaps it.spec.now it.input.now)) c.in-Some.is c.requires in
    ap (option_map (λ (found : Bor FreeCell). found.now))
    (c.copied.ensures ∙ c.get.ensures.value
    ∙ ap (λ bytes. get_by (λ (key : Key). bytes_eq bytes key.0.now && (c.args.place.now.offset == key.1)) c.in-Some.maps.cells) c.as_slice.ensures)
    ∙ maps.cells c.args.place.now
