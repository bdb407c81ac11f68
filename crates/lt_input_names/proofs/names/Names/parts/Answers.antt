use Rattle.std.proofs.Common.{◌≡◌, map, ap, ◌∙◌}
use Rattle.std.specs.Global.{Vec}
use Rattle.lt_entry.specs.Naming.{named_part, named_in, named_by, parts_at}
use Rattle.lt_entry.specs.Views.{step_view, place_view}
use Rattle.lt_input_names.specs.declared.part.Part.{Part}
use Rattle.lt_input_names.specs.Parts.{part_at, part_in}
use Rattle.lt_input_names.specs.Views.{program_at, scope_of, types_at, type_at, named_at}
use Rattle.lt_input_names.proofs.Lists.{ok_map}
use Rattle.lt_input_names.proofs.StepLaws.{named_law}
use Rattle.lt_input_names.proofs.names.Names.parts.Goals as goal

pub returns-in_ok-pieces-in-Some : goal.returns-in_ok-pieces-in-Some
returns-in_ok-pieces-in-Some c =
    let names = c.args.self.now in
    let place = c.args.place.now in
    let name = place.name.now in
    let root = c.in-Some.root in
    let pieces = c.in_ok-pieces-in-Some.pieces in
    let P : Vec Part → Type 0 = λ parts. parts.items ≡ map (part_in name pieces.ty) c.deref-in-Some.result.now in
    let Q : Vec Part → Type 0 = λ parts. map (named_at names) parts.items ≡ named_by (scope_of names) (place_view place) in
    ok_map P Q c.parts_in.result
    (λ parts e. ap (map (named_at names)) (e ∙ ap (map (part_in name pieces.ty)) c.deref-in-Some.ensures.value) ∙ named_law (types_at names) name pieces.ty pieces.offsets.items
    ∙ ap (map (named_part name)) (c.in_ok-pieces-in-Some.ensures ∙ ap (λ s. parts_at (program_at names) (map step_view s) (part_at (type_at names root.ty) 0)) c.deref.ensures.value)
    ∙ ap (named_in (program_at names) (map step_view place.steps.items)) c.in-Some.ensures)
    c.parts_in.ensures
