use Rattle.std.proofs.Common.{◌≡◌, ◌++◌, Option, map, sym, ap, ◌∙◌}
use Rattle.std.specs.Global.{Vec}
use Rattle.lt_model.specs.declared.input.Place.{Place}
use Rattle.lt_entry.specs.Naming.{named_part, if_all_pointed, parts_at, past_root}
use Rattle.lt_entry.specs.Views.{step_view}
use Rattle.lt_input_names.specs.Parts.{part_at, address_in}
use Rattle.lt_input_names.specs.Roots.{root_at}
use Rattle.lt_input_names.specs.Targets.{targets_in, end_in}
use Rattle.lt_input_names.specs.Views.{program_at, types_at, type_at}
use Rattle.lt_input_names.proofs.Lists.{ok_map}
use Rattle.lt_input_names.proofs.TargetLaws.{all_pointed}
use Rattle.lt_input_names.proofs.names.Names.targets_in.Goals as goal

pub returns : goal.returns
returns c =
    let names = c.args.self.now in
    let program = program_at names in
    let name = c.args.place.now.name.now in
    let steps = c.args.place.now.steps.items in
    let pointed = type_at names c.args.pointed in
    let root = root_at (types_at names) name c.args.root in
    let whole = part_at (type_at names c.args.root.ty) 0 in
    let pieces = c.in_ok-pieces.pieces in
    let end = end_in name c.in_ok-end.end in
    let P : Vec (Option Place) → Type 0 = λ targets. targets.items ≡ map (address_in name) c.deref-3.result.now ++ end in
    let Q : Vec (Option Place) → Type 0 = λ targets. targets.items ≡ targets_in program pointed root (map step_view steps) in
    ok_map P Q c.addresses.result
    (λ targets e. e ∙ ap (λ l. map (address_in name) l ++ end) (c.deref-3.ensures.value ∙ c.offsets_of-offsets.ensures)
    ∙ ap (λ l. l ++ end)
    (sym (all_pointed pointed (type_at names pieces.ty) name pieces.offsets.items)
    ∙ ap (λ l. if_all_pointed pointed (map (named_part name) l)) (c.in_ok-pieces.ensures ∙ ap (λ s. parts_at program (map step_view s) whole) c.deref.ensures.value))
    ∙ ap (λ l. if_all_pointed pointed (map (named_part name) (parts_at program (map step_view steps) whole)) ++ l) (sym (c.in_ok-end.ensures name) ∙ ap (λ s. past_root program pointed root (map step_view s)) c.deref-2.ensures.value))
    c.addresses.ensures
