use Rattle.std.proofs.Common.{◌≡◌, true, false, cond, None, Some, sym, ap, ◌∙◌, refl}
use Rattle.std.specs.Prelude.{◌||◌, is_some, option_map}
use Rattle.lt_meaning.specs.Runs.{stops, function_among}
use Rattle.lt_tree.specs.Typing.EntityView.{declared_of}
use Rattle.lt_tree.specs.Typing.ProgramView.{program_of}
use Rattle.lt_entry.specs.Conditions as conditions
use Rattle.lt_entry.specs.Conditions.{integer_result}
use Rattle.lt_input_names.specs.Blocks.{program_types}
use Rattle.lt_input_names.specs.Stubs.{has_name}
use Rattle.lt_input_names.proofs.NameSets.{among_any, stub_law}
use Rattle.lt_input_names.proofs.stubs.stub_of.Goals as goal

pub returns-then-is_none : goal.returns-then-is_none
returns-then-is_none c =
    let program = c.args.kinds.now.program.now in
    let name = c.args.it.now.name in
    let body : c.has_name.result ≡ is_some (function_among name (program_of program).functions) =
    c.has_name.ensures ∙ ap (has_name c.args.bodies.now) c.as_slice-name.ensures ∙ c.requires.names name ∙ sym (among_any (program_types program) name program.functions.items) in
    let stop : c.stops.result ≡ stops name = c.stops.ensures ∙ ap stops c.as_slice-name.ensures in
    let is : (c.has_name.result || c.stops.result) ≡ true = c.if-is_none.true in
    let f = declared_of (program_types program) c.args.it.now in
    sym
    (stub_law (program_of program) f c.has_name.result c.stops.result (integer_result f.type) body stop refl
    ∙ ap (λ t. cond t None (option_map (λ s. let stub : conditions.Stub = record { name = f.name; type = s } in stub) (integer_result f.type))) is)

pub returns-in-Some : goal.returns-in-Some
returns-in-Some c =
    let program = c.args.kinds.now.program.now in
    let name = c.args.it.now.name in
    let body : c.has_name.result ≡ is_some (function_among name (program_of program).functions) =
    c.has_name.ensures ∙ ap (has_name c.args.bodies.now) c.as_slice-name.ensures ∙ c.requires.names name ∙ sym (among_any (program_types program) name program.functions.items) in
    let stop : c.stops.result ≡ stops name = c.stops.ensures ∙ ap stops c.as_slice-name.ensures in
    let is : (c.has_name.result || c.stops.result) ≡ false = c.if-is_none.false in
    let f = declared_of (program_types program) c.args.it.now in
    ap (λ n. let stub : conditions.Stub = record { name = n; type = c.in-Some.ty } in Some stub) c.as_slice-name.ensures
    ∙ sym
    (stub_law (program_of program) f c.has_name.result c.stops.result (Some c.in-Some.ty) body stop (sym c.in-Some.is ∙ c.integer_result.ensures)
    ∙ ap (λ t. cond t None (Some (let stub : conditions.Stub = record { name = f.name; type = c.in-Some.ty } in stub))) is)
