use Rattle.std.proofs.Common.{◌≡◌, Option, Some, None, sym, ap, ◌∙◌, subst}
use Rattle.std.specs.Borrow.{Bor}
use Rattle.std.specs.Prelude.{IfOk, option_map, unwrap_or}
use Rattle.lt_model.specs.declared.input.Want.{Want}
use Rattle.lt_entry.specs.Meaning.{any_value}
use Rattle.lt_input_specs.specs.Defaults.{want_to}
use Rattle.lt_spec_reader.specs.Said.{found_at}
use Rattle.lt_spec_reader.specs.Cells.{place_at}
use Rattle.lt_spec_reader.proofs.cells.want_of.Goals as goal

pub returns-in-None : goal.returns-in-None
returns-in-None c =
    let other = any_value c.args.model c.args.it.ty (want_to (option_map (λ b. b.now) c.args.block)) in
    let none : found_at c.args.wants.now (place_at c.args.name.now c.args.it.offset) ≡ None = sym c.found.ensures ∙ ap (option_map (λ (w : Bor Want). w.now)) c.in-None.is in
    subst (λ (o : Option Want). IfOk c.any_value.result (λ want. want ≡ unwrap_or o other)) (sym none) c.any_value.ensures

pub returns-in-Some : goal.returns-in-Some
returns-in-Some c =
    let other = any_value c.args.model c.args.it.ty (want_to (option_map (λ b. b.now) c.args.block)) in
    let some : found_at c.args.wants.now (place_at c.args.name.now c.args.it.offset) ≡ Some c.in-Some.want.now = sym c.found.ensures ∙ ap (option_map (λ (w : Bor Want). w.now)) c.in-Some.is in
    subst (λ (o : Option Want). IfOk c.copied.result (λ want. want ≡ unwrap_or o other)) (sym some) c.copied.ensures
