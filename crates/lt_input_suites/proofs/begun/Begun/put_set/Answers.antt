use Rattle.std.proofs.Common.{rules, true, false, [], ◌∷◌, ◌++◌, refl, sym, ap, ◌∙◌, subst}
use Rattle.std.proofs.lemmas.Int.{to_z-of_z}
use mir.Val.{SFits}
use mir.Syntax.{w128}
use Rattle.lt_model.specs.declared.input.CellSet.TheVariants as cellset
use Rattle.lt_tree.specs.Typing.Types.{scalar_of}
use Rattle.lt_entry.specs.Suites.{set_line, is_number}
use Rattle.lt_entry.specs.Views.{place_view, numeral_view}
use Rattle.lt_input_names.specs.Views.{scope_of, type_at, named_at}
use Rattle.lt_input_suites.specs.Parts.{IsPart}
use Rattle.lt_input_suites.proofs.Singles.{name_of_part}
use Rattle.lt_input_suites.proofs.Puts.{single_set, not_put, set_nothing, set_bad, set_twice, set_put, marked_at}
use Rattle.lt_input_suites.proofs.begun.Begun.put_set.Goals as goal

pub returns-in_default : goal.returns-in_default
returns-in_default c = λ lines form has.
    let scope = scope_of c.args.names.now in
    let place = place_view c.args.line.now.place in
    let value = numeral_view c.args.line.now.value in
    not_put scope lines (set_line place value) c.args.self.now c.args.self.now
    (set_nothing scope lines place value (subst (IsPart c.args.names.now place) c.in_default.is c.in_ok-part.ensures (single_set place value form)))

pub returns-then-not-is_number : goal.returns-then-not-is_number
returns-then-not-is_number c = λ lines form has.
    let scope = scope_of c.args.names.now in
    let place = place_view c.args.line.now.place in
    let value = numeral_view c.args.line.now.value in
    let part = subst (IsPart c.args.names.now place) c.in-Some.is c.in_ok-part.ensures (single_set place value form) in
    not_put scope lines (set_line place value) c.args.self.now c.args.self.now
    (set_bad scope lines c.args.self.now place value (named_at c.args.names.now c.in-Some.part) part has
    (ap (λ model. is_number model value (scalar_of (type_at c.args.names.now c.in-Some.part.ty))) (sym c.model.ensures)
    ∙ ap (is_number c.model.result value) (sym c.scalar.ensures) ∙ sym c.is_number.ensures ∙ c.if-not-is_number.true))

pub returns-then-not-branch : goal.returns-then-not-branch
returns-then-not-branch c = λ lines form has.
    let scope = scope_of c.args.names.now in
    let place = place_view c.args.line.now.place in
    let value = numeral_view c.args.line.now.value in
    let part = subst (IsPart c.args.names.now place) c.in-Some.is c.in_ok-part.ensures (single_set place value form) in
    let it = named_at c.args.names.now c.in-Some.part in
    not_put scope lines (set_line place value) c.args.self.now _
    (set_twice scope lines c.args.self.now c.mark.new.self place value it part has
    (marked_at c.in-Some.part.place place.name c.args.self.now.places c.mark.new.self c.in_ok-mark.field-0 false (name_of_part scope place it part) c.if-not-branch.true c.in_ok-mark.ensures))

pub returns : goal.returns
returns c = λ lines form has.
    let scope = scope_of c.args.names.now in
    let place = place_view c.args.line.now.place in
    let value = numeral_view c.args.line.now.value in
    let part = subst (IsPart c.args.names.now place) c.in-Some.is c.in_ok-part.ensures (single_set place value form) in
    let it = named_at c.args.names.now c.in-Some.part in
    let fits : SFits w128 c.value_of.result = search rules in
    set_put scope lines place value it c.args.self.now _ part
    (ap (λ model. is_number model value (scalar_of (type_at c.args.names.now c.in-Some.part.ty))) (sym c.model.ensures)
    ∙ ap (is_number c.model.result value) (sym c.scalar.ensures) ∙ sym c.is_number.ensures ∙ c.if-not-is_number.false)
    (marked_at c.in-Some.part.place place.name c.args.self.now.places c.mark.new.self c.in_ok-mark.field-0 true (name_of_part scope place it part) c.if-not-branch.false c.in_ok-mark.ensures)
    has refl refl refl
    (c.in_ok-push.ensures.items
    ∙ ap (λ z. c.args.self.now.cells.items ++ cellset.Number c.in-Some.part.place z ∷ []) (to_z-of_z w128 c.value_of.result fits ∙ c.value_of.ensures))
