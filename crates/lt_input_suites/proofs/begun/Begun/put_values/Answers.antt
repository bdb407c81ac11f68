use Rattle.std.proofs.Common.{true, false, [], ◌∷◌, ◌++◌, map, refl, sym, ap, ◌∙◌}
use Rattle.std.specs.Prelude.{not}
use Rattle.lt_entry.specs.Suites.{values_line}
use Rattle.lt_entry.specs.Views.{numeral_view}
use Rattle.lt_input_names.specs.Views.{scope_of}
use Rattle.lt_input_suites.proofs.Sets.{has_name_more}
use Rattle.lt_input_suites.proofs.Puts.{not_put, numbers_fit, values_none, values_bad, values_twice, values_well, values_put, values_said}
use Rattle.lt_input_suites.proofs.begun.Begun.put_values.Goals as goal

pub returns-then-is_none : goal.returns-then-is_none
returns-then-is_none c = λ lines form has.
    let scope = scope_of c.args.names.now in
    let stub = c.args.line.now.stub.now in
    let values = map numeral_view c.args.line.now.values.items in
    not_put scope lines (values_line stub values) c.args.self.now c.args.self.now
    (values_none scope lines c.args.self.now stub values c.stub-scalar.result c.stub-scalar.ensures has (c.is_none.ensures ∙ ap not c.if-is_none.true))

pub returns-then-not-are_numbers : goal.returns-then-not-are_numbers
returns-then-not-are_numbers c = λ lines form has.
    let scope = scope_of c.args.names.now in
    let stub = c.args.line.now.stub.now in
    let values = map numeral_view c.args.line.now.values.items in
    not_put scope lines (values_line stub values) c.args.self.now c.args.self.now
    (values_bad scope lines c.args.self.now stub values c.stub-scalar.result c.stub-scalar.ensures has
    (numbers_fit numeral_view c.deref.result.now c.args.line.now.values.items c.model.result scope.program.model c.stub-scalar.result c.are_numbers.result false
    c.model.ensures c.deref.ensures.value c.are_numbers.ensures c.if-not-are_numbers.true))

pub returns-then-not-branch : goal.returns-then-not-branch
returns-then-not-branch c = λ lines form has.
    let scope = scope_of c.args.names.now in
    let stub = c.args.line.now.stub.now in
    let values = map numeral_view c.args.line.now.values.items in
    not_put scope lines (values_line stub values) c.args.self.now _
    (values_twice scope lines c.args.self.now stub values c.stub-scalar.result c.stub-scalar.ensures has (sym c.in_ok-insert.ensures.added ∙ c.if-not-branch.true))

pub returns : goal.returns
returns c = λ lines form has.
    let scope = scope_of c.args.names.now in
    let stub = c.args.line.now.stub.now in
    let values = map numeral_view c.args.line.now.values.items in
    values_put scope lines stub values c.args.self.now _
    (values_well scope lines c.args.self.now stub values c.stub-scalar.result c.stub-scalar.ensures has
    (numbers_fit numeral_view c.deref.result.now c.args.line.now.values.items c.model.result scope.program.model c.stub-scalar.result c.are_numbers.result true
    c.model.ensures c.deref.ensures.value c.are_numbers.ensures c.if-not-are_numbers.false)
    (c.is_none.ensures ∙ ap not c.if-is_none.false)
    (sym c.in_ok-insert.ensures.added ∙ c.if-not-branch.false))
    has
    (has_name_more c.args.self.now.functions c.insert.new.self c.args.line.now.stub c.in_ok-insert.ensures.updates.0)
    refl refl refl
    (c.in_ok-push.ensures.items
    ∙ ap (λ set. c.args.self.now.stubs.items ++ set ∷ [])
    (values_said numeral_view c.in_ok-new.field-0 stub c.new-2.result c.in_ok-values_of.field-0.items c.deref-2.result.now c.args.line.now.values.items c.in_ok-new.ensures c.new-2.ensures c.in_ok-values_of.ensures c.deref-2.ensures.value))
