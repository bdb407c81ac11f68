use Rattle.std.proofs.Common.{◌≡◌, ◌∙◌, ap, sym, subst, map, not, is_some, List}
use Rattle.lt_tree.specs.declared.typed.types.TypeRow.{TypeRow}
use Rattle.lt_tree.specs.Typing.Types.{Void}
use Rattle.lt_tree.specs.Typing.TypeRows.{types_of_rows}
use Rattle.lt_tree.specs.Typing.ProgramView.{program_of}
use Rattle.lt_tables.specs.Lookups.{AreFactsOf, function_number, name_among, place_in}
use Rattle.lt_tables.specs.Objects.{number_of}
use Rattle.lt_tables.specs.TypeNumbers.{AreAllFacts, number_among, types_named}
use Rattle.lt_tables.proofs.FactRows.{have_facts, numbers_length}
use Rattle.lt_tables.proofs.ObjectNumbers.{numbers_same}
use Rattle.lt_tables.proofs.TablePlaces.{label_found, function_found, stubs_are}
use Rattle.lt_tables.proofs.tables.Tables.new.Goals as goal

pub facts_of_rows-requires : goal.facts_of_rows-requires
facts_of_rows-requires c =
    numbers_length c.deref.result.now c.deref-3.result.now c.deref-4.result.now (number_among (types_named c.deref.result.now c.deref-2.result.now)) (c.deref-4.ensures.value ∙ c.in_ok-numbers.ensures.rows)
    (c.deref.ensures.value ∙ sym c.deref-3.ensures.value)

pub invariant_of-result : goal.invariant_of-result
invariant_of-result c =
    let program = program_of c.args.program.now in
    let rows = c.args.program.now.table.items in
    let types = types_of_rows rows in
    let named : types_named c.deref.result.now c.deref-2.result.now ≡ program.types =
    ap (λ r. types_named r c.deref-2.result.now) c.deref.ensures.value ∙ ap (types_named rows) c.deref-2.ensures.value in
    let none : AreFactsOf program Void c.facts_of_void-other.result = c.facts_of_void-other.ensures program (c.in_ok-numbers.ensures.void ∙ ap (λ ts. number_among ts Void) named) in
    let same : c.deref-4.result.now ≡ map (number_among program.types) (types_of_rows c.deref-3.result.now) =
    c.deref-4.ensures.value ∙ c.in_ok-numbers.ensures.rows ∙ ap (λ ts. map (number_among ts) (types_of_rows c.deref.result.now)) named
    ∙ ap (λ r. map (number_among program.types) (types_of_rows r)) (c.deref.ensures.value ∙ sym c.deref-3.ensures.value) in
    let P : List TypeRow → Type 0 = λ r. AreAllFacts program (types_of_rows r) c.in_ok-types.types.items in
    let all : AreAllFacts program types c.in_ok-types.types.items = subst P c.deref-3.ensures.value (c.in_ok-types.ensures program same none) in
    record {
      types_hold = have_facts program types c.in_ok-types.types.items c.facts_of_void-other.result all none;
      labels_hold = λ id.
          label_found c.deref-5.result.now c.args.program.now.labels.items c.deref-6.result.now c.in_ok-ids.ids.items id _ (c.in_ok-labels.ensures id) c.deref-6.ensures.value c.in_ok-ids.ensures c.deref-5.ensures.value;
      functions_hold = λ name.
          function_found types c.deref-7.result.now c.args.program.now.functions.items c.deref-8.result.now c.in_ok-names.names.items name _ (c.in_ok-functions.ensures name) c.deref-8.ensures.value c.in_ok-names.ensures
          c.deref-7.ensures.value;
      stubs_hold = λ name. c.in_ok-stub_places.ensures name ∙ ap (name_among 0 name) c.deref-10.ensures.value;
      statics_hold = λ n. c.in_ok-statics.ensures n ∙ ap (λ l. number_of l n) c.deref-11.ensures.value ∙ sym (numbers_same types c.args.program.now.objects.items n);
      layouts_hold = c.in_ok-layouts.ensures;
    }

pub returns-clause-stubs : goal.returns-clause-stubs
returns-clause-stubs c =
    let program = program_of c.args.program.now in
    let types = types_of_rows c.args.program.now.table.items in
    stubs_are types (λ name. not (is_some (place_in c.in_ok-functions.functions name))) (λ name. not (is_some (function_number program name)))
    (λ name.
    ap (λ o. not (is_some o))
    (function_found types c.deref-7.result.now c.args.program.now.functions.items c.deref-8.result.now c.in_ok-names.names.items name _ (c.in_ok-functions.ensures name) c.deref-8.ensures.value c.in_ok-names.ensures
    c.deref-7.ensures.value))
    c.deref-9.result.now c.args.program.now.declared.items c.in_ok-stubs.stubs.items c.in_ok-stubs.ensures c.deref-9.ensures.value
