use Rattle.std.proofs.Common.{◌≡◌, true, map, sym, ap, ◌∙◌, rules}
use Rattle.std.specs.List.{list_all}
use Rattle.lt_entry.specs.Naming.{named_by}
use Rattle.lt_entry.specs.SpecificationLines.{Addend}
use Rattle.lt_entry.specs.Conditions.{is_free}
use Rattle.lt_entry.specs.Views.{place_view}
use Rattle.lt_entry.specs.LineViews.{addend_view}
use Rattle.lt_input_names.specs.Views.{scope_of}
use Rattle.lt_spec_reader.proofs.Loops.{ok_map, and_goes}
use Rattle.lt_spec_reader.proofs.unfree.needs_free.Goals as goal

pub returns : goal.returns
returns c = λ rows are.
    let scope = scope_of c.args.names.now in
    let line = c.args.line.now in
    let holds : c.in_ok-is_place_free.field-0 ≡ true = search rules in
    ok_map _ _ c.are_addends_free.result
    (λ r h.
    and_goes (list_all (is_free scope rows) (named_by scope (place_view line.first.place))) (list_all (λ (addend : Addend). list_all (is_free scope rows) (named_by scope addend.term.place)) (map addend_view line.others.items)) r
    (sym (c.in_ok-is_place_free.ensures rows are) ∙ holds)
    (h ∙ ap (λ l. list_all (λ (addend : Addend). list_all (is_free scope rows) (named_by scope addend.term.place)) (map addend_view l)) c.as_slice.ensures.value))
    (c.are_addends_free.ensures rows are)
