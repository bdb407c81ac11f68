use Rattle.std.proofs.Common.{map, ap, ◌∙◌}
use Rattle.std.specs.List.{list_all}
use Rattle.lt_entry.specs.Conditions.{is_free}
use Rattle.lt_input_names.specs.Views.{scope_of, named_at}
use Rattle.lt_spec_reader.proofs.unfree.is_place_free.Goals as goal

pub returns : goal.returns
returns c = λ rows are.
    let names = c.args.names.now in
    c.are_free.ensures names rows are ∙ ap (λ l. list_all (is_free (scope_of names) rows) (map (named_at names) l)) c.as_slice.ensures.value ∙ ap (list_all (is_free (scope_of names) rows)) c.in_ok-parts.ensures
