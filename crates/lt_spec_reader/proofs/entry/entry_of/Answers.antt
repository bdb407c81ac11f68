use Rattle.std.proofs.Common.{◌≡◌, List, ℕ, Some, map, Bor, sym, ap, ◌∙◌}
use Rattle.std.specs.Prelude.{option_map}
use Rattle.lt_tree.specs.Typing.ProgramView.{program_of}
use Rattle.lt_entry.specs.SpecificationLines.{entry_line}
use Rattle.lt_entry.specs.Conditions.{entry_named}
use Rattle.lt_entry.specs.LineViews.{row_view, line_view}
use Rattle.lt_entry.specs.ReadingLines.{read_line}
use Rattle.lt_spec_reader.proofs.EntryLaws.{one_named}
use Rattle.lt_spec_reader.proofs.entry.entry_of.Goals as goal

pub returns-in-Some-Entry : goal.returns-in-Some-Entry
returns-in-Some-Entry c = λ rows.
    let words = (row_view c.args.row.now).words in
    let program = program_of c.args.kinds.now.program.now in
    let name = c.in-Some-Entry.name.now in
    let read : read_line words ≡ Some (entry_line name) =
    ap (λ l. read_line (map (λ (word : Bor (List ℕ)). word.now) l)) (sym c.as_slice.ensures.value) ∙ sym c.in_ok-name.ensures ∙ ap (option_map line_view) c.in-Some-Entry.is ∙ ap (λ l. Some (line_view l)) c.in-Some-Entry.field-0-is in
    let named : entry_named program name ≡ Some c.in-Some.number = sym c.entry_named.ensures ∙ c.in-Some.is in
    one_named program rows words c.lines_are_read.ensures name c.in-Some.number read named
