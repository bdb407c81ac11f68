use Rattle.std.proofs.Common.{◌≡◌, true, false, Bor, List, ℕ, map, sym, ap, ◌∙◌, rules}
use Rattle.std.specs.Prelude.{option_map}
use Rattle.lt_entry.specs.LineViews.{row_view, line_view}
use Rattle.lt_entry.specs.ReadingLines.{read_line}
use Rattle.lt_spec_reader.proofs.StateLaws.{next_unread, next_unfit, next_fits}
use Rattle.lt_spec_reader.proofs.lines.next_line.Goals as goal

pub returns-in-None-clause-next : goal.returns-in-None-clause-next
returns-in-None-clause-next c = λ program rows entry before is.
    let words = (row_view c.args.row.now).words in
    next_unread program rows entry before is.first words c.lines_are_read.ensures
    (ap (λ l. read_line (map (λ (word : Bor (List ℕ)). word.now) l)) (sym c.as_slice.ensures.value) ∙ sym c.in_ok-line_of.ensures ∙ ap (option_map line_view) c.in-None.is)

pub returns-then-branch-clause-next : goal.returns-then-branch-clause-next
returns-then-branch-clause-next c = λ program rows entry before is.
    let words = (row_view c.args.row.now).words in
    let fits : c.in_ok-step-in-Some.field-0 ≡ true = search rules in
    let step = c.in_ok-step-in-Some.ensures.step program rows entry before is in
    next_fits program rows entry before is.first words (line_view c.in-Some.line) c.lines_are_read.ensures
    (ap (λ l. read_line (map (λ (word : Bor (List ℕ)). word.now) l)) (sym c.as_slice.ensures.value) ∙ sym c.in_ok-line_of.ensures ∙ ap (option_map line_view) c.in-Some.is)
    (sym step.fits ∙ fits)

pub returns-then-branch-clause-along : goal.returns-then-branch-clause-along
returns-then-branch-clause-along c = λ program rows entry before is.
    let fits : c.in_ok-step-in-Some.field-0 ≡ true = search rules in
    (c.in_ok-step-in-Some.ensures.step program rows entry before is).more fits

pub returns-else-branch-clause-next : goal.returns-else-branch-clause-next
returns-else-branch-clause-next c = λ program rows entry before is.
    let words = (row_view c.args.row.now).words in
    let unfit : c.in_ok-step-in-Some.field-0 ≡ false = search rules in
    let step = c.in_ok-step-in-Some.ensures.step program rows entry before is in
    next_unfit program rows entry before is.first words (line_view c.in-Some.line) c.lines_are_read.ensures
    (ap (λ l. read_line (map (λ (word : Bor (List ℕ)). word.now) l)) (sym c.as_slice.ensures.value) ∙ sym c.in_ok-line_of.ensures ∙ ap (option_map line_view) c.in-Some.is)
    (sym step.fits ∙ unfit)

pub returns-else-branch-clause-along : goal.returns-else-branch-clause-along
returns-else-branch-clause-along c = λ program rows entry before is.
    let unfit : c.in_ok-step-in-Some.field-0 ≡ false = search rules in
    (c.in_ok-step-in-Some.ensures.step program rows entry before is).stays unfit
