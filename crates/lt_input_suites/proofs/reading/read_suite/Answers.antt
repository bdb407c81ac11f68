use Rattle.std.proofs.Common.{◌≡◌, ℕ, List, Bor, true, false, map, ap, ◌∙◌}
use Rattle.lt_tree.specs.Typing.ProgramView.{program_of}
use Rattle.lt_entry.specs.Lines.{rows_of}
use Rattle.lt_entry.specs.Suites.{suite_scope}
use Rattle.lt_entry.specs.LineViews.{row_view}
use Rattle.lt_input_names.specs.Blocks.{specification_of, scope_with}
use Rattle.lt_input_names.specs.Views.{scope_of}
use Rattle.lt_input_suites.proofs.Drafted.{same_reads}
use Rattle.lt_input_suites.proofs.Fronts.{none_yet, row_at, read_more, suite_read, bad_line, all_rows}
use Rattle.lt_input_suites.proofs.reading.read_suite.Goals as goal

pub loop-row-init : goal.loop-row-init
loop-row-init c =
    let scope = suite_scope (program_of c.args.program.now) (specification_of c.args.program.now c.args.specification.now) in
    none_yet scope c.args.text.now c.new-draft.result (c.new-draft.ensures scope)

pub loop-row-preserved : goal.loop-row-preserved
loop-row-preserved c =
    let scope = suite_scope (program_of c.args.program.now) (specification_of c.args.program.now c.args.specification.now) in
    let row = c.row-item.result in
    let now : List (Bor (List ℕ)) → List (List ℕ) = map (λ (word : Bor (List ℕ)). word.now) in
    let same : scope_of c.in_ok-names.names ≡ scope = c.in_ok-names.ensures.scope ∙ ap (scope_with c.args.program.now c.args.specification.now.spec.entry) c.deref.ensures.value in
    let rows : map row_view c.as_slice-row-items.result.now ≡ rows_of c.args.text.now = ap (map row_view) c.as_slice-row-items.ensures.value ∙ c.in_ok-rows.ensures in
    read_more scope c.args.text.now c.loop-row.row-index (row_view row) c.loop-row.draft c.read.new.self
    (row_at c.args.text.now c.as_slice-row-items.result.now c.loop-row.row-index row rows c.loop-row-test.true c.row-item.is) c.loop-row.invariant
    (same_reads (scope_of c.in_ok-names.names) scope (now c.deref-in-loop-row.result.now) (now row.words.items) c.loop-row.draft c.read.new.self c.in_ok-read.field-0 true same
    (ap now c.deref-in-loop-row.ensures.value) c.if-not-branch.false c.in_ok-read.ensures)

pub returns-then-not-branch : goal.returns-then-not-branch
returns-then-not-branch c =
    let scope = suite_scope (program_of c.args.program.now) (specification_of c.args.program.now c.args.specification.now) in
    let row = c.row-item.result in
    let now : List (Bor (List ℕ)) → List (List ℕ) = map (λ (word : Bor (List ℕ)). word.now) in
    let same : scope_of c.in_ok-names.names ≡ scope = c.in_ok-names.ensures.scope ∙ ap (scope_with c.args.program.now c.args.specification.now.spec.entry) c.deref.ensures.value in
    let rows : map row_view c.as_slice-row-items.result.now ≡ rows_of c.args.text.now = ap (map row_view) c.as_slice-row-items.ensures.value ∙ c.in_ok-rows.ensures in (
      row.number,
      bad_line (program_of c.args.program.now) (specification_of c.args.program.now c.args.specification.now) c.args.text.now c.loop-row.row-index (row_view row) c.loop-row.draft c.read.new.self
          (row_at c.args.text.now c.as_slice-row-items.result.now c.loop-row.row-index row rows c.loop-row-test.true c.row-item.is) c.loop-row.invariant
          (same_reads (scope_of c.in_ok-names.names) scope (now c.deref-in-loop-row.result.now) (now row.words.items) c.loop-row.draft c.read.new.self c.in_ok-read.field-0 false same
          (ap now c.deref-in-loop-row.ensures.value) c.if-not-branch.true c.in_ok-read.ensures),
      c.line_number.ensures,
    )

pub returns : goal.returns
returns c =
    let rows : map row_view c.as_slice-row-items.result.now ≡ rows_of c.args.text.now = ap (map row_view) c.as_slice-row-items.ensures.value ∙ c.in_ok-rows.ensures in
    suite_read (program_of c.args.program.now) (specification_of c.args.program.now c.args.specification.now) c.args.text.now c.loop-row.row-index c.loop-row.draft c.in_ok-over.field-0
    (all_rows c.args.text.now c.as_slice-row-items.result.now c.loop-row.row-index rows c.loop-row.auto.row-index-end c.loop-row-test.false) c.loop-row.invariant c.in_ok-over.ensures
