use Rattle.std.proofs.Common.{◌∷◌, [], ◌++◌, sym, ap, ◌∙◌}
use Rattle.lt_tree.specs.Tree as t
use Rattle.lt_tree.specs.View.{expression_of, mark_of}
use Rattle.lt_tree.specs.Records.{expressions_in, marks_in}
use Rattle.lt_expr.proofs.Failures.{fails_as, gives_fail}
use Rattle.lt_expr.proofs.Scopes.{same_scope, on_through}
use Rattle.lt_decl.proofs.OnMarks.{on_value, on_alone, on_parts, on_without_parts}
use Rattle.lt_decl.proofs.marked.expression_on.Goals as goal

pub returns-then-not-sees : goal.returns-then-not-sees
returns-then-not-sees c =
    let marks = c.in_ok-marks.ensures in
    let value = c.in_ok-value.ensures in
    let end = c.in_ok-end.ensures in (
      on_alone _ _ c.end.new.self _ _
          (on_value _ _ c.args.parser.now c.all_marks.new.parser c.assignment.new.self c.end.new.self c.args.start (mark_of c.args.first) (marks_in c.in_ok-marks.marks.items) (expression_of c.in_ok-value.value) c.in_ok-depth.ensures marks.0 marks.1 value.0 end.0)
          (sym c.sees.ensures ∙ c.if-not-sees.true) c.in_ok-value-2.ensures,
      on_through _ _ _ marks.1 (on_through _ _ _ value.1 end.1),
    )

pub returns : goal.returns
returns c =
    let marks = c.in_ok-marks.ensures in
    let value = c.in_ok-value.ensures in
    let end = c.in_ok-end.ensures in
    let parts = c.in_ok-parts.ensures in
    let on = on_through _ _ _ marks.1 (on_through _ _ _ value.1 (on_through _ _ _ end.1 c.advance.ensures.on)) in (
      on_parts c.in_ok-depth.depth c.args.start c.args.parser.now c.end.new.self c.advance.new.self c.parts.new.self c.end-2.new.self _ _ (expressions_in c.push.new.self.items) _ _ _
          (on_value _ _ c.args.parser.now c.all_marks.new.parser c.assignment.new.self c.end.new.self c.args.start (mark_of c.args.first) (marks_in c.in_ok-marks.marks.items) (expression_of c.in_ok-value.value) c.in_ok-depth.ensures marks.0 marks.1 value.0 end.0)
          (sym c.sees.ensures ∙ c.if-not-sees.false) (same_scope _ _ on) c.advance.ensures.rest
          (ap expressions_in (c.in_ok-push.ensures.items ∙ ap (λ front. front ++ c.in_ok-value-2.value ∷ []) c.new-parts.ensures.items) ∙ ap (λ e. t.an_expression e t.no_expressions) c.in_ok-value-2.ensures)
          parts.0 c.in_ok-end-2.ensures.0 c.comma.ensures,
      on_through _ _ _ on (on_through _ _ _ parts.1 c.in_ok-end-2.ensures.1),
    )

pub returns-in_err-parts : goal.returns-in_err-parts
returns-in_err-parts c =
    let marks = c.in_ok-marks.ensures in
    let value = c.in_ok-value.ensures in
    let end = c.in_ok-end.ensures in
    let on = on_through _ _ _ marks.1 (on_through _ _ _ value.1 (on_through _ _ _ end.1 c.advance.ensures.on)) in
    let fails = c.from_residual-in_err-parts.ensures in
    gives_fail expression_of c.args.parser.now c.parts.new.self _ _ _ fails.0 fails.1
    (fails_as _ _ _ (λ none.
    on_without_parts c.in_ok-depth.depth c.args.start c.args.parser.now c.end.new.self c.advance.new.self _ (expressions_in c.push.new.self.items) _ _
    (on_value _ _ c.args.parser.now c.all_marks.new.parser c.assignment.new.self c.end.new.self c.args.start (mark_of c.args.first) (marks_in c.in_ok-marks.marks.items) (expression_of c.in_ok-value.value) c.in_ok-depth.ensures marks.0 marks.1 value.0 end.0)
    (sym c.sees.ensures ∙ c.if-not-sees.false) (same_scope _ _ on) c.advance.ensures.rest
    (ap expressions_in (c.in_ok-push.ensures.items ∙ ap (λ front. front ++ c.in_ok-value-2.value ∷ []) c.new-parts.ensures.items) ∙ ap (λ e. t.an_expression e t.no_expressions) c.in_ok-value-2.ensures)
    none)
    c.in_err-parts.ensures)
