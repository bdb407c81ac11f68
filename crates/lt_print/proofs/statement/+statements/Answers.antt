use Rattle.std.proofs.Common.{◌++◌, ◌∷◌, [], ℕ, List, map, refl, ap, sym, ◌∙◌, arith}
use Rattle.std.specs.List.{flat_map}
use Rattle.lt_tree.specs.declared.terminal.Terminal.TheVariants as k
use Rattle.lt_tree.specs.declared.statement.Stmt.{Stmt}
use Rattle.lt_tree.specs.declared.statement.Item.{Item}
use Rattle.lt_tree.specs.declared.statement.Label.{Label}
use Rattle.lt_tree.specs.declared.statement.SwitchCase.{SwitchCase}
use Rattle.lt_tree.specs.Tree as tree
use Rattle.lt_tree.specs.Pieces.{gap, indent, line_end, text_of}
use Rattle.lt_tree.specs.View.{expression_of}
use Rattle.lt_tree.specs.UnitView.{label_of, statement_of, items_in, cases_in}
use Rattle.lt_tree.specs.Canon.{Pieces, sign}
use Rattle.lt_tree.specs.CanonUnits.{label_line, lines, item_lines, case_lines}
use Rattle.lt_print.specs.Statements.{body_lines}
use Rattle.lt_print.proofs.Texts.{on_ok}
use Rattle.lt_print.proofs.Words.{joined}
use Rattle.lt_print.proofs.Rows.{next, ended}
use Rattle.lt_print.proofs.Units.{body_behind, body_below, compound_is, switch_is, switch_lines, if_is, block_text, items_step, cases_step}
use Rattle.lt_print.proofs.statement.+statements.Goals as goal

pub put_items-loop-item-preserved : goal.put_items-loop-item-preserved
put_items-loop-item-preserved t c =
    next (λ (l : List Item). item_lines c.args.line (items_in l)) (λ (l : List Item). item_lines c.args.line (items_in l)) _ c.args.items.now c.loop-item.item-index c.item-item.result c.loop-item.out.items _ _
    c.loop-item-test.true c.item-item.is c.in_ok-put_item.ensures (items_step c.args.line c.item-item.result _) c.loop-item.invariant

pub put_items-returns : goal.put_items-returns
unfolding lines
put_items-returns t c = ended (λ (l : List Item). item_lines c.args.line (items_in l)) c.args.items.now c.loop-item.item-index _ _ (omega arith) refl c.loop-item.invariant

pub put_case_lines-loop-case-preserved : goal.put_case_lines-loop-case-preserved
put_case_lines-loop-case-preserved t c =
    next (λ (l : List SwitchCase). case_lines c.args.line (cases_in l)) (λ (l : List SwitchCase). case_lines c.args.line (cases_in l)) _ c.args.cases.now c.loop-case.case-index c.case-item.result c.loop-case.out.items _ _
    c.loop-case-test.true c.case-item.is
    (joined _ _ _ _ _ (c.in_ok-put_labels.ensures ∙ ap (λ (l : List Label). c.loop-case.out.items ++ text_of (flat_map (label_line c.args.line) (map label_of l))) c.deref.ensures.value) (joined _ _ _ _ _ c.in_ok-put_indent.ensures c.in_ok-put_statement.ensures))
    (cases_step c.args.line c.case-item.result _) c.loop-case.invariant

pub put_case_lines-returns : goal.put_case_lines-returns
unfolding lines
put_case_lines-returns t c = ended (λ (l : List SwitchCase). case_lines c.args.line (cases_in l)) c.args.cases.now c.loop-case.case-index _ _ (omega arith) refl c.loop-case.invariant

pub put_block-returns : goal.put_block-returns
put_block-returns t c =
    on_ok c.end_line-2.result
    (λ e. block_text c.args.line c.in_ok-inner.inner (items_in c.args.items.now) _ _ _ _ _ _ c.in_ok-inner.ensures c.in_ok-put_sign.ensures c.in_ok-end_line.ensures c.in_ok-put_items.ensures c.in_ok-close_braces.ensures e)
    c.end_line-2.ensures

pub put_body-returns-in_ok-put_gap : goal.put_body-returns-in_ok-put_gap
put_body-returns-in_ok-put_gap t c =
    on_ok c.put_statement.result
    (λ e. body_behind c.args.line (statement_of c.args.body.now) c.is_compound.result _ _ _ c.is_compound.ensures c.if-is_compound.true c.in_ok-put_gap.ensures e)
    c.put_statement.ensures

pub put_body-returns-in_ok-put_indent : goal.put_body-returns-in_ok-put_indent
put_body-returns-in_ok-put_indent t c =
    on_ok c.put_statement-else-is_compound.result
    (λ e. body_below c.args.line c.in_ok-inner.inner (statement_of c.args.body.now) c.is_compound.result _ _ _ _ c.is_compound.ensures c.if-is_compound.false c.in_ok-inner.ensures c.in_ok-end_line.ensures c.in_ok-put_indent.ensures e)
    c.put_statement-else-is_compound.ensures

pub put_cases-returns : goal.put_cases-returns
put_cases-returns t c =
    on_ok c.end_line.result
    (λ e. joined _ _ _ _ _ c.in_ok-open_braces.ensures (joined _ _ _ _ _ c.in_ok-put_case_lines.ensures (joined _ _ _ _ _ c.in_ok-close_braces.ensures e))
    ∙ ap (λ (n : ℕ). c.args.out.now.items ++ text_of (gap ∷ sign k.OpenBrace ∷ line_end ∷ (case_lines n (cases_in c.args.cases.now) ++ indent c.args.line ∷ sign k.CloseBrace ∷ line_end ∷ []))) c.in_ok-inner.ensures)
    c.end_line.ensures

pub put_statement-returns-in-Compound : goal.put_statement-returns-in-Compound
put_statement-returns-in-Compound t c =
    on_ok c.put_block.result
    (λ e. e ∙ ap (λ (x : tree.Statement). c.args.out.now.items ++ text_of (lines c.args.line x))
    (sym (ap statement_of c.in-Compound.is ∙ compound_is c.in-Compound.items ∙ ap (λ (x : List Item). tree.Compound (items_in x)) (sym c.deref.ensures.value))))
    c.put_block.ensures

pub put_statement-returns-in_ok-put_header-in-Switch : goal.put_statement-returns-in_ok-put_header-in-Switch
put_statement-returns-in_ok-put_header-in-Switch t c =
    on_ok c.put_cases.result
    (λ e. joined _ _ _ _ _ c.in_ok-put_header-in-Switch.ensures e ∙ ap (λ (x : Pieces). c.args.out.now.items ++ text_of x) (sym (switch_lines c.args.line (expression_of c.in-Switch.operand) (cases_in c.deref-in-Switch.result.now)))
    ∙ ap (λ (x : tree.Statement). c.args.out.now.items ++ text_of (lines c.args.line x))
    (sym (ap statement_of c.in-Switch.is ∙ switch_is c.in-Switch.operand c.in-Switch.cases ∙ ap (λ (l : List SwitchCase). tree.Switch (expression_of c.in-Switch.operand) (cases_in l)) (sym c.deref-in-Switch.ensures.value))))
    c.put_cases.ensures

pub put_statement-returns-in_ok-put_body-in-If : goal.put_statement-returns-in_ok-put_body-in-If
put_statement-returns-in_ok-put_body-in-If t c =
    on_ok c.put_else.result
    (λ e. joined _ _ _ _ _ c.in_ok-put_header-in-If.ensures (joined _ _ _ _ _ (c.in_ok-put_body-in-If.ensures ∙ ap (λ (b : Stmt). c.put_header.new.out.items ++ text_of (body_lines c.args.line (statement_of b))) c.deref-in-If.ensures) e)
    ∙ ap (λ (x : Pieces). c.args.out.now.items ++ text_of x) (sym (if_is c.args.line c.in-If.test c.in-If.body c.in-If.other))
    ∙ ap (λ (x : Stmt). c.args.out.now.items ++ text_of (lines c.args.line (statement_of x))) (sym c.in-If.is))
    c.put_else.ensures
