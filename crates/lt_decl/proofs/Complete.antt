-- What is derived of statements is read: its tree, what is behind it, and its spots.
use Rattle.std.proofs.Common.{◌≡◌, ℕ, Bool, true, false, List, ◌∷◌, refl, arith}
use Rattle.lt_tree.specs.declared.terminal.Terminal.TheVariants as t
use Rattle.lt_tree.specs.Tree as c
use Rattle.lt_tree.specs.Symbols.{Symbol, sign, start_of}
use Rattle.lt_tree.specs.Scope.{Scope}
use Rattle.lt_tree.specs.Ahead.{same_terminal, sees, begins_specifier}
use Rattle.lt_tree.specs.Grammar as g
use Rattle.lt_tree.specs.Statements as st
use Rattle.lt_tree.specs.Statements.{AreLabels, IsStatement, AreItems, AreCases}
use Rattle.lt_expr.specs.Front.{begins_mark}
use Rattle.lt_expr.proofs.CompleteStarts.{shorter, mark_shorter, starts}
use Rattle.lt_expr.proofs.CompleteParameters.{specifier_front}
use Rattle.lt_expr.proofs.Complete.{complete, complete_mark, mark_begins}
use Rattle.lt_decl.specs.Items.{stated}
use Rattle.lt_decl.proofs.CompleteStarts.{expression_opens, other, declaration_shorter, optional_short, start_shorter, labels_short, statement_shorter}
use Rattle.lt_decl.proofs.CompleteDeclarations.{complete_declaration}
use Rattle.lt_decl.proofs.CompleteMarked.{complete_test, complete_up_to_semicolon, complete_up_to_paren, declaration_begins, complete_start, complete_labels, complete_begun}
use Rattle.lt_decl.proofs.CompleteStatements as statements
use Rattle.lt_decl.proofs.CompleteStatements.{Statement, Items, Cases}
use Rattle.lt_decl.proofs.CompleteItems as items
use Rattle.lt_decl.proofs.CompleteItems.{OneItem}

-- ---- what derivations begin with

-- neither a type nor what closes a block
statement_begins : {scope : Scope} {ts rest : List Symbol} {x : c.Statement} {spots more : List ℕ} → IsStatement scope ts x rest spots more
    → (sees t.CloseBrace ts ≡ false) × (begins_specifier scope false ts ≡ false)
unfolding same_terminal
statement_begins (st.compound x) = (refl, refl)
statement_begins st.null = (refl, refl)
statement_begins {ts = ts} (st.expression x) = ((other ts (expression_opens x)).no_close, (starts x).no_type)
statement_begins (st.if_alone x z i) = (refl, refl)
statement_begins (st.if_else x z w) = (refl, refl)
statement_begins (st.while_loop x z) = (refl, refl)
statement_begins (st.do_loop x z) = (refl, refl)
statement_begins (st.for_loop x i z j w v) = (refl, refl)
statement_begins (st.switch x z) = (refl, refl)
statement_begins st.break = (refl, refl)
statement_begins st.continue = (refl, refl)
statement_begins (st.returns x) = (refl, refl)

labels_begin : {scope : Scope} {ts rest : List Symbol} {labels : List c.Label} {spots more : List ℕ} → AreLabels scope ts labels rest spots more → sees t.CloseBrace rest ≡ false → sees t.CloseBrace ts ≡ false
unfolding same_terminal
labels_begin (st.no_labels a b) e = e
labels_begin (st.case_label x z) e = refl
labels_begin (st.default_label z) e = refl

-- where a specifier begins, neither a mark nor what closes a block stands
specifier_no_brace : (scope : Scope) (ts : List Symbol) → begins_specifier scope false ts ≡ true → sees t.CloseBrace ts ≡ false
unfolding same_terminal
specifier_no_brace scope ts e = specifier_front t.CloseBrace scope false ts refl refl e

specifier_no_mark : (scope : Scope) (ts : List Symbol) → begins_specifier scope false ts ≡ true → begins_mark ts ≡ false
unfolding same_terminal
specifier_no_mark scope ts e = rw (specifier_front t.Label scope false ts refl refl e, specifier_front t.LabelBind scope false ts refl refl e) refl

mark_no_brace : {scope : Scope} {ts rest : List Symbol} {m : c.Mark} {spots more : List ℕ} → g.IsMark scope ts m rest spots more → sees t.CloseBrace ts ≡ false
unfolding same_terminal
mark_no_brace (g.label x l) = refl
mark_no_brace (g.binding_label x l b) = refl

-- a statement that begins with a mark is an expression
data IsEvaluation : (scope : Scope) → (ts : List Symbol) → (x : c.Statement) → (rest : List Symbol) → (spots more : List ℕ) → Type 0 where
  evaluation : {scope : Scope} {at : ℕ} {ts rest : List Symbol} {e : c.Expression} {spots more : List ℕ}
      → g.IsExpression scope g.comma ts e (sign t.Semicolon at ∷ rest) spots more → IsEvaluation scope ts (c.Evaluates e) rest (start_of ts ∷ spots) more

evaluation_of : {scope : Scope} {ts rest : List Symbol} {x : c.Statement} {spots more : List ℕ} → IsStatement scope ts x rest spots more → begins_mark ts ≡ true
    → IsEvaluation scope ts x rest spots more
unfolding same_terminal
evaluation_of (st.compound x) b = absurd cc
evaluation_of st.null b = absurd cc
evaluation_of (st.expression x) b = evaluation x
evaluation_of (st.if_alone x z i) b = absurd cc
evaluation_of (st.if_else x z w) b = absurd cc
evaluation_of (st.while_loop x z) b = absurd cc
evaluation_of (st.do_loop x z) b = absurd cc
evaluation_of (st.for_loop x i z j w v) b = absurd cc
evaluation_of (st.switch x z) b = absurd cc
evaluation_of st.break b = absurd cc
evaluation_of st.continue b = absurd cc
evaluation_of (st.returns x) b = absurd cc

begun_item : {scope : Scope} {ts rest : List Symbol} {x : c.Statement} {spots more : List ℕ} → IsEvaluation scope ts x rest spots more → begins_mark ts ≡ true
    → (ends : List ℕ) → OneItem scope ts (stated x) rest (start_of ts ∷ spots) more ends
begun_item (evaluation x) b ends = items.begun_complete _ _ _ _ _ _ _ ends b (complete_begun x b refl ends)

-- a statement among items, by whether a mark stands in front
stated_item : {scope : Scope} {ts rest : List Symbol} {x : c.Statement} {spots more : List ℕ} → IsStatement scope ts x rest spots more
    → (ends : List ℕ) → Statement scope ts x rest spots more ends → OneItem scope ts (stated x) rest (start_of ts ∷ spots) more ends
stated_item {scope} {ts} {rest} {x} {spots} {more} d ends y = by_mark (begins_mark ts) refl
  where
    by_mark : (b : Bool) → begins_mark ts ≡ b → OneItem scope ts (stated x) rest (start_of ts ∷ spots) more ends
    by_mark true e = begun_item (evaluation_of d e) e ends
    by_mark false e = items.stated_complete _ _ _ _ _ _ ends e (statement_begins d).1 y

-- ---- all of them

mutual
  complete_statement : {scope : Scope} {ts rest : List Symbol} {x : c.Statement} {spots more : List ℕ} → IsStatement scope ts x rest spots more → (ends : List ℕ) → Statement scope ts x rest spots more ends
  complete_statement (st.compound x) ends = statements.compound_complete _ _ _ _ _ _ _ ends (complete_items x ends)
  complete_statement st.null ends = statements.null_complete _ _ _ _ ends
  complete_statement {ts = ts} (st.expression x) ends = statements.expression_complete _ _ _ _ _ _ _ ends (other ts (expression_opens x)) (complete x ends refl)
  complete_statement (st.if_alone {a = a} x z i) ends = statements.if_alone_complete _ _ _ _ _ _ _ _ _ _ ends (omega (arith, shorter x)) i (complete_test a x ends) (complete_statement z)
  complete_statement (st.if_else {a = a} x z w) ends =
      statements.if_else_complete _ _ _ _ _ _ _ _ _ _ _ _ _ _ ends (omega (arith, shorter x)) (omega (arith, statement_shorter z)) (complete_test a x ends) (complete_statement z) (complete_statement w)
  complete_statement (st.while_loop {a = a} x z) ends = statements.while_complete _ _ _ _ _ _ _ _ _ _ ends (omega (arith, shorter x)) (complete_test a x ends) (complete_statement z)
  complete_statement (st.do_loop {b = b} x z) ends = statements.do_complete _ _ _ _ _ _ _ _ _ _ _ _ ends (omega (arith, statement_shorter x)) (complete_statement x ends) (complete_test b z)
  complete_statement (st.for_loop x i z j w v) ends =
      statements.for_complete _ _ _ _ _ _ _ _ _ _ _ _ _ _ _ _ _ _ _ ends (omega (arith, start_shorter x)) (omega (arith, optional_short z)) (omega (arith, optional_short w)) i j
      (complete_start x ends) (complete_up_to_semicolon z) (complete_up_to_paren w) (complete_statement v)
  complete_statement (st.switch {a = a} x z) ends = statements.switch_complete _ _ _ _ _ _ _ _ _ _ _ ends (omega (arith, shorter x)) (complete_test a x ends) (complete_cases z)
  complete_statement st.break ends = statements.break_complete _ _ _ _ _ ends
  complete_statement st.continue ends = statements.continue_complete _ _ _ _ _ ends
  complete_statement (st.returns x) ends = statements.return_complete _ _ _ _ _ _ _ ends (complete_up_to_semicolon x ends)

  pub complete_items : {scope : Scope} {ts rest : List Symbol} {is : c.Items} {spots more : List ℕ} → AreItems scope ts is rest spots more → (ends : List ℕ) → Items scope ts is rest spots more ends
  complete_items st.no_more_items ends = items.no_items_complete _ _ _ _ ends
  complete_items {scope} {ts} (st.declaration x z) ends =
      items.items_complete _ _ _ _ _ _ _ _ _ ends (specifier_no_brace scope ts (declaration_begins x)) (declaration_shorter x)
      (items.declared_complete _ _ _ _ _ _ ends (specifier_no_mark scope ts (declaration_begins x)) (declaration_begins x) (complete_declaration x ends)) (complete_items z)
  complete_items (st.statement x z) ends =
      items.items_complete _ _ _ _ _ _ _ _ _ ends (statement_begins x).0 (statement_shorter x) (stated_item x ends (complete_statement x ends)) (complete_items z)
  complete_items (st.label x z) ends =
      items.items_complete _ _ _ _ _ _ _ _ _ ends (mark_no_brace x) (omega (arith, mark_shorter x))
      (items.mark_complete _ _ _ _ _ _ _ ends (mark_begins x) (complete_mark x ends)) (complete_items z)

  complete_cases : {scope : Scope} {ts rest : List Symbol} {cs : c.Cases} {spots more : List ℕ} → AreCases scope ts cs rest spots more → (ends : List ℕ) → Cases scope ts cs rest spots more ends
  complete_cases st.no_more_cases ends = items.no_cases_complete _ _ _ _ ends
  complete_cases (st.one_more_case x z w) ends =
      items.cases_complete _ _ _ _ _ _ _ _ _ _ _ _ ends (labels_begin x (statement_begins z).0) (labels_short x) (statement_shorter z) (complete_labels x ends) (complete_statement z) (complete_cases w)
