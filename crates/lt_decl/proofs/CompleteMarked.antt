-- What is derived of what stands in statements is read: tests, optional expressions, starts of loops, labels, and expressions behind their first mark.
use Rattle.std.proofs.Common.{◌≡◌, ℕ, zero, suc, ◌≤◌, true, false, List, [], ◌∷◌, length, Option, Some, None, refl, ap, ◌∙◌, arith}
use Rattle.lt_tree.specs.declared.terminal.Terminal.{Terminal}
use Rattle.lt_tree.specs.declared.terminal.Terminal.TheVariants as t
use Rattle.lt_tree.specs.Tree as c
use Rattle.lt_tree.specs.Symbols.{Symbol, sign, start_of}
use Rattle.lt_tree.specs.Scope.{Scope, after_expression}
use Rattle.lt_tree.specs.Ahead.{same_terminal, sees, begins_specifier}
use Rattle.lt_tree.specs.Grammar as g
use Rattle.lt_tree.specs.Declarations as dc
use Rattle.lt_tree.specs.Declarations.{IsDeclaration}
use Rattle.lt_tree.specs.Statements as st
use Rattle.lt_tree.specs.Statements.{IsOptional, IsForStart, AreLabels}
use Rattle.lt_expr.specs.Front.{Rest, begins_mark}
use Rattle.lt_expr.specs.Reading as ex
use Rattle.lt_expr.specs.Walk.{Walked, node, walk, walk_all, walk_mark, walk_marks}
use Rattle.lt_expr.proofs.CompleteFronts.{follows, weight, not_seen, is_same}
use Rattle.lt_expr.proofs.CompleteStarts.{shorter, mark_shorter, marks_shorter, starts, at_level}
use Rattle.lt_expr.proofs.CompleteForms.{Read, once, enough, node_of}
use Rattle.lt_expr.proofs.CompleteOperators.{conditional_read}
use Rattle.lt_expr.proofs.Complete.{complete, complete_mark, complete_marks, complete_parts, marks_begin, specifiers_begin}
use Rattle.lt_decl.specs.Items.{start_by, marks_by}
use Rattle.lt_decl.specs.Reading as read
use Rattle.lt_decl.specs.Walk.{walk_optional, walk_start, walk_labels}
use Rattle.lt_decl.proofs.SoundForms.{AreMore, none, some}
use Rattle.lt_decl.proofs.CompleteStarts.{opens, expression_opens, unseen}
use Rattle.lt_decl.proofs.CompleteDeclarations.{complete_declaration}

-- ---- '(' expr ')'

abbrev pub Test : Scope → List Symbol → c.Expression → List Symbol → List ℕ → List ℕ → List ℕ → Type 0
Test scope ts e rest spots more ends = Read (λ n. read.controlling n scope) walk 1 ts e rest spots more ends

test_read : (n : ℕ) (scope : Scope) (a b : ℕ) (ts rest : List Symbol) (e : c.Expression) (ends now : List ℕ)
    → ex.expression n scope (ts, ends) ≡ Some (e, (sign t.CloseParen b ∷ rest, now)) → read.controlling (suc n) scope (sign t.OpenParen a ∷ ts, ends) ≡ Some (e, (rest, now))
unfolding read.controlling same_terminal
test_read n scope a b ts rest e ends now is = rw is refl

pub complete_test : {scope : Scope} (a : ℕ) {b : ℕ} {ts rest : List Symbol} {e : c.Expression} {spots more : List ℕ} → g.IsExpression scope g.comma ts e (sign t.CloseParen b ∷ rest) spots more
    → (ends : List ℕ) → Test scope (sign t.OpenParen a ∷ ts) e rest spots more ends
complete_test {scope} a {b} {ts} {rest} {e} x ends =
    let d = complete x ends refl in once d.now d.walked (omega arith) (λ n big. test_read n scope a b ts rest e ends d.now (d.reads n (omega arith)))

-- ---- expr? SIGN

abbrev pub Optional : Scope → Terminal → List Symbol → Option c.Expression → List Symbol → List ℕ → List ℕ → List ℕ → Type 0
Optional scope k ts e rest spots more ends = Read (λ n. read.optional n scope k) walk_optional 7 ts e rest spots more ends

no_expression_read : (n : ℕ) (scope : Scope) (k : Terminal) (at : ℕ) (ts : List Symbol) (ends : List ℕ) → same_terminal k k ≡ true
    → read.optional (suc n) scope k (sign k at ∷ ts, ends) ≡ Some (None, (ts, ends))
unfolding read.controlling
no_expression_read n scope k at ts ends same = rw same refl

an_expression_read : (n : ℕ) (scope : Scope) (k : Terminal) (at : ℕ) (ts rest : List Symbol) (e : c.Expression) (ends now : List ℕ) → same_terminal k k ≡ true → sees k ts ≡ false
    → ex.expression n scope (ts, ends) ≡ Some (e, (sign k at ∷ rest, now)) → read.optional (suc n) scope k (ts, ends) ≡ Some (Some e, (rest, now))
unfolding read.controlling
an_expression_read n scope k at ts rest e ends now same front is = rw (front, is, same) refl

pub left_out_complete : (scope : Scope) (k : Terminal) (at : ℕ) (ts : List Symbol) (more ends : List ℕ) → Optional scope k (sign k at ∷ ts) None ts more more ends
left_out_complete scope k at ts more ends = once ends refl (omega arith) (λ n big. no_expression_read n scope k at ts ends (is_same k))

pub given_complete : {scope : Scope} (k : Terminal) {at : ℕ} {ts rest : List Symbol} {e : c.Expression} {spots more : List ℕ} → same_terminal t.Other k ≡ false → opens k ≡ false → weight k ≡ 0
    → g.IsExpression scope g.comma ts e (sign k at ∷ rest) spots more → (ends : List ℕ) → Optional scope k ts (Some e) rest spots more ends
given_complete {scope} k {at} {ts} {rest} {e} real closes quiet x ends =
    let d = complete x ends quiet in
    once d.now d.walked (omega arith) (λ n big. an_expression_read n scope k at ts rest e ends d.now (is_same k) (unseen k ts real closes (expression_opens x)) (d.reads n (omega arith)))

pub complete_up_to_semicolon : {scope : Scope} {at : ℕ} {ts rest : List Symbol} {e : Option c.Expression} {spots more : List ℕ} → IsOptional scope ts e (sign t.Semicolon at ∷ rest) spots more
    → (ends : List ℕ) → Optional scope t.Semicolon ts e rest spots more ends
unfolding same_terminal
complete_up_to_semicolon {scope} {at} {rest = rest} {more = more} st.left_out ends = left_out_complete scope t.Semicolon at rest more ends
complete_up_to_semicolon (st.given x) ends = given_complete t.Semicolon refl refl refl x ends

pub complete_up_to_paren : {scope : Scope} {at : ℕ} {ts rest : List Symbol} {e : Option c.Expression} {spots more : List ℕ} → IsOptional scope ts e (sign t.CloseParen at ∷ rest) spots more
    → (ends : List ℕ) → Optional scope t.CloseParen ts e rest spots more ends
unfolding same_terminal
complete_up_to_paren {scope} {at} {rest = rest} {more = more} st.left_out ends = left_out_complete scope t.CloseParen at rest more ends
complete_up_to_paren (st.given x) ends = given_complete t.CloseParen refl refl refl x ends

-- ---- declaration | expr? ';'

abbrev pub ForStart : Scope → List Symbol → c.ForStart → List Symbol → List ℕ → List ℕ → List ℕ → Type 0
ForStart scope ts start rest spots more ends = Read (λ n. read.for_start n scope) walk_start 8 ts start rest spots more ends

start_declares : (n : ℕ) (scope : Scope) (ts rest : List Symbol) (d : c.Declaration) (ends now : List ℕ) → begins_specifier scope false ts ≡ true
    → read.declaration n scope (ts, ends) ≡ Some (d, (rest, now)) → read.for_start (suc n) scope (ts, ends) ≡ Some (c.Declares d, (rest, now))
unfolding read.controlling
start_declares n scope ts rest d ends now front is = rw (front, is) refl

start_evaluates : (n : ℕ) (scope : Scope) (ts rest : List Symbol) (e : Option c.Expression) (ends now : List ℕ) → begins_specifier scope false ts ≡ false
    → read.optional n scope t.Semicolon (ts, ends) ≡ Some (e, (rest, now)) → read.for_start (suc n) scope (ts, ends) ≡ Some (start_by e, (rest, now))
unfolding read.controlling
start_evaluates n scope ts rest e ends now front is = rw (front, is) refl

pub declaration_begins : {scope : Scope} {ts rest : List Symbol} {d : c.Declaration} {spots more : List ℕ} → IsDeclaration scope ts d rest spots more → begins_specifier scope false ts ≡ true
declaration_begins (dc.specifiers_alone x) = specifiers_begin x
declaration_begins (dc.with_declarators x z) = specifiers_begin x

pub complete_start : {scope : Scope} {ts rest : List Symbol} {start : c.ForStart} {spots more : List ℕ} → IsForStart scope ts start rest spots more
    → (ends : List ℕ) → ForStart scope ts start rest spots more ends
complete_start {scope} {more = more} (st.nothing {at = at} {rest = rest}) ends =
    let d = left_out_complete scope t.Semicolon at rest more ends in
    once d.now d.walked (omega arith) (λ n big. start_evaluates n scope (sign t.Semicolon at ∷ rest) rest None ends d.now refl (d.reads n (omega arith)))
complete_start {scope} {ts} {rest} (st.expression {e = e} x) ends =
    let d = complete_up_to_semicolon (st.given x) ends in
    once d.now d.walked (omega arith) (λ n big. start_evaluates n scope ts rest (Some e) ends d.now (starts x).no_type (d.reads n (omega arith)))
complete_start {scope} {ts} {rest} (st.declaration {d = d} x) ends =
    let y = complete_declaration x ends in once y.now y.walked (omega arith) (λ n big. start_declares n scope ts rest d ends y.now (declaration_begins x) (y.reads n (omega arith)))

-- ---- labels

abbrev pub Labels : Scope → List Symbol → List c.Label → List Symbol → List ℕ → List ℕ → List ℕ → Type 0
Labels scope ts labels rest spots more ends = Read (λ n. read.labels n scope) walk_labels 1 ts labels rest spots more ends

no_labels_read : (n : ℕ) (scope : Scope) (ts : List Symbol) (ends : List ℕ) → sees t.Case ts ≡ false → sees t.Default ts ≡ false → read.labels (suc n) scope (ts, ends) ≡ Some ([], (ts, ends))
unfolding read.controlling
no_labels_read n scope ts ends a b = rw (a, b) refl

case_read : (n : ℕ) (scope : Scope) (a b : ℕ) (ts us rest : List Symbol) (e : c.Expression) (labels : List c.Label) (ends middle now : List ℕ)
    → ex.conditional n scope (ts, ends) ≡ Some (e, (sign t.Colon b ∷ us, middle)) → read.labels n (after_expression e scope) (us, a ∷ middle) ≡ Some (labels, (rest, now))
    → read.labels (suc n) scope (sign t.Case a ∷ ts, ends) ≡ Some (c.Case e ∷ labels, (rest, now))
unfolding read.controlling same_terminal
case_read n scope a b ts us rest e labels ends middle now first others = rw (first, others) refl

default_read : (n : ℕ) (scope : Scope) (a b : ℕ) (ts rest : List Symbol) (labels : List c.Label) (ends now : List ℕ)
    → read.labels n scope (ts, a ∷ ends) ≡ Some (labels, (rest, now)) → read.labels (suc n) scope (sign t.Default a ∷ sign t.Colon b ∷ ts, ends) ≡ Some (c.Default ∷ labels, (rest, now))
unfolding read.controlling same_terminal
default_read n scope a b ts rest labels ends now others = rw others refl

case_complete : (scope : Scope) (a b : ℕ) (ts us rest : List Symbol) (e : c.Expression) (labels : List c.Label) (spots between more ends : List ℕ) → length us ≤ length ts
    → Read (λ n. ex.conditional n scope) walk 4 ts e (sign t.Colon b ∷ us) spots between ends
    → ((now : List ℕ) → Labels (after_expression e scope) us labels rest between more now)
    → Labels scope (sign t.Case a ∷ ts) (c.Case e ∷ labels) rest (a ∷ spots) more ends
case_complete scope a b ts us rest e labels spots between more ends short x cl =
    let y = cl (a ∷ x.now) in
    once y.now (ap (node (walk e)) y.walked ∙ node_of (walk e) a x.now between ends spots x.walked) (omega arith)
    (λ n big. case_read n scope a b ts us rest e labels ends x.now y.now (x.reads n (omega arith)) (y.reads n (omega arith)))

default_complete : (scope : Scope) (a b : ℕ) (ts rest : List Symbol) (labels : List c.Label) (spots more ends : List ℕ)
    → ((now : List ℕ) → Labels scope ts labels rest spots more now)
    → Labels scope (sign t.Default a ∷ sign t.Colon b ∷ ts) (c.Default ∷ labels) rest (a ∷ spots) more ends
default_complete scope a b ts rest labels spots more ends cl =
    let y = cl (a ∷ ends) in
    once y.now (ap (node (λ v. v)) y.walked) (omega arith) (λ n big. default_read n scope a b ts rest labels ends y.now (y.reads n (omega arith)))

pub complete_labels : {scope : Scope} {ts rest : List Symbol} {labels : List c.Label} {spots more : List ℕ} → AreLabels scope ts labels rest spots more
    → (ends : List ℕ) → Labels scope ts labels rest spots more ends
complete_labels {scope} {ts} (st.no_labels a b) ends = once ends refl (omega arith) (λ n big. no_labels_read n scope ts ends a b)
complete_labels (st.case_label x z) ends = case_complete _ _ _ _ _ _ _ _ _ _ _ ends (omega (arith, shorter x)) (conditional_read _ _ _ _ _ _ ends (complete x ends (omega arith))) (complete_labels z)
complete_labels (st.default_label z) ends = default_complete _ _ _ _ _ _ _ _ ends (complete_labels z)

-- ---- expressions behind their first mark

-- What is read of an expression that begins with a mark: the mark and a comma, and then what is behind it.
pub record Begun (scope : Scope) (ts : List Symbol) (e : c.Expression) (rest : List Symbol) (spots more ends : List ℕ) : Type 0 where
  pub first : c.Mark
  pub comma : ℕ
  pub after : List Symbol
  pub places : List ℕ
  pub between : List ℕ
  pub first_read : Read (λ n. ex.mark n scope) walk_mark 1 ts first (sign t.Comma comma ∷ after) places between ends
  pub short : suc (length after) ≤ length ts
  pub now : List ℕ
  pub walked : walk e (now, more) ≡ (ends, spots)
  pub goes : (n : ℕ) → enough 5 after n → read.expression_on n scope (start_of ts) first (after, first_read.now) ≡ Some (e, (rest, now))

-- (mark ',')*
complete_more : {scope : Scope} {ts rest : List Symbol} {ms : c.Marks} {spots more : List ℕ} → AreMore scope ts ms rest spots more → begins_mark rest ≡ false
    → (ends : List ℕ) → Read (λ n. marks_by (ex.marks n scope)) walk_marks 2 ts ms rest spots more ends
complete_more none front ends = record { now = ends; walked = refl; reads = λ n big. rw front refl }
complete_more (some x) front ends = let d = complete_marks x ends front in record { now = d.now; walked = d.walked; reads = λ n big. rw (marks_begin x) (d.reads n big) }

-- a marked expression by its parts
data IsMarked : (scope : Scope) → (ts : List Symbol) → (e : c.Expression) → (rest : List Symbol) → (spots more : List ℕ) → Type 0 where
  marked : {scope : Scope} {a : ℕ} {ts us vs rest : List Symbol} {m : c.Mark} {ms : c.Marks} {e : c.Expression} {spots one two more : List ℕ}
      → g.IsMark scope ts m (sign t.Comma a ∷ us) spots one → AreMore scope us ms vs one two → length vs ≤ length us → g.IsExpression scope g.assignment vs e rest two more
      → IsMarked scope ts (c.Marked (c.a_mark m ms) e) rest (start_of ts ∷ spots) more

marked_parts : {scope : Scope} {ts rest : List Symbol} {e : c.Expression} {spots more : List ℕ} → g.IsExpression scope g.marked ts e rest spots more → begins_mark ts ≡ true
    → IsMarked scope ts e rest spots more
marked_parts (g.of_assignment x) b = let f = at_level x in absurd cc
marked_parts (g.behind_marks (g.last_mark x) z) b = marked x none (omega arith) z
marked_parts (g.behind_marks (g.more_marks x w) z) b = marked x (some w) (omega (arith, marks_shorter w)) z

on_alone : (n : ℕ) (scope : Scope) (start : ℕ) (us vs rest : List Symbol) (m : c.Mark) (ms : c.Marks) (e : c.Expression) (ends middle now : List ℕ) → sees t.Comma rest ≡ false
    → marks_by (ex.marks n scope) (us, ends) ≡ Some (ms, (vs, middle)) → ex.assignment n scope (vs, middle) ≡ Some (e, (rest, now))
    → read.expression_on (suc n) scope start m (us, ends) ≡ Some (c.Marked (c.a_mark m ms) e, (rest, start ∷ now))
unfolding read.expression_on
on_alone n scope start us vs rest m ms e ends middle now front first second = rw (first, second, front) refl

on_sequence : (n : ℕ) (scope : Scope) (start at : ℕ) (us vs ws rest : List Symbol) (m : c.Mark) (ms : c.Marks) (e : c.Expression) (parts : c.Expressions) (ends m1 m2 now : List ℕ)
    → marks_by (ex.marks n scope) (us, ends) ≡ Some (ms, (vs, m1)) → ex.assignment n scope (vs, m1) ≡ Some (e, (sign t.Comma at ∷ ws, m2))
    → ex.parts n scope (ws, start ∷ m2) ≡ Some (parts, (rest, now))
    → read.expression_on (suc n) scope start m (us, ends) ≡ Some (c.Comma (c.an_expression (c.Marked (c.a_mark m ms) e) parts), (rest, start ∷ now))
unfolding read.expression_on same_terminal
on_sequence n scope start at us vs ws rest m ms e parts ends m1 m2 now first second third = rw (first, second, third) refl

from_one : (scope : Scope) (start : ℕ) (m : c.Mark) (us : List Symbol) (ends : List ℕ) (z : Option (c.Expression × Rest)) (n : ℕ) → enough 5 us n
    → ((i : ℕ) → enough 5 us (suc i) → read.expression_on (suc i) scope start m (us, ends) ≡ z) → read.expression_on n scope start m (us, ends) ≡ z
from_one scope start m us ends z zero big f = absurd (omega arith)
from_one scope start m us ends z (suc i) big f = f i big

begun_alone : {scope : Scope} {ts rest : List Symbol} {e : c.Expression} {spots more : List ℕ} → IsMarked scope ts e rest spots more → follows rest ≡ 0
    → (ends : List ℕ) → Begun scope ts e rest spots more ends
begun_alone {scope} {ts} {rest} (marked {a} {us} {vs} {m} {ms} {e} {spots} {one} {two} {more} x z short w) quiet ends =
    let dm = complete_mark x ends in
    let dz = complete_more z (at_level w) dm.now in
    let dw = complete w dz.now (omega arith) in
    let front = not_seen t.Comma rest (omega arith) (λ k. omega arith) in
    record {
      first = m;
      comma = a;
      after = us;
      places = spots;
      between = one;
      first_read = dm;
      short = omega (arith, mark_shorter x);
      now = start_of ts ∷ dw.now;
      walked = node_of (λ v. walk_mark m (walk_marks ms (walk e v))) (start_of ts) dw.now more ends spots
          (ap (λ (v : Walked). walk_mark m (walk_marks ms v)) dw.walked ∙ ap (walk_mark m) dz.walked ∙ dm.walked);
      goes = λ n big. from_one scope (start_of ts) m us dm.now _ n big (λ i more_big. on_alone i scope (start_of ts) us vs rest m ms e dm.now dz.now dw.now front (dz.reads i (omega arith)) (dw.reads i (omega arith)));
    }

begun_sequence : {scope : Scope} {at : ℕ} {ts ws rest : List Symbol} {e : c.Expression} {parts : c.Expressions} {spots middle more : List ℕ}
    → IsMarked scope ts e (sign t.Comma at ∷ ws) spots middle → length ws ≤ length ts
    → ((now : List ℕ) → Read (λ n. ex.parts n scope) walk_all 6 ws parts rest middle more now)
    → (ends : List ℕ) → Begun scope ts (c.Comma (c.an_expression e parts)) rest (start_of ts ∷ spots) more ends
begun_sequence {scope} {at} {ts} {ws} {rest} {parts = parts} {more = more} (marked {a} {us} {vs} {m} {ms} {e} {spots} {one} {two} {more = middle} x z short w) shorter_still cp ends =
    let dm = complete_mark x ends in
    let dz = complete_more z (at_level w) dm.now in
    let dw = complete w dz.now (omega arith) in
    let dp = cp (start_of ts ∷ dw.now) in
    let inner : walk (c.Marked (c.a_mark m ms) e) (start_of ts ∷ dw.now, middle) ≡ (ends, start_of ts ∷ spots) =
    node_of (λ v. walk_mark m (walk_marks ms (walk e v))) (start_of ts) dw.now middle ends spots
    (ap (λ (v : Walked). walk_mark m (walk_marks ms v)) dw.walked ∙ ap (walk_mark m) dz.walked ∙ dm.walked) in
    record {
      first = m;
      comma = a;
      after = us;
      places = spots;
      between = one;
      first_read = dm;
      short = omega (arith, mark_shorter x);
      now = start_of ts ∷ dp.now;
      walked = node_of (λ v. walk (c.Marked (c.a_mark m ms) e) (walk_all parts v)) (start_of ts) dp.now more ends (start_of ts ∷ spots)
          (ap (walk (c.Marked (c.a_mark m ms) e)) dp.walked ∙ inner);
      goes = λ n big. from_one scope (start_of ts) m us dm.now _ n big (λ i more_big. on_sequence i scope (start_of ts) at us vs ws rest m ms e parts dm.now dz.now dw.now dp.now (dz.reads i (omega arith)) (dw.reads i (omega arith)) (dp.reads i (omega (arith, shorter w))));
    }

no_comma : {scope : Scope} {ts rest : List Symbol} {parts : c.Expressions} {spots more : List ℕ} → IsMarked scope ts (c.Comma parts) rest spots more → ⊥
no_comma d = elim d [ ]

pub complete_begun : {scope : Scope} {ts rest : List Symbol} {e : c.Expression} {spots more : List ℕ} → g.IsExpression scope g.comma ts e rest spots more → begins_mark ts ≡ true → follows rest ≡ 0
    → (ends : List ℕ) → Begun scope ts e rest spots more ends
complete_begun (g.of_marked x) b quiet ends = begun_alone (marked_parts x b) quiet ends
complete_begun (g.sequence x i z) b quiet ends = begun_sequence (marked_parts x b) (omega (arith, shorter x)) (λ now. complete_parts z now quiet) ends
complete_begun (g.longer_sequence x z) b quiet ends = absurd (no_comma (marked_parts x b))
