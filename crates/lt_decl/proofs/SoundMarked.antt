-- What stands in statements: tests, optional expressions, starts of loops, labels, and expressions behind their first mark. What is read is derived.
use Rattle.std.proofs.Common.{ℕ, zero, suc, false, List, ◌∷◌, drop, Option, Some, None, refl}
use Rattle.lt_tree.specs.declared.terminal.Terminal.{Terminal}
use Rattle.lt_tree.specs.declared.terminal.Terminal.TheVariants as t
use Rattle.lt_tree.specs.Tree as c
use Rattle.lt_tree.specs.Symbols.{Symbol, start_of}
use Rattle.lt_tree.specs.Scope.{Scope, after_expression}
use Rattle.lt_tree.specs.Ahead.{begins_specifier}
use Rattle.lt_tree.specs.Grammar as g
use Rattle.lt_tree.specs.Statements as st
use Rattle.lt_tree.specs.Statements.{IsForStart, AreLabels}
use Rattle.lt_expr.specs.Front.{Rest, behind, ended, begins_mark}
use Rattle.lt_expr.specs.Walk.{walk, walk_marks}
use Rattle.lt_expr.specs.Reading as ex
use Rattle.lt_expr.proofs.Sound.{sound}
use Rattle.lt_expr.proofs.SoundSteps.{Yields, nothing, given, weaker, both, chosen}
use Rattle.lt_expr.proofs.SoundFronts.{Sees, seen, seeing, expecting}
use Rattle.lt_expr.proofs.SoundSpots.{Spotted, no_spot, by_rule, same_walk, two, node_of_two, node_of_three, node_and_others}
use Rattle.lt_decl.specs.Items.{start_by, marks_by}
use Rattle.lt_decl.specs.Reading as read
use Rattle.lt_decl.proofs.Walks.{start_walk}
use Rattle.lt_decl.proofs.SoundForms.{one_leaf, IsTest, test, TestSound, IsUpTo, up_to, OptionalSound, DeclarationSound, ForStartSound, LabelsSound, IsFirst, first, AreMore, none, some, OnSound}
use Rattle.lt_decl.proofs.SoundDeclarations.{declaration_sound}

-- ---- the rules, by what is seen

test_rule : {scope : Scope} {ts us : List Symbol} {e : c.Expression} {spots more : List ℕ}
    → Sees t.OpenParen ts → Sees t.CloseParen us → g.IsExpression scope g.comma (drop 1 ts) e us spots more → IsTest scope ts e (drop 1 us) spots more
test_rule seen seen h = test h

left_out_rule : {k : Terminal} {scope : Scope} {ts : List Symbol} {more : List ℕ} → Sees k ts → IsUpTo k scope ts None (drop 1 ts) more more
left_out_rule seen = up_to st.left_out

given_rule : {k : Terminal} {scope : Scope} {ts us : List Symbol} {e : c.Expression} {spots more : List ℕ}
    → Sees k us → g.IsExpression scope g.comma ts e us spots more → IsUpTo k scope ts (Some e) (drop 1 us) spots more
given_rule seen h = up_to (st.given h)

start_rule : {scope : Scope} {ts rest : List Symbol} (x : Option c.Expression) {spots more : List ℕ}
    → IsUpTo t.Semicolon scope ts x rest spots more → IsForStart scope ts (start_by x) rest spots more
start_rule None (up_to st.left_out) = st.nothing
start_rule (Some e) (up_to (st.given h)) = st.expression h

case_rule : {scope : Scope} {ts us rest : List Symbol} {e : c.Expression} {labels : List c.Label} {spots middle more : List ℕ}
    → Sees t.Case ts → Sees t.Colon us → g.IsExpression scope g.conditional (drop 1 ts) e us spots middle
    → AreLabels (after_expression e scope) (drop 1 us) labels rest middle more → AreLabels scope ts (c.Case e ∷ labels) rest (start_of ts ∷ spots) more
case_rule seen seen h k = st.case_label h k

default_rule : {scope : Scope} {ts rest : List Symbol} {labels : List c.Label} {spots more : List ℕ}
    → Sees t.Default ts → Sees t.Colon (drop 1 ts) → AreLabels scope (drop 1 (drop 1 ts)) labels rest spots more
    → AreLabels scope ts (c.Default ∷ labels) rest (start_of ts ∷ spots) more
default_rule seen seen h = st.default_label h

marks_rule : {scope : Scope} {ts us vs : List Symbol} {m : c.Mark} {ms : c.Marks} {spots middle more : List ℕ}
    → IsFirst scope ts m us spots middle → AreMore scope us ms vs middle more → g.AreMarks scope ts (c.a_mark m ms) vs spots more
marks_rule (first h) none = g.last_mark h
marks_rule (first h) (some k) = g.more_marks h k

sequence_rule : {scope : Scope} {ts us rest : List Symbol} {ms : c.Marks} {e : c.Expression} {parts : c.Expressions} {spots middle more : List ℕ}
    → Sees t.Comma us → g.IsExpression scope g.marked ts (c.Marked ms e) us spots middle → g.AreParts scope (drop 1 us) parts rest middle more
    → g.IsExpression scope g.comma ts (c.Comma (c.an_expression (c.Marked ms e) parts)) rest (start_of ts ∷ spots) more
sequence_rule seen h k = g.sequence h refl k

-- ---- a step of each

test_step : (n : ℕ) → TestSound (suc n)
unfolding read.controlling
test_step n scope r =
    expecting t.OpenParen r _ (λ q. cc) (λ open_paren.
    both (ex.expression n scope (behind r)) ((sound n).expression scope (behind r)) (λ x h.
    expecting t.CloseParen x.1 _ (λ q. cc) (λ close.
    given (by_rule (λ spots more k. test_rule open_paren close k) h))))

optional_step : (n : ℕ) → OptionalSound (suc n)
unfolding read.controlling
optional_step n scope k r real =
    seeing k r.0 real
    (λ s. given (no_spot (λ more. left_out_rule s)))
    (λ not.
    both (ex.expression n scope r) ((sound n).expression scope r) (λ x h.
    expecting k x.1 _ real (λ s.
    given (by_rule (λ spots more l. given_rule s l) h))))

for_start_step : (n : ℕ) → DeclarationSound n → OptionalSound n → ForStartSound (suc n)
unfolding read.controlling
for_start_step n declaration optional scope r =
    chosen (begins_specifier scope false r.0)
    (λ b. both (read.declaration n scope r) (declaration scope r) (λ x h. given (by_rule (λ spots more k. st.declaration k) h)))
    (λ b.
    both (read.optional n scope t.Semicolon r) (optional scope t.Semicolon r (λ q. cc)) (λ x h.
    given (same_walk (start_walk x.0) (by_rule (λ spots more k. start_rule x.0 k) h))))

labels_step : (n : ℕ) → LabelsSound n → LabelsSound (suc n)
unfolding read.controlling
labels_step n labels scope r =
    seeing t.Case r.0 (λ q. cc)
    (λ s.
    both (ex.conditional n scope (behind r)) ((sound n).conditional scope (behind r)) (λ x h.
    expecting t.Colon x.1 _ (λ q. cc) (λ colon.
    both (read.labels n (after_expression x.0 scope) (ended (start_of r.0) (behind x.1))) (labels (after_expression x.0 scope) (ended (start_of r.0) (behind x.1))) (λ y k.
    given (node_and_others (λ spots middle more a b. case_rule s colon a b) h k)))))
    (λ no_case.
    seeing t.Default r.0 (λ q. cc)
    (λ s.
    expecting t.Colon (behind r) _ (λ q. cc) (λ colon.
    both (read.labels n scope (ended (start_of r.0) (behind (behind r)))) (labels scope (ended (start_of r.0) (behind (behind r)))) (λ y k.
    given (two {R = λ spots middle. (more : List ℕ) → AreLabels scope (drop 1 (drop 1 r.0)) y.0 y.1.0 middle more → AreLabels scope r.0 (c.Default ∷ y.0) y.1.0 spots more}
    (λ spots middle more a b. a more b) (one_leaf (λ middle more b. default_rule s colon b)) k))))
    (λ no_default. given (no_spot (λ more. st.no_labels no_case no_default))))

-- ---- expressions behind their first mark

more_marks : (n : ℕ) (scope : Scope) (r : Rest) → Yields (marks_by (ex.marks n scope) r) (λ x. Spotted (walk_marks x.0) x.1.1 r.1 (AreMore scope r.0 x.0 x.1.0))
more_marks n scope r =
    chosen (begins_mark r.0)
    (λ b. weaker (λ x h. by_rule (λ spots more k. some k) h) ((sound n).marks scope r))
    (λ b. given (no_spot (λ more. none)))

pub expression_on_sound : (n : ℕ) → OnSound n
unfolding read.expression_on
expression_on_sound zero scope m from r d = nothing
expression_on_sound (suc n) scope m from r d =
    both (marks_by (ex.marks n scope) r) (more_marks n scope r) (λ ms h.
    both (ex.assignment n scope ms.1) ((sound n).assignment scope ms.1) (λ x k.
    let whole : Spotted (walk (c.Marked (c.a_mark m ms.0) x.0)) (start_of from.0 ∷ x.1.1) from.1 (g.IsExpression scope g.marked from.0 (c.Marked (c.a_mark m ms.0) x.0) x.1.0) =
    node_of_three (λ spots one two more a b f. g.behind_marks (marks_rule a b) f) d h k in
    seeing t.Comma x.1.0 (λ q. cc)
    (λ s.
    both (ex.parts n scope (behind (ended (start_of from.0) x.1))) ((sound n).parts scope (behind (ended (start_of from.0) x.1))) (λ y l.
    given (node_of_two (λ spots middle more a b. sequence_rule s a b) whole l)))
    (λ last. given (by_rule (λ spots more a. g.of_marked a) whole))))

-- ---- all of them

pub test_sound : (n : ℕ) → TestSound n
unfolding read.controlling
test_sound zero = λ scope r. nothing
test_sound (suc n) = test_step n

pub optional_sound : (n : ℕ) → OptionalSound n
unfolding read.controlling
optional_sound zero = λ scope k r real. nothing
optional_sound (suc n) = optional_step n

pub for_start_sound : (n : ℕ) → ForStartSound n
unfolding read.controlling
for_start_sound zero = λ scope r. nothing
for_start_sound (suc n) = for_start_step n (declaration_sound n).2 (optional_sound n)

pub labels_sound : (n : ℕ) → LabelsSound n
unfolding read.controlling
labels_sound zero = λ scope r. nothing
labels_sound (suc n) = labels_step n (labels_sound n)
