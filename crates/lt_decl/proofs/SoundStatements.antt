-- Statements and items that are read are derived: a step of each reading function.
use Rattle.std.proofs.Common.{◌≡◌, ℕ, suc, false, List, ◌∷◌, drop, Option, refl}
use Rattle.lt_tree.specs.declared.terminal.Terminal.{Terminal}
use Rattle.lt_tree.specs.declared.terminal.Terminal.TheVariants as t
use Rattle.lt_tree.specs.Tree as c
use Rattle.lt_tree.specs.Symbols.{Symbol, sign, start_of}
use Rattle.lt_tree.specs.Scope.{Scope, after_expression, after_optional, after_start, after_labels, after_statement}
use Rattle.lt_tree.specs.Ahead.{sees, begins_specifier}
use Rattle.lt_tree.specs.Grammar as g
use Rattle.lt_tree.specs.Statements as st
use Rattle.lt_tree.specs.Statements.{IsForStart, AreLabels, IsStatement, AreItems, AreCases}
use Rattle.lt_expr.specs.Front.{Rest, behind, begins_mark}
use Rattle.lt_expr.specs.Reading as ex
use Rattle.lt_expr.proofs.Sound.{sound}
use Rattle.lt_expr.proofs.SoundSteps.{Yields, given, weaker, both, chosen}
use Rattle.lt_expr.proofs.SoundFronts.{Sees, seen, at_front, seeing, expecting}
use Rattle.lt_expr.proofs.SoundSpots.{Spotted, no_spot, by_rule, same_walk, two, three, one_node, node_of_two, node_of_three}
use Rattle.lt_decl.specs.Items.{marked, after_item}
use Rattle.lt_decl.specs.Reading as read
use Rattle.lt_decl.specs.Walk.{walk_statement}
use Rattle.lt_decl.proofs.Walks.{item_walk}
use Rattle.lt_decl.proofs.SoundForms.{one_leaf, node_of_node, IsTest, test, IsUpTo, up_to, IsFirst, first, StatementSound, BehindSound, CasesSound, ItemsSound, IsItem, ItemSound, MarkedItemSound}
use Rattle.lt_decl.proofs.SoundDeclarations.{declaration_sound}
use Rattle.lt_decl.proofs.SoundMarked.{test_sound, optional_sound, for_start_sound, labels_sound, expression_on_sound}

-- ---- the rules, by what is seen

compound_rule : {scope : Scope} {ts rest : List Symbol} {items : c.Items} {spots more : List ℕ}
    → Sees t.OpenBrace ts → AreItems scope (drop 1 ts) items rest spots more → IsStatement scope ts (c.Compound items) rest (start_of ts ∷ spots) more
compound_rule seen h = st.compound h

null_rule : {scope : Scope} {ts : List Symbol} {more : List ℕ} → Sees t.Semicolon ts → IsStatement scope ts c.Null (drop 1 ts) (start_of ts ∷ more) more
null_rule seen = st.null

break_rule : {scope : Scope} {ts : List Symbol} {more : List ℕ}
    → Sees t.Break ts → Sees t.Semicolon (drop 1 ts) → IsStatement scope ts c.Break (drop 1 (drop 1 ts)) (start_of ts ∷ more) more
break_rule seen seen = st.break

continue_rule : {scope : Scope} {ts : List Symbol} {more : List ℕ}
    → Sees t.Continue ts → Sees t.Semicolon (drop 1 ts) → IsStatement scope ts c.Continue (drop 1 (drop 1 ts)) (start_of ts ∷ more) more
continue_rule seen seen = st.continue

return_rule : {scope : Scope} {ts rest : List Symbol} {e : Option c.Expression} {spots more : List ℕ}
    → Sees t.Return ts → IsUpTo t.Semicolon scope (drop 1 ts) e rest spots more → IsStatement scope ts (c.Return e) rest (start_of ts ∷ spots) more
return_rule seen (up_to h) = st.returns h

expression_rule : {scope : Scope} {ts us : List Symbol} {e : c.Expression} {spots more : List ℕ}
    → Sees t.Semicolon us → g.IsExpression scope g.comma ts e us spots more → IsStatement scope ts (c.Evaluates e) (drop 1 us) (start_of ts ∷ spots) more
expression_rule seen h = st.expression h

if_alone_rule : {scope : Scope} {at : ℕ} {ts us rest : List Symbol} {e : c.Expression} {x : c.Statement} {spots middle more : List ℕ}
    → IsTest scope ts e us spots middle → IsStatement (after_expression e scope) us x rest middle more → sees t.Else rest ≡ false
    → IsStatement scope (sign t.If at ∷ ts) (c.If e x) rest (at ∷ spots) more
if_alone_rule (test h) k no_else = st.if_alone h k no_else

if_else_rule : {scope : Scope} {at : ℕ} {ts us vs rest : List Symbol} {e : c.Expression} {x y : c.Statement} {spots one two more : List ℕ}
    → Sees t.Else vs → IsTest scope ts e us spots one → IsStatement (after_expression e scope) us x vs one two
    → IsStatement (after_expression e scope) (drop 1 vs) y rest two more → IsStatement scope (sign t.If at ∷ ts) (c.IfElse e x y) rest (at ∷ spots) more
if_else_rule seen (test h) k l = st.if_else h k l

while_rule : {scope : Scope} {at : ℕ} {ts us rest : List Symbol} {e : c.Expression} {x : c.Statement} {spots middle more : List ℕ}
    → IsTest scope ts e us spots middle → IsStatement (after_expression e scope) us x rest middle more
    → IsStatement scope (sign t.While at ∷ ts) (c.While e x) rest (at ∷ spots) more
while_rule (test h) k = st.while_loop h k

do_rule : {scope : Scope} {at : ℕ} {ts us vs : List Symbol} {e : c.Expression} {x : c.Statement} {spots middle more : List ℕ}
    → Sees t.While us → Sees t.Semicolon vs → IsStatement scope ts x us spots middle → IsTest scope (drop 1 us) e vs middle more
    → IsStatement scope (sign t.Do at ∷ ts) (c.Do x e) (drop 1 vs) (at ∷ spots) more
do_rule seen seen h (test k) = st.do_loop h k

for_rule : {scope : Scope} {at : ℕ} {ts us vs ws rest : List Symbol} {start : c.ForStart} {e s : Option c.Expression} {x : c.Statement} {spots one two three more : List ℕ}
    → Sees t.OpenParen ts → IsForStart scope (drop 1 ts) start us spots one → IsUpTo t.Semicolon (after_start start scope) us e vs one two
    → IsUpTo t.CloseParen (after_optional e (after_start start scope)) vs s ws two three
    → IsStatement (after_optional s (after_optional e (after_start start scope))) ws x rest three more
    → IsStatement scope (sign t.For at ∷ ts) (c.For start e s x) rest (at ∷ spots) more
for_rule seen h (up_to k) (up_to l) m = st.for_loop h refl k refl l m

-- what stands behind the start of a `for` makes it a statement
record IsBehindStart (scope : Scope) (at : ℕ) (ts : List Symbol) (start : c.ForStart) (us : List Symbol) (e s : Option c.Expression) (x : c.Statement) (rest : List Symbol) (middle more : List ℕ) : Type 0 where
  rule : (spots : List ℕ) → IsForStart scope (drop 1 ts) start us spots middle → IsStatement scope (sign t.For at ∷ ts) (c.For start e s x) rest (at ∷ spots) more

switch_rule : {scope : Scope} {at : ℕ} {ts us rest : List Symbol} {e : c.Expression} {cases : c.Cases} {spots middle more : List ℕ}
    → Sees t.OpenBrace us → IsTest scope ts e us spots middle → AreCases (after_expression e scope) (drop 1 us) cases rest middle more
    → IsStatement scope (sign t.Switch at ∷ ts) (c.Switch e cases) rest (at ∷ spots) more
switch_rule seen (test h) k = st.switch h k

no_cases_rule : {scope : Scope} {ts : List Symbol} {more : List ℕ} → Sees t.CloseBrace ts → AreCases scope ts c.no_cases (drop 1 ts) more more
no_cases_rule seen = st.no_more_cases

no_items_rule : {scope : Scope} {ts : List Symbol} {more : List ℕ} → Sees t.CloseBrace ts → AreItems scope ts c.no_items (drop 1 ts) more more
no_items_rule seen = st.no_more_items

label_rule : {scope : Scope} {ts us : List Symbol} {m : c.Mark} {spots middle : List ℕ}
    → Sees t.Semicolon us → g.IsMark scope ts m us spots middle → IsItem scope ts (marked m) (drop 1 us) (start_of ts ∷ spots) middle
label_rule seen h = record { before = λ items end more k. st.label h k }

first_rule : {scope : Scope} {ts us : List Symbol} {m : c.Mark} {spots more : List ℕ} → Sees t.Comma us → g.IsMark scope ts m us spots more → IsFirst scope ts m (drop 1 us) spots more
first_rule seen h = first h

-- ---- a step of each

-- a statement behind a terminal that stands in front
behind_sign : (k : Terminal) {f : Scope → ℕ → Rest → Option (c.Statement × Rest)} → BehindSound k f → (scope : Scope) (r : Rest) → Sees k r.0
    → Yields (f scope (start_of r.0) (behind r)) (λ x. Spotted (walk_statement x.0) x.1.1 r.1 (IsStatement scope r.0 x.0 x.1.0))
behind_sign k sound scope r s =
    weaker (λ x h. by_rule (λ spots more l. at_front s (λ ts. IsStatement scope ts x.0 x.1.0 spots more) l) h) (sound scope (start_of r.0) (behind r))

pub statement_step : (n : ℕ) → ItemsSound n → BehindSound t.If (read.choice n) → BehindSound t.While (read.while_loop n) → BehindSound t.Do (read.do_loop n)
    → BehindSound t.For (read.for_loop n) → BehindSound t.Switch (read.switch n) → StatementSound (read.simple n) → StatementSound (read.statement (suc n))
unfolding read.statement
statement_step n items choice while_loop do_loop for_loop switch simple scope r =
    seeing t.OpenBrace r.0 (λ q. cc)
    (λ s. both (read.items n scope (behind r)) (items scope (behind r)) (λ y h. given (one_node (λ spots more k. compound_rule s k) h)))
    (λ a. seeing t.Semicolon r.0 (λ q. cc) (λ s. given (one_leaf (λ more. null_rule s)))
    (λ b. seeing t.If r.0 (λ q. cc) (λ s. behind_sign t.If {f = read.choice n} choice scope r s)
    (λ d. seeing t.While r.0 (λ q. cc) (λ s. behind_sign t.While {f = read.while_loop n} while_loop scope r s)
    (λ e. seeing t.Do r.0 (λ q. cc) (λ s. behind_sign t.Do {f = read.do_loop n} do_loop scope r s)
    (λ f. seeing t.For r.0 (λ q. cc) (λ s. behind_sign t.For {f = read.for_loop n} for_loop scope r s)
    (λ h. seeing t.Switch r.0 (λ q. cc) (λ s. behind_sign t.Switch {f = read.switch n} switch scope r s)
    (λ i. simple scope r)))))))

pub simple_step : (n : ℕ) → StatementSound (read.simple (suc n))
unfolding read.statement
simple_step n scope r =
    seeing t.Break r.0 (λ q. cc)
    (λ s. expecting t.Semicolon (behind r) _ (λ q. cc) (λ end. given (one_leaf (λ more. break_rule s end))))
    (λ a. seeing t.Continue r.0 (λ q. cc)
    (λ s. expecting t.Semicolon (behind r) _ (λ q. cc) (λ end. given (one_leaf (λ more. continue_rule s end))))
    (λ b. seeing t.Return r.0 (λ q. cc)
    (λ s.
    both (read.optional n scope t.Semicolon (behind r)) (optional_sound n scope t.Semicolon (behind r) (λ q. cc)) (λ x h.
    given (one_node (λ spots more k. return_rule s k) h)))
    (λ d.
    both (ex.expression n scope r) ((sound n).expression scope r) (λ x h.
    expecting t.Semicolon x.1 _ (λ q. cc) (λ end.
    given (one_node (λ spots more k. expression_rule end k) h))))))

pub choice_step : (n : ℕ) → StatementSound (read.statement n) → BehindSound t.If (read.choice (suc n))
unfolding read.statement
choice_step n statement scope at r =
    both (read.controlling n scope r) (test_sound n scope r) (λ e h.
    both (read.statement n (after_expression e.0 scope) e.1) (statement (after_expression e.0 scope) e.1) (λ x k.
    seeing t.Else x.1.0 (λ q. cc)
    (λ s.
    both (read.statement n (after_expression e.0 scope) (behind x.1)) (statement (after_expression e.0 scope) (behind x.1)) (λ y l.
    given (node_of_three (λ spots one two more a b f. if_else_rule s a b f) h k l)))
    (λ no_else. given (node_of_two (λ spots middle more a b. if_alone_rule a b no_else) h k))))

pub while_step : (n : ℕ) → StatementSound (read.statement n) → BehindSound t.While (read.while_loop (suc n))
unfolding read.statement
while_step n statement scope at r =
    both (read.controlling n scope r) (test_sound n scope r) (λ e h.
    both (read.statement n (after_expression e.0 scope) e.1) (statement (after_expression e.0 scope) e.1) (λ x k.
    given (node_of_two (λ spots middle more a b. while_rule a b) h k)))

pub do_step : (n : ℕ) → StatementSound (read.statement n) → BehindSound t.Do (read.do_loop (suc n))
unfolding read.statement
do_step n statement scope at r =
    both (read.statement n scope r) (statement scope r) (λ x h.
    expecting t.While x.1 _ (λ q. cc) (λ s.
    both (read.controlling n scope (behind x.1)) (test_sound n scope (behind x.1)) (λ e k.
    expecting t.Semicolon e.1 _ (λ q. cc) (λ end.
    given (node_of_two (λ spots middle more a b. do_rule s end a b) h k)))))

pub for_step : (n : ℕ) → StatementSound (read.statement n) → BehindSound t.For (read.for_loop (suc n))
unfolding read.statement
for_step n statement scope at r =
    expecting t.OpenParen r _ (λ q. cc) (λ paren.
    both (read.for_start n scope (behind r)) (for_start_sound n scope (behind r)) (λ f h.
    both (read.optional n (after_start f.0 scope) t.Semicolon f.1) (optional_sound n (after_start f.0 scope) t.Semicolon f.1 (λ q. cc)) (λ e k.
    both (read.optional n (after_optional e.0 (after_start f.0 scope)) t.CloseParen e.1) (optional_sound n (after_optional e.0 (after_start f.0 scope)) t.CloseParen e.1 (λ q. cc)) (λ s l.
    both (read.statement n (after_optional s.0 (after_optional e.0 (after_start f.0 scope))) s.1) (statement (after_optional s.0 (after_optional e.0 (after_start f.0 scope))) s.1) (λ x m.
    given (node_of_two (λ spots middle more a b. b.rule spots a) h
    (three {U = IsBehindStart scope at r.0 f.0 f.1.0 e.0 s.0 x.0 x.1.0} (λ spots one two more a b d. record { rule = λ front z. for_rule paren z a b d }) k l m)))))))

pub switch_step : (n : ℕ) → CasesSound n → BehindSound t.Switch (read.switch (suc n))
unfolding read.statement
switch_step n cases scope at r =
    both (read.controlling n scope r) (test_sound n scope r) (λ e h.
    expecting t.OpenBrace e.1 _ (λ q. cc) (λ s.
    both (read.cases n (after_expression e.0 scope) (behind e.1)) (cases (after_expression e.0 scope) (behind e.1)) (λ y k.
    given (node_of_two (λ spots middle more a b. switch_rule s a b) h k))))

pub cases_step : (n : ℕ) → StatementSound (read.statement n) → CasesSound n → CasesSound (suc n)
unfolding read.statement
cases_step n statement cases scope r =
    seeing t.CloseBrace r.0 (λ q. cc)
    (λ s. given (no_spot (λ more. no_cases_rule s)))
    (λ not.
    both (read.labels n scope r) (labels_sound n scope r) (λ ls h.
    both (read.statement n (after_labels ls.0 scope) ls.1) (statement (after_labels ls.0 scope) ls.1) (λ x k.
    both (read.cases n (after_statement x.0 (after_labels ls.0 scope)) x.1) (cases (after_statement x.0 (after_labels ls.0 scope)) x.1) (λ y l.
    given (three (λ spots one two more a b d. st.one_more_case a b d) h k l)))))

pub items_step : (n : ℕ) → ItemSound n → ItemsSound n → ItemsSound (suc n)
unfolding read.statement
items_step n item items scope r =
    seeing t.CloseBrace r.0 (λ q. cc)
    (λ s. given (no_spot (λ more. no_items_rule s)))
    (λ not.
    both (read.item n scope r) (item scope r) (λ i h.
    both (read.items n (after_item i.0 scope) i.1) (items (after_item i.0 scope) i.1) (λ y k.
    given (same_walk (item_walk i.0 y.0) (two (λ spots middle more a b. a.before y.0 y.1.0 more b) h k)))))

pub item_step : (n : ℕ) → StatementSound (read.statement n) → MarkedItemSound n → ItemSound (suc n)
unfolding read.statement
item_step n statement marked_item scope r =
    chosen (begins_mark r.0)
    (λ b. both (ex.mark n scope r) ((sound n).mark scope r) (λ m h. marked_item scope m.0 r m.1 h))
    (λ b. chosen (begins_specifier scope false r.0)
    (λ b.
    both (read.declaration n scope r) ((declaration_sound n).2 scope r) (λ d h.
    given (one_node (λ spots middle k. record { before = λ items end more l. st.declaration k l }) h)))
    (λ b.
    both (read.statement n scope r) (statement scope r) (λ x h.
    given (one_node (λ spots middle k. record { before = λ items end more l. st.statement k l }) h))))

pub marked_item_step : (n : ℕ) → MarkedItemSound (suc n)
unfolding read.statement
marked_item_step n scope m from r h =
    seeing t.Semicolon r.0 (λ q. cc)
    (λ s. given (one_node (λ spots middle k. label_rule s k) h))
    (λ not.
    expecting t.Comma r _ (λ q. cc) (λ comma.
    both (read.expression_on n scope (start_of from.0) m (behind r)) (expression_on_sound n scope m from (behind r) (by_rule (λ spots more k. first_rule comma k) h)) (λ x k.
    expecting t.Semicolon x.1 _ (λ q. cc) (λ s.
    given (node_of_node (λ spots middle l. record { before = λ items end more z. st.statement (expression_rule s l) z }) k)))))
