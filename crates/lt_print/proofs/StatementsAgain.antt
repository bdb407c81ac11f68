-- The words of statements derive them again, C11 6.8.
use Rattle.std.specs.Prelude.{◌≡◌, ℕ, suc, Bool, true, false, List, [], ◌∷◌, ◌++◌, Option, Some, None, refl}
use Rattle.std.specs.List.{flat_map}
use Rattle.lt_tree.specs.declared.terminal.Terminal.TheVariants as k
use Rattle.lt_tree.specs.Tree as c
use Rattle.lt_tree.specs.Symbols as s
use Rattle.lt_tree.specs.Symbols.{Symbol}
use Rattle.lt_tree.specs.Scope.{Scope, after_expression, after_optional, after_start, after_labels, after_declaration, after_statement, after_mark}
use Rattle.lt_tree.specs.Ahead.{same_terminal, sees}
use Rattle.lt_tree.specs.Grammar as g
use Rattle.lt_tree.specs.Grammar.{comma}
use Rattle.lt_tree.specs.Statements as st
use Rattle.lt_tree.specs.Statements.{IsOptional, IsForStart, AreLabels, IsStatement, AreItems, AreCases}
use Rattle.lt_tree.specs.Pieces.{gap, indent, line_end}
use Rattle.lt_tree.specs.Canon.{Pieces, sign, in_parentheses, operand, expression, mark}
use Rattle.lt_tree.specs.CanonUnits.{declaration, optional, for_start, label_line, body, lines, item_lines, case_lines}
use Rattle.lt_print.proofs.ReadPieces.{Reads, done, a_sign, a_gap, an_indent, a_line_end, off_line_end, off_indent, parted, Split, split, inside}
use Rattle.lt_print.proofs.Claims.{Stands, Again, MarkAgain}
use Rattle.lt_print.proofs.DeclarationsAgain.{DeclarationAgain}
use Rattle.lt_print.proofs.Labels.{statement_front, items_front, cases_front}

-- ---- what is shown

abbrev pub OptionalStands : Scope → Option c.Expression → Type 0
OptionalStands scope None = Unit {0}
OptionalStands scope (Some e) = Stands scope e

abbrev pub StartAgain : Scope → c.ForStart → Type 0
StartAgain scope start = (n : ℕ) (ts rest : List Symbol) (more : List ℕ) → Reads (for_start n start) ts rest → (spots : List ℕ) × IsForStart scope ts start rest spots more

abbrev pub LabelsFit : Scope → List c.Label → Type 0
LabelsFit scope [] = Unit {0}
LabelsFit scope (c.Case e ∷ labels) = Stands scope e × LabelsFit (after_expression e scope) labels
LabelsFit scope (c.Default ∷ labels) = LabelsFit scope labels

-- a statement behind which an `else` may stand or not, as in the source
abbrev pub StatementAgain : Scope → Bool → c.Statement → Type 0
StatementAgain scope else_follows x =
    (n : ℕ) (ts rest : List Symbol) (more : List ℕ) → (else_follows ≡ false → sees k.Else rest ≡ false) → Reads (lines n x) ts rest
    → (spots : List ℕ) × IsStatement scope ts x rest spots more

-- before the closing brace
abbrev pub ItemsAgain : Scope → c.Items → Type 0
ItemsAgain scope items =
    (n at : ℕ) (ts rest : List Symbol) (more : List ℕ) → Reads (item_lines n items) ts (s.sign k.CloseBrace at ∷ rest)
    → (spots : List ℕ) × AreItems scope ts items rest spots more

abbrev pub CasesAgain : Scope → c.Cases → Type 0
CasesAgain scope cases =
    (n at : ℕ) (ts rest : List Symbol) (more : List ℕ) → Reads (case_lines n cases) ts (s.sign k.CloseBrace at ∷ rest)
    → (spots : List ℕ) × AreCases scope ts cases rest spots more

-- ---- parts of statements

pub optional_again : (scope : Scope) (n : ℕ) (e : Option c.Expression) → OptionalStands scope e → (ts rest : List Symbol) (more : List ℕ)
    → Reads (optional n e) ts rest → (spots : List ℕ) × IsOptional scope ts e rest spots more
optional_again scope n None is ts rest more done = (more, st.left_out)
optional_again scope n (Some e) is ts rest more (a_gap r) = let got = is n comma ts rest more r in (got.0, st.given got.1)

-- a body, on whichever line
pub in_body : (n : ℕ) (x : c.Statement) {ts rest : List Symbol} → Reads (body n x (lines n x) (lines (suc n) x)) ts rest → (m : ℕ) × Reads (lines m x) ts rest
in_body n (c.Compound items) (a_gap r) = (n, r)
in_body n (c.Evaluates e) (a_line_end (an_indent r)) = (suc n, r)
in_body n c.Null (a_line_end (an_indent r)) = (suc n, r)
in_body n (c.If test x) (a_line_end (an_indent r)) = (suc n, r)
in_body n (c.IfElse test x y) (a_line_end (an_indent r)) = (suc n, r)
in_body n (c.While test x) (a_line_end (an_indent r)) = (suc n, r)
in_body n (c.Do x test) (a_line_end (an_indent r)) = (suc n, r)
in_body n (c.For start test step x) (a_line_end (an_indent r)) = (suc n, r)
in_body n (c.Switch e inside) (a_line_end (an_indent r)) = (suc n, r)
in_body n c.Break (a_line_end (an_indent r)) = (suc n, r)
in_body n c.Continue (a_line_end (an_indent r)) = (suc n, r)
in_body n (c.Return e) (a_line_end (an_indent r)) = (suc n, r)

-- the lines in braces
pub record Braced (a : Pieces) (ts rest : List Symbol) : Type 0 where
  pub end : ℕ
  pub front : Reads a ts (s.sign k.CloseBrace end ∷ rest)

braced_at : {n : ℕ} {a : Pieces} {ts between rest : List Symbol} → Reads a ts between → Reads (indent n ∷ sign k.CloseBrace ∷ line_end ∷ []) between rest → Braced a ts rest
braced_at x (an_indent (a_sign (a_line_end done))) = record { end = _; front = x }

pub braced : (n : ℕ) (a : Pieces) {ts rest : List Symbol} → Reads (a ++ indent n ∷ sign k.CloseBrace ∷ line_end ∷ []) ts rest → Braced a ts rest
braced n a r = let q = parted a (indent n ∷ sign k.CloseBrace ∷ line_end ∷ []) r in braced_at q.front q.back

-- up to the semicolon of the line
pub record Line (a : Pieces) (ts rest : List Symbol) : Type 0 where
  pub end : ℕ
  pub front : Reads a ts (s.sign k.Semicolon end ∷ rest)

line_at : {a : Pieces} {ts between rest : List Symbol} → Reads a ts between → Reads (sign k.Semicolon ∷ line_end ∷ []) between rest → Line a ts rest
line_at x (a_sign (a_line_end done)) = record { end = _; front = x }

pub line : (a : Pieces) {ts rest : List Symbol} → Reads (a ++ sign k.Semicolon ∷ line_end ∷ []) ts rest → Line a ts rest
line a r = let q = parted a (sign k.Semicolon ∷ line_end ∷ []) r in line_at q.front q.back

-- ---- simple statements

pub null_again : {scope : Scope} {f : Bool} → StatementAgain scope f c.Null
unfolding lines
null_again n ts rest more els (a_sign (a_line_end done)) = (_, st.null)

pub break_again : {scope : Scope} {f : Bool} → StatementAgain scope f c.Break
unfolding lines
break_again n ts rest more els (a_sign (a_sign (a_line_end done))) = (_, st.break)

pub continue_again : {scope : Scope} {f : Bool} → StatementAgain scope f c.Continue
unfolding lines
continue_again n ts rest more els (a_sign (a_sign (a_line_end done))) = (_, st.continue)

pub evaluates_again : {scope : Scope} {f : Bool} {e : c.Expression} → Again scope e → StatementAgain scope f (c.Evaluates e)
unfolding lines
evaluates_again {scope} {f} {e} again n ts rest more els r =
    let q = line (operand n comma e) r in let got = again.stands n comma ts (s.sign k.Semicolon q.end ∷ rest) more q.front in (_, st.expression got.1)

pub returns_again : {scope : Scope} {f : Bool} (e : Option c.Expression) → OptionalStands scope e → StatementAgain scope f (c.Return e)
unfolding lines
returns_again {scope} {f} e is n ts rest more els (a_sign {ts = us} r) =
    let q = line (optional n e) r in let got = optional_again scope n e is us (s.sign k.Semicolon q.end ∷ rest) more q.front in (_, st.returns got.1)

-- ---- blocks

pub compound_again : {scope : Scope} {f : Bool} {items : c.Items} → ItemsAgain scope items → StatementAgain scope f (c.Compound items)
unfolding lines
compound_again {scope} {f} {items} again n ts rest more els (a_sign {ts = us} (a_line_end r)) =
    let q = braced n (item_lines (suc n) items) r in let got = again (suc n) q.end us rest more q.front in (_, st.compound got.1)

pub no_items_again : {scope : Scope} → ItemsAgain scope c.no_items
unfolding lines
no_items_again n at ts rest more done = (more, st.no_more_items)

pub declaration_item_again : {scope : Scope} {x : c.Declaration} {items : c.Items} → DeclarationAgain scope x → ItemsAgain (after_declaration x scope) items → ItemsAgain scope (c.a_declaration x items)
unfolding lines
declaration_item_again {scope} {x} {items} again others n at ts rest more (an_indent r) =
    let q = parted (declaration n x) (line_end ∷ item_lines n items) r in
    let behind = others n at q.between rest more (off_line_end q.back) in
    let got = again n ts q.between behind.0 q.front in
    (_, st.declaration got.1 behind.1)

pub statement_item_again : {scope : Scope} {f : Bool} {x : c.Statement} {items : c.Items} → StatementAgain scope f x → ItemsAgain (after_statement x scope) items → ItemsAgain scope (c.a_statement x items)
unfolding lines
statement_item_again {scope} {f} {x} {items} again others n at ts rest more (an_indent r) =
    let q = parted (lines n x) (item_lines n items) r in
    let behind = others n at q.between rest more q.back in
    let got = again n ts q.between behind.0 (λ e. items_front behind.1) q.front in
    (_, st.statement got.1 behind.1)

pub label_item_again : {scope : Scope} {m : c.Mark} {items : c.Items} → MarkAgain scope m → ItemsAgain (after_mark m scope) items → ItemsAgain scope (c.a_label m items)
unfolding lines
label_item_again {scope} {m} {items} again others n at ts rest more (an_indent r) =
    let q = split (mark n m) k.Semicolon (line_end ∷ item_lines n items) r in
    let behind = others n at q.between rest more (off_line_end q.back) in
    let got = again n ts (s.sign k.Semicolon q.at ∷ q.between) behind.0 q.front in
    (_, st.label got.1 behind.1)

-- ---- switches

colon_at : {a b : Pieces} {ts between past rest : List Symbol} → Reads a ts between → Reads (sign k.Colon ∷ line_end ∷ []) between past → Reads b past rest → Split a k.Colon b ts rest
colon_at x (a_sign (a_line_end done)) y = record { at = _; between = _; front = x; back = y }

split_colon : (a b : Pieces) {ts rest : List Symbol} → Reads (a ++ sign k.Colon ∷ line_end ∷ [] ++ b) ts rest → Split a k.Colon b ts rest
split_colon a b r = let q = parted (a ++ sign k.Colon ∷ line_end ∷ []) b r in let p = parted a (sign k.Colon ∷ line_end ∷ []) q.front in colon_at p.front p.back q.back

labels_again : (scope : Scope) (n : ℕ) (labels : List c.Label) → LabelsFit scope labels → (ts rest : List Symbol) (more : List ℕ) → sees k.Case rest ≡ false → sees k.Default rest ≡ false
    → Reads (flat_map (label_line n) labels) ts rest → (spots : List ℕ) × AreLabels scope ts labels rest spots more
labels_again scope n [] fit ts rest more x y done = (more, st.no_labels x y)
labels_again scope n (c.Case e ∷ labels) fit ts rest more x y (an_indent (a_sign (a_gap {ts = us} r))) =
    let q = split_colon (operand n g.conditional e) (flat_map (label_line n) labels) r in
    let others = labels_again (after_expression e scope) n labels fit.1 q.between rest more x y q.back in
    let got = fit.0 n g.conditional us (s.sign k.Colon q.at ∷ q.between) others.0 q.front in
    (_, st.case_label got.1 others.1)
labels_again scope n (c.Default ∷ labels) fit ts rest more x y (an_indent (a_sign (a_sign {ts = us} (a_line_end r)))) =
    let others = labels_again scope n labels fit us rest more x y r in (_, st.default_label others.1)

pub no_cases_again : {scope : Scope} → CasesAgain scope c.no_cases
unfolding lines
no_cases_again n at ts rest more done = (more, st.no_more_cases)

pub case_again : {scope : Scope} {f : Bool} (labels : List c.Label) {x : c.Statement} {cases : c.Cases} → LabelsFit scope labels → StatementAgain (after_labels labels scope) f x
    → CasesAgain (after_statement x (after_labels labels scope)) cases → CasesAgain scope (c.a_case labels x cases)
unfolding lines
case_again {scope} {f} labels {x} {cases} fit again others n at ts rest more r =
    let q = parted (flat_map (label_line n) labels ++ indent n ∷ lines n x) (case_lines n cases) r in
    let p = parted (flat_map (label_line n) labels) (indent n ∷ lines n x) q.front in
    let behind = others n at q.between rest more q.back in
    let got = again n p.between q.between behind.0 (λ e. cases_front behind.1) (off_indent p.back) in
    let front = statement_front got.1 in
    let before = labels_again scope n labels fit ts p.between got.0 front.no_case front.no_default p.front in
    (_, st.one_more_case before.1 got.1 behind.1)

pub switch_again : {scope : Scope} {f : Bool} {e : c.Expression} {cases : c.Cases} → Again scope e → CasesAgain (after_expression e scope) cases → StatementAgain scope f (c.Switch e cases)
unfolding lines
switch_again {scope} {f} {e} {cases} again others n ts rest more els r =
    let q = braced n (sign k.Switch ∷ gap ∷ in_parentheses (expression n e) ++ gap ∷ sign k.OpenBrace ∷ line_end ∷ case_lines (suc n) cases) r in
    let p = parted (sign k.Switch ∷ gap ∷ in_parentheses (expression n e)) (gap ∷ sign k.OpenBrace ∷ line_end ∷ case_lines (suc n) cases) q.front in
    switch_from q.end p.front p.back
  where
    switch_from : (end : ℕ) {vs between : List Symbol} → Reads (sign k.Switch ∷ gap ∷ in_parentheses (expression n e)) vs between
        → Reads (gap ∷ sign k.OpenBrace ∷ line_end ∷ case_lines (suc n) cases) between (s.sign k.CloseBrace end ∷ rest) → (spots : List ℕ) × IsStatement scope vs (c.Switch e cases) rest spots more
    switch_from end (a_sign {at} (a_gap (a_sign {at = open_at} {ts = us} x))) (a_gap (a_sign {at = brace} {ts = ws} (a_line_end y))) =
        let i = inside (expression n e) x in
        let behind = others (suc n) end ws rest more y in
        let got = again.stands n comma us (s.sign k.CloseParen i.end ∷ s.sign k.OpenBrace brace ∷ ws) behind.0 i.front in
        (_, st.switch got.1 behind.1)

-- ---- choices and loops

-- a header and a body
if_from : (scope : Scope) (n : ℕ) (test : c.Expression) (x : c.Statement) → Stands scope test → (f : Bool) → StatementAgain (after_expression test scope) f x
    → {ts between rest : List Symbol} (more : List ℕ) → (f ≡ false → sees k.Else rest ≡ false) → sees k.Else rest ≡ false
    → Reads (sign k.If ∷ gap ∷ in_parentheses (expression n test)) ts between → Reads (body n x (lines n x) (lines (suc n) x)) between rest
    → (spots : List ℕ) × IsStatement scope ts (c.If test x) rest spots more
if_from scope n test x stands f again {between = between} {rest} more els no_else (a_sign (a_gap (a_sign {ts = us} r))) b =
    let i = inside (expression n test) r in
    let m = in_body n x b in
    let got = again m.0 between rest more els m.1 in
    let front = stands n comma us (s.sign k.CloseParen i.end ∷ between) got.0 i.front in
    (_, st.if_alone front.1 got.1 no_else)

pub if_again : {scope : Scope} {test : c.Expression} {x : c.Statement} → Again scope test → StatementAgain (after_expression test scope) false x → StatementAgain scope false (c.If test x)
unfolding lines
if_again {scope} {test} {x} test_again again n ts rest more els r =
    let q = parted (sign k.If ∷ gap ∷ in_parentheses (expression n test)) (body n x (lines n x) (lines (suc n) x)) r in
    if_from scope n test x test_again.stands false again more els (els refl) q.front q.back

while_from : (scope : Scope) (n : ℕ) (test : c.Expression) (x : c.Statement) → Stands scope test → (f : Bool) → StatementAgain (after_expression test scope) f x
    → {ts between rest : List Symbol} (more : List ℕ) → (f ≡ false → sees k.Else rest ≡ false)
    → Reads (sign k.While ∷ gap ∷ in_parentheses (expression n test)) ts between → Reads (body n x (lines n x) (lines (suc n) x)) between rest
    → (spots : List ℕ) × IsStatement scope ts (c.While test x) rest spots more
while_from scope n test x stands f again {between = between} {rest} more els (a_sign (a_gap (a_sign {ts = us} r))) b =
    let i = inside (expression n test) r in
    let m = in_body n x b in
    let got = again m.0 between rest more els m.1 in
    let front = stands n comma us (s.sign k.CloseParen i.end ∷ between) got.0 i.front in
    (_, st.while_loop front.1 got.1)

pub while_again : {scope : Scope} {f : Bool} {test : c.Expression} {x : c.Statement} → Again scope test → StatementAgain (after_expression test scope) f x → StatementAgain scope f (c.While test x)
unfolding lines
while_again {scope} {f} {test} {x} test_again again n ts rest more els r =
    let q = parted (sign k.While ∷ gap ∷ in_parentheses (expression n test)) (body n x (lines n x) (lines (suc n) x)) r in
    while_from scope n test x test_again.stands f again more els q.front q.back

if_else_from : (scope : Scope) (n : ℕ) (test : c.Expression) (x y : c.Statement) → Stands scope test → StatementAgain (after_expression test scope) true x → (f : Bool) → StatementAgain (after_expression test scope) f y
    → {ts between past rest : List Symbol} (more : List ℕ) → (f ≡ false → sees k.Else rest ≡ false)
    → Reads (sign k.If ∷ gap ∷ in_parentheses (expression n test)) ts between → Reads (body n x (lines n x) (lines (suc n) x)) between past
    → Reads (indent n ∷ sign k.Else ∷ body n y (lines n y) (lines (suc n) y)) past rest
    → (spots : List ℕ) × IsStatement scope ts (c.IfElse test x y) rest spots more
if_else_from scope n test x y stands first f second {between = between} {rest = rest} more els (a_sign (a_gap (a_sign {ts = us} r))) b (an_indent (a_sign {at = else_at} {ts = ws} o)) =
    let i = inside (expression n test) r in
    let m = in_body n x b in
    let l = in_body n y o in
    let other = second l.0 ws rest more els l.1 in
    let got = first m.0 between (s.sign k.Else else_at ∷ ws) other.0 (λ e. absurd cc) m.1 in
    let front = stands n comma us (s.sign k.CloseParen i.end ∷ between) got.0 i.front in
    (_, st.if_else front.1 got.1 other.1)

pub if_else_again : {scope : Scope} {f : Bool} {test : c.Expression} {x y : c.Statement} → Again scope test → StatementAgain (after_expression test scope) true x → StatementAgain (after_expression test scope) f y
    → StatementAgain scope f (c.IfElse test x y)
unfolding lines
if_else_again {scope} {f} {test} {x} {y} test_again first second n ts rest more els r =
    let q = parted (sign k.If ∷ gap ∷ in_parentheses (expression n test) ++ body n x (lines n x) (lines (suc n) x)) (indent n ∷ sign k.Else ∷ body n y (lines n y) (lines (suc n) y)) r in
    let p = parted (sign k.If ∷ gap ∷ in_parentheses (expression n test)) (body n x (lines n x) (lines (suc n) x)) q.front in
    if_else_from scope n test x y test_again.stands first f second more els p.front p.back q.back

do_from : (scope : Scope) (n : ℕ) (test : c.Expression) (x : c.Statement) → Stands scope test → StatementAgain scope false x
    → (end : ℕ) {ts between rest : List Symbol} (more : List ℕ)
    → Reads (sign k.Do ∷ body n x (lines n x) (lines (suc n) x)) ts between → Reads (indent n ∷ sign k.While ∷ gap ∷ in_parentheses (expression n test)) between (s.sign k.Semicolon end ∷ rest)
    → (spots : List ℕ) × IsStatement scope ts (c.Do x test) rest spots more
unfolding same_terminal
do_from scope n test x stands again end {rest = rest} more (a_sign {ts = us} b) (an_indent (a_sign {at = while_at} (a_gap (a_sign {at = open_at} {ts = ws} r)))) =
    let i = inside (expression n test) r in
    let m = in_body n x b in
    let behind = stands n comma ws (s.sign k.CloseParen i.end ∷ s.sign k.Semicolon end ∷ rest) more i.front in
    let got = again m.0 us (s.sign k.While while_at ∷ s.sign k.OpenParen open_at ∷ ws) behind.0 (λ e. refl) m.1 in
    (_, st.do_loop got.1 behind.1)

pub do_again : {scope : Scope} {f : Bool} {test : c.Expression} {x : c.Statement} → Again scope test → StatementAgain scope false x → StatementAgain scope f (c.Do x test)
unfolding lines
do_again {scope} {f} {test} {x} test_again again n ts rest more els r =
    let q = line (sign k.Do ∷ body n x (lines n x) (lines (suc n) x) ++ indent n ∷ sign k.While ∷ gap ∷ in_parentheses (expression n test)) r in
    let p = parted (sign k.Do ∷ body n x (lines n x) (lines (suc n) x)) (indent n ∷ sign k.While ∷ gap ∷ in_parentheses (expression n test)) q.front in
    do_from scope n test x test_again.stands again q.end more p.front p.back

pub nothing_start_again : {scope : Scope} → StartAgain scope c.Nothing
nothing_start_again n ts rest more (a_sign done) = (more, st.nothing)

first_from : (scope : Scope) (n : ℕ) (e : c.Expression) → Stands scope e → {ts between rest : List Symbol} (more : List ℕ) → Reads (expression n e) ts between → Reads (sign k.Semicolon ∷ []) between rest
    → (spots : List ℕ) × IsForStart scope ts (c.First e) rest spots more
first_from scope n e stands {ts} {rest = rest} more x (a_sign {at} done) = let got = stands n comma ts (s.sign k.Semicolon at ∷ rest) more x in (got.0, st.expression got.1)

pub first_start_again : {scope : Scope} {e : c.Expression} → Again scope e → StartAgain scope (c.First e)
first_start_again {scope} {e} again n ts rest more r = let q = parted (expression n e) (sign k.Semicolon ∷ []) r in first_from scope n e again.stands more q.front q.back

pub declares_start_again : {scope : Scope} {x : c.Declaration} → DeclarationAgain scope x → StartAgain scope (c.Declares x)
declares_start_again again n ts rest more r = let got = again n ts rest more r in (got.0, st.declaration got.1)

for_from : (scope inner behind_test : Scope) (n : ℕ) (start : c.ForStart) (test step : Option c.Expression) (x : c.Statement) → StartAgain scope start → inner ≡ after_start start scope
    → OptionalStands inner test → behind_test ≡ after_optional test inner → OptionalStands behind_test step → (f : Bool) → StatementAgain (after_optional step behind_test) f x
    → {ts between rest : List Symbol} (more : List ℕ) → (f ≡ false → sees k.Else rest ≡ false)
    → Reads (sign k.For ∷ gap ∷ in_parentheses (for_start n start ++ optional n test ++ sign k.Semicolon ∷ optional n step)) ts between → Reads (body n x (lines n x) (lines (suc n) x)) between rest
    → (spots : List ℕ) × IsStatement scope ts (c.For start test step x) rest spots more
for_from scope inner behind_test n start test step x starts first tests second steps f again {between = between} {rest} more els (a_sign (a_gap (a_sign {ts = us} r))) b =
    let i = inside (for_start n start ++ optional n test ++ sign k.Semicolon ∷ optional n step) r in
    let q = split (for_start n start ++ optional n test) k.Semicolon (optional n step) i.front in
    let p = parted (for_start n start) (optional n test) q.front in
    let m = in_body n x b in
    let got = again m.0 between rest more els m.1 in
    let last = optional_again behind_test n step steps q.between (s.sign k.CloseParen i.end ∷ between) got.0 q.back in
    let middle = optional_again inner n test tests p.between (s.sign k.Semicolon q.at ∷ q.between) last.0 p.back in
    let front = starts n us p.between middle.0 p.front in
    (_, st.for_loop front.1 first middle.1 second last.1 got.1)

pub for_again : {scope inner behind_test : Scope} {f : Bool} {start : c.ForStart} (test step : Option c.Expression) {x : c.Statement} → StartAgain scope start → inner ≡ after_start start scope
    → OptionalStands inner test → behind_test ≡ after_optional test inner → OptionalStands behind_test step → StatementAgain (after_optional step behind_test) f x
    → StatementAgain scope f (c.For start test step x)
unfolding lines
for_again {scope} {inner} {behind_test} {f} {start} test step {x} starts first tests second steps again n ts rest more els r =
    let q = parted (sign k.For ∷ gap ∷ in_parentheses (for_start n start ++ optional n test ++ sign k.Semicolon ∷ optional n step)) (body n x (lines n x) (lines (suc n) x)) r in
    for_from scope inner behind_test n start test step x starts first tests second steps f again more els q.front q.back
