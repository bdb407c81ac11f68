-- What is derived of statements is read, rule by rule, C11 6.8.
use Rattle.std.proofs.Common.{◌≡◌, ℕ, suc, ◌≤◌, false, List, ◌∷◌, length, Option, Some, refl, sym, ap, ◌∙◌, arith}
use Rattle.lt_tree.specs.declared.terminal.Terminal.TheVariants as t
use Rattle.lt_tree.specs.Tree as c
use Rattle.lt_tree.specs.Symbols.{Symbol, sign, start_of}
use Rattle.lt_tree.specs.Scope.{Scope, after_expression, after_optional, after_start}
use Rattle.lt_tree.specs.Ahead.{same_terminal, sees}
use Rattle.lt_expr.specs.Reading as ex
use Rattle.lt_expr.specs.Walk.{Walked, walk}
use Rattle.lt_expr.proofs.CompleteForms.{Read, once, twice, node_of}
use Rattle.lt_decl.specs.Reading as read
use Rattle.lt_decl.specs.Walk.{walk_start, walk_optional, walk_statement, walk_items, walk_cases}
use Rattle.lt_decl.proofs.CompleteStarts.{IsOther}
use Rattle.lt_decl.proofs.CompleteMarked.{Test, Optional, ForStart}

abbrev pub Statement : Scope → List Symbol → c.Statement → List Symbol → List ℕ → List ℕ → List ℕ → Type 0
Statement scope ts x rest spots more ends = Read (λ n. read.statement n scope) walk_statement 8 ts x rest spots more ends

abbrev pub Items : Scope → List Symbol → c.Items → List Symbol → List ℕ → List ℕ → List ℕ → Type 0
Items scope ts items rest spots more ends = Read (λ n. read.items n scope) walk_items 10 ts items rest spots more ends

abbrev pub Cases : Scope → List Symbol → c.Cases → List Symbol → List ℕ → List ℕ → List ℕ → Type 0
Cases scope ts cases rest spots more ends = Read (λ n. read.cases n scope) walk_cases 9 ts cases rest spots more ends

-- ---- steps

compound_read : (n : ℕ) (scope : Scope) (at : ℕ) (ts rest : List Symbol) (items : c.Items) (ends now : List ℕ)
    → read.items n scope (ts, ends) ≡ Some (items, (rest, now)) → read.statement (suc n) scope (sign t.OpenBrace at ∷ ts, ends) ≡ Some (c.Compound items, (rest, at ∷ now))
unfolding read.statement same_terminal
compound_read n scope at ts rest items ends now is = rw is refl

null_read : (n : ℕ) (scope : Scope) (at : ℕ) (rest : List Symbol) (ends : List ℕ) → read.statement (suc n) scope (sign t.Semicolon at ∷ rest, ends) ≡ Some (c.Null, (rest, at ∷ ends))
unfolding read.statement same_terminal
null_read n scope at rest ends = refl

break_read : (n : ℕ) (scope : Scope) (at a : ℕ) (rest : List Symbol) (ends : List ℕ)
    → read.statement (suc (suc n)) scope (sign t.Break at ∷ sign t.Semicolon a ∷ rest, ends) ≡ Some (c.Break, (rest, at ∷ ends))
unfolding read.statement same_terminal
break_read n scope at a rest ends = refl

continue_read : (n : ℕ) (scope : Scope) (at a : ℕ) (rest : List Symbol) (ends : List ℕ)
    → read.statement (suc (suc n)) scope (sign t.Continue at ∷ sign t.Semicolon a ∷ rest, ends) ≡ Some (c.Continue, (rest, at ∷ ends))
unfolding read.statement same_terminal
continue_read n scope at a rest ends = refl

return_read : (n : ℕ) (scope : Scope) (at : ℕ) (ts rest : List Symbol) (e : Option c.Expression) (ends now : List ℕ)
    → read.optional n scope t.Semicolon (ts, ends) ≡ Some (e, (rest, now)) → read.statement (suc (suc n)) scope (sign t.Return at ∷ ts, ends) ≡ Some (c.Return e, (rest, at ∷ now))
unfolding read.statement same_terminal
return_read n scope at ts rest e ends now is = rw is refl

simple_read : (n : ℕ) (scope : Scope) (ts : List Symbol) (ends : List ℕ) → IsOther ts → read.statement (suc n) scope (ts, ends) ≡ read.simple n scope (ts, ends)
unfolding read.statement
simple_read n scope ts ends o = rw (o.no_brace, o.no_semicolon, o.no_if, o.no_while, o.no_do, o.no_for, o.no_switch) refl

expression_read : (n : ℕ) (scope : Scope) (at : ℕ) (ts rest : List Symbol) (e : c.Expression) (ends now : List ℕ) → IsOther ts
    → ex.expression n scope (ts, ends) ≡ Some (e, (sign t.Semicolon at ∷ rest, now)) → read.simple (suc n) scope (ts, ends) ≡ Some (c.Evaluates e, (rest, start_of ts ∷ now))
unfolding read.statement same_terminal
expression_read n scope at ts rest e ends now o is = rw (o.no_break, o.no_continue, o.no_return, is) refl

if_alone_read : (n : ℕ) (scope : Scope) (at : ℕ) (ts us rest : List Symbol) (e : c.Expression) (x : c.Statement) (ends middle now : List ℕ) → sees t.Else rest ≡ false
    → read.controlling n scope (ts, ends) ≡ Some (e, (us, middle)) → read.statement n (after_expression e scope) (us, middle) ≡ Some (x, (rest, now))
    → read.statement (suc (suc n)) scope (sign t.If at ∷ ts, ends) ≡ Some (c.If e x, (rest, at ∷ now))
unfolding read.statement same_terminal
if_alone_read n scope at ts us rest e x ends middle now front first second = rw (first, second, front) refl

if_else_read : (n : ℕ) (scope : Scope) (at d : ℕ) (ts us vs rest : List Symbol) (e : c.Expression) (x y : c.Statement) (ends m1 m2 now : List ℕ)
    → read.controlling n scope (ts, ends) ≡ Some (e, (us, m1)) → read.statement n (after_expression e scope) (us, m1) ≡ Some (x, (sign t.Else d ∷ vs, m2))
    → read.statement n (after_expression e scope) (vs, m2) ≡ Some (y, (rest, now))
    → read.statement (suc (suc n)) scope (sign t.If at ∷ ts, ends) ≡ Some (c.IfElse e x y, (rest, at ∷ now))
unfolding read.statement same_terminal
if_else_read n scope at d ts us vs rest e x y ends m1 m2 now first second third = rw (first, second, third) refl

while_read : (n : ℕ) (scope : Scope) (at : ℕ) (ts us rest : List Symbol) (e : c.Expression) (x : c.Statement) (ends middle now : List ℕ)
    → read.controlling n scope (ts, ends) ≡ Some (e, (us, middle)) → read.statement n (after_expression e scope) (us, middle) ≡ Some (x, (rest, now))
    → read.statement (suc (suc n)) scope (sign t.While at ∷ ts, ends) ≡ Some (c.While e x, (rest, at ∷ now))
unfolding read.statement same_terminal
while_read n scope at ts us rest e x ends middle now first second = rw (first, second) refl

do_read : (n : ℕ) (scope : Scope) (at a f : ℕ) (ts us rest : List Symbol) (e : c.Expression) (x : c.Statement) (ends middle now : List ℕ)
    → read.statement n scope (ts, ends) ≡ Some (x, (sign t.While a ∷ us, middle)) → read.controlling n scope (us, middle) ≡ Some (e, (sign t.Semicolon f ∷ rest, now))
    → read.statement (suc (suc n)) scope (sign t.Do at ∷ ts, ends) ≡ Some (c.Do x e, (rest, at ∷ now))
unfolding read.statement same_terminal
do_read n scope at a f ts us rest e x ends middle now first second = rw (first, second) refl

for_read : (n : ℕ) (scope inner behind_test : Scope) (at a : ℕ) (ts us vs ws rest : List Symbol) (start : c.ForStart) (e s : Option c.Expression) (x : c.Statement) (ends m1 m2 m3 now : List ℕ)
    → inner ≡ after_start start scope → behind_test ≡ after_optional e inner
    → read.for_start n scope (ts, ends) ≡ Some (start, (us, m1)) → read.optional n inner t.Semicolon (us, m1) ≡ Some (e, (vs, m2))
    → read.optional n behind_test t.CloseParen (vs, m2) ≡ Some (s, (ws, m3)) → read.statement n (after_optional s behind_test) (ws, m3) ≡ Some (x, (rest, now))
    → read.statement (suc (suc n)) scope (sign t.For at ∷ sign t.OpenParen a ∷ ts, ends) ≡ Some (c.For start e s x, (rest, at ∷ now))
unfolding read.statement same_terminal
for_read n scope inner behind_test at a ts us vs ws rest start e s x ends m1 m2 m3 now i j first second third fourth =
    rw (first, sym i, second, sym j, third, fourth) refl

switch_read : (n : ℕ) (scope : Scope) (at d : ℕ) (ts us rest : List Symbol) (e : c.Expression) (cases : c.Cases) (ends middle now : List ℕ)
    → read.controlling n scope (ts, ends) ≡ Some (e, (sign t.OpenBrace d ∷ us, middle)) → read.cases n (after_expression e scope) (us, middle) ≡ Some (cases, (rest, now))
    → read.statement (suc (suc n)) scope (sign t.Switch at ∷ ts, ends) ≡ Some (c.Switch e cases, (rest, at ∷ now))
unfolding read.statement same_terminal
switch_read n scope at d ts us rest e cases ends middle now first second = rw (first, second) refl

-- ---- the rules

pub compound_complete : (scope : Scope) (at : ℕ) (ts rest : List Symbol) (items : c.Items) (spots more ends : List ℕ)
    → Items scope ts items rest spots more ends → Statement scope (sign t.OpenBrace at ∷ ts) (c.Compound items) rest (at ∷ spots) more ends
compound_complete scope at ts rest items spots more ends x =
    once (at ∷ x.now) (node_of (walk_items items) at x.now more ends spots x.walked) (omega arith) (λ n big. compound_read n scope at ts rest items ends x.now (x.reads n (omega arith)))

pub null_complete : (scope : Scope) (at : ℕ) (rest : List Symbol) (more ends : List ℕ) → Statement scope (sign t.Semicolon at ∷ rest) c.Null rest (at ∷ more) more ends
null_complete scope at rest more ends = once (at ∷ ends) refl (omega arith) (λ n big. null_read n scope at rest ends)

pub break_complete : (scope : Scope) (at a : ℕ) (rest : List Symbol) (more ends : List ℕ) → Statement scope (sign t.Break at ∷ sign t.Semicolon a ∷ rest) c.Break rest (at ∷ more) more ends
break_complete scope at a rest more ends = twice (at ∷ ends) refl (omega arith) (λ n big. break_read n scope at a rest ends)

pub continue_complete : (scope : Scope) (at a : ℕ) (rest : List Symbol) (more ends : List ℕ) → Statement scope (sign t.Continue at ∷ sign t.Semicolon a ∷ rest) c.Continue rest (at ∷ more) more ends
continue_complete scope at a rest more ends = twice (at ∷ ends) refl (omega arith) (λ n big. continue_read n scope at a rest ends)

pub return_complete : (scope : Scope) (at : ℕ) (ts rest : List Symbol) (e : Option c.Expression) (spots more ends : List ℕ)
    → Optional scope t.Semicolon ts e rest spots more ends → Statement scope (sign t.Return at ∷ ts) (c.Return e) rest (at ∷ spots) more ends
return_complete scope at ts rest e spots more ends x =
    twice (at ∷ x.now) (node_of (walk_optional e) at x.now more ends spots x.walked) (omega arith) (λ n big. return_read n scope at ts rest e ends x.now (x.reads n (omega arith)))

pub expression_complete : (scope : Scope) (at : ℕ) (ts rest : List Symbol) (e : c.Expression) (spots more ends : List ℕ) → IsOther ts
    → Read (λ n. ex.expression n scope) walk 6 ts e (sign t.Semicolon at ∷ rest) spots more ends → Statement scope ts (c.Evaluates e) rest (start_of ts ∷ spots) more ends
expression_complete scope at ts rest e spots more ends o x =
    twice (start_of ts ∷ x.now) (node_of (walk e) (start_of ts) x.now more ends spots x.walked) (omega arith)
    (λ n big. simple_read (suc n) scope ts ends o ∙ expression_read n scope at ts rest e ends x.now o (x.reads n (omega arith)))

pub if_alone_complete : (scope : Scope) (at : ℕ) (ts us rest : List Symbol) (e : c.Expression) (x : c.Statement) (spots between more ends : List ℕ) → length us ≤ length ts → sees t.Else rest ≡ false
    → Test scope ts e us spots between ends
    → ((now : List ℕ) → Statement (after_expression e scope) us x rest between more now)
    → Statement scope (sign t.If at ∷ ts) (c.If e x) rest (at ∷ spots) more ends
if_alone_complete scope at ts us rest e x spots between more ends short front d cb =
    let y = cb d.now in
    twice (at ∷ y.now) (node_of (λ v. walk e (walk_statement x v)) at y.now more ends spots (ap (walk e) y.walked ∙ d.walked)) (omega arith)
    (λ n big. if_alone_read n scope at ts us rest e x ends d.now y.now front (d.reads n (omega arith)) (y.reads n (omega arith)))

pub if_else_complete : (scope : Scope) (at d : ℕ) (ts us vs rest : List Symbol) (e : c.Expression) (x y : c.Statement) (spots one two more ends : List ℕ) → length us ≤ length ts → length vs ≤ length us
    → Test scope ts e us spots one ends
    → ((now : List ℕ) → Statement (after_expression e scope) us x (sign t.Else d ∷ vs) one two now)
    → ((now : List ℕ) → Statement (after_expression e scope) vs y rest two more now)
    → Statement scope (sign t.If at ∷ ts) (c.IfElse e x y) rest (at ∷ spots) more ends
if_else_complete scope at d ts us vs rest e x y spots one two more ends short shorter de cx cy =
    let dx = cx de.now in
    let dy = cy dx.now in
    twice (at ∷ dy.now)
    (node_of (λ v. walk e (walk_statement x (walk_statement y v))) at dy.now more ends spots (ap (λ (v : Walked). walk e (walk_statement x v)) dy.walked ∙ ap (walk e) dx.walked ∙ de.walked)) (omega arith)
    (λ n big. if_else_read n scope at d ts us vs rest e x y ends de.now dx.now dy.now (de.reads n (omega arith)) (dx.reads n (omega arith)) (dy.reads n (omega arith)))

pub while_complete : (scope : Scope) (at : ℕ) (ts us rest : List Symbol) (e : c.Expression) (x : c.Statement) (spots between more ends : List ℕ) → length us ≤ length ts
    → Test scope ts e us spots between ends
    → ((now : List ℕ) → Statement (after_expression e scope) us x rest between more now)
    → Statement scope (sign t.While at ∷ ts) (c.While e x) rest (at ∷ spots) more ends
while_complete scope at ts us rest e x spots between more ends short d cb =
    let y = cb d.now in
    twice (at ∷ y.now) (node_of (λ v. walk e (walk_statement x v)) at y.now more ends spots (ap (walk e) y.walked ∙ d.walked)) (omega arith)
    (λ n big. while_read n scope at ts us rest e x ends d.now y.now (d.reads n (omega arith)) (y.reads n (omega arith)))

pub do_complete : (scope : Scope) (at a f : ℕ) (ts us rest : List Symbol) (e : c.Expression) (x : c.Statement) (spots between more ends : List ℕ) → length us ≤ length ts
    → Statement scope ts x (sign t.While a ∷ us) spots between ends
    → ((now : List ℕ) → Test scope us e (sign t.Semicolon f ∷ rest) between more now)
    → Statement scope (sign t.Do at ∷ ts) (c.Do x e) rest (at ∷ spots) more ends
do_complete scope at a f ts us rest e x spots between more ends short d cb =
    let y = cb d.now in
    twice (at ∷ y.now) (node_of (λ v. walk_statement x (walk e v)) at y.now more ends spots (ap (walk_statement x) y.walked ∙ d.walked)) (omega arith)
    (λ n big. do_read n scope at a f ts us rest e x ends d.now y.now (d.reads n (omega arith)) (y.reads n (omega arith)))

pub for_complete : (scope inner behind_test : Scope) (at a : ℕ) (ts us vs ws rest : List Symbol) (start : c.ForStart) (e s : Option c.Expression) (x : c.Statement) (spots one two three more ends : List ℕ)
    → length us ≤ length ts → length vs ≤ length us → length ws ≤ length vs → inner ≡ after_start start scope → behind_test ≡ after_optional e inner
    → ForStart scope ts start us spots one ends
    → ((now : List ℕ) → Optional inner t.Semicolon us e vs one two now)
    → ((now : List ℕ) → Optional behind_test t.CloseParen vs s ws two three now)
    → ((now : List ℕ) → Statement (after_optional s behind_test) ws x rest three more now)
    → Statement scope (sign t.For at ∷ sign t.OpenParen a ∷ ts) (c.For start e s x) rest (at ∷ spots) more ends
for_complete scope inner behind_test at a ts us vs ws rest start e s x spots one two three more ends short shorter shortest i j d ce cs cx =
    let de = ce d.now in
    let ds = cs de.now in
    let dx = cx ds.now in
    twice (at ∷ dx.now)
    (node_of (λ v. walk_start start (walk_optional e (walk_optional s (walk_statement x v)))) at dx.now more ends spots
    (ap (λ (v : Walked). walk_start start (walk_optional e (walk_optional s v))) dx.walked ∙ ap (λ (v : Walked). walk_start start (walk_optional e v)) ds.walked ∙ ap (walk_start start) de.walked ∙ d.walked)) (omega arith)
    (λ n big. for_read n scope inner behind_test at a ts us vs ws rest start e s x ends d.now de.now ds.now dx.now i j
    (d.reads n (omega arith)) (de.reads n (omega arith)) (ds.reads n (omega arith)) (dx.reads n (omega arith)))

pub switch_complete : (scope : Scope) (at d : ℕ) (ts us rest : List Symbol) (e : c.Expression) (cases : c.Cases) (spots between more ends : List ℕ) → length us ≤ length ts
    → Test scope ts e (sign t.OpenBrace d ∷ us) spots between ends
    → ((now : List ℕ) → Cases (after_expression e scope) us cases rest between more now)
    → Statement scope (sign t.Switch at ∷ ts) (c.Switch e cases) rest (at ∷ spots) more ends
switch_complete scope at d ts us rest e cases spots between more ends short de cb =
    let y = cb de.now in
    twice (at ∷ y.now) (node_of (λ v. walk e (walk_cases cases v)) at y.now more ends spots (ap (walk e) y.walked ∙ de.walked)) (omega arith)
    (λ n big. switch_read n scope at d ts us rest e cases ends de.now y.now (de.reads n (omega arith)) (y.reads n (omega arith)))
