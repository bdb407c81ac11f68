-- What is derived of items and of the statements in the body of a `switch` is read, rule by rule.
use Rattle.std.proofs.Common.{◌≡◌, ℕ, suc, ◌≤◌, true, false, List, ◌∷◌, length, Some, refl, ap, ◌∙◌, arith}
use Rattle.lt_tree.specs.declared.terminal.Terminal.TheVariants as t
use Rattle.lt_tree.specs.Tree as c
use Rattle.lt_tree.specs.Symbols.{Symbol, sign, start_of}
use Rattle.lt_tree.specs.Scope.{Scope, after_labels, after_statement}
use Rattle.lt_tree.specs.Ahead.{same_terminal, sees, begins_specifier}
use Rattle.lt_expr.specs.Front.{begins_mark}
use Rattle.lt_expr.specs.Reading as ex
use Rattle.lt_expr.specs.Walk.{Walked, walk, walk_mark}
use Rattle.lt_expr.proofs.CompleteForms.{Read, once, twice, node_of}
use Rattle.lt_decl.specs.Items.{Item, declared, stated, marked, item_before, after_item}
use Rattle.lt_decl.specs.Reading as read
use Rattle.lt_decl.specs.Walk.{walk_declaration, walk_labels, walk_statement, walk_item}
use Rattle.lt_decl.proofs.Walks.{item_walk}
use Rattle.lt_decl.proofs.CompleteDeclarations.{Declaration}
use Rattle.lt_decl.proofs.CompleteMarked.{Labels, Begun}
use Rattle.lt_decl.proofs.CompleteStatements.{Statement, Items, Cases}

abbrev pub OneItem : Scope → List Symbol → Item → List Symbol → List ℕ → List ℕ → List ℕ → Type 0
OneItem scope ts i rest spots more ends = Read (λ n. read.item n scope) walk_item 9 ts i rest spots more ends

-- ---- steps

items_stop : (n : ℕ) (scope : Scope) (at : ℕ) (rest : List Symbol) (ends : List ℕ) → read.items (suc n) scope (sign t.CloseBrace at ∷ rest, ends) ≡ Some (c.no_items, (rest, ends))
unfolding read.statement same_terminal
items_stop n scope at rest ends = refl

items_go : (n : ℕ) (scope : Scope) (ts us rest : List Symbol) (i : Item) (items : c.Items) (ends middle now : List ℕ) → sees t.CloseBrace ts ≡ false
    → read.item n scope (ts, ends) ≡ Some (i, (us, middle)) → read.items n (after_item i scope) (us, middle) ≡ Some (items, (rest, now))
    → read.items (suc n) scope (ts, ends) ≡ Some (item_before i items, (rest, now))
unfolding read.statement
items_go n scope ts us rest i items ends middle now front first others = rw (front, first, others) refl

declared_read : (n : ℕ) (scope : Scope) (ts rest : List Symbol) (d : c.Declaration) (ends now : List ℕ) → begins_mark ts ≡ false → begins_specifier scope false ts ≡ true
    → read.declaration n scope (ts, ends) ≡ Some (d, (rest, now)) → read.item (suc n) scope (ts, ends) ≡ Some (declared d, (rest, start_of ts ∷ now))
unfolding read.statement
declared_read n scope ts rest d ends now no_mark front is = rw (no_mark, front, is) refl

stated_read : (n : ℕ) (scope : Scope) (ts rest : List Symbol) (x : c.Statement) (ends now : List ℕ) → begins_mark ts ≡ false → begins_specifier scope false ts ≡ false
    → read.statement n scope (ts, ends) ≡ Some (x, (rest, now)) → read.item (suc n) scope (ts, ends) ≡ Some (stated x, (rest, start_of ts ∷ now))
unfolding read.statement
stated_read n scope ts rest x ends now no_mark front is = rw (no_mark, front, is) refl

mark_read : (n : ℕ) (scope : Scope) (a : ℕ) (ts rest : List Symbol) (m : c.Mark) (ends now : List ℕ) → begins_mark ts ≡ true
    → ex.mark (suc n) scope (ts, ends) ≡ Some (m, (sign t.Semicolon a ∷ rest, now)) → read.item (suc (suc n)) scope (ts, ends) ≡ Some (marked m, (rest, start_of ts ∷ now))
unfolding read.statement same_terminal
mark_read n scope a ts rest m ends now front is = rw (front, is) refl

begun_read : (n : ℕ) (scope : Scope) (a b : ℕ) (ts us rest : List Symbol) (m : c.Mark) (e : c.Expression) (ends middle now : List ℕ) → begins_mark ts ≡ true
    → ex.mark (suc n) scope (ts, ends) ≡ Some (m, (sign t.Comma a ∷ us, middle)) → read.expression_on n scope (start_of ts) m (us, middle) ≡ Some (e, (sign t.Semicolon b ∷ rest, now))
    → read.item (suc (suc n)) scope (ts, ends) ≡ Some (stated (c.Evaluates e), (rest, start_of ts ∷ start_of ts ∷ now))
unfolding read.statement same_terminal
begun_read n scope a b ts us rest m e ends middle now front first second = rw (front, first, second) refl

cases_stop : (n : ℕ) (scope : Scope) (at : ℕ) (rest : List Symbol) (ends : List ℕ) → read.cases (suc n) scope (sign t.CloseBrace at ∷ rest, ends) ≡ Some (c.no_cases, (rest, ends))
unfolding read.statement same_terminal
cases_stop n scope at rest ends = refl

cases_go : (n : ℕ) (scope : Scope) (ts us vs rest : List Symbol) (labels : List c.Label) (x : c.Statement) (cases : c.Cases) (ends m1 m2 now : List ℕ) → sees t.CloseBrace ts ≡ false
    → read.labels n scope (ts, ends) ≡ Some (labels, (us, m1)) → read.statement n (after_labels labels scope) (us, m1) ≡ Some (x, (vs, m2))
    → read.cases n (after_statement x (after_labels labels scope)) (vs, m2) ≡ Some (cases, (rest, now))
    → read.cases (suc n) scope (ts, ends) ≡ Some (c.a_case labels x cases, (rest, now))
unfolding read.statement
cases_go n scope ts us vs rest labels x cases ends m1 m2 now front first second others = rw (front, first, second, others) refl

-- ---- the rules

pub no_items_complete : (scope : Scope) (at : ℕ) (rest : List Symbol) (more ends : List ℕ) → Items scope (sign t.CloseBrace at ∷ rest) c.no_items rest more more ends
no_items_complete scope at rest more ends = once ends refl (omega arith) (λ n big. items_stop n scope at rest ends)

pub items_complete : (scope : Scope) (ts us rest : List Symbol) (i : Item) (items : c.Items) (spots between more ends : List ℕ) → sees t.CloseBrace ts ≡ false → suc (length us) ≤ length ts
    → OneItem scope ts i us spots between ends
    → ((now : List ℕ) → Items (after_item i scope) us items rest between more now)
    → Items scope ts (item_before i items) rest spots more ends
items_complete scope ts us rest i items spots between more ends front short x cb =
    let y = cb x.now in
    once y.now (item_walk i items (y.now, more) ∙ ap (walk_item i) y.walked ∙ x.walked) (omega arith)
    (λ n big. items_go n scope ts us rest i items ends x.now y.now front (x.reads n (omega arith)) (y.reads n (omega arith)))

pub declared_complete : (scope : Scope) (ts rest : List Symbol) (d : c.Declaration) (spots more ends : List ℕ) → begins_mark ts ≡ false → begins_specifier scope false ts ≡ true
    → Declaration scope ts d rest spots more ends → OneItem scope ts (declared d) rest (start_of ts ∷ spots) more ends
declared_complete scope ts rest d spots more ends no_mark front x =
    once (start_of ts ∷ x.now) (node_of (walk_declaration d) (start_of ts) x.now more ends spots x.walked) (omega arith)
    (λ n big. declared_read n scope ts rest d ends x.now no_mark front (x.reads n (omega arith)))

pub stated_complete : (scope : Scope) (ts rest : List Symbol) (x : c.Statement) (spots more ends : List ℕ) → begins_mark ts ≡ false → begins_specifier scope false ts ≡ false
    → Statement scope ts x rest spots more ends → OneItem scope ts (stated x) rest (start_of ts ∷ spots) more ends
stated_complete scope ts rest x spots more ends no_mark front d =
    once (start_of ts ∷ d.now) (node_of (walk_statement x) (start_of ts) d.now more ends spots d.walked) (omega arith)
    (λ n big. stated_read n scope ts rest x ends d.now no_mark front (d.reads n (omega arith)))

pub mark_complete : (scope : Scope) (a : ℕ) (ts rest : List Symbol) (m : c.Mark) (spots more ends : List ℕ) → begins_mark ts ≡ true
    → Read (λ n. ex.mark n scope) walk_mark 1 ts m (sign t.Semicolon a ∷ rest) spots more ends → OneItem scope ts (marked m) rest (start_of ts ∷ spots) more ends
mark_complete scope a ts rest m spots more ends front x =
    twice (start_of ts ∷ x.now) (node_of (walk_mark m) (start_of ts) x.now more ends spots x.walked) (omega arith)
    (λ n big. mark_read n scope a ts rest m ends x.now front (x.reads (suc n) (omega arith)))

pub begun_complete : (scope : Scope) (b : ℕ) (ts rest : List Symbol) (e : c.Expression) (spots more ends : List ℕ) → begins_mark ts ≡ true
    → Begun scope ts e (sign t.Semicolon b ∷ rest) spots more ends → OneItem scope ts (stated (c.Evaluates e)) rest (start_of ts ∷ start_of ts ∷ spots) more ends
begun_complete scope b ts rest e spots more ends front x =
    let short = x.short in
    twice (start_of ts ∷ start_of ts ∷ x.now)
    (node_of (walk_statement (c.Evaluates e)) (start_of ts) (start_of ts ∷ x.now) more ends (start_of ts ∷ spots) (node_of (walk e) (start_of ts) x.now more ends spots x.walked)) (omega arith)
    (λ n big. begun_read n scope x.comma b ts x.after rest x.first e ends x.first_read.now x.now front (x.first_read.reads (suc n) (omega arith)) (x.goes n (omega arith)))

pub no_cases_complete : (scope : Scope) (at : ℕ) (rest : List Symbol) (more ends : List ℕ) → Cases scope (sign t.CloseBrace at ∷ rest) c.no_cases rest more more ends
no_cases_complete scope at rest more ends = once ends refl (omega arith) (λ n big. cases_stop n scope at rest ends)

pub cases_complete : (scope : Scope) (ts us vs rest : List Symbol) (labels : List c.Label) (x : c.Statement) (cases : c.Cases) (spots one two more ends : List ℕ) → sees t.CloseBrace ts ≡ false
    → length us ≤ length ts → suc (length vs) ≤ length us
    → Labels scope ts labels us spots one ends
    → ((now : List ℕ) → Statement (after_labels labels scope) us x vs one two now)
    → ((now : List ℕ) → Cases (after_statement x (after_labels labels scope)) vs cases rest two more now)
    → Cases scope ts (c.a_case labels x cases) rest spots more ends
cases_complete scope ts us vs rest labels x cases spots one two more ends front short shorter dl cx cc' =
    let dx = cx dl.now in
    let dc = cc' dx.now in
    once dc.now (ap (λ (v : Walked). walk_labels labels (walk_statement x v)) dc.walked ∙ ap (walk_labels labels) dx.walked ∙ dl.walked) (omega arith)
    (λ n big. cases_go n scope ts us vs rest labels x cases ends dl.now dx.now dc.now front (dl.reads n (omega arith)) (dx.reads n (omega arith)) (dc.reads n (omega arith)))
