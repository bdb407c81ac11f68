-- What one turn of each loop reads is one step of the reading.
use Rattle.std.proofs.Common.{◌≡◌, ℕ, suc, Bool, true, false, ◌||◌, cond, List, [], ◌∷◌, ◌++◌, map, Option, Some, None, refl, sym, ap, subst, ◌∙◌}
use Rattle.lt_tree.specs.declared.terminal.Terminal.TheVariants as t
use Rattle.lt_tree.specs.declared.declaration.Initialiser.{Initialiser}
use Rattle.lt_tree.specs.declared.declaration.InitDeclarator.{InitDeclarator}
use Rattle.lt_tree.specs.declared.statement.Label.{Label}
use Rattle.lt_tree.specs.declared.statement.Label.TheVariants as label
use Rattle.lt_tree.specs.declared.statement.Item.{Item}
use Rattle.lt_tree.specs.declared.statement.SwitchCase.{SwitchCase}
use Rattle.lt_tree.specs.declared.unit.External.{External}
use Rattle.lt_tree.specs.Tree as c
use Rattle.lt_tree.specs.UnitView.{initialiser_of, initialisers_in, init_declarator_of, label_of, items_in, cases_in, external_of}
use Rattle.lt_tree.specs.View.{expression_of}
use Rattle.lt_tree.specs.Symbols.{start_of}
use Rattle.lt_tree.specs.Scope.{Scope, after_expression, after_declarator, after_declarators, after_start, after_optional, after_specifiers, makes_types, after_labels, after_external}
use Rattle.lt_tree.specs.Ahead.{named, naming_behind, sees, begins_specifier}
use Rattle.lt_expr.specs.Front.{Rest, ◌>>=◌, behind, ended, expect, begins_mark}
use Rattle.lt_expr.specs.Fronts.{after}
use Rattle.lt_expr.specs.Reading as ex
use Rattle.lt_decl.specs.Items as read
use Rattle.lt_decl.specs.Items.{after_item, initialisers_by, at_end}
use Rattle.lt_decl.specs.ItemView.{item_of, case_of}
use Rattle.lt_decl.specs.Singles.{one_declarator, after_one, begins_label, one_label, after_label, Head, head, after_head, one_case, after_case, in_function, definition, declared_on, behind_external}
use Rattle.lt_decl.specs.Reading as reading
use Rattle.lt_decl.proofs.Fronts.{initialisers_before, items_before, cases_before}
use Rattle.lt_decl.proofs.Joins.{more_initialisers, last_initialisers, more_listed, last_listed, all_listed, more_items, all_items, more_cases, all_cases}

-- readings one after the other, put together
chained : {A B C : Type 0} (read : Option A) (f : A → B) (k : B → Option C) → (read >>= λ a. k (f a)) ≡ ((read >>= λ a. Some (f a)) >>= k)
chained None f k = refl
chained (Some a) f k = refl

chained_twice : {A B C D : Type 0} (read : Option A) (then : A → Option B) (f : A → B → C) (k : C → Option D) → (read >>= λ a. then a >>= λ b. k (f a b)) ≡ ((read >>= λ a. then a >>= λ b. Some (f a b)) >>= k)
chained_twice None then f k = refl
chained_twice (Some a) then f k = chained (then a) (f a) k

chained_thrice : {A B C D E : Type 0} (read : Option A) (then : A → Option B) (later : A → B → Option C) (f : A → B → C → D) (k : D → Option E)
    → (read >>= λ a. then a >>= λ b. later a b >>= λ e. k (f a b e)) ≡ ((read >>= λ a. then a >>= λ b. later a b >>= λ e. Some (f a b e)) >>= k)
chained_thrice None then later f k = refl
chained_thrice (Some a) then later f k = chained_twice (then a) (later a) (f a) k

-- the same reading behind each
bind_same : {A B : Type 0} (read : Option A) (f g : A → Option B) → ((a : A) → f a ≡ g a) → (read >>= f) ≡ (read >>= g)
bind_same None f g same = refl
bind_same (Some a) f g same = same a

-- ---- initialisers

abbrev behind_initialiser : ℕ → Scope → c.Initialiser → Rest → Option (c.Initialisers × Rest)
behind_initialiser n scope x r =
    cond (sees t.Comma r.0)
    (initialisers_by (reading.initialisers n scope) (behind r) >>= λ y. Some (c.an_initialiser x y.0, y.1))
    (expect t.CloseBrace r >>= λ us. Some (c.an_initialiser x c.no_initialisers, us))

initialisers_is : (n : ℕ) (scope : Scope) (r u : Rest) (x : c.Initialiser) → reading.initialiser n scope r ≡ Some (x, u) → reading.initialisers (suc n) scope r ≡ behind_initialiser n scope x u
unfolding reading.initialiser
initialisers_is n scope r u x one = ap (λ read. read >>= λ i. behind_initialiser n scope i.0 i.1) one

pub initialisers_more : (front : List Initialiser) (x : Initialiser) (n : ℕ) (scope : Scope) (r u : Rest) → reading.initialiser n scope r ≡ Some (initialiser_of x, u) → sees t.Comma u.0 ≡ true → sees t.CloseBrace (behind u).0 ≡ false
    → after (initialisers_before (initialisers_in (front ++ x ∷ []))) (reading.initialisers n scope (behind u)) ≡ after (initialisers_before (initialisers_in front)) (reading.initialisers (suc n) scope r)
initialisers_more front x n scope r u one comma on =
    more_initialisers front x (reading.initialisers n scope (behind u))
    ∙ ap (after (initialisers_before (initialisers_in front)))
    (ap (λ b. cond b (Some (c.no_initialisers, behind (behind u))) (reading.initialisers n scope (behind u)) >>= λ y. Some (c.an_initialiser (initialiser_of x) y.0, y.1)) (sym on)
    ∙ ap (λ b. cond b (initialisers_by (reading.initialisers n scope) (behind u) >>= λ y. Some (c.an_initialiser (initialiser_of x) y.0, y.1)) (expect t.CloseBrace u >>= λ us. Some (c.an_initialiser (initialiser_of x) c.no_initialisers, us))) (sym comma)
    ∙ sym (initialisers_is n scope r u (initialiser_of x) one))

pub initialisers_last : (front : List Initialiser) (x : Initialiser) (n : ℕ) (scope : Scope) (r u us : Rest) → reading.initialiser n scope r ≡ Some (initialiser_of x, u) → sees t.Comma u.0 ≡ false → expect t.CloseBrace u ≡ Some us
    → after (initialisers_before (initialisers_in front)) (reading.initialisers (suc n) scope r) ≡ Some (initialisers_in (front ++ x ∷ []), us)
initialisers_last front x n scope r u us one no_comma end =
    ap (after (initialisers_before (initialisers_in front)))
    (initialisers_is n scope r u (initialiser_of x) one
    ∙ ap (λ b. cond b (initialisers_by (reading.initialisers n scope) (behind u) >>= λ y. Some (c.an_initialiser (initialiser_of x) y.0, y.1)) (expect t.CloseBrace u >>= λ us. Some (c.an_initialiser (initialiser_of x) c.no_initialisers, us))) no_comma
    ∙ ap (λ read. read >>= λ us. Some (c.an_initialiser (initialiser_of x) c.no_initialisers, us)) end)
    ∙ last_initialisers front x us

pub initialisers_closed : (front : List Initialiser) (x : Initialiser) (n : ℕ) (scope : Scope) (r u : Rest) → reading.initialiser n scope r ≡ Some (initialiser_of x, u) → sees t.Comma u.0 ≡ true → sees t.CloseBrace (behind u).0 ≡ true
    → after (initialisers_before (initialisers_in front)) (reading.initialisers (suc n) scope r) ≡ Some (initialisers_in (front ++ x ∷ []), behind (behind u))
initialisers_closed front x n scope r u one comma close =
    ap (after (initialisers_before (initialisers_in front)))
    (initialisers_is n scope r u (initialiser_of x) one
    ∙ ap (λ b. cond b (initialisers_by (reading.initialisers n scope) (behind u) >>= λ y. Some (c.an_initialiser (initialiser_of x) y.0, y.1)) (expect t.CloseBrace u >>= λ us. Some (c.an_initialiser (initialiser_of x) c.no_initialisers, us))) comma
    ∙ ap (λ b. cond b (Some (c.no_initialisers, behind (behind u))) (reading.initialisers n scope (behind u)) >>= λ y. Some (c.an_initialiser (initialiser_of x) y.0, y.1)) close)
    ∙ last_initialisers front x (behind (behind u))

-- ---- declarators

abbrev one_of : c.Declarator → Option c.Initialiser → c.InitDeclarator
one_of d i = record { declarator = d; initialiser = i }

abbrev behind_one : ℕ → Scope → Bool → c.InitDeclarator → Rest → Option (List c.InitDeclarator × Rest)
behind_one n scope type d r =
    cond (sees t.Comma r.0)
    (ex.declarator n (after_one type d scope) named (behind r) >>= λ e. reading.declarators n (after_one type d scope) type e.0 e.1 >>= λ y. Some (d ∷ y.0, y.1))
    (expect t.Semicolon r >>= λ us. Some (d ∷ [], us))

declarators_is : (n : ℕ) (scope : Scope) (type : Bool) (d : c.Declarator) (r u : Rest) (x : c.InitDeclarator) → one_declarator n scope type d r ≡ Some (x, u)
    → reading.declarators (suc n) scope type d r ≡ behind_one n scope type x u
unfolding reading.optional_initialiser
declarators_is n scope type d r u x one =
    chained (reading.optional_initialiser n (after_declarator type d scope) r) (λ i. (one_of d i.0, i.1)) (λ o. behind_one n scope type o.0 o.1)
    ∙ ap (λ read. read >>= λ o. behind_one n scope type o.0 o.1) one

pub declarators_more : (front : List InitDeclarator) (x : InitDeclarator) (n : ℕ) (scope : Scope) (type : Bool) (d e : c.Declarator) (r u v : Rest)
    → one_declarator n scope type d r ≡ Some (init_declarator_of x, u) → sees t.Comma u.0 ≡ true → ex.declarator n (after_one type (init_declarator_of x) scope) named (behind u) ≡ Some (e, v)
    → after (λ rest. map init_declarator_of (front ++ x ∷ []) ++ rest) (reading.declarators n (after_one type (init_declarator_of x) scope) type e v)
    ≡ after (λ rest. map init_declarator_of front ++ rest) (reading.declarators (suc n) scope type d r)
declarators_more front x n scope type d e r u v one comma next =
    more_listed init_declarator_of front x (reading.declarators n (after_one type (init_declarator_of x) scope) type e v)
    ∙ ap (after (λ rest. map init_declarator_of front ++ rest))
    (sym
    (declarators_is n scope type d r u (init_declarator_of x) one
    ∙ ap (λ b. cond b (ex.declarator n (after_one type (init_declarator_of x) scope) named (behind u) >>= λ e. reading.declarators n (after_one type (init_declarator_of x) scope) type e.0 e.1 >>= λ y. Some (init_declarator_of x ∷ y.0, y.1))
    (expect t.Semicolon u >>= λ us. Some (init_declarator_of x ∷ [], us))) comma
    ∙ ap (λ read. read >>= λ e. reading.declarators n (after_one type (init_declarator_of x) scope) type e.0 e.1 >>= λ y. Some (init_declarator_of x ∷ y.0, y.1)) next))

pub declarators_last : (front : List InitDeclarator) (x : InitDeclarator) (n : ℕ) (scope : Scope) (type : Bool) (d : c.Declarator) (r u us : Rest)
    → one_declarator n scope type d r ≡ Some (init_declarator_of x, u) → sees t.Comma u.0 ≡ false → expect t.Semicolon u ≡ Some us
    → after (λ rest. map init_declarator_of front ++ rest) (reading.declarators (suc n) scope type d r) ≡ Some (map init_declarator_of (front ++ x ∷ []), us)
declarators_last front x n scope type d r u us one no_comma end =
    ap (after (λ rest. map init_declarator_of front ++ rest))
    (declarators_is n scope type d r u (init_declarator_of x) one
    ∙ ap (λ b. cond b (ex.declarator n (after_one type (init_declarator_of x) scope) named (behind u) >>= λ e. reading.declarators n (after_one type (init_declarator_of x) scope) type e.0 e.1 >>= λ y. Some (init_declarator_of x ∷ y.0, y.1))
    (expect t.Semicolon u >>= λ us. Some (init_declarator_of x ∷ [], us))) no_comma
    ∙ ap (λ read. read >>= λ us. Some (init_declarator_of x ∷ [], us)) end)
    ∙ last_listed init_declarator_of front x us

pub declarators_fail : (x : InitDeclarator) (n : ℕ) (scope : Scope) (type : Bool) (d : c.Declarator) (r u : Rest)
    → one_declarator n scope type d r ≡ Some (init_declarator_of x, u) → sees t.Comma u.0 ≡ true → ex.declarator n (after_one type (init_declarator_of x) scope) named (behind u) ≡ None
    → reading.declarators (suc n) scope type d r ≡ None
declarators_fail x n scope type d r u one comma none =
    declarators_is n scope type d r u (init_declarator_of x) one
    ∙ ap (λ b. cond b (ex.declarator n (after_one type (init_declarator_of x) scope) named (behind u) >>= λ e. reading.declarators n (after_one type (init_declarator_of x) scope) type e.0 e.1 >>= λ y. Some (init_declarator_of x ∷ y.0, y.1))
    (expect t.Semicolon u >>= λ us. Some (init_declarator_of x ∷ [], us))) comma
    ∙ ap (λ read. read >>= λ e. reading.declarators n (after_one type (init_declarator_of x) scope) type e.0 e.1 >>= λ y. Some (init_declarator_of x ∷ y.0, y.1)) none

pub after_more : (type : Bool) (front : List InitDeclarator) (x : InitDeclarator) (scope : Scope) → after_declarators type (map init_declarator_of (front ++ x ∷ [])) scope ≡ after_one type (init_declarator_of x) (after_declarators type (map init_declarator_of front) scope)
after_more type [] x scope = refl
after_more type (d ∷ front) x scope = after_more type front x (after_one type (init_declarator_of d) scope)

-- ---- labels

abbrev labels_behind : ℕ → Scope → c.Label × Rest → Option (List c.Label × Rest)
labels_behind n scope o = reading.labels n (after_label o.0 scope) o.1 >>= λ y. Some (o.0 ∷ y.0, y.1)

by_label : {A B : Type 0} (a b : Bool) (p q : Option A) (k : A → Option B) (P Q stop : Option B) → P ≡ (p >>= k) → Q ≡ (q >>= k) → cond a P (cond b Q stop) ≡ cond (a || b) (cond a p q >>= k) stop
by_label true b p q k P Q stop e f = e
by_label false true p q k P Q stop e f = f
by_label false false p q k P Q stop e f = refl

labels_is : (n : ℕ) (scope : Scope) (r : Rest) → reading.labels (suc n) scope r ≡ cond (begins_label r.0) (one_label n scope r >>= labels_behind n scope) (Some ([], r))
unfolding reading.controlling
labels_is n scope r =
    by_label (sees t.Case r.0) (sees t.Default r.0)
    (ex.conditional n scope (behind r) >>= λ x. expect t.Colon x.1 >>= λ us. Some (c.Case x.0, ended (start_of r.0) us))
    (expect t.Colon (behind r) >>= λ us. Some (c.Default, ended (start_of r.0) us))
    (labels_behind n scope) _ _ (Some ([], r))
    (chained_twice (ex.conditional n scope (behind r)) (λ x. expect t.Colon x.1) (λ x us. (c.Case x.0, ended (start_of r.0) us)) (labels_behind n scope))
    (chained (expect t.Colon (behind r)) (λ us. (c.Default, ended (start_of r.0) us)) (labels_behind n scope))

pub labels_more : (front : List Label) (x : Label) (n : ℕ) (scope : Scope) (r u : Rest) → begins_label r.0 ≡ true → one_label n scope r ≡ Some (label_of x, u)
    → after (λ rest. map label_of (front ++ x ∷ []) ++ rest) (reading.labels n (after_label (label_of x) scope) u) ≡ after (λ rest. map label_of front ++ rest) (reading.labels (suc n) scope r)
labels_more front x n scope r u begins one =
    more_listed label_of front x (reading.labels n (after_label (label_of x) scope) u)
    ∙ ap (after (λ rest. map label_of front ++ rest))
    (sym
    (labels_is n scope r
    ∙ ap (λ b. cond b (one_label n scope r >>= labels_behind n scope) (Some ([], r))) begins
    ∙ ap (λ read. read >>= labels_behind n scope) one))

pub labels_end : (front : List Label) (n : ℕ) (scope : Scope) (r : Rest) → begins_label r.0 ≡ false → after (λ rest. map label_of front ++ rest) (reading.labels (suc n) scope r) ≡ Some (map label_of front, r)
labels_end front n scope r none =
    ap (after (λ rest. map label_of front ++ rest)) (labels_is n scope r ∙ ap (λ b. cond b (one_label n scope r >>= labels_behind n scope) (Some ([], r))) none)
    ∙ all_listed label_of front r

pub after_label_more : (front : List Label) (x : Label) (scope : Scope) → after_labels (map label_of (front ++ x ∷ [])) scope ≡ after_label (label_of x) (after_labels (map label_of front) scope)
after_label_more [] (label.Case e) scope = refl
after_label_more [] label.Default scope = refl
after_label_more (label.Case e ∷ front) x scope = after_label_more front x (after_expression (expression_of e) scope)
after_label_more (label.Default ∷ front) x scope = after_label_more front x scope

-- ---- cases of a switch

abbrev cases_behind : ℕ → Scope → (List c.Label × c.Statement) × Rest → Option (c.Cases × Rest)
cases_behind n scope o = reading.cases n (after_case o.0 scope) o.1 >>= λ y. Some (c.a_case o.0.0 o.0.1 y.0, y.1)

cases_is : (n : ℕ) (scope : Scope) (r : Rest) → reading.cases (suc n) scope r ≡ cond (sees t.CloseBrace r.0) (Some (c.no_cases, behind r)) (one_case n scope r >>= cases_behind n scope)
unfolding reading.statement
cases_is n scope r =
    ap (cond (sees t.CloseBrace r.0) (Some (c.no_cases, behind r)))
    (chained_twice (reading.labels n scope r) (λ ls. reading.statement n (after_labels ls.0 scope) ls.1) (λ ls x. ((ls.0, x.0), x.1)) (cases_behind n scope))

pub cases_more : (front : List SwitchCase) (x : SwitchCase) (n : ℕ) (scope : Scope) (r u : Rest) → sees t.CloseBrace r.0 ≡ false → one_case n scope r ≡ Some (case_of x, u)
    → after (cases_before (cases_in (front ++ x ∷ []))) (reading.cases n (after_case (case_of x) scope) u) ≡ after (cases_before (cases_in front)) (reading.cases (suc n) scope r)
cases_more front x n scope r u on one =
    more_cases front x (reading.cases n (after_case (case_of x) scope) u)
    ∙ ap (after (cases_before (cases_in front)))
    (sym
    (cases_is n scope r
    ∙ ap (λ b. cond b (Some (c.no_cases, behind r)) (one_case n scope r >>= cases_behind n scope)) on
    ∙ ap (λ read. read >>= cases_behind n scope) one))

pub cases_end : (front : List SwitchCase) (n : ℕ) (scope : Scope) (r : Rest) → sees t.CloseBrace r.0 ≡ true → after (cases_before (cases_in front)) (reading.cases (suc n) scope r) ≡ Some (cases_in front, behind r)
cases_end front n scope r end =
    ap (after (cases_before (cases_in front))) (cases_is n scope r ∙ ap (λ b. cond b (Some (c.no_cases, behind r)) (one_case n scope r >>= cases_behind n scope)) end)
    ∙ all_cases front (behind r)

pub case_read : (n : ℕ) (scope : Scope) (r u v : Rest) (ls : List c.Label) (x : c.Statement) → reading.labels n scope r ≡ Some (ls, u) → reading.statement n (after_labels ls scope) u ≡ Some (x, v) → one_case n scope r ≡ Some ((ls, x), v)
case_read n scope r u v ls x first second = rw (first, second) refl

pub case_fails : (n : ℕ) (scope : Scope) (r u : Rest) (ls : List c.Label) → reading.labels n scope r ≡ Some (ls, u) → reading.statement n (after_labels ls scope) u ≡ None → one_case n scope r ≡ None
case_fails n scope r u ls first none = rw (first, none) refl

-- ---- the loop with a head

abbrev for_behind : ℕ → Scope → ℕ → Head × Rest → Option (c.Statement × Rest)
for_behind n scope start h = reading.statement n (after_head h.0 scope) h.1 >>= λ x. Some (c.For h.0.start h.0.test h.0.step x.0, ended start x.1)

abbrev head_of_three : c.ForStart × Rest → Option c.Expression × Rest → Option c.Expression × Rest → Head × Rest
head_of_three f e s = (record { start = f.0; test = e.0; step = s.0 }, s.1)

for_is : (n : ℕ) (scope : Scope) (start : ℕ) (r : Rest) → reading.for_loop (suc n) scope start r ≡ (expect t.OpenParen r >>= λ us. head n scope us >>= for_behind n scope start)
unfolding reading.statement
for_is n scope start r =
    bind_same (expect t.OpenParen r) _ _ (λ us.
    chained_thrice (reading.for_start n scope us) (λ f. reading.optional n (after_start f.0 scope) t.Semicolon f.1) (λ f e. reading.optional n (after_optional e.0 (after_start f.0 scope)) t.CloseParen e.1)
    head_of_three (for_behind n scope start))

pub for_read : (n : ℕ) (scope : Scope) (start : ℕ) (r us u v : Rest) (h : Head) (x : c.Statement) → expect t.OpenParen r ≡ Some us → head n scope us ≡ Some (h, u) → reading.statement n (after_head h scope) u ≡ Some (x, v)
    → reading.for_loop (suc n) scope start r ≡ Some (c.For h.start h.test h.step x, ended start v)
for_read n scope start r us u v h x opens first second =
    for_is n scope start r
    ∙ ap (λ read. read >>= λ us. head n scope us >>= for_behind n scope start) opens
    ∙ ap (λ read. read >>= for_behind n scope start) first
    ∙ ap (λ read. read >>= λ x. Some (c.For h.start h.test h.step x.0, ended start x.1)) second

pub for_no_head : (n : ℕ) (scope : Scope) (start : ℕ) (r us : Rest) → expect t.OpenParen r ≡ Some us → head n scope us ≡ None → reading.for_loop (suc n) scope start r ≡ None
for_no_head n scope start r us opens none =
    for_is n scope start r
    ∙ ap (λ read. read >>= λ us. head n scope us >>= for_behind n scope start) opens
    ∙ ap (λ read. read >>= for_behind n scope start) none

pub for_no_body : (n : ℕ) (scope : Scope) (start : ℕ) (r us u : Rest) (h : Head) → expect t.OpenParen r ≡ Some us → head n scope us ≡ Some (h, u) → reading.statement n (after_head h scope) u ≡ None → reading.for_loop (suc n) scope start r ≡ None
for_no_body n scope start r us u h opens first none =
    for_is n scope start r
    ∙ ap (λ read. read >>= λ us. head n scope us >>= for_behind n scope start) opens
    ∙ ap (λ read. read >>= for_behind n scope start) first
    ∙ ap (λ read. read >>= λ x. Some (c.For h.start h.test h.step x.0, ended start x.1)) none

-- ---- items of a block

abbrev items_behind : ℕ → Scope → read.Item × Rest → Option (c.Items × Rest)
items_behind n scope i = reading.items n (after_item i.0 scope) i.1 >>= λ y. Some (read.item_before i.0 y.0, y.1)

items_is : (n : ℕ) (scope : Scope) (r : Rest) → reading.items (suc n) scope r ≡ cond (sees t.CloseBrace r.0) (Some (c.no_items, behind r)) (reading.item n scope r >>= items_behind n scope)
unfolding reading.statement
items_is n scope r = refl

pub items_more : (front : List Item) (x : Item) (n : ℕ) (scope : Scope) (r u : Rest) → sees t.CloseBrace r.0 ≡ false → reading.item n scope r ≡ Some (item_of x, u)
    → after (items_before (items_in (front ++ x ∷ []))) (reading.items n (after_item (item_of x) scope) u) ≡ after (items_before (items_in front)) (reading.items (suc n) scope r)
items_more front x n scope r u on one =
    more_items front x (reading.items n (after_item (item_of x) scope) u)
    ∙ ap (after (items_before (items_in front)))
    (sym
    (items_is n scope r
    ∙ ap (λ b. cond b (Some (c.no_items, behind r)) (reading.item n scope r >>= items_behind n scope)) on
    ∙ ap (λ read. read >>= items_behind n scope) one))

pub items_end : (front : List Item) (n : ℕ) (scope : Scope) (r : Rest) → sees t.CloseBrace r.0 ≡ true → after (items_before (items_in front)) (reading.items (suc n) scope r) ≡ Some (items_in front, behind r)
items_end front n scope r end =
    ap (after (items_before (items_in front))) (items_is n scope r ∙ ap (λ b. cond b (Some (c.no_items, behind r)) (reading.item n scope r >>= items_behind n scope)) end)
    ∙ all_items front (behind r)

-- one item

pub item_marked : (n : ℕ) (scope : Scope) (r u : Rest) (m : c.Mark) → begins_mark r.0 ≡ true → ex.mark n scope r ≡ Some (m, u) → reading.item (suc n) scope r ≡ reading.marked_item n scope (start_of r.0) m u
unfolding reading.statement
item_marked n scope r u m begins one = rw (begins, one) refl

pub item_declared : (n : ℕ) (scope : Scope) (r u : Rest) (d : c.Declaration) → begins_mark r.0 ≡ false → begins_specifier scope false r.0 ≡ true → reading.declaration n scope r ≡ Some (d, u)
    → reading.item (suc n) scope r ≡ Some (read.declared d, ended (start_of r.0) u)
unfolding reading.statement
item_declared n scope r u d no_mark begins one = rw (no_mark, begins, one) refl

pub item_stated : (n : ℕ) (scope : Scope) (r u : Rest) (x : c.Statement) → begins_mark r.0 ≡ false → begins_specifier scope false r.0 ≡ false → reading.statement n scope r ≡ Some (x, u)
    → reading.item (suc n) scope r ≡ Some (read.stated x, ended (start_of r.0) u)
unfolding reading.statement
item_stated n scope r u x no_mark no_specifier one = rw (no_mark, no_specifier, one) refl

-- ---- externals

abbrev externals_behind : ℕ → Scope → c.External × Rest → Option (c.Unit × Rest)
externals_behind n scope x = reading.externals n (after_external x.0 scope) x.1 >>= λ y. Some (x.0 ∷ y.0, y.1)

externals_is : (n : ℕ) (scope : Scope) (r : Rest) → reading.externals (suc n) scope r
    ≡ cond (at_end r.0) (Some ([], r)) (cond (sees t.Semicolon r.0) (reading.externals n scope (behind r)) (reading.external n scope r >>= externals_behind n scope))
unfolding reading.externals
externals_is n scope r = refl

pub externals_skip : (n : ℕ) (scope : Scope) (r : Rest) → at_end r.0 ≡ false → sees t.Semicolon r.0 ≡ true → reading.externals n scope (behind r) ≡ reading.externals (suc n) scope r
externals_skip n scope r on skips =
    sym
    (externals_is n scope r
    ∙ ap (λ b. cond b (Some ([], r)) (cond (sees t.Semicolon r.0) (reading.externals n scope (behind r)) (reading.external n scope r >>= externals_behind n scope))) on
    ∙ ap (λ b. cond b (reading.externals n scope (behind r)) (reading.external n scope r >>= externals_behind n scope)) skips)

pub externals_more : (front : List External) (x : External) (n : ℕ) (scope : Scope) (r u : Rest) → at_end r.0 ≡ false → sees t.Semicolon r.0 ≡ false → reading.external n scope r ≡ Some (external_of x, u)
    → after (λ rest. map external_of (front ++ x ∷ []) ++ rest) (reading.externals n (after_external (external_of x) scope) u) ≡ after (λ rest. map external_of front ++ rest) (reading.externals (suc n) scope r)
externals_more front x n scope r u on no_skip one =
    more_listed external_of front x (reading.externals n (after_external (external_of x) scope) u)
    ∙ ap (after (λ rest. map external_of front ++ rest))
    (sym
    (externals_is n scope r
    ∙ ap (λ b. cond b (Some ([], r)) (cond (sees t.Semicolon r.0) (reading.externals n scope (behind r)) (reading.external n scope r >>= externals_behind n scope))) on
    ∙ ap (λ b. cond b (reading.externals n scope (behind r)) (reading.external n scope r >>= externals_behind n scope)) no_skip
    ∙ ap (λ read. read >>= externals_behind n scope) one))

pub externals_end : (front : List External) (n : ℕ) (scope : Scope) (r : Rest) → at_end r.0 ≡ true → after (λ rest. map external_of front ++ rest) (reading.externals (suc n) scope r) ≡ Some (map external_of front, r)
externals_end front n scope r end =
    ap (after (λ rest. map external_of front ++ rest))
    (externals_is n scope r ∙ ap (λ b. cond b (Some ([], r)) (cond (sees t.Semicolon r.0) (reading.externals n scope (behind r)) (reading.external n scope r >>= externals_behind n scope))) end)
    ∙ all_listed external_of front r

-- one external

pub external_defines : (n : ℕ) (scope : Scope) (r u v : Rest) (ss : c.Specifiers) (name : Option (List ℕ)) (parts : c.Parts) → ex.specifiers (suc n) scope r ≡ Some (ss, u) → sees t.Semicolon u.0 ≡ false
    → ex.declarator (suc n) (after_specifiers ss scope) (naming_behind ss) u ≡ Some (c.declarator name parts, v) → sees t.OpenBrace v.0 ≡ true
    → reading.external (suc (suc n)) scope r ≡ definition n (after_specifiers ss scope) (start_of r.0) ss (c.declarator name parts) v
unfolding reading.external
external_defines n scope r u v ss name parts first no_end second brace = rw (first, no_end, second, brace) refl

pub external_declares : (n : ℕ) (scope : Scope) (r u v : Rest) (ss : c.Specifiers) (d : c.Declarator) → ex.specifiers (suc n) scope r ≡ Some (ss, u) → sees t.Semicolon u.0 ≡ false
    → ex.declarator (suc n) (after_specifiers ss scope) (naming_behind ss) u ≡ Some (d, v) → sees t.OpenBrace v.0 ≡ false
    → reading.external (suc (suc n)) scope r ≡ declared_on n (after_specifiers ss scope) (start_of r.0) ss d v
unfolding reading.external
external_declares n scope r u v ss d first no_end second no_brace = rw (first, no_end, second, no_brace) refl

-- what holds of each answer holds of the one that was read
answered : {A B : Type 0} (read : Option A) (f : A → B × Rest) (P : B → Type 0) → ((a : A) → P (f a).0) → (y : B) (u : Rest) → (read >>= λ a. Some (f a)) ≡ Some (y, u) → P y
answered None f P all y u is = absurd cc
answered (Some a) f P all y u is = let first : (f a).0 ≡ y = cc in subst P first (all a)

pub scope_behind_definition : (n : ℕ) (names scope : Scope) (start : ℕ) (ss : c.Specifiers) (d : c.Declarator) (r : Rest) → names ≡ after_specifiers ss scope
    → (y : c.External) (u : Rest) → definition n names start ss d r ≡ Some (y, u) → behind_external y names ≡ after_external y scope
scope_behind_definition n names scope start ss d r same y u is =
    answered (reading.items n (in_function d (after_declarator (makes_types ss) d names)) (behind r)) (λ y. (c.Defines ss d y.0, ended start y.1)) (λ y. behind_external y names ≡ after_external y scope)
    (λ a. ap (after_declarator (makes_types ss) d) same) y u is

pub scope_behind_declared : (n : ℕ) (names scope : Scope) (start : ℕ) (ss : c.Specifiers) (d : c.Declarator) (r : Rest) → names ≡ after_specifiers ss scope
    → (y : c.External) (u : Rest) → declared_on n names start ss d r ≡ Some (y, u) → behind_external y names ≡ after_external y scope
scope_behind_declared n names scope start ss d r same y u is =
    answered (reading.declarators n names (makes_types ss) d r) (λ ds. (c.Declared (record { specifiers = ss; declarators = ds.0 }), ended start ds.1)) (λ y. behind_external y names ≡ after_external y scope)
    (λ a. ap (after_declarators (makes_types ss) a.0) same) y u is
