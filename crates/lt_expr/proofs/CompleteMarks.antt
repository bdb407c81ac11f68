-- What is derived of marks is read, rule by rule.
use Rattle.std.proofs.Common.{◌≡◌, ℕ, suc, ◌<◌, true, false, List, ◌∷◌, length, Some, refl, ap, ◌∙◌, arith}
use Rattle.lt_tree.specs.declared.terminal.Terminal.TheVariants as t
use Rattle.lt_tree.specs.Tree as c
use Rattle.lt_tree.specs.Symbols.{Symbol, name, constant, literal, sign}
use Rattle.lt_tree.specs.Scope.{Scope}
use Rattle.lt_tree.specs.Ahead.{same_terminal, sees}
use Rattle.lt_tree.specs.Grammar as g
use Rattle.lt_tree.specs.Grammar.{IsLiteral}
use Rattle.lt_expr.specs.Front.{name_at, begins_mark}
use Rattle.lt_expr.specs.Reading as r
use Rattle.lt_expr.specs.Reading.{Labelled, with_bindings}
use Rattle.lt_expr.specs.Walk.{walk, walk_mark, walk_marks, walk_bindings}
use Rattle.lt_expr.proofs.CompleteFronts.{follows, not_seen}
use Rattle.lt_expr.proofs.CompleteLiterals.{literal_is_value}
use Rattle.lt_expr.proofs.CompleteForms.{Read, once, twice, node_of, Complete}
use Rattle.lt_expr.proofs.CompleteSteps.{labelled_reads}

-- ---- steps

mark_label : (n : ℕ) (scope : Scope) (at g' : ℕ) (ts rest : List Symbol) (l : Labelled) (ends now : List ℕ)
    → r.labelled n scope (ts, ends) ≡ Some (l, (sign t.CloseParen g' ∷ rest, now))
    → r.mark (suc n) scope (sign t.Label at ∷ ts, ends) ≡ Some (with_bindings l c.no_bindings, (rest, at ∷ now))
unfolding r.expression same_terminal
mark_label n scope at g' ts rest l ends now inner = rw inner refl

mark_bind : (n : ℕ) (scope : Scope) (at g' : ℕ) (ts us rest : List Symbol) (l : Labelled) (bound : c.Bindings) (ends middle now : List ℕ)
    → r.labelled n scope (ts, ends) ≡ Some (l, (us, middle)) → r.bindings n scope (us, middle) ≡ Some (bound, (sign t.CloseParen g' ∷ rest, now))
    → r.mark (suc n) scope (sign t.LabelBind at ∷ ts, ends) ≡ Some (with_bindings l bound, (rest, at ∷ now))
unfolding r.expression same_terminal
mark_bind n scope at g' ts us rest l bound ends middle now inner others = rw (inner, others) refl

bindings_last : (n : ℕ) (scope : Scope) (a b d : ℕ) (w : List ℕ) (ts rest : List Symbol) (e : c.Expression) (ends now : List ℕ) → follows rest ≡ 0
    → r.assignment n scope (ts, ends) ≡ Some (e, (rest, now))
    → r.bindings (suc n) scope (sign t.Comma a ∷ name w b ∷ sign t.Comma d ∷ ts, ends) ≡ Some (c.a_binding w e c.no_bindings, (rest, now))
unfolding r.expression same_terminal name_at
bindings_last n scope a b d w ts rest e ends now quiet inner = rw (inner, not_seen t.Comma rest (omega arith) (λ k. omega arith)) refl

bindings_more : (n : ℕ) (scope : Scope) (a b d : ℕ) (w : List ℕ) (ts us rest : List Symbol) (e : c.Expression) (bound : c.Bindings) (ends middle now : List ℕ) → sees t.Comma us ≡ true
    → r.assignment n scope (ts, ends) ≡ Some (e, (us, middle)) → r.bindings n scope (us, middle) ≡ Some (bound, (rest, now))
    → r.bindings (suc n) scope (sign t.Comma a ∷ name w b ∷ sign t.Comma d ∷ ts, ends) ≡ Some (c.a_binding w e bound, (rest, now))
unfolding r.expression same_terminal name_at
bindings_more n scope a b d w ts us rest e bound ends middle now front inner others = rw (inner, front, others) refl

marks_last : (n : ℕ) (scope : Scope) (a : ℕ) (ts rest : List Symbol) (m : c.Mark) (ends now : List ℕ) → begins_mark rest ≡ false
    → r.mark n scope (ts, ends) ≡ Some (m, (sign t.Comma a ∷ rest, now)) → r.marks (suc n) scope (ts, ends) ≡ Some (c.a_mark m c.no_marks, (rest, now))
unfolding r.expression same_terminal
marks_last n scope a ts rest m ends now front inner = rw (inner, front) refl

marks_more : (n : ℕ) (scope : Scope) (a : ℕ) (ts us rest : List Symbol) (m : c.Mark) (ms : c.Marks) (ends middle now : List ℕ) → begins_mark us ≡ true
    → r.mark n scope (ts, ends) ≡ Some (m, (sign t.Comma a ∷ us, middle)) → r.marks n scope (us, middle) ≡ Some (ms, (rest, now))
    → r.marks (suc n) scope (ts, ends) ≡ Some (c.a_mark m ms, (rest, now))
unfolding r.expression same_terminal
marks_more n scope a ts us rest m ms ends middle now front inner others = rw (inner, front, others) refl

-- ---- the rules

abbrev pub OneMark : Scope → List Symbol → c.Mark → List Symbol → List ℕ → List ℕ → List ℕ → Type 0
OneMark scope ts m rest spots more ends = Read (λ n. r.mark n scope) walk_mark 1 ts m rest spots more ends

abbrev pub Marks : Scope → List Symbol → c.Marks → List Symbol → List ℕ → List ℕ → List ℕ → Type 0
Marks scope ts ms rest spots more ends = begins_mark rest ≡ false → Read (λ n. r.marks n scope) walk_marks 2 ts ms rest spots more ends

abbrev pub Bindings : Scope → List Symbol → c.Bindings → List Symbol → List ℕ → List ℕ → List ℕ → Type 0
Bindings scope ts bound rest spots more ends = follows rest ≡ 0 → Read (λ n. r.bindings n scope) walk_bindings 1 ts bound rest spots more ends

pub label_complete : (scope : Scope) (at a b c' d f g' : ℕ) (ts rest : List Symbol) (e : c.Expression) (id raw tag spots more ends : List ℕ) → IsLiteral raw tag
    → Complete g.assignment scope ts e (sign t.Comma b ∷ constant id c' ∷ sign t.Comma d ∷ literal raw f ∷ sign t.CloseParen g' ∷ rest) spots more ends
    → OneMark scope (sign t.Label at ∷ sign t.OpenParen a ∷ ts) (c.mark e id tag c.no_bindings) rest (at ∷ spots) more ends
label_complete scope at a b c' d f g' ts rest e id raw tag spots more ends l ce =
    let x = ce (omega arith) in
    twice (at ∷ x.now) (node_of (walk e) at x.now more ends spots x.walked) (omega arith)
    (λ n big. mark_label (suc n) scope at g' (sign t.OpenParen a ∷ ts) rest (record { predicate = e; id = id; tag = tag }) ends x.now
    (labelled_reads n scope a b c' d f ts (sign t.CloseParen g' ∷ rest) e id raw tag ends x.now (x.reads n (omega arith)) (literal_is_value l)))

pub binding_label_complete : (scope : Scope) (at a b c' d f g' : ℕ) (ts us rest : List Symbol) (e : c.Expression) (id raw tag : List ℕ) (bound : c.Bindings) (spots between more ends : List ℕ)
    → IsLiteral raw tag → length us < length ts
    → Complete g.assignment scope ts e (sign t.Comma b ∷ constant id c' ∷ sign t.Comma d ∷ literal raw f ∷ us) spots between ends
    → ((now : List ℕ) → Bindings scope us bound (sign t.CloseParen g' ∷ rest) between more now)
    → OneMark scope (sign t.LabelBind at ∷ sign t.OpenParen a ∷ ts) (c.mark e id tag bound) rest (at ∷ spots) more ends
binding_label_complete scope at a b c' d f g' ts us rest e id raw tag bound spots between more ends l short ce cb =
    let x = ce (omega arith) in
    let y = cb x.now refl in
    twice (at ∷ y.now) (node_of (λ v. walk e (walk_bindings bound v)) at y.now more ends spots (ap (walk e) y.walked ∙ x.walked)) (omega arith)
    (λ n big. mark_bind (suc n) scope at g' (sign t.OpenParen a ∷ ts) us rest (record { predicate = e; id = id; tag = tag }) bound ends x.now y.now
    (labelled_reads n scope a b c' d f ts us e id raw tag ends x.now (x.reads n (omega arith)) (literal_is_value l)) (y.reads (suc n) (omega arith)))

pub last_binding_complete : (scope : Scope) (a b d : ℕ) (w : List ℕ) (ts rest : List Symbol) (e : c.Expression) (spots more ends : List ℕ)
    → Complete g.assignment scope ts e rest spots more ends
    → Bindings scope (sign t.Comma a ∷ name w b ∷ sign t.Comma d ∷ ts) (c.a_binding w e c.no_bindings) rest spots more ends
last_binding_complete scope a b d w ts rest e spots more ends ce quiet =
    let x = ce (omega arith) in once x.now x.walked (omega arith) (λ n big. bindings_last n scope a b d w ts rest e ends x.now quiet (x.reads n (omega arith)))

pub more_bindings_complete : (scope : Scope) (a b d : ℕ) (w : List ℕ) (ts us rest : List Symbol) (e : c.Expression) (bound : c.Bindings) (spots between more ends : List ℕ)
    → sees t.Comma us ≡ true → follows us ≡ 1 → length us < length ts
    → Complete g.assignment scope ts e us spots between ends
    → ((now : List ℕ) → Bindings scope us bound rest between more now)
    → Bindings scope (sign t.Comma a ∷ name w b ∷ sign t.Comma d ∷ ts) (c.a_binding w e bound) rest spots more ends
more_bindings_complete scope a b d w ts us rest e bound spots between more ends front comma short ce cb quiet =
    let x = ce (omega arith) in
    let y = cb x.now quiet in
    once y.now (ap (walk e) y.walked ∙ x.walked) (omega arith)
    (λ n big. bindings_more n scope a b d w ts us rest e bound ends x.now y.now front (x.reads n (omega arith)) (y.reads n (omega arith)))

pub last_mark_complete : (scope : Scope) (a : ℕ) (ts rest : List Symbol) (m : c.Mark) (spots more ends : List ℕ)
    → OneMark scope ts m (sign t.Comma a ∷ rest) spots more ends → Marks scope ts (c.a_mark m c.no_marks) rest spots more ends
last_mark_complete scope a ts rest m spots more ends x front = once x.now x.walked (omega arith) (λ n big. marks_last n scope a ts rest m ends x.now front (x.reads n (omega arith)))

pub more_marks_complete : (scope : Scope) (a : ℕ) (ts us rest : List Symbol) (m : c.Mark) (ms : c.Marks) (spots between more ends : List ℕ)
    → begins_mark us ≡ true → length us < length ts
    → OneMark scope ts m (sign t.Comma a ∷ us) spots between ends
    → ((now : List ℕ) → Marks scope us ms rest between more now)
    → Marks scope ts (c.a_mark m ms) rest spots more ends
more_marks_complete scope a ts us rest m ms spots between more ends begins short x cb front =
    let y = cb x.now front in
    once y.now (ap (walk_mark m) y.walked ∙ x.walked) (omega arith)
    (λ n big. marks_more n scope a ts us rest m ms ends x.now y.now begins (x.reads n (omega arith)) (y.reads n (omega arith)))
