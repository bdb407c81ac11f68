-- Marks that are read are derived: a step of each reading function.
use Rattle.std.proofs.Common.{ℕ, suc, List, ◌∷◌, drop}
use Rattle.lt_tree.specs.declared.terminal.Terminal.TheVariants as t
use Rattle.lt_tree.specs.Tree as c
use Rattle.lt_tree.specs.Symbols.{Symbol, start_of}
use Rattle.lt_tree.specs.Scope.{Scope}
use Rattle.lt_tree.specs.Grammar as g
use Rattle.lt_expr.specs.Front.{behind, begins_mark}
use Rattle.lt_expr.specs.Reading as read
use Rattle.lt_expr.specs.Reading.{Labelled, with_bindings}
use Rattle.lt_expr.proofs.SoundSteps.{given, both, chosen}
use Rattle.lt_expr.proofs.SoundFronts.{Sees, seen, HasName, has_name, HasId, has_id, HasTag, has_tag, seeing, expecting, with_name, with_id, with_tag}
use Rattle.lt_expr.proofs.SoundSpots.{by_rule, two, one_node, node_of_two}
use Rattle.lt_expr.proofs.SoundStatements.{ReadsSound, LabelledSound, MarkSound, BindingsSound, MarksSound, IsLabelled, labelled}

-- ---- the rules, by what is seen

labelled_rule : {scope : Scope} {ts us : List Symbol} {e : c.Expression} {id tag spots more : List ℕ}
    → Sees t.OpenParen ts → g.IsExpression scope g.assignment (drop 1 ts) e us spots more → HasId us id → HasTag (drop 1 (drop 1 us)) tag
    → IsLabelled scope ts (record { predicate = e; id = id; tag = tag }) (drop 1 (drop 1 (drop 1 (drop 1 us)))) spots more
labelled_rule seen d has_id (has_tag l) = labelled d l

label_rule : {scope : Scope} {ts us : List Symbol} {l : Labelled} {spots more : List ℕ}
    → Sees t.Label ts → Sees t.CloseParen us → IsLabelled scope (drop 1 ts) l us spots more
    → g.IsMark scope ts (with_bindings l c.no_bindings) (drop 1 us) (start_of ts ∷ spots) more
label_rule seen seen (labelled d l) = g.label d l

binding_label_rule : {scope : Scope} {ts us vs : List Symbol} {l : Labelled} {bound : c.Bindings} {spots middle more : List ℕ}
    → Sees t.LabelBind ts → Sees t.CloseParen vs → IsLabelled scope (drop 1 ts) l us spots middle → g.AreBindings scope us bound vs middle more
    → g.IsMark scope ts (with_bindings l bound) (drop 1 vs) (start_of ts ∷ spots) more
binding_label_rule seen seen (labelled d l) b = g.binding_label d l b

last_binding_rule : {scope : Scope} {ts rest : List Symbol} {w : List ℕ} {e : c.Expression} {spots more : List ℕ}
    → Sees t.Comma ts → HasName (drop 1 ts) w → Sees t.Comma (drop 1 (drop 1 ts))
    → g.IsExpression scope g.assignment (drop 1 (drop 1 (drop 1 ts))) e rest spots more
    → g.AreBindings scope ts (c.a_binding w e c.no_bindings) rest spots more
last_binding_rule seen has_name seen d = g.last_binding d

more_bindings_rule : {scope : Scope} {ts us rest : List Symbol} {w : List ℕ} {e : c.Expression} {bound : c.Bindings} {spots middle more : List ℕ}
    → Sees t.Comma ts → HasName (drop 1 ts) w → Sees t.Comma (drop 1 (drop 1 ts))
    → g.IsExpression scope g.assignment (drop 1 (drop 1 (drop 1 ts))) e us spots middle → g.AreBindings scope us bound rest middle more
    → g.AreBindings scope ts (c.a_binding w e bound) rest spots more
more_bindings_rule seen has_name seen d b = g.more_bindings d b

last_mark_rule : {scope : Scope} {ts us : List Symbol} {m : c.Mark} {spots more : List ℕ}
    → Sees t.Comma us → g.IsMark scope ts m us spots more → g.AreMarks scope ts (c.a_mark m c.no_marks) (drop 1 us) spots more
last_mark_rule seen d = g.last_mark d

more_marks_rule : {scope : Scope} {ts us rest : List Symbol} {m : c.Mark} {ms : c.Marks} {spots middle more : List ℕ}
    → Sees t.Comma us → g.IsMark scope ts m us spots middle → g.AreMarks scope (drop 1 us) ms rest middle more
    → g.AreMarks scope ts (c.a_mark m ms) rest spots more
more_marks_rule seen d ds = g.more_marks d ds

-- ---- a step of each

pub labelled_sound : (n : ℕ) → ReadsSound g.assignment (read.assignment n) → LabelledSound (suc n)
unfolding read.expression
labelled_sound n assignment scope r =
    expecting t.OpenParen r _ (λ q. cc) (λ s.
    both (read.assignment n scope (behind r)) (assignment scope (behind r)) (λ x d.
    with_id x.1 _ (λ id i.
    with_tag (behind (behind x.1)) _ (λ tag l.
    given (by_rule (λ spots more h. labelled_rule s h i l) d)))))

pub mark_sound : (n : ℕ) → LabelledSound n → BindingsSound n → MarkSound (suc n)
unfolding read.expression
mark_sound n front bindings scope r =
    seeing t.Label r.0 (λ q. cc)
    (λ s.
    both (read.labelled n scope (behind r)) (front scope (behind r)) (λ l d.
    expecting t.CloseParen l.1 _ (λ q. cc) (λ close.
    given (one_node (λ spots more h. label_rule s close h) d))))
    (λ not.
    expecting t.LabelBind r _ (λ q. cc) (λ s.
    both (read.labelled n scope (behind r)) (front scope (behind r)) (λ l d.
    both (read.bindings n scope l.1) (bindings scope l.1) (λ b f.
    expecting t.CloseParen b.1 _ (λ q. cc) (λ close.
    given (node_of_two (λ spots middle more h k. binding_label_rule s close h k) d f))))))

pub bindings_sound : (n : ℕ) → ReadsSound g.assignment (read.assignment n) → BindingsSound n → BindingsSound (suc n)
unfolding read.expression
bindings_sound n assignment bindings scope r =
    expecting t.Comma r _ (λ q. cc) (λ s.
    with_name (behind r) _ (λ w i.
    expecting t.Comma (behind (behind r)) _ (λ q. cc) (λ s'.
    both (read.assignment n scope (behind (behind (behind r)))) (assignment scope (behind (behind (behind r)))) (λ x d.
    seeing t.Comma x.1.0 (λ q. cc)
    (λ more.
    both (read.bindings n scope x.1) (bindings scope x.1) (λ y f.
    given (two (λ spots middle after h k. more_bindings_rule s i s' h k) d f)))
    (λ last. given (by_rule (λ spots after h. last_binding_rule s i s' h) d))))))

pub marks_sound : (n : ℕ) → MarkSound n → MarksSound n → MarksSound (suc n)
unfolding read.expression
marks_sound n mark marks scope r =
    both (read.mark n scope r) (mark scope r) (λ m d.
    expecting t.Comma m.1 _ (λ q. cc) (λ s.
    chosen (begins_mark (behind m.1).0)
    (λ more.
    both (read.marks n scope (behind m.1)) (marks scope (behind m.1)) (λ y f.
    given (two (λ spots middle after h k. more_marks_rule s h k) d f)))
    (λ last. given (by_rule (λ spots after h. last_mark_rule s h) d))))
