-- A unit without marks of some ids has none when marks of other ids are added.
use Rattle.std.proofs.Common.{◌≡◌, ℕ, List, [], ◌∷◌, ◌++◌, Bool, true, false, refl}
use Rattle.std.proofs.lemmas.Bool.{false≢true}
use Rattle.std.specs.Prelude.{◌==◌, ◌&&◌, suc, if◌then◌else◌}
use Rattle.std.specs.List.{AllByRecursion}
use Rattle.std.specs.Fmt.{decimal}
use Rattle.lt_tree.specs.Tree as c
use Rattle.lt_tree.specs.Nodes.{Node, an_expression, a_mark, in_expression, in_marks, in_mark, nodes}
use Rattle.lt_tree.specs.Typing.MarkRules.{number_of_id}
use Rattle.lt_objectives.specs.Objectives.{Form, at_start, in_front, around}
use Rattle.lt_objectives.specs.Marked.{NewMark, same_form, is_there, labels, decided, preceded_by, within, unit_with_marks}
use Rattle.lt_mark_typing.specs.Placed.{IsOld, AreOld}
use Rattle.lt_objective_marks.specs.Marks.{IsOldAs, IsOldMark}
use Rattle.lt_objective_marks.proofs.KeptExpressions.{is_other, StaysSo}
use Rattle.lt_objective_marks.proofs.KeptStatements.{unit_stays_so}

-- ---- nodes

pub both_old : (o : ℕ → Bool) (xs ys : List Node) → AreOld o xs → AreOld o ys → AreOld o (xs ++ ys)
both_old o [] ys h g = g
both_old o (x ∷ xs) ys h g = (h.0, both_old o xs ys h.1 g)

-- AreOld is of all nodes
all_old : (o : ℕ → Bool) (list : List Node) → AreOld o list → AllByRecursion (IsOld o) list
all_old o [] h = tt
all_old o (it ∷ rest) h = (h.0, all_old o rest h.1)

are_old : (o : ℕ → Bool) (list : List Node) → AllByRecursion (IsOld o) list → AreOld o list
are_old o [] h = tt
are_old o (it ∷ rest) h = (h.0, are_old o rest h.1)

-- ---- marks at a place

around_old : (o : ℕ → Bool) (form : Form) (b : Bool) (it : NewMark) → same_form around form && b ≡ true → IsOldAs o form it
    → (o (number_of_id (decimal it.id)) ≡ false) × (o (number_of_id (decimal (suc it.id))) ≡ false)
around_old o around b it is h = h
around_old o at_start b it is h = absurd (false≢true is)
around_old o in_front b it is h = absurd (false≢true is)

label_old : (o : ℕ → Bool) (form own : Form) (b : Bool) (it : NewMark) → (form ≡ around → ⊥) → same_form form own && b ≡ true → IsOldAs o own it
    → (o (number_of_id (decimal it.id)) ≡ false) × AreOld o (in_expression it.objective.predicate)
label_old o form at_start b it label is h = h
label_old o form in_front b it label is h = h
label_old o around around b it label is h = absurd (label refl)
label_old o at_start around b it label is h = absurd (false≢true is)
label_old o in_front around b it label is h = absurd (false≢true is)

labels_old : (o : ℕ → Bool) (form : Form) → (form ≡ around → ⊥) → (new : List NewMark) → AllByRecursion (IsOldMark o) new → (k : ℕ) → AreOld o (in_marks (labels form new k))
labels_old o form label [] h k = tt
labels_old o form label (it ∷ rest) h k = by (is_there form k it) refl (labels_old o form label rest h.1 k)
  where
    by : (b : Bool) → is_there form k it ≡ b → AreOld o (in_marks (labels form rest k))
        → AreOld o (in_marks (if b then c.a_mark (c.mark it.objective.predicate (decimal it.id) it.objective.tag c.no_bindings) (labels form rest k) else labels form rest k))
    by true is g =
        let own = label_old o form it.objective.form (it.objective.place == k) it label is h.0 in
        both_old o (in_mark (c.mark it.objective.predicate (decimal it.id) it.objective.tag c.no_bindings)) (in_marks (labels form rest k))
        (own.0, both_old o (in_expression it.objective.predicate) [] own.1 tt) g
    by false is g = g

decided_old : (o : ℕ → Bool) (new : List NewMark) → AllByRecursion (IsOldMark o) new → (k : ℕ) (e : c.Expression) → AreOld o (in_expression e) → AreOld o (in_expression (decided new k e))
decided_old o [] h k e g = g
decided_old o (it ∷ rest) h k e g = by (is_there around k it) refl (decided_old o rest h.1 k e g)
  where
    by : (b : Bool) → is_there around k it ≡ b → AreOld o (in_expression (decided rest k e)) → AreOld o (in_expression (if b then c.Decide (decided rest k e) (decimal it.id) (decimal (suc it.id)) it.objective.tag else decided rest k e))
    by true is inside = (around_old o it.objective.form (it.objective.place == k) it is h.0, inside)
    by false is inside = inside

preceded_old : (o : ℕ → Bool) (marks : c.Marks) (e : c.Expression) → AreOld o (in_marks marks) → AreOld o (in_expression e) → AreOld o (in_expression (preceded_by marks e))
preceded_old o c.no_marks e h g = g
preceded_old o (c.a_mark first rest) e h g = (tt, both_old o (in_marks (c.a_mark first rest)) (in_expression e) h g)

-- ---- units

other_old : (o : ℕ → Bool) (it : Node) → is_other it ≡ true → IsOld o it
other_old o (an_expression e) is = absurd (false≢true is)
other_old o (a_mark m) is = absurd (false≢true is)
other_old o _ is = tt

within_old : (o : ℕ → Bool) (new : List NewMark) (k : ℕ) (e : c.Expression) → IsOld o (an_expression e) → IsOld o (an_expression (within new k e))
within_old o new k (c.Decide e p q tag) h = h
within_old o new k (c.After e id tag) h = h
within_old o new k (c.Name w) h = tt
within_old o new k (c.Constant w) h = tt
within_old o new k (c.Text bytes) h = tt
within_old o new k (c.Index d e) h = tt
within_old o new k (c.Call f es) h = tt
within_old o new k (c.Member e w) h = tt
within_old o new k (c.Arrow e w) h = tt
within_old o new k (c.PostInc e) h = tt
within_old o new k (c.PostDec e) h = tt
within_old o new k (c.PreInc e) h = tt
within_old o new k (c.PreDec e) h = tt
within_old o new k (c.Unary op e) h = tt
within_old o new k (c.SizeofExpr e) h = tt
within_old o new k (c.SizeofType s d) h = tt
within_old o new k (c.Cast s d e) h = tt
within_old o new k (c.Binary op d e) h = tt
within_old o new k (c.Logical op d e) h = tt
within_old o new k (c.Conditional p d e) h = tt
within_old o new k (c.Assign op d e) h = tt
within_old o new k (c.Comma es) h = tt
within_old o new k (c.Marked ms e) h = tt

module _ (o : ℕ → Bool) (new : List NewMark) (old : AllByRecursion (IsOldMark o) new) where
  stays_old : StaysSo (IsOld o) new
  stays_old = record {
    others = other_old o;
    inside = within_old o new;
    marks = λ form label k. all_old o (in_marks (labels form new k)) (labels_old o form label new old k);
    around_it = λ k e h. all_old o (in_expression (decided new k e)) (decided_old o new old k e (are_old o (in_expression e) h));
    in_front_of_it = λ k e h.
        all_old o (in_expression (preceded_by (labels in_front new k) e)) (preceded_old o (labels in_front new k) e (labels_old o in_front (λ e. absurd cc) new old k) (are_old o (in_expression e) h));
  }

  -- a unit with such marks has no mark with a new id, if it had none
  pub unit_stays_old : (unit : c.Unit) → AreOld o (nodes unit) → AreOld o (nodes (unit_with_marks new unit))
  unit_stays_old unit h = are_old o (nodes (unit_with_marks new unit)) (unit_stays_so stays_old unit (all_old o (nodes unit) h))
