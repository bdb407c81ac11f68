-- The marks of one place, taken one by one.
use Rattle.std.proofs.Common.{◌≡◌, refl, sym, ap, ◌∙◌, subst, ℕ, suc, ◌+◌, ◌-◌, ◌^◌, ◌<◌, ◌≤◌, min, false, List, [], ◌∷◌, ◌++◌, length, append_assoc, arith}
use Rattle.std.specs.List.{AllByRecursion}
use Rattle.lt_tree.specs.Tree as c
use Rattle.std.specs.Fmt.{decimal}
use Rattle.lt_tree.specs.declared.mark.Mark.{Mark}
use Rattle.lt_tree.specs.View.{mark_of}
use Rattle.lt_tree.specs.Records.{marks_in}
use Rattle.lt_placing.specs.declared.new_mark.NewMark.{NewMark as Held}
use Rattle.lt_objectives.specs.Objectives.{Form, at_start, in_front}
use Rattle.lt_objectives.specs.Marked.{NewMark, labels, decided, joined}
use Rattle.lt_placing.specs.declared.place.PlaceMarks.{PlaceMarks}
use Rattle.lt_placing.specs.declared.walk.Walk.{Walk}
use Rattle.lt_placing.specs.NewMarks.{new_marks}
use Rattle.lt_placing.specs.Walks.{counted, of_place, AscendFrom, is_reached, StandsAt, decided_by, AreOf, TakesIn}
use Rattle.lt_placing.proofs.PlaceLists.{joined_none, joined_joined, labels_first, labels_same, decided_same, of_place_behind, small, labels_unreached, decided_unreached, labels_counted, decided_counted}
use Rattle.lt_placing.proofs.Standing.{all_joined, all_weaker, ascend_rest}

-- of all these marks, those that are left are still to be looked at
pub record Gathered (here : PlaceMarks) (all left : List NewMark) (place : ℕ) : Type 0 where
  pub starts : joined (marks_in here.starts.items) (labels at_start left place) ≡ labels at_start all place
  pub labels_in_front : joined (marks_in here.labels.items) (labels in_front left place) ≡ labels in_front all place
  pub decisions : (e : c.Expression) → decided_by (new_marks here.decisions.items) (decided left place e) ≡ decided all place e
  pub behind : List NewMark
  pub parts : all ≡ behind ++ left
  pub reached : AllByRecursion (λ (it : NewMark). it.objective.place ≤ place) behind

pub none_gathered : (here : PlaceMarks) (all : List NewMark) (place : ℕ) → here.starts.items ≡ [] → here.labels.items ≡ [] → here.decisions.items ≡ [] → Gathered here all all place
none_gathered here all place starts front decisions = record {
  starts = ap (λ xs. joined (marks_in xs) (labels at_start all place)) starts;
  labels_in_front = ap (λ xs. joined (marks_in xs) (labels in_front all place)) front;
  decisions = λ e. ap (λ xs. decided_by (new_marks xs) (decided all place e)) decisions;
  behind = [];
  parts = refl;
  reached = tt;
}

more_labels : (form : Form) (old now : c.Marks) (it : NewMark) (all left : List NewMark) (place : ℕ) → now ≡ joined old (labels form (it ∷ []) place) →
    joined old (labels form (it ∷ left) place) ≡ labels form all place → joined now (labels form left place) ≡ labels form all place
more_labels form old now it all left place more so =
    ap (λ m. joined m (labels form left place)) more ∙ joined_joined old (labels form (it ∷ []) place) (labels form left place)
    ∙ ap (joined old) (sym (labels_first form it left place)) ∙ so

pub more_gathered : (here now : PlaceMarks) (it : NewMark) (all rest left : List NewMark) (place : ℕ) → rest ≡ it ∷ left → it.objective.place ≤ place →
    TakesIn here now place it → Gathered here all rest place → Gathered now all left place
more_gathered here now it all rest left place is reached takes so =
    let g : Gathered here all (it ∷ left) place = subst (λ xs. Gathered here all xs place) is so in
    record {
      starts = more_labels at_start _ _ it all left place takes.starts g.starts;
      labels_in_front = more_labels in_front _ _ it all left place takes.labels_in_front g.labels_in_front;
      decisions = λ e. takes.decisions (decided left place e) ∙ g.decisions e;
      behind = g.behind ++ it ∷ [];
      parts = g.parts ∙ sym (append_assoc g.behind (it ∷ []) left);
      reached = all_joined (λ (it : NewMark). it.objective.place ≤ place) g.behind (it ∷ []) g.reached (reached, tt);
    }

labels_are : (form : Form) (walk : Walk) (made : c.Marks) (left new : List NewMark) (k : ℕ) → StandsAt walk new k → AscendFrom 0 left → is_reached walk.next left ≡ false →
    joined made (labels form left walk.next) ≡ labels form (new_marks walk.marks.items) walk.next → made ≡ labels form new k
labels_are form walk made left new k at ordered test so =
    sym (joined_none made) ∙ ap (joined made) (sym (labels_unreached form walk.next left test ordered)) ∙ so
    ∙ ap (labels form (new_marks walk.marks.items)) at.number ∙ sym (labels_counted form k (new_marks walk.marks.items) (small walk.marks.items))
    ∙ labels_same form k (new_marks walk.marks.items) new (at.left k (omega arith))

-- When no mark of the place is left, these are its marks, and the walk stands behind the node.
pub all_gathered : (before now : Walk) (here : PlaceMarks) → Gathered here (new_marks before.marks.items) (new_marks now.marks.items) before.next →
    is_reached before.next (new_marks now.marks.items) ≡ false → now.next ≡ min (before.next + 1) (2 ^ 128 - 1) →
    (new : List NewMark) (k : ℕ) → StandsAt before new k → AreOf here new k × StandsAt now new (k + 1)
all_gathered before now here g test next new k at =
    let left : List NewMark = new_marks now.marks.items in
    let ordered : AscendFrom 0 left = ascend_rest 0 g.behind left (subst (AscendFrom 0) g.parts at.ordered) in
    let number : before.next ≡ counted k = at.number in (
      record {
        starts = labels_are at_start before _ left new k at ordered test g.starts;
        labels_in_front = labels_are in_front before _ left new k at ordered test g.labels_in_front;
        decisions = λ e. ap (decided_by (new_marks here.decisions.items)) (sym (decided_unreached before.next left e test ordered)) ∙ g.decisions e
            ∙ ap (λ n. decided (new_marks before.marks.items) n e) at.number ∙ sym (decided_counted k (new_marks before.marks.items) e (small before.marks.items))
            ∙ decided_same k (new_marks before.marks.items) new e (at.left k (omega arith));
      },
      record {
        left = λ j far. sym (of_place_behind j g.behind left
            (all_weaker (λ (it : NewMark). it.objective.place ≤ before.next) (λ (it : NewMark). it.objective.place < j) (λ it less. omega arith) g.behind g.reached))
            ∙ ap (of_place j) (sym g.parts) ∙ at.left j (omega arith);
        ordered = ordered;
        number = omega arith;
      },
    )

-- ---- what is made of the marks of a place

pub marks_joined : (xs ys : List Mark) → marks_in (xs ++ ys) ≡ joined (marks_in xs) (marks_in ys)
marks_joined [] ys = refl
marks_joined (x ∷ xs) ys = ap (c.a_mark (mark_of x)) (marks_joined xs ys)

pub decided_last : (xs : List Held) (it : Held) (e : c.Expression) →
    decided_by (new_marks (xs ++ it ∷ [])) e ≡ decided_by (new_marks xs) (c.Decide e (decimal it.id) (decimal (suc it.id)) it.tag)
decided_last [] it e = refl
decided_last (x ∷ xs) it e = ap (λ d. c.Decide d (decimal x.id) (decimal (suc x.id)) x.tag) (decided_last xs it e)

-- the last one is around the expression
pub one_decided : (left rest : List Held) (it : Held) (e made whole : c.Expression) → left ≡ rest ++ it ∷ [] → made ≡ c.Decide e (decimal it.id) (decimal (suc it.id)) it.tag →
    decided_by (new_marks left) e ≡ whole → decided_by (new_marks rest) made ≡ whole
one_decided left rest it e made whole is made_is so =
    ap (decided_by (new_marks rest)) made_is ∙ sym (decided_last rest it e) ∙ sym (ap (λ xs. decided_by (new_marks xs) e) is) ∙ so

pub all_decided : (left : List Held) (e whole : c.Expression) → length left ≡ 0 → decided_by (new_marks left) e ≡ whole → e ≡ whole
all_decided [] e whole none so = so
all_decided (x ∷ xs) e whole none so = absurd (omega arith)
