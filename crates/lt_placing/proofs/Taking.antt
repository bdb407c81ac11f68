-- One mark more among those of a place, and what is made of an expression with them.
use Rattle.std.proofs.Common.{◌≡◌, refl, sym, ap, ap₂, ◌∙◌, ℕ, suc, ◌<◌, ◌==◌, ◌&&◌, Bool, true, false, List, [], ◌∷◌, ◌++◌, length, arith}
use Rattle.std.specs.Prelude.{if◌then◌else◌, Result, IfOk}
use Rattle.std.specs.Fmt.{decimal}
use Rattle.std.proofs.lemmas.Result.{IfOk-weaker}
use Rattle.lt_tree.specs.declared.expression.Expr.{Expr}
use Rattle.lt_tree.specs.declared.mark.Mark.{Mark}
use Rattle.lt_tree.specs.Tree as c
use Rattle.lt_tree.specs.View.{expression_of, mark_of}
use Rattle.lt_tree.specs.Records.{marks_in}
use Rattle.lt_objectives.specs.Objectives.{Form, at_start, in_front, around}
use Rattle.lt_objectives.specs.Marked.{NewMark, same_form, is_there, label, labels, decided, joined, preceded_by}
use Rattle.lt_placing.specs.declared.new_mark.Form.TheVariants.{AtStart, InFront, Around}
use Rattle.lt_placing.specs.declared.new_mark.NewMark.{NewMark as Held}
use Rattle.lt_placing.specs.declared.place.PlaceMarks.{PlaceMarks}
use Rattle.lt_placing.specs.NewMarks.{form_of, new_mark_of, new_marks}
use Rattle.lt_placing.specs.Walks.{decided_by, TakesIn}
use Rattle.lt_placing.proofs.PlaceLists.{joined_none, labels_past, decided_past}
use Rattle.lt_placing.proofs.Gathering.{marks_joined, decided_last}

pub takes_nothing : (here : PlaceMarks) (it : NewMark) (place : ℕ) → (it.objective.place == place) ≡ false → TakesIn here here place it
takes_nothing here it place other = record {
  starts = sym (joined_none (marks_in here.starts.items)) ∙ ap (joined (marks_in here.starts.items)) (sym (labels_past at_start it [] place other));
  labels_in_front = sym (joined_none (marks_in here.labels.items)) ∙ ap (joined (marks_in here.labels.items)) (sym (labels_past in_front it [] place other));
  decisions = λ e. ap (decided_by (new_marks here.decisions.items)) (sym (decided_past it [] place e other));
}

and_true : (b : Bool) → (b && true) ≡ b
and_true true = refl
and_true false = refl

there : (form : Form) (it : NewMark) (place : ℕ) (b : Bool) → same_form form it.objective.form ≡ b → (it.objective.place == place) ≡ true → is_there form place it ≡ b
there form it place b same here = ap₂ ◌&&◌ same here ∙ and_true b

labels_there : (form : Form) (it : NewMark) (place : ℕ) (b : Bool) → same_form form it.objective.form ≡ b → (it.objective.place == place) ≡ true →
    labels form (it ∷ []) place ≡ (if b then c.a_mark (label it) c.no_marks else c.no_marks)
labels_there form it place b same here = ap (λ x. if x then c.a_mark (label it) c.no_marks else c.no_marks) (there form it place b same here)

decided_there : (it : NewMark) (place : ℕ) (e : c.Expression) (b : Bool) → same_form around it.objective.form ≡ b → (it.objective.place == place) ≡ true →
    decided (it ∷ []) place e ≡ (if b then c.Decide e (decimal it.id) (decimal (suc it.id)) it.objective.tag else e)
decided_there it place e b same here = ap (λ x. if x then c.Decide e (decimal it.id) (decimal (suc it.id)) it.objective.tag else e) (there around it place b same here)

-- of one form and not of another
label_more : (form : Form) (it : NewMark) (place : ℕ) (old now : List Mark) (made : Mark) → same_form form it.objective.form ≡ true → (it.objective.place == place) ≡ true →
    mark_of made ≡ label it → now ≡ old ++ made ∷ [] → marks_in now ≡ joined (marks_in old) (labels form (it ∷ []) place)
label_more form it place old now made same here made_is pushed =
    ap marks_in pushed ∙ marks_joined old (made ∷ []) ∙ ap (λ m. joined (marks_in old) (c.a_mark m c.no_marks)) made_is
    ∙ ap (joined (marks_in old)) (sym (labels_there form it place true same here))

no_label_more : (form : Form) (it : NewMark) (place : ℕ) (old : List Mark) → same_form form it.objective.form ≡ false → (it.objective.place == place) ≡ true →
    marks_in old ≡ joined (marks_in old) (labels form (it ∷ []) place)
no_label_more form it place old other here =
    sym (joined_none (marks_in old)) ∙ ap (joined (marks_in old)) (sym (labels_there form it place false other here))

no_decision_more : (it : NewMark) (place : ℕ) (old : List Held) (e : c.Expression) → same_form around it.objective.form ≡ false → (it.objective.place == place) ≡ true →
    decided_by (new_marks old) e ≡ decided_by (new_marks old) (decided (it ∷ []) place e)
no_decision_more it place old e other here = ap (decided_by (new_marks old)) (sym (decided_there it place e false other here))

pub takes_start : (before now : PlaceMarks) (it : Held) (made : Mark) (place : ℕ) → it.form ≡ AtStart → (it.place == place) ≡ true → mark_of made ≡ label (new_mark_of it) →
    now.starts.items ≡ before.starts.items ++ made ∷ [] → now.labels ≡ before.labels → now.decisions ≡ before.decisions → TakesIn before now place (new_mark_of it)
takes_start before now it made place form here made_is pushed labels_same decisions_same = record {
  starts = label_more at_start (new_mark_of it) place before.starts.items now.starts.items made (ap (λ f. same_form at_start (form_of f)) form) here made_is pushed;
  labels_in_front = ap (λ v. marks_in v.items) labels_same
      ∙ no_label_more in_front (new_mark_of it) place before.labels.items (ap (λ f. same_form in_front (form_of f)) form) here;
  decisions = λ e. ap (λ v. decided_by (new_marks v.items) e) decisions_same
      ∙ no_decision_more (new_mark_of it) place before.decisions.items e (ap (λ f. same_form around (form_of f)) form) here;
}

pub takes_label : (before now : PlaceMarks) (it : Held) (made : Mark) (place : ℕ) → it.form ≡ InFront → (it.place == place) ≡ true → mark_of made ≡ label (new_mark_of it) →
    now.starts ≡ before.starts → now.labels.items ≡ before.labels.items ++ made ∷ [] → now.decisions ≡ before.decisions → TakesIn before now place (new_mark_of it)
takes_label before now it made place form here made_is starts_same pushed decisions_same = record {
  starts = ap (λ v. marks_in v.items) starts_same
      ∙ no_label_more at_start (new_mark_of it) place before.starts.items (ap (λ f. same_form at_start (form_of f)) form) here;
  labels_in_front = label_more in_front (new_mark_of it) place before.labels.items now.labels.items made (ap (λ f. same_form in_front (form_of f)) form) here made_is pushed;
  decisions = λ e. ap (λ v. decided_by (new_marks v.items) e) decisions_same
      ∙ no_decision_more (new_mark_of it) place before.decisions.items e (ap (λ f. same_form around (form_of f)) form) here;
}

pub takes_decision : (before now : PlaceMarks) (it : Held) (place : ℕ) → it.form ≡ Around → (it.place == place) ≡ true →
    now.starts ≡ before.starts → now.labels ≡ before.labels → now.decisions.items ≡ before.decisions.items ++ it ∷ [] → TakesIn before now place (new_mark_of it)
takes_decision before now it place form here starts_same labels_same pushed = record {
  starts = ap (λ v. marks_in v.items) starts_same
      ∙ no_label_more at_start (new_mark_of it) place before.starts.items (ap (λ f. same_form at_start (form_of f)) form) here;
  labels_in_front = ap (λ v. marks_in v.items) labels_same
      ∙ no_label_more in_front (new_mark_of it) place before.labels.items (ap (λ f. same_form in_front (form_of f)) form) here;
  decisions = λ e. ap (λ xs. decided_by (new_marks xs) e) pushed ∙ decided_last before.decisions.items it e
      ∙ ap (decided_by (new_marks before.decisions.items)) (sym (decided_there (new_mark_of it) place e true (ap (λ f. same_form around (form_of f)) form) here));
}

-- ---- with an expression

preceded : (list : List Mark) (e : c.Expression) → 0 < length list → preceded_by (marks_in list) e ≡ c.Marked (marks_in list) e
preceded [] e some = absurd (omega arith)
preceded (m ∷ ms) e some = refl

pub with_labels : {E : Type 0} (r : Result Expr E) (list : List Mark) (e inner : c.Expression) → 0 < length list → e ≡ inner →
    IfOk r (λ all. expression_of all ≡ c.Marked (marks_in list) e) → IfOk r (λ all. expression_of all ≡ preceded_by (marks_in list) inner)
with_labels r list e inner some same h =
    IfOk-weaker r (λ all. expression_of all ≡ c.Marked (marks_in list) e) (λ all. expression_of all ≡ preceded_by (marks_in list) inner)
    (λ all is. is ∙ ap (c.Marked (marks_in list)) same ∙ sym (preceded list inner some)) h
