-- Labels and decisions of one place among lists of new marks.
use Rattle.std.proofs.Common.{◌≡◌, refl, sym, ap, ◌∙◌, ℕ, suc, ◌-◌, ◌^◌, ◌<◌, ◌≤◌, ◌==◌, ◌&&◌, ◌⊎◌, inl, inr, nat_le, cond, Bool, true, false, List, [], ◌∷◌, ◌++◌, arith}
use Rattle.std.specs.Prelude.{if◌then◌else◌}
use Rattle.std.specs.List.{AllByRecursion}
use Rattle.std.specs.Fmt.{decimal}
use Rattle.std.proofs.lemmas.Bool.{ne_eqb, cases_lt}
use Rattle.std.proofs.lemmas.Bool.Decides.{nat_tests}
use Rattle.lt_tree.specs.Tree as c
use Rattle.lt_objectives.specs.Objectives.{Form, around}
use Rattle.lt_objectives.specs.Marked.{NewMark, same_form, is_there, label, labels, decided, joined}
use Rattle.lt_placing.specs.declared.new_mark.NewMark.{NewMark as Held}
use Rattle.lt_placing.specs.NewMarks.{new_marks}
use Rattle.lt_placing.specs.Walks.{counted, of_place, AscendFrom, is_reached}

pub joined_none : (m : c.Marks) → joined m c.no_marks ≡ m
joined_none c.no_marks = refl
joined_none (c.a_mark first rest) = ap (c.a_mark first) (joined_none rest)

pub joined_joined : (a b d : c.Marks) → joined (joined a b) d ≡ joined a (joined b d)
joined_joined c.no_marks b d = refl
joined_joined (c.a_mark first rest) b d = ap (c.a_mark first) (joined_joined rest b d)

-- the labels of one mark, before those of the rest
pub labels_first : (form : Form) (it : NewMark) (rest : List NewMark) (k : ℕ) →
    labels form (it ∷ rest) k ≡ joined (labels form (it ∷ []) k) (labels form rest k)
labels_first form it rest k = by (is_there form k it)
  where
    by : (b : Bool) → (if b then c.a_mark (label it) (labels form rest k) else labels form rest k)
        ≡ joined (if b then c.a_mark (label it) c.no_marks else c.no_marks) (labels form rest k)
    by true = refl
    by false = refl

and_false : (b : Bool) → (b && false) ≡ false
and_false true = refl
and_false false = refl

not_there : (form : Form) (k : ℕ) (it : NewMark) → (it.objective.place == k) ≡ false → is_there form k it ≡ false
not_there form k it other = ap (λ b. same_form form it.objective.form && b) other ∙ and_false (same_form form it.objective.form)

-- a mark of another place
pub labels_past : (form : Form) (it : NewMark) (rest : List NewMark) (k : ℕ) → (it.objective.place == k) ≡ false → labels form (it ∷ rest) k ≡ labels form rest k
labels_past form it rest k other = ap (λ b. if b then c.a_mark (label it) (labels form rest k) else labels form rest k) (not_there form k it other)

pub decided_past : (it : NewMark) (rest : List NewMark) (k : ℕ) (e : c.Expression) → (it.objective.place == k) ≡ false → decided (it ∷ rest) k e ≡ decided rest k e
decided_past it rest k e other =
    ap (λ b. if b then c.Decide (decided rest k e) (decimal it.id) (decimal (suc it.id)) it.objective.tag else decided rest k e) (not_there around k it other)

-- only the marks of the place matter
labels_of_place : (form : Form) (k : ℕ) (new : List NewMark) → labels form new k ≡ labels form (of_place k new) k
labels_of_place form k [] = refl
labels_of_place form k (it ∷ rest) = by (labels_of_place form k rest) (it.objective.place == k) refl
  where
    by : labels form rest k ≡ labels form (of_place k rest) k → (b : Bool) → (it.objective.place == k) ≡ b →
        labels form (it ∷ rest) k ≡ labels form (cond b (it ∷ of_place k rest) (of_place k rest)) k
    by so true e = ap (λ ms. if is_there form k it then c.a_mark (label it) ms else ms) so
    by so false e = labels_past form it rest k e ∙ so

decided_of_place : (k : ℕ) (new : List NewMark) (e : c.Expression) → decided new k e ≡ decided (of_place k new) k e
decided_of_place k [] e = refl
decided_of_place k (it ∷ rest) e = by (decided_of_place k rest e) (it.objective.place == k) refl
  where
    by : decided rest k e ≡ decided (of_place k rest) k e → (b : Bool) → (it.objective.place == k) ≡ b →
        decided (it ∷ rest) k e ≡ decided (cond b (it ∷ of_place k rest) (of_place k rest)) k e
    by so true is = ap (λ x. if is_there around k it then c.Decide x (decimal it.id) (decimal (suc it.id)) it.objective.tag else x) so
    by so false is = decided_past it rest k e is ∙ so

pub labels_same : (form : Form) (k : ℕ) (xs ys : List NewMark) → of_place k xs ≡ of_place k ys → labels form xs k ≡ labels form ys k
labels_same form k xs ys same = labels_of_place form k xs ∙ ap (λ new. labels form new k) same ∙ sym (labels_of_place form k ys)

pub decided_same : (k : ℕ) (xs ys : List NewMark) (e : c.Expression) → of_place k xs ≡ of_place k ys → decided xs k e ≡ decided ys k e
decided_same k xs ys e same = decided_of_place k xs e ∙ ap (λ new. decided new k e) same ∙ sym (decided_of_place k ys e)

-- marks of places before this one
pub of_place_behind : (k : ℕ) (behind left : List NewMark) → AllByRecursion (λ (it : NewMark). it.objective.place < k) behind →
    of_place k (behind ++ left) ≡ of_place k left
of_place_behind k [] left passed = refl
of_place_behind k (it ∷ rest) left passed =
    let less : it.objective.place < k = passed.0 in
    ap (λ b. cond b (it ∷ of_place k (rest ++ left)) (of_place k (rest ++ left))) (ne_eqb it.objective.place k (λ same. omega arith)) ∙ of_place_behind k rest left passed.1

-- marks of later places
labels_beyond : (form : Form) (n k : ℕ) (left : List NewMark) → n < k → AscendFrom k left → labels form left n ≡ c.no_marks
labels_beyond form n k [] less ascend = refl
labels_beyond form n k (it ∷ rest) less ascend =
    let first : k ≤ it.objective.place = ascend.0 in
    labels_past form it rest n (ne_eqb it.objective.place n (λ same. omega arith)) ∙ labels_beyond form n it.objective.place rest (omega arith) ascend.1

decided_beyond : (n k : ℕ) (left : List NewMark) (e : c.Expression) → n < k → AscendFrom k left → decided left n e ≡ e
decided_beyond n k [] e less ascend = refl
decided_beyond n k (it ∷ rest) e less ascend =
    let first : k ≤ it.objective.place = ascend.0 in
    decided_past it rest n e (ne_eqb it.objective.place n (λ same. omega arith)) ∙ decided_beyond n it.objective.place rest e (omega arith) ascend.1

beyond : (p n : ℕ) → nat_le p n ≡ false → n < p
beyond p n test = grind (arith, nat_tests)

pub labels_unreached : (form : Form) (n : ℕ) (left : List NewMark) → is_reached n left ≡ false → AscendFrom 0 left → labels form left n ≡ c.no_marks
labels_unreached form n [] test ascend = refl
labels_unreached form n (it ∷ rest) test ascend = labels_beyond form n it.objective.place (it ∷ rest) (beyond it.objective.place n test) (omega arith, ascend.1)

pub decided_unreached : (n : ℕ) (left : List NewMark) (e : c.Expression) → is_reached n left ≡ false → AscendFrom 0 left → decided left n e ≡ e
decided_unreached n [] e test ascend = refl
decided_unreached n (it ∷ rest) e test ascend = decided_beyond n it.objective.place (it ∷ rest) e (beyond it.objective.place n test) (omega arith, ascend.1)

-- a place has 64 bits
pub small : (marks : List Held) → AllByRecursion (λ (it : NewMark). it.objective.place < 2 ^ 128 - 1) (new_marks marks)
small [] = tt
small (it ∷ rest) = let bound : it.place < 2 ^ 64 = it.in_range in (omega arith, small rest)

-- the number as it is counted is the same to a mark
same_place : (p k : ℕ) → p < 2 ^ 128 - 1 → (p == k) ≡ (p == counted k)
same_place p k small = by (cases_lt k (2 ^ 128 - 1))
  where
    by : (k < 2 ^ 128 - 1) ⊎ (2 ^ 128 - 1 ≤ k) → (p == k) ≡ (p == counted k)
    by (inl less) = let e : counted k ≡ k = omega arith in ap (λ n. p == n) (sym e)
    by (inr more) = ne_eqb p k (λ e. omega arith) ∙ sym (ne_eqb p (counted k) (λ e. omega arith))

pub labels_counted : (form : Form) (k : ℕ) (left : List NewMark) → AllByRecursion (λ (it : NewMark). it.objective.place < 2 ^ 128 - 1) left →
    labels form left k ≡ labels form left (counted k)
labels_counted form k [] small = refl
labels_counted form k (it ∷ rest) small =
    ap (λ b. if same_form form it.objective.form && b then c.a_mark (label it) (labels form rest k) else labels form rest k) (same_place it.objective.place k small.0)
    ∙ ap (λ ms. if is_there form (counted k) it then c.a_mark (label it) ms else ms) (labels_counted form k rest small.1)

pub decided_counted : (k : ℕ) (left : List NewMark) (e : c.Expression) → AllByRecursion (λ (it : NewMark). it.objective.place < 2 ^ 128 - 1) left →
    decided left k e ≡ decided left (counted k) e
decided_counted k [] e small = refl
decided_counted k (it ∷ rest) e small =
    ap (λ b. if same_form around it.objective.form && b then c.Decide (decided rest k e) (decimal it.id) (decimal (suc it.id)) it.objective.tag else decided rest k e)
    (same_place it.objective.place k small.0)
    ∙ ap (λ x. if is_there around (counted k) it then c.Decide x (decimal it.id) (decimal (suc it.id)) it.objective.tag else x) (decided_counted k rest e small.1)
