-- Labels behind the marks with which a body begins.
use Rattle.std.proofs.Common.{◌≡◌, refl, sym, ap, ◌∙◌, subst, ℕ, zero, suc, ◌+◌, ◌<◌, ◌≤◌, List, [], ◌∷◌, ◌++◌, length, take, drop, get_or, drop-cons, arith}
use Rattle.std.proofs.lemmas.List.{drop_all}
use Rattle.lt_tree.specs.declared.mark.Mark.{Mark}
use Rattle.lt_tree.specs.declared.declaration.Declaration.{Declaration}
use Rattle.lt_tree.specs.declared.statement.Item.{Item}
use Rattle.lt_tree.specs.declared.statement.Item.TheVariants as variant
use Rattle.lt_tree.specs.declared.statement.Stmt.{Stmt}
use Rattle.lt_tree.specs.Tree as c
use Rattle.lt_tree.specs.Records.{marks_in}
use Rattle.lt_tree.specs.View.{mark_of}
use Rattle.lt_tree.specs.UnitView.{item_before, items_in}
use Rattle.lt_objectives.specs.Marked.{labels_before, after_leading}
use Rattle.lt_placing.specs.Parts.{items_before, BeginsWithMarks}

pub items_joined : (xs ys : List Item) → items_in (xs ++ ys) ≡ items_before xs (items_in ys)
items_joined [] ys = refl
items_joined (x ∷ xs) ys = ap (item_before x) (items_joined xs ys)

before_joined : (xs ys : List Item) (rest : c.Items) → items_before (xs ++ ys) rest ≡ items_before xs (items_before ys rest)
before_joined [] ys rest = refl
before_joined (x ∷ xs) ys rest = ap (item_before x) (before_joined xs ys rest)

-- no labels
pub none_behind : (items : c.Items) → after_leading c.no_marks items ≡ items
none_behind c.no_items = refl
none_behind (c.a_declaration d items) = refl
none_behind (c.a_statement x items) = refl
none_behind (c.a_label m items) = ap (c.a_label m) (none_behind items)

pub empty_marks : (labels : List Mark) → length labels ≡ 0 → marks_in labels ≡ c.no_marks
empty_marks [] none = refl
empty_marks (m ∷ ms) none = absurd (omega arith)

-- the marks so far, and what is behind them
abbrev pub LeadingSoFar : List Item → ℕ → Type 0
LeadingSoFar items i = (marks : c.Marks) → after_leading marks (items_in items) ≡ items_before (take i items) (after_leading marks (items_in (drop i items)))

split : (items : List Item) (i : ℕ) (x : Item) → i < length items → x ≡ get_or items i x → drop i items ≡ x ∷ drop (i + 1) items
split items i x within is = let next : suc i ≡ i + 1 = omega arith in drop-cons items i x within ∙ ap (λ z. z ∷ drop (suc i) items) (sym is) ∙ ap (λ n. x ∷ drop n items) next

more_taken : (items : List Item) (i : ℕ) (x : Item) (rest : c.Items) → i < length items → x ≡ get_or items i x → items_before (take i items) (item_before x rest) ≡ items_before (take (i + 1) items) rest
more_taken [] i x rest within is = absurd (omega arith)
more_taken (y ∷ ys) zero x rest within is = ap (λ z. item_before z rest) is
more_taken (y ∷ ys) (suc i) x rest within is =
    let next : suc (i + 1) ≡ suc i + 1 = omega arith in
    ap (item_before y) (more_taken ys i x rest (omega arith) is) ∙ ap (λ n. items_before (take n (y ∷ ys)) rest) next

pub one_leading : (items : List Item) (i : ℕ) (x : Item) (m : Mark) → i < length items → x ≡ get_or items i x → x ≡ variant.Mark m → LeadingSoFar items i → LeadingSoFar items (i + 1)
one_leading items i x m within is mark so marks =
    so marks ∙ ap (λ xs. items_before (take i items) (after_leading marks (items_in xs))) (split items i x within is)
    ∙ ap (items_before (take i items)) (ap (λ y. after_leading marks (item_before y (items_in (drop (i + 1) items)))) mark ∙ ap (λ y. item_before y (after_leading marks (items_in (drop (i + 1) items)))) (sym mark))
    ∙ more_taken items i x (after_leading marks (items_in (drop (i + 1) items))) within is

ended : (items : List Item) (i : ℕ) → ((marks : c.Marks) → after_leading marks (items_in (drop i items)) ≡ labels_before marks (items_in (drop i items))) → LeadingSoFar items i → BeginsWithMarks items i
ended items i stop so marks = so marks ∙ ap (items_before (take i items)) (stop marks)

pub declaration_ends : (items : List Item) (i : ℕ) (x : Item) (d : Declaration) → i < length items → x ≡ get_or items i x → x ≡ variant.Declaration d → LeadingSoFar items i → BeginsWithMarks items i
declaration_ends items i x d within is kind so =
    ended items i (λ marks. subst (λ xs. after_leading marks (items_in xs) ≡ labels_before marks (items_in xs)) (sym (split items i x within is))
    (subst (λ y. after_leading marks (item_before y (items_in (drop (i + 1) items))) ≡ labels_before marks (item_before y (items_in (drop (i + 1) items)))) (sym kind) refl)) so

pub statement_ends : (items : List Item) (i : ℕ) (x : Item) (s : Stmt) → i < length items → x ≡ get_or items i x → x ≡ variant.Statement s → LeadingSoFar items i → BeginsWithMarks items i
statement_ends items i x s within is kind so =
    ended items i (λ marks. subst (λ xs. after_leading marks (items_in xs) ≡ labels_before marks (items_in xs)) (sym (split items i x within is))
    (subst (λ y. after_leading marks (item_before y (items_in (drop (i + 1) items))) ≡ labels_before marks (item_before y (items_in (drop (i + 1) items)))) (sym kind) refl)) so

pub all_lead : (items : List Item) (i : ℕ) → length items ≤ i → LeadingSoFar items i → BeginsWithMarks items i
all_lead items i beyond so =
    ended items i (λ marks. subst (λ xs. after_leading marks (items_in xs) ≡ labels_before marks (items_in xs)) (sym (drop_all i items beyond)) refl) so

-- one label more is an item
pub one_item : (start left rest_left : List Mark) (all more : List Item) (label : Mark) (item : Item) → left ≡ label ∷ rest_left → more ≡ all ++ item ∷ [] →
    ((rest : c.Items) → item_before item rest ≡ c.a_label (mark_of label) rest) →
    ((rest : c.Items) → items_before all (labels_before (marks_in left) rest) ≡ labels_before (marks_in start) rest) →
    (rest : c.Items) → items_before more (labels_before (marks_in rest_left) rest) ≡ labels_before (marks_in start) rest
one_item start left rest_left all more label item is pushed made so rest =
    ap (λ xs. items_before xs (labels_before (marks_in rest_left) rest)) pushed ∙ before_joined all (item ∷ []) (labels_before (marks_in rest_left) rest)
    ∙ ap (items_before all) (made (labels_before (marks_in rest_left) rest)) ∙ ap (λ ms. items_before all (labels_before (marks_in ms) rest)) (sym is) ∙ so rest

-- the front of a body, labels, and the rest
pub body_is : (labels : List Mark) (body front items rest whole : List Item) (len : ℕ) → BeginsWithMarks body len → front ≡ take len body → rest ≡ drop len body →
    ((behind : c.Items) → items_before items behind ≡ labels_before (marks_in labels) behind) → whole ≡ (front ++ items) ++ rest →
    items_in whole ≡ after_leading (marks_in labels) (items_in body)
body_is labels body front items rest whole len leading front_is rest_is made whole_is =
    ap items_in whole_is ∙ items_joined (front ++ items) rest ∙ before_joined front items (items_in rest) ∙ ap (items_before front) (made (items_in rest))
    ∙ ap (λ xs. items_before front (labels_before (marks_in labels) (items_in xs))) rest_is
    ∙ ap (λ xs. items_before xs (labels_before (marks_in labels) (items_in (drop len body)))) front_is ∙ sym (leading (marks_in labels))
