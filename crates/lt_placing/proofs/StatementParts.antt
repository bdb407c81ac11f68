-- What statements, items, cases and functions become, from what their parts become.
use Rattle.std.proofs.Common.{◌≡◌, sym, ap, ap₂, ◌∙◌, subst, ℕ, suc, ◌+◌, List, ◌∷◌, ◌++◌, length, length-append, Option, arith}
use Rattle.std.specs.Global.{Box}
use Rattle.std.specs.Prelude.{Result, IfOk}
use Rattle.std.specs.List.{flat_map}
use Rattle.std.proofs.lemmas.Result.{IfOk-weaker}
use Rattle.lt_tree.specs.declared.declaration.Declaration.{Declaration}
use Rattle.lt_tree.specs.declared.mark.Mark.{Mark}
use Rattle.lt_tree.specs.declared.statement.Item.{Item}
use Rattle.lt_tree.specs.declared.statement.Item.TheBlock as block
use Rattle.lt_tree.specs.declared.statement.Item.TheVariants as item
use Rattle.lt_tree.specs.declared.statement.Stmt.{Stmt}
use Rattle.lt_tree.specs.Tree as c
use Rattle.lt_tree.specs.View.{mark_of}
use Rattle.lt_tree.specs.Records.{marks_in}
use Rattle.lt_tree.specs.UnitView.{declaration_of, statement_of, item_before, items_in}
use Rattle.lt_tree.specs.Nodes.{Node, in_specifiers, in_declarator, in_declaration, in_mark, in_label, in_optional, in_start, in_statement, in_items, in_external}
use Rattle.lt_objectives.specs.Marked.{NewMark, declaration_with_marks, for_start_with_marks, optional_with_marks, statement_with_marks, items_with_marks, cases_with_marks, after_leading, external_with_marks}
use Rattle.lt_placing.specs.declared.place.PlaceMarks.{PlaceMarks}
use Rattle.lt_placing.specs.declared.walk.Walk.{Walk}
use Rattle.lt_placing.specs.Walks.{StandsAt, GoesOn, Passes, Gives, AreOf}
use Rattle.lt_placing.specs.Parts.{for_with_marks, GivesFor, in_item}
use Rattle.lt_placing.proofs.Standing.{stands}
use Rattle.lt_placing.proofs.Sequences.{becomes, then_passed}

pub three_sized : (xs ys zs : List Node) → suc (length ((xs ++ ys) ++ zs)) ≡ suc (length xs + (length ys + length zs))
three_sized xs ys zs =
    let inner : length (xs ++ ys) ≡ length xs + length ys = length-append xs ys in
    let outer : length ((xs ++ ys) ++ zs) ≡ length (xs ++ ys) + length zs = length-append (xs ++ ys) zs in
    omega arith

-- in a box
pub boxed_statement : {E : Type 0} (r : Result (Box Stmt) E) (before now : Walk) (made : Stmt) (x : c.Statement) →
    Passes before now (λ new k. statement_of made ≡ statement_with_marks new k x) (in_statement x) → IfOk r (λ all. all.value ≡ made) →
    IfOk r (λ all. Passes before now (λ new k. statement_of all.value ≡ statement_with_marks new k x) (in_statement x))
boxed_statement r before now made x p h =
    IfOk-weaker r (λ all. all.value ≡ made) (λ all. Passes before now (λ new k. statement_of all.value ≡ statement_with_marks new k x) (in_statement x))
    (λ all is new k at. let so = p new k at in (ap statement_of is ∙ so.0, so.1)) h

-- ---- items

pub items_sized : (x : Item) (rest : List Item) → length (in_items (items_in (x ∷ rest))) ≡ length (in_item x) + length (in_items (items_in rest))
items_sized (block.Declaration d) rest = length-append (in_item (block.Declaration d)) (in_items (items_in rest))
items_sized (block.Statement s) rest = length-append (in_item (block.Statement s)) (in_items (items_in rest))
items_sized (block.Mark m) rest = length-append (in_item (block.Mark m)) (in_items (items_in rest))

-- that an item becomes another, whatever items follow
abbrev pub ItemBecomes : Walk → Walk → Item → Item → Type 0
ItemBecomes before now x made =
    Passes before now (λ new k. (rest : c.Items) → items_with_marks new k (item_before x rest) ≡ item_before made (items_with_marks new (k + length (in_item x)) rest)) (in_item x)

pub declared_item : (before mid now : Walk) (x made : Item) (d made_d : Declaration) → x ≡ item.Declaration d →
    ((rest : c.Items) → item_before made rest ≡ c.a_declaration (declaration_of made_d) rest) → GoesOn before mid 1 →
    Passes mid now (λ new k. declaration_of made_d ≡ declaration_with_marks new k (declaration_of d)) (in_declaration (declaration_of d)) → ItemBecomes before now x made
declared_item before mid now x made d made_d is made_is s p =
    subst (λ y. ItemBecomes before now y made) (sym is) (λ new k at.
    let n : ℕ = length (in_declaration (declaration_of d)) in
    let e : k + 1 + n ≡ k + suc n = omega arith in
    let so = p new (k + 1) (s new k at) in
    ((λ rest. ap₂ (λ y j. c.a_declaration y (items_with_marks new j rest)) (sym so.0) e ∙ sym (made_is (items_with_marks new (k + suc n) rest))), stands (k + suc n) so.1 e))

pub stated_item : (before mid now : Walk) (x made : Item) (d made_d : Stmt) → x ≡ item.Statement d →
    ((rest : c.Items) → item_before made rest ≡ c.a_statement (statement_of made_d) rest) → GoesOn before mid 1 →
    Passes mid now (λ new k. statement_of made_d ≡ statement_with_marks new k (statement_of d)) (in_statement (statement_of d)) → ItemBecomes before now x made
stated_item before mid now x made d made_d is made_is s p =
    subst (λ y. ItemBecomes before now y made) (sym is) (λ new k at.
    let n : ℕ = length (in_statement (statement_of d)) in
    let e : k + 1 + n ≡ k + suc n = omega arith in
    let so = p new (k + 1) (s new k at) in
    ((λ rest. ap₂ (λ y j. c.a_statement y (items_with_marks new j rest)) (sym so.0) e ∙ sym (made_is (items_with_marks new (k + suc n) rest))), stands (k + suc n) so.1 e))

pub marked_item : (before mid now : Walk) (x made : Item) (d made_d : Mark) → x ≡ item.Mark d →
    ((rest : c.Items) → item_before made rest ≡ c.a_label (mark_of made_d) rest) → GoesOn before mid 1 →
    Passes mid now (λ new k. mark_of made_d ≡ mark_of d) (in_mark (mark_of d)) → ItemBecomes before now x made
marked_item before mid now x made d made_d is made_is s p =
    subst (λ y. ItemBecomes before now y made) (sym is) (λ new k at.
    let n : ℕ = length (in_mark (mark_of d)) in
    let e : k + 1 + n ≡ k + suc n = omega arith in
    let so = p new (k + 1) (s new k at) in
    ((λ rest. ap₂ (λ y j. c.a_label y (items_with_marks new j rest)) (sym so.0) e ∙ sym (made_is (items_with_marks new (k + suc n) rest))), stands (k + suc n) so.1 e))

-- ---- a case of a `switch`

pub case_turn : (new : List NewMark) (k : ℕ) (made_labels case_labels : List c.Label) (made x : c.Statement) (cases : c.Cases) → made_labels ≡ case_labels →
    made ≡ statement_with_marks new (k + length (flat_map in_label case_labels)) x →
    cases_with_marks new k (c.a_case case_labels x cases) ≡ c.a_case made_labels made (cases_with_marks new (k + length (flat_map in_label case_labels ++ in_statement x)) cases)
case_turn new k made_labels case_labels made x cases p q =
    let sum : length (flat_map in_label case_labels ++ in_statement x) ≡ length (flat_map in_label case_labels) + length (in_statement x) =
    length-append (flat_map in_label case_labels) (in_statement x) in
    let e : k + length (flat_map in_label case_labels) + length (in_statement x) ≡ k + length (flat_map in_label case_labels ++ in_statement x) = omega arith in
    ap₂ (λ ls j. c.a_case ls (statement_with_marks new (k + length (flat_map in_label case_labels)) x) (cases_with_marks new j cases)) (sym p) e
    ∙ ap (λ y. c.a_case made_labels y (cases_with_marks new (k + length (flat_map in_label case_labels ++ in_statement x)) cases)) (sym q)

-- labels as they are, and a statement
pub case_is : {before mid now : Walk} (made_labels case_labels : List c.Label) (made x : c.Statement) →
    Passes before mid (λ new k. made_labels ≡ case_labels) (flat_map in_label case_labels) → Passes mid now (λ new k. made ≡ statement_with_marks new k x) (in_statement x) →
    Passes before now (λ new k. (made_labels ≡ case_labels) × (made ≡ statement_with_marks new (k + length (flat_map in_label case_labels)) x))
    (flat_map in_label case_labels ++ in_statement x)
case_is made_labels case_labels made x p q =
    becomes (λ new k. (made_labels ≡ case_labels) × (made ≡ statement_with_marks new (k + length (flat_map in_label case_labels)) x))
    (λ new k. (made_labels ≡ case_labels) × (made ≡ statement_with_marks new (k + length (flat_map in_label case_labels)) x)) _ _
    (sym (length-append (flat_map in_label case_labels) (in_statement x))) (λ new k so. so)
    (then_passed (λ new k. made_labels ≡ case_labels) (λ new k. made ≡ statement_with_marks new k x) (length (flat_map in_label case_labels)) (length (in_statement x)) p q)

-- ---- `for`

for_sized : (xs ys zs ws : List Node) → length (xs ++ ys ++ zs ++ ws) ≡ length xs + (length ys + (length zs + length ws))
for_sized xs ys zs ws =
    let a : length (xs ++ ys) ≡ length xs + length ys = length-append xs ys in
    let b : length (xs ++ ys ++ zs) ≡ length (xs ++ ys) + length zs = length-append (xs ++ ys) zs in
    let d : length (xs ++ ys ++ zs ++ ws) ≡ length (xs ++ ys ++ zs) + length ws = length-append (xs ++ ys ++ zs) ws in
    omega arith

pub for_parts : (before first second third now : Walk) (made : c.Statement) (start made_start : c.ForStart) (test made_test step made_step : Option c.Expression) (x made_x : c.Statement) →
    made ≡ c.For made_start made_test made_step made_x →
    Passes before first (λ new k. made_start ≡ for_start_with_marks new k start) (in_start start) → Passes first second (λ new k. made_test ≡ optional_with_marks new k test) (in_optional test) →
    Passes second third (λ new k. made_step ≡ optional_with_marks new k step) (in_optional step) → Passes third now (λ new k. made_x ≡ statement_with_marks new k x) (in_statement x) →
    Passes before now (λ new k. made ≡ for_with_marks new k start test step x) (in_start start ++ in_optional test ++ in_optional step ++ in_statement x)
for_parts before first second third now made start made_start test made_test step made_step x made_x made_is p q r s =
    let m : ℕ = length (in_start start) in
    let n : ℕ = length (in_optional test) in
    let o : ℕ = length (in_optional step) in
    becomes
    (λ new k. (made_start ≡ for_start_with_marks new k start) × ((made_test ≡ optional_with_marks new (k + m) test)
    × ((made_step ≡ optional_with_marks new (k + m + n) step) × (made_x ≡ statement_with_marks new (k + m + n + o) x))))
    (λ new k. made ≡ for_with_marks new k start test step x) _ _ (sym (for_sized (in_start start) (in_optional test) (in_optional step) (in_statement x)))
    (λ new k so. made_is ∙ ap₂ (λ a b. c.For a b made_step made_x) so.0 so.1.0 ∙ ap₂ (c.For (for_start_with_marks new k start) (optional_with_marks new (k + m) test)) so.1.1.0 so.1.1.1)
    (then_passed (λ new k. made_start ≡ for_start_with_marks new k start)
    (λ new k. (made_test ≡ optional_with_marks new k test) × ((made_step ≡ optional_with_marks new (k + n) step) × (made_x ≡ statement_with_marks new (k + n + o) x))) m (n + (o + length (in_statement x))) p
    (then_passed (λ new k. made_test ≡ optional_with_marks new k test) (λ new k. (made_step ≡ optional_with_marks new k step) × (made_x ≡ statement_with_marks new (k + o) x)) n (o + length (in_statement x)) q
    (then_passed (λ new k. made_step ≡ optional_with_marks new k step) (λ new k. made_x ≡ statement_with_marks new k x) o (length (in_statement x)) r s)))

pub for_statement : {E : Type 0} (r : Result Stmt E) (before mid now : Walk) (e : c.Statement) (start : c.ForStart) (test step : Option c.Expression) (x : c.Statement) →
    e ≡ c.For start test step x → GoesOn before mid 1 → GivesFor mid now r start test step x → Gives before now r statement_of (λ new k. statement_with_marks new k e) (in_statement e)
for_statement r before mid now e start test step x is s h =
    IfOk-weaker r (λ made. Passes mid now (λ new k. statement_of made ≡ for_with_marks new k start test step x) (in_start start ++ in_optional test ++ in_optional step ++ in_statement x))
    (λ made. Passes before now (λ new k. statement_of made ≡ statement_with_marks new k e) (in_statement e))
    (λ made p. subst (λ y. Passes before now (λ new k. statement_of made ≡ statement_with_marks new k y) (in_statement y)) (sym is) (λ new k at.
    let so = p new (k + 1) (s new k at) in
    (so.0, stands (k + length (in_statement (c.For start test step x))) so.1 (omega arith)))) h

-- ---- functions

pub function_is : (before first second third now : Walk) (here : PlaceMarks) (s x : c.Specifiers) (d y : c.Declarator) (list full : List Item) (inner made : c.Items) →
    ((new : List NewMark) (k : ℕ) → StandsAt before new k → AreOf here new k × StandsAt first new (k + 1)) →
    Passes first second (λ new k. x ≡ s) (in_specifiers s) → Passes second third (λ new k. y ≡ d) (in_declarator d) →
    Passes third now (λ new k. inner ≡ items_with_marks new k (items_in list)) (in_items (items_in list)) → list ≡ full → made ≡ after_leading (marks_in here.starts.items) inner →
    Passes before now (λ new k. c.Defines x y made ≡ external_with_marks new k (c.Defines s d (items_in full))) (in_external (c.Defines s d (items_in full)))
function_is before first second third now here s x d y list full inner made own p q r same made_is =
    let a : length (in_specifiers s ++ in_declarator d) ≡ length (in_specifiers s) + length (in_declarator d) = length-append (in_specifiers s) (in_declarator d) in
    let b : length (in_specifiers s ++ in_declarator d ++ in_items (items_in list)) ≡ length (in_specifiers s ++ in_declarator d) + length (in_items (items_in list)) =
    length-append (in_specifiers s ++ in_declarator d) (in_items (items_in list)) in
    subst (λ xs. Passes before now (λ new k. c.Defines x y made ≡ external_with_marks new k (c.Defines s d (items_in xs))) (in_external (c.Defines s d (items_in xs)))) same (λ new k at.
    let marks = own new k at in
    let one = p new (k + 1) marks.1 in
    let two = q new (k + 1 + length (in_specifiers s)) one.1 in
    let three = r new (k + 1 + length (in_specifiers s) + length (in_declarator d)) two.1 in (
      ap₂ (λ m n. c.Defines m n made) one.0 two.0 ∙ ap (c.Defines s d) (made_is ∙ ap₂ after_leading marks.0.starts three.0),
      stands (k + length (in_external (c.Defines s d (items_in list)))) three.1 (omega (arith, a, b)),
    ))
