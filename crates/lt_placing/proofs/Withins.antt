-- What an expression becomes, from what its parts become.
use Rattle.std.proofs.Common.{◌≡◌, refl, sym, ap, ap₂, ◌∙◌, subst, ℕ, suc, ◌+◌, List, [], ◌++◌, length, length-append, arith}
use Rattle.std.specs.Prelude.{Result, IfOk}
use Rattle.std.proofs.lemmas.Result.{IfOk-weaker}
use Rattle.lt_tree.specs.declared.expression.Expr.{Expr}
use Rattle.lt_tree.specs.Tree as t
use Rattle.lt_tree.specs.View.{expression_of}
use Rattle.lt_tree.specs.Records.{marks_in}
use Rattle.lt_tree.specs.Nodes.{Node, in_expression, in_marks, in_specifiers, in_declarator}
use Rattle.lt_objectives.specs.Objectives.{in_front}
use Rattle.lt_objectives.specs.Marked.{NewMark, labels, decided, joined, preceded_by, within, with_marks}
use Rattle.lt_placing.specs.declared.place.PlaceMarks.{PlaceMarks}
use Rattle.lt_placing.specs.declared.walk.Walk.{Walk}
use Rattle.lt_placing.specs.NewMarks.{new_marks}
use Rattle.lt_placing.specs.Walks.{StandsAt, Passes, IsWithin, decided_by, AreOf}
use Rattle.lt_placing.proofs.Nothing.{nothing_within}
use Rattle.lt_placing.proofs.Standing.{stands, on}

-- an expression without parts
pub leaf : (walk : Walk) (made : Expr) (e same : t.Expression) → e ≡ same → expression_of made ≡ same → ((new : List NewMark) (k : ℕ) → within new k same ≡ same) →
    length (in_expression same) ≡ 1 → IsWithin walk walk made e
leaf walk made e same is made_is meant size =
    subst (λ x. IsWithin walk walk made x) (sym is) (λ new k at. (made_is ∙ sym (meant new k), stands (k + length (in_expression same)) at (ap (λ n. k + n) (sym size))))

-- with one part
pub one : {A : Type 0} (f : A → t.Expression) (before now : Walk) (made : Expr) (e : t.Expression) (part x : A) (want : List NewMark → ℕ → A) (nodes : List Node) →
    e ≡ f part → expression_of made ≡ f x → ((new : List NewMark) (k : ℕ) → within new k (f part) ≡ f (want new (k + 1))) →
    length (in_expression (f part)) ≡ suc (length nodes) → Passes before now (λ new k. x ≡ want new k) nodes → IsWithin before now made e
one f before now made e part x want nodes is made_is meant size p =
    subst (λ y. IsWithin before now made y) (sym is) (λ new k at.
    let so = p new (k + 1) at in
    (made_is ∙ ap f so.0 ∙ sym (meant new k), stands (k + length (in_expression (f part))) so.1 (omega (arith, size))))

-- with two parts
pub two : {A B : Type 0} (f : A → B → t.Expression) (before mid now : Walk) (made : Expr) (e : t.Expression) (a x : A) (b y : B)
    (want : List NewMark → ℕ → A) (second : List NewMark → ℕ → B) (xs ys : List Node) →
    e ≡ f a b → expression_of made ≡ f x y → ((new : List NewMark) (k : ℕ) → within new k (f a b) ≡ f (want new (k + 1)) (second new (k + 1 + length xs))) →
    length (in_expression (f a b)) ≡ suc (length (xs ++ ys)) → Passes before mid (λ new k. x ≡ want new k) xs → Passes mid now (λ new k. y ≡ second new k) ys → IsWithin before now made e
two f before mid now made e a x b y want second xs ys is made_is meant size p q =
    let sum : length (xs ++ ys) ≡ length xs + length ys = length-append xs ys in
    subst (λ z. IsWithin before now made z) (sym is) (λ new k at.
    let so = p new (k + 1) at in
    let then_so = q new (k + 1 + length xs) so.1 in
    (made_is ∙ ap₂ f so.0 then_so.0 ∙ sym (meant new k), stands (k + length (in_expression (f a b))) then_so.1 (omega (arith, size, sum))))

-- with three parts, as `?:` has
pub conditional : (before first second now : Walk) (made : Expr) (e p x d y z o : t.Expression) →
    e ≡ t.Conditional p d o → expression_of made ≡ t.Conditional x y z →
    Passes before first (λ new k. x ≡ with_marks new k p) (in_expression p) → Passes first second (λ new k. y ≡ with_marks new k d) (in_expression d) →
    Passes second now (λ new k. z ≡ with_marks new k o) (in_expression o) → IsWithin before now made e
conditional before first second now made e p x d y z o is made_is test left right =
    let inner : length (in_expression p ++ in_expression d) ≡ length (in_expression p) + length (in_expression d) = length-append (in_expression p) (in_expression d) in
    let outer : length (in_expression (t.Conditional p d o)) ≡ suc (length (in_expression p ++ in_expression d) + length (in_expression o)) =
    ap suc (length-append (in_expression p ++ in_expression d) (in_expression o)) in
    subst (λ w. IsWithin before now made w) (sym is) (λ new k at.
    let a = test new (k + 1) at in
    let b = left new (k + 1 + length (in_expression p)) a.1 in
    let c = right new (k + 1 + length (in_expression p) + length (in_expression d)) b.1 in (
      made_is ∙ ap₂ (λ m n. t.Conditional m n z) a.0 b.0 ∙ ap (t.Conditional (with_marks new (k + 1) p) (with_marks new (k + 1 + length (in_expression p)) d)) c.0,
      stands (k + length (in_expression (t.Conditional p d o))) c.1 (omega (arith, inner, outer)),
    ))

-- a cast: the name of the type is copied
pub cast : (before mid now : Walk) (made : Expr) (e : t.Expression) (s x : t.Specifiers) (d y : t.Declarator) (operand z : t.Expression) →
    e ≡ t.Cast s d operand → expression_of made ≡ t.Cast x y z →
    Passes before mid (λ new k. (x ≡ s) × (y ≡ d)) (in_specifiers s ++ in_declarator d) →
    Passes mid now (λ new k. z ≡ with_marks new k operand) (in_expression operand) → IsWithin before now made e
cast before mid now made e s x d y operand z is made_is name inner =
    let sum : length (in_specifiers s ++ in_declarator d) ≡ length (in_specifiers s) + length (in_declarator d) = length-append (in_specifiers s) (in_declarator d) in
    let outer : length (in_expression (t.Cast s d operand)) ≡ suc (length (in_specifiers s ++ in_declarator d) + length (in_expression operand)) =
    ap suc (length-append (in_specifiers s ++ in_declarator d) (in_expression operand)) in
    subst (λ w. IsWithin before now made w) (sym is) (λ new k at.
    let a = name new (k + 1) at in
    let j : ℕ = k + 1 + length (in_specifiers s) + length (in_declarator d) in
    let b = inner new j (stands j a.1 (omega (arith, sum))) in (
      made_is ∙ ap₂ (λ m n. t.Cast m n z) a.0.0 a.0.1 ∙ ap (t.Cast s d) b.0,
      stands (k + length (in_expression (t.Cast s d operand))) b.1 (omega (arith, sum, outer)),
    ))

-- the size of a type
pub sizeof : (before now : Walk) (made : Expr) (e : t.Expression) (s x : t.Specifiers) (d y : t.Declarator) → e ≡ t.SizeofType s d → expression_of made ≡ t.SizeofType x y →
    Passes before now (λ new k. (x ≡ s) × (y ≡ d)) (in_specifiers s ++ in_declarator d) → IsWithin before now made e
sizeof before now made e s x d y is made_is name =
    one (λ w. w) before now made e (t.SizeofType s d) (t.SizeofType x y) (λ new k. t.SizeofType s d) (in_specifiers s ++ in_declarator d) is made_is (λ new k. refl) refl
    (λ new k at. let a = name new k at in (ap₂ t.SizeofType a.0.0 a.0.1, a.1))

-- with one part, where another call makes the expression of it
pub one_given : {E : Type 0} (r : Result Expr E) (f : t.Expression → t.Expression) (before now : Walk) (e part x : t.Expression) → e ≡ f part →
    ((new : List NewMark) (k : ℕ) → within new k (f part) ≡ f (with_marks new (k + 1) part)) → length (in_expression (f part)) ≡ suc (length (in_expression part)) →
    Passes before now (λ new k. x ≡ with_marks new k part) (in_expression part) → IfOk r (λ made. expression_of made ≡ f x) → IfOk r (λ made. IsWithin before now made e)
one_given r f before now e part x is meant size p h =
    IfOk-weaker r (λ made. expression_of made ≡ f x) (λ made. IsWithin before now made e)
    (λ made made_is. one f before now made e part x (λ new k. with_marks new k part) (in_expression part) is made_is meant size p) h

-- marks and an expression behind them, where new labels stand behind the marks
abbrev pub IsMarked : Walk → Walk → Expr → t.Marks → t.Expression → Type 0
IsMarked before now made marks value = Passes before now
    (λ new k. expression_of made ≡ (let j = k + length (in_marks marks) in t.Marked (joined marks (labels in_front new j)) (decided new j (within new j value))))
    (in_marks marks ++ in_expression value)

-- marks and the expression behind them
pub behind_marks : {E : Type 0} (r : Result Expr E) (before now : Walk) (e : t.Expression) (marks : t.Marks) (value : t.Expression) → e ≡ t.Marked marks value →
    IfOk r (λ made. IsMarked before now made marks value) → IfOk r (λ made. IsWithin before now made e)
behind_marks r before now e marks value is h =
    IfOk-weaker r (λ made. IsMarked before now made marks value) (λ made. IsWithin before now made e) (λ made p. subst (λ x. IsWithin before now made x) (sym is) (λ new k at.
    let so = p new (k + 1) at in
    (so.0, stands (k + length (in_expression (t.Marked marks value))) so.1 (omega arith)))) h

-- ---- with the marks of their own

pub whole : {E : Type 0} (r : Result Expr E) (before mid now : Walk) (here : PlaceMarks) (inner : Expr) (e : t.Expression) →
    ((new : List NewMark) (k : ℕ) → StandsAt before new k → AreOf here new k × StandsAt mid new (k + 1)) → IsWithin mid now inner e →
    IfOk r (λ all. expression_of all ≡ preceded_by (marks_in here.labels.items) (decided_by (new_marks here.decisions.items) (expression_of inner))) →
    IfOk r (λ all. Passes before now (λ new k. expression_of all ≡ with_marks new k e) (in_expression e))
whole r before mid now here inner e first p h =
    IfOk-weaker r (λ all. expression_of all ≡ preceded_by (marks_in here.labels.items) (decided_by (new_marks here.decisions.items) (expression_of inner)))
    (λ all. Passes before now (λ new k. expression_of all ≡ with_marks new k e) (in_expression e))
    (λ all is new k at.
    let own = first new k at in
    let so = p new k own.1 in
    (is ∙ ap₂ preceded_by own.0.labels_in_front (own.0.decisions (expression_of inner) ∙ ap (decided new k) so.0), so.1)) h

pub marked : {E : Type 0} (r : Result Expr E) (before first mid now : Walk) (here : PlaceMarks) (made marks : t.Marks) (inner : Expr) (e : t.Expression) →
    Passes before first (λ new k. made ≡ marks) (in_marks marks) →
    ((new : List NewMark) (k : ℕ) → StandsAt first new k → AreOf here new k × StandsAt mid new (k + 1)) → IsWithin mid now inner e →
    IfOk r (λ all. expression_of all ≡ t.Marked (joined made (marks_in here.labels.items)) (decided_by (new_marks here.decisions.items) (expression_of inner))) →
    IfOk r (λ all. IsMarked before now all marks e)
marked r before first mid now here made marks inner e copy own p h =
    let sum : length (in_marks marks ++ in_expression e) ≡ length (in_marks marks) + length (in_expression e) = length-append (in_marks marks) (in_expression e) in
    IfOk-weaker r (λ all. expression_of all ≡ t.Marked (joined made (marks_in here.labels.items)) (decided_by (new_marks here.decisions.items) (expression_of inner)))
    (λ all. IsMarked before now all marks e)
    (λ all is new k at.
    let a = copy new k at in
    let b = own new (k + length (in_marks marks)) a.1 in
    let so = p new (k + length (in_marks marks)) b.1 in (
      is ∙ ap₂ t.Marked (ap₂ joined a.0 b.0.labels_in_front) (b.0.decisions (expression_of inner) ∙ ap (decided new (k + length (in_marks marks))) so.0),
      stands (k + length (in_marks marks ++ in_expression e)) so.1 (omega (arith, sum)),
    )) h

-- a copy, made by a walk without marks
pub copy : (before copying copied now : Walk) (made e : t.Expression) → ((new : List NewMark) (k : ℕ) → StandsAt before new k → StandsAt copying [] k) →
    Passes copying copied (λ new k. made ≡ with_marks new k e) (in_expression e) → now.marks.items ≡ before.marks.items → now.next ≡ copied.next →
    Passes before now (λ new k. made ≡ e) (in_expression e)
copy before copying copied now made e begin p same next new k at =
    let so = p [] k (begin new k at) in
    (so.0 ∙ nothing_within k e, on before now new k (length (in_expression e)) same (next ∙ so.1.number) at)

-- ---- parts that are expressions in memory

pub one_within : (f : t.Expression → t.Expression) (before now : Walk) (made : Expr) (e : t.Expression) (part x : Expr) →
    e ≡ f (expression_of part) → expression_of made ≡ f (expression_of x) →
    ((new : List NewMark) (k : ℕ) → within new k (f (expression_of part)) ≡ f (with_marks new (k + 1) (expression_of part))) →
    length (in_expression (f (expression_of part))) ≡ suc (length (in_expression (expression_of part))) →
    Passes before now (λ new k. expression_of x ≡ with_marks new k (expression_of part)) (in_expression (expression_of part)) → IsWithin before now made e
one_within f before now made e part x is made_is meant size p =
    one f before now made e (expression_of part) (expression_of x) (λ new k. with_marks new k (expression_of part)) (in_expression (expression_of part)) is made_is meant size p

pub two_within : (f : t.Expression → t.Expression → t.Expression) (before mid now : Walk) (made : Expr) (e : t.Expression) (a x b y : Expr) →
    e ≡ f (expression_of a) (expression_of b) → expression_of made ≡ f (expression_of x) (expression_of y) →
    ((new : List NewMark) (k : ℕ) → within new k (f (expression_of a) (expression_of b))
    ≡ f (with_marks new (k + 1) (expression_of a)) (with_marks new (k + 1 + length (in_expression (expression_of a))) (expression_of b))) →
    length (in_expression (f (expression_of a) (expression_of b))) ≡ suc (length (in_expression (expression_of a) ++ in_expression (expression_of b))) →
    Passes before mid (λ new k. expression_of x ≡ with_marks new k (expression_of a)) (in_expression (expression_of a)) →
    Passes mid now (λ new k. expression_of y ≡ with_marks new k (expression_of b)) (in_expression (expression_of b)) → IsWithin before now made e
two_within f before mid now made e a x b y is made_is meant size p q =
    two f before mid now made e (expression_of a) (expression_of x) (expression_of b) (expression_of y) (λ new k. with_marks new k (expression_of a))
    (λ new k. with_marks new k (expression_of b)) (in_expression (expression_of a)) (in_expression (expression_of b)) is made_is meant size p q
