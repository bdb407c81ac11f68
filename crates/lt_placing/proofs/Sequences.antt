-- One part after another.
use Rattle.std.proofs.Common.{◌≡◌, sym, ap, ap₂, ◌∙◌, subst, ℕ, suc, ◌+◌, List, length, arith}
use Rattle.lt_tree.specs.Nodes.{Node}
use Rattle.lt_objectives.specs.Marked.{NewMark}
use Rattle.lt_placing.specs.declared.walk.Walk.{Walk}
use Rattle.lt_placing.specs.Walks.{StandsAt, GoesOn}
use Rattle.lt_placing.proofs.Standing.{stands}

-- that the walk passes so many nodes
abbrev pub Passed : Walk → Walk → (List NewMark → ℕ → Type 0) → ℕ → Type 0
Passed before now IsSo count = (new : List NewMark) (k : ℕ) → StandsAt before new k → IsSo new k × StandsAt now new (k + count)

pub then_passed : {before mid now : Walk} (P Q : List NewMark → ℕ → Type 0) (m n : ℕ) → Passed before mid P m → Passed mid now Q n →
    Passed before now (λ new k. P new k × Q new (k + m)) (m + n)
then_passed P Q m n p q new k at =
    let a = p new k at in
    let b = q new (k + m) a.1 in
    ((a.0, b.0), stands (k + (m + n)) b.1 (omega arith))

pub step_passed : {before mid now : Walk} (P : List NewMark → ℕ → Type 0) (n : ℕ) → GoesOn before mid 1 → Passed mid now P n → Passed before now (λ new k. P new (k + 1)) (suc n)
step_passed P n s p new k at =
    let a = p new (k + 1) (s new k at) in
    (a.0, stands (k + suc n) a.1 (omega arith))

pub becomes : {before now : Walk} (P Q : List NewMark → ℕ → Type 0) (m n : ℕ) → m ≡ n → ((new : List NewMark) (k : ℕ) → P new k → Q new k) →
    Passed before now P m → Passed before now Q n
becomes P Q m n e f p new k at =
    let a = p new k at in
    (f new k a.0, stands (k + n) a.1 (ap (λ i. k + i) e))

-- ---- a node with parts

pub no_part : {T : Type 0} (with_ : List NewMark → ℕ → T → T) (nodes_of : T → List Node) {before mid : Walk} (made e same : T) →
    e ≡ same → made ≡ same → ((new : List NewMark) (k : ℕ) → with_ new k same ≡ same) → length (nodes_of same) ≡ 1 → GoesOn before mid 1 →
    Passed before mid (λ new k. made ≡ with_ new k e) (length (nodes_of e))
no_part with_ nodes_of {before} {mid} made e same is made_is meant size s =
    subst (λ x. Passed before mid (λ new k. made ≡ with_ new k x) (length (nodes_of x))) (sym is) (λ new k at.
    (made_is ∙ sym (meant new k), stands (k + length (nodes_of same)) (s new k at) (ap (λ i. k + i) (sym size))))

pub one_part : {A T : Type 0} (with_ : List NewMark → ℕ → T → T) (nodes_of : T → List Node) (f : A → T) {before mid now : Walk} (made e : T) (part x : A)
    (want : List NewMark → ℕ → A) (n : ℕ) →
    e ≡ f part → made ≡ f x → ((new : List NewMark) (k : ℕ) → with_ new k (f part) ≡ f (want new (k + 1))) → length (nodes_of (f part)) ≡ suc n →
    GoesOn before mid 1 → Passed mid now (λ new k. x ≡ want new k) n → Passed before now (λ new k. made ≡ with_ new k e) (length (nodes_of e))
one_part with_ nodes_of f {before} {mid} {now} made e part x want n is made_is meant size s p =
    subst (λ y. Passed before now (λ new k. made ≡ with_ new k y) (length (nodes_of y))) (sym is)
    (becomes (λ new k. x ≡ want new (k + 1)) (λ new k. made ≡ with_ new k (f part)) (suc n) (length (nodes_of (f part))) (sym size)
    (λ new k so. made_is ∙ ap f so ∙ sym (meant new k)) (step_passed (λ new k. x ≡ want new k) n s p))

pub two_parts : {A B T : Type 0} (with_ : List NewMark → ℕ → T → T) (nodes_of : T → List Node) (f : A → B → T) {before mid then_ now : Walk} (made e : T) (a x : A) (b y : B)
    (want : List NewMark → ℕ → A) (second : List NewMark → ℕ → B) (m n : ℕ) →
    e ≡ f a b → made ≡ f x y → ((new : List NewMark) (k : ℕ) → with_ new k (f a b) ≡ f (want new (k + 1)) (second new (k + 1 + m))) → length (nodes_of (f a b)) ≡ suc (m + n) →
    GoesOn before mid 1 → Passed mid then_ (λ new k. x ≡ want new k) m → Passed then_ now (λ new k. y ≡ second new k) n →
    Passed before now (λ new k. made ≡ with_ new k e) (length (nodes_of e))
two_parts with_ nodes_of f {before} {mid} {then_} {now} made e a x b y want second m n is made_is meant size s p q =
    subst (λ z. Passed before now (λ new k. made ≡ with_ new k z) (length (nodes_of z))) (sym is)
    (becomes (λ new k. (x ≡ want new (k + 1)) × (y ≡ second new (k + 1 + m))) (λ new k. made ≡ with_ new k (f a b)) (suc (m + n)) (length (nodes_of (f a b))) (sym size)
    (λ new k so. made_is ∙ ap₂ f so.0 so.1 ∙ sym (meant new k))
    (step_passed (λ new k. (x ≡ want new k) × (y ≡ second new (k + m))) (m + n) s (then_passed (λ new k. x ≡ want new k) (λ new k. y ≡ second new k) m n p q)))

pub three_parts : {A B D T : Type 0} (with_ : List NewMark → ℕ → T → T) (nodes_of : T → List Node) (f : A → B → D → T) {before mid first second now : Walk} (made e : T)
    (a x : A) (b y : B) (d z : D) (want : List NewMark → ℕ → A) (want_b : List NewMark → ℕ → B) (want_d : List NewMark → ℕ → D) (m n o : ℕ) →
    e ≡ f a b d → made ≡ f x y z →
    ((new : List NewMark) (k : ℕ) → with_ new k (f a b d) ≡ f (want new (k + 1)) (want_b new (k + 1 + m)) (want_d new (k + 1 + m + n))) → length (nodes_of (f a b d)) ≡ suc (m + (n + o)) →
    GoesOn before mid 1 → Passed mid first (λ new k. x ≡ want new k) m → Passed first second (λ new k. y ≡ want_b new k) n → Passed second now (λ new k. z ≡ want_d new k) o →
    Passed before now (λ new k. made ≡ with_ new k e) (length (nodes_of e))
three_parts with_ nodes_of f {before} {mid} {first} {second} {now} made e a x b y d z want want_b want_d m n o is made_is meant size s p q r =
    subst (λ w. Passed before now (λ new k. made ≡ with_ new k w) (length (nodes_of w))) (sym is)
    (becomes (λ new k. (x ≡ want new (k + 1)) × ((y ≡ want_b new (k + 1 + m)) × (z ≡ want_d new (k + 1 + m + n)))) (λ new k. made ≡ with_ new k (f a b d))
    (suc (m + (n + o))) (length (nodes_of (f a b d))) (sym size)
    (λ new k so. made_is ∙ ap₂ (λ i j. f i j z) so.0 so.1.0 ∙ ap (f (want new (k + 1)) (want_b new (k + 1 + m))) so.1.1 ∙ sym (meant new k))
    (step_passed (λ new k. (x ≡ want new k) × ((y ≡ want_b new (k + m)) × (z ≡ want_d new (k + m + n)))) (m + (n + o)) s
    (then_passed (λ new k. x ≡ want new k) (λ new k. (y ≡ want_b new k) × (z ≡ want_d new (k + n))) m (n + o) p
    (then_passed (λ new k. y ≡ want_b new k) (λ new k. z ≡ want_d new k) n o q r))))

-- ---- a part that is no node itself

pub lone_part : {A T : Type 0} (with_ : List NewMark → ℕ → T → T) (nodes_of : T → List Node) (f : A → T) {before now : Walk} (made e : T) (part x : A)
    (want : List NewMark → ℕ → A) (n : ℕ) →
    e ≡ f part → made ≡ f x → ((new : List NewMark) (k : ℕ) → with_ new k (f part) ≡ f (want new k)) → length (nodes_of (f part)) ≡ n →
    Passed before now (λ new k. x ≡ want new k) n → Passed before now (λ new k. made ≡ with_ new k e) (length (nodes_of e))
lone_part with_ nodes_of f {before} {now} made e part x want n is made_is meant size p =
    subst (λ y. Passed before now (λ new k. made ≡ with_ new k y) (length (nodes_of y))) (sym is)
    (becomes (λ new k. x ≡ want new k) (λ new k. made ≡ with_ new k (f part)) n (length (nodes_of (f part))) (sym size) (λ new k so. made_is ∙ ap f so ∙ sym (meant new k)) p)

pub empty_part : {T : Type 0} (with_ : List NewMark → ℕ → T → T) (nodes_of : T → List Node) {walk : Walk} (made e same : T) →
    e ≡ same → made ≡ same → ((new : List NewMark) (k : ℕ) → with_ new k same ≡ same) → length (nodes_of same) ≡ 0 →
    Passed walk walk (λ new k. made ≡ with_ new k e) (length (nodes_of e))
empty_part with_ nodes_of {walk} made e same is made_is meant size =
    subst (λ x. Passed walk walk (λ new k. made ≡ with_ new k x) (length (nodes_of x))) (sym is) (λ new k at.
    (made_is ∙ sym (meant new k), stands (k + length (nodes_of same)) at (omega (arith, size))))

pub pair_of_parts : {A B T : Type 0} (with_ : List NewMark → ℕ → T → T) (nodes_of : T → List Node) (f : A → B → T) {before mid now : Walk} (made e : T) (a x : A) (b y : B)
    (want : List NewMark → ℕ → A) (second : List NewMark → ℕ → B) (m n : ℕ) →
    e ≡ f a b → made ≡ f x y → ((new : List NewMark) (k : ℕ) → with_ new k (f a b) ≡ f (want new k) (second new (k + m))) → length (nodes_of (f a b)) ≡ m + n →
    Passed before mid (λ new k. x ≡ want new k) m → Passed mid now (λ new k. y ≡ second new k) n →
    Passed before now (λ new k. made ≡ with_ new k e) (length (nodes_of e))
pair_of_parts with_ nodes_of f {before} {mid} {now} made e a x b y want second m n is made_is meant size p q =
    subst (λ z. Passed before now (λ new k. made ≡ with_ new k z) (length (nodes_of z))) (sym is)
    (becomes (λ new k. (x ≡ want new k) × (y ≡ second new (k + m))) (λ new k. made ≡ with_ new k (f a b)) (m + n) (length (nodes_of (f a b))) (sym size)
    (λ new k so. made_is ∙ ap₂ f so.0 so.1 ∙ sym (meant new k)) (then_passed (λ new k. x ≡ want new k) (λ new k. y ≡ second new k) m n p q))
