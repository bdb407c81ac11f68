-- What a loop has made of the front of a list, before what is still to come.
use Rattle.std.proofs.Common.{◌≡◌, refl, sym, ap, ◌∙◌, ℕ, suc, ◌+◌, ◌<◌, ◌≤◌, List, [], ◌∷◌, ◌++◌, length, drop, get_or, drop-cons, arith}
use Rattle.std.proofs.lemmas.List.{drop_all}

-- values before others
abbrev pub before : {X T : Type 0} → (X → T → T) → List X → T → T
before cons [] rest = rest
before cons (x ∷ xs) rest = cons x (before cons xs rest)

before_more : {X T : Type 0} (cons : X → T → T) (done : List X) (y : X) (rest : T) → before cons (done ++ y ∷ []) rest ≡ before cons done (cons y rest)
before_more cons [] y rest = refl
before_more cons (x ∷ done) y rest = ap (cons x) (before_more cons done y rest)

-- all that was made, before nothing
pub before_end : {X T : Type 0} (cons : X → T → T) (all : List X → T) → ((x : X) (xs : List X) → all (x ∷ xs) ≡ cons x (all xs)) → (done : List X) → before cons done (all []) ≡ all done
before_end cons all more [] = refl
before_end cons all more (x ∷ done) = ap (cons x) (before_end cons all more done) ∙ sym (more x done)

-- One more is made of one more of a list's elements.
pub made : {X Y T : Type 0} (cons : Y → T → T) (rest_of : List X → T) (list : List X) (i : ℕ) (x : X) (done new : List Y) (y : Y) (whole : T) →
    i < length list → x ≡ get_or list i x → new ≡ done ++ y ∷ [] → ((rest : List X) → rest_of (x ∷ rest) ≡ cons y (rest_of rest)) →
    before cons done (rest_of (drop i list)) ≡ whole → before cons new (rest_of (drop (i + 1) list)) ≡ whole
made cons rest_of list i x done new y whole within is pushed step old =
    let rest = drop (i + 1) list in
    let more : suc i ≡ i + 1 = omega arith in
    let split : drop i list ≡ x ∷ rest = drop-cons list i x within ∙ ap (λ z. z ∷ drop (suc i) list) (sym is) ∙ ap (λ k. x ∷ drop k list) more in
    ap (λ all. before cons all (rest_of rest)) pushed ∙ before_more cons done y (rest_of rest) ∙ sym (ap (before cons done) (step rest))
    ∙ sym (ap (λ xs. before cons done (rest_of xs)) split) ∙ old

-- An element that gives nothing is passed by.
pub passed : {X Y T : Type 0} (cons : Y → T → T) (rest_of : List X → T) (list : List X) (i : ℕ) (x : X) (done : List Y) (whole : T) →
    i < length list → x ≡ get_or list i x → ((rest : List X) → rest_of (x ∷ rest) ≡ rest_of rest) →
    before cons done (rest_of (drop i list)) ≡ whole → before cons done (rest_of (drop (i + 1) list)) ≡ whole
passed cons rest_of list i x done whole within is step old =
    let rest = drop (i + 1) list in
    let more : suc i ≡ i + 1 = omega arith in
    let split : drop i list ≡ x ∷ rest = drop-cons list i x within ∙ ap (λ z. z ∷ drop (suc i) list) (sym is) ∙ ap (λ k. x ∷ drop k list) more in
    sym (ap (before cons done) (step rest)) ∙ sym (ap (λ xs. before cons done (rest_of xs)) split) ∙ old

-- Behind the end of the list, all that was made is the whole.
pub ended : {X Y T : Type 0} (cons : Y → T → T) (rest_of : List X → T) (all : List Y → T) (list : List X) (i : ℕ) (done : List Y) (whole : T) →
    length list ≤ i → rest_of [] ≡ all [] → ((y : Y) (ys : List Y) → all (y ∷ ys) ≡ cons y (all ys)) →
    before cons done (rest_of (drop i list)) ≡ whole → all done ≡ whole
ended cons rest_of all list i done whole beyond empty more old =
    let none : drop i list ≡ [] = drop_all i list beyond in
    sym (before_end cons all more done) ∙ sym (ap (before cons done) empty) ∙ sym (ap (λ xs. before cons done (rest_of xs)) none) ∙ old

-- two parts of a value, each the same
pub both : {A B C : Type 0} (f : A → B → C) (a a' : A) (b b' : B) → a ≡ a' → b ≡ b' → f a b ≡ f a' b'
both f a a' b b' p q = ap (λ x. f x b) p ∙ ap (f a') q
