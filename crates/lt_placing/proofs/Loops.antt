-- What a loop has made of the front of a list, and where the walk stands.
use Rattle.std.proofs.Common.{◌≡◌, refl, sym, ap, ◌∙◌, subst, ℕ, suc, ◌+◌, ◌<◌, ◌≤◌, List, [], ◌∷◌, ◌++◌, length, drop, get_or, drop-cons, arith}
use Rattle.std.proofs.lemmas.List.{drop_all}
use Rattle.lt_tree.specs.Nodes.{Node}
use Rattle.lt_objectives.specs.Marked.{NewMark}
use Rattle.lt_placing.specs.declared.walk.Walk.{Walk}
use Rattle.lt_placing.specs.Walks.{StandsAt, Passes}
use Rattle.lt_placing.proofs.Standing.{stands}

-- values before others
abbrev pub before : {Y T : Type 0} → (Y → T → T) → List Y → T → T
before cons [] rest = rest
before cons (y ∷ ys) rest = cons y (before cons ys rest)

before_more : {Y T : Type 0} (cons : Y → T → T) (done : List Y) (y : Y) (rest : T) → before cons (done ++ y ∷ []) rest ≡ before cons done (cons y rest)
before_more cons [] y rest = refl
before_more cons (x ∷ done) y rest = ap (cons x) (before_more cons done y rest)

before_end : {Y T : Type 0} (cons : Y → T → T) (all : List Y → T) → ((y : Y) (ys : List Y) → all (y ∷ ys) ≡ cons y (all ys)) →
    (done : List Y) → before cons done (all []) ≡ all done
before_end cons all more [] = refl
before_end cons all more (x ∷ done) = ap (cons x) (before_end cons all more done) ∙ sym (more x done)

-- From this number the walk has come behind the parts that are done.
pub record IsFar {X Y T : Type 0} (cons : Y → T → T) (rest_with : List NewMark → ℕ → List X → T) (nodes_of : List X → List Node)
    (now : Walk) (done : List Y) (list left : List X) (new : List NewMark) (k : ℕ) : Type 0 where
  pub j : ℕ
  pub standing : StandsAt now new j
  pub made : before cons done (rest_with new j left) ≡ rest_with new k list
  pub counted : j + length (nodes_of left) ≡ k + length (nodes_of list)

abbrev pub ComesFar : {X Y T : Type 0} → (Y → T → T) → (List NewMark → ℕ → List X → T) → (List X → List Node) → Walk → Walk → List Y → (list left : List X) → Type 0
ComesFar cons rest_with nodes_of start now done list left =
    (new : List NewMark) (k : ℕ) → StandsAt start new k → IsFar cons rest_with nodes_of now done list left new k

pub begun : {X Y T : Type 0} (cons : Y → T → T) (rest_with : List NewMark → ℕ → List X → T) (nodes_of : List X → List Node) (walk : Walk) (done : List Y) (list : List X) →
    done ≡ [] → ComesFar cons rest_with nodes_of walk walk done list list
begun cons rest_with nodes_of walk done list none new k at = record {
  j = k;
  standing = at;
  made = ap (λ ys. before cons ys (rest_with new k list)) none;
  counted = refl;
}

-- One part more becomes a value.
pub further : {X Y T : Type 0} (cons : Y → T → T) (rest_with : List NewMark → ℕ → List X → T) (nodes_of : List X → List Node) (start mid now : Walk)
    (list : List X) (i : ℕ) (x : X) (done more : List Y) (y : Y) (nodes : List Node) →
    i < length list → x ≡ get_or list i x → more ≡ done ++ y ∷ [] →
    ((rest : List X) → length (nodes_of (x ∷ rest)) ≡ length nodes + length (nodes_of rest)) →
    Passes mid now (λ new k. (rest : List X) → rest_with new k (x ∷ rest) ≡ cons y (rest_with new (k + length nodes) rest)) nodes →
    ComesFar cons rest_with nodes_of start mid done list (drop i list) → ComesFar cons rest_with nodes_of start now more list (drop (i + 1) list)
further cons rest_with nodes_of start mid now list i x done more y nodes within is pushed sized step so new k at =
    let rest = drop (i + 1) list in
    let next : suc i ≡ i + 1 = omega arith in
    let split : drop i list ≡ x ∷ rest = drop-cons list i x within ∙ ap (λ z. z ∷ drop (suc i) list) (sym is) ∙ ap (λ n. x ∷ drop n list) next in
    let far : IsFar cons rest_with nodes_of mid done list (x ∷ rest) new k = subst (λ l. IsFar cons rest_with nodes_of mid done list l new k) split (so new k at) in
    let turned = step new far.j far.standing in
    let size : length (nodes_of (x ∷ rest)) ≡ length nodes + length (nodes_of rest) = sized rest in
    let old : far.j + length (nodes_of (x ∷ rest)) ≡ k + length (nodes_of list) = far.counted in
    record {
      j = far.j + length nodes;
      standing = turned.1;
      made = ap (λ all. before cons all (rest_with new (far.j + length nodes) rest)) pushed ∙ before_more cons done y (rest_with new (far.j + length nodes) rest)
          ∙ ap (before cons done) (sym (turned.0 rest)) ∙ far.made;
      counted = omega arith;
    }

-- Behind the end of the list, all that was made is the whole.
pub finished : {X Y T : Type 0} (cons : Y → T → T) (rest_with : List NewMark → ℕ → List X → T) (nodes_of : List X → List Node) (start now : Walk)
    (all : List Y → T) (list : List X) (i : ℕ) (done : List Y) →
    length list ≤ i → ((new : List NewMark) (j : ℕ) → rest_with new j [] ≡ all []) → ((y : Y) (ys : List Y) → all (y ∷ ys) ≡ cons y (all ys)) → nodes_of [] ≡ [] →
    ComesFar cons rest_with nodes_of start now done list (drop i list) → Passes start now (λ new k. all done ≡ rest_with new k list) (nodes_of list)
finished cons rest_with nodes_of start now all list i done beyond empty more none so new k at =
    let far : IsFar cons rest_with nodes_of now done list [] new k = subst (λ l. IsFar cons rest_with nodes_of now done list l new k) (drop_all i list beyond) (so new k at) in
    let end : far.j + length (nodes_of []) ≡ k + length (nodes_of list) = far.counted in
    let zero : length (nodes_of []) ≡ 0 = ap length none in
    (sym (before_end cons all more done) ∙ ap (before cons done) (sym (empty new far.j)) ∙ far.made, stands (k + length (nodes_of list)) far.standing (omega arith))

-- a part that becomes a value, before what comes of the rest
pub turn : {X T V : Type 0} (rest_with : List NewMark → ℕ → List X → T) (put : V → T → T) (mid now : Walk) (v : V) (want : List NewMark → ℕ → V) (nodes : List Node) →
    Passes mid now (λ new k. v ≡ want new k) nodes →
    Passes mid now (λ new k. (rest : List X) → put (want new k) (rest_with new (k + length nodes) rest) ≡ put v (rest_with new (k + length nodes) rest)) nodes
turn rest_with put mid now v want nodes p new k at =
    let so = p new k at in
    ((λ rest. ap (λ x. put x (rest_with new (k + length nodes) rest)) (sym so.0)), so.1)

-- the same of a part of two values
pub turn_two : {X T V W : Type 0} (rest_of : List X → T) (put : V → W → T → T) (mid now : Walk) (v v' : V) (w w' : W) (nodes : List Node) →
    Passes mid now (λ new k. (v ≡ v') × (w ≡ w')) nodes → Passes mid now (λ new k. (rest : List X) → put v' w' (rest_of rest) ≡ put v w (rest_of rest)) nodes
turn_two rest_of put mid now v v' w w' nodes p new k at =
    let so = p new k at in
    ((λ rest. ap (λ x. put x w' (rest_of rest)) (sym so.0.0) ∙ ap (λ x. put v x (rest_of rest)) (sym so.0.1)), so.1)
