-- What is asked of objects doesn't depend on the nodes that declare them.
use Rattle.std.proofs.Common.{◌≡◌, ℕ, zero, suc, List, [], ◌∷◌, Option, Some, None, Bool, false, refl, sym, ap, ◌∙◌}
use Rattle.std.specs.Prelude.{if◌then◌else◌, slice_get}
use Rattle.lt_tree.specs.Typing.Types.{CType, Void}
use Rattle.lt_tree.specs.Typing.TypedTree.{Start}
use Rattle.lt_tree.specs.Typing.Entities.{Object, Life, linked, local_static, literal, automatic, parameter, unmade, is_static, is_sealed}
use Rattle.lt_meaning.specs.Runs.{statics_before, name_in_files}
use Rattle.lt_mark_laws.specs.Added.{AreSameObjects}

-- functions that are the same on each number are the same
pub each : {B : Type 0} (f g : ℕ → B) → ((n : ℕ) → f n ≡ g n) → f ≡ g
each f g h = λ i n. h n i

found_same : {B : Type 0} (g : Object → B) (d : B) → ((x : Object) (n : ℕ) → g (record x { node = n }) ≡ g x) → (xs ys : List Object) → AreSameObjects xs ys → (n : ℕ) → elim (slice_get xs n) as (λ _. B) [ None ↦ d | Some x ↦ g x ] ≡ elim (slice_get ys n) as (λ _. B) [ None ↦ d | Some x ↦ g x ]
found_same g d k [] [] h n = refl
found_same g d k (x ∷ xs) (y ∷ ys) h zero = sym (k x y.node) ∙ ap g h.0
found_same g d k (x ∷ xs) (y ∷ ys) h (suc n) = found_same g d k xs ys h.1 n
found_same g d k [] (y ∷ ys) h n = absurd h
found_same g d k (x ∷ xs) [] h n = absurd h

pub type_same : (xs ys : List Object) → AreSameObjects xs ys → (n : ℕ) → elim (slice_get xs n) as (λ _. CType) [ None ↦ Void | Some x ↦ x.type ] ≡ elim (slice_get ys n) as (λ _. CType) [ None ↦ Void | Some x ↦ x.type ]
type_same = found_same (λ x. x.type) Void (λ x n. refl)

pub sealed_same : (xs ys : List Object) → AreSameObjects xs ys → (n : ℕ) → elim (slice_get xs n) as (λ _. Bool) [ None ↦ false | Some x ↦ is_sealed x ] ≡ elim (slice_get ys n) as (λ _. Bool) [ None ↦ false | Some x ↦ is_sealed x ]
sealed_same = found_same is_sealed false (λ x n. refl)

pub static_same : (xs ys : List Object) → AreSameObjects xs ys → (n : ℕ) → elim (slice_get xs n) as (λ _. Bool) [ None ↦ false | Some x ↦ is_static x.life ] ≡ elim (slice_get ys n) as (λ _. Bool) [ None ↦ false | Some x ↦ is_static x.life ]
static_same = found_same (λ x. is_static x.life) false (λ x n. refl)

pub name_same : (xs ys : List Object) → AreSameObjects xs ys → (n : ℕ) → elim (slice_get xs n) as (λ _. List ℕ) [ None ↦ [] | Some x ↦ x.name ] ≡ elim (slice_get ys n) as (λ _. List ℕ) [ None ↦ [] | Some x ↦ x.name ]
name_same = found_same (λ x. x.name) [] (λ x n. refl)

pub statics_same : (n : ℕ) (xs ys : List Object) → AreSameObjects xs ys → statics_before n xs ≡ statics_before n ys
statics_same zero xs ys h = refl
statics_same (suc n) [] [] h = refl
statics_same (suc n) (x ∷ xs) (y ∷ ys) h = ap (λ life. if is_static life then suc (statics_before n xs) else statics_before n xs) (ap (λ o. o.life) h.0) ∙ ap (λ k. if is_static y.life then suc k else k) (statics_same n xs ys h.1)
statics_same (suc n) [] (y ∷ ys) h = absurd h
statics_same (suc n) (x ∷ xs) [] h = absurd h

file_name_by : (node n : ℕ) (name : List ℕ) (type : CType) (life : Life) (start : Option Start) → name_in_files (record { node = n; name = name; type = type; life = life; start = start }) ≡ name_in_files (record { node = node; name = name; type = type; life = life; start = start })
file_name_by node n name type linked start = refl
file_name_by node n name type local_static start = refl
file_name_by node n name type literal start = refl
file_name_by node n name type automatic start = refl
file_name_by node n name type parameter start = refl
file_name_by node n name type unmade start = refl

pub file_name_same : (x : Object) (n : ℕ) → name_in_files (record x { node = n }) ≡ name_in_files x
file_name_same x n = file_name_by x.node n x.name x.type x.life x.start
