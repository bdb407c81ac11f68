-- A function's values are equal where its arguments are; and where two joined lists are empty, the first is.
use Rattle.std.proofs.Common.{◌≡◌, List, [], ◌∷◌, ◌++◌, refl, ap, ◌∙◌}

pub both : {A B C : Type 0} (f : A → B → C) {x y : A} {v w : B} → x ≡ y → v ≡ w → f x v ≡ f y w
both f {x} {y} {v} {w} p q = ap (λ a. f a v) p ∙ ap (f y) q

pub three : {A B C D : Type 0} (f : A → B → C → D) {x y : A} {v w : B} {m n : C} → x ≡ y → v ≡ w → m ≡ n → f x v m ≡ f y w n
three f {x} {y} {v} {w} {m} {n} p q r = both (λ a b. f a b m) p q ∙ ap (λ c. f y w c) r

pub front_empty : {A : Type 0} (xs ys : List A) → xs ++ ys ≡ [] → xs ≡ []
front_empty [] ys h = refl
front_empty (x ∷ xs) ys h = absurd cc
