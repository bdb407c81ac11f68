-- What mapped lists have.
use Rattle.std.proofs.Common.{◌≡◌, ℕ, zero, suc, ◌<◌, List, [], ◌∷◌, map, length, get_or, refl, ap, ◌∙◌, arith}
use Rattle.std.specs.Prelude.{Contains}
use Rattle.std.proofs.lemmas.List.{length-map, get_or-map}

pub contains_map : {X Y : Type 0} (f : X → Y) (xs : List X) (x : X) → Contains xs x → Contains (map f xs) (f x)
contains_map f xs x (k, within, is) =
    (k, (let long : length (map f xs) ≡ length xs = length-map xs f in omega arith), get_or-map f xs k x (f x) within ∙ ap f is)

pub contained_in_map : {X Y : Type 0} (f : X → Y) (xs : List X) (y : Y) → Contains (map f xs) y → (x : X) × Contains xs x × (f x ≡ y)
contained_in_map f [] y (k, within, is) = absurd (omega arith)
contained_in_map f (x ∷ xs) y (zero, within, is) = (x, (0, omega arith, refl), is)
contained_in_map f (x ∷ xs) y (suc k, within, is) =
    let rest = contained_in_map f xs y (k, omega arith, is) in
    (rest.0, (suc rest.1.0, (let less : rest.1.0 < length xs = rest.1.1 in omega arith), rest.1.2), rest.2)
