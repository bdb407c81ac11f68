-- Lists of nodes in which each node begins its own part.
use Rattle.std.proofs.Common.{◌≡◌, sym, ap, ◌∙◌, ℕ, zero, suc, List, [], ◌∷◌, ◌++◌, drop, Some, None, append_assoc}
use Rattle.std.specs.Prelude.{slice_get}
use Rattle.std.specs.List.{flat_map}
use Rattle.std.proofs.lemmas.List.{append-nil}
use Rattle.lt_tree.specs.Nodes.{Node}
use Rattle.lt_sites.specs.Sites.{in_node}

abbrev pub EachBegins : List Node → Type 0
EachBegins [] = Unit {0}
EachBegins (x ∷ xs) = ((behind : List Node) × (x ∷ xs ≡ in_node x ++ behind)) × EachBegins xs

pub record Closed (xs : List Node) : Type 0 where
  pub begins : EachBegins xs

pub nothing : Closed []
nothing = record { begins = tt }

each_of_both : (xs ys : List Node) → EachBegins xs → EachBegins ys → EachBegins (xs ++ ys)
each_of_both [] ys h i = i
each_of_both (x ∷ xs) ys h i =
    let begin : x ∷ (xs ++ ys) ≡ in_node x ++ (h.0.0 ++ ys) = ap (λ zs. zs ++ ys) h.0.1 ∙ append_assoc (in_node x) h.0.0 ys in
    ((h.0.0 ++ ys, begin), each_of_both xs ys h.1 i)

pub both : {xs ys : List Node} → Closed xs → Closed ys → Closed (xs ++ ys)
both {xs} {ys} h i = record { begins = each_of_both xs ys h.begins i.begins }

-- a node with the rest of its part
pub whole : {x : Node} {xs : List Node} → in_node x ≡ x ∷ xs → Closed xs → Closed (x ∷ xs)
whole {x} {xs} e h = record { begins = (([], sym (append-nil (in_node x) ∙ e)), h.begins) }

pub each : {X : Type 0} (f : X → List Node) → ((x : X) → Closed (f x)) → (xs : List X) → Closed (flat_map f xs)
each f h [] = nothing
each f h (x ∷ xs) = both (h x) (each f h xs)

part_at : (xs : List Node) (k : ℕ) (x : Node) → EachBegins xs → slice_get xs k ≡ Some x → (behind : List Node) × (drop k xs ≡ in_node x ++ behind)
part_at [] k x h e =
    let nothing_is : None ≡ Some x = e in
    cc
part_at (y ∷ ys) zero x h e =
    let is : y ≡ x = cc in
    (h.0.0, h.0.1 ∙ ap (λ z. in_node z ++ h.0.0) is)
part_at (y ∷ ys) (suc k) x h e = part_at ys k x h.1 e

pub part_begins : {xs : List Node} → Closed xs → (k : ℕ) (x : Node) → slice_get xs k ≡ Some x → (behind : List Node) × (drop k xs ≡ in_node x ++ behind)
part_begins {xs} h k x e = part_at xs k x h.begins e
