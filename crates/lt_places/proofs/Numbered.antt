-- Nodes with their numbers, and with what lies in memory at the same index.
use Rattle.std.proofs.Common.{◌≡◌, refl, sym, ap, ◌∙◌, ℕ, zero, suc, ◌+◌, ◌<◌, Bool, true, false, ◌||◌, List, [], ◌∷◌, length, get_or, map, Some, zero-add, arith}
use Rattle.std.specs.List.{slice_get}
use Rattle.std.proofs.lemmas.List.{length-map}
use Rattle.lt_tree.specs.Tree as c
use Rattle.lt_tree.specs.Nodes.{Node, nodes}
use Rattle.lt_objectives.specs.Places as places
use Rattle.lt_objectives.specs.Places.{sites_from, sites}
use Rattle.lt_sites.specs.declared.site.Site.{Site}
use Rattle.lt_sites.specs.Sites.{Sized, AreSitesOf, node_of, entry_of, part_of}

abbrev pub placed : ℕ → Node → places.Site
placed k node = record { number = k; node = node }

-- ---- their numbers

pub length-sites : (k : ℕ) (list : List Node) → length (sites_from k list) ≡ length list
length-sites k [] = refl
length-sites k (x ∷ xs) = ap suc (length-sites (k + 1) xs)

pub site_at : (k i : ℕ) (list : List Node) (d : places.Site) (x : Node) → slice_get list i ≡ Some x → get_or (sites_from k list) i d ≡ placed (k + i) x
site_at k i [] d x is = absurd cc
site_at k zero (y ∷ ys) d x is = let e : y ≡ x = cc in let f : k ≡ k + 0 = omega arith in ap (λ n. placed n y) f ∙ ap (placed (k + 0)) e
site_at k (suc i) (y ∷ ys) d x is = let f : k + 1 + i ≡ k + suc i = omega arith in site_at (k + 1) i ys d x is ∙ ap (λ n. placed n x) f

-- the element at an index
pub node_at : {X : Type 0} (list : List X) (i : ℕ) → i < length list → (x : X) × (slice_get list i ≡ Some x)
node_at [] i within = absurd (omega arith)
node_at (x ∷ xs) zero within = (x, refl)
node_at (x ∷ xs) (suc i) within = node_at xs i (omega arith)

-- of all nodes of a unit
pub site_of : (unit : c.Unit) (k : ℕ) (x : Node) (d : places.Site) → slice_get (nodes unit) k ≡ Some x → get_or (sites unit) k d ≡ placed k x
site_of unit k x d is = site_at 0 k (nodes unit) d x is ∙ ap (λ n. placed n x) (zero-add k)

-- ---- as they lie in memory

-- the node at an index
pub node_of_site : (sites : List Site) (list : List Node) (k : ℕ) (site : Site) (x : Node) → map entry_of sites ≡ map part_of list → k < length sites → site ≡ get_or sites k site → slice_get list k ≡ Some x → node_of site.node ≡ x
node_of_site [] list k site x are within is at = absurd (omega arith)
node_of_site (s ∷ sites) [] k site x are within is at = absurd cc
node_of_site (s ∷ sites) (y ∷ ys) zero site x are within is at =
    let e : entry_of s ≡ part_of y = cc in
    let f : y ≡ x = cc in
    ap (λ (z : Site). node_of z.node) is ∙ ap (λ (z : Sized). z.node) e ∙ f
node_of_site (s ∷ sites) (y ∷ ys) (suc k) site x are within is at =
    let e : map entry_of sites ≡ map part_of ys = cc in node_of_site sites ys k site x e (omega arith) is at

pub long : (unit : c.Unit) (sites : List Site) → AreSitesOf sites unit → length sites ≡ length (nodes unit)
long unit sites are = sym (length-map sites entry_of) ∙ ap length are ∙ length-map (nodes unit) part_of

-- beside one that is false
pub or_false : (b : Bool) → (b || false) ≡ b
or_false true = refl
or_false false = refl
