-- Lists with an element for each node of a unit.
use Rattle.std.proofs.Common.{◌≡◌, ℕ, zero, suc, ◌+◌, ◌<◌, ◌≤◌, Bool, false, List, map, [], ◌∷◌, ◌++◌, length, take, get_or, Option, Some, None, refl, sym, ap, subst, ◌∙◌, zero-add, arith}
use Rattle.std.specs.Prelude.{option_map, slice_get}
use Rattle.std.specs.List.{flat_map}
use Rattle.std.proofs.lemmas.List.{append-nil, length-map, take_all, take_more}
use Rattle.std.proofs.lemmas.List.Concat.{flat_map-append}
use Rattle.std.proofs.lemmas.Option.{get_or_from_slice_get, slice_get-map, slice_get_read, slice_get_within}
use Rattle.lt_tree.specs.Tree as c
use Rattle.lt_tree.specs.Nodes.{Node, nodes}
use Rattle.lt_objectives.specs.Places.{Site, sites, sites_from}
use Rattle.lt_sites.specs.declared.site.Site.{Site as Held}
use Rattle.lt_sites.specs.Sites.{Sized, AreSitesOf, node_of, entry_of, part_of}
use Rattle.lt_places.proofs.Numbered as Numbered
use Rattle.lt_copies.specs.Fitting.{fits_at}
use Rattle.lt_survey.specs.Survey.{by_number}
use Rattle.lt_survey.specs.Rounds.{site}

length_from : (k : ℕ) (list : List Node) → length (sites_from k list) ≡ length list
length_from k [] = refl
length_from k (node ∷ rest) = ap suc (length_from (k + 1) rest)

pub length_sites : (unit : c.Unit) (list : List Held) → AreSitesOf list unit → length (sites unit) ≡ length list
length_sites unit list are = length_from 0 (nodes unit) ∙ sym (length-map (nodes unit) part_of) ∙ sym (ap length are) ∙ length-map list entry_of

-- a list by number is as long as that of the nodes
pub length_by_number : {A : Type 0} (unit : c.Unit) (of : ℕ → A) (list : List Held) → AreSitesOf list unit → length (by_number unit of) ≡ length list
length_by_number unit of list are = length-map (sites unit) (λ site. of site.number) ∙ length_sites unit list are

-- ---- at a number

site_from : (k n : ℕ) (list : List Node) (node : Node) → slice_get list n ≡ Some node → slice_get (sites_from k list) n ≡ Some (site (k + n) node)
site_from k n [] node is = absurd cc
site_from k zero (first ∷ rest) node is =
    let same : first ≡ node = cc in let number : k ≡ k + 0 = omega arith in ap (λ it. Some (site k it)) same ∙ ap (λ m. Some (site m node)) number
site_from k (suc n) (first ∷ rest) node is =
    let same : k + 1 + n ≡ k + suc n = omega arith in site_from (k + 1) n rest node is ∙ ap (λ m. Some (site m node)) same

pub site_at : (unit : c.Unit) (k : ℕ) (node : Node) → slice_get (nodes unit) k ≡ Some node → slice_get (sites unit) k ≡ Some (site k node)
site_at unit k node is = site_from 0 k (nodes unit) node is ∙ ap (λ m. Some (site m node)) (zero-add k)

-- what a list by number has there
pub read_by_number : {A : Type 0} (unit : c.Unit) (of : ℕ → A) (list : List A) (k : ℕ) (node : Node) (default : A) → list ≡ by_number unit of → slice_get (nodes unit) k ≡ Some node
    → get_or list k default ≡ of k
read_by_number unit of list k node default are is =
    let of_site = λ (it : Site). of it.number in
    let found : slice_get list k ≡ Some (of k)
    = ap (λ l. slice_get l k) are ∙ slice_get-map of_site (sites unit) k ∙ ap (option_map of_site) (site_at unit k node is) in
    get_or_from_slice_get list k (of k) default found

-- what a list of the parts that predicates may copy has there
pub copied_there : (unit : c.Unit) (list : List Bool) (k : ℕ) (node : Node) → list ≡ map (fits_at unit) (sites unit) → slice_get (nodes unit) k ≡ Some node
    → get_or list k false ≡ fits_at unit (site k node)
copied_there unit list k node are is =
    get_or_from_slice_get list k (fits_at unit (site k node)) false
    (ap (λ l. slice_get l k) are ∙ slice_get-map (fits_at unit) (sites unit) k ∙ ap (option_map (fits_at unit)) (site_at unit k node is))

same_part : (found : Option Node) (it : Held) → option_map part_of found ≡ Some (entry_of it) → found ≡ Some (node_of it.node)
same_part None it is = cc
same_part (Some node) it is = let same : part_of node ≡ entry_of it = cc in ap (λ (part : Sized). Some part.node) same

-- the node of a site in memory is that of the unit
pub node_at : (unit : c.Unit) (list : List Held) (k : ℕ) (it : Held) → AreSitesOf list unit → slice_get list k ≡ Some it → slice_get (nodes unit) k ≡ Some (node_of it.node)
node_at unit list k it are is =
    same_part (slice_get (nodes unit) k) it
    (sym (slice_get-map part_of (nodes unit) k) ∙ sym (ap (λ l. slice_get l k) are) ∙ slice_get-map entry_of list k ∙ ap (option_map entry_of) is)

found_part : (found : Option Held) (node : Node) → option_map entry_of found ≡ Some (part_of node) → option_map (λ (it : Held). node_of it.node) found ≡ Some node
found_part None node is = absurd cc
found_part (Some it) node is = let same : entry_of it ≡ part_of node = cc in ap (λ (part : Sized). Some part.node) same

-- the node of a number, as it lies in memory
pub node_there : (unit : c.Unit) (list : List Held) (k : ℕ) (node : Node) → AreSitesOf list unit → slice_get (nodes unit) k ≡ Some node
    → option_map (λ (it : Held). node_of it.node) (slice_get list k) ≡ Some node
node_there unit list k node are is =
    found_part (slice_get list k) node
    (sym (slice_get-map entry_of list k) ∙ ap (λ l. slice_get l k) are ∙ slice_get-map part_of (nodes unit) k ∙ ap (option_map part_of) is)

-- there is a node
pub node_before : (unit : c.Unit) (list : List Held) (k : ℕ) → AreSitesOf list unit → k < length list → (node : Node) × (slice_get (nodes unit) k ≡ Some node)
node_before unit list k are within = Numbered.node_at (nodes unit) k (subst (λ n. k < n) (Numbered.long unit list are) within)

-- ---- of the nodes before a number

one_more : {A : Type 0} (list : List A) (k : ℕ) (it : A) → slice_get list k ≡ Some it → take (k + 1) list ≡ take k list ++ it ∷ []
one_more list k it is =
    take_more list k it (slice_get_within list k it is) ∙ ap (λ last. take k list ++ last ∷ []) (get_or_from_slice_get list k it it is)

pub more_sites : {A : Type 0} (of : Site → List A) (unit : c.Unit) (k : ℕ) (node : Node) → slice_get (nodes unit) k ≡ Some node
    → flat_map of (take (k + 1) (sites unit)) ≡ flat_map of (take k (sites unit)) ++ of (site k node)
more_sites of unit k node is =
    ap (flat_map of) (one_more (sites unit) k (site k node) (site_at unit k node is))
    ∙ flat_map-append of (take k (sites unit)) (site k node ∷ []) ∙ ap (λ last. flat_map of (take k (sites unit)) ++ last) (append-nil (of (site k node)))

pub all_sites : {A : Type 0} (of : Site → List A) (unit : c.Unit) (list : List Held) (k : ℕ) → AreSitesOf list unit → length list ≤ k
    → flat_map of (take k (sites unit)) ≡ flat_map of (sites unit)
all_sites of unit list k are past =
    let count = length_sites unit list are in let beyond : length (sites unit) ≤ k = omega arith in ap (flat_map of) (take_all k (sites unit) beyond)

pub node_read : (unit : c.Unit) (list items : List Held) (k : ℕ) (it : Held) → AreSitesOf items unit → list ≡ items → k < length list → it ≡ get_or list k it
    → slice_get (nodes unit) k ≡ Some (node_of it.node)
node_read unit list items k it are same within is = node_at unit items k it are (ap (λ l. slice_get l k) (sym same) ∙ slice_get_read list (length list) k it refl within is)
