-- Sites that begin with the nodes of a part.
use Rattle.std.proofs.Common.{◌≡◌, refl, sym, ap, subst, ◌∙◌, ℕ, ◌+◌, List, [], ◌∷◌, ◌++◌, length, map, drop, Some}
use Rattle.std.specs.List.{slice_get}
use Rattle.std.proofs.lemmas.List.{append_assoc, drop-map, drop_at, length-map, length-append}
use Rattle.lt_tree.specs.Tree as c
use Rattle.lt_tree.specs.Nodes.{Node, an_expression, a_mark, in_expression, in_bindings, nodes}
use Rattle.lt_sites.specs.declared.site.Site.{Site}
use Rattle.lt_sites.specs.Sites.{Sized, in_node, part_of, entry_of, AreSitesOf}
use Rattle.lt_places.proofs.Parts.{unit_whole, part_at}

-- the sites are those of these nodes, and others
pub record BeginWith (sites : List Site) (run : List Node) : Type 0 where
  pub behind : List Node
  pub are : map entry_of sites ≡ map part_of (run ++ behind)

-- from a node's number on
pub begin_at : (sites : List Site) (unit : c.Unit) (k : ℕ) (x : Node) → AreSitesOf sites unit → slice_get (nodes unit) k ≡ Some x → BeginWith (drop k sites) (in_node x)
begin_at sites unit k x are is =
    let at = part_at (nodes unit) k x (unit_whole unit) is in
    record { behind = at.0; are = sym (drop-map entry_of k sites) ∙ ap (drop k) are ∙ drop-map part_of k (nodes unit) ∙ ap (map part_of) at.1 }

pub begin_front : (sites : List Site) (a b : List Node) → BeginWith sites (a ++ b) → BeginWith sites a
begin_front sites a b h = record { behind = b ++ h.behind; are = h.are ∙ ap (map part_of) (append_assoc a b h.behind) }

pub begin_behind : (sites : List Site) (a b : List Node) → BeginWith sites (a ++ b) → BeginWith (drop (length a) sites) b
begin_behind sites a b h = record {
  behind = h.behind;
  are = sym (drop-map entry_of (length a) sites) ∙ ap (drop (length a)) h.are ∙ drop-map part_of (length a) ((a ++ b) ++ h.behind) ∙
      ap (λ xs. map part_of (drop (length a) xs)) (append_assoc a b h.behind) ∙ ap (map part_of) (drop_at a (b ++ h.behind) (length a) refl);
}

pub begin_first : (site : Site) (sites : List Site) (x : Node) (run : List Node) → BeginWith (site ∷ sites) (x ∷ run) → entry_of site ≡ part_of x
begin_first site sites x run h = let e : entry_of site ∷ map entry_of sites ≡ part_of x ∷ map part_of (run ++ h.behind) = h.are in cc

pub begin_next : (site : Site) (sites : List Site) (x : Node) (run : List Node) → BeginWith (site ∷ sites) (x ∷ run) → BeginWith sites run
begin_next site sites x run h =
    let e : entry_of site ∷ map entry_of sites ≡ part_of x ∷ map part_of (run ++ h.behind) = h.are in
    let f : map entry_of sites ≡ map part_of (run ++ h.behind) = cc in
    record { behind = h.behind; are = f }

pub none_begin : (x : Node) (run : List Node) → BeginWith [] (x ∷ run) → ⊥
none_begin x run h = let e : [] ≡ part_of x ∷ map part_of (run ++ h.behind) = h.are in cc

pub begin_length : (sites : List Site) (run : List Node) → BeginWith sites run → (n : ℕ) × (length sites ≡ length run + n)
begin_length sites run h = (length h.behind, sym (length-map sites entry_of) ∙ ap length h.are ∙ length-map (run ++ h.behind) part_of ∙ length-append run h.behind)

-- the first of these sites says how many nodes the part has that begins there
pub part_size : (x : Node) (inside : List Node) (site : Site) (sites : List Site) (run : List Node) → in_node x ≡ x ∷ inside → BeginWith (site ∷ sites) (in_node x ++ run) → site.size ≡ length (in_node x)
part_size x inside site sites run headed h =
    let f : BeginWith (site ∷ sites) (x ∷ inside ++ run) = subst (λ xs. BeginWith (site ∷ sites) (xs ++ run)) headed h in
    ap (λ (s : Sized). s.size) (begin_first site sites x (inside ++ run) f)

pub some_begin : (x : Node) (inside run : List Node) → in_node x ≡ x ∷ inside → BeginWith [] (in_node x ++ run) → ⊥
some_begin x inside run headed h = none_begin x (inside ++ run) (subst (λ xs. BeginWith [] (xs ++ run)) headed h)

-- expressions and marks are the first nodes of their parts
pub expression_headed : (e : c.Expression) → (inside : List Node) × (in_node (an_expression e) ≡ an_expression e ∷ inside)
expression_headed (c.Name w) = ([], refl)
expression_headed e = (drop 1 (in_expression e), refl)

pub mark_headed : (m : c.Mark) → (inside : List Node) × (in_node (a_mark m) ≡ a_mark m ∷ inside)
mark_headed (c.mark e id tag bound) = (in_expression e ++ in_bindings bound, refl)
