-- Where the operands of a binary operator stand, and what parts of the nodes lie in memory.
use Rattle.std.proofs.Common.{◌≡◌, refl, sym, ap, ◌∙◌, ℕ, zero, suc, ◌+◌, ◌-◌, ◌<◌, ◌≤◌, min, List, [], ◌∷◌, ◌++◌, length, get_or, map, drop, Some, zero-add, arith}
use Rattle.std.specs.List.{slice_get}
use Rattle.std.proofs.lemmas.List.{append_assoc, length-append, length-drop}
use Rattle.lt_model.specs.declared.operator.Op.{Op}
use Rattle.lt_tree.specs.Tree as c
use Rattle.lt_tree.specs.Nodes.{Node, an_expression, in_expression, nodes}
use Rattle.lt_sites.specs.declared.site.Site.{Site}
use Rattle.lt_sites.specs.Sites.{Sized, AreSitesOf, part_of, entry_of}
use Rattle.lt_places.proofs.Parts.{unit_whole, part_at}
use Rattle.lt_places.proofs.SiteRuns.{expression_headed}
use Rattle.lt_places.proofs.Numbered.{long}

-- ---- lists

get_behind : {X : Type 0} (xs : List X) (k n : ℕ) → slice_get xs (k + n) ≡ slice_get (drop k xs) n
get_behind xs zero n = ap (slice_get xs) (zero-add n)
get_behind [] (suc k) n = refl
get_behind (x ∷ xs) (suc k) n = let e : suc k + n ≡ suc (k + n) = omega arith in ap (slice_get (x ∷ xs)) e ∙ get_behind xs k n

at_seam : {X : Type 0} (ys : List X) (y : X) (zs : List X) → slice_get (ys ++ y ∷ zs) (length ys) ≡ Some y
at_seam [] y zs = refl
at_seam (x ∷ ys) y zs = at_seam ys y zs

stands : {X : Type 0} (xs : List X) (k : ℕ) (ys : List X) (y : X) (zs : List X) → drop k xs ≡ ys ++ y ∷ zs → slice_get xs (k + length ys) ≡ Some y
stands xs k ys y zs is = get_behind xs k (length ys) ∙ ap (λ list. slice_get list (length ys)) is ∙ at_seam ys y zs

-- ---- parts

-- a part is within the nodes
pub part_fits : (unit : c.Unit) (k : ℕ) (e : c.Expression) → slice_get (nodes unit) k ≡ Some (an_expression e) → k + length (in_expression e) ≤ length (nodes unit)
part_fits unit k e is =
    let at = part_at (nodes unit) k (an_expression e) (unit_whole unit) is in
    let head : length (in_expression e) ≡ suc (length (expression_headed e).0) = ap length (expression_headed e).1 in
    let whole : length (nodes unit) - k ≡ length (in_expression e) + length at.0
    = sym (length-drop k (nodes unit)) ∙ ap length at.1 ∙ length-append (in_expression e) at.0 in
    omega (arith, head, whole)

pub record Operands (unit : c.Unit) (k : ℕ) (left right : c.Expression) : Type 0 where
  pub left_at : slice_get (nodes unit) (k + 1) ≡ Some (an_expression left)
  pub right_at : slice_get (nodes unit) (k + 1 + length (in_expression left)) ≡ Some (an_expression right)

pub operands_at : (unit : c.Unit) (k : ℕ) (op : Op) (left right : c.Expression) → slice_get (nodes unit) k ≡ Some (an_expression (c.Binary op left right)) → Operands unit k left right
operands_at unit k op left right is =
    let x = an_expression (c.Binary op left right) in
    let at = part_at (nodes unit) k x (unit_whole unit) is in
    let first = expression_headed left in
    let second = expression_headed right in
    let whole : drop k (nodes unit) ≡ x ∷ in_expression left ++ (in_expression right ++ at.0) = at.1 ∙ ap (λ list. x ∷ list) (append_assoc (in_expression left) (in_expression right) at.0) in
    let place : k + suc (length (in_expression left)) ≡ k + 1 + length (in_expression left) = omega arith in
    record {
      left_at = stands (nodes unit) k (x ∷ []) (an_expression left) (first.0 ++ (in_expression right ++ at.0)) (whole ∙ ap (λ list. x ∷ list ++ (in_expression right ++ at.0)) first.1);
      right_at = ap (slice_get (nodes unit)) (sym place)
          ∙ stands (nodes unit) k (x ∷ in_expression left) (an_expression right) (second.0 ++ at.0) (whole ∙ ap (λ list. x ∷ in_expression left ++ (list ++ at.0)) second.1);
    }

-- ---- in memory

part_of_site : (sites : List Site) (list : List Node) (k : ℕ) (site : Site) (x : Node) → map entry_of sites ≡ map part_of list → k < length sites → site ≡ get_or sites k site → slice_get list k ≡ Some x → entry_of site ≡ part_of x
part_of_site [] list k site x are within is at = absurd (omega arith)
part_of_site (s ∷ sites) [] k site x are within is at = absurd cc
part_of_site (s ∷ sites) (y ∷ ys) zero site x are within is at =
    let e : entry_of s ≡ part_of y = cc in
    let f : y ≡ x = cc in
    ap entry_of is ∙ e ∙ ap part_of f
part_of_site (s ∷ sites) (y ∷ ys) (suc k) site x are within is at =
    let e : map entry_of sites ≡ map part_of ys = cc in part_of_site sites ys k site x e (omega arith) is at

-- the number behind a part
pub behind_part : (sites : List Site) (k : ℕ) (site : Site) (size : ℕ) (unit : c.Unit) (e : c.Expression) → k < length sites → site ≡ get_or sites k site → size ≡ min site.size (length sites - k)
    → AreSitesOf sites unit → slice_get (nodes unit) k ≡ Some (an_expression e) → k + size ≡ k + length (in_expression e)
behind_part sites k site size unit e within is least are at =
    let own : site.size ≡ length (in_expression e) = ap (λ (it : Sized). it.size) (part_of_site sites (nodes unit) k site (an_expression e) are within is at) in
    let fits = part_fits unit k e at in
    omega (arith, own, fits, least, long unit sites are)
