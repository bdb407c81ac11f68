-- Where nodes stand in the list of a unit.
use Rattle.std.proofs.Common.{◌≡◌, refl, sym, ap, ◌∙◌, ℕ, suc, ◌+◌, ◌-◌, ◌<◌, ◌≤◌, List, [], ◌∷◌, ◌++◌, length, get_or, drop, Some, append_assoc, length-append, length-drop, map, arith}
use Rattle.std.specs.Prelude.{slice_get, option_map}
use Rattle.std.proofs.lemmas.List.{length-map, map-append, drop-map, drop-drop, get_or-drop}
use Rattle.std.proofs.Math.ListN.{get_or-map}
use Rattle.std.proofs.lemmas.Option.{slice_get-map, get_or_from_slice_get}
use Rattle.lt_tree.specs.Tree as c
use Rattle.lt_tree.specs.Nodes.{Node, nodes}
use Rattle.lt_sites.specs.declared.site.Site.{Site}
use Rattle.lt_sites.specs.Sites.{Sized, in_node, part_of, entry_of, AreSitesOf}
use Rattle.lt_decisions.specs.Walk.{Stand}
use Rattle.lt_decisions.proofs.Closed.{part_begins}
use Rattle.lt_decisions.proofs.Parts.{unit_is_closed}

-- the part of a unit's node
pub stand_at : (list : List Site) (unit : c.Unit) (k : ℕ) (node : Node) → AreSitesOf list unit → slice_get (nodes unit) k ≡ Some node → Stand list k (in_node node)
stand_at list unit k node are e =
    let part = part_begins (unit_is_closed unit) k node e in
    record {
      behind = map part_of part.0;
      is_there = ap (drop k) are ∙ drop-map part_of k (nodes unit) ∙ ap (map part_of) part.1 ∙ map-append part_of (in_node node) part.0;
    }

-- its entry
pub entry_at : (list : List Site) (unit : c.Unit) (k : ℕ) (node : Node) (d : Site) → AreSitesOf list unit → slice_get (nodes unit) k ≡ Some node →
    entry_of (get_or list k d) ≡ part_of node
entry_at list unit k node d are e =
    let found : slice_get (map entry_of list) k ≡ Some (part_of node) =
    ap (λ zs. slice_get zs k) are ∙ slice_get-map part_of (nodes unit) k ∙ ap (option_map part_of) e in
    sym (get_or-map entry_of list k d) ∙ get_or_from_slice_get (map entry_of list) k (part_of node) (entry_of d) found

pub front : {list : List Site} {k : ℕ} (xs ys : List Node) → Stand list k (xs ++ ys) → Stand list k xs
front xs ys s = record {
  behind = map part_of ys ++ s.behind;
  is_there = s.is_there ∙ ap (λ zs. zs ++ s.behind) (map-append part_of xs ys) ∙ append_assoc (map part_of xs) (map part_of ys) s.behind;
}

past : (xs : List Node) (zs : List Sized) → drop (length xs) (map part_of xs ++ zs) ≡ zs
past [] zs = refl
past (x ∷ xs) zs = past xs zs

pub back : {list : List Site} {k : ℕ} (xs ys : List Node) → Stand list k (xs ++ ys) → Stand list (k + length xs) ys
back {list} {k} xs ys s = record {
  behind = s.behind;
  is_there =
      sym (drop-drop (length xs) k (map entry_of list)) ∙ ap (drop (length xs)) (s.is_there ∙ ap (λ zs. zs ++ s.behind) (map-append part_of xs ys) ∙ append_assoc (map part_of xs) (map part_of ys) s.behind)
      ∙ past xs (map part_of ys ++ s.behind);
}

rest_of : {list : List Site} {k : ℕ} (xs : List Node) (s : Stand list k xs) → length list - k ≡ length xs + length s.behind
rest_of {list} {k} xs s =
    ap (λ n. n - k) (sym (length-map list entry_of)) ∙ sym (length-drop k (map entry_of list)) ∙ ap length s.is_there ∙ length-append (map part_of xs) s.behind
    ∙ ap (λ n. n + length s.behind) (length-map xs part_of)

pub within : {list : List Site} {k : ℕ} {x : Node} {xs : List Node} → Stand list k (x ∷ xs) → k < length list
within {list} {k} {x} {xs} s =
    let rest : length list - k ≡ suc (length xs) + length s.behind = rest_of (x ∷ xs) s in
    omega arith

pub head : {list : List Site} {k : ℕ} {x : Node} {xs : List Node} → (d : Site) → Stand list k (x ∷ xs) → entry_of (get_or list k d) ≡ part_of x
head {list} {k} {x} {xs} d s =
    let same : k ≡ k + 0 = omega arith in
    sym (get_or-map entry_of list k d) ∙ ap (λ n. get_or (map entry_of list) n (entry_of d)) same ∙ sym (get_or-drop k (map entry_of list) 0 (entry_of d))
    ∙ ap (λ zs. get_or zs 0 (entry_of d)) s.is_there

pub tail : {list : List Site} {k : ℕ} {x : Node} {xs : List Node} → Stand list k (x ∷ xs) → Stand list (k + 1) xs
tail {list} {k} {x} {xs} s = record {
  behind = s.behind;
  is_there = sym (drop-drop 1 k (map entry_of list)) ∙ ap (drop 1) s.is_there;
}

pub fits : {list : List Site} {k : ℕ} (xs : List Node) → Stand list k xs → k ≤ length list → k + length xs ≤ length list
fits {list} {k} xs s h =
    let rest : length list - k ≡ length xs + length s.behind = rest_of xs s in
    omega arith
