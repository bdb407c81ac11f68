-- The nodes of a text that count, of two parts of it that stand side by side.
use Rattle.std.proofs.Common.{◌≡◌, refl, ap, ℕ, ◌+◌, max, List, [], ◌∷◌, ◌++◌, length, map, arith, append_assoc, length-append}
use Rattle.std.specs.List.{flat_map, filter, fold}
use Rattle.std.proofs.lemmas.Grind.{flat_map-append}
use Rattle.std.proofs.lemmas.List.{map-append}
use Rattle.std.proofs.lemmas.List.Sums.{fold-append}
use Rattle.std.proofs.lemmas.List.Elements.{filter-append}
use Rattle.lt_tree.specs.Tree as c
use Rattle.lt_tree.specs.Nodes.{Node, a_mark, in_mark, in_expression, in_bindings}
use Rattle.lt_tree.specs.Typing.Entities.{Function}
use Rattle.lt_code.specs.Sizes.{outside_marks, below_mark, full_at, nodes_of_full, is_loop, called_at}

abbrev pub counted : List Node → List Node
counted ns = outside_marks 0 ns

-- What stands behind a whole text counts as it does alone.
abbrev pub IsWhole : List Node → Type 0
IsWhole ns = (rest : List Node) → counted (ns ++ rest) ≡ counted ns ++ counted rest

pub empty_whole : IsWhole []
empty_whole rest = refl

pub node_whole : (n : Node) (ns : List Node) → below_mark n ≡ 0 → IsWhole ns → IsWhole (n ∷ ns)
node_whole n ns e w rest = rw e (ap (λ xs. n ∷ xs) (w rest))

pub both_whole : (xs ys : List Node) → IsWhole xs → IsWhole ys → IsWhole (xs ++ ys)
both_whole xs ys p q rest = rw (append_assoc, p (ys ++ rest), q rest, p ys, append_assoc)

skipped : (xs ys : List Node) → outside_marks (length xs) (xs ++ ys) ≡ counted ys
skipped [] ys = refl
skipped (x ∷ xs) ys = skipped xs ys

skipped_all : (xs : List Node) → outside_marks (length xs) xs ≡ []
skipped_all [] = refl
skipped_all (x ∷ xs) = skipped_all xs

-- a mark counts as one node
pub marked : (m : c.Mark) → counted (in_mark m) ≡ a_mark m ∷ []
marked (c.mark predicate id tag bound) = ap (λ xs. a_mark (c.mark predicate id tag bound) ∷ xs) (skipped_all (in_expression predicate ++ in_bindings bound))

behind_mark : (xs rest : List Node) → outside_marks (length xs) (xs ++ rest) ≡ outside_marks (length xs) xs ++ counted rest
behind_mark xs rest = rw (skipped xs rest, skipped_all xs) refl

pub mark_whole : (m : c.Mark) → IsWhole (in_mark m)
mark_whole (c.mark predicate id tag bound) rest =
    ap (λ xs. a_mark (c.mark predicate id tag bound) ∷ xs) (behind_mark (in_expression predicate ++ in_bindings bound) rest)

-- ---- what goes into sizes

abbrev pub count : List Node → ℕ
count ns = length (counted ns)

abbrev pub largest : List Node → ℕ
largest ns = fold max 0 (map nodes_of_full (flat_map full_at (counted ns)))

abbrev pub loops : List Node → ℕ
loops ns = length (filter is_loop (counted ns))

abbrev pub calls : List Function → List Node → List ℕ
calls functions ns = flat_map (called_at functions) (counted ns)

pub count_both : (xs ys : List Node) → IsWhole xs → count (xs ++ ys) ≡ count xs + count ys
count_both xs ys w = rw (w ys, length-append)

pub loops_both : (xs ys : List Node) → IsWhole xs → loops (xs ++ ys) ≡ loops xs + loops ys
loops_both xs ys w = rw (w ys, filter-append, length-append)

pub calls_both : (functions : List Function) (xs ys : List Node) → IsWhole xs → calls functions (xs ++ ys) ≡ calls functions xs ++ calls functions ys
calls_both functions xs ys w = rw (w ys, flat_map-append)

pub from_any : (a : ℕ) (ns : List ℕ) → fold max a ns ≡ max a (fold max 0 ns)
from_any a [] = omega arith
from_any a (n ∷ ns) = omega (arith, from_any (max a n) ns, from_any (max 0 n) ns)

pub largest_both : (xs ys : List Node) → IsWhole xs → largest (xs ++ ys) ≡ max (largest xs) (largest ys)
largest_both xs ys w =
    rw (w ys, flat_map-append, map-append, fold-append) (from_any (largest xs) (map nodes_of_full (flat_map full_at (counted ys))))

-- the full expressions of a node, and those behind it
pub largest_behind : (n : Node) (ns : List Node) → below_mark n ≡ 0 → largest (n ∷ ns) ≡ max (fold max 0 (map nodes_of_full (full_at n))) (largest ns)
largest_behind n ns e = rw (e, map-append, fold-append) (from_any (fold max 0 (map nodes_of_full (full_at n))) (map nodes_of_full (flat_map full_at (counted ns))))
