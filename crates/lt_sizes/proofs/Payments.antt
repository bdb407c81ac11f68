-- Costs that the nodes of a text pay for, and the characters that string literals initialise.
use Rattle.std.proofs.Common.{◌≡◌, refl, ℕ, ◌+◌, ◌*◌, ◌≤◌, max, List, [], ◌∷◌, ◌++◌, length, map, Bool, true, false, cond, arith, append_assoc}
use Rattle.std.specs.List.{filter, fold, sum_by}
use Rattle.std.proofs.lemmas.List.Sums.{sum_by-append}
use Rattle.lt_tree.specs.Nodes.{Node}
use Rattle.lt_tree.specs.Typing.TypedTree.{StartPart, Local}
use Rattle.lt_tree.specs.Typing.Entities.{Function}
use Rattle.lt_code.specs.Sizes.{below_mark, full_at, nodes_of_full, is_loop, called_at, letters_in_part, letters_in_local}
use Rattle.lt_code.specs.Costs.{Cost, alone, ◌⊕◌, of_parts, of_locals}
use Rattle.lt_sizes.proofs.Among as among
use Rattle.lt_sizes.proofs.Among.{IsPartOf}
use Rattle.lt_sizes.proofs.Texts.{counted, count, largest, loops, calls, IsWhole, count_both, largest_both, loops_both, calls_both, largest_behind}

pub record IsPaidBy (functions : List Function) (ns : List Node) (letters : ℕ) (cost : Cost) : Type 0 where
  pub nodes : cost.nodes ≤ 8 * count ns + 8 * letters
  pub registers : cost.registers ≤ 4 * largest ns
  pub loops : cost.loops ≤ loops ns
  pub among : IsPartOf cost.calls (calls functions ns)

pub free : (functions : List Function) (ns : List Node) → IsPaidBy functions ns 0 (alone 0)
free functions ns = record { nodes = omega arith; registers = omega arith; loops = omega arith; among = among.nothing (calls functions ns) }

-- one text beside another
pub side_by_side : {functions : List Function} {l m : ℕ} {a b : Cost} (xs ys : List Node) → IsWhole xs → IsPaidBy functions xs l a → IsPaidBy functions ys m b → IsPaidBy functions (xs ++ ys) (l + m) (a ⊕ b)
side_by_side {functions} {l} {m} {a} {b} xs ys w p q = record {
  nodes = rw (count_both xs ys w) (omega arith);
  registers = rw (largest_both xs ys w) (omega arith);
  loops = rw (loops_both xs ys w) (omega arith);
  among = rw (calls_both functions xs ys w) (among.beside p.among q.among);
}

-- text that costs nothing
pub behind_text : {functions : List Function} {l : ℕ} {a : Cost} (xs ys : List Node) → IsWhole xs → IsPaidBy functions ys l a → IsPaidBy functions (xs ++ ys) l a
behind_text {functions} xs ys w p = record {
  nodes = rw (count_both xs ys w) (omega arith);
  registers = rw (largest_both xs ys w) (omega arith);
  loops = rw (loops_both xs ys w) (omega arith);
  among = rw (calls_both functions xs ys w) (among.behind (calls functions xs) p.among);
}

-- the full expressions and the loop of one node
abbrev pub largest_at : Node → ℕ
largest_at n = fold max 0 (map nodes_of_full (full_at n))

abbrev pub loops_at : Node → ℕ
loops_at n = length (filter is_loop (n ∷ []))

-- What costs more than the text behind a node pays, by so much as the node pays.
pub record IsPaidWith (n : Node) (behind cost : Cost) : Type 0 where
  pub nodes : cost.nodes ≤ 8 + behind.nodes
  pub registers : cost.registers ≤ max (4 * largest_at n) behind.registers
  pub loops : cost.loops ≤ loops_at n + behind.loops
  pub calls : cost.calls ≡ behind.calls

loops_beside : (b : Bool) (n : Node) (ns : List Node) → length (cond b (n ∷ ns) ns) ≡ length (cond b (n ∷ []) []) + length ns
loops_beside true n ns = omega arith
loops_beside false n ns = omega arith

loops_behind : (n : Node) (ns : List Node) → below_mark n ≡ 0 → loops (n ∷ ns) ≡ loops_at n + loops ns
loops_behind n ns e = rw e (loops_beside (is_loop n) n (filter is_loop (counted ns)))

pub node_pays : {functions : List Function} {l : ℕ} {behind cost : Cost} (n : Node) (ns : List Node) → below_mark n ≡ 0
    → IsPaidBy functions ns l behind → IsPaidWith n behind cost → IsPaidBy functions (n ∷ ns) l cost
node_pays {functions} {l} {behind} {cost} n ns e p w = record {
  nodes = rw e (omega arith);
  registers = rw (largest_behind n ns e) (omega arith);
  loops = rw (loops_behind n ns e) (omega arith);
  among = rw (e, w.calls) (among.behind (called_at functions n) p.among);
}

-- the same cost, put together in another way, for as many letters
pub same_cost : {functions : List Function} {ns : List Node} {l m : ℕ} {a b : Cost} → b.nodes ≡ a.nodes → b.registers ≡ a.registers → b.loops ≡ a.loops → b.calls ≡ a.calls → m ≡ l
    → IsPaidBy functions ns l a → IsPaidBy functions ns m b
same_cost {functions} h i j k same p = record { nodes = omega arith; registers = omega arith; loops = omega arith; among = rw k p.among }

-- ---- parts and locals

module _ (functions : List Function) where
  pub parts_beside : {ns : List Node} (xs ys : List StartPart) → IsPaidBy functions ns (sum_by letters_in_part xs + sum_by letters_in_part ys) (of_parts functions xs ⊕ of_parts functions ys)
      → IsPaidBy functions ns (sum_by letters_in_part (xs ++ ys)) (of_parts functions (xs ++ ys))
  parts_beside xs ys p = same_cost (nodes xs ys) (registers xs ys) (loops xs ys) (calls xs ys) (sum_by-append letters_in_part xs ys) p
    where
      nodes : (xs ys : List StartPart) → (of_parts functions (xs ++ ys)).nodes ≡ (of_parts functions xs).nodes + (of_parts functions ys).nodes
      nodes [] ys = omega arith
      nodes (x ∷ xs) ys = omega (arith, nodes xs ys)

      registers : (xs ys : List StartPart) → (of_parts functions (xs ++ ys)).registers ≡ max (of_parts functions xs).registers (of_parts functions ys).registers
      registers [] ys = omega arith
      registers (x ∷ xs) ys = omega (arith, registers xs ys)

      loops : (xs ys : List StartPart) → (of_parts functions (xs ++ ys)).loops ≡ (of_parts functions xs).loops + (of_parts functions ys).loops
      loops [] ys = omega arith
      loops (x ∷ xs) ys = omega (arith, loops xs ys)

      calls : (xs ys : List StartPart) → (of_parts functions (xs ++ ys)).calls ≡ (of_parts functions xs).calls ++ (of_parts functions ys).calls
      calls [] ys = refl
      calls (x ∷ xs) ys = rw (calls xs ys) (simp append_assoc)

  pub locals_beside : {ns : List Node} (xs ys : List Local) → IsPaidBy functions ns (sum_by letters_in_local xs + sum_by letters_in_local ys) (of_locals functions xs ⊕ of_locals functions ys)
      → IsPaidBy functions ns (sum_by letters_in_local (xs ++ ys)) (of_locals functions (xs ++ ys))
  locals_beside xs ys p = same_cost (nodes xs ys) (registers xs ys) (loops xs ys) (calls xs ys) (sum_by-append letters_in_local xs ys) p
    where
      nodes : (xs ys : List Local) → (of_locals functions (xs ++ ys)).nodes ≡ (of_locals functions xs).nodes + (of_locals functions ys).nodes
      nodes [] ys = omega arith
      nodes (x ∷ xs) ys = omega (arith, nodes xs ys)

      registers : (xs ys : List Local) → (of_locals functions (xs ++ ys)).registers ≡ max (of_locals functions xs).registers (of_locals functions ys).registers
      registers [] ys = omega arith
      registers (x ∷ xs) ys = omega (arith, registers xs ys)

      loops : (xs ys : List Local) → (of_locals functions (xs ++ ys)).loops ≡ (of_locals functions xs).loops + (of_locals functions ys).loops
      loops [] ys = omega arith
      loops (x ∷ xs) ys = omega (arith, loops xs ys)

      calls : (xs ys : List Local) → (of_locals functions (xs ++ ys)).calls ≡ (of_locals functions xs).calls ++ (of_locals functions ys).calls
      calls [] ys = refl
      calls (x ∷ xs) ys = rw (calls xs ys) (simp append_assoc)
