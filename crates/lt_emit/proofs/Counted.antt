-- What a node costs that is emitted, and a tick whose successor is set at last.
use Rattle.std.proofs.Common.{◌≡◌, ℕ, zero, suc, ◌+◌, ◌≤◌, max, true, not, nat_lt, List, [], ◌∷◌, ◌++◌, length, set, Some, slice_get, refl, sym, ap, subst, ◌∙◌, arith}
use Rattle.std.specs.List.{filter, list_all}
use Rattle.std.specs.Option.{option_to_list}
use Rattle.std.proofs.lemmas.Grind.{common_steps, flat_map-append}
use Rattle.std.proofs.lemmas.List.{length-set, length-append}
use Rattle.lt_ir.specs.declared.node.Node.{Node}
use Rattle.lt_ir.specs.declared.node.Node.TheVariants as node
use Rattle.lt_ir.specs.Edges.{successors}
use Rattle.lt_code.specs.Bounds.{callee}
use Rattle.lt_code.specs.Costs.{alone, turn, callees}
use Rattle.lt_emit.specs.declared.builder.Builder.{Builder}
use Rattle.lt_emit.specs.Turning.{LeadsBelow}
use Rattle.lt_emit.specs.Spending.{needs, back_to, loop_heads, called, Spends, of_node}
use Rattle.lt_emit.proofs.Emitted.{longer}
use Rattle.lt_emit.proofs.Spent.{called_both, called_none}

-- ---- a node more

callees_last : (nodes : List Node) (it : Node) → callees (nodes ++ it ∷ []) ≡ callees nodes ++ (option_to_list (callee it) ++ [])
callees_last nodes it = flat_map-append (λ n. option_to_list (callee n)) nodes (it ∷ [])

heads_last : (e k : ℕ) (nodes : List Node) (it : Node) → k ≡ e + length nodes
    → length (loop_heads e (nodes ++ it ∷ [])) ≡ length (loop_heads e nodes) + length (back_to k it)
heads_last e k [] it is =
    let same : e ≡ k = omega (arith, is) in
    omega (arith, length-append (back_to e it) [], ap (λ n. length (back_to n it)) same)
heads_last e k (first ∷ nodes) it is =
    omega (
      arith,
      length-append (back_to e first) (loop_heads (suc e) (nodes ++ it ∷ [])),
      length-append (back_to e first) (loop_heads (suc e) nodes),
      heads_last (suc e) k nodes it (omega (arith, is)),
    )

below_none : (e : ℕ) (points : List ℕ) → list_all (λ point. nat_lt point e) points ≡ true → length (filter (λ to. not (nat_lt to e)) points) ≡ 0
below_none e [] all = refl
below_none e (point ∷ points) all = grind (arith, common_steps, below_none e points)

one_back : (e next : ℕ) → length (back_to e (node.Tick next)) ≤ 1
one_back e next = grind (arith, common_steps)

self_back : (e : ℕ) → length (back_to e (node.Tick e)) ≡ 1
self_back e = grind (arith, common_steps)

counted :
    (a b : Builder) (it : Node) (most : ℕ) → b.nodes.items ≡ a.nodes.items ++ it ∷ [] → length (back_to (length a.nodes.items) it) ≤ most
    → b.registers ≤ max a.registers (needs it)
    → Spends (record (of_node it) { loops = most }) a b
counted a b it most nodes back registers = record {
  nodes = omega (arith, ap length nodes, longer a.nodes.items it);
  registers = registers;
  loops = omega (arith, ap (λ row. length (loop_heads 0 row)) nodes, heads_last 0 (length a.nodes.items) a.nodes.items it (omega arith), back);
  calls = λ f.
      omega (
        arith,
        ap (λ row. called f (callees row)) nodes,
        ap (called f) (callees_last a.nodes.items it),
        called_both f (callees a.nodes.items) (option_to_list (callee it) ++ []),
        called_both f (option_to_list (callee it)) [],
        called_none f,
      );
}

pub emitted_spends :
    (a b : Builder) (it : Node) → b.nodes.items ≡ a.nodes.items ++ it ∷ [] → b.registers ≤ max a.registers (needs it)
    → LeadsBelow (length a.nodes.items) it → Spends (of_node it) a b
emitted_spends a b it nodes registers leads =
    counted a b it 0 nodes (omega (arith, below_none (length a.nodes.items) (successors it) leads)) registers

pub reserved_spends :
    (a b : Builder) (hole : ℕ) → b.nodes.items ≡ a.nodes.items ++ node.Tick hole ∷ [] → b.registers ≤ a.registers → Spends turn a b
reserved_spends a b hole nodes registers =
    let spends = counted a b (node.Tick hole) 1 nodes (one_back (length a.nodes.items) hole) (omega (arith, registers)) in
    record { nodes = spends.nodes; registers = spends.registers; loops = spends.loops; calls = spends.calls }

-- ---- a tick whose successor is set

pub heads_set : (e k at : ℕ) (nodes : List Node) (it now : Node) → at ≡ e + k → slice_get nodes k ≡ Some it
    → length (back_to at now) ≤ length (back_to at it) → length (loop_heads e (set nodes k now)) ≤ length (loop_heads e nodes)
heads_set e k at [] it now is there fewer = absurd (cc)
heads_set e zero at (first ∷ nodes) it now is there fewer =
    let this : first ≡ it = cc in
    let here : at ≡ e = omega (arith, is) in
    let Fewer : ℕ → Node → Type 0 = λ n old. length (back_to n now) ≤ length (back_to n old) in
    let at_first : length (back_to e now) ≤ length (back_to e first) = subst (λ n. Fewer n first) here (subst (Fewer at) (sym this) fewer) in
    omega (arith, length-append (back_to e now) (loop_heads (suc e) nodes), length-append (back_to e first) (loop_heads (suc e) nodes), at_first)
heads_set e (suc k) at (first ∷ nodes) it now is there fewer =
    omega (
      arith,
      length-append (back_to e first) (loop_heads (suc e) (set nodes k now)),
      length-append (back_to e first) (loop_heads (suc e) nodes),
      heads_set (suc e) k at nodes it now (omega (arith, is)) there fewer,
    )

pub callees_set : (nodes : List Node) (k : ℕ) (it now : Node) → slice_get nodes k ≡ Some it → callee now ≡ callee it
    → callees (set nodes k now) ≡ callees nodes
callees_set [] k it now there same = absurd (cc)
callees_set (first ∷ nodes) zero it now there same =
    let this : first ≡ it = cc in
    ap (λ f. option_to_list f ++ callees nodes) (same ∙ ap callee (sym this))
callees_set (first ∷ nodes) (suc k) it now there same = ap (λ row. option_to_list (callee first) ++ row) (callees_set nodes k it now there same)

pub patched_spends :
    (a b : Builder) (hole to : ℕ) → b.nodes.items ≡ set a.nodes.items hole (node.Tick to) → b.registers ≡ a.registers
    → slice_get a.nodes.items hole ≡ Some (node.Tick hole) → Spends (alone 0) a b
patched_spends a b hole to nodes registers there = record {
  nodes = omega (arith, ap length nodes, length-set a.nodes.items hole (node.Tick to));
  registers = omega (arith, registers);
  loops = omega (
    arith,
    ap (λ row. length (loop_heads 0 row)) nodes,
    heads_set 0 hole hole a.nodes.items (node.Tick hole) (node.Tick to) (omega arith) there (omega (arith, one_back hole to, self_back hole)),
  );
  calls = λ f. omega (
    arith,
    ap (λ row. called f (callees row)) nodes,
    ap (called f) (callees_set a.nodes.items hole (node.Tick hole) (node.Tick to) there refl),
  );
}
