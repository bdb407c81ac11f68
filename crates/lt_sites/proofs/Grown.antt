-- How a list grows by nodes before it.
use Rattle.std.proofs.Common.{◌≡◌, refl, sym, ap, subst, ◌∙◌, ℕ, suc, ◌+◌, ◌-◌, ◌<◌, ◌≤◌, List, [], ◌∷◌, ◌++◌, length, drop, get_or, drop-cons, Result, arith}
use Rattle.std.specs.Result.{IfOk}
use Rattle.std.proofs.Math.Seq.{drop-length}
use Rattle.lt_tree.specs.Nodes.{Node}
use Rattle.lt_sites.specs.Sites.{Sized, part_of, in_node, head_of}
use Rattle.lt_sites.specs.Listed.{listed}

pub listed_none : (later : List Sized) → listed [] later ≡ later
unfolding listed
listed_none later = refl

pub listed_one : (node : Node) (nodes : List Node) (later : List Sized) → listed (node ∷ nodes) later ≡ part_of node ∷ listed nodes later
unfolding listed
listed_one node nodes later = refl

-- nodes before others, which are before what was listed
pub both : (nodes others : List Node) (later : List Sized) → listed (nodes ++ others) later ≡ listed nodes (listed others later)
both [] others later = sym (listed_none (listed others later))
both (node ∷ nodes) others later =
    listed_one node (nodes ++ others) later ∙ ap (λ sites. part_of node ∷ sites) (both nodes others later) ∙ sym (listed_one node nodes (listed others later))

grown : (nodes : List Node) (later : List Sized) → length (listed nodes later) ≡ length nodes + length later
grown [] later = ap length (listed_none later) ∙ omega arith
grown (node ∷ nodes) later = omega (arith, ap length (listed_one node nodes later), grown nodes later)

pub no_fewer : (nodes : List Node) (before now : List Sized) (start : ℕ) → now ≡ listed nodes before → start ≡ length before → start ≤ length now
no_fewer nodes before now start then from = omega (arith, ap length then, grown nodes before)

-- how many came
pub came : (nodes : List Node) (before now : List Sized) (start : ℕ) → now ≡ listed nodes before → start ≡ length before → length now - start ≡ length nodes
came nodes before now start then from = omega (arith, ap length then, grown nodes before)

-- A node that was put before what is inside of it.
pub left : (node : Node) (within : List Node) (before now : List Sized) (start head : ℕ) → in_node node ≡ node ∷ within → now ≡ listed within before → start ≡ length before → head ≡ head_of node
    → record { node = node; size = length now - start + 1; head = head } ∷ now ≡ listed (in_node node) before
left node within before now start head is then from first =
    let size : length now - start + 1 ≡ length (in_node node) = omega (arith, ap length is, came within before now start then from) in
    cc (size, first, then, ap (λ nodes. listed nodes before) is, listed_one node within before)

-- ---- answers

-- the answer of a call that ensures the same
pub ok_then : {A E : Type 0} (r : Result A E) (now : List Sized) {a b : List Sized} → IfOk r (λ _. now ≡ a) → a ≡ b → IfOk r (λ _. now ≡ b)
ok_then r now h e = subst (λ (y : List Sized). IfOk r (λ _. now ≡ y)) e h

-- Two parts, of which the last was listed first.
pub two : (nodes others : List Node) (before middle : List Sized) → middle ≡ listed others before → listed nodes middle ≡ listed (nodes ++ others) before
two nodes others before middle then = ap (listed nodes) then ∙ sym (both nodes others before)

-- ---- rows, from the end to the front

pub at_end : {X : Type 0} (nodes : List X → List Node) (list : List X) (at : ℕ) (before : List Sized) → at ≡ length list → nodes [] ≡ [] → before ≡ listed (nodes (drop at list)) before
at_end nodes list at before last none =
    sym (ap (λ n. listed (nodes (drop n list)) before) last ∙ ap (λ xs. listed (nodes xs) before) (drop-length list) ∙ ap (λ ns. listed ns before) none ∙ listed_none before)

pub whole : {X : Type 0} (nodes : List X → List Node) (list : List X) (at : ℕ) (before now : List Sized) → at ≤ 0 → now ≡ listed (nodes (drop at list)) before → now ≡ listed (nodes list) before
whole nodes list at before now none then =
    let first : at ≡ 0 = omega arith in
    then ∙ ap (λ n. listed (nodes (drop n list)) before) first

pub one_more : {X : Type 0} (nodes : List X → List Node) (here : List Node) (list : List X) (at : ℕ) (x : X) (before now next : List Sized) → 0 < at → at ≤ length list → x ≡ get_or list (at - 1) x
    → ((rest : List X) → nodes (x ∷ rest) ≡ here ++ nodes rest) → now ≡ listed (nodes (drop at list)) before → next ≡ listed here now → next ≡ listed (nodes (drop (at - 1) list)) before
one_more nodes here list at x before now next some within is step then one =
    let k = at - 1 in
    let more : suc k ≡ at = omega arith in
    let there : k < length list = omega arith in
    let split : drop k list ≡ x ∷ drop at list = drop-cons list k x there ∙ ap (λ y. y ∷ drop (suc k) list) (sym is) ∙ ap (λ n. x ∷ drop n list) more in
    one ∙ two here (nodes (drop at list)) before now then ∙ ap (λ ns. listed ns before) (sym (step (drop at list)) ∙ sym (ap nodes split))
