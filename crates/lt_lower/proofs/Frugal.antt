-- A function's code costs no more than its body's: its nodes are those that were emitted, turned round.
use Rattle.std.proofs.Common.{◌≡◌, if◌then◌else◌, None, ℕ, zero, suc, ◌+◌, ◌-◌, ◌≤◌, ◌<◌, Bool, true, false, not, nat_lt, List, [], ◌∷◌, ◌++◌, map, length, reverse, Some, slice_get, refl, sym, ap, subst, ◌∙◌, arith}
use Rattle.std.specs.List.{filter}
use Rattle.std.specs.Option.{option_to_list}
use Rattle.std.proofs.lemmas.Bool.{ltb-true}
use Rattle.std.proofs.lemmas.List.{length-set, length-map, reverse-append}
use Rattle.std.proofs.lemmas.Grind.{flat_map-append}
use Rattle.lt_ir.specs.declared.node.Node.{Node}
use Rattle.lt_ir.specs.declared.node.Node.TheVariants as node
use Rattle.lt_ir.specs.declared.node.Given.TheVariants as given
use Rattle.lt_ir.specs.Edges.{successors, HasEdge}
use Rattle.std.specs.Borrow.{Bor}
use Rattle.lt_ir.specs.declared.code.Code.{Code}
use Rattle.lt_code.specs.Bounds.{callee, IsAmong, HasLoopHeads}
use Rattle.lt_code.specs.Costs.{callees, times, of_function}
use Rattle.lt_sizes.specs.Laws.{CostsAtMost}
use Rattle.lt_tables.specs.declared.site.Site.{Site}
use Rattle.lt_emit.specs.declared.builder.Builder.{Builder}
use Rattle.lt_emit.specs.Turning.{turned, LeadsBelow}
use Rattle.lt_emit.specs.Turned.{point_of, turned_round, AreTurned}
use Rattle.lt_emit.specs.Emission.{here_of, IsSound, IsBegun, IsEntrance, Grows}
use Rattle.lt_emit.specs.Spending.{back_to, loop_heads, called, Spends}
use Rattle.lt_emit.proofs.Counted.{callees_set, heads_set}
use Rattle.lt_emit.proofs.Spent.{called_none, fitting}
use Rattle.lt_emit.proofs.Turned.{are_turned, origin, came_from, one_of, successors_turned}
use Rattle.lt_lower.specs.Functions.{gives_back, body_cost, IsFinished}

-- ---- calls

callee_turned : (point : ℕ → ℕ) (it : Node) → callee (turned point it) ≡ callee it
callee_turned point (node.Constant to c is_kept next) = refl
callee_turned point (node.Address to v next) = refl
callee_turned point (node.Load to from ty tracks next) = refl
callee_turned point (node.Store place value gives ty tracks next) = refl
callee_turned point (node.Move to pointer by next) = refl
callee_turned point (node.Subtract to left right size next) = refl
callee_turned point (node.Apply to left right op ty next) = refl
callee_turned point (node.Convert to from how next) = refl
callee_turned point (node.Compare to left right op next) = refl
callee_turned point (node.Copy place from shape tracks next) = refl
callee_turned point (node.Create k is_zeroed next) = refl
callee_turned point (node.Seal v next) = refl
callee_turned point (node.End v next) = refl
callee_turned point (node.Branch test on off) = refl
callee_turned point (node.Switch value arms table default) = refl
callee_turned point (node.Call function to first count next) = refl
callee_turned point (node.Stub stub to next) = refl
callee_turned point node.Stop = refl
callee_turned point (node.Return value) = refl
callee_turned point (node.Tick next) = refl
callee_turned point (node.Mark label predicate bound next) = refl
callee_turned point (node.Clash which next) = refl

callees_turned : (point : ℕ → ℕ) (nodes : List Node) → callees (map (turned point) nodes) ≡ callees nodes
callees_turned point [] = refl
callees_turned point (it ∷ nodes) =
    ap (λ f. option_to_list f ++ callees (map (turned point) nodes)) (callee_turned point it)
    ∙ ap (λ row. option_to_list (callee it) ++ row) (callees_turned point nodes)

-- in whatever order they stand
called_back : (f : ℕ) (nodes : List Node) → called f (callees (reverse nodes)) ≡ called f (callees nodes)
called_back f [] = refl
called_back f (it ∷ nodes) =
    ap (λ row. called f (callees row)) (reverse-append (it ∷ []) nodes)
    ∙ ap (called f) (flat_map-append (λ n. option_to_list (callee n)) (reverse nodes) (it ∷ []))
    ∙ grind (fitting, called_back f nodes)

pub called_round : (f last : ℕ) (nodes : List Node) → called f (callees (turned_round last nodes)) ≡ called f (callees nodes)
called_round f last nodes = ap (called f) (callees_turned (point_of last) (reverse nodes)) ∙ called_back f nodes

-- ---- where loops lead back to

among_left : (x : ℕ) (xs ys : List ℕ) → IsAmong x xs → IsAmong x (xs ++ ys)
among_left x [] ys among = absurd (cc)
among_left x (y ∷ xs) ys (zero, is) = (0, is)
among_left x (y ∷ xs) ys (suc k, is) = let later = among_left x xs ys (k, is) in (suc later.0, later.1)

among_right : (x : ℕ) (xs ys : List ℕ) → IsAmong x ys → IsAmong x (xs ++ ys)
among_right x [] ys among = among
among_right x (y ∷ xs) ys among = let later = among_right x xs ys among in (suc later.0, later.1)

passed : (p : ℕ → Bool) (xs : List ℕ) (k x : ℕ) → slice_get xs k ≡ Some x → p x ≡ true → IsAmong x (filter p xs)
passed p [] k x at passes = absurd (cc)
passed p (y ∷ xs) zero x at passes =
    let same : y ≡ x = cc in
    let In : Bool → Type 0 = λ b. IsAmong x (if b then y ∷ filter p xs else filter p xs) in
    subst In (sym (ap p same ∙ passes)) (0, at)
passed p (y ∷ xs) (suc k) x at passes = by (p y) (passed p xs k x at passes)
  where
    by : (b : Bool) → IsAmong x (filter p xs) → IsAmong x (if b then y ∷ filter p xs else filter p xs)
    by true later = (suc later.0, later.1)
    by false later = later

no_less : (e x : ℕ) → e ≤ x → not (nat_lt x e) ≡ true
no_less e x le = grind (arith)

-- a successor of no lesser number
pub back_among : (e x which : ℕ) (it : Node) → slice_get (successors it) which ≡ Some x → e ≤ x → IsAmong x (back_to e it)
back_among e x which it at le = passed (λ to. not (nat_lt to e)) (successors it) which x at (no_less e x le)

pub heads_among : (first k e x : ℕ) (nodes : List Node) (it : Node) → e ≡ first + k → slice_get nodes k ≡ Some it
    → IsAmong x (back_to e it) → IsAmong x (loop_heads first nodes)
heads_among first k e x [] it is at among = absurd (cc)
heads_among first zero e x (n ∷ nodes) it is at among =
    let this : it ≡ n = cc in
    let here : e ≡ first = omega (arith, is) in
    let In : ℕ → Node → Type 0 = λ i n. IsAmong x (back_to i n) in
    among_left x (back_to first n) (loop_heads (suc first) nodes) (subst (λ i. In i n) here (subst (In e) this among))
heads_among first (suc k) e x (n ∷ nodes) it is at among =
    among_right x (back_to first n) (loop_heads (suc first) nodes) (heads_among (suc first) k e x nodes it (omega (arith, is)) at among)

pub pointed_among : (point : ℕ → ℕ) (x : ℕ) (xs : List ℕ) → IsAmong x xs → IsAmong (point x) (map point xs)
pointed_among point x [] among = absurd (cc)
pointed_among point x (y ∷ xs) (zero, is) = (0, ap Some (let same : y ≡ x = cc in ap point same))
pointed_among point x (y ∷ xs) (suc k, is) = let later = pointed_among point x xs (k, is) in (suc later.0, later.1)

-- ---- the code of a function

times_within : (f : ℕ) (xs ys : List ℕ) → called f xs ≤ called f ys → times f xs ≤ times f ys
unfolding called
times_within f xs ys le = le

pub back_long : (r : ℕ) (xs : List Node) → length (gives_back r xs) ≡ length xs
back_long zero xs = refl
back_long (suc r) xs = length-set xs 0 (node.Return (given.Held 0))

back_callees : (r : ℕ) (xs : List Node) (first : Node) → slice_get xs 0 ≡ Some first → callee first ≡ None
    → callees (gives_back r xs) ≡ callees xs
back_callees zero xs first at none = refl
back_callees (suc r) xs first at none = callees_set xs 0 first (node.Return (given.Held 0)) at (sym none)

back_heads : (r : ℕ) (xs : List Node) (first : Node) → slice_get xs 0 ≡ Some first
    → length (loop_heads 0 (gives_back r xs)) ≤ length (loop_heads 0 xs)
back_heads zero xs first at = omega arith
back_heads (suc r) xs first at = heads_set 0 0 0 xs first (node.Return (given.Held 0)) refl at (omega arith)

back_free : (r e : ℕ) (xs : List Node) → ((k : ℕ) (n : Node) → slice_get xs k ≡ Some n → LeadsBelow e n)
    → (k : ℕ) (n : Node) → slice_get (gives_back r xs) k ≡ Some n → LeadsBelow e n
back_free zero e xs free k n at = free k n at
back_free (suc r) e [] free k n at = free k n at
back_free (suc r) e (x ∷ xs) free zero n at =
    let this : node.Return (given.Held 0) ≡ n = cc in
    subst (LeadsBelow e) this refl
back_free (suc r) e (x ∷ xs) free (suc k) n at = free (suc k) n at

module _ (of : Bor Site) (a b : Builder) (start : ℕ) (it : Code) (begun : IsBegun of a) (grows : Grows a b)
    (spends : Spends (body_cost (here_of a)) a b) (sound : IsSound b) (entrance : IsEntrance b start) (done : IsFinished b start it) where
  abbrev nodes : List Node
  nodes = gives_back b.registers b.nodes.items

  first : slice_get b.nodes.items 0 ≡ Some (node.Return given.Nothing)
  first = grows.nodes 0 (node.Return given.Nothing) (ap (λ row. slice_get row 0) begun.nodes)

  long : length nodes ≡ suc done.last
  long = back_long b.registers b.nodes.items ∙ done.count

  turns : AreTurned done.last nodes it.nodes
  turns =
      let Are : List Node → Type 0 = λ after. AreTurned done.last nodes after in
      subst Are (sym done.nodes) (are_turned done.last nodes long)

  is_last : start ≡ done.last
  is_last = omega (arith, entrance.last, done.count)

  starts : it.start ≡ 0
  starts = omega (arith, done.start, is_last)

  -- an edge leads from a node that was emitted to another
  record Led (from to : ℕ) : Type 0 where
    e : ℕ
    x : ℕ
    emitted : Node
    at : slice_get nodes e ≡ Some emitted
    which : ℕ
    leads : slice_get (successors emitted) which ≡ Some x
    there : e ≤ done.last
    from_is : from ≡ done.last - e
    to_is : to ≡ done.last - x
    below : x < start

  led : (from to : ℕ) → HasEdge it from to → Led from to
  led from to edge =
      let it_is = origin done.last nodes it.nodes from edge.node long turns edge.stands in
      let points : slice_get (map (point_of done.last) (successors it_is.node)) edge.which ≡ Some to =
      ap (λ row. slice_get row edge.which) (sym (ap successors it_is.is ∙ successors_turned (point_of done.last) it_is.node)) ∙ edge.leads in
      let next = came_from (point_of done.last) (successors it_is.node) edge.which to points in
      let free = back_free b.registers start b.nodes.items entrance.free it_is.e it_is.node it_is.at in
      record {
        e = it_is.e;
        x = next.x;
        emitted = it_is.node;
        at = it_is.at;
        which = edge.which;
        leads = next.at;
        there = it_is.there;
        from_is = it_is.point;
        to_is = next.is;
        below = ltb-true next.x start (one_of (λ point. nat_lt point start) (successors it_is.node) edge.which next.x free next.at);
      }

  entered_once : (from to : ℕ) → HasEdge it from to → it.start < to
  entered_once from to edge = let l = led from to edge in omega (arith, starts, l.to_is, l.below, is_last)

  heads : HasLoopHeads it (of_function (here_of a).program.functions (here_of a).function).loops
  heads = record {
    heads = map (point_of done.last) (loop_heads 0 nodes);
    few = omega (
      arith,
      length-map (loop_heads 0 nodes) (point_of done.last),
      back_heads b.registers b.nodes.items (node.Return given.Nothing) first,
      spends.loops,
      ap (λ row. length (loop_heads 0 row)) begun.nodes,
    );
    each = λ from to edge back.
        let l = led from to edge in
        let le : l.e ≤ l.x = omega (arith, l.there, l.from_is, l.to_is, l.below, is_last, back) in
        let Is : ℕ → Type 0 = λ n. IsAmong n (map (point_of done.last) (loop_heads 0 nodes)) in
        subst Is (sym l.to_is) (pointed_among (point_of done.last) l.x (loop_heads 0 nodes)
        (heads_among 0 l.e l.e l.x nodes l.emitted (omega arith) l.at (back_among l.e l.x l.which l.emitted l.leads le)));
  }

  pub is_frugal : CostsAtMost (of_function (here_of a).program.functions (here_of a).function) it
  is_frugal = record {
    nodes = omega (arith, turns.same, long, done.count, spends.nodes, ap length begun.nodes);
    registers = omega (arith, done.registers, spends.registers, begun.registers);
    calls = λ f. times_within f (callees it.nodes) (of_function (here_of a).program.functions (here_of a).function).calls (omega (
      arith,
      ap (λ row. called f (callees row)) done.nodes,
      called_round f done.last nodes,
      ap (called f) (back_callees b.registers b.nodes.items (node.Return given.Nothing) first refl),
      spends.calls f,
      ap (λ row. called f (callees row)) begun.nodes,
      called_none f,
    ));
    start = starts;
    entered_once = entered_once;
    heads = heads;
  }
