-- Nodes that are turned round: each number in them is that of something that is there, and each turn of a loop spends a tick.
use Rattle.std.proofs.Common.{◌≡◌, ℕ, suc, zero, ℤ, ◌+◌, ◌-◌, ◌≤◌, ◌<◌, Bool, true, false, ◌&&◌, ◌||◌, List, [], ◌∷◌, ◌++◌, length, map, Option, Some, None, slice_get, refl, sym, ap, subst, ◌∙◌, ◌⊎◌, inl, inr, arith, get_or}
use Rattle.std.specs.Prelude.{if◌then◌else◌, nat_lt}
use Rattle.std.specs.List.{list_all}
use Rattle.std.specs.Ordering.{int_eq}
use Rattle.std.proofs.lemmas.Bool.{ltb-true, lt-ltb, le-leb}
use Rattle.std.specs.Prelude.{reverse}
use Rattle.std.proofs.lemmas.Option.{slice_get-get_or, slice_get_within, get_or_from_slice_get}
use Rattle.std.proofs.lemmas.List.{length-map, length-reverse, get_or-reverse, get_or-map}
use Rattle.lt_ir.specs.declared.node.Arm.{Arm}
use Rattle.lt_ir.specs.declared.code.Code.{Code}
use Rattle.lt_ir.specs.declared.node.Movement.{Movement}
use Rattle.lt_ir.specs.declared.node.Movement.TheVariants as movement
use Rattle.lt_ir.specs.declared.node.Parts.{Parts}
use Rattle.lt_ir.specs.declared.node.Parts.TheVariants as parts
use Rattle.lt_ir.specs.declared.node.Given.{Given}
use Rattle.lt_ir.specs.declared.node.Given.TheVariants as given
use Rattle.lt_ir.specs.declared.node.Node.{Node}
use Rattle.lt_ir.specs.declared.node.Node.TheVariants as node
use Rattle.lt_ir.specs.Edges.{successors, HasEdge, is_tick, is_tick_at}
use Rattle.lt_ir.specs.Tables.{arm_of, IsTableOf}
use Rattle.lt_ir.specs.Ranges.{Counts, is_register, is_point, is_movement, are_parts, is_given, is_target, is_node}
use Rattle.lt_emit.specs.Turning.{turned, turned_arm, UsesBelow, movement_uses, parts_use, given_uses, target_uses, parts_name, NamesIn, LeadsBelow, IsTickWithin, IsSoundNode, are_below}
use Rattle.lt_emit.specs.Turned.{point_of, turned_round, AreTurned}

-- ---- tests

and : {a b : Bool} → a ≡ true → b ≡ true → (a && b) ≡ true
and p q = cc

first_of : (a b : Bool) → (a && b) ≡ true → a ≡ true
first_of true b is = refl
first_of false b is = absurd (cc)

second_of : (a b : Bool) → (a && b) ≡ true → b ≡ true
second_of true b is = is
second_of false b is = absurd (cc)

-- ---- registers

register_in : (n : Counts) (r : ℕ) → r < n.registers → is_register n r ≡ true
register_in n r is = lt-ltb r n.registers is

movement_in : (n : Counts) (by : Movement) → movement_uses n.registers by → is_movement n by ≡ true
movement_in n (movement.Elements count op size) uses = register_in n count uses
movement_in n (movement.Member offset) uses = refl

parts_in : (n : Counts) (which : Parts) → parts_use n.registers which → parts_name n which → are_parts n which ≡ true
parts_in n (parts.Unsequenced left right) uses named = and (register_in n left uses.0) (register_in n right uses.1)
parts_in n (parts.Sequenced left right) uses named = and (register_in n left uses.0) (register_in n right uses.1)
parts_in n (parts.Settled register) uses named = register_in n register uses
parts_in n (parts.Read register it) uses named = and (register_in n register uses) named
parts_in n (parts.Target register it) uses named = and (register_in n register uses) named

given_in : (n : Counts) (value : Given) → given_uses n.registers value → is_given n value ≡ true
given_in n given.Nothing uses = refl
given_in n (given.Fixed c) uses = refl
given_in n (given.Held register) uses = register_in n register uses

target_in : (n : Counts) (to : Option ℕ) → target_uses n.registers to → is_target n to ≡ true
target_in n None uses = refl
target_in n (Some register) uses = register_in n register uses

-- ---- successors

-- each successor is there
abbrev LeadsWithin : ℕ → Node → Type 0
LeadsWithin count it = are_below count (successors it) ≡ true

below_more : (points : List ℕ) {n m : ℕ} → n ≤ m → are_below n points ≡ true → are_below m points ≡ true
below_more [] le is = refl
below_more (point ∷ points) {n} {m} le is =
    let here = ltb-true point n (first_of (nat_lt point n) (are_below n points) is) in
    and (lt-ltb point m (omega (arith, here, le))) (below_more points le (second_of (nat_lt point n) (are_below n points) is))

leads_within : (count e : ℕ) (it : Node) → e < count → LeadsBelow e it ⊎ IsTickWithin count it → LeadsWithin count it
leads_within count e it there (inl below) = below_more (successors it) (omega (arith, there)) below
leads_within count e it there (inr tick) =
    let Is : Node → Type 0 = λ x. LeadsWithin count x in
    subst Is (sym tick.1) (and (lt-ltb tick.0 count tick.2) refl)

-- the points of nodes that are there
point_in : (n : Counts) (last e : ℕ) → n.nodes ≡ suc last → is_point n (last - e) ≡ true
point_in n last e count = lt-ltb (last - e) n.nodes (omega (arith, count))

arms_in : (n : Counts) (last : ℕ) (arms : List Arm) → n.nodes ≡ suc last
    → list_all (λ arm. is_point n arm.next) (map (turned_arm (point_of last)) arms) ≡ true
arms_in n last [] count = refl
arms_in n last (arm ∷ arms) count = and (point_in n last arm.next count) (arms_in n last arms count)

-- a sound node is in range where it is turned
pub node_in :
    (n : Counts) (last e : ℕ) (it : Node) → n.nodes ≡ suc last → IsSoundNode n e it
    → is_node n (turned (point_of last) it) ≡ true
node_in n last e it count is = by_node it is.uses is.names
  where
    at : (next : ℕ) → is_point n (last - next) ≡ true
    at next = point_in n last next count

    reg : (r : ℕ) → r < n.registers → is_register n r ≡ true
    reg r is = register_in n r is

    by_node : (it : Node) → UsesBelow n.registers it → NamesIn n it → is_node n (turned (point_of last) it) ≡ true
    by_node (node.Constant to c is_kept next) uses named = and (reg to uses) (at next)
    by_node (node.Address to v next) uses named = and (and (reg to uses) named) (at next)
    by_node (node.Load to from ty tracks next) uses named = and (and (reg to uses.0) (reg from uses.1)) (at next)
    by_node (node.Store place value gives ty tracks next) uses named =
        and (and (and (reg place uses.0) (reg value uses.1)) (reg gives uses.2)) (at next)
    by_node (node.Move to pointer by next) uses named =
        and (and (and (reg to uses.0) (reg pointer uses.1)) (movement_in n by uses.2)) (at next)
    by_node (node.Subtract to left right size next) uses named =
        and (and (and (reg to uses.0) (reg left uses.1)) (reg right uses.2)) (at next)
    by_node (node.Apply to left right op ty next) uses named =
        and (and (and (reg to uses.0) (reg left uses.1)) (reg right uses.2)) (at next)
    by_node (node.Convert to from how next) uses named = and (and (reg to uses.0) (reg from uses.1)) (at next)
    by_node (node.Compare to left right op next) uses named =
        and (and (and (reg to uses.0) (reg left uses.1)) (reg right uses.2)) (at next)
    by_node (node.Copy place from shape tracks next) uses named =
        and (and (and (reg place uses.0) (reg from uses.1)) (lt-ltb shape n.structs named)) (at next)
    by_node (node.Create k is_zeroed next) uses named = and (lt-ltb k n.locals named) (at next)
    by_node (node.Seal v next) uses named = and named (at next)
    by_node (node.End v next) uses named = and named (at next)
    by_node (node.Branch test on off) uses named = and (and (reg test uses) (at on)) (at off)
    by_node (node.Switch value arms table default) uses named =
        and (and (reg value uses) (arms_in n last arms count)) (at default)
    by_node (node.Call function to first calls next) uses named =
        and (and (and (lt-ltb function n.functions named) (target_in n to uses.0)) (le-leb (first + calls) n.registers uses.1)) (at next)
    by_node (node.Stub stub to next) uses named = and (and (lt-ltb stub n.stubs named) (reg to uses)) (at next)
    by_node node.Stop uses named = refl
    by_node (node.Return value) uses named = given_in n value uses
    by_node (node.Tick next) uses named = at next
    by_node (node.Mark label predicate bound next) uses named =
        and (and (and (lt-ltb label n.labels named.0) named.1) named.2) (at next)
    by_node (node.Clash which next) uses named = and (parts_in n which uses named) (at next)

-- ---- lists, element by element

all_of : {A : Type 0} (p : A → Bool) (xs : List A) → ((i : ℕ) (x : A) → slice_get xs i ≡ Some x → p x ≡ true) → list_all p xs ≡ true
all_of p [] each = refl
all_of p (x ∷ xs) each = and (each 0 x refl) (all_of p xs (λ i y at. each (suc i) y at))

pub one_of : {A : Type 0} (p : A → Bool) (xs : List A) (i : ℕ) (x : A) → list_all p xs ≡ true → slice_get xs i ≡ Some x → p x ≡ true
one_of p [] i x all at = absurd (cc)
one_of p (y ∷ xs) zero x all at = let same : y ≡ x = cc in ap p (sym same) ∙ first_of (p y) (list_all p xs) all
one_of p (y ∷ xs) (suc i) x all at = one_of p xs i x (second_of (p y) (list_all p xs) all) at

pub record CameFrom {A B : Type 0} (f : A → B) (xs : List A) (i : ℕ) (y : B) : Type 0 where
  pub x : A
  pub at : slice_get xs i ≡ Some x
  pub is : y ≡ f x

pub came_from : {A B : Type 0} (f : A → B) (xs : List A) (i : ℕ) (y : B) → slice_get (map f xs) i ≡ Some y → CameFrom f xs i y
came_from f [] i y at = absurd (cc)
came_from f (x ∷ xs) zero y at = let same : y ≡ f x = cc in record { x = x; at = refl; is = same }
came_from f (x ∷ xs) (suc i) y at = let it = came_from f xs i y at in record { x = it.x; at = it.at; is = it.is }

map_again : {A B C : Type 0} (g : B → C) (f : A → B) (xs : List A) → map g (map f xs) ≡ map (λ x. g (f x)) xs
map_again g f [] = refl
map_again g f (x ∷ xs) = ap (λ ys. g (f x) ∷ ys) (map_again g f xs)

map_end : {A B : Type 0} (f : A → B) (xs : List A) (y : A) → map f (xs ++ y ∷ []) ≡ map f xs ++ f y ∷ []
map_end f [] y = refl
map_end f (x ∷ xs) y = ap (λ ys. f x ∷ ys) (map_end f xs y)

-- ---- nodes in turned order

pub are_turned :
    (last : ℕ) (before : List Node) → length before ≡ suc last
    → AreTurned last before (turned_round last before)
are_turned last before long = record {
  same = length-map (reverse before) (turned (point_of last)) ∙ length-reverse before;
  each = λ e it at.
      let row = reverse before in
      let turn : Node → Node = turned (point_of last) in
      let inside = slice_get_within before e it at in
      let k = last - e in
      let there : k < length row = omega (arith, length-reverse before, long) in
      let there_too : k < length (map turn row) = omega (arith, length-map row turn, there) in
      let fits : k < length before = omega (arith, long) in
      let back : length before - 1 - k ≡ e = omega (arith, long, inside) in
      slice_get-get_or (map turn row) k (turn it) there_too
      ∙ ap Some (get_or-map turn row k it (turn it) there)
      ∙ ap (λ x. Some (turn x)) (get_or-reverse before k it fits ∙ ap (λ n. get_or before n it) back ∙ get_or_from_slice_get before e it it at);
}

-- ---- where turned nodes come from

pub record Origin (last : ℕ) (before : List Node) (i : ℕ) (it : Node) : Type 0 where
  pub e : ℕ
  pub node : Node
  pub at : slice_get before e ≡ Some node
  pub there : e ≤ last
  pub point : i ≡ last - e
  pub is : it ≡ turned (point_of last) node

one_value : {X : Type 0} {x y : X} → Some x ≡ Some y → x ≡ y
one_value is = cc

pub origin :
    (last : ℕ) (before after : List Node) (i : ℕ) (it : Node) → length before ≡ suc last → AreTurned last before after
    → slice_get after i ≡ Some it → Origin last before i it
origin last before after i it long turns at =
    let inside = slice_get_within after i it at in
    let e = last - i in
    let there : e < length before = omega (arith, long) in
    let node = get_or before e it in
    let here : slice_get before e ≡ Some node = slice_get-get_or before e it there in
    let back : i ≡ last - e = omega (arith, inside, turns.same, long) in
    record {
      e = e;
      node = node;
      at = here;
      there = omega arith;
      point = back;
      is = one_value (sym at ∙ ap (slice_get after) back ∙ turns.each e node here);
    }

-- ---- ranges

-- Each number in the nodes is that of something that is there.
abbrev pub AreSound : Counts → List Node → Type 0
AreSound n nodes = (e : ℕ) (it : Node) → slice_get nodes e ≡ Some it → IsSoundNode n e it

pub nodes_in :
    (n : Counts) (last : ℕ) (before after : List Node) → n.nodes ≡ suc last → length before ≡ suc last → AreSound n before
    → AreTurned last before after → list_all (is_node n) after ≡ true
nodes_in n last before after count long sound turns =
    all_of (is_node n) after (λ i it at.
    let from = origin last before after i it long turns at in
    ap (is_node n) from.is ∙ node_in n last from.e from.node count (sound from.e from.node from.at))

-- ---- turns of loops

pub successors_turned : (point : ℕ → ℕ) (it : Node) → successors (turned point it) ≡ map point (successors it)
successors_turned point (node.Constant to c is_kept next) = refl
successors_turned point (node.Address to v next) = refl
successors_turned point (node.Load to from ty tracks next) = refl
successors_turned point (node.Store place value gives ty tracks next) = refl
successors_turned point (node.Move to pointer by next) = refl
successors_turned point (node.Subtract to left right size next) = refl
successors_turned point (node.Apply to left right op ty next) = refl
successors_turned point (node.Convert to from how next) = refl
successors_turned point (node.Compare to left right op next) = refl
successors_turned point (node.Copy place from shape tracks next) = refl
successors_turned point (node.Create k is_zeroed next) = refl
successors_turned point (node.Seal v next) = refl
successors_turned point (node.End v next) = refl
successors_turned point (node.Branch test on off) = refl
successors_turned point (node.Switch value arms table default) =
    let next : Arm → ℕ = λ arm. arm.next in
    ap (λ points. points ++ point default ∷ []) (map_again next (turned_arm point) arms ∙ sym (map_again point next arms))
    ∙ sym (map_end point (map next arms) default)
successors_turned point (node.Call function to first count next) = refl
successors_turned point (node.Stub stub to next) = refl
successors_turned point node.Stop = refl
successors_turned point (node.Return value) = refl
successors_turned point (node.Tick next) = refl
successors_turned point (node.Mark label predicate bound next) = refl
successors_turned point (node.Clash which next) = refl

ticks_so : (here there : Bool) → here ≡ true → (here || there) ≡ true
ticks_so here there is = cc

-- An edge to a point of no greater number leads from a tick.
pub turns_by_ticks :
    (n : Counts) (last : ℕ) (before : List Node) (code : Code) (from to : ℕ) → n.nodes ≡ suc last → length before ≡ suc last
    → AreSound n before → AreTurned last before code.nodes → HasEdge code from to → to ≤ from
    → (is_tick_at code from || is_tick_at code to) ≡ true
turns_by_ticks n last before code from to count long sound turns edge back =
    let it = origin last before code.nodes from edge.node long turns edge.stands in
    let leads : slice_get (map (point_of last) (successors it.node)) edge.which ≡ Some to =
    ap (λ points. slice_get points edge.which) (sym (ap successors it.is ∙ successors_turned (point_of last) it.node)) ∙ edge.leads in
    let next = came_from (point_of last) (successors it.node) edge.which to leads in
    by_lead it next (sound it.e it.node it.at).leads
  where
    by_lead : (it : Origin last before from edge.node) (next : CameFrom (point_of last) (successors it.node) edge.which to)
        → LeadsBelow it.e it.node ⊎ IsTickWithin n.nodes it.node → (is_tick_at code from || is_tick_at code to) ≡ true
    by_lead it next (inl below) =
        let less = ltb-true next.x it.e (one_of (λ point. nat_lt point it.e) (successors it.node) edge.which next.x below next.at) in
        absurd (omega (arith, less, it.there, it.point, next.is, back))
    by_lead it next (inr tick) =
        ticks_so (is_tick_at code from) (is_tick_at code to) (ap is_tick (edge.stands ∙ ap Some (it.is ∙ ap (turned (point_of last)) tick.1)))

-- ---- tables of switches

-- where the first arm with a value leads
abbrev found : List Arm → ℤ → Option ℕ
found [] z = None
found (arm ∷ arms) z = if int_eq arm.value z then Some arm.next else found arms z

abbrev or_else : Option ℕ → ℕ → ℕ
or_else None d = d
or_else (Some k) d = k

abbrev pointed : (ℕ → ℕ) → Option ℕ → Option ℕ
pointed point None = None
pointed point (Some k) = Some (point k)

first_arm : (arms : List Arm) (d : ℕ) (z : ℤ) → arm_of arms d z ≡ or_else (found arms z) d
first_arm [] d z = refl
first_arm (arm ∷ arms) d z = by (int_eq arm.value z) (first_arm arms d z)
  where
    by : (b : Bool) → arm_of arms d z ≡ or_else (found arms z) d
        → (if b then arm.next else arm_of arms d z) ≡ or_else (if b then Some arm.next else found arms z) d
    by true behind = refl
    by false behind = behind

found_turned : (point : ℕ → ℕ) (arms : List Arm) (z : ℤ) → found (map (turned_arm point) arms) z ≡ pointed point (found arms z)
found_turned point [] z = refl
found_turned point (arm ∷ arms) z = by (int_eq arm.value z) (found_turned point arms z)
  where
    by : (b : Bool) → found (map (turned_arm point) arms) z ≡ pointed point (found arms z)
        → (if b then Some (point arm.next) else found (map (turned_arm point) arms) z)
        ≡ pointed point (if b then Some arm.next else found arms z)
    by true behind = refl
    by false behind = behind

same_found : (p q : Option ℕ) → ((d : ℕ) → or_else p d ≡ or_else q d) → p ≡ q
same_found None None is = refl
same_found None (Some k) is = absurd (omega (arith, is (suc k)))
same_found (Some k) None is = absurd (omega (arith, is (suc k)))
same_found (Some k) (Some j) is = ap Some (is 0)

-- the arms and their table, with the points to which they lead
pub table_turned :
    (point : ℕ → ℕ) (table arms : List Arm) → IsTableOf table arms
    → IsTableOf (map (turned_arm point) table) (map (turned_arm point) arms)
table_turned point table arms is = (
  λ i j arm other less at_i at_j.
      let p = came_from (turned_arm point) table i arm at_i in
      let q = came_from (turned_arm point) table j other at_j in
      rw (p.is, q.is) (is.0 i j p.x q.x less p.at q.at),
  rw (length-map table (turned_arm point), length-map arms (turned_arm point)) is.1,
  λ d z.
      let same : found table z ≡ found arms z =
      same_found (found table z) (found arms z) (λ e. sym (first_arm table e z) ∙ is.2 e z ∙ first_arm arms e z) in
      first_arm (map (turned_arm point) table) d z
      ∙ ap (λ o. or_else o d) (found_turned point table z ∙ ap (pointed point) same ∙ sym (found_turned point arms z))
      ∙ sym (first_arm (map (turned_arm point) arms) d z),
)

switch_in :
    (n : Counts) (point : ℕ → ℕ) (it : Node) (value default : ℕ) (arms table : List Arm)
    → node.Switch value arms table default ≡ turned point it → NamesIn n it → IsTableOf table arms
switch_in n point (node.Switch v a t d) value default arms table is named =
    let same_arms : map (turned_arm point) a ≡ arms = cc in
    let same_table : map (turned_arm point) t ≡ table = cc in
    let Is : List Arm → List Arm → Type 0 = λ ts xs. IsTableOf ts xs in
    subst (λ xs. Is table xs) same_arms (subst (λ ts. Is ts (map (turned_arm point) a)) same_table (table_turned point t a named))
switch_in n point (node.Constant to c is_kept next) value default arms table is named = absurd (cc)
switch_in n point (node.Address to v next) value default arms table is named = absurd (cc)
switch_in n point (node.Load to from ty tracks next) value default arms table is named = absurd (cc)
switch_in n point (node.Store place v gives ty tracks next) value default arms table is named = absurd (cc)
switch_in n point (node.Move to pointer by next) value default arms table is named = absurd (cc)
switch_in n point (node.Subtract to left right size next) value default arms table is named = absurd (cc)
switch_in n point (node.Apply to left right op ty next) value default arms table is named = absurd (cc)
switch_in n point (node.Convert to from how next) value default arms table is named = absurd (cc)
switch_in n point (node.Compare to left right op next) value default arms table is named = absurd (cc)
switch_in n point (node.Copy place from shape tracks next) value default arms table is named = absurd (cc)
switch_in n point (node.Create k is_zeroed next) value default arms table is named = absurd (cc)
switch_in n point (node.Seal v next) value default arms table is named = absurd (cc)
switch_in n point (node.End v next) value default arms table is named = absurd (cc)
switch_in n point (node.Branch test on off) value default arms table is named = absurd (cc)
switch_in n point (node.Call function to first count next) value default arms table is named = absurd (cc)
switch_in n point (node.Stub stub to next) value default arms table is named = absurd (cc)
switch_in n point node.Stop value default arms table is named = absurd (cc)
switch_in n point (node.Return v) value default arms table is named = absurd (cc)
switch_in n point (node.Tick next) value default arms table is named = absurd (cc)
switch_in n point (node.Mark label predicate bound next) value default arms table is named = absurd (cc)
switch_in n point (node.Clash which next) value default arms table is named = absurd (cc)

-- each switch has the table of its arms
pub has_tables :
    (n : Counts) (last : ℕ) (before after : List Node) (i value default : ℕ) (arms table : List Arm) → length before ≡ suc last
    → AreSound n before → AreTurned last before after → slice_get after i ≡ Some (node.Switch value arms table default)
    → IsTableOf table arms
has_tables n last before after i value default arms table long sound turns at =
    let from = origin last before after i (node.Switch value arms table default) long turns at in
    switch_in n (point_of last) from.node value default arms table from.is (sound from.e from.node from.at).names
