-- What is found in prepared tables is what stands in the lists.
use Rattle.std.proofs.Common.{◌≡◌, ℕ, zero, suc, ℤ, ◌≤◌, ◌<ℤ◌, List, [], ◌∷◌, length, Option, Some, None, Bool, true, false, Ordering, Less, Equal, Greater, refl, sym, ap, ◌∙◌, subst, arith}
use Rattle.std.specs.Prelude.{option_map, if◌then◌else◌, slice_get}
use Rattle.std.specs.Ordering.{int_cmp, int_eq, MatchOrdering}
use Rattle.std.specs.Cmp.{int_ranks, int_chain}
use Rattle.std.specs.Int.Signed.{<ℤ_irrefl}
use Rattle.std.specs.Str.{bytes_eq}
use Rattle.lt_model.specs.State.{Left}
use Rattle.std.proofs.lemmas.Bool.Decides.{Decides-int_eq}
use Rattle.std.proofs.lemmas.Slice.Eq.{bytes_eq-Decides}
use Rattle.lt_model.proofs.Fitting.{eq_true, eq_false}
use Rattle.lt_ir.specs.declared.node.Arm.{Arm}
use Rattle.lt_ir.specs.Running.{next_value, first_value, put_before}
use Rattle.lt_ir.specs.Tables.{arm_of, IsAscending, IsTableOf}
use Rattle.lt_ir.specs.Prepared.{put_arm, table_of, AreFoundByValue, OthersFindNone, SwitchesAreTables, place_of, first_of, value_of, value_at, StubsHavePlaces, RegistersBeginBlank}

-- ---- order, by recursion

abbrev AreAbove : ℤ → List Arm → Type 0
AreAbove z [] = Unit {0}
AreAbove z (arm ∷ arms) = (z <ℤ arm.value) × AreAbove z arms

abbrev Ascends : List Arm → Type 0
Ascends [] = Unit {0}
Ascends (arm ∷ arms) = AreAbove arm.value arms × Ascends arms

above_at : (z : ℤ) (arms : List Arm) (j : ℕ) (other : Arm) → AreAbove z arms → slice_get arms j ≡ Some other → z <ℤ other.value
above_at z [] j other all is = absurd (cc)
above_at z (arm ∷ arms) zero other all is =
    let same : arm ≡ other = cc in
    subst (λ a. z <ℤ a.value) same all.0
above_at z (arm ∷ arms) (suc j) other all is = above_at z arms j other all.1 is

ascending : (table : List Arm) → Ascends table → IsAscending table
ascending [] up i j arm other lt is is' = absurd (cc)
ascending (it ∷ table) up i zero arm other lt is is' = absurd (omega arith)
ascending (it ∷ table) up zero (suc j) arm other lt is is' =
    let same : it ≡ arm = cc in
    subst (λ a. a.value <ℤ other.value) same (above_at it.value table j other up.0 is')
ascending (it ∷ table) up (suc i) (suc j) arm other lt is is' = ascending table up.1 i j arm other (omega (arith, lt)) is is'

above_all : (y z : ℤ) (arms : List Arm) → y <ℤ z → AreAbove z arms → AreAbove y arms
above_all y z [] lt all = tt
above_all y z (arm ∷ arms) lt all = (int_chain y z arm.value lt all.0, above_all y z arms lt all.1)

above_put : (z : ℤ) (arm : Arm) (table : List Arm) → z <ℤ arm.value → AreAbove z table → AreAbove z (put_arm arm table)
above_put z arm [] lt all = (lt, tt)
above_put z arm (it ∷ table) lt all = by (int_cmp arm.value it.value) (above_put z arm table lt all.1)
  where
    by : (o : Ordering) → AreAbove z (put_arm arm table) → AreAbove z (elim (o) as (λ q. List Arm) [ Less ↦ arm ∷ it ∷ table | Equal ↦ arm ∷ table | Greater ↦ it ∷ put_arm arm table ])
    by Less rest = (lt, all)
    by Equal rest = (lt, all.1)
    by Greater rest = (all.0, rest)

put_ascending : (arm : Arm) (table : List Arm) → Ascends table → Ascends (put_arm arm table)
put_ascending arm [] h = (tt, tt)
put_ascending arm (it ∷ table) h =
    by (int_cmp arm.value it.value) (int_ranks arm.value it.value) (put_ascending arm table h.1)
  where
    by : (o : Ordering) → MatchOrdering o (arm.value <ℤ it.value) (arm.value ≡ it.value) (it.value <ℤ arm.value) → Ascends (put_arm arm table) → Ascends (elim (o) as (λ q. List Arm) [ Less ↦ arm ∷ it ∷ table | Equal ↦ arm ∷ table | Greater ↦ it ∷ put_arm arm table ])
    by Less lt rest = ((lt, above_all arm.value it.value table lt h.0), h)
    by Equal e rest = (subst (λ z. AreAbove z table) (sym e) h.0, h.1)
    by Greater gt rest = (above_put it.value arm table gt h.0, rest)

put_few : (arm : Arm) (table : List Arm) → length (put_arm arm table) ≤ suc (length table)
put_few arm [] = omega arith
put_few arm (it ∷ table) = by (int_cmp arm.value it.value) (put_few arm table)
  where
    by : (o : Ordering) → length (put_arm arm table) ≤ suc (length table) → length (elim (o) as (λ q. List Arm) [ Less ↦ arm ∷ it ∷ table | Equal ↦ arm ∷ table | Greater ↦ it ∷ put_arm arm table ]) ≤ suc (suc (length table))
    by Less rest = omega arith
    by Equal rest = omega arith
    by Greater rest = omega (arith, rest)

-- ---- what numbers find

less_apart : (y z : ℤ) → y <ℤ z → y ≡ z → ⊥
less_apart y z lt e = <ℤ_irrefl (subst (λ x. x <ℤ z) e lt)

-- the same test twice
tested_twice : (b : Bool) (x y w : ℕ) → (if b then x else w) ≡ (if b then x else (if b then y else w))
tested_twice true x y w = refl
tested_twice false x y w = refl

-- two tests of which one holds at most
swapped : (b c : Bool) (x y w : ℕ) → (b ≡ true → c ≡ true → ⊥) → (if b then x else (if c then y else w)) ≡ (if c then y else (if b then x else w))
swapped true true x y w apart = absurd (apart refl refl)
swapped true false x y w apart = refl
swapped false true x y w apart = refl
swapped false false x y w apart = refl

put_same : (arm : Arm) (table : List Arm) (default : ℕ) (z : ℤ) → arm_of (put_arm arm table) default z ≡ (if int_eq arm.value z then arm.next else arm_of table default z)
put_same arm [] default z = refl
put_same arm (it ∷ table) default z =
    by (int_cmp arm.value it.value) (int_ranks arm.value it.value) (put_same arm table default z)
  where
    by : (o : Ordering) → MatchOrdering o (arm.value <ℤ it.value) (arm.value ≡ it.value) (it.value <ℤ arm.value) → arm_of (put_arm arm table) default z ≡ (if int_eq arm.value z then arm.next else arm_of table default z) → arm_of (elim (o) as (λ q. List Arm) [ Less ↦ arm ∷ it ∷ table | Equal ↦ arm ∷ table | Greater ↦ it ∷ put_arm arm table ]) default z ≡ (if int_eq arm.value z then arm.next else (if int_eq it.value z then it.next else arm_of table default z))
    by Less lt rest = refl
    by Equal e rest =
        tested_twice (int_eq arm.value z) arm.next it.next (arm_of table default z)
        ∙ ap (λ y. if int_eq arm.value z then arm.next else (if int_eq y z then it.next else arm_of table default z)) e
    by Greater gt rest =
        ap (λ n. if int_eq it.value z then it.next else n) rest
        ∙ swapped (int_eq it.value z) (int_eq arm.value z) it.next arm.next (arm_of table default z) (λ b c. less_apart it.value arm.value gt ((Decides-int_eq it.value z).0 b ∙ sym ((Decides-int_eq arm.value z).0 c)))

ascends : (arms : List Arm) → Ascends (table_of arms)
ascends [] = tt
ascends (arm ∷ arms) = put_ascending arm (table_of arms) (ascends arms)

few : (arms : List Arm) → length (table_of arms) ≤ length arms
few [] = omega arith
few (arm ∷ arms) = omega (arith, put_few arm (table_of arms), few arms)

same_found : (arms : List Arm) (default : ℕ) (z : ℤ) → arm_of (table_of arms) default z ≡ arm_of arms default z
same_found [] default z = refl
same_found (arm ∷ arms) default z =
    put_same arm (table_of arms) default z ∙ ap (λ n. if int_eq arm.value z then arm.next else n) (same_found arms default z)

pub tabled : (arms : List Arm) → IsTableOf (table_of arms) arms
tabled arms = (ascending (table_of arms) (ascends arms), few arms, same_found arms)

-- ---- what is found by value

pub found_at : (table : List Arm) → IsAscending table → AreFoundByValue table
found_at [] up k default arm is = absurd (cc)
found_at (it ∷ table) up zero default arm is =
    let same : it ≡ arm = cc in
    ap (λ b. if b then it.next else arm_of table default arm.value) (eq_true it.value arm.value (ap (λ a. a.value) same)) ∙ ap (λ a. a.next) same
found_at (it ∷ table) up (suc k) default arm is =
    ap (λ b. if b then it.next else arm_of table default arm.value) (eq_false it.value arm.value (less_apart it.value arm.value (up 0 (suc k) it arm (omega arith) refl is)))
    ∙ found_at table (λ i j a b lt is is'. up (suc i) (suc j) a b (omega (arith, lt)) is is') k default arm is

pub found_nowhere : (table : List Arm) → OthersFindNone table
found_nowhere [] default z none = refl
found_nowhere (it ∷ table) default z none =
    ap (λ b. if b then it.next else arm_of table default z) (eq_false it.value z (none 0 it refl))
    ∙ found_nowhere table default z (λ k arm is. none (suc k) arm is)

pub switches : SwitchesAreTables
switches = (tabled, λ table up. (found_at table up, found_nowhere table))

-- ---- values for functions without a body

abbrev taken_first : List ℕ → ℤ → List ℤ → List Left → Option (ℤ × List Left)
taken_first n z zs lefts = Some (z, record { stub = n; values = zs } ∷ lefts)

-- the first value, under the name or under the place
first_same : (name : List ℕ) (left : Left) (lefts : List Left) (zs : List ℤ) → left.stub ≡ name → first_value name zs lefts ≡ first_of left 0 (left ∷ lefts) zs
first_same name left lefts [] e = refl
first_same name left lefts (z ∷ zs) e = ap (λ n. taken_first n z zs lefts) (sym e)

more_behind : (left it : Left) (k : ℕ) (lefts : List Left) (zs : List ℤ) → put_before left (first_of it k lefts zs) ≡ first_of it (suc k) (left ∷ lefts) zs
more_behind left it k lefts [] = refl
more_behind left it k lefts (z ∷ zs) = refl

value_behind : (left : Left) (k : ℕ) (lefts : List Left) (o : Option Left) → put_before left (value_of o k lefts) ≡ value_of o (suc k) (left ∷ lefts)
value_behind left k lefts None = refl
value_behind left k lefts (Some it) = more_behind left it k lefts it.values

place_behind : (left : Left) (lefts : List Left) (o : Option ℕ) → put_before left (value_at o lefts) ≡ value_at (option_map suc o) (left ∷ lefts)
place_behind left lefts None = refl
place_behind left lefts (Some k) = value_behind left k lefts (slice_get lefts k)

next_same : (name : List ℕ) (lefts : List Left) → next_value name lefts ≡ value_at (place_of name lefts) lefts
next_same name [] = refl
next_same name (left ∷ lefts) =
    by (bytes_eq left.stub name) (bytes_eq-Decides left.stub name).0 (next_same name lefts)
  where
    by : (b : Bool) → (b ≡ true → left.stub ≡ name) → next_value name lefts ≡ value_at (place_of name lefts) lefts → (if b then first_value name left.values lefts else put_before left (next_value name lefts)) ≡ value_at (if b then Some 0 else option_map suc (place_of name lefts)) (left ∷ lefts)
    by true e rest = first_same name left lefts left.values (e refl)
    by false e rest = ap (put_before left) rest ∙ place_behind left lefts (place_of name lefts)

-- what is left is the same where the answers are
left_same : (a b : ℤ × List Left) → Some a ≡ Some b → a.1 ≡ b.1
left_same a b is =
    let same : a ≡ b = cc in
    ap (λ p. p.1) same

-- a name keeps its place where a value is taken for one
abbrev Kept : (name other : List ℕ) → List Left → Type 0
Kept name other lefts =
    (more : List Left) (y : ℤ) → next_value name lefts ≡ Some (y, more) → place_of other more ≡ place_of other lefts

places_same : (name other : List ℕ) (lefts rest : List Left) (z : ℤ) → next_value name lefts ≡ Some (z, rest) → place_of other rest ≡ place_of other lefts
places_same name other [] rest z is = absurd (cc)
places_same name other (left ∷ lefts) rest z is =
    by (bytes_eq left.stub name) (bytes_eq-Decides left.stub name).0 (λ more y. places_same name other lefts more y) is
  where
    here : (n : List ℕ) → Option ℕ
    here n = if bytes_eq n other then Some 0 else option_map suc (place_of other lefts)

    first : (zs : List ℤ) → left.stub ≡ name → first_value name zs lefts ≡ Some (z, rest) → place_of other rest ≡ here left.stub
    first [] e is = absurd (cc)
    first (y ∷ ys) e is =
        let same : record { stub = name; values = ys } ∷ lefts ≡ rest = left_same (y, record { stub = name; values = ys } ∷ lefts) (z, rest) is in
        ap (place_of other) (sym same) ∙ ap here (sym e)

    behind : Kept name other lefts → (o : Option (ℤ × List Left)) → next_value name lefts ≡ o → put_before left o ≡ Some (z, rest) → place_of other rest ≡ here left.stub
    behind kept None e is = absurd (cc)
    behind kept (Some (y, more)) e is =
        let same : left ∷ more ≡ rest = left_same (y, left ∷ more) (z, rest) is in
        ap (place_of other) (sym same)
        ∙ ap (λ o. if bytes_eq left.stub other then Some 0 else option_map suc o) (kept more y e)

    by : (b : Bool) → (b ≡ true → left.stub ≡ name) → Kept name other lefts → (if b then first_value name left.values lefts else put_before left (next_value name lefts)) ≡ Some (z, rest) → place_of other rest ≡ here left.stub
    by true e kept is = first left.values (e refl) is
    by false e kept is = behind kept (next_value name lefts) refl is

pub stubs : StubsHavePlaces
stubs = (next_same, places_same)

-- ---- registers

pub begin_blank : RegistersBeginBlank
begin_blank zero r = refl
begin_blank (suc n) zero = refl
begin_blank (suc n) (suc r) = begin_blank n r
