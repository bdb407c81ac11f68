-- The table of a `switch`: the cases by value.
use Rattle.std.proofs.Common.{◌≡◌, ℕ, ℤ, zero, suc, ◌+◌, ◌-◌, ◌<◌, ◌≤◌, ◌<ℤ◌, List, [], ◌∷◌, map, length, drop, get_or, Bool, true, false, cond, if◌then◌else◌, Option, Some, slice_get, Result, Ok, Err, IfOk, refl, sym, subst, ap, ◌∙◌, arith}
use Rattle.std.specs.Prelude.{unwrap_or}
use Rattle.std.specs.Ordering.{int_eq, int_cmp}
use Rattle.std.specs.declared.cmp.Ordering.TheVariants.{Less}
use Rattle.std.specs.List.{AllByRecursion}
use Rattle.std.specs.List.Sorted.{IsStrictlySortedBy}
use Rattle.std.specs.Map.{keys_of, lookup}
use Rattle.std.specs.BTreeMap.{BTreeMap, get, is_at, btree_map_len, IsOrdered, Updates}
use Rattle.std.specs.Global.{Vec}
use Rattle.std.specs.declared.alloc.AllocError.{AllocError}
use Rattle.std.proofs.lemmas.Grind.{common_steps}
use Rattle.std.proofs.lemmas.Cmp.{int_ranked, int_eq_equiv}
use Rattle.std.proofs.lemmas.List.{drop_all, length-map}
use Rattle.lt_ir.specs.declared.node.Arm.{Arm}
use Rattle.lt_ir.specs.Tables.{arm_of, IsAscending, IsTableOf}
use Rattle.lt_lower.specs.Stands.{FindsArms, entry_arm}
use Rattle.lt_lower.proofs.Flows.{row_from}

-- ---- the map

found_first : (b : Bool) (n : ℕ) (o : Option ℕ) (default : ℕ) → unwrap_or (cond b (Some n) o) default ≡ (if b then n else unwrap_or o default)
found_first true n o default = refl
found_first false n o default = refl

-- no case is in it yet
pub finds_none : (nodes : BTreeMap ℤ ℕ) (arms : List Arm) (k : ℕ) → length arms ≤ k → nodes.entries ≡ [] → FindsArms nodes (drop k arms)
finds_none nodes arms k past empty =
    let short : length nodes.entries ≡ 0 = ap length empty in
    subst (FindsArms nodes) (sym (drop_all k arms past)) (record {
      finds = λ default z. ap (λ es. unwrap_or (lookup (is_at (int_cmp z)) es) default) empty;
      fits = omega (arith, short);
    })

-- one more was put in, which comes before the others
pub finds_more :
    (nodes after : BTreeMap ℤ ℕ) (arms : List Arm) (k : ℕ) (d : Arm) → 0 < k → k ≤ length arms → FindsArms nodes (drop k arms)
    → Updates int_cmp nodes after (get_or arms (k - 1) d).value (Some (get_or arms (k - 1) d).next)
    → btree_map_len after ≤ btree_map_len nodes + 1 → FindsArms after (drop (k - 1) arms)
finds_more nodes after arms k d some fits before updates longer =
    let arm = get_or arms (k - 1) d in
    let less : k - 1 < length arms = omega arith in
    let is : arm ≡ get_or arms (k - 1) arm = get_or_any arms (k - 1) d arm less in
    subst (FindsArms after) (sym (row_from arms k arm some fits is)) (record {
      finds = λ default z.
          ap (λ o. unwrap_or o default) (updates.0 z) ∙ found_first (int_eq arm.value z) arm.next (get int_cmp nodes z) default
          ∙ ap (λ n. if int_eq arm.value z then arm.next else n) (before.finds default z);
      fits = omega (arith, before.fits, longer);
    })
  where
    get_or_any : {X : Type 0} (xs : List X) (i : ℕ) (x y : X) → i < length xs → get_or xs i x ≡ get_or xs i y
    get_or_any xs i x y there = grind (arith, common_steps)

pub at_most_one : (b : Bool) (m n : ℕ) → n ≡ m + (if b then 0 else 1) → n ≤ m + 1
at_most_one true m n is = omega (arith, is)
at_most_one false m n is = omega (arith, is)

pub finds_all : (nodes : BTreeMap ℤ ℕ) (arms : List Arm) (k : ℕ) → k ≤ 0 → FindsArms nodes (drop k arms) → FindsArms nodes arms
finds_all nodes arms k first finds =
    let none : k ≡ 0 = omega arith in
    let From : ℕ → Type 0 = λ n. FindsArms nodes (drop n arms) in
    subst From none finds

-- ---- its entries in a row

above : (z : ℤ) (es : List (ℤ × ℕ)) (j : ℕ) (other : Arm) → AllByRecursion (λ y. int_cmp z y ≡ Less) (keys_of es)
    → slice_get (map entry_arm es) j ≡ Some other → z <ℤ other.value
above z [] j other all is = absurd (cc)
above z (e ∷ es) zero other all is =
    let same : entry_arm e ≡ other = cc in
    subst (λ (arm : Arm). z <ℤ arm.value) same (int_ranked z e.0 Less (sym all.0))
above z (e ∷ es) (suc j) other all is = above z es j other all.1 is

ascending : (es : List (ℤ × ℕ)) → IsStrictlySortedBy int_cmp (keys_of es) → IsAscending (map entry_arm es)
unfolding IsStrictlySortedBy
ascending [] sorted i j arm other lt is_arm is_other = absurd (cc)
ascending (e ∷ es) sorted zero zero arm other lt is_arm is_other = absurd (omega (arith, lt))
ascending (e ∷ es) sorted (suc i) zero arm other lt is_arm is_other = absurd (omega (arith, lt))
ascending (e ∷ es) sorted zero (suc j) arm other lt is_arm is_other =
    let same : entry_arm e ≡ arm = cc in
    subst (λ (it : Arm). it.value <ℤ other.value) same (above e.0 es j other sorted.0 is_other)
ascending (e ∷ es) sorted (suc i) (suc j) arm other lt is_arm is_other =
    ascending es sorted.1 i j arm other (omega (arith, lt)) is_arm is_other

finds_entry : (es : List (ℤ × ℕ)) (default : ℕ) (z : ℤ)
    → arm_of (map entry_arm es) default z ≡ unwrap_or (lookup (is_at (int_cmp z)) es) default
finds_entry [] default z = refl
finds_entry (e ∷ es) default z =
    ap (λ n. if int_eq e.0 z then e.1 else n) (finds_entry es default z)
    ∙ ap (λ b. if b then e.1 else unwrap_or (lookup (is_at (int_cmp z)) es) default) (int_eq_equiv.symm e.0 z)
    ∙ sym (found_first (int_eq z e.0) e.1 (lookup (is_at (int_cmp z)) es) default)

pub is_table :
    (table arms : List Arm) (nodes : BTreeMap ℤ ℕ) → table ≡ map entry_arm nodes.entries → IsOrdered int_cmp nodes → FindsArms nodes arms
    → IsTableOf table arms
is_table table arms nodes is ordered finds =
    let Is : List Arm → Type 0 = λ row. IsTableOf row arms in
    let long : length (map entry_arm nodes.entries) ≡ length nodes.entries = length-map nodes.entries entry_arm in
    subst Is (sym is) (
      ascending nodes.entries ordered,
      omega (arith, long, finds.fits),
      λ default z. finds_entry nodes.entries default z ∙ finds.finds default z,
    )

pub each_table :
    (result : Result (Vec Arm) AllocError) (nodes : BTreeMap ℤ ℕ) (arms : List Arm) → IsOrdered int_cmp nodes → FindsArms nodes arms
    → IfOk result (λ table. table.items ≡ map entry_arm nodes.entries) → IfOk result (λ table. IsTableOf table.items arms)
each_table (Ok table) nodes arms ordered finds is = is_table table.items arms nodes is ordered finds
each_table (Err error) nodes arms ordered finds is = tt
