-- Where values ascend an arm is found by halving.
use Rattle.std.proofs.Common.{arith, Bool, true, false, nat_lt, ◌≡◌, refl, sym, ◌∙◌, ap, ℕ, ◌<◌, ◌≤◌, ℤ, List, length, get_or, Result, Ok, Err}
use Rattle.std.specs.Prelude.{◌<ℤ◌, ◌≤ℤ◌}
use Rattle.std.specs.List.Sorted.{IsSearchInRange, IsBinarySearchResult, IsNonDecreasingBy}
use Rattle.std.specs.Ordering.{int_cmp, ordering_index, MatchOrdering}
use Rattle.std.specs.declared.cmp.Ordering.{Ordering}
use Rattle.std.specs.declared.cmp.Ordering.TheVariants.{Less, Equal, Greater}
use Rattle.std.specs.Cmp.{int_ranks}
use Rattle.std.proofs.lemmas.Int.{ints}
use Rattle.std.proofs.lemmas.Bool.Decides.{nat_tests}
use Rattle.std.specs.Result.{MatchResult}
use Rattle.std.proofs.lemmas.Cmp.{int_ranked}
use Rattle.std.proofs.lemmas.Option.{slice_get-get_or, slice_get_within, get_or_from_slice_get}
use Rattle.lt_ir.specs.declared.node.Arm.{Arm}
use Rattle.lt_ir.specs.Tables.{arm_of, IsAscending}
use Rattle.lt_ir.specs.Prepared.{AreFoundByValue, OthersFindNone}

index_up : (a b z : ℤ) (x y : Ordering) → MatchOrdering x (a <ℤ z) (a ≡ z) (z <ℤ a) → MatchOrdering y (b <ℤ z) (b ≡ z) (z <ℤ b) → a ≤ℤ b → ordering_index x ≤ ordering_index y
index_up a b z Less y h i le = omega arith
index_up a b z Equal Less h i le = absurd (omega (arith, ints))
index_up a b z Equal Equal h i le = omega arith
index_up a b z Equal Greater h i le = omega arith
index_up a b z Greater Less h i le = absurd (omega (arith, ints))
index_up a b z Greater Equal h i le = absurd (omega (arith, ints))
index_up a b z Greater Greater h i le = omega arith

below_or : {P : Type 0} (i j : ℕ) (b : Bool) → b ≡ nat_lt i j → (i < j → P) → (j ≤ i → P) → P
below_or i j true e f g = f (grind (arith, nat_tests))
below_or i j false e f g = g (grind (arith, nat_tests))

module _ (table : List Arm) (up : IsAscending table) (z : ℤ) where
  ascend : (i j : ℕ) (d : Arm) → i ≤ j → j < length table → (get_or table i d).value ≤ℤ (get_or table j d).value
  ascend i j d le within = below_or i j (nat_lt i j) refl (λ h. let u = up i j (get_or table i d) (get_or table j d) h (slice_get-get_or table i d (omega arith)) (slice_get-get_or table j d within) in omega (arith, ints)) (λ h. let e : i ≡ j = omega arith in let f : (get_or table i d).value ≡ (get_or table j d).value = ap (λ k. (get_or table k d).value) e in omega (arith, ints))

  rises : IsNonDecreasingBy (λ arm. ordering_index (int_cmp arm.value z)) table
  rises i j d le within = index_up _ _ z _ _ (int_ranks (get_or table i d).value z) (int_ranks (get_or table j d).value z) (ascend i j d le within)

  pub followed : (default : ℕ) (r : Result ℕ ℕ) → AreFoundByValue table → OthersFindNone table → IsSearchInRange r (length table) → IsBinarySearchResult (λ arm. int_cmp arm.value z) table r
      → MatchResult r (λ k. (d : Arm) → (get_or table k d).next ≡ arm_of table default z) (λ k. default ≡ arm_of table default z)
  followed default (Ok k) found none within equal = λ d.
      let e : (get_or table k d).value ≡ z = int_ranked _ z _ (sym (equal d)) in
      sym (found k default (get_or table k d) (slice_get-get_or table k d within)) ∙ ap (arm_of table default) e
  followed default (Err k) found none within parted = sym (none default z (λ j arm is same.
      let within1 : j < length table = slice_get_within table j arm is in
      let here : (get_or table j arm).value ≡ z = ap (λ (a : Arm). a.value) (get_or_from_slice_get table j arm arm is) ∙ same in
      below_or j k (nat_lt j k) refl
      (λ h. let l : (get_or table j arm).value <ℤ z = int_ranked _ z _ (sym ((parted rises).0 j arm (omega arith) h)) in absurd (omega (arith, ints)))
      (λ h. let l : z <ℤ (get_or table j arm).value = int_ranked _ z _ (sym ((parted rises).1 j arm h within1)) in absurd (omega (arith, ints)))))
