-- The values of all variables are reckoned in turn.
use Rattle.std.proofs.Common.{arith, ◌≡◌, refl, sym, ◌∙◌, ap, subst, ℕ, suc, zero, ◌+◌, ◌-◌, ◌<◌, List, [], ◌∷◌, drop, length, get_or, Bool, true, false, None}
use Rattle.std.proofs.Math.Seq.{drop-cons}
use Rattle.lt_elim.specs.declared.stage.Stage.{Stage}
use Rattle.lt_elim.specs.Elimination.{Event, coeff}
use Rattle.lt_elim.specs.Fraction.{Fraction}
use Rattle.lt_elim.specs.Decision.{Verdict, stops, point, least_allowed, with_value}
use Rattle.lt_elim.specs.Reckoning.{CanBoundAll}
use Rattle.lt_elim.specs.Stages.{staged, under}
use Rattle.lt_elim.specs.Values.{HaveBounds, CanReckon}
use Rattle.lt_elim.specs.Tracing.{bare}

bounds_drop : (d k n : ℕ) (ss : List Stage) → n ≡ d + k → HaveBounds n ss → HaveBounds k (drop d ss)
bounds_drop zero k n ss e h = let is : n ≡ k = omega arith in subst (λ (m : ℕ). HaveBounds m ss) is h
bounds_drop (suc d) k n [] e h = tt
bounds_drop (suc d) k zero (s ∷ ss) e h = absurd h
bounds_drop (suc d) k (suc n) (s ∷ ss) e h = bounds_drop d k n ss (omega arith) h.2

can_drop : (d k n : ℕ) (ss : List Stage) → n ≡ d + k → CanReckon n ss → CanReckon k (drop d ss)
can_drop zero k n ss e h = let is : n ≡ k = omega arith in subst (λ (m : ℕ). CanReckon m ss) is h
can_drop (suc d) k n [] e h = tt
can_drop (suc d) k zero (s ∷ ss) e h = absurd h
can_drop (suc d) k (suc n) (s ∷ ss) e h = can_drop d k n ss (omega arith) h.1

under_drop : (b : Bool) (d k n : ℕ) (ss : List Stage) (w : Verdict) (e : Event) → n ≡ d + k → length ss ≡ n → under b k (drop d ss) w ≡ stops e → under b n ss w ≡ stops e
under_drop b zero k n ss w e q l h = let is : k ≡ n = omega arith in subst (λ (m : ℕ). under b m ss w ≡ stops e) is h
under_drop b (suc d) k n [] w e q l h = absurd (omega arith)
under_drop b (suc d) k zero (s ∷ ss) w e q l h = absurd (omega arith)
under_drop b (suc d) k (suc n) (s ∷ ss) w e q l h = ap (staged b n s) (under_drop b d k n ss w e (omega arith) (omega arith) h)

-- the stage of the variable k among those of n variables
pub record IsStage (n k : ℕ) (ss : List Stage) (s : Stage) : Type 0 where
  pub length_is : length ss ≡ n
  pub below : k < n
  pub drop_is : drop (n - 1 - k) ss ≡ s ∷ drop (n - k) ss

pub stage_at : (n k : ℕ) (ss : List Stage) (s : Stage) → length ss ≡ n → k < n → s ≡ get_or ss (n - 1 - k) s → IsStage n k ss s
stage_at n k ss s l h e = record {
  length_is = l;
  below = h;
  drop_is = (let q : suc (n - 1 - k) ≡ n - k = omega arith in drop-cons ss (n - 1 - k) s (omega arith) ∙ ap (λ (x : Stage). x ∷ drop (suc (n - 1 - k)) ss) (sym e) ∙ ap (λ (m : ℕ). s ∷ drop m ss) q);
}

pub stage_bounds : (n k : ℕ) (ss : List Stage) (s : Stage) → IsStage n k ss s → HaveBounds n ss → HaveBounds (suc k) (s ∷ drop (n - k) ss)
stage_bounds n k ss s i h =
    let l : k < n = i.below in
    let e : n ≡ n - 1 - k + suc k = omega arith in
    subst (HaveBounds (suc k)) i.drop_is (bounds_drop (n - 1 - k) (suc k) n ss e h)

stage_can : (n k : ℕ) (ss : List Stage) (s : Stage) → IsStage n k ss s → CanReckon n ss → CanReckon (suc k) (s ∷ drop (n - k) ss)
stage_can n k ss s i h =
    let l : k < n = i.below in
    let e : n ≡ n - 1 - k + suc k = omega arith in
    subst (CanReckon (suc k)) i.drop_is (can_drop (n - 1 - k) (suc k) n ss e h)

-- where there is no value, a number passes the limit
pub value_passes : (b : Bool) (n k : ℕ) (ss : List Stage) (s : Stage) (values : List Fraction) → IsStage n k ss s → (b ≡ false → CanReckon n ss) → under b k (drop (n - k) ss) (point []) ≡ point values → (b ≡ true → least_allowed b k values (bare s.raising.items) (bare s.lowering.items) ≡ None) → (b ≡ false → CanBoundAll k values (bare s.raising.items) → CanBoundAll k values (bare s.lowering.items) → ⊥) → under b n ss (point []) ≡ stops (coeff k)
value_passes b n k ss s values i can e none unfit =
    let l : k < n = i.below in
    under_drop b (n - 1 - k) (suc k) n ss (point []) (coeff k) (omega arith) i.length_is (subst (λ (x : List Stage). under b (suc k) x (point []) ≡ stops (coeff k)) (sym i.drop_is) (ap (staged b k s) e ∙ ap (with_value k values) (by_limit b refl)))
  where
    by_limit : (x : Bool) → b ≡ x → least_allowed b k values (bare s.raising.items) (bare s.lowering.items) ≡ None
    by_limit true f = none f
    by_limit false f =
        let c = (stage_can n k ss s i (can f)).0 values (subst (λ (x : Bool). under x k (drop (n - k) ss) (point []) ≡ point values) f e) in
        absurd (unfit f c.0 c.1)
