-- Lists of targets in ascending order.
use Rattle.std.proofs.Common.{arith, ◌≡◌, refl, sym, subst, suc, ℕ, ℤ, ◌<◌, ◌≤◌, ◌↔◌, inl, inr, List, [], ◌∷◌, length}
use Rattle.std.specs.Prelude.{Option, Some, None}
use Rattle.lt_value.specs.declared.num.Num.{Num}
use Rattle.lt_value.specs.Num.{Holds, IsBelow}
use Rattle.lt_value.proofs.Members.{lo_holds}
use Rattle.lt_address.specs.declared.target.Target.{Target}
use Rattle.lt_address.specs.Targets.{IsAscendingFrom, IsAscending, PointsTo}
use Rattle.lt_address.specs.Seeking.{IsSought, BeginsWith, IsWithin, IsAmong, IsJoinNumbers}

-- what an ascending list points to is not before its least block
pub points_from : (ts : List Target) (least block : ℕ) (z : ℤ) → IsAscendingFrom least ts → PointsTo ts block z → least ≤ block
points_from [] least block z up h = absurd h
points_from (t ∷ ts) least block z up (inl h) = omega (arith, up.0, h.0)
points_from (t ∷ ts) least block z up (inr h) = omega (arith, up.0, points_from ts (suc t.block) block z up.1 h)

pub ascending_lower : (ts : List Target) (less least : ℕ) → less ≤ least → IsAscendingFrom least ts → IsAscendingFrom less ts
ascending_lower [] less least h up = tt
ascending_lower (t ∷ ts) less least h up = (omega (arith, up.0), up.1)

-- ---- seeking a block: how far the walk has come
pub record IsSoughtSoFar (ts rest : List Target) (block : ℕ) : Type 0 where
  pub ascending : IsAscending rest
  pub same : (b : ℕ) (z : ℤ) → block ≤ b → PointsTo rest b z ↔ PointsTo ts b z
  pub shorter : length rest ≤ length ts
  pub begins : BeginsWith ts block → rest ≡ ts

pub sought_first : (ts : List Target) (block : ℕ) → IsAscending ts → IsSoughtSoFar ts ts block
sought_first ts block up = record { ascending = up; same = λ b z h. (λ k. k, λ k. k); shorter = omega arith; begins = λ _. refl }

pub sought_next : (ts more : List Target) (t : Target) (block : ℕ) → IsSoughtSoFar ts (t ∷ more) block → t.block < block → IsSoughtSoFar ts more block
sought_next ts more t block so less = record {
  ascending = ascending_lower more 0 (suc t.block) (omega arith) so.ascending.1;
  same = λ b z h. (λ k. (so.same b z h).0 (inr k), λ k. later b z h ((so.same b z h).1 k));
  shorter = omega (arith, so.shorter);
  begins = λ k. absurd (passed ts (so.begins k) k);
}
  where
    later : (b : ℕ) (z : ℤ) → block ≤ b → PointsTo (t ∷ more) b z → PointsTo more b z
    later b z h (inl k) = absurd (omega (arith, k.0))
    later b z h (inr k) = k

    passed : (us : List Target) → (t ∷ more) ≡ us → BeginsWith us block → ⊥
    passed us e k = let begins : BeginsWith (t ∷ more) block = subst (λ (vs : List Target). BeginsWith vs block) (sym e) k in omega (arith, begins)

pub sought_here : (ts more : List Target) (t : Target) (block : ℕ) → IsSoughtSoFar ts (t ∷ more) block → t.block ≡ block → IsSought ts block (Some t.at) more
sought_here ts more t block so e = record {
  here = λ z. (λ k. (so.same block z (omega arith)).0 (inl (e, k)), λ k. first z ((so.same block z (omega arith)).1 k));
  beyond = λ b z h. (λ k. (so.same b z (omega arith)).0 (inr k), λ k. later b z h ((so.same b z (omega arith)).1 k));
  ascending = subst (λ (k : ℕ). IsAscendingFrom (suc k) more) e so.ascending.1;
}
  where
    first : (z : ℤ) → PointsTo (t ∷ more) block z → Holds t.at z
    first z (inl k) = k.1
    first z (inr k) = absurd (omega (arith, points_from more (suc t.block) block z so.ascending.1 k))

    later : (b : ℕ) (z : ℤ) → block < b → PointsTo (t ∷ more) b z → PointsTo more b z
    later b z h (inl k) = absurd (omega (arith, k.0))
    later b z h (inr k) = k

pub sought_along : (ts us more : List Target) (t : Target) (block : ℕ) → us ≡ (t ∷ more) → IsSoughtSoFar ts us block → IsSoughtSoFar ts (t ∷ more) block
sought_along ts us more t block e so = subst (λ (vs : List Target). IsSoughtSoFar ts vs block) e so

pub sought_beyond : (ts us more : List Target) (t : Target) (block : ℕ) → us ≡ (t ∷ more) → IsSoughtSoFar ts us block → block < t.block → IsSought ts block None us
sought_beyond ts us more t block e so less = subst (IsSought ts block None) (sym e) (go (sought_along ts us more t block e so))
  where
    go : IsSoughtSoFar ts (t ∷ more) block → IsSought ts block None (t ∷ more)
    go so = record {
      here = λ z. (λ k. absurd k, λ k. none so z ((so.same block z (omega arith)).1 k));
      beyond = λ b z h. so.same b z (omega arith);
      ascending = (omega arith, so.ascending.1);
    }
      where
        none : IsSoughtSoFar ts (t ∷ more) block → (z : ℤ) → PointsTo (t ∷ more) block z → ⊥
        none so z k = omega (arith, points_from (t ∷ more) t.block block z (omega arith, so.ascending.1) k)

pub sought_none : (ts : List Target) (block : ℕ) → IsSoughtSoFar ts [] block → IsSought ts block None []
sought_none ts block so = record {
  here = λ z. (λ k. absurd k, λ k. (so.same block z (omega arith)).1 k);
  beyond = λ b z h. so.same b z (omega arith);
  ascending = tt;
}

-- ---- lists within lists
-- all offsets in one block of an ascending list are members of one set
pub one_set : (ts : List Target) (least block : ℕ) (z : ℤ) → IsAscendingFrom least ts → PointsTo ts block z → (n : Num) × ((y : ℤ) → PointsTo ts block y ↔ Holds n y)
one_set [] least block z up h = absurd h
one_set (t ∷ ts) least block z up (inl h) = (t.at, λ y. (λ k. only y k, λ k. inl (h.0, k)))
  where
    only : (y : ℤ) → PointsTo (t ∷ ts) block y → Holds t.at y
    only y (inl k) = k.1
    only y (inr k) = absurd (omega (arith, points_from ts (suc t.block) block y up.1 k, h.0))
one_set (t ∷ ts) least block z up (inr h) = let (n, is) = one_set ts (suc t.block) block z up.1 h in (n, λ y. (λ k. (is y).0 (later y k), λ k. inr ((is y).1 k)))
  where
    later : (y : ℤ) → PointsTo (t ∷ ts) block y → PointsTo ts block y
    later y (inl k) = absurd (omega (arith, points_from ts (suc t.block) block z up.1 h, k.0))
    later y (inr k) = k

-- one target more lies within a list exactly where its offsets do and the rest does
pub within_step : (t : Target) (more right rest : List Target) (n : Option Num) (least : ℕ) → IsAscendingFrom least (t ∷ more) → IsSought right t.block n rest → IsWithin (t ∷ more) right ↔ (IsAmong (Some t.at) n × IsWithin more rest)
within_step t more right rest n least up so = (
  λ h. (
    λ z k. (so.here z).1 (h t.block z (inl (refl, k))),
    λ b z k. (so.beyond b z (points_from more (suc t.block) b z up.1 k)).1 (h b z (inr k)),
  ),
  λ h b z k. there h b z k,
)
  where
    there : IsAmong (Some t.at) n × IsWithin more rest → (b : ℕ) (z : ℤ) → PointsTo (t ∷ more) b z → PointsTo right b z
    there h b z (inl k) = subst (λ (c : ℕ). PointsTo right c z) k.0 ((so.here z).0 (h.0 z k.1))
    there h b z (inr k) = (so.beyond b z (points_from more (suc t.block) b z up.1 k)).0 (h.1 b z k)

-- ---- sets that may be missing
pub joined_both : (m n o : Num) → IsBelow m o → IsBelow n o → ((p : Num) → IsBelow m p → IsBelow n p → IsBelow o p) → IsJoinNumbers (Some m) (Some n) (Some o)
joined_both m n o left right least = record { left = left; right = right; least = by_set }
  where
    by_set : (p : Option Num) → IsAmong (Some m) p → IsAmong (Some n) p → IsAmong (Some o) p
    by_set None h k = absurd (h m.lo (lo_holds m))
    by_set (Some p) h k = least p h k

pub not_among_none : (m : Num) → IsAmong (Some m) None → ⊥
not_among_none m h = h m.lo (lo_holds m)
