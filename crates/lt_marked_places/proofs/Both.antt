-- Where the typing of a part of the unit goes on, and that of the part with marks added does, the same is known behind both.
use Rattle.std.proofs.Common.{◌≡◌, ℕ, List, Bool, refl, subst}
use Rattle.lt_tree.specs.Typing.Entities.{Known, Frame, Fact}
use Rattle.lt_tree.specs.Typing.Steps.{Outcome, Goes, Breaks, goes_on, left}
use Rattle.lt_typed_nodes.specs.Coming.{ComesTo}
use Rattle.lt_mark_typing.specs.Further.{Extends, Agrees}
use Rattle.lt_mark_typing.specs.Beside.{IsBeside, Follows, goes, breaks}

-- ---- typing that goes on

pub same_value : {A : Type 0} {a b : A} {k j : Known} → Goes a k ≡ Goes b j → a ≡ b
same_value e = cc

pub same_known : {A : Type 0} {a b : A} {k j : Known} → Goes a k ≡ Goes b j → k ≡ j
same_known e = cc

-- a part goes on where what stands behind it does
pub went_on : {A B : Type 0} (o : Outcome A) (rest : A → Known → Outcome B) {b : B} {j : Known} → goes_on o rest ≡ Goes b j → (a : A) × (k : Known) × (o ≡ Goes a k) × (rest a k ≡ Goes b j)
went_on (Goes a k) rest is = (a, k, refl, is)
went_on (Breaks rule node) rest is = absurd cc

abbrev pub IsGone : {A : Type 0} → Outcome A → Type 0
IsGone {A} o = (a : A) × (k : Known) × (o ≡ Goes a k)

pub gone : {A : Type 0} {facts : List Fact} {known : Known} {o : Outcome A} → ComesTo facts known o → IsGone o
gone h = (h.found, h.behind, h.goes)

pub first_gone : {A B : Type 0} (o : Outcome A) (rest : A → Known → Outcome B) → IsGone (goes_on o rest) → IsGone o
first_gone o rest h = let it = went_on o rest h.2 in (it.0, it.1, it.2)

pub block_gone : {A : Type 0} (frames : List Frame) (o : Outcome A) → IsGone o → IsGone (goes_on (left frames o) (λ r known. Goes r.0 known))
block_gone frames (Goes a k) h = (a, record k { frames = frames }, refl)
block_gone frames (Breaks rule node) (a, k, e) = absurd cc

-- ---- both go on

pub record BothGo {A B : Type 0} (new : ℕ → Bool) (after : List ℕ) (relation : (ℕ → ℕ) → A → B → Type 0) (o : Outcome A) (b : B) (there : Known) : Type 0 where
  pub found : A
  pub known : Known
  pub behind : List Bool
  pub goes : o ≡ Goes found known
  pub related : (r : ℕ → ℕ) → Agrees r behind → relation r found b
  pub beside : IsBeside new after behind known there

module _ {A B : Type 0} {new : ℕ → Bool} {after : List ℕ} {further : List Bool} {relation : (ℕ → ℕ) → A → B → Type 0} where
  -- what both found is related, and the same is known behind
  pub found_both : {o : Outcome A} {p : Outcome B} {a : A} {b : B} {k j : Known} → Follows new after further relation o p → o ≡ Goes a k → p ≡ Goes b j
      → (behind : List Bool) × ((r : ℕ → ℕ) → Agrees r behind → relation r a b) × IsBeside new after behind k j × Extends further behind
  found_both {a = a} {b} {k} {j} (goes {a = x} {b = y} {known} {other} behind e r s) h g = (
    behind,
    λ n i. subst (λ a. relation n a b) (same_value h) (subst (relation n x) (same_value g) (r n i)),
    subst (λ k. IsBeside new after behind k j) (same_known h) (subst (IsBeside new after behind known) (same_known g) s),
    e,
  )
  found_both breaks h g = absurd cc

  pub both : {o : Outcome A} {p : Outcome B} {b : B} {there : Known} → Follows new after further relation o p → IsGone o → p ≡ Goes b there → BothGo new after relation o b there
  both d h e = let it = found_both d h.2 e in record { found = h.0; known = h.1; behind = it.0; goes = h.2; related = it.1; beside = it.2 }
