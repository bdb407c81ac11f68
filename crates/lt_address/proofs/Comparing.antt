-- Whether one list of targets lies within another, target by target.
use Rattle.std.proofs.Common.{arith, ◌≡◌, refl, sym, subst, suc, ℕ, ◌↔◌, List, [], ◌∷◌, true, false}
use Rattle.std.specs.Prelude.{Option, Some, IsTrue}
use Rattle.lt_value.specs.declared.num.Num.{Num}
use Rattle.lt_address.specs.declared.target.Target.{Target}
use Rattle.lt_address.specs.Targets.{IsAscendingFrom, IsAscending}
use Rattle.lt_address.specs.Seeking.{IsSought, IsWithin, IsAmong}
use Rattle.lt_address.proofs.Pointing.{within_step, ascending_lower}

-- a lies within b exactly where the rest of a does within the rest of b
pub record IsComparing (a b left right : List Target) (low : ℕ) : Type 0 where
  pub left_up : IsAscendingFrom low left
  pub right_up : IsAscending right
  pub same : IsWithin a b ↔ IsWithin left right

pub comparing_first : (a b : List Target) → IsAscending a → IsAscending b → IsComparing a b a b 0
comparing_first a b p q = record { left_up = p; right_up = q; same = (λ h. h, λ h. h) }

pub comparing_along : (a b left right more : List Target) (t : Target) (low : ℕ) → left ≡ (t ∷ more) → IsComparing a b left right low → IsComparing a b (t ∷ more) right low
comparing_along a b left right more t low e g = subst (λ (ts : List Target). IsComparing a b ts right low) e g

pub comparing_next : (a b right more rest : List Target) (t : Target) (low : ℕ) (n : Option Num) → IsComparing a b (t ∷ more) right low → IsSought right t.block n rest → IsAmong (Some t.at) n → IsComparing a b more rest (suc t.block)
comparing_next a b right more rest t low n g so among =
    let step = within_step t more right rest n low g.left_up so in
    record {
      left_up = g.left_up.1;
      right_up = ascending_lower rest 0 (suc t.block) (omega arith) so.ascending;
      same = (λ h. (step.0 (g.same.0 h)).1, λ h. g.same.1 (step.1 (among, h)));
    }

pub comparing_fails : (a b right more rest : List Target) (t : Target) (low : ℕ) (n : Option Num) → IsComparing a b (t ∷ more) right low → IsSought right t.block n rest → (IsAmong (Some t.at) n → ⊥) → IsTrue false ↔ IsWithin a b
comparing_fails a b right more rest t low n g so apart = (λ h. cc, λ h. absurd (apart ((within_step t more right rest n low g.left_up so).0 (g.same.0 h)).0))

pub comparing_last : (a b left right : List Target) (low : ℕ) → left ≡ [] → IsComparing a b left right low → IsTrue true ↔ IsWithin a b
comparing_last a b left right low e g = (λ h. g.same.1 (subst (λ (ts : List Target). IsWithin ts right) (sym e) (λ c z k. absurd k)), λ h. refl)
