-- Where typing comes to a part, it goes on behind it in one way, and breaks no rule.
use Rattle.std.proofs.Common.{◌≡◌, refl, sym, ap, ◌∙◌, subst, ℕ, Bool, true, false, List, [], ◌∷◌, ◌++◌, Option, Some, None}
use Rattle.lt_tree.specs.Typing.Rules.{Rule, least, unless, not_scalar}
use Rattle.lt_tree.specs.Typing.Entities.{Known, Frame, Fact}
use Rattle.lt_tree.specs.Typing.Steps.{Outcome, Goes, Breaks, goes_on, settle, unless_broken, left}
use Rattle.lt_typed_nodes.specs.Coming.{ComesTo}
use Rattle.lt_objective_marks.proofs.Keeping.{Lies, Stays, went}

-- what holds of what is found holds of all that may be found
pub only_way : {A : Type 0} {o : Outcome A} {b : A} {j : Known} (P : A → Known → Type 0) → o ≡ Goes b j → P b j → (a : A) (k : Known) → o ≡ Goes a k → P a k
only_way {A} {o} {b} {j} P goes p a k is = by (sym goes ∙ is)
  where
    by : Goes b j ≡ Goes a k → P a k
    by e = let x : b ≡ a = cc in let y : j ≡ k = cc in subst (λ a. P a k) x (subst (λ k. P b k) y p)

-- a part goes on where what stands behind it does
pub went_on : {A B : Type 0} (o : Outcome A) (rest : A → Known → Outcome B) {b : B} {j : Known} → goes_on o rest ≡ Goes b j → (a : A) × (k : Known) × (o ≡ Goes a k)
went_on (Goes a k) rest is = (a, k, refl)
went_on (Breaks rule node) rest is = absurd cc

-- what stands behind a part goes on where the whole does
pub through : {A B : Type 0} {o : Outcome A} {a : A} {k : Known} (rest : A → Known → Outcome B) {b : B} {j : Known} → goes_on o rest ≡ Goes b j → o ≡ Goes a k → rest a k ≡ Goes b j
through rest goes is = sym (ap (λ o. goes_on o rest) is) ∙ goes

pub found_only : {A : Type 0} {facts : List Fact} {known : Known} {o : Outcome A} (it : ComesTo facts known o) (P : A → Known → Type 0) → P it.found it.behind
    → (a : A) (k : Known) → o ≡ Goes a k → P a k
found_only it P p a k is = only_way P it.goes p a k is

-- where known is what stands behind a part lies as what is known before it
pub lies_behind : {A : Type 0} {was : Bool} {deep : ℕ} {o : Outcome A} {a : A} {k : Known} → Stays was deep o → o ≡ Goes a k → Lies was deep k
lies_behind {A} {was} {deep} {o} {a} {k} stays is = by (subst (λ o. Stays was deep o) is stays)
  where
    by : Stays was deep (Goes a k) → Lies was deep k
    by (went h) = h

-- ---- rules that are not broken

-- where it goes on, it has judged these rules and none is broken
abbrev pub Clears : {A : Type 0} → List Rule → Outcome A → Type 0
Clears {A} rules o = (a : A) (k : Known) → o ≡ Goes a k → rules ≡ []

pub none_broken : (rules : List Rule) → least rules ≡ None → rules ≡ []
none_broken [] h = refl
none_broken (rule ∷ rules) h = absurd cc

clears_by : {B : Type 0} {rules : List Rule} (node : ℕ) (known : Known) (rest : Unit {0} → Known → Outcome B) (rule : Option Rule) → (rule ≡ None → rules ≡ [])
    → Clears rules (goes_on (unless_broken rule node known) rest)
clears_by node known rest None so a k is = so refl
clears_by node known rest (Some rule) so a k is = absurd cc

pub clears_here : {B : Type 0} (node : ℕ) (rules : List Rule) (known : Known) (rest : Unit {0} → Known → Outcome B) → Clears rules (goes_on (settle node rules known) rest)
clears_here node rules known rest = clears_by node known rest (least rules) (none_broken rules)

pub clears_behind : {A B : Type 0} {rules : List Rule} (o : Outcome A) (rest : A → Known → Outcome B) → ((a : A) (k : Known) → Clears rules (rest a k)) → Clears rules (goes_on o rest)
clears_behind (Goes a k) rest f b j is = f a k b j is
clears_behind (Breaks rule node) rest f b j is = absurd cc

-- behind a part that goes on so
pub clears_given : {A B : Type 0} {rules : List Rule} {o : Outcome A} {a : A} {k : Known} (rest : A → Known → Outcome B) → o ≡ Goes a k → Clears rules (rest a k) → Clears rules (goes_on o rest)
clears_given rest is clears b j goes = clears b j (sym (ap (λ o. goes_on o rest) is) ∙ goes)

pub clears_scoped : {A B : Type 0} {rules : List Rule} (frames : List Frame) (o : Outcome A) (rest : A × Frame → Known → Outcome B) → Clears rules o → Clears rules (goes_on (left frames o) rest)
clears_scoped frames (Goes a k) rest clears b j is = clears a k refl
clears_scoped frames (Breaks rule node) rest clears b j is = absurd cc

pub scalar : (is_scalar : Bool) → unless is_scalar not_scalar ≡ [] → is_scalar ≡ true
scalar true is = refl
scalar false is = absurd cc

pub second_empty : (xs ys : List Rule) → xs ++ ys ≡ [] → ys ≡ []
second_empty [] ys is = is
second_empty (x ∷ xs) ys is = absurd cc
