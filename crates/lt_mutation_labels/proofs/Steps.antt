-- What a walk that goes on came to on its way.
use Rattle.std.proofs.Common.{◌≡◌, ℕ, List, [], ◌∷◌, ◌++◌, refl}
use Rattle.lt_tree.specs.Typing.Rules.{Rule}
use Rattle.lt_tree.specs.Typing.Entities.{Known}
use Rattle.lt_tree.specs.Typing.Steps.{Outcome, Goes, Breaks, goes_on, settle, notes, gives, ◌>>◌}
use Rattle.lt_tree.specs.Typing.Expressions.{Typed, Use, Judged, used, fact_of, faults_of_any, finish}

pub never : {A : Type 0} {rule : Rule} {node : ℕ} {a : A} {k : Known} → Breaks rule node ≡ Goes a k → ⊥
never e = cc

pub same_value : {A : Type 0} {a b : A} {k j : Known} → Goes a k ≡ Goes b j → a ≡ b
same_value e = cc

pub same_known : {A : Type 0} {a b : A} {k j : Known} → Goes a k ≡ Goes b j → k ≡ j
same_known e = cc

-- a part, and what follows it
pub part : {A B : Type 0} (o : Outcome A) (rest : A → Known → Outcome B) {b : B} {j : Known} → goes_on o rest ≡ Goes b j → (a : A) × (k : Known) × (o ≡ Goes a k) × (rest a k ≡ Goes b j)
part (Goes a k) rest h = (a, k, refl, h)
part (Breaks rule node) rest h = absurd (never h)

ended_by : (node : ℕ) (role : Use) (typed : Typed) (k : Known) (rules : List Rule) {z : Typed} {j : Known}
    → goes_on (settle node rules k) (λ u. notes (fact_of node typed) >> gives (used role typed)) ≡ Goes z j
    → (used role typed ≡ z) × (record k { facts = k.facts ++ fact_of node typed ∷ [] } ≡ j) × (rules ≡ [])
ended_by node role typed k [] h = (same_value h, same_known h, refl)
ended_by node role typed k (rule ∷ rules) h = absurd (never h)

-- a node that ends has broken no rule
pub ended : (node : ℕ) (role : Use) (it : Judged) (k : Known) {z : Typed} {j : Known} → finish node role it k ≡ Goes z j
    → (used role it.typed ≡ z) × (record k { facts = k.facts ++ fact_of node it.typed ∷ [] } ≡ j) × (it.faults ++ faults_of_any k.structs role it.typed ≡ [])
unfolding finish
ended node role it k h = ended_by node role it.typed k (it.faults ++ faults_of_any k.structs role it.typed) h
