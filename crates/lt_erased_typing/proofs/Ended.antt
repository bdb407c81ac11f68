-- What is known of the parts of walks that go on.
use Rattle.std.proofs.Common.{◌≡◌, ℕ, List, [], ◌∷◌, Bool, true, false, refl, subst}
use Rattle.std.proofs.lemmas.Bool.{false≢true}
use Rattle.std.specs.Prelude.{◌++◌, not, Option}
use Rattle.lt_tree.specs.Typing.Rules.{Rule}
use Rattle.lt_tree.specs.Typing.Entities.{Known, Frame, Fact}
use Rattle.lt_tree.specs.Typing.Steps.{Outcome, Goes, Breaks, goes_on, left, settle, marked_again, notes, gives, ◌>>◌}
use Rattle.lt_tree.specs.Typing.Expressions.{Typed, Use, Judged, used, fact_of, faults_of_any, finish}
use Rattle.lt_tree.specs.Typing.NodeEnds.{enter_if}
use Rattle.lt_erased_typing.proofs.Ends.{left_empty}
use Rattle.lt_erased_typing.proofs.PlainWalks.{IsNear, entered_near}

-- a walk that goes on went on behind its first part
pub went_on : {A B : Type 0} (o : Outcome A) (f : A → Known → Outcome B) {b : B} {l : Known} → goes_on o f ≡ Goes b l
    → (a : A) × (k : Known) × (o ≡ Goes a k) × (f a k ≡ Goes b l)
went_on (Goes a k) f e = (a, k, refl, e)
went_on (Breaks rule node) f e = absurd cc

pub marked_went_on : {A : Type 0} (was : Bool) (o : Outcome A) {a : A} {k : Known} → marked_again was o ≡ Goes a k → (j : Known) × (o ≡ Goes a j)
marked_went_on was (Goes b j) e = (j, cc)
marked_went_on was (Breaks rule node) e = absurd cc

pub scope_went_on : {A : Type 0} (frames : List Frame) (o : Outcome A) {a : A} {k : Known} → goes_on (left frames o) (λ r l. Goes r.0 l) ≡ Goes a k → (b : A) × (j : Known) × (o ≡ Goes b j)
scope_went_on frames (Goes b j) e = (b, j, refl)
scope_went_on frames (Breaks rule node) e = absurd cc

pub nothing_broken : {B : Type 0} (n : ℕ) (rules : List Rule) (k : Known) (f : Unit {0} → Known → Outcome B) {b : B} {l : Known}
    → goes_on (settle n rules k) f ≡ Goes b l → rules ≡ []
nothing_broken n [] k f e = refl
nothing_broken n (rule ∷ rules) k f e = absurd cc

ended_by : (n : ℕ) (rules : List Rule) (fact : Fact) (z : Typed) (k : Known) {x : Typed} {l : Known}
    → goes_on (settle n rules k) (λ u. notes fact >> gives z) ≡ Goes x l → (rules ≡ []) × (x ≡ z)
ended_by n [] fact z k e = (refl, cc)
ended_by n (rule ∷ rules) fact z k e = absurd cc

-- of a node that ends
pub ended : (n : ℕ) (role : Use) (it : Judged) (k : Known) {x : Typed} {l : Known} → finish n role it k ≡ Goes x l → (it.faults ≡ []) × (x ≡ used role it.typed)
unfolding finish
ended n role it k e =
    let both = ended_by n (it.faults ++ faults_of_any k.structs role it.typed) (fact_of n it.typed) (used role it.typed) k e in (left_empty it.faults (faults_of_any k.structs role it.typed) both.0, both.1)

still_near : {A : Type 0} {a b : A} {texts : Bool} {known k j : Known} → IsNear texts known k → Goes a k ≡ Goes b j → IsNear texts known j
still_near {texts = texts} {known = known} s e = subst (IsNear texts known) (same e) s
  where
    same : {A : Type 0} {a b : A} {k j : Known} → Goes a k ≡ Goes b j → k ≡ j
    same e = cc

pub entered_if : {texts : Bool} {known k : Known} (written : Bool) {node : Option ℕ} {j : Known} → IsNear texts known k
    → enter_if written k ≡ Goes node j → IsNear texts known j
entered_if true s e = still_near (entered_near s) e
entered_if false s e = still_near s e

pub not_true : (b : Bool) → not b ≡ true → b ≡ false
not_true true h = absurd (false≢true h)
not_true false h = refl
