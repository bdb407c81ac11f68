-- From a part to which typing comes to those of which it is made.
use Rattle.std.proofs.Common.{◌≡◌, refl, subst, sym, ap, ◌∙◌, ℕ, List, [], ◌∷◌, ◌++◌, Bool, Option, Some, None, append_assoc}
use Rattle.std.proofs.lemmas.List.{append-nil}
use Rattle.lt_tree.specs.Typing.Rules.{Rule, least}
use Rattle.lt_tree.specs.Typing.Entities.{Known, Frame, Fact}
use Rattle.lt_tree.specs.Typing.Steps.{Outcome, Goes, Breaks, goes_on, unless_broken, settle, gives, left, marked_again}
use Rattle.lt_tree.specs.Typing.Expressions.{Typed, Use, used, fact_of, Judged, faults_of_any, finish}
use Rattle.lt_typed_nodes.specs.Laws.{NotesBegunNodes}
use Rattle.lt_typed_nodes.specs.Coming.{ComesTo, entered, unmarked_here, in_new_block}
use Rattle.lt_typed_nodes.proofs.FactSteps.{Notes, went, broke, Whole, EndsAt, whole}
use Rattle.lt_typed_nodes.proofs.FoundFacts.{begun_inside, begun_behind}

-- ---- what is noted behind

-- More facts are noted behind these.
pub data Grows {A : Type 0} (facts : List Fact) : Outcome A → Type 0 where
  grew : {a : A} {behind : Known} (more : List Fact) → behind.facts ≡ facts ++ more → Grows facts (Goes a behind)
  stopped : {rule : Rule} {node : ℕ} → Grows facts (Breaks rule node)

pub of_part : {A : Type 0} {low start : ℕ} {facts : List Fact} {o : Outcome A} → Notes low start facts o → Grows facts o
of_part (went more le e all) = grew more e
of_part broke = stopped

pub of_it : {role : Use} (known : Known) {o : Outcome Typed} → EndsAt role known o → Grows known.facts o
of_it known ends = of_part (whole known ends)

pub none : {A : Type 0} {a : A} (known : Known) → Grows known.facts (Goes a known)
none known = grew [] (sym (append-nil known.facts))

grown_more : {B : Type 0} {facts between : List Fact} (more : List Fact) {o : Outcome B} → between ≡ facts ++ more → Grows between o → Grows facts o
grown_more {B} {facts} more is (grew others e) = grew (more ++ others) (e ∙ ap (λ list. list ++ others) is ∙ append_assoc facts more others)
grown_more more is stopped = stopped

pub next : {A B : Type 0} {facts : List Fact} {o : Outcome A} {rest : A → Known → Outcome B} → Grows facts o → ((a : A) (k : Known) → Grows k.facts (rest a k)) → Grows facts (goes_on o rest)
next (grew {a = a} {behind = k} more e) f = grown_more more e (f a k)
next stopped f = stopped

settled_by : (node : ℕ) (rule : Option Rule) (known : Known) → Grows known.facts (unless_broken rule node known)
settled_by node None known = none known
settled_by node (Some rule) known = stopped

pub settled : (node : ℕ) (rules : List Rule) (known : Known) → Grows known.facts (settle node rules known)
settled node rules known = settled_by node (least rules) known

finished_by : (node : ℕ) (role : Use) (rule : Option Rule) (y : Typed) (known : Known)
    → Grows known.facts (goes_on (unless_broken rule node known) (λ u k. Goes (used role y) (record k { facts = k.facts ++ fact_of node y ∷ [] })))
finished_by node role None y known = grew (fact_of node y ∷ []) refl
finished_by node role (Some rule) y known = stopped

pub finished : (node : ℕ) (role : Use) (it : Judged) (known : Known) → Grows known.facts (finish node role it known)
unfolding finish
finished node role it known = finished_by node role (least (it.faults ++ faults_of_any known.structs role it.typed)) it.typed known

-- ---- the first part, and what stands behind it

-- the facts behind a part
abbrev facts_behind : {A : Type 0} → Outcome A → List Fact
facts_behind (Goes a known) = known.facts
facts_behind (Breaks rule node) = []

breaks_not : {B : Type 0} {rule : Rule} {node : ℕ} {b : B} {end : Known} → Breaks rule node ≡ Goes b end → ⊥
breaks_not e = cc

grown_by : {A : Type 0} (facts : List Fact) (a : A) (behind : Known) → Grows facts (Goes a behind) → (more : List Fact) × (behind.facts ≡ facts ++ more)
grown_by facts a behind (grew more e) = (more, e)

pub first : {A B : Type 0} {facts : List Fact} {known : Known} (o : Outcome A) {rest : A → Known → Outcome B}
    → ComesTo facts known (goes_on o rest) → ((a : A) (k : Known) → Grows k.facts (rest a k)) → ComesTo facts known o
first {A} {B} {facts} (Goes a k) {rest} it f =
    let grown : (more : List Fact) × (it.behind.facts ≡ k.facts ++ more) = grown_by k.facts it.found it.behind (subst (λ o. Grows k.facts o) it.goes (f a k)) in
    record {
      begun = it.begun;
      found = a;
      behind = k;
      later = grown.0 ++ it.later;
      goes = refl;
      are = it.are ∙ ap (λ list. list ++ it.later) grown.1 ∙ append_assoc k.facts grown.0 it.later;
    }
first (Breaks rule node) it f = absurd (breaks_not it.goes)

pub behind : {A B : Type 0} {facts : List Fact} {known : Known} {o : Outcome A} (rest : A → Known → Outcome B)
    → ComesTo facts known (goes_on o rest) → Whole known o → (a : A) (k : Known) → o ≡ Goes a k → ComesTo facts k (rest a k)
behind {A} {B} {facts} {known} {o} rest it w a k is = record {
  begun = begun_behind known k (subst (λ o. Whole known o) is w) it.begun;
  found = it.found;
  behind = it.behind;
  later = it.later;
  goes = sym (ap (λ o. goes_on o rest) is) ∙ it.goes;
  are = it.are;
}

-- inside the node that begins here
pub inside : {A : Type 0} {facts : List Fact} {known : Known} {o : Outcome A} → ComesTo facts known o → ComesTo facts (entered known) o
inside {known = known} it = record { begun = begun_inside known it.begun; found = it.found; behind = it.behind; later = it.later; goes = it.goes; are = it.are }

-- without marks, and in a scope of its own
pub unmarked : {A : Type 0} {facts : List Fact} (was : Bool) (known : Known) (o : Outcome A) → ComesTo facts known (marked_again was o) → ComesTo facts (unmarked_here known) o
unmarked was known (Goes a k) it =
    record { begun = it.begun; found = a; behind = k; later = it.later; goes = refl; are = it.are ∙ ap (λ list. list ++ it.later) (sym (ap facts_behind it.goes)) }
unmarked was known (Breaks rule node) it = absurd (breaks_not it.goes)

-- what is in other frames
pub in_frames : {A : Type 0} {facts : List Fact} (frames : List Frame) (known inner : Known) (o : Outcome A) → NotesBegunNodes inner → ComesTo facts known (left frames o) → ComesTo facts inner o
in_frames frames known inner (Goes a k) begun it =
    record { begun = begun; found = a; behind = k; later = it.later; goes = refl; are = it.are ∙ ap (λ list. list ++ it.later) (sym (ap facts_behind it.goes)) }
in_frames frames known inner (Breaks rule node) begun it = absurd (breaks_not it.goes)

pub in_scope : {A : Type 0} {facts : List Fact} (known : Known) (o : Outcome A) → ComesTo facts known (goes_on (left known.frames o) (λ r. gives r.0)) → ComesTo facts (in_new_block known) o
in_scope known o it = in_frames known.frames known (in_new_block known) o it.begun (first (left known.frames o) it (λ r k. none k))

-- a node that is judged before what stands behind it
pub judged : {A : Type 0} {facts : List Fact} {known : Known} (node : ℕ) (rules : List Rule) (o : Known → Outcome A)
    → ComesTo facts known (goes_on (settle node rules known) (λ u k. o k)) → ComesTo facts known (o known)
judged {A} {facts} {known} node rules o it = by (least rules) it
  where
    by : (rule : Option Rule) → ComesTo facts known (goes_on (unless_broken rule node known) (λ u k. o k)) → ComesTo facts known (o known)
    by None it = it
    by (Some rule) it = absurd (breaks_not it.goes)
