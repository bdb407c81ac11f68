-- How facts go on while a unit is typed.
use Rattle.std.proofs.Common.{◌≡◌, refl, sym, ap, ◌∙◌, subst, ℕ, suc, ◌+◌, ◌<◌, ◌≤◌, List, [], ◌∷◌, ◌++◌, Bool, Option, Some, None, append_assoc, arith}
use Rattle.std.proofs.lemmas.List.{append-nil}
use Rattle.std.specs.List.{AllByRecursion}
use Rattle.lt_tree.specs.Typing.Rules.{Rule, least}
use Rattle.lt_tree.specs.Typing.Entities.{Known, Frame, Fact, Label}
use Rattle.lt_tree.specs.Typing.Steps.{Outcome, Goes, Breaks, goes_on, unless_broken, settle, gives, left, marked_again}
use Rattle.lt_tree.specs.Typing.Expressions.{Typed, Use, used, fact_of, Judged, faults_of_any, finish}
use Rattle.lt_typed_nodes.specs.Laws.{AreOfNodes, NotesItsNodes}
use Rattle.lt_typed_nodes.specs.Coming.{in_new_block}

-- ---- lists of facts

pub all_joined : {X : Type 0} (P : X → Type 0) (xs ys : List X) → AllByRecursion P xs → AllByRecursion P ys → AllByRecursion P (xs ++ ys)
all_joined P [] ys p q = q
all_joined P (x ∷ xs) ys p q = (p.0, all_joined P xs ys p.1 q)

pub all_weaker : {X : Type 0} (P Q : X → Type 0) → ((x : X) → P x → Q x) → (xs : List X) → AllByRecursion P xs → AllByRecursion Q xs
all_weaker P Q f [] p = tt
all_weaker P Q f (x ∷ xs) p = (f x p.0, all_weaker P Q f xs p.1)

-- among more nodes
pub among : {first behind : ℕ} (least last : ℕ) (facts : List Fact) → least ≤ first → behind ≤ last → AreOfNodes first behind facts → AreOfNodes least last facts
among {first} {behind} least last facts lower upper all =
    all_weaker (λ (fact : Fact). (first ≤ fact.node) × (fact.node < behind)) (λ (fact : Fact). (least ≤ fact.node) × (fact.node < last)) (λ fact p. (omega (arith, p.0), omega (arith, p.1))) facts all

joined_nodes : (first behind : ℕ) (xs ys : List Fact) → AreOfNodes first behind xs → AreOfNodes first behind ys → AreOfNodes first behind (xs ++ ys)
joined_nodes first behind xs ys p q = all_joined (λ (fact : Fact). (first ≤ fact.node) × (fact.node < behind)) xs ys p q

-- ---- parts

-- From a node of number `start` on, facts are noted behind these, of nodes from `low` on.
pub data Notes {A : Type 0} (low start : ℕ) (facts : List Fact) : Outcome A → Type 0 where
  went : {a : A} {known : Known} (more : List Fact) → start ≤ known.next → known.facts ≡ facts ++ more → AreOfNodes low known.next more → Notes low start facts (Goes a known)
  broke : {rule : Rule} {node : ℕ} → Notes low start facts (Breaks rule node)

-- a whole part, whose nodes begin here
abbrev pub Whole : {A : Type 0} → Known → Outcome A → Type 0
Whole known o = Notes known.next known.next known.facts o

pub as_said : {A : Type 0} (known : Known) {o : Outcome A} → Whole known o → NotesItsNodes known o
as_said known (went more le e all) = (more, e, all)
as_said known broke = tt

-- what goes on behind a part
moved : {B : Type 0} {low start k : ℕ} {facts between : List Fact} (more : List Fact) {o : Outcome B}
    → start ≤ k → between ≡ facts ++ more → AreOfNodes low k more → Notes low k between o → Notes low start facts o
moved {B} {low} {start} {k} {facts} {between} more {o} at is before (went {known = behind} others le e all) =
    went (more ++ others) (omega arith) (e ∙ ap (λ list. list ++ others) is ∙ append_assoc facts more others)
    (joined_nodes low behind.next more others (among low behind.next more (omega arith) le before) all)
moved {B} {low} {start} {k} {facts} {between} more {o} at is before broke = broke

pub after : {A B : Type 0} {low start : ℕ} {facts : List Fact} {o : Outcome A} {rest : A → Known → Outcome B}
    → Notes low start facts o → ((a : A) (k : Known) → start ≤ k.next → Notes low k.next k.facts (rest a k)) → Notes low start facts (goes_on o rest)
after (went {a = a} {known = known} more le e all) f = moved more le e all (f a known le)
after broke f = broke

lower : {A : Type 0} {low before start : ℕ} {facts : List Fact} {o : Outcome A} → low ≤ before → Notes before start facts o → Notes low start facts o
lower {low = low} below (went {known = known} more le e all) = went more le e (among low known.next more below (omega arith) all)
lower below broke = broke

-- nothing more
pub done : {A : Type 0} {low : ℕ} {a : A} (known : Known) → Notes low known.next known.facts (Goes a known)
done known = went [] (omega arith) (sym (append-nil known.facts)) tt

pub done_at : {A : Type 0} {low : ℕ} {a : A} (known behind : Known) → behind.next ≡ known.next → behind.facts ≡ known.facts → Notes low known.next known.facts (Goes a behind)
done_at known behind next facts = went [] (omega arith) (facts ∙ sym (append-nil known.facts)) tt

-- two parts, one behind the other
pub joined : {A B : Type 0} (known : Known) {o : Outcome A} {rest : A → Known → Outcome B}
    → Whole known o → ((a : A) (k : Known) → Whole k (rest a k)) → Whole known (goes_on o rest)
joined known w f = after w (λ a k le. lower le (f a k))

-- ---- inside a node

later : {A : Type 0} {low start : ℕ} {facts : List Fact} {o : Outcome A} → Notes low (start + 1) facts o → Notes low start facts o
later (went more le e all) = went more (omega arith) e all
later broke = broke

-- the node that begins here, and then its parts
pub node : {A : Type 0} (known : Known) {o : Outcome A} → (known.next < known.next + 1 → Notes known.next (known.next + 1) known.facts o) → Whole known o
node known f = later (f (omega arith))

-- a part of the node, and what goes on behind it
pub part : {A B : Type 0} {low : ℕ} (known : Known) {o : Outcome A} {rest : A → Known → Outcome B}
    → low < known.next → Whole known o → ((a : A) (k : Known) → low < k.next → Notes low k.next k.facts (rest a k)) → Notes low known.next known.facts (goes_on o rest)
part known inside w f = after (lower (omega arith) w) (λ a k le. f a k (omega arith))

-- a node that has ended, and what stands behind it
pub rest_of : {A B : Type 0} {low : ℕ} (known : Known) {o : Outcome A} {rest : A → Known → Outcome B}
    → low < known.next → Notes low known.next known.facts o → ((a : A) (k : Known) → Whole k (rest a k)) → Notes low known.next known.facts (goes_on o rest)
rest_of known inside c f = after c (λ a k le. lower (omega arith) (f a k))

-- the node is judged
judged_by : {node : ℕ} (rule : Option Rule) (known : Known) → Notes node known.next known.facts (unless_broken rule node known)
judged_by None known = done known
judged_by (Some rule) known = broke

pub judges : {node : ℕ} (rules : List Rule) (known : Known) → Notes node known.next known.facts (settle node rules known)
judges rules known = judged_by (least rules) known

-- a fact of the node is noted
pub noted : {A : Type 0} {low : ℕ} {a : A} (fact : Fact) (known : Known) → low ≤ fact.node → fact.node < known.next
    → Notes low known.next known.facts (Goes a (record known { facts = known.facts ++ fact ∷ [] }))
noted fact known from inside = went (fact ∷ []) (omega arith) refl ((from, inside), tt)

-- ---- expressions

-- The node of an expression ends as what it is used as, of something of which it has noted a fact behind those of its parts.
pub data Ends (node : ℕ) (role : Use) (start : ℕ) (facts : List Fact) : Outcome Typed → Type 0 where
  ended : (y : Typed) {behind : Known} (more : List Fact) → start ≤ behind.next → behind.facts ≡ facts ++ more ++ fact_of node y ∷ []
      → AreOfNodes (suc node) behind.next more → Ends node role start facts (Goes (used role y) behind)
  broke_off : {rule : Rule} {at : ℕ} → Ends node role start facts (Breaks rule at)

-- an expression whose node begins here
abbrev pub EndsAt : Use → Known → Outcome Typed → Type 0
EndsAt role known o = Ends known.next role (known.next + 1) known.facts o

pub at_node : {role : Use} (known : Known) {o : Outcome Typed} → (known.next < known.next + 1 → EndsAt role known o) → EndsAt role known o
at_node known f = f (omega arith)

-- an expression is a whole part
pub whole : {role : Use} (known : Known) {o : Outcome Typed} → EndsAt role known o → Whole known o
whole known (ended y {behind = behind} more le e all) =
    went (more ++ fact_of known.next y ∷ []) (omega arith) (e ∙ append_assoc known.facts more (fact_of known.next y ∷ []))
    (joined_nodes known.next behind.next more (fact_of known.next y ∷ []) (among known.next behind.next more (omega arith) (omega arith) all) ((omega arith, omega arith), tt))
whole known broke_off = broke

-- the end of an expression, behind a part
moved_end : {role : Use} {node start k : ℕ} {facts between : List Fact} (more : List Fact) {o : Outcome Typed}
    → start ≤ k → between ≡ facts ++ more → AreOfNodes (suc node) k more → Ends node role k between o → Ends node role start facts o
moved_end {role} {node} {start} {k} {facts} {between} more {o} at is before (ended y {behind = behind} others le e all) =
    ended y (more ++ others) (omega arith)
    (e ∙ ap (λ list. list ++ others ++ fact_of node y ∷ []) is ∙ ap (λ list. list ++ fact_of node y ∷ []) (append_assoc facts more others))
    (joined_nodes (suc node) behind.next more others (among (suc node) behind.next more (omega arith) le before) all)
moved_end {role} {node} {start} {k} {facts} {between} more {o} at is before broke_off = broke_off

behind : {A : Type 0} {role : Use} {node : ℕ} (known : Known) {o : Outcome A} {rest : A → Known → Outcome Typed}
    → node < known.next → Notes (suc node) known.next known.facts o → ((a : A) (k : Known) → node < k.next → Ends node role k.next k.facts (rest a k))
    → Ends node role known.next known.facts (goes_on o rest)
behind known inside (went {a = a} {known = k} more le e all) f = moved_end more le e all (f a k (omega arith))
behind known inside broke f = broke_off

-- a part of an expression, and what goes on behind it
pub piece : {A : Type 0} {role : Use} {node : ℕ} (known : Known) {o : Outcome A} {rest : A → Known → Outcome Typed}
    → node < known.next → Whole known o → ((a : A) (k : Known) → node < k.next → Ends node role k.next k.facts (rest a k))
    → Ends node role known.next known.facts (goes_on o rest)
piece known inside w f = behind known inside (lower inside w) f

-- a part that is an expression itself
pub operand : {role inside : Use} {node : ℕ} (known : Known) {o : Outcome Typed} {rest : Typed → Known → Outcome Typed}
    → node < known.next → EndsAt inside known o → ((x : Typed) (k : Known) → node < k.next → Ends node role k.next k.facts (rest x k))
    → Ends node role known.next known.facts (goes_on o rest)
operand known i w f = piece known i (whole known w) f

ended_by : {role : Use} {node : ℕ} (rule : Option Rule) (y : Typed) (known : Known) → node < known.next
    → Ends node role known.next known.facts (goes_on (unless_broken rule node known) (λ u k. Goes (used role y) (record k { facts = k.facts ++ fact_of node y ∷ [] })))
ended_by {role} {node} None y known inside = ended y [] (omega arith) (ap (λ list. list ++ fact_of node y ∷ []) (sym (append-nil known.facts))) tt
ended_by (Some rule) y known inside = broke_off

-- an expression ends
pub finished : {node : ℕ} (role : Use) (it : Judged) (known : Known) → node < known.next → Ends node role known.next known.facts (finish node role it known)
unfolding finish
finished role it known inside = ended_by (least (it.faults ++ faults_of_any known.structs role it.typed)) it.typed known inside

-- labels are added behind it
pub with_labels : {role : Use} {node start : ℕ} {facts : List Fact} (labels : Known → List Label) {o : Outcome Typed}
    → Ends node role start facts o → Ends node role start facts (goes_on o (λ x k. Goes x (record k { labels = labels k })))
with_labels labels (ended y more le e all) = ended y more le e all
with_labels labels broke_off = broke_off

-- ---- what notes nothing

pub unmarked : {A : Type 0} {low start : ℕ} {facts : List Fact} {o : Outcome A} (was : Bool) → Notes low start facts o → Notes low start facts (marked_again was o)
unmarked was (went more le e all) = went more le e all
unmarked was broke = broke

pub blocked : {A : Type 0} {low start : ℕ} {facts : List Fact} {o : Outcome A} (frames : List Frame) → Notes low start facts o → Notes low start facts (left frames o)
blocked frames (went more le e all) = went more le e all
blocked frames broke = broke

-- in a scope of its own
pub scoped : {A : Type 0} (known : Known) {o : Outcome A} → Whole (in_new_block known) o → Whole known (goes_on (left known.frames o) (λ r. gives r.0))
scoped known w = after (blocked known.frames w) (λ r k le. done k)

-- a part of a node that begins here
pub inner : {A : Type 0} {low : ℕ} (known : Known) {o : Outcome A} → low < known.next → Whole known o → Notes low known.next known.facts o
inner known inside w = lower (omega arith) w

-- a part that begins at the same node, where as much is noted
pub from_here : {A : Type 0} (known behind : Known) {o : Outcome A} → behind.next ≡ known.next → behind.facts ≡ known.facts → Whole behind o → Whole known o
from_here known behind {o} next facts w =
    subst (λ start. Notes start start known.facts o) next (subst (λ list. Notes behind.next behind.next list o) facts w)
