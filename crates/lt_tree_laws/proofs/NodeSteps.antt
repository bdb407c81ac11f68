-- How the numbers of nodes go on while a unit is typed.
use Rattle.std.proofs.Common.{◌≡◌, sym, subst, ℕ, ◌+◌, ◌<◌, ◌≤◌, List, [], ◌∷◌, ◌++◌, length, Bool, true, Option, Some, None, append_assoc, arith}
use Rattle.std.proofs.lemmas.List.{length-append, append-nil}
use Rattle.lt_tree.specs.Nodes.{Node}
use Rattle.lt_tree.specs.Typing.Rules.{Rule, least}
use Rattle.lt_tree.specs.Typing.Entities.{Known, Frame, no_names}
use Rattle.lt_tree.specs.Typing.Steps.{Outcome, Goes, Breaks, goes_on, unless_broken, settle, gives, left, marked_again}
use Rattle.lt_tree.specs.Typing.Expressions.{Use, Judged, faults_of_any, finish}
use Rattle.lt_tree_laws.specs.Typing.NodeNumbers.{GoesOver}

-- From a node of number `start` on these nodes are gone over; what is broken on the way is broken at a node from `low` on.
pub data Covers {A : Type 0} (low start : ℕ) (xs : List Node) : Outcome A → Type 0 where
  went : {a : A} {known : Known} → known.next ≡ start + length xs → Covers low start xs (Goes a known)
  broke : {rule : Rule} {node : ℕ} → low ≤ node → node < start + length xs → Covers low start xs (Breaks rule node)

-- a whole part, whose nodes begin here
abbrev pub Whole : {A : Type 0} → Known → List Node → Outcome A → Type 0
Whole known xs o = Covers known.next known.next xs o

pub as_said : {A : Type 0} (known : Known) {xs : List Node} {o : Outcome A} → Whole known xs o → GoesOver xs known o
as_said known (went e) = e
as_said known (broke l u) = (l, u)

-- what goes on behind a part
moved : {B : Type 0} {low start : ℕ} (xs ys : List Node) {k : ℕ} {o : Outcome B} → k ≡ start + length xs → Covers low k ys o → Covers low start (xs ++ ys) o
moved {B} {low} {start} xs ys {k} {o} is (went e) = went (let both : length (xs ++ ys) ≡ length xs + length ys = length-append xs ys in omega arith)
moved {B} {low} {start} xs ys {k} {o} is (broke l u) = broke l (let both : length (xs ++ ys) ≡ length xs + length ys = length-append xs ys in omega arith)

bind : {A B : Type 0} {low start : ℕ} (xs ys : List Node) {o : Outcome A} {rest : A → Known → Outcome B}
    → Covers low start xs o → ((a : A) (known : Known) → start ≤ known.next → Covers low known.next ys (rest a known)) → Covers low start (xs ++ ys) (goes_on o rest)
bind {A} {B} {low} {start} xs ys {o} {rest} (went {a} {known} e) f = moved xs ys e (f a known (omega arith))
bind {A} {B} {low} {start} xs ys {o} {rest} (broke {rule} {node} l u) f = broke l (let both : length (xs ++ ys) ≡ length xs + length ys = length-append xs ys in omega arith)

lower : {A : Type 0} {low before start : ℕ} {xs : List Node} {o : Outcome A} → low ≤ before → Covers before start xs o → Covers low start xs o
lower below (went e) = went e
lower {A} {low} {before} {start} {xs} {o} below (broke {rule} {node} l u) = broke (omega arith) u

at_end : {A : Type 0} {low start : ℕ} (xs : List Node) {o : Outcome A} → Covers low start (xs ++ []) o → Covers low start xs o
at_end {A} {low} {start} xs {o} c = subst (λ ys. Covers low start ys o) (append-nil xs) c

-- nothing more
pub done : {A : Type 0} {low : ℕ} {a : A} (known : Known) → Covers low known.next [] (Goes a known)
done known = went (omega arith)

-- behind what goes over these nodes none follow
pub after : {A B : Type 0} {low start : ℕ} {xs : List Node} {o : Outcome A} {rest : A → Known → Outcome B}
    → Covers low start xs o → ((a : A) (known : Known) → start ≤ known.next → Covers low known.next [] (rest a known)) → Covers low start xs (goes_on o rest)
after {A} {B} {low} {start} {xs} {o} {rest} c f = at_end xs (bind xs [] c f)

-- ---- whole parts

-- two parts, one behind the other
pub joined : {A B : Type 0} (known : Known) {xs ys : List Node} {o : Outcome A} {rest : A → Known → Outcome B}
    → Whole known xs o → ((a : A) (k : Known) → Whole k ys (rest a k)) → Whole known (xs ++ ys) (goes_on o rest)
joined {A} {B} known {xs} {ys} w f = bind xs ys w (λ a k le. lower le (f a k))

-- three parts as they stand in a list of nodes
pub grouped : {A : Type 0} {low start : ℕ} (xs ys zs : List Node) {o : Outcome A} → Covers low start (xs ++ (ys ++ zs)) o → Covers low start (xs ++ ys ++ zs) o
grouped {A} {low} {start} xs ys zs {o} covers = subst (λ list. Covers low start list o) (sym (append_assoc xs ys zs)) covers

-- ---- inside a node

-- where a node is known: here its parts begin
abbrev pub entered : Known → Known
entered known = record known { next = known.next + 1 }

-- the node that begins here, and then its parts
longer : {A : Type 0} {low start : ℕ} {x : Node} {xs : List Node} {o : Outcome A} → Covers low (start + 1) xs o → Covers low start (x ∷ xs) o
longer {A} {low} {start} {x} {xs} {o} (went e) = went (omega arith)
longer {A} {low} {start} {x} {xs} {o} (broke l u) = broke l (omega arith)

pub node : {A : Type 0} (known : Known) {x : Node} {xs : List Node} {o : Outcome A}
    → (known.next < known.next + 1 → Covers known.next (known.next + 1) xs o) → Whole known (x ∷ xs) o
node known {x} {xs} f = longer (f (omega arith))

-- a part of the node, and what goes on behind it
pub part : {A B : Type 0} {low : ℕ} (known : Known) {xs ys : List Node} {o : Outcome A} {rest : A → Known → Outcome B}
    → low < known.next → Whole known xs o → ((a : A) (k : Known) → low < k.next → Covers low k.next ys (rest a k)) → Covers low known.next (xs ++ ys) (goes_on o rest)
part {A} {B} {low} known {xs} {ys} inside w f = bind xs ys (lower (omega arith) w) (λ a k le. f a k (omega arith))

-- the last part of the node
pub last : {A B : Type 0} {low : ℕ} (known : Known) {xs : List Node} {o : Outcome A} {rest : A → Known → Outcome B}
    → low < known.next → Whole known xs o → ((a : A) (k : Known) → low < k.next → Covers low k.next [] (rest a k)) → Covers low known.next xs (goes_on o rest)
last {A} {B} {low} known {xs} inside w f = at_end xs (part known inside w f)

-- the node is judged
judged_by : {node : ℕ} (rule : Option Rule) (known : Known) → node < known.next → Covers node known.next [] (unless_broken rule node known)
judged_by None known inside = done known
judged_by {node} (Some rule) known inside = broke (omega arith) (omega arith)

pub judges : {node : ℕ} (rules : List Rule) (known : Known) → node < known.next → Covers node known.next [] (settle node rules known)
judges rules known inside = judged_by (least rules) known inside

-- an expression ends
pub finished : {node : ℕ} (role : Use) (it : Judged) (known : Known) → node < known.next → Covers node known.next [] (finish node role it known)
unfolding finish
finished role it known inside = after (judges (it.faults ++ faults_of_any known.structs role it.typed) known inside) (λ u k le. done _)

-- ---- what leaves the number of the next node

-- where known is what stands in an expression without marks, or in a new scope
abbrev pub unmarked_here : Known → Known
unmarked_here known = record known { is_unmarked = true }

abbrev pub in_new_frame : Known → Known
in_new_frame known = record known { frames = no_names ∷ known.frames }

pub done_at : {A : Type 0} {low : ℕ} {a : A} (known behind : Known) → behind.next ≡ known.next → Covers low known.next [] (Goes a behind)
done_at known behind same = went (omega arith)

pub quiet : {A B : Type 0} (known : Known) {xs : List Node} {o : Outcome A} {rest : A → Known → Outcome B}
    → Whole known [] o → ((a : A) (k : Known) → Whole k xs (rest a k)) → Whole known xs (goes_on o rest)
quiet {A} {B} known {xs} w f = bind [] xs w (λ a k le. lower le (f a k))

-- a node that has ended, and what stands behind it
pub rest_of : {A B : Type 0} {low : ℕ} (known : Known) {xs : List Node} {o : Outcome A} {rest : A → Known → Outcome B}
    → low < known.next → Covers low known.next [] o → ((a : A) (k : Known) → Whole k xs (rest a k)) → Covers low known.next xs (goes_on o rest)
rest_of {A} {B} {low} known {xs} inside c f = bind [] xs c (λ a k le. lower (omega arith) (f a k))

pub unmarked : {A : Type 0} {low start : ℕ} {xs : List Node} {o : Outcome A} (was : Bool) → Covers low start xs o → Covers low start xs (marked_again was o)
unmarked was (went e) = went e
unmarked was (broke l u) = broke l u

pub blocked : {A : Type 0} {low start : ℕ} {xs : List Node} {o : Outcome A} (frames : List Frame) → Covers low start xs o → Covers low start xs (left frames o)
blocked frames (went e) = went e
blocked frames (broke l u) = broke l u

-- as many other nodes
pub as_many : {A : Type 0} {low start : ℕ} {xs ys : List Node} {o : Outcome A} → length xs ≡ length ys → Covers low start xs o → Covers low start ys o
as_many {A} {low} {start} {xs} {ys} {o} same (went e) = went (omega arith)
as_many {A} {low} {start} {xs} {ys} {o} same (broke l u) = broke l (omega arith)

-- a part that begins at the same node
pub from_here : {A : Type 0} (known behind : Known) {xs : List Node} {o : Outcome A} → behind.next ≡ known.next → Whole behind xs o → Whole known xs o
from_here known behind {xs} {o} same covers = subst (λ start. Covers start start xs o) same covers

-- a part of a node that begins here
pub inner : {A : Type 0} {low : ℕ} (known : Known) {xs : List Node} {o : Outcome A} → low < known.next → Whole known xs o → Covers low known.next xs o
inner known inside covers = lower (omega arith) covers

-- in a scope of its own
pub scoped : {A : Type 0} (known : Known) {xs : List Node} {o : Outcome A} → Whole (in_new_frame known) xs o → Whole known xs (goes_on (left known.frames o) (λ r. gives r.0))
scoped known w = after (blocked known.frames w) (λ r k le. done k)
