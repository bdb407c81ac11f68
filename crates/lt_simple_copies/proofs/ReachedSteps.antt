-- How the numbers of nodes go on where the typing of a unit does.
use Rattle.std.proofs.Common.{◌≡◌, sym, subst, ℕ, ◌+◌, List, [], ◌∷◌, ◌++◌, length, Bool, true, Option, Some, None, append_assoc, arith}
use Rattle.std.proofs.lemmas.List.{length-append, append-nil}
use Rattle.lt_tree.specs.Nodes.{Node}
use Rattle.lt_tree.specs.Typing.Rules.{Rule, least}
use Rattle.lt_tree.specs.Typing.Entities.{Known, Frame, no_names}
use Rattle.lt_tree.specs.Typing.Steps.{Outcome, Goes, Breaks, goes_on, unless_broken, settle, gives, left, marked_again}
use Rattle.lt_tree_laws.specs.Typing.NodeNumbers.{GoesOver}

-- From a node of number `start` on these nodes are gone over, if no rule is broken.
pub data Covers {A : Type 0} (start : ℕ) (xs : List Node) : Outcome A → Type 0 where
  went : {a : A} {known : Known} → known.next ≡ start + length xs → Covers start xs (Goes a known)
  broke : {rule : Rule} {node : ℕ} → Covers start xs (Breaks rule node)

-- a whole part, whose nodes begin here
abbrev pub Whole : {A : Type 0} → Known → List Node → Outcome A → Type 0
Whole known xs o = Covers known.next xs o

pub as_law : {A : Type 0} (known : Known) (xs : List Node) (o : Outcome A) → GoesOver xs known o → Whole known xs o
as_law known xs (Goes a k) e = went e
as_law known xs (Breaks rule node) e = broke

pub number_behind : {A : Type 0} {start : ℕ} {xs : List Node} {a : A} {known : Known} → Covers start xs (Goes a known) → known.next ≡ start + length xs
number_behind (went e) = e

-- ---- two parts

-- what goes on behind a part
moved : {B : Type 0} {start : ℕ} (xs ys : List Node) {k : ℕ} {o : Outcome B} → k ≡ start + length xs → Covers k ys o → Covers start (xs ++ ys) o
moved {B} {start} xs ys {k} {o} is (went e) = went (let both : length (xs ++ ys) ≡ length xs + length ys = length-append xs ys in omega arith)
moved xs ys is broke = broke

pub joined : {A B : Type 0} {start : ℕ} {xs ys : List Node} {o : Outcome A} {rest : A → Known → Outcome B}
    → Covers start xs o → ((a : A) (k : Known) → Whole k ys (rest a k)) → Covers start (xs ++ ys) (goes_on o rest)
joined {A} {B} {start} {xs} {ys} {o} {rest} (went {a} {known} e) f = moved xs ys e (f a known)
joined broke f = broke

-- behind these nodes none follow
pub after : {A B : Type 0} {start : ℕ} {xs : List Node} {o : Outcome A} {rest : A → Known → Outcome B}
    → Covers start xs o → ((a : A) (k : Known) → Whole k [] (rest a k)) → Covers start xs (goes_on o rest)
after {A} {B} {start} {xs} {o} {rest} c f = subst (λ ys. Covers start ys (goes_on o rest)) (append-nil xs) (joined c f)

-- what has no nodes, and then the rest
pub quiet : {A B : Type 0} {start : ℕ} {xs : List Node} {o : Outcome A} {rest : A → Known → Outcome B}
    → Covers start [] o → ((a : A) (k : Known) → Whole k xs (rest a k)) → Covers start xs (goes_on o rest)
quiet {A} {B} {start} {xs} {o} {rest} c f = joined {xs = []} {ys = xs} c f

-- three parts as they stand in a list of nodes
pub grouped : {A : Type 0} {start : ℕ} (xs ys zs : List Node) {o : Outcome A} → Covers start (xs ++ (ys ++ zs)) o → Covers start (xs ++ ys ++ zs) o
grouped {A} {start} xs ys zs {o} covers = subst (λ list. Covers start list o) (sym (append_assoc xs ys zs)) covers

-- ---- one part

-- nothing more
pub done : {A : Type 0} {a : A} (known : Known) → Whole known [] (Goes a known)
done known = went (omega arith)

pub done_at : {A : Type 0} {a : A} (known behind : Known) → behind.next ≡ known.next → Whole known [] (Goes a behind)
done_at known behind same = went (omega arith)

-- where a node is known: here its parts begin
abbrev pub entered : Known → Known
entered known = record known { next = known.next + 1 }

pub node : {A : Type 0} (known : Known) {x : Node} {xs : List Node} {o : Outcome A} → Whole (entered known) xs o → Whole known (x ∷ xs) o
node {A} known {x} {xs} {o} (went e) = went (omega arith)
node known broke = broke

settled_by : (at : ℕ) (rule : Option Rule) (known : Known) → Whole known [] (unless_broken rule at known)
settled_by at None known = done known
settled_by at (Some rule) known = broke

pub settled : (at : ℕ) (rules : List Rule) (known : Known) → Whole known [] (settle at rules known)
settled at rules known = settled_by at (least rules) known

-- where known is what stands in an expression without marks, or in a new scope
abbrev pub unmarked_here : Known → Known
unmarked_here known = record known { is_unmarked = true }

abbrev pub in_new_frame : Known → Known
in_new_frame known = record known { frames = no_names ∷ known.frames }

pub unmarked : {A : Type 0} {start : ℕ} {xs : List Node} {o : Outcome A} (was : Bool) → Covers start xs o → Covers start xs (marked_again was o)
unmarked was (went e) = went e
unmarked was broke = broke

blocked : {A : Type 0} {start : ℕ} {xs : List Node} {o : Outcome A} (frames : List Frame) → Covers start xs o → Covers start xs (left frames o)
blocked frames (went e) = went e
blocked frames broke = broke

-- in a scope of its own
pub scoped : {A : Type 0} (known : Known) {xs : List Node} {o : Outcome A} → Whole (in_new_frame known) xs o → Whole known xs (goes_on (left known.frames o) (λ r. gives r.0))
scoped known w = after (blocked known.frames w) (λ r k. done k)

-- as many other nodes, and a part that begins at the same node
pub as_many : {A : Type 0} {start : ℕ} {xs ys : List Node} {o : Outcome A} → length xs ≡ length ys → Covers start xs o → Covers start ys o
as_many {A} {start} {xs} {ys} {o} same (went e) = went (omega arith)
as_many same broke = broke

pub from_here : {A : Type 0} (known behind : Known) {xs : List Node} {o : Outcome A} → behind.next ≡ known.next → Whole behind xs o → Whole known xs o
from_here known behind {xs} {o} same covers = subst (λ start. Covers start xs o) same covers
