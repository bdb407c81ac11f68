-- What a walk over a part of a unit gives.
use Rattle.std.proofs.Common.{ℕ, ◌+◌, List, Option, Some, None}
use Rattle.lt_tree.specs.Tree as c
use Rattle.lt_tree.specs.Typing.Rules.{Rule}
use Rattle.lt_tree.specs.Typing.TypedTree.{Local}
use Rattle.lt_tree.specs.Typing.Entities.{Known, Frame}
use Rattle.lt_tree.specs.Typing.Steps.{Outcome, Goes, Breaks, Walk, goes_on, left}
use Rattle.lt_tree.specs.Typing.Specifying.{Specified}
use Rattle.lt_tree.specs.Typing.Declarators.{Declares}
use Rattle.lt_tree.specs.Typing.Declaring.{kind_of}
use Rattle.lt_tree.specs.Typing.DeclarationTyping.{no_object, declare}

-- where no rule is broken, it is so
pub data Gives {A : Type 0} (P : A → Type 0) : Outcome A → Type 0 where
  went : {a : A} {known : Known} → P a → Gives P (Goes a known)
  broke : {rule : Rule} {node : ℕ} → Gives P (Breaks rule node)

pub bind : {A B : Type 0} {P : A → Type 0} {Q : B → Type 0} {o : Outcome A} {rest : A → Known → Outcome B} → Gives P o → ((a : A) (known : Known) → P a → Gives Q (rest a known))
    → Gives Q (goes_on o rest)
bind (went {a} {known} p) f = f a known p
bind broke f = broke

-- a walk whose answer doesn't matter
pub skip : {A B : Type 0} {Q : B → Type 0} (o : Outcome A) {rest : A → Known → Outcome B} → ((a : A) (known : Known) → Gives Q (rest a known)) → Gives Q (goes_on o rest)
skip (Goes a known) f = f a known
skip (Breaks rule node) f = broke

pub framed : {A : Type 0} {P : A → Type 0} {o : Outcome A} (frames : List Frame) → Gives P o → Gives (λ r. P r.0) (left frames o)
framed frames (went p) = went p
framed frames broke = broke

pub scoped : {A : Type 0} {P : A → Type 0} {o : Outcome A} (frames : List Frame) → Gives P o → Gives P (goes_on (left frames o) (λ r known. Goes r.0 known))
scoped frames (went p) = went p
scoped frames broke = broke

pub so : {A : Type 0} {P Q : A → Type 0} {o : Outcome A} → ((a : A) → P a → Q a) → Gives P o → Gives Q o
so f (went {a} p) = went (f a p)
so f broke = broke

-- what is known behind the number of a node
abbrev pub entered : Known → Known
entered known = record known { next = known.next + 1 }

-- what a declarator that has a name declares, and one that has none
abbrev pub declare_if_named : Specified → Declares → Option c.Initialiser → Known → Option (List ℕ) → Walk (List Local)
declare_if_named it declared i known None = no_object i
declare_if_named it declared i known (Some name) = declare (kind_of known it.storage declared.type) declared.node name declared.type i
