-- How typing keeps what is known so that all types in it are made: no array is of functions.
use Rattle.std.proofs.Common.{◌≡◌, refl, ℕ, ◌+◌, List, [], ◌∷◌, ◌++◌, Bool, true, false, Option, Some, None}
use Rattle.std.specs.List.{AllByRecursion}
use Rattle.lt_tree.specs.Typing.Extents.{Member, StructType, Structs}
use Rattle.lt_tree.specs.Typing.Rules.{Rule, least}
use Rattle.lt_tree.specs.Typing.Entities.{Known, Entity, an_object, a_function, a_typedef, an_enumerator, Bound, Frame, no_names, innermost, Object, Declared, Fact}
use Rattle.lt_tree.specs.Typing.Steps.{Outcome, Goes, Breaks, goes_on, unless_broken, settle, gives, left, marked_again}
use Rattle.lt_tree.specs.Typing.Expressions.{has_pointer_to_function}
use Rattle.lt_made_types.proofs.MadeTypes.{Made}

-- ---- what is known

-- of what is there it holds
abbrev pub WhenThere : {A : Type 0} → (A → Type 0) → Option A → Type 0
WhenThere holds None = Unit {0}
WhenThere holds (Some a) = holds a

abbrev pub EntityMade : Entity → Type 0
EntityMade (an_object n is_register) = Unit {0}
EntityMade a_function = Unit {0}
EntityMade (a_typedef t) = Made t
EntityMade (an_enumerator z) = Unit {0}

abbrev pub BoundMade : Bound → Type 0
BoundMade it = EntityMade it.entity

abbrev pub FrameMade : Frame → Type 0
FrameMade frame = AllByRecursion BoundMade frame.names

abbrev pub MemberMade : Member → Type 0
MemberMade member = Made member.type

abbrev pub MembersMade : List Member → Type 0
MembersMade members = AllByRecursion MemberMade members

abbrev pub StructMade : StructType → Type 0
StructMade it = WhenThere MembersMade it.members

abbrev pub ObjectMade : Object → Type 0
ObjectMade object = Made object.type

abbrev pub DeclaredMade : Declared → Type 0
DeclaredMade f = Made f.type

-- What is noted of an expression is no pointer to a function either: typing refuses these.
abbrev pub FactMade : Fact → Type 0
FactMade fact = Made fact.type × (has_pointer_to_function fact.type ≡ false)

pub record SoundIn (scopes : List Frame) (types : Structs) (variables : List Object) (names : List Declared) (noted : List Fact) : Type 0 where
  pub frames : AllByRecursion FrameMade scopes
  pub structs : AllByRecursion StructMade types
  pub objects : AllByRecursion ObjectMade variables
  pub declared : AllByRecursion DeclaredMade names
  pub facts : AllByRecursion FactMade noted

abbrev pub Sound : Known → Type 0
Sound known = SoundIn known.frames known.structs known.objects known.declared known.facts

-- ---- going over a part

-- what is known behind it is sound, and what it gives is so
pub data Good {A : Type 0} (Is : A → Type 0) : Outcome A → Type 0 where
  went : {a : A} {known : Known} → Sound known → Is a → Good Is (Goes a known)
  broke : {rule : Rule} {node : ℕ} → Good Is (Breaks rule node)

-- nothing is asked
abbrev pub Any : {A : Type 0} → A → Type 0
Any a = Unit {0}

pub bind : {A B : Type 0} {Was : A → Type 0} {Is : B → Type 0} {o : Outcome A} {rest : A → Known → Outcome B}
    → Good Was o → ((a : A) (known : Known) → Sound known → Was a → Good Is (rest a known)) → Good Is (goes_on o rest)
bind (went {a} {known} s h) f = f a known s h
bind broke f = broke

-- ---- what is judged

-- a list of rules of which none is broken is empty
none_broken : (rules : List Rule) → least rules ≡ None → rules ≡ []
none_broken [] h = refl
none_broken (rule ∷ rules) h = absurd cc

judged_by : {A : Type 0} {Is : A → Type 0} (rule : Option Rule) (node : ℕ) (known : Known) (rest : Unit {0} → Known → Outcome A)
    → (rule ≡ None → Good Is (rest tt known)) → Good Is (goes_on (unless_broken rule node known) rest)
judged_by None node known rest f = f refl
judged_by (Some rule) node known rest f = broke

-- a node is judged, and no rule is broken behind it
pub judges : {A : Type 0} {Is : A → Type 0} (node : ℕ) (rules : List Rule) (known : Known) (rest : Unit {0} → Known → Outcome A)
    → (rules ≡ [] → Good Is (rest tt known)) → Good Is (goes_on (settle node rules known) rest)
judges node rules known rest f = judged_by (least rules) node known rest (λ h. f (none_broken rules h))

-- a node is judged, and what is known stays
pub judged : (node : ℕ) (rules : List Rule) (known : Known) → Sound known → Good Any (settle node rules known)
judged node rules known s = elim (least rules) as (λ rule. Good Any (unless_broken rule node known)) [ None ↦ went s tt | Some rule ↦ broke ]

-- where no rule is broken
pub front_empty : (xs ys : List Rule) → xs ++ ys ≡ [] → xs ≡ []
front_empty [] ys h = refl
front_empty (x ∷ xs) ys h = absurd cc

pub back_empty : (xs ys : List Rule) → xs ++ ys ≡ [] → ys ≡ []
back_empty [] ys h = h
back_empty (x ∷ xs) ys h = absurd cc

-- ---- scopes

pub unmarked : {A : Type 0} {Is : A → Type 0} {o : Outcome A} (was : Bool) → Good Is o → Good Is (marked_again was o)
unmarked was (went s h) = went s h
unmarked was broke = broke

-- what a scope gives, with what its frame is then
abbrev pub AndFrame : {A : Type 0} → (A → Type 0) → A × Frame → Type 0
AndFrame Is r = Is r.0 × FrameMade r.1

pub in_innermost : (frames : List Frame) → AllByRecursion FrameMade frames → FrameMade (innermost frames)
in_innermost [] h = tt
in_innermost (frame ∷ frames) h = h.0

pub with_frames : (known : Known) (frames : List Frame) → AllByRecursion FrameMade frames → Sound known → Sound (record known { frames = frames })
with_frames known frames h s = record { frames = h; structs = s.structs; objects = s.objects; declared = s.declared; facts = s.facts }

pub blocked : {A : Type 0} {Is : A → Type 0} {o : Outcome A} (frames : List Frame) → AllByRecursion FrameMade frames → Good Is o → Good (AndFrame Is) (left frames o)
blocked frames h (went {a} {known} s i) = went (with_frames known frames h s) (i, in_innermost known.frames s.frames)
blocked frames h broke = broke

-- where known is what stands in a new scope, in an expression without marks, or behind the number of a node
abbrev pub in_new_frame : Known → Known
in_new_frame known = record known { frames = no_names ∷ known.frames }

abbrev pub unmarked_here : Known → Known
unmarked_here known = record known { is_unmarked = true }

abbrev pub entered : Known → Known
entered known = record known { next = known.next + 1 }

pub new_frame : (known : Known) → Sound known → Sound (in_new_frame known)
new_frame known s = with_frames known (no_names ∷ known.frames) (tt, s.frames) s

pub scoped : {A : Type 0} {Is : A → Type 0} {o : Outcome A} (known : Known) → Sound known → Good Is o → Good Is (goes_on (left known.frames o) (λ r. gives r.0))
scoped known s g = bind (blocked known.frames s.frames g) (λ r k s h. went s h.0)
