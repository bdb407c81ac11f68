-- How going over a part of a unit keeps the objects that are known.
use Rattle.std.proofs.Common.{◌≡◌, refl, sym, ◌∙◌, ℕ, ◌+◌, List, ◌∷◌, Bool, true, false, Option, Some, None}
use Rattle.lt_tree.specs.Typing.Rules.{Rule, least}
use Rattle.lt_tree.specs.Typing.Entities.{Known, Frame, no_names, Object}
use Rattle.lt_tree.specs.Typing.Steps.{Outcome, Goes, Breaks, goes_on, unless_broken, settle, gives, left, marked_again}
use Rattle.lt_tree.specs.Typing.Expressions.{Typed}
use Rattle.lt_typed_addresses.proofs.Resting.{LivesFirst, RestsOn, Rests, TypedRests, AllRest}
use Rattle.lt_tree.specs.Typing.Constants.{Constancy, address}

-- Objects that are there from the start are so in the second list too.
pub record StillLive (before behind : List Object) : Type 0 where
  pub live : (n : ℕ) → LivesFirst before n → LivesFirst behind n

-- Objects that are there from the start are so behind the part, and if all hold addresses of such alone, they do so behind it; marks may stand
-- there as before.
pub record Keeps (was : Bool) (before : List Object) (now : Bool) (behind : List Object) : Type 0 where
  pub marks : now ≡ was
  pub lives : StillLive before behind
  pub starts : AllRest before → AllRest behind

abbrev pub KeepsTo : Known → Known → Type 0
KeepsTo known behind = Keeps known.is_unmarked known.objects behind.is_unmarked behind.objects

pub same : {was : Bool} {objects : List Object} → Keeps was objects was objects
same = record { marks = refl; lives = record { live = λ n h. h }; starts = λ h. h }

pub then_keeps : {was then_was now : Bool} {before between behind : List Object} → Keeps was before then_was between → Keeps then_was between now behind → Keeps was before now behind
then_keeps h i = record { marks = i.marks ∙ h.marks; lives = record { live = λ n l. i.lives.live n (h.lives.live n l) }; starts = λ s. i.starts (h.starts s) }

-- ---- what is found stays so

constant_later : {before behind : List Object} → StillLive before behind → (c : Constancy) → RestsOn before c → RestsOn behind c
constant_later lives (address n offset) h = lives.live n h
constant_later lives _ h = tt

pub rests_later : {before behind : List Object} {c : Constancy} → StillLive before behind → Rests before c → Rests behind c
rests_later {c = c} lives h = record { so = constant_later lives c h.so }

typed_later : {before behind : List Object} {x : Typed} → StillLive before behind → TypedRests before x → TypedRests behind x
typed_later lives h = record { constancy = rests_later lives h.constancy; erased = rests_later lives h.erased }

-- An expression rests on objects that are there from the start, where marks may stand: a string literal in `sizeof` is never made.
abbrev pub TypedAt : Bool → List Object → Typed → Type 0
TypedAt is_unmarked objects x = is_unmarked ≡ false → TypedRests objects x

pub still : {was now : Bool} {before behind : List Object} {x : Typed} → Keeps was before now behind → TypedAt was before x → TypedAt now behind x
still k h clean = typed_later k.lives (h (sym k.marks ∙ clean))

-- ---- going over a part

-- what is known is kept, and what the part gives is so
pub data Good {A : Type 0} (Is : Bool → List Object → A → Type 0) (was : Bool) (objects : List Object) : Outcome A → Type 0 where
  went : {a : A} {known : Known} → Keeps was objects known.is_unmarked known.objects → Is known.is_unmarked known.objects a → Good Is was objects (Goes a known)
  broke : {rule : Rule} {node : ℕ} → Good Is was objects (Breaks rule node)

-- nothing is asked
abbrev pub Any : {A : Type 0} → Bool → List Object → A → Type 0
Any is_unmarked objects a = Unit {0}

-- where so much is known, and nothing is asked of what the part gives
abbrev pub Kept : {A : Type 0} → Known → Outcome A → Type 0
Kept known o = Good Any known.is_unmarked known.objects o

-- an expression where so much is known
abbrev pub KeptTyped : Known → Outcome Typed → Type 0
KeptTyped known o = Good TypedAt known.is_unmarked known.objects o

-- what goes on behind a part that keeps what is known
pub behind : {A : Type 0} {Is : Bool → List Object → A → Type 0} {was now : Bool} {before objects : List Object} {o : Outcome A} → Keeps was before now objects → Good Is now objects o → Good Is was before o
behind k (went l h) = went (then_keeps k l) h
behind k broke = broke

pub bind : {A B : Type 0} {Was : Bool → List Object → A → Type 0} {Is : Bool → List Object → B → Type 0} {was : Bool} {objects : List Object} {o : Outcome A} {rest : A → Known → Outcome B}
    → Good Was was objects o → ((a : A) (known : Known) → Keeps was objects known.is_unmarked known.objects → Was known.is_unmarked known.objects a → Good Is known.is_unmarked known.objects (rest a known))
    → Good Is was objects (goes_on o rest)
bind (went {a} {known} k h) f = behind k (f a known k h)
bind broke f = broke

-- ---- what is judged

judges_by : {A : Type 0} {Is : Bool → List Object → A → Type 0} (rule : Option Rule) (node : ℕ) (known : Known) (rest : Unit {0} → Known → Outcome A)
    → Good Is known.is_unmarked known.objects (rest tt known) → Good Is known.is_unmarked known.objects (goes_on (unless_broken rule node known) rest)
judges_by None node known rest g = g
judges_by (Some rule) node known rest g = broke

-- a node is judged, and then what stands behind it goes on
pub judges : {A : Type 0} {Is : Bool → List Object → A → Type 0} (node : ℕ) (rules : List Rule) (known : Known) (rest : Unit {0} → Known → Outcome A)
    → Good Is known.is_unmarked known.objects (rest tt known) → Good Is known.is_unmarked known.objects (goes_on (settle node rules known) rest)
judges node rules known rest g = judges_by (least rules) node known rest g

pub judged : (node : ℕ) (rules : List Rule) (known : Known) → Kept known (settle node rules known)
judged node rules known = elim (least rules) as (λ rule. Kept known (unless_broken rule node known)) [ None ↦ went same tt | Some rule ↦ broke ]

-- ---- scopes

pub unmarked : {A : Type 0} {Is : Bool → List Object → A → Type 0} {objects : List Object} {o : Outcome A} (was : Bool) → Good Is true objects o → Good Any was objects (marked_again was o)
unmarked was (went k h) = went (record { marks = refl; lives = k.lives; starts = k.starts }) tt
unmarked was broke = broke

pub blocked : {A : Type 0} {was : Bool} {objects : List Object} {o : Outcome A} (frames : List Frame) → Good Any was objects o → Good Any was objects (left frames o)
blocked frames (went k h) = went k tt
blocked frames broke = broke

pub scoped : {A : Type 0} {was : Bool} {objects : List Object} {o : Outcome A} (frames : List Frame) → Good Any was objects o → Good Any was objects (goes_on (left frames o) (λ r. gives r.0))
scoped frames g = bind (blocked frames g) (λ r k kept h. went same tt)

-- where known is what stands in a new scope, in an expression without marks, or behind the number of a node
abbrev pub in_new_frame : Known → Known
in_new_frame known = record known { frames = no_names ∷ known.frames }

abbrev pub unmarked_here : Known → Known
unmarked_here known = record known { is_unmarked = true }

abbrev pub entered : Known → Known
entered known = record known { next = known.next + 1 }
