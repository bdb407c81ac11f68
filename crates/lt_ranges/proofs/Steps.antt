-- How what is known stays in range while a unit is typed.
use Rattle.std.proofs.Common.{◌≡◌, refl, ℕ, ◌+◌, List, [], ◌∷◌, Bool, true, Option, Some, None}
use Rattle.std.specs.List.{flat_map}
use Rattle.lt_tree.specs.Typing.Extents.{Structs}
use Rattle.lt_tree.specs.Typing.Rules.{Rule, least}
use Rattle.lt_tree.specs.Typing.Entities.{Known, Frame, no_names, innermost, Object, Declared, Function, Fact}
use Rattle.lt_tree.specs.Typing.Steps.{Outcome, Goes, Breaks, goes_on, unless_broken, settle, gives, left, marked_again}
use Rattle.lt_tree.specs.Typing.Ranges.{Reference, Lists, lists_among, in_frame, in_struct, in_object, in_declared, in_function, in_fact}
use Rattle.lt_ranges.proofs.References.{Has, none, front, Kept, same, then_kept, later}

abbrev pub lists_of : Known → Lists
lists_of known = lists_among known.structs known.objects known.declared known.labels

-- all that stands in what is known is in range
pub record SoundIn (b : Lists) (scopes : List Frame) (types : Structs) (variables : List Object) (names : List Declared) (bodies : List Function) (known : List Fact) : Type 0 where
  pub frames : Has b (flat_map in_frame scopes)
  pub structs : Has b (flat_map in_struct types)
  pub objects : Has b (flat_map in_object variables)
  pub declared : Has b (flat_map in_declared names)
  pub functions : Has b (flat_map in_function bodies)
  pub facts : Has b (flat_map in_fact known)

abbrev pub Sound : Known → Type 0
Sound known = SoundIn (lists_of known) known.frames known.structs known.objects known.declared known.functions known.facts

-- what is in range stays so
pub later_sound : {b b' : Lists} {scopes : List Frame} {types : Structs} {variables : List Object} {names : List Declared} {bodies : List Function} {known : List Fact}
    → Kept b b' → SoundIn b scopes types variables names bodies known → SoundIn b' scopes types variables names bodies known
later_sound kept s = record {
  frames = later kept s.frames;
  structs = later kept s.structs;
  objects = later kept s.objects;
  declared = later kept s.declared;
  functions = later kept s.functions;
  facts = later kept s.facts;
}

-- Going over a part keeps what is there; what is known behind it is in range, and what it gives is so.
pub data Good {A : Type 0} (P : Lists → A → Type 0) (before : Lists) : Outcome A → Type 0 where
  went : {a : A} {known : Known} → Kept before (lists_of known) → Sound known → P (lists_of known) a → Good P before (Goes a known)
  broke : {rule : Rule} {node : ℕ} → Good P before (Breaks rule node)

-- what a list of references is made of
abbrev pub Each : {A : Type 0} → (A → List Reference) → Lists → A → Type 0
Each of b a = Has b (of a)

-- nothing is asked
abbrev pub Any : {A : Type 0} → Lists → A → Type 0
Any b a = Unit {0}

pub onward : {A : Type 0} {P : Lists → A → Type 0} {b b' : Lists} {o : Outcome A} → Kept b b' → Good P b' o → Good P b o
onward kept (went k s p) = went (then_kept kept k) s p
onward kept broke = broke

pub bind : {A B : Type 0} {P : Lists → A → Type 0} {Q : Lists → B → Type 0} {b : Lists} {o : Outcome A} {rest : A → Known → Outcome B}
    → Good P b o → ((a : A) (known : Known) → Kept b (lists_of known) → Sound known → P (lists_of known) a → Good Q (lists_of known) (rest a known)) → Good Q b (goes_on o rest)
bind (went {a} {known} k s p) f = onward k (f a known k s p)
bind broke f = broke

pub done : {A : Type 0} {P : Lists → A → Type 0} {a : A} (known : Known) → Sound known → P (lists_of known) a → Good P (lists_of known) (Goes a known)
done known s p = went same s p

-- ---- what is judged

-- a list of rules of which none is broken is empty
none_broken : (rules : List Rule) → least rules ≡ None → rules ≡ []
none_broken [] h = refl
none_broken (rule ∷ rules) h = absurd cc

judged_by : {A : Type 0} {Q : Lists → A → Type 0} {b : Lists} (rule : Option Rule) (node : ℕ) (known : Known) (rest : Unit {0} → Known → Outcome A)
    → (rule ≡ None → Good Q b (rest tt known)) → Good Q b (goes_on (unless_broken rule node known) rest)
judged_by None node known rest f = f refl
judged_by (Some rule) node known rest f = broke

-- a node is judged, and no rule is broken behind it
pub judges : {A : Type 0} {Q : Lists → A → Type 0} {b : Lists} (node : ℕ) (rules : List Rule) (known : Known) (rest : Unit {0} → Known → Outcome A)
    → (rules ≡ [] → Good Q b (rest tt known)) → Good Q b (goes_on (settle node rules known) rest)
judges node rules known rest f = judged_by (least rules) node known rest (λ h. f (none_broken rules h))

-- a node is judged, and what is known stays
pub judged : (node : ℕ) (rules : List Rule) (known : Known) → Sound known → Good Any (lists_of known) (settle node rules known)
judged node rules known s = elim (least rules) as (λ rule. Good Any (lists_of known) (unless_broken rule node known)) [ None ↦ went same s tt | Some rule ↦ broke ]

-- ---- scopes

pub unmarked : {A : Type 0} {P : Lists → A → Type 0} {b : Lists} {o : Outcome A} (was : Bool) → Good P b o → Good P b (marked_again was o)
unmarked was (went k s p) = went k s p
unmarked was broke = broke

-- what a scope gives, with what its frame is then
abbrev pub AndFrame : {A : Type 0} → (Lists → A → Type 0) → Lists → A × Frame → Type 0
AndFrame P b r = P b r.0 × Has b (in_frame r.1)

pub in_innermost : {b : Lists} (frames : List Frame) → Has b (flat_map in_frame frames) → Has b (in_frame (innermost frames))
in_innermost [] h = none
in_innermost (frame ∷ frames) h = front {rs = in_frame frame} _ h

pub with_frames : (known : Known) (frames : List Frame) → Has (lists_of known) (flat_map in_frame frames) → Sound known → Sound (record known { frames = frames })
with_frames known frames h s = record { frames = h; structs = s.structs; objects = s.objects; declared = s.declared; functions = s.functions; facts = s.facts }

pub blocked : {A : Type 0} {P : Lists → A → Type 0} {b : Lists} {o : Outcome A} (frames : List Frame) → Has b (flat_map in_frame frames) → Good P b o → Good (AndFrame P) b (left frames o)
blocked frames h (went {a} {known} k s p) = went k (with_frames known frames (later k h) s) (p, in_innermost known.frames s.frames)
blocked frames h broke = broke

-- where known is what stands in a new scope, in an expression without marks, or behind the number of a node
abbrev pub in_new_frame : Known → Known
in_new_frame known = record known { frames = no_names ∷ known.frames }

abbrev pub unmarked_here : Known → Known
unmarked_here known = record known { is_unmarked = true }

abbrev pub entered : Known → Known
entered known = record known { next = known.next + 1 }

pub new_frame : (known : Known) → Sound known → Sound (in_new_frame known)
new_frame known s = with_frames known (no_names ∷ known.frames) s.frames s

pub scoped : {A : Type 0} {P : Lists → A → Type 0} {o : Outcome A} (known : Known) → Sound known → Good P (lists_of known) o → Good P (lists_of known) (goes_on (left known.frames o) (λ r. gives r.0))
scoped known s g = bind (blocked known.frames s.frames g) (λ r k kept s h. done k s h.0)
