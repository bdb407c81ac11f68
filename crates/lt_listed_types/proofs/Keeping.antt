-- How going over a part of a unit keeps the types of what is known.
use Rattle.std.proofs.Common.{◌≡◌, refl, ℕ, zero, suc, ◌+◌, List, [], ◌∷◌, Bool, true, Option, Some, None}
use Rattle.std.specs.List.{AllByRecursion}
use Rattle.lt_tree.specs.Typing.Types.{CType}
use Rattle.lt_tree.specs.Typing.Extents.{Structs, StructType, Member}
use Rattle.lt_tree.specs.Typing.Rules.{Rule}
use Rattle.lt_tree.specs.Typing.Entities.{Known, Frame, no_names, Object, Function, Fact}
use Rattle.lt_tree.specs.Typing.Steps.{Outcome, Goes, Breaks, goes_on, settle, gives, left, marked_again}
use Rattle.lt_type_laws.specs.Accesses.{is_named_in}
use Rattle.lt_type_laws.specs.Laws.{FunctionsAccess}
use Rattle.lt_listed_types.proofs.Named.{IsNamed, inmost}

-- what is known that has types, and the functions with bodies
pub record Lists : Type 0 where
  pub facts : List Fact
  pub structs : Structs
  pub objects : List Object
  pub functions : List Function

abbrev pub lists_of : Known → Lists
lists_of known = record { facts = known.facts; structs = known.structs; objects = known.objects; functions = known.functions }

-- an object of this number has this type, without the arrays and qualifiers around it
abbrev pub HasInside : List Object → ℕ → CType → Type 0
HasInside [] n t = ⊥
HasInside (object ∷ objects) zero t = inmost object.type ≡ t
HasInside (object ∷ objects) (suc n) t = HasInside objects n t

abbrev pub MembersNamed : List CType → Option (List Member) → Type 0
MembersNamed types None = Unit {0}
MembersNamed types (Some members) = AllByRecursion (λ (member : Member). IsNamed types member.type) members

-- The types of all facts are named in a list, and the pointers that objects and members of structs are or hold.
pub record Names (types : List CType) (lists : Lists) : Type 0 where
  pub facts : AllByRecursion (λ (fact : Fact). is_named_in types fact.type ≡ true) lists.facts
  pub structs : AllByRecursion (λ (it : StructType). MembersNamed types it.members) lists.structs
  pub objects : (n : ℕ) (t : CType) → HasInside lists.objects n t → IsNamed types t

-- A list that names what is known behind the part names what is known before it; objects keep the types inside theirs, and functions get at memory by such
-- as are named, if those before did.
pub record Keeps (types : List CType) (before behind : Lists) : Type 0 where
  pub names : Names types behind → Names types before
  pub inside : (n : ℕ) (t : CType) → HasInside before.objects n t → HasInside behind.objects n t
  pub bodies : (Names types before → FunctionsAccess types before.functions) → Names types behind → FunctionsAccess types behind.functions

-- where so much is known by the list
abbrev pub Once : {A : Type 0} → List CType → (A → Type 0) → Lists → A → Type 0
Once types P lists a = Names types lists → P a

-- nothing is asked
abbrev pub Any : {A : Type 0} → Lists → A → Type 0
Any lists a = Unit {0}

-- what is known is kept, and what the part gives is so
pub data Good {A : Type 0} (types : List CType) (Is : Lists → A → Type 0) (lists : Lists) : Outcome A → Type 0 where
  went : {a : A} {known : Known} → Keeps types lists (lists_of known) → Is (lists_of known) a → Good types Is lists (Goes a known)
  broke : {rule : Rule} {node : ℕ} → Good types Is lists (Breaks rule node)

module _ {types : List CType} where
  pub same : {lists : Lists} → Keeps types lists lists
  same = record { names = λ h. h; inside = λ n t h. h; bodies = λ f h. f h }

  pub then_keeps : {before between behind : Lists} → Keeps types before between → Keeps types between behind → Keeps types before behind
  then_keeps h i = record { names = λ n. h.names (i.names n); inside = λ n t at. i.inside n t (h.inside n t at); bodies = λ f n. i.bodies (λ m. h.bodies f m) n }

  -- ---- going over a part

  -- what goes on behind a part that keeps what is known
  pub behind : {A : Type 0} {Is : Lists → A → Type 0} {before lists : Lists} {o : Outcome A} → Keeps types before lists → Good types Is lists o → Good types Is before o
  behind k (went l h) = went (then_keeps k l) h
  behind k broke = broke

  pub bind : {A B : Type 0} {Was : Lists → A → Type 0} {Is : Lists → B → Type 0} {lists : Lists} {o : Outcome A} {rest : A → Known → Outcome B}
      → Good types Was lists o → ((a : A) (known : Known) → Keeps types lists (lists_of known) → Was (lists_of known) a → Good types Is (lists_of known) (rest a known)) → Good types Is lists (goes_on o rest)
  bind (went {a} {known} k h) f = behind k (f a known k h)
  bind broke f = broke

  -- ---- what is judged

  -- a node is judged, and where no rule is broken what stands behind it goes on
  pub judges_clean : {A : Type 0} {Is : Lists → A → Type 0} (node : ℕ) (rules : List Rule) (known : Known) (rest : Unit {0} → Known → Outcome A)
      → (rules ≡ [] → Good types Is (lists_of known) (rest tt known)) → Good types Is (lists_of known) (goes_on (settle node rules known) rest)
  judges_clean node [] known rest g = g refl
  judges_clean node (rule ∷ rules) known rest g = broke

  pub judges : {A : Type 0} {Is : Lists → A → Type 0} (node : ℕ) (rules : List Rule) (known : Known) (rest : Unit {0} → Known → Outcome A)
      → Good types Is (lists_of known) (rest tt known) → Good types Is (lists_of known) (goes_on (settle node rules known) rest)
  judges node rules known rest g = judges_clean node rules known rest (λ e. g)

  pub judged : (node : ℕ) (rules : List Rule) (known : Known) → Good types Any (lists_of known) (settle node rules known)
  judged node [] known = went same tt
  judged node (rule ∷ rules) known = broke

  -- ---- scopes

  pub unmarked : {A : Type 0} {Is : Lists → A → Type 0} {lists : Lists} {o : Outcome A} (was : Bool) → Good types Is lists o → Good types Is lists (marked_again was o)
  unmarked was (went k h) = went k h
  unmarked was broke = broke

  pub blocked : {A : Type 0} {Is : Lists → A → Type 0} {lists : Lists} {o : Outcome A} (frames : List Frame) → Good types Is lists o → Good types (λ them r. Is them r.0) lists (left frames o)
  blocked frames (went k h) = went k h
  blocked frames broke = broke

  pub scoped : {A : Type 0} {Is : Lists → A → Type 0} {lists : Lists} {o : Outcome A} (frames : List Frame) → Good types Is lists o → Good types Is lists (goes_on (left frames o) (λ r. gives r.0))
  scoped frames (went k h) = went k h
  scoped frames broke = broke

-- nothing is asked of what the part gives
abbrev pub Kept : {A : Type 0} → List CType → Known → Outcome A → Type 0
Kept types known o = Good types Any (lists_of known) o

-- where known is what stands in a new scope, in an expression without marks, or behind the number of a node
abbrev pub in_new_frame : Known → Known
in_new_frame known = record known { frames = no_names ∷ known.frames }

abbrev pub unmarked_here : Known → Known
unmarked_here known = record known { is_unmarked = true }

abbrev pub entered : Known → Known
entered known = record known { next = known.next + 1 }
