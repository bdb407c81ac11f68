-- What typing keeps as it goes over parts of a unit as it is written: the functions found so far; and the ids of the parts are in range.
use Rattle.std.proofs.Common.{◌≡◌, ◌≤◌, ℕ, ◌+◌, List, [], ◌∷◌, ◌++◌, Bool, true, false, Option, Some, None, refl, sym, ap, ◌∙◌, subst, append_assoc, arith}
use Rattle.std.specs.Prelude.{ℤ, pos, negsuc, nat_le, ◌&&◌, if◌then◌else◌}
use Rattle.std.specs.Cmp.{first_so}
use Rattle.std.proofs.lemmas.List.{append-nil}
use Rattle.std.proofs.lemmas.Bool.{false≢true}
use Rattle.std.proofs.lemmas.Bool.Decides.{nat_tests}
use Rattle.lt_tree.specs.Constants.{value_of}
use Rattle.lt_tree.specs.Ids.{within, greatest_id}
use Rattle.lt_tree.specs.Typing.Rules.{Rule, least, unless}
use Rattle.lt_tree.specs.Typing.Operands.{holds}
use Rattle.lt_tree.specs.Typing.MarkRules.{id_from, is_new_id, is_good_id}
use Rattle.lt_tree.specs.Typing.Entities.{Known, Function, Frame, no_names, greatest_written_id, greatest_label_id}
use Rattle.lt_tree.specs.Typing.Steps.{Outcome, Goes, Breaks, goes_on, unless_broken, settle, gives, left, marked_again}
use Rattle.lt_tree.specs.Typing.Expressions.{Use, Judged, faults_of_any, finish}

-- ---- ids in range

abbrev pub AreLow : List (List ℕ) → Type 0
AreLow ids = greatest_id ids ≤ greatest_written_id

pub low_both : (xs ys : List (List ℕ)) → AreLow xs → AreLow ys → AreLow (xs ++ ys)
low_both [] ys h g = g
low_both (x ∷ xs) ys h g = let more = low_both xs ys (omega (arith, h)) g in omega (arith, h, more)

at_most : (b : Bool) (n : ℕ) → (if b then n else 0) ≤ n
at_most true n = omega arith
at_most false n = omega arith

below : (n : ℕ) → nat_le n greatest_written_id ≡ true → n ≤ greatest_written_id
below n h = grind (arith, nat_tests)

good_value : (known : Known) (z : Option ℤ) → known.greatest_id ≡ greatest_written_id → holds (λ n. nat_le n known.greatest_id && is_new_id known n) (id_from z) ≡ true → within z ≤ greatest_written_id
good_value known None g h = omega arith
good_value known (Some (negsuc n)) g h = omega arith
good_value known (Some (pos n)) g h = by (nat_le 1 n && nat_le n greatest_label_id) h
  where
    by : (b : Bool) → holds (λ n. nat_le n known.greatest_id && is_new_id known n) (if b then Some n else None) ≡ true → within (Some (pos n)) ≤ greatest_written_id
    by true h =
        let low = below n (sym (ap (nat_le n) g) ∙ first_so (nat_le n known.greatest_id) (is_new_id known n) h) in
        let most = at_most (nat_le n 2147483647) n in
        omega (arith, low, most)
    by false h = absurd (false≢true h)

pub good_id : (known : Known) (id : List ℕ) → known.greatest_id ≡ greatest_written_id → is_good_id known id ≡ true → AreLow (id ∷ [])
good_id known id g h = let low = good_value known (value_of id) g h in omega (arith, low)

-- ---- what is kept

-- the functions are these, and ids go to the greatest that a text may have
abbrev pub Has : List Function → Known → Type 0
Has fs known = (known.functions ≡ fs) × (known.greatest_id ≡ greatest_written_id)

-- The functions are these, the ids are in range, and this is so of what is given, unless a rule is broken.
pub data Keeps {A : Type 0} (fs : List Function) (ids : List (List ℕ)) (Is : A → Type 0) : Outcome A → Type 0 where
  went : {a : A} {known : Known} → Has fs known → AreLow ids → Is a → Keeps fs ids Is (Goes a known)
  broke : {rule : Rule} {node : ℕ} → Keeps fs ids Is (Breaks rule node)

-- nothing is said of it
abbrev pub Any : {A : Type 0} → A → Type 0
Any a = Unit {0}

module _ {fs : List Function} where
  -- nothing more
  pub done : {A : Type 0} {Is : A → Type 0} {a : A} {known : Known} → Has fs known → Is a → Keeps fs [] Is (Goes a known)
  done h is = went h (omega arith) is

  also : {B : Type 0} (xs : List (List ℕ)) {ys : List (List ℕ)} {Is : B → Type 0} {o : Outcome B} → AreLow xs → Keeps fs ys Is o → Keeps fs (xs ++ ys) Is o
  also {B} xs {ys} low (went h more is) = went h (low_both xs ys low more) is
  also xs low broke = broke

  -- two parts, one behind the other
  pub joined : {A B : Type 0} {xs ys : List (List ℕ)} {Was : A → Type 0} {Is : B → Type 0} {o : Outcome A} {rest : A → Known → Outcome B}
      → Keeps fs xs Was o → ((a : A) (k : Known) → Has fs k → Was a → Keeps fs ys Is (rest a k)) → Keeps fs (xs ++ ys) Is (goes_on o rest)
  joined {A} {B} {xs} (went {a} {known} h low was) f = also xs low (f a known h was)
  joined broke f = broke

  at_end : {B : Type 0} (xs : List (List ℕ)) {Is : B → Type 0} {o : Outcome B} → Keeps fs (xs ++ []) Is o → Keeps fs xs Is o
  at_end {B} xs {Is} {o} c = subst (λ ys. Keeps fs ys Is o) (append-nil xs) c

  -- behind a part no ids follow
  pub after : {A B : Type 0} {xs : List (List ℕ)} {Was : A → Type 0} {Is : B → Type 0} {o : Outcome A} {rest : A → Known → Outcome B}
      → Keeps fs xs Was o → ((a : A) (k : Known) → Has fs k → Was a → Keeps fs [] Is (rest a k)) → Keeps fs xs Is (goes_on o rest)
  after {A} {B} {xs} c f = at_end xs (joined c f)

  -- in front of a part there are none
  pub quiet : {A B : Type 0} {ys : List (List ℕ)} {Was : A → Type 0} {Is : B → Type 0} {o : Outcome A} {rest : A → Known → Outcome B}
      → Keeps fs [] Was o → ((a : A) (k : Known) → Has fs k → Was a → Keeps fs ys Is (rest a k)) → Keeps fs ys Is (goes_on o rest)
  quiet c f = joined c f

  -- an id that is judged behind a part, and stands in front of its ids
  pub with_id : {A B : Type 0} {id : List ℕ} {xs : List (List ℕ)} {Was : A → Type 0} {Is : B → Type 0} {o : Outcome A} {rest : A → Known → Outcome B}
      → Keeps fs xs Was o → ((a : A) (k : Known) → Has fs k → Was a → Keeps fs (id ∷ []) Is (rest a k)) → Keeps fs (id ∷ xs) Is (goes_on o rest)
  with_id {A} {B} {id} {xs} {Was} {Is} (went {a} {known} h low was) f = in_front (f a known h was)
    where
      in_front : {o : Outcome B} → Keeps fs (id ∷ []) Is o → Keeps fs (id ∷ xs) Is o
      in_front (went h more is) = went h (low_both (id ∷ []) xs more low) is
      in_front broke = broke
  with_id broke f = broke

  pub grouped : {A : Type 0} (xs ys zs : List (List ℕ)) {Is : A → Type 0} {o : Outcome A} → Keeps fs (xs ++ (ys ++ zs)) Is o → Keeps fs (xs ++ ys ++ zs) Is o
  grouped {A} xs ys zs {Is} {o} c = subst (λ list. Keeps fs list Is o) (sym (append_assoc xs ys zs)) c

  -- ---- ends of nodes

  -- Where rules are broken the walk ends; so none of the first is.
  pub judges_if : {ids : List (List ℕ)} (node : ℕ) (first others : List Rule) (known : Known) → Has fs known → (first ≡ [] → AreLow ids) → Keeps fs ids Any (settle node (first ++ others) known)
  judges_if {ids} node [] others known h low = elim (least others) as (λ rule. Keeps fs ids Any (unless_broken rule node known)) [ None ↦ went h (low refl) tt | Some rule ↦ broke ]
  judges_if node (rule ∷ rules) others known h low = broke

  pub judges : (node : ℕ) (rules : List Rule) (known : Known) → Has fs known → Keeps fs [] Any (settle node rules known)
  judges node rules known h = judges_if node [] rules known h (λ e. omega arith)

  pub finished_if : {ids : List (List ℕ)} (node : ℕ) (role : Use) (it : Judged) (known : Known) → Has fs known → (it.faults ≡ [] → AreLow ids) → Keeps fs ids Any (finish node role it known)
  unfolding finish
  finished_if node role it known h low = after (judges_if node it.faults (faults_of_any known.structs role it.typed) known h low) (λ u k h w. done h tt)

  pub finished : (node : ℕ) (role : Use) (it : Judged) (known : Known) → Has fs known → Keeps fs [] Any (finish node role it known)
  finished node role it known h = finished_if node role it known h (λ e. omega arith)

  -- ---- scopes

  pub unmarked : {A : Type 0} {xs : List (List ℕ)} {Is : A → Type 0} {o : Outcome A} (was : Bool) → Keeps fs xs Is o → Keeps fs xs Is (marked_again was o)
  unmarked was (went h low is) = went h low is
  unmarked was broke = broke

  pub blocked : {A : Type 0} {xs : List (List ℕ)} {Is : A → Type 0} {o : Outcome A} (frames : List Frame) → Keeps fs xs Is o → Keeps fs xs (λ (r : A × Frame). Is r.0) (left frames o)
  blocked frames (went h low is) = went h low is
  blocked frames broke = broke

  -- in a scope of its own
  pub scoped : {A : Type 0} {xs : List (List ℕ)} {Is : A → Type 0} {o : Outcome A} (frames : List Frame) → Keeps fs xs Is o → Keeps fs xs Is (goes_on (left frames o) (λ r. gives r.0))
  scoped frames c = after (blocked frames c) (λ r k h is. done h is)

-- none is broken where this holds
pub holds_unless : (b : Bool) (rule : Rule) → unless b rule ≡ [] → b ≡ true
holds_unless true rule h = refl
holds_unless false rule h = absurd cc

abbrev pub entered : Known → Known
entered known = record known { next = known.next + 1 }

abbrev pub unmarked_here : Known → Known
unmarked_here known = record known { is_unmarked = true }

abbrev pub in_new_frame : Known → Known
in_new_frame known = record known { frames = no_names ∷ known.frames }
