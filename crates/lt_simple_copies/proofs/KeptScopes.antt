-- How going over a part of a unit keeps the scopes that are open: only the innermost one gets more names and tags.
use Rattle.std.proofs.Common.{◌≡◌, refl, sym, subst, ◌∙◌, ℕ, zero, suc, ◌+◌, ◌≤◌, List, [], ◌∷◌, ◌++◌, length, Bool, true, false, Option, Some, None, arith}
use Rattle.std.specs.Prelude.{is_some, if◌then◌else◌}
use Rattle.std.specs.Str.{bytes_eq}
use Rattle.std.proofs.lemmas.Slice.Eq.{bytes_eq-Decides}
use Rattle.lt_tree.specs.Typing.Rules.{Rule}
use Rattle.lt_tree.specs.Typing.Entities.{Known, Frame, no_names, Entity, Tagged, innermost, tagged_in, tagged_among, tag_here, or_else, binding, tagging}
use Rattle.lt_tree.specs.Typing.Steps.{Outcome, Goes, Breaks, goes_on, settle, ◌>>◌, gives, notes, left, marked_again}
use Rattle.lt_tree.specs.Typing.Expressions.{Use, Judged, faults_of_any, fact_of, used, finish}
use Rattle.lt_objectives.specs.Tags.{Tags}
use Rattle.lt_simple_copies.specs.Scopes.{IsInScope, AreInScope, KeepsBehind}

-- ---- tags in scope

-- the scopes around the innermost one
abbrev pub around : List Frame → List Frame
around [] = []
around (frame ∷ frames) = frames

pub both_in_scope : (frames : List Frame) (xs ys : Tags) → AreInScope frames xs → AreInScope frames ys → AreInScope frames (xs ++ ys)
both_in_scope frames [] ys h i = i
both_in_scope frames (x ∷ xs) ys h i = (h.0, both_in_scope frames xs ys h.1 i)

pub all_stay : (frames next : List Frame) (xs : Tags) → ((tag : List ℕ) → IsInScope frames tag → IsInScope next tag) → AreInScope frames xs → AreInScope next xs
all_stay frames next [] f h = tt
all_stay frames next (x ∷ xs) f h = (f x h.0, all_stay frames next xs f h.1)

found_first : (found other : Option Tagged) → is_some found ≡ true → is_some (or_else found other) ≡ true
found_first None other h = absurd cc
found_first (Some t) other h = refl

pub in_scope_here : (tag : List ℕ) (known : Known) → is_some (tag_here tag known) ≡ true → IsInScope known.frames tag
in_scope_here tag known = by known.frames
  where
    by : (frames : List Frame) → is_some (tagged_among tag (innermost frames).tags) ≡ true → IsInScope frames tag
    by [] h = h
    by (frame ∷ frames) h = found_first (tagged_among tag frame.tags) (tagged_in tag frames) h

found_behind : (found near far : Option Tagged) → (is_some near ≡ true → is_some far ≡ true) → is_some (or_else found near) ≡ true → is_some (or_else found far) ≡ true
found_behind None near far f h = f h
found_behind (Some t) near far f h = refl

-- what is in scope in a block stays so where more is in scope around it
pub in_inner_scope : (frame : Frame) (frames next : List Frame) → ((tag : List ℕ) → IsInScope frames tag → IsInScope next tag)
    → (tag : List ℕ) → IsInScope (frame ∷ frames) tag → IsInScope (frame ∷ next) tag
in_inner_scope frame frames next f tag = found_behind (tagged_among tag frame.tags) (tagged_in tag frames) (tagged_in tag next) (f tag)

-- ---- from frames to frames

-- As many scopes are open, those around are the same, what is in scope stays so, and these tags come into it.
pub record Leads (named : Tags) (frames next : List Frame) : Type 0 where
  pub depth : length next ≡ length frames
  pub outside : around next ≡ around frames
  pub stays : (tag : List ℕ) → IsInScope frames tag → IsInScope next tag
  pub comes : 1 ≤ length frames → AreInScope next named

pub same : {frames : List Frame} → Leads [] frames frames
same = record { depth = refl; outside = refl; stays = λ tag h. h; comes = λ one. tt }

-- a tag that is in scope already
pub there : {frames : List Frame} (tag : List ℕ) → IsInScope frames tag → Leads (tag ∷ []) frames frames
there tag h = record { depth = refl; outside = refl; stays = λ tag h. h; comes = λ one. (h, tt) }

pub then_both : {xs ys : Tags} {first second third : List Frame} → Leads xs first second → Leads ys second third → Leads (xs ++ ys) first third
then_both {xs} {ys} {first} {second} {third} h i = record {
  depth = i.depth ∙ h.depth;
  outside = i.outside ∙ h.outside;
  stays = λ tag at. i.stays tag (h.stays tag at);
  comes = λ one. both_in_scope third xs ys (all_stay second third xs i.stays (h.comes one)) (i.comes (subst (λ n. 1 ≤ n) (sym h.depth) one));
}

pub then_last : {xs ys : Tags} {first second third : List Frame} → Leads xs first second → Leads ys second third → Leads ys first third
then_last h i = record {
  depth = i.depth ∙ h.depth;
  outside = i.outside ∙ h.outside;
  stays = λ tag at. i.stays tag (h.stays tag at);
  comes = λ one. i.comes (subst (λ n. 1 ≤ n) (sym h.depth) one);
}

pub then_first : {xs ys : Tags} {first second third : List Frame} → Leads xs first second → Leads ys second third → Leads xs first third
then_first {xs} {ys} {first} {second} {third} h i = record {
  depth = i.depth ∙ h.depth;
  outside = i.outside ∙ h.outside;
  stays = λ tag at. i.stays tag (h.stays tag at);
  comes = λ one. all_stay second third xs i.stays (h.comes one);
}

-- ---- one more name or tag

pub bound : (name : List ℕ) (entity : Entity) (frames : List Frame) → Leads [] frames (binding name entity frames)
bound name entity [] = same
bound name entity (frame ∷ frames) = record { depth = refl; outside = refl; stays = λ tag h. h; comes = λ one. tt }

pub tagged : (name : List ℕ) (it : Tagged) (frames : List Frame) → Leads (name ∷ []) frames (tagging name it frames)
tagged name it [] = record { depth = refl; outside = refl; stays = λ tag h. h; comes = λ one. let none : suc zero ≡ zero = omega (arith, one) in absurd cc }
tagged name it (frame ∷ frames) = record {
  depth = refl;
  outside = refl;
  stays = λ tag h. stays tag (bytes_eq name tag) h;
  comes = λ one. (comes (bytes_eq name name) ((bytes_eq-Decides name name).1 refl), tt);
}
  where
    stays : (tag : List ℕ) (b : Bool) → IsInScope (frame ∷ frames) tag → is_some (or_else (if b then Some it else tagged_among tag frame.tags) (tagged_in tag frames)) ≡ true
    stays tag true h = refl
    stays tag false h = h

    comes : (b : Bool) → b ≡ true → is_some (or_else (if b then Some it else tagged_among name frame.tags) (tagged_in name frames)) ≡ true
    comes true h = refl
    comes false h = absurd cc

-- ---- going over a part

-- the part leads from these frames to those behind it, where these tags are in scope, and what it gives is so
pub data Good {A : Type 0} (named : Tags) (Is : A → List Frame → Type 0) (frames : List Frame) : Outcome A → Type 0 where
  went : {a : A} {known : Known} → Leads named frames known.frames → Is a known.frames → Good named Is frames (Goes a known)
  broke : {rule : Rule} {node : ℕ} → Good named Is frames (Breaks rule node)

-- nothing is asked
abbrev pub Any : {A : Type 0} → A → List Frame → Type 0
Any a frames = Unit {0}

abbrev pub Kept : {A : Type 0} → Known → Outcome A → Type 0
Kept known o = Good [] Any known.frames o

abbrev pub Brings : {A : Type 0} → Tags → Known → Outcome A → Type 0
Brings named known o = Good named Any known.frames o

pub kept : {A : Type 0} {named : Tags} {Is : A → List Frame → Type 0} (known : Known) {o : Outcome A} → Good named Is known.frames o → KeepsBehind named known o
kept known (went k h) = record { depth = k.depth; stays = k.stays; comes = k.comes }
kept known broke = tt

pub behind : {A : Type 0} {xs ys : Tags} {Is : A → List Frame → Type 0} {before frames : List Frame} {o : Outcome A} → Leads xs before frames → Good ys Is frames o → Good ys Is before o
behind k (went l h) = went (then_last k l) h
behind k broke = broke

pub behind_both : {A : Type 0} {xs ys : Tags} {Is : A → List Frame → Type 0} {before frames : List Frame} {o : Outcome A} → Leads xs before frames → Good ys Is frames o → Good (xs ++ ys) Is before o
behind_both k (went l h) = went (then_both k l) h
behind_both k broke = broke

pub behind_first : {A : Type 0} {xs ys : Tags} {Is : A → List Frame → Type 0} {before frames : List Frame} {o : Outcome A} → Leads xs before frames → Good ys Is frames o → Good xs Is before o
behind_first k (went l h) = went (then_first k l) h
behind_first k broke = broke

-- the tags of the second part, of both, or of the first
pub bind : {A B : Type 0} {xs ys : Tags} {Was : A → List Frame → Type 0} {Is : B → List Frame → Type 0} {frames : List Frame} {o : Outcome A} {rest : A → Known → Outcome B}
    → Good xs Was frames o → ((a : A) (known : Known) → Leads xs frames known.frames → Was a known.frames → Good ys Is known.frames (rest a known)) → Good ys Is frames (goes_on o rest)
bind (went {a} {known} k h) f = behind k (f a known k h)
bind broke f = broke

pub bind_both : {A B : Type 0} {xs ys : Tags} {Was : A → List Frame → Type 0} {Is : B → List Frame → Type 0} {frames : List Frame} {o : Outcome A} {rest : A → Known → Outcome B}
    → Good xs Was frames o → ((a : A) (known : Known) → Was a known.frames → Good ys Is known.frames (rest a known)) → Good (xs ++ ys) Is frames (goes_on o rest)
bind_both (went {a} {known} k h) f = behind_both k (f a known h)
bind_both broke f = broke

pub bind_first : {A B : Type 0} {xs ys : Tags} {Was : A → List Frame → Type 0} {Is : B → List Frame → Type 0} {frames : List Frame} {o : Outcome A} {rest : A → Known → Outcome B}
    → Good xs Was frames o → ((a : A) (known : Known) → Was a known.frames → Good ys Is known.frames (rest a known)) → Good xs Is frames (goes_on o rest)
bind_first (went {a} {known} k h) f = behind_first k (f a known h)
bind_first broke f = broke

-- ---- what is judged

-- a node is judged, and where no rule is broken what stands behind it goes on
pub judges : {A : Type 0} {named : Tags} {Is : A → List Frame → Type 0} (node : ℕ) (rules : List Rule) (known : Known) (rest : Unit {0} → Known → Outcome A)
    → Good named Is known.frames (rest tt known) → Good named Is known.frames (goes_on (settle node rules known) rest)
judges node [] known rest g = g
judges node (rule ∷ rules) known rest g = broke

pub judged : (node : ℕ) (rules : List Rule) (known : Known) → Kept known (settle node rules known)
judged node [] known = went same tt
judged node (rule ∷ rules) known = broke

pub finished : (node : ℕ) (role : Use) (it : Judged) (known : Known) → Kept known (finish node role it known)
unfolding finish
finished node role it known = judges node (it.faults ++ faults_of_any known.structs role it.typed) known (λ u. notes (fact_of node it.typed) >> gives (used role it.typed)) (went same tt)

-- ---- scopes

pub unmarked : {A : Type 0} {named : Tags} {Is : A → List Frame → Type 0} {frames : List Frame} {o : Outcome A} (was : Bool) → Good named Is frames o → Good named Is frames (marked_again was o)
unmarked was (went k h) = went k h
unmarked was broke = broke

pub blocked : {A : Type 0} {named : Tags} {Is : A → List Frame → Type 0} {inner : List Frame} {o : Outcome A} (frames : List Frame) → Good named Is inner o → Good [] Any frames (left frames o)
blocked frames (went k h) = went same tt
blocked frames broke = broke

-- of a block, with what it gives
pub scoped_giving : {A : Type 0} {named : Tags} {Was Is : A → List Frame → Type 0} {inner : List Frame} {o : Outcome A} (frames : List Frame)
    → ((a : A) (next : List Frame) → Leads named inner next → Was a next → Is a frames) → Good named Was inner o → Good [] Is frames (goes_on (left frames o) (λ r. gives r.0))
scoped_giving frames f (went {a} {known} k h) = went same (f a known.frames k h)
scoped_giving frames f broke = broke

pub scoped : {A : Type 0} {named : Tags} {inner : List Frame} {o : Outcome A} (frames : List Frame) → Good named Any inner o → Good [] Any frames (goes_on (left frames o) (λ r. gives r.0))
scoped frames g = scoped_giving frames (λ a next k h. tt) g

-- where known is what stands in a new scope, in an expression without marks, or behind the number of a node
abbrev pub in_new_frame : Known → Known
in_new_frame known = record known { frames = no_names ∷ known.frames }

abbrev pub unmarked_here : Known → Known
unmarked_here known = record known { is_unmarked = true }

abbrev pub entered : Known → Known
entered known = record known { next = known.next + 1 }
