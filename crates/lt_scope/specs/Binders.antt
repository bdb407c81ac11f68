-- The binders of names, of the code.
use Rattle.std.specs.Prelude.{◌≡◌, ℕ, suc, List, [], ◌∷◌, map, reverse, length, Option, None, option_map}
use Rattle.std.specs.Global.{Vec}
use Rattle.std.specs.HashMap.{HashMap, get_by}
use Rattle.std.specs.Str.{bytes_eq}
use Rattle.lt_scope.specs.declared.scopes.Binder.{Binder}
use Rattle.lt_scope.specs.declared.scopes.Standing.{Standing}
use Rattle.lt_scope.specs.Names.{Bound, bound_among, or_else}

abbrev pub bound_of : {T : Type 0} → Binder T → Bound T
bound_of b = record { name = b.name; what = b.what }

-- the names of binders, of which the latest is the last
abbrev pub names_in : {T : Type 0} → List (Binder T) → List (Bound T)
names_in binders = map bound_of (reverse binders)

-- the binders of frames, of which the innermost is the last
abbrev pub binders_in : {T : Type 0} → List (Vec (Binder T)) → List (List (Binder T))
binders_in frames = map (λ frame. reverse frame.items) (reverse frames)

abbrev pub shown : {T : Type 0} → List (List (Binder T)) → List (List (Bound T))
shown frames = map (map bound_of) frames

abbrev pub frames_in : {T : Type 0} → List (Vec (Binder T)) → List (List (Bound T))
frames_in frames = shown (binders_in frames)

abbrev pub standing_at : {T : Type 0} → ℕ → T → Standing T
standing_at depth what = record { what = what; depth = depth }

-- what a name stands for in frames, and how many of them there are from its own frame on
abbrev pub standing : {T : Type 0} → List (List (Bound T)) → List ℕ → Option (Standing T)
standing [] w = None
standing (frame ∷ outer) w = or_else (option_map (standing_at (suc (length outer))) (bound_among w frame)) (standing outer w)

-- each binder of a frame, the latest first, has what its name stood for before
abbrev pub KnowHidden : {T : Type 0} → List (Binder T) → List (List (Bound T)) → Type 0
KnowHidden [] outer = Unit {0}
KnowHidden (b ∷ bs) outer = (b.hidden ≡ standing (map bound_of bs ∷ outer) b.name) × KnowHidden bs outer

abbrev pub AllKnowHidden : {T : Type 0} → List (List (Binder T)) → Type 0
AllKnowHidden [] = Unit {0}
AllKnowHidden (bs ∷ outer) = KnowHidden bs (shown outer) × AllKnowHidden outer

-- what a map has for a name
abbrev pub standing_in : {T S : Type 0} → HashMap (Vec ℕ) (Standing T) S → List ℕ → Option (Standing T)
standing_in newest w = get_by (λ key. bytes_eq w key.items) newest

-- The map has what each name stands for.
pub record Agree {T S : Type 0} (frames : List (List (Binder T))) (newest : HashMap (Vec ℕ) (Standing T) S) : Type 0 where
  pub places : (w : List ℕ) → standing_in newest w ≡ standing (shown frames) w
  pub hidden : AllKnowHidden frames

-- What maps have before and after a binder, the latest of its frame, is taken off.
abbrev pub Forgets : {T S : Type 0} → Binder T → HashMap (Vec ℕ) (Standing T) S → HashMap (Vec ℕ) (Standing T) S → Type 0
Forgets {T} b before after = (bs : List (Binder T)) (outer : List (List (Binder T))) → Agree ((b ∷ bs) ∷ outer) before → Agree (bs ∷ outer) after

-- What they have before and after all binders of a frame, the latest first, are taken off.
abbrev pub ForgetsAll : {T S : Type 0} → List (Binder T) → HashMap (Vec ℕ) (Standing T) S → HashMap (Vec ℕ) (Standing T) S → Type 0
ForgetsAll {T} bs before after = (outer : List (List (Binder T))) → Agree (bs ∷ outer) before → Agree outer after
