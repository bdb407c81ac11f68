-- What typing adds to the objects that are known, and what it changes there.
use Rattle.std.proofs.Common.{◌≡◌, refl, sym, ap, ◌∙◌, ℕ, zero, suc, List, [], ◌∷◌, ◌++◌, length, Bool, true, Option, Some, None}
use Rattle.std.specs.Prelude.{slice_get, slice_set}
use Rattle.std.specs.List.{AllByRecursion}
use Rattle.lt_tree.specs.Typing.Types.{CType}
use Rattle.lt_tree.specs.Typing.TypedTree as e
use Rattle.lt_tree.specs.Typing.TypedTree.{Start, StartPart}
use Rattle.lt_tree.specs.Typing.Entities.{Known, Object, is_static}
use Rattle.lt_tree.specs.Typing.Operands.{holds}
use Rattle.lt_tree.specs.Typing.Declaring.{with_start}
use Rattle.lt_meaning.specs.Statements.{parts_in}
use Rattle.lt_typed_addresses.proofs.Resting.{LivesFirst, PartRests, PartsRest, ObjectRests}
use Rattle.lt_typed_addresses.proofs.Keeping.{StillLive, KeepsTo, same, rests_later}

abbrev is_first : Object → Bool
is_first object = is_static object.life

-- ---- what holds of all

pub weaker : {A : Type 0} {Was Is : A → Type 0} → ((a : A) → Was a → Is a) → (xs : List A) → AllByRecursion Was xs → AllByRecursion Is xs
weaker f [] h = tt
weaker f (x ∷ xs) h = (f x h.0, weaker f xs h.1)

module _ {A : Type 0} (Is : A → Type 0) where
  -- with one more
  pub pushed : (xs : List A) (a : A) → AllByRecursion Is xs → Is a → AllByRecursion Is (xs ++ a ∷ [])
  pushed [] a h i = (i, tt)
  pushed (x ∷ xs) a h i = (h.0, pushed xs a h.1 i)

  pub joined : (xs ys : List A) → AllByRecursion Is xs → AllByRecursion Is ys → AllByRecursion Is (xs ++ ys)
  joined [] ys h i = i
  joined (x ∷ xs) ys h i = (h.0, joined xs ys h.1 i)

  -- with one changed
  changed : (xs : List A) (n : ℕ) (a : A) → AllByRecursion Is xs → Is a → AllByRecursion Is (slice_set xs n a)
  changed [] n a h i = tt
  changed (x ∷ xs) zero a h i = (i, h.1)
  changed (x ∷ xs) (suc n) a h i = (h.0, changed xs n a h.1 i)

part_later : {before behind : List Object} → StillLive before behind → (part : StartPart) → PartRests before part → PartRests behind part
part_later lives (e.fixed offset t c) h = rests_later lives h
part_later lives (e.stored offset v) h = tt
part_later lives (e.letters offset s bytes) h = tt

pub parts_later : {before behind : List Object} → StillLive before behind → (parts : List StartPart) → PartsRest before parts → PartsRest behind parts
parts_later lives parts h = weaker (part_later lives) parts h

objects_later : {before behind : List Object} → StillLive before behind → (objects : List Object) → AllByRecursion (ObjectRests before) objects → AllByRecursion (ObjectRests behind) objects
objects_later lives objects h = weaker (λ object i. parts_later lives (parts_in object.start) i) objects h

-- ---- one more object

abbrev pub with_object : Object → Known → Known
with_object object known = record known { objects = known.objects ++ object ∷ [] }

lives_before : (objects : List Object) (object : Object) (n : ℕ) → LivesFirst objects n → LivesFirst (objects ++ object ∷ []) n
lives_before [] object n h = absurd cc
lives_before (first ∷ objects) object zero h = h
lives_before (first ∷ objects) object (suc n) h = lives_before objects object n h

pub last_lives : (objects : List Object) (object : Object) → is_static object.life ≡ true → LivesFirst (objects ++ object ∷ []) (length objects)
last_lives [] object h = h
last_lives (first ∷ objects) object h = last_lives objects object h

-- one that holds no addresses
pub added : (object : Object) (known : Known) → PartsRest (known.objects ++ object ∷ []) (parts_in object.start) → KeepsTo known (with_object object known)
added object known h = record {
  marks = refl;
  lives = record { live = lives_before known.objects object };
  starts = λ all. pushed (ObjectRests (known.objects ++ object ∷ [])) known.objects object (objects_later (record { live = lives_before known.objects object }) known.objects all) h;
}

-- ---- an object whose start and type become known

set_lives : (objects : List Object) (k : ℕ) (old new : Object) → slice_get objects k ≡ Some old → is_static new.life ≡ is_static old.life → (n : ℕ) → LivesFirst objects n → LivesFirst (slice_set objects k new) n
set_lives [] k old new found e n h = h
set_lives (object ∷ objects) zero old new found e zero h = e ∙ sym (ap (holds is_first) found) ∙ h
set_lives (object ∷ objects) zero old new found e (suc n) h = h
set_lives (object ∷ objects) (suc k) old new found e zero h = h
set_lives (object ∷ objects) (suc k) old new found e (suc n) h = set_lives objects k old new found e n h

abbrev with_start_of : ℕ → Option Start → CType → Known → Option Object → Known
with_start_of n start t known None = known
with_start_of n start t known (Some object) = record known { objects = slice_set known.objects n (record object { type = t; start = start }) }

start_of : (n : ℕ) (start : Option Start) (t : CType) (known : Known) (found : Option Object) → slice_get known.objects n ≡ found → PartsRest known.objects (parts_in start) → KeepsTo known (with_start_of n start t known found)
start_of n start t known None e h = same
start_of n start t known (Some object) e h =
    let new : Object = record object { type = t; start = start } in
    let lives : StillLive known.objects (slice_set known.objects n new) = record { live = set_lives known.objects n object new e refl } in
    record {
      marks = refl;
      lives = lives;
      starts = λ all. changed (ObjectRests (slice_set known.objects n new)) known.objects n new (objects_later lives known.objects all) (parts_later lives (parts_in start) h);
    }

pub started : (n : ℕ) (start : Option Start) (t : CType) (known : Known) → PartsRest known.objects (parts_in start) → KeepsTo known (with_start n start t known)
started n start t known h = start_of n start t known (slice_get known.objects n) refl h
