-- Objects of string literals and of parameters of type names, which are found behind those that names stand for.
use Rattle.std.proofs.Common.{◌≡◌, ℕ, zero, suc, ◌<◌, ◌≤◌, arith, Bool, true, false, List, [], ◌∷◌, length, Some, refl, ap, ◌∙◌}
use Rattle.std.proofs.lemmas.Bool.{false≢true}
use Rattle.std.proofs.lemmas.List.{length-append}
use Rattle.std.specs.Prelude.{◌++◌, slice_get, unwrap_or}
use Rattle.lt_model.specs.Layout.{then_some}
use Rattle.lt_tree.specs.Typing.Types.{CType, Void}
use Rattle.lt_tree.specs.Typing.Entities.{Known, Object}
use Rattle.lt_tree.specs.Typing.NodeEnds.{text_object}
use Rattle.lt_erased_typing.specs.Literals.{HasMoreTexts, none_more, one_more, one_unmade, NamesObjects}

-- where string literals and parameters are allowed, the names in scope stand for objects that are known
abbrev pub IsNamed : Bool → Known → Type 0
IsNamed texts known = texts ≡ true → NamesObjects known

pub more_after : {texts : Bool} {xs ys zs : List Object} → HasMoreTexts texts xs ys → HasMoreTexts texts ys zs → HasMoreTexts texts xs zs
more_after h none_more = h
more_after h (one_more node known bytes is more) = one_more node known bytes is (more_after h more)
more_after h (one_unmade object is never more) = one_unmade object is never (more_after h more)

-- none, where they aren't allowed
no_more : {xs ys : List Object} → HasMoreTexts false xs ys → ys ≡ xs
no_more none_more = refl
no_more (one_more node known bytes is more) = absurd (false≢true is)
no_more (one_unmade object is never more) = absurd (false≢true is)

longer : {texts : Bool} {xs ys : List Object} → HasMoreTexts texts xs ys → length xs ≤ length ys
longer none_more = omega arith
longer (one_more {objects} node known bytes is more) = let h = longer more in omega (arith, length-append objects (text_object node known bytes ∷ []))
longer (one_unmade {objects} object is never more) = let h = longer more in omega (arith, length-append objects (object ∷ []))

pub kept_within : {texts : Bool} {xs ys : List Object} (n : ℕ) → HasMoreTexts texts xs ys → n < length xs → n < length ys
kept_within n more h = let l = longer more in omega arith

get_before : (xs ys : List Object) (n : ℕ) → n < length xs → slice_get (xs ++ ys) n ≡ slice_get xs n
get_before [] ys n h = absurd (omega arith)
get_before (x ∷ xs) ys zero h = refl
get_before (x ∷ xs) ys (suc n) h = get_before xs ys n (omega arith)

get_same : {texts : Bool} {xs ys : List Object} (n : ℕ) → n < length xs → HasMoreTexts texts xs ys → slice_get ys n ≡ slice_get xs n
get_same n h none_more = refl
get_same n h (one_more {objects} node known bytes is more) = get_before objects (text_object node known bytes ∷ []) n (kept_within n more h) ∙ get_same n h more
get_same n h (one_unmade {objects} object is never more) = get_before objects (object ∷ []) n (kept_within n more h) ∙ get_same n h more

got : {xs ys : List Object} (texts : Bool) (n : ℕ) → (texts ≡ true → n < length xs) → HasMoreTexts texts xs ys → slice_get ys n ≡ slice_get xs n
got true n h more = get_same n (h refl) more
got false n h more = ap (λ (them : List Object). slice_get them n) (no_more more)

-- the type of an object among these
abbrev pub type_among : List Object → ℕ → CType
type_among objects n = unwrap_or (then_some (slice_get objects n) (λ (object : Object). Some object.type)) Void

-- an object that is known is of the same type
pub type_kept : {texts : Bool} {xs ys : List Object} (n : ℕ) → (texts ≡ true → n < length xs) → HasMoreTexts texts xs ys → type_among ys n ≡ type_among xs n
type_kept {texts} n h more = ap (λ found. unwrap_or (then_some found (λ (object : Object). Some object.type)) Void) (got texts n h more)

pub type_before : (xs ys : List Object) (n : ℕ) → n < length xs → type_among (xs ++ ys) n ≡ type_among xs n
type_before xs ys n h = ap (λ found. unwrap_or (then_some found (λ (object : Object). Some object.type)) Void) (get_before xs ys n h)

-- ---- one more object

get_last : (xs : List Object) (object : Object) → slice_get (xs ++ object ∷ []) (length xs) ≡ Some object
get_last [] object = refl
get_last (x ∷ xs) object = get_last xs object

pub type_of_last : (xs : List Object) (object : Object) → type_among (xs ++ object ∷ []) (length xs) ≡ object.type
type_of_last xs object = ap (λ found. unwrap_or (then_some found (λ (object : Object). Some object.type)) Void) (get_last xs object)

pub last_within : (xs : List Object) (object : Object) → length xs < length (xs ++ object ∷ [])
last_within xs object = omega (arith, length-append xs (object ∷ []))
