-- Objects by their numbers in both texts.
use Rattle.std.proofs.Common.{◌≡◌, ℕ, zero, suc, ◌+◌, List, Option, Some, None, option_map, Bool, true, false, refl, sym, ap, ◌∙◌, arith}
use Rattle.std.specs.Prelude.{◌++◌, ◌&&◌, if◌then◌else◌, slice_get, unwrap_or}
use Rattle.std.specs.Str.{bytes_eq}
use Rattle.lt_model.specs.Layout.{then_some}
use Rattle.lt_tree.specs.Typing.Types.{CType, Void}
use Rattle.lt_tree.specs.Typing.Extents.{size_of}
use Rattle.lt_tree.specs.Typing.Entities.{Known, Object, is_linked, is_static, linked_from, linked_object, type_of_object}
use Rattle.lt_tree.specs.Typing.Operands.{holds}
use Rattle.lt_tree.specs.Typing.Operations.{lives_from_the_start, object_size}
use Rattle.lt_object_laws.specs.Renamed.{renumbered, object_with}
use Rattle.lt_object_laws.specs.Further.{IsFurther, a_string, never_made}
use Rattle.lt_mark_typing.specs.Further.{Agrees, HasObjects, no_objects, an_object, a_further_object}
use Rattle.lt_mark_typing.specs.Beside.{IsBeside}

-- ---- by a number

-- what is asked of an object by its number, apart from its node and how it starts
found_by : {r : ℕ → ℕ} {B : Type 0} (g : Object → B) (d : B) → ((x : Object) (node : ℕ) → g (record (object_with r x) { node = node }) ≡ g x) → {further : List Bool} {xs ys : List Object} (more : List Bool)
    → HasObjects r further xs ys → (n : ℕ)
    → elim (slice_get ys (renumbered (further ++ more) n)) as (λ _. B) [ None ↦ d | Some x ↦ g x ] ≡ elim (slice_get xs n) as (λ _. B) [ None ↦ d | Some x ↦ g x ]
found_by g d k more no_objects n = refl
found_by g d k more (an_object x node h) zero = k x node
found_by g d k more (an_object x node h) (suc n) = found_by g d k more h n
found_by g d k more (a_further_object y f h) n = found_by g d k more h n

-- the number that one has in the end
pub number_in : {r : ℕ → ℕ} {further : List Bool} (a : Agrees r further) (n : ℕ) → r n ≡ renumbered (further ++ a.extends.more) n
number_in a n = ap (λ (f : ℕ → ℕ). f n) a.is ∙ ap (λ all. renumbered all n) a.extends.is

found_same : {r : ℕ → ℕ} {B : Type 0} (g : Object → B) (d : B) → ((x : Object) (node : ℕ) → g (record (object_with r x) { node = node }) ≡ g x) → {further : List Bool} {xs ys : List Object}
    → Agrees r further → HasObjects r further xs ys → (n : ℕ)
    → elim (slice_get ys (r n)) as (λ _. B) [ None ↦ d | Some x ↦ g x ] ≡ elim (slice_get xs n) as (λ _. B) [ None ↦ d | Some x ↦ g x ]
found_same {r} {B} g d k {further} {xs} {ys} a h n =
    ap (λ i. elim (slice_get ys i) as (λ _. B) [ None ↦ d | Some x ↦ g x ]) (number_in a n) ∙ found_by g d k a.extends.more h n

type_there : (it : Option Object) → unwrap_or (then_some it (λ object. Some object.type)) Void ≡ elim (it) as (λ _. CType) [ None ↦ Void | Some x ↦ x.type ]
type_there None = refl
type_there (Some x) = refl

static_there : (it : Option Object) → holds (λ object. is_static object.life) it ≡ elim (it) as (λ _. Bool) [ None ↦ false | Some x ↦ is_static x.life ]
static_there None = refl
static_there (Some x) = refl

module _ {further : List Bool} (k : Known) (r : ℕ → ℕ) (a : Agrees r further) (os : List Object) (h : HasObjects r further k.objects os) where
  pub type_same : (n : ℕ) → type_of_object (record k { objects = os }) (r n) ≡ type_of_object k n
  type_same n = type_there (slice_get os (r n)) ∙ found_same (λ x. x.type) Void (λ x m. refl) a h n ∙ sym (type_there (slice_get k.objects n))

  pub static_same : (n : ℕ) → lives_from_the_start (record k { objects = os }) (r n) ≡ lives_from_the_start k n
  static_same n = static_there (slice_get os (r n)) ∙ found_same (λ x. is_static x.life) false (λ x m. refl) a h n ∙ sym (static_there (slice_get k.objects n))

  pub size_same : (n : ℕ) → object_size (record k { objects = os }) (r n) ≡ object_size k n
  size_same n = ap (size_of k.model k.structs) (type_same n)

-- ---- by a name

further_not_linked : {x : Object} → IsFurther x → is_linked x.life ≡ false
further_not_linked (a_string life type letters) = ap is_linked life
further_not_linked (never_made life) = ap is_linked life

linked_by : {r : ℕ → ℕ} (s : ℕ → ℕ) {further : List Bool} {xs ys : List Object} (more : List Bool) (name : List ℕ) (m n : ℕ) → HasObjects r further xs ys
    → ((i : ℕ) → s (m + i) ≡ n + renumbered (further ++ more) i) → linked_from n name ys ≡ option_map s (linked_from m name xs)
linked_by s more name m n no_objects h = refl
linked_by s more name m n (an_object {further} {objects = xs} {others = ys} x node d) h =
    by (is_linked x.life && bytes_eq x.name name) (linked_by s more name (m + 1) (n + 1) d (λ i. let it = h (suc i) in ap s (omega arith) ∙ it ∙ omega arith))
  where
    first : n ≡ s m
    first = let it = h 0 in sym (ap s (omega arith) ∙ it ∙ omega arith)

    by : (t : Bool) → linked_from (n + 1) name ys ≡ option_map s (linked_from (m + 1) name xs)
        → (if t then Some n else linked_from (n + 1) name ys) ≡ option_map s (if t then Some m else linked_from (m + 1) name xs)
    by true g = ap (λ i. Some i) first
    by false g = g
linked_by s more name m n (a_further_object {further} {objects = xs} {others = ys} y f d) h =
    ap (λ t. if t && bytes_eq y.name name then Some n else linked_from (n + 1) name ys) (further_not_linked f)
    ∙ linked_by s more name m (n + 1) d (λ i. h i ∙ omega arith)

module _ {new : ℕ → Bool} {used : List ℕ} {further : List Bool} {k j : Known} (b : IsBeside new used further k j) (r : ℕ → ℕ) (a : Agrees r further) where
  pub type_known : (n : ℕ) → type_of_object j (r n) ≡ type_of_object k n
  type_known n = type_same k r a j.objects (b.objects r a) n

  pub linked_known : (name : List ℕ) → linked_object name j ≡ option_map r (linked_object name k)
  linked_known name = linked_by r a.extends.more name 0 0 (b.objects r a) (λ i. ap r (omega arith) ∙ number_in a i ∙ omega arith)
