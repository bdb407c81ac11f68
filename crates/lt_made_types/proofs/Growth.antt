-- What typing adds to what is known, and what it changes there.
use Rattle.std.proofs.Common.{ℕ, zero, suc, List, [], ◌∷◌, ◌++◌, Option, Some, None}
use Rattle.std.specs.Prelude.{slice_get, slice_set}
use Rattle.std.specs.List.{AllByRecursion}
use Rattle.lt_tree.specs.Typing.Types.{CType}
use Rattle.lt_tree.specs.Typing.Extents.{StructType}
use Rattle.lt_tree.specs.Typing.TypedTree.{Start}
use Rattle.lt_tree.specs.Typing.Entities.{Known, Object, declared_among, Fact, Entity, Tagged, bind_name, bind_tag}
use Rattle.lt_tree.specs.Typing.Declaring.{with_declared, with_start}
use Rattle.lt_made_types.proofs.MadeTypes.{Made}
use Rattle.lt_made_types.proofs.Keeping.{EntityMade, StructMade, ObjectMade, DeclaredMade, FactMade, Sound}
use Rattle.lt_made_types.proofs.Lookups.{binding_made, tagging_made}

-- ---- lists

module _ {A : Type 0} (Is : A → Type 0) where
  -- with one more
  pub pushed : (xs : List A) (a : A) → AllByRecursion Is xs → Is a → AllByRecursion Is (xs ++ a ∷ [])
  pushed [] a h i = (i, tt)
  pushed (x ∷ xs) a h i = (h.0, pushed xs a h.1 i)

  -- with one changed
  pub changed : (xs : List A) (n : ℕ) (a : A) → AllByRecursion Is xs → Is a → AllByRecursion Is (slice_set xs n a)
  changed [] n a h i = tt
  changed (x ∷ xs) zero a h i = (i, h.1)
  changed (x ∷ xs) (suc n) a h i = (h.0, changed xs n a h.1 i)

-- ---- names, tags and facts

pub bound : (name : List ℕ) (entity : Entity) (known : Known) → EntityMade entity → Sound known → Sound (bind_name name entity known)
bound name entity known h s = record { frames = binding_made name entity known.frames h s.frames; structs = s.structs; objects = s.objects; declared = s.declared; facts = s.facts }

pub tagged : (name : List ℕ) (it : Tagged) (known : Known) → Sound known → Sound (bind_tag name it known)
tagged name it known s = record { frames = tagging_made name it known.frames s.frames; structs = s.structs; objects = s.objects; declared = s.declared; facts = s.facts }

pub noted : (fact : Fact) (known : Known) → FactMade fact → Sound known → Sound (record known { facts = known.facts ++ fact ∷ [] })
noted fact known h s = record { frames = s.frames; structs = s.structs; objects = s.objects; declared = s.declared; facts = pushed FactMade known.facts fact s.facts h }

-- ---- objects

abbrev pub with_object : Object → Known → Known
with_object object known = record known { objects = known.objects ++ object ∷ [] }

pub object_added : (object : Object) (known : Known) → Made object.type → Sound known → Sound (with_object object known)
object_added object known h s = record { frames = s.frames; structs = s.structs; objects = pushed ObjectMade known.objects object s.objects h; declared = s.declared; facts = s.facts }

-- an object whose start and type become known
abbrev with_start_of : ℕ → Option Start → CType → Known → Option Object → Known
with_start_of n start t known None = known
with_start_of n start t known (Some object) = record known { objects = slice_set known.objects n (record object { type = t; start = start }) }

start_of_made : (n : ℕ) (start : Option Start) (t : CType) (known : Known) (found : Option Object) → Made t → Sound known → Sound (with_start_of n start t known found)
start_of_made n start t known None h s = s
start_of_made n start t known (Some object) h s = record {
  frames = s.frames;
  structs = s.structs;
  objects = changed ObjectMade known.objects n (record object { type = t; start = start }) s.objects h;
  declared = s.declared;
  facts = s.facts;
}

pub start_made : (n : ℕ) (start : Option Start) (t : CType) (known : Known) → Made t → Sound known → Sound (with_start n start t known)
start_made n start t known h s = start_of_made n start t known (slice_get known.objects n) h s

-- ---- structs

abbrev pub with_struct : StructType → Known → Known
with_struct it known = record known { structs = known.structs ++ it ∷ [] }

pub struct_added : (it : StructType) (known : Known) → StructMade it → Sound known → Sound (with_struct it known)
struct_added it known h s = record { frames = s.frames; structs = pushed StructMade known.structs it s.structs h; objects = s.objects; declared = s.declared; facts = s.facts }

pub struct_changed : (k : ℕ) (it : StructType) (known : Known) → StructMade it → Sound known → Sound (record known { structs = slice_set known.structs k it })
struct_changed k it known h s = record { frames = s.frames; structs = changed StructMade known.structs k it s.structs h; objects = s.objects; declared = s.declared; facts = s.facts }

-- ---- functions that are declared

abbrev with_declared_of : List ℕ → CType → Known → Option CType → Known
with_declared_of name t known None = record known { declared = known.declared ++ record { name = name; type = t } ∷ [] }
with_declared_of name t known (Some u) = known

declared_of_made : (name : List ℕ) (t : CType) (known : Known) (found : Option CType) → Made t → Sound known → Sound (with_declared_of name t known found)
declared_of_made name t known None h s =
    record { frames = s.frames; structs = s.structs; objects = s.objects; declared = pushed DeclaredMade known.declared (record { name = name; type = t }) s.declared h; facts = s.facts }
declared_of_made name t known (Some u) h s = s

pub declared_made : (name : List ℕ) (t : CType) (known : Known) → Made t → Sound known → Sound (with_declared name t known)
declared_made name t known h s = declared_of_made name t known (declared_among name known.declared) h s
