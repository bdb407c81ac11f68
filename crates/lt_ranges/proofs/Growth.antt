-- What typing adds to what is known, and what it changes there.
use Rattle.std.proofs.Common.{◌≡◌, refl, subst, ◌∙◌, ℕ, zero, suc, ◌<◌, List, [], ◌∷◌, ◌++◌, length, Bool, true, false, Option, Some, None, arith}
use Rattle.std.specs.Prelude.{if◌then◌else◌, slice_get, slice_set, ◌==◌}
use Rattle.std.specs.Str.{bytes_eq}
use Rattle.std.proofs.lemmas.Bool.{eq-eqb}
use Rattle.std.proofs.lemmas.List.{length-append}
use Rattle.std.proofs.lemmas.Slice.Eq.{bytes_eq-Decides}
use Rattle.std.proofs.Math.ListN.{length-set}
use Rattle.lt_tree.specs.Typing.Types.{CType}
use Rattle.lt_tree.specs.Typing.Extents.{StructType}
use Rattle.lt_tree.specs.Typing.TypedTree.{Start}
use Rattle.lt_tree.specs.Typing.Entities.{Known, Life, Object, Declared, declared_among, Function, Label, Fact, Entity, Tagged, bind_name, bind_tag}
use Rattle.lt_tree.specs.Typing.Declaring.{with_declared, with_start}
use Rattle.lt_tree.specs.Typing.Ranges.{to_function, lives, bound_by, in_option, in_start, in_struct, in_object, in_declared, in_function, in_entity, in_tagged, in_fact}
use Rattle.lt_ranges.proofs.References.{Has, one, both, Kept, same, function_there, later, pushed, changed}
use Rattle.lt_ranges.proofs.Steps.{Sound, lists_of, later_sound}
use Rattle.lt_ranges.proofs.TypesInRange.{T}
use Rattle.lt_ranges.proofs.Lookups.{binding_in, tagging_in}

-- ---- names and tags

pub bound : (name : List ℕ) (entity : Entity) (known : Known) → Has (lists_of known) (in_entity name entity) → Sound known → Sound (bind_name name entity known)
bound name entity known h s =
    record { frames = binding_in name entity known.frames h s.frames; structs = s.structs; objects = s.objects; declared = s.declared; functions = s.functions; facts = s.facts }

pub tagged : (name : List ℕ) (it : Tagged) (known : Known) → Has (lists_of known) (in_tagged it) → Sound known → Sound (bind_tag name it known)
tagged name it known h s =
    record { frames = tagging_in name it known.frames h s.frames; structs = s.structs; objects = s.objects; declared = s.declared; functions = s.functions; facts = s.facts }

-- ---- facts and functions with bodies

pub noted : (fact : Fact) (known : Known) → Has (lists_of known) (in_fact fact) → Sound known → Sound (record known { facts = known.facts ++ fact ∷ [] })
noted fact known h s =
    record { frames = s.frames; structs = s.structs; objects = s.objects; declared = s.declared; functions = s.functions; facts = pushed in_fact known.facts fact s.facts h }

pub defined : (f : Function) (known : Known) → Has (lists_of known) (in_function f) → Sound known → Sound (record known { functions = known.functions ++ f ∷ [] })
defined f known h s =
    record { frames = s.frames; structs = s.structs; objects = s.objects; declared = s.declared; functions = pushed in_function known.functions f s.functions h; facts = s.facts }

-- ---- objects

-- with one more, where each lives as before
still_lives : (so : Life → Bool) (objects : List Object) (object : Object) (n : ℕ) → lives so objects n ≡ true → lives so (objects ++ object ∷ []) n ≡ true
still_lives so [] object n h = absurd cc
still_lives so (it ∷ objects) object zero h = h
still_lives so (it ∷ objects) object (suc n) h = still_lives so objects object n h

last_lives : (so : Life → Bool) (objects : List Object) (object : Object) → lives so (objects ++ object ∷ []) (length objects) ≡ so object.life
last_lives so [] object = refl
last_lives so (it ∷ objects) object = last_lives so objects object

-- with one of another type and start
lives_changed : (so : Life → Bool) (objects : List Object) (n m : ℕ) (object : Object) (t : CType) (start : Option Start) → slice_get objects n ≡ Some object → lives so objects m ≡ true
    → lives so (slice_set objects n (record object { type = t; start = start })) m ≡ true
lives_changed so [] n m object t start is h = absurd cc
lives_changed so (it ∷ objects) zero zero object t start is h = let e : it ≡ object = cc in subst (λ o. so o.life ≡ true) e h
lives_changed so (it ∷ objects) zero (suc m) object t start is h = h
lives_changed so (it ∷ objects) (suc n) zero object t start is h = h
lives_changed so (it ∷ objects) (suc n) (suc m) object t start is h = lives_changed so objects n m object t start is h

abbrev pub with_object : Object → Known → Known
with_object object known = record known { objects = known.objects ++ object ∷ [] }

pub object_kept : (object : Object) (known : Known) → Kept (lists_of known) (lists_of (with_object object known))
object_kept object known =
    record { objects = omega (arith, length-append known.objects (object ∷ [])); lives_on = λ so n h. still_lives so known.objects object n h; structs = omega arith; declared = λ name t h. h; labels = λ id names h. h }

pub object_lives : (so : Life → Bool) (object : Object) (known : Known) → so object.life ≡ true → lives so (with_object object known).objects (length known.objects) ≡ true
object_lives so object known h = last_lives so known.objects object ∙ h

pub object_there : (object : Object) (known : Known) → length known.objects < length (with_object object known).objects
object_there object known = omega (arith, length-append known.objects (object ∷ []))

pub object_added : (object : Object) (known : Known) → Has (lists_of known) (in_object object) → Sound known → Sound (with_object object known)
object_added object known h s =
    let kept = object_kept object known in
    let l = later_sound kept s in
    record { frames = l.frames; structs = l.structs; objects = pushed in_object known.objects object l.objects (later kept h); declared = l.declared; functions = l.functions; facts = l.facts }

-- an object whose start and type become known
abbrev with_start_of : ℕ → Option Start → CType → Known → Option Object → Known
with_start_of n start t known None = known
with_start_of n start t known (Some object) = record known { objects = slice_set known.objects n (record object { type = t; start = start }) }

abbrev pub IsStarted : Known → Known → Type 0
IsStarted old new = Kept (lists_of old) (lists_of new) × Sound new

start_of_in : (n : ℕ) (start : Option Start) (t : CType) (known : Known) (found : Option Object) → slice_get known.objects n ≡ found → T (lists_of known) t → Has (lists_of known) (in_option in_start start) → Sound known
    → IsStarted known (with_start_of n start t known found)
start_of_in n start t known None is h i s = (same, s)
start_of_in n start t known (Some object) is h i s =
    let it : Object = record object { type = t; start = start } in
    let kept : Kept (lists_of known) (lists_of (record known { objects = slice_set known.objects n it })) =
    record { objects = omega (arith, length-set known.objects n it); lives_on = λ so m h. lives_changed so known.objects n m object t start is h; structs = omega arith; declared = λ name t h. h; labels = λ id names h. h } in
    let l = later_sound kept s in
    let whole : Has (lists_of known) (in_object it) = both h i in
    (kept, record { frames = l.frames; structs = l.structs; objects = changed in_object known.objects n it l.objects (later kept whole); declared = l.declared; functions = l.functions; facts = l.facts })

pub start_in : (n : ℕ) (start : Option Start) (t : CType) (known : Known) → T (lists_of known) t → Has (lists_of known) (in_option in_start start) → Sound known
    → IsStarted known (with_start n start t known)
start_in n start t known h i s = start_of_in n start t known (slice_get known.objects n) refl h i s

-- ---- structs

abbrev pub with_struct : StructType → Known → Known
with_struct it known = record known { structs = known.structs ++ it ∷ [] }

pub struct_kept : (it : StructType) (known : Known) → Kept (lists_of known) (lists_of (with_struct it known))
struct_kept it known =
    record { objects = omega arith; lives_on = λ so n h. h; structs = omega (arith, length-append known.structs (it ∷ [])); declared = λ name t h. h; labels = λ id names h. h }

pub struct_there : (it : StructType) (known : Known) → length known.structs < length (with_struct it known).structs
struct_there it known = omega (arith, length-append known.structs (it ∷ []))

pub struct_added : (it : StructType) (known : Known) → Has (lists_of known) (in_struct it) → Sound known → Sound (with_struct it known)
struct_added it known h s =
    let kept = struct_kept it known in
    let l = later_sound kept s in
    record { frames = l.frames; structs = pushed in_struct known.structs it l.structs (later kept h); objects = l.objects; declared = l.declared; functions = l.functions; facts = l.facts }

pub struct_changed : (k : ℕ) (it : StructType) (known : Known) → Has (lists_of known) (in_struct it) → Sound known
    → IsStarted known (record known { structs = slice_set known.structs k it })
struct_changed k it known h s =
    let kept : Kept (lists_of known) (lists_of (record known { structs = slice_set known.structs k it })) =
    record { objects = omega arith; lives_on = λ so n h. h; structs = omega (arith, length-set known.structs k it); declared = λ name t h. h; labels = λ id names h. h } in
    let l = later_sound kept s in
    (kept, record { frames = l.frames; structs = changed in_struct known.structs k it l.structs (later kept h); objects = l.objects; declared = l.declared; functions = l.functions; facts = l.facts })

-- ---- labels

abbrev pub with_label : Label → Known → Known
with_label label known = record known { labels = known.labels ++ label ∷ [] }

-- a label that was found is found where one more stands behind
found_or_more : (is_it : Bool) (own names : List (List ℕ)) (found more : Option (List (List ℕ))) → (found ≡ Some names → more ≡ Some names)
    → (if is_it then Some own else found) ≡ Some names → (if is_it then Some own else more) ≡ Some names
found_or_more true own names found more f h = h
found_or_more false own names found more f h = f h

bound_more : (id : ℕ) (labels : List Label) (label : Label) (names : List (List ℕ)) → bound_by id labels ≡ Some names → bound_by id (labels ++ label ∷ []) ≡ Some names
bound_more id [] label names h = absurd cc
bound_more id (it ∷ labels) label names h =
    found_or_more (it.id == id) it.bound names (bound_by id labels) (bound_by id (labels ++ label ∷ [])) (bound_more id labels label names) h

-- the one behind is found by its id, where no other has this
only_there : (is_it : Bool) (own : List (List ℕ)) → is_it ≡ true → (if is_it then Some own else None) ≡ Some own
only_there true own h = refl
only_there false own h = absurd cc

later_there : (is_it : Bool) (own names : List (List ℕ)) (found more : Option (List (List ℕ))) → (found ≡ None → more ≡ Some names) → (if is_it then Some own else found) ≡ None
    → (if is_it then Some own else more) ≡ Some names
later_there true own names found more f h = absurd cc
later_there false own names found more f h = f h

bound_last : (labels : List Label) (label : Label) → bound_by label.id labels ≡ None → bound_by label.id (labels ++ label ∷ []) ≡ Some label.bound
bound_last [] label h = only_there (label.id == label.id) label.bound (eq-eqb label.id label.id refl)
bound_last (it ∷ labels) label h =
    later_there (it.id == label.id) it.bound label.bound (bound_by label.id labels) (bound_by label.id (labels ++ label ∷ [])) (bound_last labels label) h

-- no label has this id, with one more of another id
still_none : (is_it : Bool) (own : List (List ℕ)) (found more : Option (List (List ℕ))) → (found ≡ None → more ≡ None) → (if is_it then Some own else found) ≡ None
    → (if is_it then Some own else more) ≡ None
still_none true own found more f h = absurd cc
still_none false own found more f h = f h

other_there : (is_it : Bool) (own : List (List ℕ)) → is_it ≡ false → (if is_it then Some own else None) ≡ None
other_there true own h = absurd cc
other_there false own h = refl

pub none_more : (id : ℕ) (labels : List Label) (label : Label) → (label.id == id) ≡ false → bound_by id labels ≡ None → bound_by id (labels ++ label ∷ []) ≡ None
none_more id [] label other h = other_there (label.id == id) label.bound other
none_more id (it ∷ labels) label other h = still_none (it.id == id) it.bound (bound_by id labels) (bound_by id (labels ++ label ∷ [])) (none_more id labels label other) h

pub label_kept : (label : Label) (known : Known) → Kept (lists_of known) (lists_of (with_label label known))
label_kept label known =
    record { objects = omega arith; lives_on = λ so n h. h; structs = omega arith; declared = λ name t h. h; labels = λ id names h. bound_more id known.labels label names h }

pub label_there : (label : Label) (known : Known) → bound_by label.id known.labels ≡ None → bound_by label.id (with_label label known).labels ≡ Some label.bound
label_there label known new = bound_last known.labels label new

pub label_added : (label : Label) (known : Known) → Sound known → Sound (with_label label known)
label_added label known s = later_sound (label_kept label known) s

-- ---- functions that are declared

here_or_more : (is_it : Bool) (u t : CType) (found more : Option CType) → (found ≡ Some t → more ≡ Some t) → (if is_it then Some u else found) ≡ Some t → (if is_it then Some u else more) ≡ Some t
here_or_more true u t found more f h = h
here_or_more false u t found more f h = f h

among_more : (name : List ℕ) (fs : List Declared) (f : Declared) (t : CType) → declared_among name fs ≡ Some t → declared_among name (fs ++ f ∷ []) ≡ Some t
among_more name [] f t is = absurd cc
among_more name (g ∷ fs) f t is = here_or_more (bytes_eq g.name name) g.type t (declared_among name fs) (declared_among name (fs ++ f ∷ [])) (among_more name fs f t) is

-- it is the one behind, where none before is
itself : (is_it : Bool) (t : CType) → is_it ≡ true → (if is_it then Some t else None) ≡ Some t
itself true t h = refl
itself false t h = absurd cc

behind : (is_it : Bool) (u t : CType) (found more : Option CType) → (found ≡ None → more ≡ Some t) → (if is_it then Some u else found) ≡ None → (if is_it then Some u else more) ≡ Some t
behind true u t found more f h = absurd cc
behind false u t found more f h = f h

among_last : (name : List ℕ) (fs : List Declared) (t : CType) → declared_among name fs ≡ None → declared_among name (fs ++ record { name = name; type = t } ∷ []) ≡ Some t
among_last name [] t is = itself (bytes_eq name name) t ((bytes_eq-Decides name name).1 refl)
among_last name (g ∷ fs) t is =
    behind (bytes_eq g.name name) g.type t (declared_among name fs) (declared_among name (fs ++ record { name = name; type = t } ∷ [])) (among_last name fs t) is

abbrev with_declared_of : List ℕ → CType → Known → Option CType → Known
with_declared_of name t known None = record known { declared = known.declared ++ record { name = name; type = t } ∷ [] }
with_declared_of name t known (Some u) = known

-- the function of this name is declared, and what was known is kept
pub record IsDeclared (name : List ℕ) (old new : Known) : Type 0 where
  pub kept : Kept (lists_of old) (lists_of new)
  pub sound : Sound new
  pub there : Has (lists_of new) (to_function name ∷ [])

declared_of_in : (name : List ℕ) (t : CType) (known : Known) (found : Option CType) → declared_among name known.declared ≡ found → T (lists_of known) t → Sound known
    → IsDeclared name known (with_declared_of name t known found)
declared_of_in name t known None is h s =
    let f : Declared = record { name = name; type = t } in
    let kept : Kept (lists_of known) (lists_of (record known { declared = known.declared ++ f ∷ [] })) =
    record { objects = omega arith; lives_on = λ so n h. h; structs = omega arith; declared = λ other u there. among_more other known.declared f u there; labels = λ id names h. h } in
    let l = later_sound kept s in
    record {
      kept = kept;
      sound = record { frames = l.frames; structs = l.structs; objects = l.objects; declared = pushed in_declared known.declared f l.declared (later kept h); functions = l.functions; facts = l.facts };
      there = one (function_there (lists_of (record known { declared = known.declared ++ f ∷ [] })) name (among_last name known.declared t is));
    }
declared_of_in name t known (Some u) is h s = record { kept = same; sound = s; there = one (function_there (lists_of known) name is) }

pub declared_in : (name : List ℕ) (t : CType) (known : Known) → T (lists_of known) t → Sound known → IsDeclared name known (with_declared name t known)
declared_in name t known h s = declared_of_in name t known (declared_among name known.declared) refl h s
