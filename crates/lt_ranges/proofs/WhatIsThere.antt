-- What is known of a part of a program whose references are there.
use Rattle.std.proofs.Common.{◌≡◌, refl, sym, ap, ◌∙◌, ℕ, zero, suc, Bool, true, false, List, [], ◌∷◌, ◌++◌, Option, Some, None}
use Rattle.std.specs.Prelude.{if◌then◌else◌, slice_get, ◌==◌}
use Rattle.std.specs.List.{flat_map}
use Rattle.std.proofs.lemmas.Bool.{eqb-true}
use Rattle.lt_tree.specs.Typing.Operands.{holds}
use Rattle.lt_tree.specs.Typing.Entities.{Life, linked, local_static, literal, automatic, parameter, unmade, Object, Function, Label, is_static}
use Rattle.lt_tree.specs.Typing.Programs.{Program}
use Rattle.lt_tree.specs.Typing.Ranges.{Reference, Lists, lists_in, lives, is_automatic, is_parameter, bound_by, AreThere, in_struct, in_object, in_declared, in_function, in_frame, in_type, in_fact, IsInRange}

-- ---- lists of references

pub front_there : (lists : Lists) (rs ss : List Reference) → AreThere lists (rs ++ ss) → AreThere lists rs
front_there lists [] ss h = tt
front_there lists (r ∷ rs) ss h = (h.0, front_there lists rs ss h.1)

pub back_there : (lists : Lists) (rs ss : List Reference) → AreThere lists (rs ++ ss) → AreThere lists ss
back_there lists [] ss h = h
back_there lists (r ∷ rs) ss h = back_there lists rs ss h.1

-- what stands in an element of a list
pub element_there : {A : Type 0} (lists : Lists) (of : A → List Reference) (list : List A) (k : ℕ) (a : A) → slice_get list k ≡ Some a → AreThere lists (flat_map of list) → AreThere lists (of a)
element_there lists of [] k a is h = absurd cc
element_there lists of (b ∷ list) zero a is h = let e : b ≡ a = cc in rw (sym e) (front_there lists (of b) (flat_map of list) h)
element_there lists of (b ∷ list) (suc k) a is h = element_there lists of list k a is (back_there lists (of b) (flat_map of list) h)

-- ---- programs

abbrev structs_in : Program → List Reference
structs_in program = flat_map in_struct program.structs

abbrev objects_in : Program → List Reference
objects_in program = structs_in program ++ flat_map in_object program.objects

abbrev declared_in : Program → List Reference
declared_in program = objects_in program ++ flat_map in_declared program.declared

abbrev functions_in : Program → List Reference
functions_in program = declared_in program ++ flat_map in_function program.functions

abbrev file_in : Program → List Reference
file_in program = functions_in program ++ in_frame program.file

abbrev types_in : Program → List Reference
types_in program = file_in program ++ flat_map in_type program.types

-- a function with its body
pub function_there : (program : Program) (k : ℕ) (f : Function) → IsInRange program → slice_get program.functions k ≡ Some f → AreThere (lists_in program) (in_function f)
function_there program k f h is =
    let lists = lists_in program in
    let types = front_there lists (types_in program) (flat_map in_fact program.facts) h in
    let file = front_there lists (file_in program) (flat_map in_type program.types) types in
    let functions = front_there lists (functions_in program) (in_frame program.file) file in
    element_there lists in_function program.functions k f is (back_there lists (declared_in program) (flat_map in_function program.functions) functions)

-- an object
pub object_there : (program : Program) (n : ℕ) (object : Object) → IsInRange program → slice_get program.objects n ≡ Some object → AreThere (lists_in program) (in_object object)
object_there program n object h is =
    let lists = lists_in program in
    let types = front_there lists (types_in program) (flat_map in_fact program.facts) h in
    let file = front_there lists (file_in program) (flat_map in_type program.types) types in
    let functions = front_there lists (functions_in program) (in_frame program.file) file in
    let declared = front_there lists (declared_in program) (flat_map in_function program.functions) functions in
    let objects = front_there lists (objects_in program) (flat_map in_declared program.declared) declared in
    element_there lists in_object program.objects n object is (back_there lists (structs_in program) (flat_map in_object program.objects) objects)

-- ---- objects

pub record LivesSo (so : Life → Bool) (objects : List Object) (n : ℕ) : Type 0 where
  pub object : Object
  pub there : slice_get objects n ≡ Some object
  pub life : so object.life ≡ true

lives_in : (so : Life → Bool) (objects : List Object) (n : ℕ) (found : Option Object) → slice_get objects n ≡ found → holds (λ object. so object.life) found ≡ true → LivesSo so objects n
lives_in so objects n None is h = absurd cc
lives_in so objects n (Some object) is h = record { object = object; there = is; life = h }

pub lives_so : (so : Life → Bool) (objects : List Object) (n : ℕ) → lives so objects n ≡ true → LivesSo so objects n
lives_so so objects n h = lives_in so objects n (slice_get objects n) refl h

pub not_static : (life : Life) → is_automatic life ≡ true → is_static life ≡ false
not_static linked h = absurd cc
not_static local_static h = absurd cc
not_static literal h = absurd cc
not_static automatic h = refl
not_static parameter h = absurd cc
not_static unmade h = absurd cc

pub not_parameter : (life : Life) → is_automatic life ≡ true → is_parameter life ≡ false
not_parameter linked h = absurd cc
not_parameter local_static h = absurd cc
not_parameter literal h = absurd cc
not_parameter automatic h = refl
not_parameter parameter h = absurd cc
not_parameter unmade h = absurd cc

-- no object is both
pub not_both : (objects : List Object) (n : ℕ) → lives is_automatic objects n ≡ true → lives is_parameter objects n ≡ true → ⊥
not_both objects n h i =
    let one = lives_so is_automatic objects n h in
    let other = lives_so is_parameter objects n i in
    let same : one.object ≡ other.object = some_same (sym one.there ∙ other.there) in
    let no = not_parameter one.object.life one.life in
    let yes : is_parameter one.object.life ≡ true = ap (λ object. is_parameter object.life) same ∙ other.life in
    absurd cc
  where
    some_same : {a b : Object} → Some a ≡ Some b → a ≡ b
    some_same e = cc

-- ---- labels

pub record Bound (id : ℕ) (labels : List Label) (names : List (List ℕ)) : Type 0 where
  pub place : ℕ
  pub label : Label
  pub there : slice_get labels place ≡ Some label
  pub id_is : label.id ≡ id
  pub bound_is : label.bound ≡ names

here_or_behind : (is_it : Bool) (label : Label) (id : ℕ) (labels : List Label) (names : List (List ℕ)) → (label.id == id) ≡ is_it
    → (bound_by id labels ≡ Some names → Bound id labels names) → (if is_it then Some label.bound else bound_by id labels) ≡ Some names → Bound id (label ∷ labels) names
here_or_behind true label id labels names is f h =
    let e : label.bound ≡ names = cc in record { place = 0; label = label; there = refl; id_is = eqb-true label.id id is; bound_is = e }
here_or_behind false label id labels names is f h =
    let it = f h in record { place = suc it.place; label = it.label; there = it.there; id_is = it.id_is; bound_is = it.bound_is }

-- the label of an id, with the names that it binds
pub label_there : (id : ℕ) (labels : List Label) (names : List (List ℕ)) → bound_by id labels ≡ Some names → Bound id labels names
label_there id [] names h = absurd cc
label_there id (label ∷ labels) names h = here_or_behind (label.id == id) label id labels names refl (label_there id labels names) h
