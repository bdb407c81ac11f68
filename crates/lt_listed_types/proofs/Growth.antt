-- What typing adds to the types that are known, and what it changes there.
use Rattle.std.proofs.Common.{◌≡◌, refl, sym, ◌∙◌, ℕ, zero, suc, List, [], ◌∷◌, ◌++◌, length, true, false, Option, Some, None}
use Rattle.std.specs.Prelude.{slice_get, slice_set, is_some}
use Rattle.std.specs.List.{AllByRecursion}
use Rattle.lt_tree.specs.Typing.Types.{CType}
use Rattle.lt_tree.specs.Typing.Extents.{Structs, StructType, Member}
use Rattle.lt_tree.specs.Typing.TypedTree.{Start}
use Rattle.lt_tree.specs.Typing.Entities.{Known, Object, Function, Fact}
use Rattle.lt_tree.specs.Typing.Specifying.{is_complete_struct, with_members}
use Rattle.lt_tree.specs.Typing.Declaring.{with_start}
use Rattle.lt_type_laws.specs.Accesses.{is_named_in, AccessesItems}
use Rattle.lt_type_laws.proofs.Lists.{all_first, all_second, all_both}
use Rattle.lt_listed_types.proofs.Named.{inmost}
use Rattle.lt_listed_types.proofs.Keeping.{lists_of, HasInside, MembersNamed, Names, Keeps, same}

-- ---- one more fact, struct, object or function

abbrev pub with_fact : Fact → Known → Known
with_fact fact known = record known { facts = known.facts ++ fact ∷ [] }

abbrev pub with_struct : StructType → Known → Known
with_struct it known = record known { structs = known.structs ++ it ∷ [] }

abbrev pub with_object : Object → Known → Known
with_object object known = record known { objects = known.objects ++ object ∷ [] }

abbrev pub with_function : Function → Known → Known
with_function f known = record known { functions = known.functions ++ f ∷ [] }

inside_before : (objects : List Object) (object : Object) (n : ℕ) (t : CType) → HasInside objects n t → HasInside (objects ++ object ∷ []) n t
inside_before [] object n t h = absurd h
inside_before (first ∷ objects) object zero t h = h
inside_before (first ∷ objects) object (suc n) t h = inside_before objects object n t h

pub last_inside : (objects : List Object) (object : Object) → HasInside (objects ++ object ∷ []) (length objects) (inmost object.type)
last_inside [] object = refl
last_inside (first ∷ objects) object = last_inside objects object

-- ---- what is set

none_named : (types : List CType) (members : Option (List Member)) → is_some members ≡ false → MembersNamed types members
none_named types None h = tt
none_named types (Some members) h = absurd cc

structs_before : (types : List CType) (structs : Structs) (k : ℕ) (it : StructType) → is_complete_struct structs k ≡ false
    → AllByRecursion (λ (it : StructType). MembersNamed types it.members) (slice_set structs k it) → AllByRecursion (λ (it : StructType). MembersNamed types it.members) structs
structs_before types [] k it h all = tt
structs_before types (first ∷ structs) zero it h all = (none_named types first.members h, all.1)
structs_before types (first ∷ structs) (suc k) it h all = (all.0, structs_before types structs k it h all.1)

set_inside : (objects : List Object) (k : ℕ) (new : Object) → HasInside objects k (inmost new.type) → (n : ℕ) (t : CType) → HasInside objects n t → HasInside (slice_set objects k new) n t
set_inside [] k new e n t h = absurd h
set_inside (object ∷ objects) zero new e zero t h = sym e ∙ h
set_inside (object ∷ objects) zero new e (suc n) t h = h
set_inside (object ∷ objects) (suc k) new e zero t h = h
set_inside (object ∷ objects) (suc k) new e (suc n) t h = set_inside objects k new e n t h

module _ {types : List CType} where
  -- where no function is added
  by_names : {facts others : List Fact} {structs after : Structs} {objects later : List Object} {functions : List Function}
      → (Names types (record { facts = others; structs = after; objects = later; functions = functions }) → Names types (record { facts = facts; structs = structs; objects = objects; functions = functions }))
      → ((n : ℕ) (t : CType) → HasInside objects n t → HasInside later n t)
      → Keeps types (record { facts = facts; structs = structs; objects = objects; functions = functions }) (record { facts = others; structs = after; objects = later; functions = functions })
  by_names names inside = record { names = names; inside = inside; bodies = λ f h. f (names h) }

  pub noted : (fact : Fact) (known : Known) → Keeps types (lists_of known) (lists_of (with_fact fact known))
  noted fact known =
      by_names (λ h. record { facts = all_first (λ (it : Fact). is_named_in types it.type ≡ true) known.facts (fact ∷ []) h.facts; structs = h.structs; objects = h.objects }) (λ n t h. h)

  pub last_noted : (fact : Fact) (known : Known) → Names types (lists_of (with_fact fact known)) → is_named_in types fact.type ≡ true
  last_noted fact known h = (all_second (λ (it : Fact). is_named_in types it.type ≡ true) known.facts (fact ∷ []) h.facts).0

  pub struct_added : (it : StructType) (known : Known) → Keeps types (lists_of known) (lists_of (with_struct it known))
  struct_added it known =
      by_names (λ h. record { facts = h.facts; structs = all_first (λ (it : StructType). MembersNamed types it.members) known.structs (it ∷ []) h.structs; objects = h.objects }) (λ n t h. h)

  pub object_added : (object : Object) (known : Known) → Keeps types (lists_of known) (lists_of (with_object object known))
  object_added object known =
      by_names (λ h. record { facts = h.facts; structs = h.structs; objects = λ n t at. h.objects n t (inside_before known.objects object n t at) }) (inside_before known.objects object)

  pub function_added : (f : Function) (known : Known) → (Names types (lists_of known) → AccessesItems (is_named_in types) f.body) → Keeps types (lists_of known) (lists_of (with_function f known))
  function_added f known body =
      let names : Names types (lists_of (with_function f known)) → Names types (lists_of known) = λ h. record { facts = h.facts; structs = h.structs; objects = h.objects } in
      record {
        names = names;
        inside = λ n t h. h;
        bodies = λ old h. all_both (λ (it : Function). AccessesItems (is_named_in types) it.body) known.functions (f ∷ []) (old (names h)) (body (names h), tt);
      }

  -- ---- a struct that gets its members

  pub struct_closed : (k : ℕ) (members : List Member) (known : Known) → is_complete_struct known.structs k ≡ false → Keeps types (lists_of known) (lists_of (with_members k members known))
  struct_closed k members known incomplete =
      by_names (λ h. record { facts = h.facts; structs = structs_before types known.structs k (record { members = Some members }) incomplete h.structs; objects = h.objects }) (λ n t h. h)

  -- ---- an object whose start and length become known

  pub started : (n : ℕ) (start : Option Start) (t : CType) (known : Known) → HasInside known.objects n (inmost t) → Keeps types (lists_of known) (lists_of (with_start n start t known))
  started n start t known e =
      elim (slice_get known.objects n) as
      (λ found. Keeps types (lists_of known) (lists_of (elim found as (λ _. Known) [ None ↦ known | Some object ↦ record known { objects = slice_set known.objects n (record object { type = t; start = start }) } ])))
      [ None ↦ same | Some object ↦ set object ]
    where
      set : (object : Object) → Keeps types (lists_of known) (lists_of (record known { objects = slice_set known.objects n (record object { type = t; start = start }) }))
      set object =
          let inside = set_inside known.objects n (record object { type = t; start = start }) e in
          by_names (λ h. record { facts = h.facts; structs = h.structs; objects = λ m u at. h.objects m u (inside m u at) }) inside
