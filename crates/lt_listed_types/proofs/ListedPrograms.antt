-- The list of types of a program names the types of what is known at the end of its unit.
use Rattle.std.proofs.Common.{◌≡◌, refl, subst, true, List, [], ◌∷◌, Option, Some, None, ℕ, zero, suc}
use Rattle.std.proofs.lemmas.Bool.{or_left, or_right}
use Rattle.std.specs.List.{AllByRecursion, flat_map, list_any}
use Rattle.lt_tree.specs.Typing.Types.{CType, Pointer, Array, Struct, Qualified, bare, same as is_same}
use Rattle.lt_tree.specs.Typing.Extents.{Member}
use Rattle.lt_tree.specs.Typing.Entities.{Object, Fact}
use Rattle.lt_tree.specs.Typing.Programs.{Program, made_of, types_of_struct}
use Rattle.lt_type_laws.specs.TypeLists.{AreAmong, HasItsTypes, KnowsTypesOf}
use Rattle.lt_type_laws.proofs.Equal.{same_self}
use Rattle.lt_type_laws.proofs.Units.{known_listed, programs_renumbered}
use Rattle.lt_type_laws.proofs.Lists.{all_first, all_second}
use Rattle.lt_listed_types.proofs.Named.{IsNamed, inmost, named_inside, listed_named}
use Rattle.lt_listed_types.proofs.Keeping.{HasInside, MembersNamed, Names}

-- ---- what is asked of all

weaker : {A : Type 0} {Was Is : A → Type 0} → ((a : A) → Was a → Is a) → (xs : List A) → AllByRecursion Was xs → AllByRecursion Is xs
weaker f [] h = tt
weaker f (x ∷ xs) h = (f x h.0, weaker f xs h.1)

-- each type of a list is among those of the list
among_own : {A : Type 0} (type : A → CType) (xs : List A) → AllByRecursion (λ x. list_any (λ other. is_same (type x) (type other)) xs ≡ true) xs
among_own type [] = tt
among_own type (x ∷ xs) = (or_left _ _ (same_self (type x)), weaker (λ y h. or_right (is_same (type y) (type x)) _ h) xs (among_own type xs))

-- ---- types that are made of others

-- In a list that has each type of which a type is made, a pointer or a struct inside it is named.
made_inside : (types : List CType) (t : CType) → AreAmong types (made_of t) → IsNamed types (inmost t)
made_inside types (Pointer t) h = (all_second (λ u. list_any (is_same u) types ≡ true) (made_of t) (Pointer (bare t) ∷ []) h).0
made_inside types (Array t n) h = made_inside types t (all_first (λ u. list_any (is_same u) types ≡ true) (made_of t) (Array (bare t) n ∷ []) h)
made_inside types (Qualified q t) h = made_inside types t h
made_inside types (Struct k) h = h.0
made_inside types _ h = tt

objects_named : (types : List CType) (objects : List Object) → AllByRecursion (λ (object : Object). AreAmong types (made_of object.type)) objects → (n : ℕ) (t : CType) → HasInside objects n t → IsNamed types t
objects_named types [] h n t at = absurd at
objects_named types (object ∷ objects) h zero t at = subst (IsNamed types) at (made_inside types object.type h.0)
objects_named types (object ∷ objects) h (suc n) t at = objects_named types objects h.1 n t at

some_named : (types : List CType) (members : List Member) → AreAmong types (flat_map (λ (member : Member). made_of member.type) members) → MembersNamed types (Some members)
some_named types [] h = tt
some_named types (member ∷ members) h = (
  named_inside types member.type (made_inside types member.type (all_first (λ u. list_any (is_same u) types ≡ true) (made_of member.type) (flat_map (λ (it : Member). made_of it.type) members) h)),
  some_named types members (all_second (λ u. list_any (is_same u) types ≡ true) (made_of member.type) (flat_map (λ (it : Member). made_of it.type) members) h),
)

members_named : (types : List CType) (members : Option (List Member)) → AreAmong types (types_of_struct (record { members = members })) → MembersNamed types members
members_named types None h = tt
members_named types (Some members) h = some_named types members h

-- ---- programs

pub program_named : (p : Program) → HasItsTypes p → Names p.types (record { facts = p.facts; structs = p.structs; objects = p.objects; functions = p.functions })
program_named p its =
    let own = among_own (λ (fact : Fact). fact.type) p.facts in
    let listed : AllByRecursion (λ (fact : Fact). list_any (is_same (bare fact.type)) p.types ≡ true) p.facts = weaker (λ fact h. known_listed p its fact.type h) p.facts own in
    let knows : KnowsTypesOf p p = record { types_of_objects = record { structs = refl; objects = among_own (λ (object : Object). object.type) p.objects }; declared = refl; facts = listed } in
    let it = programs_renumbered p p its its knows in
    record {
      facts = weaker (λ fact h. listed_named p.types fact.type h) p.facts listed;
      structs = weaker (λ struct h. members_named p.types struct.members h) p.structs it.members;
      objects = objects_named p.types p.objects it.objects;
    }
