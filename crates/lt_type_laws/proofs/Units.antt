-- The lists of types of typed units.
use Rattle.std.proofs.Common.{◌≡◌, List, [], ◌∷◌, ◌++◌, Option, Some, None, Bool, true, false, refl, sym, ap, ◌∙◌, subst}
use Rattle.std.proofs.lemmas.Bool.{false≢true}
use Rattle.std.proofs.lemmas.List.Folds.{list_any-append}
use Rattle.std.specs.Prelude.{◌||◌}
use Rattle.std.specs.List.{AllByRecursion, flat_map, list_any}
use Rattle.lt_tree.specs.Tree as c
use Rattle.lt_tree.specs.Typing.Types.{CType, bare, same}
use Rattle.lt_tree.specs.Typing.Extents.{StructType, Member}
use Rattle.lt_tree.specs.Typing.Entities.{Object, Declared, Fact}
use Rattle.lt_tree.specs.Typing.Rules.{Rule}
use Rattle.lt_tree.specs.Typing.Steps.{Outcome, Goes, Breaks}
use Rattle.lt_tree.specs.Typing.UnitTyping.{answer, typing_to}
use Rattle.lt_tree.specs.Typing.Programs.{Program, typed, broken, made_of, types_of_struct}
use Rattle.lt_type_laws.specs.TypeLists.{AreAmong, HasItsTypes, HasTypesOfObjects, KnowsTypesOf, types_of}
use Rattle.lt_type_laws.specs.Laws.{UnitsHaveTheirTypes, KnownTypesAreListed, ProgramsAreRenumbered}
use Rattle.lt_type_laws.proofs.Equal.{same_exact}
use Rattle.lt_type_laws.proofs.Places.{types_renumbered}
use Rattle.lt_type_laws.proofs.Listed.{or_first, or_second, first_listed, second_listed, new_listed, each_from, own_listed, IsClosed, none_closed, closed_both, made_closed, each_closed}

-- ---- programs of units

typed_is : {p q : Program} → typed p ≡ typed q → p ≡ q
typed_is e = cc

no_program : {rule : Rule} {node : _} {p : Program} → broken rule node ≡ typed p → ⊥
no_program e = cc

answer_types : (unit : c.Unit) (outcome : Outcome (Unit {0})) (p : Program) → answer unit outcome ≡ typed p → HasItsTypes p
answer_types unit (Goes it known) p e = subst HasItsTypes (typed_is e) refl
answer_types unit (Breaks rule node) p e = absurd (no_program e)

pub units_types : UnitsHaveTheirTypes
unfolding typing_to
units_types greatest model unit p e = answer_types unit _ p e

-- ---- the types of programs

abbrev structs_in : Program → List CType
structs_in p = flat_map types_of_struct p.structs

abbrev made_of_objects : List Object → List CType
made_of_objects objects = flat_map (λ (object : Object). made_of object.type) objects

abbrev objects_in : Program → List CType
objects_in p = made_of_objects p.objects

abbrev declared_in : Program → List CType
declared_in p = flat_map (λ (f : Declared). made_of f.type) p.declared

one_of : (a b c d x : Bool) → (((a || b) || c) || d) ≡ true → (a ≡ true → x ≡ true) → (b ≡ true → x ≡ true) → (c ≡ true → x ≡ true) → (d ≡ true → x ≡ true) → x ≡ true
one_of true b c d x h f g i j = f refl
one_of false true c d x h f g i j = g refl
one_of false false true d x h f g i j = i refl
one_of false false false d x h f g i j = j h

-- ---- types of expressions

abbrev made_of_facts : List Fact → List CType
made_of_facts facts = flat_map (λ (fact : Fact). made_of fact.type) facts

-- what is made of a type that one of these has is made of theirs
found_made : {A : Type 0} (type : A → CType) (t u : CType) (ys : List A) → list_any (λ other. same u (type other)) ys ≡ true → list_any (same t) (made_of u) ≡ true → list_any (same t) (flat_map (λ x. made_of (type x)) ys) ≡ true
found_made type t u [] h g = absurd (false≢true h)
found_made type t u (y ∷ ys) h g = by (same u (type y)) refl h (λ f. found_made type t u ys f g)
  where
    by : (b : Bool) → same u (type y) ≡ b → b || list_any (λ other. same u (type other)) ys ≡ true → (list_any (λ other. same u (type other)) ys ≡ true → list_any (same t) (flat_map (λ x. made_of (type x)) ys) ≡ true)
        → list_any (same t) (made_of (type y) ++ flat_map (λ x. made_of (type x)) ys) ≡ true
    by true e f go = first_listed t (made_of (type y)) (flat_map (λ x. made_of (type x)) ys) (ap (λ x. list_any (same t) (made_of x)) (sym (same_exact u (type y) e)) ∙ g)
    by false e f go = second_listed t (made_of (type y)) (flat_map (λ x. made_of (type x)) ys) (go f)

-- ---- lists that have each type of which theirs are made

struct_closed_by : (members : Option (List Member)) → IsClosed (types_of_struct (record { members = members }))
struct_closed_by None = none_closed
struct_closed_by (Some members) = each_closed (λ (it : Member). made_of it.type) (λ it. made_closed it.type) members

struct_closed : (it : StructType) → IsClosed (types_of_struct it)
struct_closed it = struct_closed_by it.members

program_closed : (p : Program) → IsClosed (types_of p)
program_closed p =
    closed_both (structs_in p ++ objects_in p ++ declared_in p) (made_of_facts p.facts)
    (closed_both (structs_in p ++ objects_in p) (declared_in p)
    (closed_both (structs_in p) (objects_in p) (each_closed types_of_struct struct_closed p.structs) (each_closed (λ (object : Object). made_of object.type) (λ object. made_closed object.type) p.objects))
    (each_closed (λ (f : Declared). made_of f.type) (λ f. made_closed f.type) p.declared))
    (each_closed (λ (fact : Fact). made_of fact.type) (λ fact. made_closed fact.type) p.facts)

-- ---- programs

-- a type is of a struct, an object, a function or an expression
listed_by : (t : CType) (p : Program) → list_any (same t) (types_of p) ≡ (((list_any (same t) (structs_in p) || list_any (same t) (objects_in p)) || list_any (same t) (declared_in p)) || list_any (same t) (made_of_facts p.facts))
listed_by t p =
    list_any-append (same t) (structs_in p ++ objects_in p ++ declared_in p) (made_of_facts p.facts)
    ∙ ap (λ b. b || list_any (same t) (made_of_facts p.facts)) (list_any-append (same t) (structs_in p ++ objects_in p) (declared_in p))
    ∙ ap (λ b. (b || list_any (same t) (declared_in p)) || list_any (same t) (made_of_facts p.facts)) (list_any-append (same t) (structs_in p) (objects_in p))

-- the types of objects are among those of others that have these types
objects_there : (t : CType) (others objects : List Object) → AllByRecursion (λ (object : Object). list_any (λ (other : Object). same object.type other.type) others ≡ true) objects
    → list_any (same t) (made_of_objects objects) ≡ true → list_any (same t) (made_of_objects others) ≡ true
objects_there t others [] h g = absurd (false≢true g)
objects_there t others (x ∷ xs) h g =
    by (list_any (same t) (made_of x.type)) refl (sym (list_any-append (same t) (made_of x.type) (made_of_objects xs)) ∙ g) (λ f. objects_there t others xs h.1 f)
  where
    by : (b : Bool) → list_any (same t) (made_of x.type) ≡ b → list_any (same t) (made_of x.type) || list_any (same t) (made_of_objects xs) ≡ true
        → (list_any (same t) (made_of_objects xs) ≡ true → list_any (same t) (made_of_objects others) ≡ true) → list_any (same t) (made_of_objects others) ≡ true
    by true e f go = found_made (λ (object : Object). object.type) t x.type others h.0 e
    by false e f go = go (sym (ap (λ b. b || list_any (same t) (made_of_objects xs)) e) ∙ f)

-- the list of types has a type exactly where the program has it
in_list : (t : CType) (p : Program) → HasItsTypes p → list_any (same t) p.types ≡ list_any (same t) (types_of p)
in_list t p h = ap (list_any (same t)) h ∙ new_listed t [] (types_of p)

structs_listed : (t : CType) (p : Program) → HasItsTypes p → list_any (same t) (structs_in p) ≡ true → list_any (same t) p.types ≡ true
structs_listed t p h g =
    in_list t p h ∙ listed_by t p
    ∙ or_first _ (list_any (same t) (made_of_facts p.facts)) (or_first _ (list_any (same t) (declared_in p)) (or_first (list_any (same t) (structs_in p)) (list_any (same t) (objects_in p)) g))

objects_listed : (t : CType) (p : Program) → HasItsTypes p → list_any (same t) (objects_in p) ≡ true → list_any (same t) p.types ≡ true
objects_listed t p h g =
    in_list t p h ∙ listed_by t p
    ∙ or_first _ (list_any (same t) (made_of_facts p.facts)) (or_first _ (list_any (same t) (declared_in p)) (or_second (list_any (same t) (structs_in p)) (list_any (same t) (objects_in p)) g))

declared_listed : (t : CType) (p : Program) → HasItsTypes p → list_any (same t) (declared_in p) ≡ true → list_any (same t) p.types ≡ true
declared_listed t p h g =
    in_list t p h ∙ listed_by t p
    ∙ or_first _ (list_any (same t) (made_of_facts p.facts)) (or_second (list_any (same t) (structs_in p) || list_any (same t) (objects_in p)) (list_any (same t) (declared_in p)) g)

facts_listed : (t : CType) (p : Program) → HasItsTypes p → list_any (same t) (made_of_facts p.facts) ≡ true → list_any (same t) p.types ≡ true
facts_listed t p h g =
    in_list t p h ∙ listed_by t p
    ∙ or_second ((list_any (same t) (structs_in p) || list_any (same t) (objects_in p)) || list_any (same t) (declared_in p)) (list_any (same t) (made_of_facts p.facts)) g

-- what is made of types in the list is in the list
closed_list : (p : Program) → HasItsTypes p → IsClosed p.types
closed_list p h t u f e = in_list t p h ∙ program_closed p t u (sym (in_list (bare u) p h) ∙ f) e

-- the types of what the first program knows of expressions are in the second's list
facts_there : (t : CType) (q : Program) → HasItsTypes q → (facts : List Fact) → AllByRecursion (λ (fact : Fact). list_any (same (bare fact.type)) q.types ≡ true) facts
    → list_any (same t) (made_of_facts facts) ≡ true → list_any (same t) q.types ≡ true
facts_there t q there [] h g = absurd (false≢true g)
facts_there t q there (x ∷ xs) h g =
    by (list_any (same t) (made_of x.type)) refl (sym (list_any-append (same t) (made_of x.type) (made_of_facts xs)) ∙ g) (λ f. facts_there t q there xs h.1 f)
  where
    by : (b : Bool) → list_any (same t) (made_of x.type) ≡ b → list_any (same t) (made_of x.type) || list_any (same t) (made_of_facts xs) ≡ true
        → (list_any (same t) (made_of_facts xs) ≡ true → list_any (same t) q.types ≡ true) → list_any (same t) q.types ≡ true
    by true e f go = closed_list q there t x.type h.0 e
    by false e f go = go (sym (ap (λ b. b || list_any (same t) (made_of_facts xs)) e) ∙ f)

known_there : (t : CType) (p q : Program) → HasItsTypes q → KnowsTypesOf p q → list_any (same t) (types_of p) ≡ true → list_any (same t) q.types ≡ true
known_there t p q there h g =
    one_of (list_any (same t) (structs_in p)) (list_any (same t) (objects_in p)) (list_any (same t) (declared_in p)) (list_any (same t) (made_of_facts p.facts)) (list_any (same t) q.types) (sym (listed_by t p) ∙ g)
    (λ f. structs_listed t q there (ap (λ them. list_any (same t) (flat_map types_of_struct them)) h.types_of_objects.structs ∙ f))
    (λ f. objects_listed t q there (objects_there t q.objects p.objects h.types_of_objects.objects f))
    (λ f. declared_listed t q there (ap (λ (them : List Declared). list_any (same t) (flat_map (λ (f : Declared). made_of f.type) them)) h.declared ∙ f))
    (λ f. facts_there t q there p.facts h.facts f)

-- ---- types of both lists

module _ (p q : Program) (here : HasItsTypes p) (there : HasItsTypes q) (h : HasTypesOfObjects p q) where
  abbrev InBoth : List CType → Type 0
  InBoth types = AreAmong p.types types × AreAmong q.types types

  all_in_both : {A : Type 0} (made : A → List CType) (xs : List A) → AllByRecursion (λ (x : A). AreAmong p.types (made x)) xs → AllByRecursion (λ (x : A). AreAmong q.types (made x)) xs → AllByRecursion (λ (x : A). InBoth (made x)) xs
  all_in_both made [] f g = tt
  all_in_both made (x ∷ xs) f g = ((f.0, g.0), all_in_both made xs f.1 g.1)

  pub objects_in_both : AllByRecursion (λ (object : Object). InBoth (made_of object.type)) p.objects
  objects_in_both =
      all_in_both (λ (object : Object). made_of object.type) p.objects (each_from (λ t. list_any (same t) p.types ≡ true) (λ (object : Object). made_of object.type) p.objects (λ t g. objects_listed t p here g))
      (each_from (λ t. list_any (same t) q.types ≡ true) (λ (object : Object). made_of object.type) p.objects (λ t g. objects_listed t q there (objects_there t q.objects p.objects h.objects g)))

  pub members_in_both : AllByRecursion (λ (it : StructType). InBoth (types_of_struct it)) p.structs
  members_in_both =
      all_in_both types_of_struct p.structs (each_from (λ t. list_any (same t) p.types ≡ true) types_of_struct p.structs (λ t g. structs_listed t p here g))
      (each_from (λ t. list_any (same t) q.types ≡ true) types_of_struct p.structs (λ t g. structs_listed t q there (ap (λ them. list_any (same t) (flat_map types_of_struct them)) h.structs ∙ g)))

-- ---- the laws

pub known_listed : KnownTypesAreListed
known_listed p h t g = facts_listed (bare t) p h (found_made (λ (fact : Fact). fact.type) (bare t) t p.facts g (own_listed t))

pub programs_renumbered : ProgramsAreRenumbered
programs_renumbered p q here there h = record {
  but_for_types = refl;
  numbers = types_renumbered p.types q.types (types_of p) (types_of q) here there (λ t g. known_there t p q there h (sym (in_list t p here) ∙ g));
  objects = each_from (λ t. list_any (same t) p.types ≡ true) (λ (object : Object). made_of object.type) p.objects (λ t g. objects_listed t p here g);
  members = each_from (λ t. list_any (same t) p.types ≡ true) types_of_struct p.structs (λ t g. structs_listed t p here g);
}
