-- What operators make of operands that get at memory by types which are named in a list, and how the node of an expression ends.
use Rattle.std.proofs.Common.{◌≡◌, refl, sym, ◌∙◌, ℕ, List, [], ◌∷◌, ◌++◌, Bool, true, false}
use Rattle.std.proofs.lemmas.Bool.{false≢true}
use Rattle.std.specs.Prelude.{◌||◌, if◌then◌else◌}
use Rattle.lt_tree.specs.Typing.Types.{CType, Array, unqualified, same, is_array, is_struct}
use Rattle.lt_tree.specs.Typing.Constants.{Constancy}
use Rattle.lt_tree.specs.Typing.TypedTree as e
use Rattle.lt_tree.specs.Typing.TypedTree.{Value, Place, When, type_of, type_at}
use Rattle.lt_tree.specs.Typing.Entities.{Known, Fact}
use Rattle.lt_tree.specs.Typing.Steps.{Goes}
use Rattle.lt_tree.specs.Typing.Expressions.{Form, a_value, a_place, a_designator, Typed, Use, as_value, as_truth, as_place, as_callee, varies, own_type, value_at, value_in, place_in, read, as_it_is_read, is_read, used, faults_of_any, Judged, fact_of, finish, cast_to, converted_to}
use Rattle.lt_type_laws.specs.Accesses.{is_named_in, Accesses, AccessesPlace}
use Rattle.lt_listed_types.proofs.Named.{unqualified_named}
use Rattle.lt_listed_types.proofs.Keeping.{Lists, lists_of, Names, Once, Good, went, judges}
use Rattle.lt_listed_types.proofs.Growth.{noted, last_noted}

-- ---- expressions as they are used

-- no name of a function, where an expression is used as a value
abbrev pub IsPlain : Form → Use → Type 0
IsPlain (a_designator name t) as_value = ⊥
IsPlain (a_designator name t) _ = Unit {0}
IsPlain _ role = Unit {0}

-- a value where it is used as such
abbrev pub IsAsUsed : Form → Use → Type 0
IsAsUsed (a_value v) role = Unit {0}
IsAsUsed form as_value = ⊥
IsAsUsed form _ = Unit {0}

-- What an operator makes gets at memory by types that are named, before it is read itself.
pub record Makes (types : List CType) (role : Use) (x : Typed) : Type 0 where
  pub place : AccessesPlace (is_named_in types) (place_in x)
  pub plain : IsPlain x.form role

-- What is found of an expression gets at memory so, also where it is read, and one that is used as a place has a type that is named.
pub record Reaches (types : List CType) (role : Use) (x : Typed) : Type 0 where
  pub place : AccessesPlace (is_named_in types) (place_in x)
  pub value : Accesses (is_named_in types) (value_in x)
  pub named : is_read role ≡ false → is_named_in types (own_type x) ≡ true
  pub as_used : IsAsUsed x.form role

-- an expression where so much is known
abbrev pub TypedIn : List CType → Use → Lists → Typed → Type 0
TypedIn types role = Once types (Reaches types role)

module _ (test : CType → Bool) where
  pub converted_accesses : (t : CType) (v : Value) → Accesses test v → Accesses test (converted_to t v)
  converted_accesses t v h = elim (is_struct t || same t (type_of v)) as (λ b. Accesses test (if b then v else cast_to t v)) [ true ↦ h | false ↦ h ]

  scalar_or_struct : (t : CType) (place : Place) → test (unqualified t) ≡ true → AccessesPlace test place → Accesses test (if is_struct t then e.Whole (unqualified t) place else e.Load (unqualified t) place)
  scalar_or_struct t place named h = elim (is_struct t) as (λ b. Accesses test (if b then e.Whole (unqualified t) place else e.Load (unqualified t) place)) [ true ↦ h | false ↦ (named, h) ]

  -- the value of a place, whose type passes the test without its own qualifiers
  value_accesses : (t : CType) (place : Place) → test (unqualified t) ≡ true → AccessesPlace test place → Accesses test (value_at t place)
  value_accesses (Array t n) place named h = h
  value_accesses t place named h = scalar_or_struct t place named h

  place_read : (place : Place) (x : Typed) → Accesses test (value_at (type_at place) place) → Accesses test (value_in (read place x))
  place_read place x h =
      elim (is_array (type_at place)) as (λ b. Accesses test (value_in (if b then record x { form = a_value (value_at (type_at place) place) } else varies (value_at (type_at place) place)))) [ true ↦ h | false ↦ h ]

module _ {types : List CType} where
  -- ---- reading

  -- an expression as it is read gets at memory by types that are named
  form_read : {role : Use} (form : Form) (is_register is_after : Bool) (constancy erased : Constancy)
      → Reaches types role (record { form = form; is_register = is_register; is_after = is_after; constancy = constancy; erased = erased })
      → Accesses (is_named_in types) (value_in (as_it_is_read (record { form = form; is_register = is_register; is_after = is_after; constancy = constancy; erased = erased })))
  form_read (a_value v) r a c d h = h.value
  form_read (a_place place) r a c d h = place_read (is_named_in types) place (record { form = a_place place; is_register = r; is_after = a; constancy = c; erased = d }) h.value
  form_read (a_designator name t) r a c d h = tt

  pub read_accesses : {role : Use} {x : Typed} → Reaches types role x → Accesses (is_named_in types) (value_in (as_it_is_read x))
  read_accesses {x = x} h = form_read x.form x.is_register x.is_after x.constancy x.erased h

  -- a place that is read is a value
  is_read_so : {role : Use} (place : Place) (x : Typed) → is_read role ≡ true → Accesses (is_named_in types) (value_at (type_at place) place) → Reaches types role (read place x)
  is_read_so {role} place x e h =
      elim (is_array (type_at place)) as (λ b. Reaches types role (if b then record x { form = a_value (value_at (type_at place) place) } else varies (value_at (type_at place) place)))
      [ true ↦ record { place = h; value = h; named = λ f. absurd (false≢true (sym f ∙ e)); as_used = tt } | false ↦ record { place = h; value = h; named = λ f. absurd (false≢true (sym f ∙ e)); as_used = tt } ]

  form_used : (role : Use) (form : Form) (is_register is_after : Bool) (constancy erased : Constancy)
      → Makes types role (record { form = form; is_register = is_register; is_after = is_after; constancy = constancy; erased = erased })
      → is_named_in types (own_type (record { form = form; is_register = is_register; is_after = is_after; constancy = constancy; erased = erased })) ≡ true
      → Reaches types role (used role (record { form = form; is_register = is_register; is_after = is_after; constancy = constancy; erased = erased }))
  form_used as_value (a_value v) r a c d h named = record { place = h.place; value = h.place; named = λ f. named; as_used = tt }
  form_used as_truth (a_value v) r a c d h named = record { place = h.place; value = h.place; named = λ f. named; as_used = tt }
  form_used as_place (a_value v) r a c d h named = record { place = h.place; value = h.place; named = λ f. named; as_used = tt }
  form_used as_callee (a_value v) r a c d h named = record { place = h.place; value = h.place; named = λ f. named; as_used = tt }
  form_used role (a_place place) r a c d h named = by role
    where
      x : Typed
      x = record { form = a_place place; is_register = r; is_after = a; constancy = c; erased = d }

      read_value : Accesses (is_named_in types) (value_at (type_at place) place)
      read_value = value_accesses (is_named_in types) (type_at place) place (unqualified_named types (type_at place) named) h.place

      by : (role : Use) → Reaches types role (used role x)
      by as_value = is_read_so place x refl read_value
      by as_truth = is_read_so place x refl read_value
      by as_callee = is_read_so place x refl read_value
      by as_place = record { place = h.place; value = read_value; named = λ f. named; as_used = tt }
  form_used as_value (a_designator name t) r a c d h named = absurd h.plain
  form_used as_truth (a_designator name t) r a c d h named = record { place = tt; value = tt; named = λ f. named; as_used = tt }
  form_used as_place (a_designator name t) r a c d h named = record { place = tt; value = tt; named = λ f. named; as_used = tt }
  form_used as_callee (a_designator name t) r a c d h named = record { place = tt; value = tt; named = λ f. named; as_used = tt }

  -- ---- the end of an expression's node

  pub finished : (node : ℕ) (role : Use) (it : Judged) (known : Known) → (Names types (lists_of known) → Makes types role it.typed) → Good types (TypedIn types role) (lists_of known) (finish node role it known)
  unfolding finish
  finished node role it known h =
      let x : Typed = it.typed in
      let fact : Fact = fact_of node x in
      judges node (it.faults ++ faults_of_any known.structs role x) known (λ u k. Goes (used role x) (record k { facts = k.facts ++ fact ∷ [] }))
      (went (noted fact known) (λ named. form_used role x.form x.is_register x.is_after x.constancy x.erased (h ((noted fact known).names named)) (last_noted fact known named)))
