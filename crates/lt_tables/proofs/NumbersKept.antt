-- What is known of a table of types without qualifiers, as types are added.
use Rattle.std.proofs.Common.{◌≡◌, ◌<◌, ◌≤◌, ◌^◌, ℕ, List, length, map, slice_index_or, Result, Ok, Err, IfOk, refl, ap, ◌∙◌}
use Rattle.std.specs.Ordering.{nat_cmp}
use Rattle.std.specs.BTreeMap.{BTreeMap, get}
use Rattle.lt_tree.specs.declared.typed.types.TypeId.{TypeId}
use Rattle.lt_tree.specs.declared.typed.types.TypeRow.{TypeRow}
use Rattle.lt_tree.specs.Typing.Types.{CType, Void, Pointer, bare, same}
use Rattle.lt_tree.specs.Typing.TypeRows.{type_in, types_of_rows}
use Rattle.lt_meaning.specs.Runs as runs
use Rattle.lt_table.specs.TableRows.{Grows, Stays, Makes}
use Rattle.lt_table.proofs.TableRows.{continues_through}
use Rattle.lt_table.proofs.TableSame.{same_exact, same_self}
use Rattle.lt_tables.specs.declared.bare.BareRow.{BareRow}
use Rattle.lt_tables.specs.BareTypes.{IsBareOf, AreBareOf, HaveBare, HasId, HaveIds, key_of}
use Rattle.lt_tables.specs.TypeNumbers.{AreNumbersOf}
use Rattle.lt_tables.proofs.BareRows.{bare_at, bare_grown}
use Rattle.lt_tables.proofs.PointerNumbers.{number_is}

pub have_all : (rows : List TypeRow) (types : List CType) (its : List BareRow) (void : BareRow) → AreBareOf rows types its → IsBareOf rows Void void → HaveBare rows types its void
have_all rows types its void all none id = bare_at rows types its void (slice_index_or its id.place void) id all none refl

-- ids, by the test whether types are the same

pub has_id : (rows : List TypeRow) (t : CType) (id : TypeId) → Stays rows (λ all. type_in all id ≡ bare t) → HasId rows (bare t) id
has_id rows t id is longer more = ap (λ u. same u (bare t)) (is longer more) ∙ same_self (bare t)

pub id_exact : (rows : List TypeRow) (t : CType) (id found : TypeId) → found ≡ id → HasId rows (bare t) id → Stays rows (λ all. type_in all found ≡ bare t)
id_exact rows t id found is has longer more = ap (type_in longer) is ∙ same_exact (type_in longer id) (bare t) (has longer more)

pub have_ids : (rows : List TypeRow) (types : List CType) (its : List BareRow) (void : BareRow) → HaveBare rows types its void → HaveIds rows types its void
have_ids rows types its void have t = has_id rows (type_in types t) (slice_index_or its t.place void).id (have t).0

module _ (old new : List TypeRow) (grows : Grows old new) where
  pub stays_grown : (t : CType) (id : TypeId) → Stays old (λ all. type_in all id ≡ bare t) → Stays new (λ all. type_in all id ≡ bare t)
  stays_grown t id is longer more = is longer (continues_through (types_of_rows old) (types_of_rows new) longer grows more)

  pub have_grown : (types : List CType) (its : List BareRow) (void : BareRow) → HaveBare old types its void → HaveBare new types its void
  have_grown types its void have id = bare_grown old new (type_in types id) (slice_index_or its id.place void) grows (have id)

  pub id_grown : (t : CType) (id : TypeId) → HasId old t id → HasId new t id
  id_grown t id has longer more = has longer (continues_through (types_of_rows old) (types_of_rows new) longer grows more)

  pub ids_grown : (types : List CType) (its : List BareRow) (void : BareRow) → HaveIds old types its void → HaveIds new types its void
  ids_grown types its void have t = id_grown (bare (type_in types t)) (slice_index_or its t.place void).id (have t)

  pub numbers_grown : (types : List CType) (places : BTreeMap ℕ ℕ) (other : ℕ) → AreNumbersOf types places other old → AreNumbersOf types places other new
  numbers_grown types places other hold longer more = hold longer (continues_through (types_of_rows old) (types_of_rows new) (types_of_rows longer) grows more)

  pub pointer_made : {E : Type 0} (result : Result TypeId E) (target : TypeId) (t : CType) → Stays old (λ all. type_in all target ≡ bare t) → Makes new result (λ all. Pointer (type_in all target))
      → IfOk result (λ id. Stays new (λ all. type_in all id ≡ bare (Pointer t)))
  pointer_made (Ok id) target t is made = λ longer more. made longer more ∙ ap Pointer (stays_grown t target is longer more)
  pointer_made (Err e) target t is made = tt

pub numbers_made : (rows : List TypeRow) (types : List CType) (its : List BareRow) (void : BareRow) (ids : List TypeId) (size other : ℕ) (keys : List ℕ) (places : BTreeMap ℕ ℕ) → HaveBare rows types its void
    → ((n : ℕ) → n < 2 ^ 32 → n ≤ size) → other ≡ length ids → keys ≡ map (λ id. key_of size (slice_index_or its id.place void)) ids → ((n : ℕ) → get nat_cmp places n ≡ runs.place_among 0 n keys)
    → AreNumbersOf (map (type_in types) ids) places other rows
numbers_made rows types its void ids size other keys places have fits other_is keys_are places_are longer more found t id is =
    number_is longer found.once size (fits (length longer) found.few) types its void (have_grown rows longer more types its void have) ids other keys (get nat_cmp places) other_is keys_are places_are t id is
