use Rattle.std.proofs.Common.{◌∙◌, ap, map, sym, subst, slice_index_or, unwrap_or, refl, true, arith}
use Rattle.std.specs.Ordering.{nat_cmp}
use Rattle.std.specs.BTreeMap.{get}
use Rattle.lt_tree.specs.Typing.Types.{Void}
use Rattle.lt_tree.specs.Typing.TypeRows.{types_of_rows}
use Rattle.lt_meaning.specs.Runs.{place_among}
use Rattle.lt_tables.specs.declared.bare.BareRow.{BareRow}
use Rattle.lt_tables.specs.BareTypes.{AreBareOf, IsBareOf, key_of}
use Rattle.lt_tables.proofs.BareRows.{bare_at, bare_grown}
use Rattle.lt_tables.proofs.PointerNumbers.{number_is, numbers_are}
use Rattle.lt_tables.proofs.pointers.pointer_numbers.Goals as goal

pub returns-clause-rows : goal.returns-clause-rows
returns-clause-rows c =
    let types = types_of_rows c.args.rows.now in
    let its = c.in_ok-bare.bare.items in
    let void : BareRow = record { id = c.in_ok-id.id; is_bare = true } in
    let rows = c.in_ok-known.known.items in
    let first : IsBareOf c.void.new.self Void void = (c.in_ok-id.ensures.made, refl) in
    let all = subst (λ r. AreBareOf r types its) (sym c.in_ok-known.ensures.rows) (c.in_ok-bare.ensures.bare first) in
    let none = subst (λ r. IsBareOf r Void void) (sym c.in_ok-known.ensures.rows) (bare_grown c.void.new.self c.bare_rows.new.table Void void c.in_ok-bare.ensures.grows first) in
    c.in_ok-numbers_of.ensures ∙ ap (map (λ it. unwrap_or (get nat_cmp c.in_ok-places.places it.id.place) c.in_ok-none.none)) c.deref-3.ensures.value
    ∙ numbers_are rows c.in_ok-known.ensures.once c.in_ok-no_key.no_key (omega (arith, c.in_ok-no_key.ensures, c.len.ensures, c.in_ok-known.known.ok.0)) types its void
    (λ id. bare_at rows types its void (slice_index_or its id.place void) id all none refl) c.args.ids.now c.in_ok-none.none c.in_ok-keys.keys.items (get nat_cmp c.in_ok-places.places) c.in_ok-none.ensures
    (c.in_ok-keys.ensures ∙ ap (λ l. map (λ id. key_of c.in_ok-no_key.no_key (slice_index_or l id.place void)) c.args.ids.now) c.deref.ensures.value)
    (λ n. c.in_ok-places.ensures n ∙ ap (place_among 0 n) c.deref-2.ensures.value) types its all

pub returns-clause-void : goal.returns-clause-void
returns-clause-void c =
    let types = types_of_rows c.args.rows.now in
    let its = c.in_ok-bare.bare.items in
    let void : BareRow = record { id = c.in_ok-id.id; is_bare = true } in
    let rows = c.in_ok-known.known.items in
    let first : IsBareOf c.void.new.self Void void = (c.in_ok-id.ensures.made, refl) in
    let all = subst (λ r. AreBareOf r types its) (sym c.in_ok-known.ensures.rows) (c.in_ok-bare.ensures.bare first) in
    let none = subst (λ r. IsBareOf r Void void) (sym c.in_ok-known.ensures.rows) (bare_grown c.void.new.self c.bare_rows.new.table Void void c.in_ok-bare.ensures.grows first) in
    c.number_at.ensures
    ∙ number_is rows c.in_ok-known.ensures.once c.in_ok-no_key.no_key (omega (arith, c.in_ok-no_key.ensures, c.len.ensures, c.in_ok-known.known.ok.0)) types its void
    (λ id. bare_at rows types its void (slice_index_or its id.place void) id all none refl) c.args.ids.now c.in_ok-none.none c.in_ok-keys.keys.items (get nat_cmp c.in_ok-places.places) c.in_ok-none.ensures
    (c.in_ok-keys.ensures ∙ ap (λ l. map (λ id. key_of c.in_ok-no_key.no_key (slice_index_or l id.place void)) c.args.ids.now) c.deref.ensures.value)
    (λ n. c.in_ok-places.ensures n ∙ ap (place_among 0 n) c.deref-2.ensures.value) Void void.id none.0
