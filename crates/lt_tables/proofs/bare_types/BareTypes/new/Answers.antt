use Rattle.std.proofs.Common.{◌≡◌, ◌∙◌, ap, map, sym, subst, slice_index_or, refl, true, arith, rules, vec_len, length}
use Rattle.lt_tree.specs.Typing.Types.{Void}
use Rattle.lt_tree.specs.Typing.TypeRows.{types_of_rows}
use Rattle.lt_meaning.specs.Runs.{place_among}
use Rattle.lt_tables.specs.declared.bare.BareRow.{BareRow}
use Rattle.lt_tables.specs.BareTypes.{AreBareOf, IsBareOf, key_of}
use Rattle.lt_tables.proofs.BareRows.{bare_grown}
use Rattle.lt_tables.proofs.NumbersKept.{have_all, have_ids, has_id, numbers_made}
use Rattle.lt_tables.proofs.bare_types.BareTypes.new.Goals as goal

pub invariant_of-result : goal.invariant_of-result
invariant_of-result c =
    let program = c.args.program.now in
    let types = types_of_rows program.table.items in
    let its = c.in_ok-bare.bare.items in
    let void : BareRow = record { id = c.in_ok-id.id; is_bare = true } in
    let rows = c.in_ok-rows.rows in
    let made : rows ≡ c.bare_rows.new.table = c.in_ok-rows.ensures ∙ c.in_ok-list.ensures.rows in
    let first : IsBareOf c.void.new.self Void void = (c.in_ok-id.ensures.made, refl) in
    let given : AreBareOf c.bare_rows.new.table types its = subst (λ l. AreBareOf c.bare_rows.new.table (types_of_rows l) its) c.deref.ensures.value (c.in_ok-bare.ensures.bare first) in
    let all : AreBareOf rows types its = subst (λ r. AreBareOf r types its) (sym made) given in
    let none : IsBareOf rows Void void = subst (λ r. IsBareOf r Void void) (sym made) (bare_grown c.void.new.self c.bare_rows.new.table Void void c.in_ok-bare.ensures.grows first) in
    let counted : vec_len program.types ≡ length program.types.items = search rules in
    let have = have_all rows types its void all none in
    record {
      rows_hold = have_ids rows types its void have;
      void_holds = has_id rows Void void.id none.0;
      numbers_hold = numbers_made rows types its void program.types.items 4294967295 c.in_ok-other.other c.in_ok-keys.keys.items c.in_ok-places.places have (λ n h. omega (arith, h))
          (c.in_ok-other.ensures ∙ c.len.ensures ∙ counted)
          (c.in_ok-keys.ensures ∙ ap (λ l. map (λ id. key_of 4294967295 (slice_index_or l id.place void)) c.deref-3.result.now) c.deref-2.ensures.value
          ∙ ap (map (λ id. key_of 4294967295 (slice_index_or its id.place void))) c.deref-3.ensures.value)
          (λ n. c.in_ok-places.ensures n ∙ ap (place_among 0 n) c.deref-4.ensures.value);
    }
