use Rattle.std.proofs.Common.{[], ◌∷◌, length, sym, ap, ◌∙◌, arith, length-append}
use Rattle.lt_table.proofs.TableMade.{grows_through}
use Rattle.lt_table.proofs.TableBare.{are_bare-grown, are_bare-last}
use Rattle.lt_table.proofs.table.TypeTable.bare_types.Goals as goal

pub loop-place-preserved : goal.loop-place-preserved
loop-place-preserved c = (
  grows_through c.args.self.now c.loop-place.self c.bare_row.new.self c.loop-place.invariant.0 c.in_ok-id.ensures.grows,
  are_bare-last c.bare_row.new.self c.loop-place.ids.items c.push.new.self.items c.in_ok-t.t c.in_ok-id.id
      (are_bare-grown c.loop-place.self c.bare_row.new.self c.loop-place.ids.items c.in_ok-id.ensures.grows c.loop-place.invariant.1) (c.in_ok-t.ensures ∙ sym c.loop-place.invariant.2)
      c.in_ok-id.ensures.made c.in_ok-push.ensures.items,
  omega (arith, ap length c.in_ok-push.ensures.items, length-append c.loop-place.ids.items (c.in_ok-id.id ∷ []), c.loop-place.invariant.2),
)
