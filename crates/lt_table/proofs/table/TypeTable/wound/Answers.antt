use Rattle.std.proofs.Common.{sym, ap, ◌∙◌}
use Rattle.lt_tree.specs.Typing.TypeRows.{type_in, types_of_rows}
use Rattle.lt_table.specs.TableRows.{arrays}
use Rattle.lt_table.proofs.TableRows.{continues_through}
use Rattle.lt_table.proofs.TableMade.{grows_through, arrays-last}
use Rattle.lt_table.proofs.table.TypeTable.wound.Goals as goal

pub loop-length-preserved : goal.loop-length-preserved
loop-length-preserved c = (
  grows_through c.args.self.now c.loop-length.self c.array.new.self c.loop-length.invariant.0 c.in_ok-made.ensures.grows,
  λ longer more.
      let past = continues_through (types_of_rows c.loop-length.self) (types_of_rows c.array.new.self) longer c.in_ok-made.ensures.grows more in
      ap (arrays c.pop.new.self.items) (c.in_ok-made.ensures.made longer more) ∙ sym (arrays-last c.pop.new.self.items c.in-Some.length (type_in longer c.loop-length.made))
      ∙ ap (λ l. arrays l (type_in longer c.loop-length.made)) (sym c.in-Some.ensures.items) ∙ c.loop-length.invariant.1 longer past,
)
