use Rattle.std.proofs.Common.{[], sym, ap, ◌∙◌, arith}
use Rattle.std.proofs.lemmas.List.{drop_all}
use Rattle.lt_facts.specs.Families.{families_behind}
use Rattle.lt_facts.proofs.TypeFamilies.{families_of_rows}
use Rattle.lt_facts.proofs.types.type_families.Goals as goal

pub returns : goal.returns
returns c =
    let program = c.args.program.now in
    let rows = c.deref-row-items.result.now in
    sym (ap (families_behind program.model c.loop-row.families.items) (drop_all c.loop-row.row-index rows (omega arith))) ∙ c.loop-row.invariant ∙ families_of_rows program.model [] program.table.items
