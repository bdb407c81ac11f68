use Rattle.std.proofs.Common.{sym, subst}
use Rattle.lt_tree.specs.Typing.TypeRows.{type_of_row}
use Rattle.lt_tables.specs.declared.facts.TypeFacts.{TypeFacts}
use Rattle.lt_tables.specs.Lookups.{AreFactsOf}
use Rattle.lt_tables.proofs.FactRows.{array_row, qualified_row}
use Rattle.lt_tables.proofs.facts.facts_of_row.Goals as goal

pub returns-in-Array : goal.returns-in-Array
returns-in-Array c = λ program types all none same.
    let P : TypeFacts → Type 0 = λ p. AreFactsOf program (type_of_row types c.args.row.now) (record { cell = p.cell; scalar = p.scalar; is_struct = p.is_struct; is_void = p.is_void; is_constant = c.facts_at.result.is_constant }) in
    subst P (sym c.plain_facts-plain.ensures)
    (array_row program types c.args.known.now c.args.void c.facts_at.result c.args.row.now c.args.number c.in-Array.field-1 c.in-Array.t c.in-Array.is c.facts_at.ensures all none same)

pub returns-in-Qualified : goal.returns-in-Qualified
returns-in-Qualified c = λ program types all none same.
    qualified_row program types c.args.known.now c.args.void c.facts_at-in-Qualified.result c.args.row.now c.in-Qualified.quals c.in-Qualified.t c.in-Qualified.is c.facts_at-in-Qualified.ensures all none
