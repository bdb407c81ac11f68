use Rattle.std.proofs.Common.{◌++◌, ap, ◌∙◌}
use Rattle.std.specs.Prelude.{option_to_list}
use Rattle.std.proofs.lemmas.Iterator.{YieldsList-from_slice, YieldsList-from_zip}
use Rattle.std.proofs.lemmas.Iterator.Consumers.{YieldsList-end}
use Rattle.lt_spec_reader.specs.Objects.{cell_by}
use Rattle.lt_spec_reader.proofs.FreedLaws.{joined_of}
use Rattle.lt_spec_reader.proofs.objects.Lookups.put_cells.Goals as goal

pub returns : goal.returns
returns c =
    let end = YieldsList-end (YieldsList-from_zip (YieldsList-from_slice c.args.shape.now cc) (YieldsList-from_slice c.args.contents.now cc)) c.cell.yielded _ c.cell.yielded_by _ c.next.new.self
    c.in-None.is c.next.ensures.steps in
    c.cell.invariant ∙ ap (λ l. c.args.cells.now.items ++ l) (joined_of (λ p. option_to_list (cell_by c.args.self.now c.args.name.now p.0 p.1)) (λ p. (p.0.now, p.1.now)) c.cell.yielded _ end.0)
