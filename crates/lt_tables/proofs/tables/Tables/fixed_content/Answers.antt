use Rattle.std.proofs.Common.{◌∙◌, ap, sym, Some}
use Rattle.lt_model.specs.declared.cell.Content.TheVariants as content
use Rattle.lt_tree.specs.Typing.ConstancyView.{constancy_of}
use Rattle.lt_meaning.specs.Runs.{fixed_content}
use Rattle.lt_tables.specs.Views.{types_at, program_at}
use Rattle.lt_tables.proofs.ObjectNumbers.{before_same}
use Rattle.lt_tables.proofs.tables.Tables.fixed_content.Goals as goal

pub returns-in-Address : goal.returns-in-Address
returns-in-Address c =
    ap (λ b. content.Address (Some (record { block = b; offset = c.in-Address.offset })))
    (c.block.ensures ∙ c.requires c.in-Address.object ∙ sym (before_same (types_at c.args.self.now) c.args.self.now.program.now.objects.items c.in-Address.object))
    ∙ ap (λ x. fixed_content (program_at c.args.self.now) (constancy_of x)) (sym c.in-Address.is)
