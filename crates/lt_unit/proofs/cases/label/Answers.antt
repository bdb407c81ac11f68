use Rattle.std.proofs.Common.{◌∷◌, [], sym, ap}
use Rattle.lt_tree.specs.UnitView as source
use Rattle.lt_tree.specs.Typing.StatementTyping as typing
use Rattle.lt_type.proofs.Sequences.{gives_so}
use Rattle.lt_unit.proofs.cases.label.Goals as goal

pub returns-in-Case : goal.returns-in-Case
returns-in-Case c =
    gives_so (λ types k. ap (λ l. typing.labels (source.label_of l ∷ []) c.args.ty c.args.seen.now k) (sym c.in-Case.is)) c.case_label.ensures

pub returns-in-Default : goal.returns-in-Default
returns-in-Default c =
    gives_so (λ types k. ap (λ l. typing.labels (source.label_of l ∷ []) c.args.ty c.args.seen.now k) (sym c.in-Default.is)) (c.default_label.ensures c.args.ty)
