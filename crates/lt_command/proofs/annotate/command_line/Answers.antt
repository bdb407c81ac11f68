use Rattle.std.proofs.Common.{◌∙◌, ap₂, rules}
use Rattle.std.proofs.lemmas.Result.{IfOk-weaker}
use Rattle.clap.specs.Words.{with_rule}
use Rattle.lt_command.proofs.annotate.command_line.Goals as goal

pub returns : goal.returns
returns c =
    let file = c.in_ok-arg.ensures.shape (search rules) ∙ ap₂ with_rule c.plain_command.ensures c.new.ensures.rule in
    let criteria = c.in_ok-arg-2.ensures.shape (search rules) ∙ ap₂ with_rule file c.option_of.ensures.rule in
    let model = c.in_ok-arg-3.ensures.shape (search rules) ∙ ap₂ with_rule criteria c.option_of-2.ensures.rule in
    IfOk-weaker c.arg-4.result _ _ (λ r h. h.shape (search rules) ∙ ap₂ with_rule model c.option_of-3.ensures.rule) c.arg-4.ensures
