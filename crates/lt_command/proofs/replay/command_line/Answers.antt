use Rattle.std.proofs.Common.{◌∙◌, ap₂, rules}
use Rattle.std.proofs.lemmas.Result.{IfOk-weaker}
use Rattle.clap.specs.Words.{with_rule}
use Rattle.lt_command.proofs.replay.command_line.Goals as goal

pub returns : goal.returns
returns c =
    let file = c.in_ok-arg.ensures.shape (search rules) ∙ ap₂ with_rule c.plain_command.ensures c.new.ensures.rule in
    let suite = c.in_ok-arg-2.ensures.shape (search rules) ∙ ap₂ with_rule file c.new-2.ensures.rule in
    let entry = c.in_ok-arg-3.ensures.shape (search rules) ∙ ap₂ with_rule suite c.option_of.ensures.rule in
    let model = c.in_ok-arg-4.ensures.shape (search rules) ∙ ap₂ with_rule entry c.option_of-2.ensures.rule in
    let char = c.in_ok-arg-5.ensures.shape (search rules) ∙ ap₂ with_rule model c.option_of-3.ensures.rule in
    let steps = c.in_ok-arg-6.ensures.shape (search rules) ∙ ap₂ with_rule char c.option_of-4.ensures.rule in
    IfOk-weaker c.arg-7.result _ _ (λ r h. h.shape (search rules) ∙ ap₂ with_rule steps c.option_of-5.ensures.rule) c.arg-7.ensures
