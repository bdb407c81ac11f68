use Rattle.std.proofs.Common.{rules, ◌∙◌}
use Rattle.lt_entry.proofs.Numbers.{digits_are_utf8, parsed_decimal, fact_from_none}
use Rattle.lt_entry.proofs.number.decimal_of.Goals as goal

pub returns-in_err-ok : goal.returns-in_err-ok
returns-in_err-ok c =
    absurd (fact_from_none c.from_utf8.result c.ok.result _ _ ⊥ c.ok.ensures.value c.in_err-ok.was c.from_utf8.ensures.cases (λ e no_text. no_text.0 (digits_are_utf8 c.args.digits.now (search rules))))

pub returns : goal.returns
returns c = c.ok-2.ensures.value ∙ parsed_decimal c.args.digits.now c.in_ok-ok.field-0.now c.parse.result (search rules) (search rules) (search rules) c.parse.ensures.value.0
