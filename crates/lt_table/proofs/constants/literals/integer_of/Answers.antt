use Rattle.std.proofs.Common.{◌∙◌, ap}
use Rattle.lt_tree.specs.Constants as texts
use Rattle.lt_tree.specs.Typing.Constants.{is_decimal, integer_of}
use Rattle.lt_table.proofs.ConstantTypes.{integer_cut_off}
use Rattle.lt_table.proofs.constants.literals.integer_of.Goals as goal

pub returns : goal.returns
returns c =
    let value = c.integer_parts-value.result.0 in
    let suffix = c.integer_parts-value.result.1.now in
    c.typed.ensures ∙ ap (λ decimal. integer_of c.args.model decimal (value, suffix)) c.is_decimal.ensures
    ∙ integer_cut_off c.args.model (is_decimal c.args.text.now) (texts.integer_parts c.args.text.now) value suffix c.integer_parts-value.ensures.value c.integer_parts-value.ensures.rest
