use Rattle.std.proofs.Common.{◌≡◌, ◌∷◌, ap, sym, ◌∙◌, arith, true, nat_lt, min, ◌^◌, ◌*◌, ◌+◌}
use Rattle.std.proofs.lemmas.Bool.{lt-ltb}
use Rattle.lt_tree.specs.Constants.{digit, number_from}
use Rattle.lt_table.proofs.ConstantNumbers.{digit_read}
use Rattle.lt_table.proofs.constants.literals.number_from.Goals as goal

pub digits-preserved : goal.digits-preserved
digits-preserved c =
    let is_digit : nat_lt (digit c.in-Some.b.now) c.args.base ≡ true = lt-ltb _ _ (omega (arith, c.digit-d.ensures.value, c.if-d-base.false)) in
    let split : c.digits.rest.now ≡ c.in-Some.b.now ∷ c.in-Some.behind.now = c.in-Some.ensures.cases.0 in
    let read = digit_read c.args.base c.digits.value c.in-Some.b.now c.min-value.result c.in-Some.behind.now c.requires.least is_digit (c.min-value.ensures ∙ ap (λ d. min (c.args.base * c.digits.value + d) (2 ^ 64)) c.digit-d.ensures.value) in
    record {
      value = read.0 ∙ ap (λ xs. min (number_from c.args.base c.digits.value xs).0 (2 ^ 64)) (sym split) ∙ c.digits.invariant.value;
      rest = read.1 ∙ ap (λ xs. (number_from c.args.base c.digits.value xs).1) (sym split) ∙ c.digits.invariant.rest;
      cut = omega arith;
    }
