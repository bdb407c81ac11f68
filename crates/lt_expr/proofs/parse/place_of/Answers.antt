use Rattle.std.proofs.Common.{inl, ap, ◌∙◌, get_or, length, subst, ◌<◌}
use Rattle.lt_expr.proofs.Parses.{token_place}
use Rattle.lt_expr.proofs.parse.place_of.Goals as goal

pub returns-in-Some : goal.returns-in-Some
returns-in-Some c =
    let h = c.in-Some.ensures.lookup in
    inl
    (token_place c.args.tokens.now.list.items c.args.passed c.in-Some.token.now (subst (λ xs. c.args.passed < length xs) c.as_slice.ensures.value h.3.0)
    (h.1 ∙ ap (λ xs. get_or xs c.args.passed c.in-Some.token.now) c.as_slice.ensures.value))
