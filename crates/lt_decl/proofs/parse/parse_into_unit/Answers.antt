use Rattle.std.proofs.Common.{◌≡◌, map, ap, refl, ◌∙◌}
use Rattle.lt_tree.specs.Symbols.{symbols}
use Rattle.lt_lex.specs.Views.{token_of}
use Rattle.lt_expr.specs.Symbols.{shown}
use Rattle.lt_expr.specs.Parsed.{symbols_in}
use Rattle.lt_decl.proofs.parse.parse_into_unit.Goals as goal

pub returns : goal.returns
returns c =
    let are : map shown c.as_slice-2.result.now ≡ symbols_in c.args.tokens =
    ap (map shown) c.as_slice-2.ensures.value ∙ c.in_ok-symbols.ensures ∙ ap (λ ts. symbols (map token_of ts)) c.as_slice.ensures.value in
    c.unit_of_symbols.ensures c.args.tokens are refl
